-- What linking gives the first values of fields: those of static fields (JVMS 4.7.2, 5.5), and of the states of a thread.
use Rattle.std.specs.Prelude.{◌≡◌, ℕ, [], ◌∷◌, Some, codes, map}
use Rattle.link_rules.specs.Program.{Program}
use Rattle.link_rules.specs.Faults.{Links}
use Rattle.opcodes.specs.declared.op.ValueKind.TheVariants as kinds
use Rattle.link_model.specs.World.{World, name_number}
use Rattle.link_model.specs.Worlds.{world_of}
use Rattle.instruction_rows.specs.Kinds.{kind_of}
use Rattle.ref_model.specs.Opening.{opening_statics}
use Rattle.frame_soundness.specs.StateKinds.{instance_kinds, static_kinds}
use Rattle.link_soundness.specs.Library.{HasLibrary}

-- each is of the kind of its field
abbrev pub HasStaticKinds : World → Type 0
HasStaticKinds w = map kind_of (opening_statics w.program) ≡ static_kinds w

abbrev pub LinkedStaticsFit : Type 0
LinkedStaticsFit = (p : Program) → Links p → HasLibrary p → HasStaticKinds (world_of p)

-- the states of a thread have a reference and an int, their names and their ordinals (java.lang.Enum)
abbrev pub HasStates : World → Type 0
HasStates w = (class : ℕ) → name_number w (codes "java/lang/Thread$State") ≡ Some class →
    instance_kinds w class ≡ kinds.Reference ∷ kinds.Int ∷ []

abbrev pub LinkedStatesFit : Type 0
LinkedStatesFit = (p : Program) → Links p → HasLibrary p → HasStates (world_of p)
