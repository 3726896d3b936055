-- What linking and typing give the methods with which a program begins (JVMS 2.9.2, 4.6, 4.7.3, JLS 12.1.4).
use Rattle.std.specs.Prelude.{◌≡◌, ◌<◌, ℕ, Some}
use Rattle.items.specs.First.{Each}
use Rattle.link_rules.specs.Program.{Program}
use Rattle.link_rules.specs.Faults.{Links}
use Rattle.link_model.specs.declared.members.MethodCode.{MethodCode}
use Rattle.link_model.specs.Decoded.{code_at}
use Rattle.link_model.specs.World.{World}
use Rattle.link_model.specs.Worlds.{world_of}
use Rattle.verify_types.specs.Typing.{AreTyped}
use Rattle.ref_model.specs.Opening.{initializers}
use Rattle.step_soundness.specs.OpeningLaws.{IsMain}
use Rattle.link_soundness.specs.Library.{HasLibrary}

-- the method of this number has code
abbrev pub HasCode : World → ℕ → Type 0
HasCode w n = (code : MethodCode) × (code_at w n ≡ Some code)

-- and a local variable at least
abbrev pub HasLocals : World → ℕ → Type 0
HasLocals w n = (code : MethodCode) × (code_at w n ≡ Some code) × (0 < code.max_locals)

pub record MayBegin (w : World) : Type 0 where
  pub main : (n : ℕ) → IsMain w n → HasLocals w n
  pub initializers : Each (HasCode w) (initializers w.program)

abbrev pub LinkedProgramsBegin : Type 0
LinkedProgramsBegin = (p : Program) → Links p → HasLibrary p → AreTyped (world_of p) → MayBegin (world_of p)
