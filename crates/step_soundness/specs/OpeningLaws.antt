-- The opening state keeps to the typing, by facts that can be tested when a program begins.
use Rattle.std.specs.Prelude.{◌≡◌, ℕ, true, List, [], ◌∷◌, Some, codes, map, slice_get}
use Rattle.items.specs.First.{Each}
use Rattle.class_model.specs.declared.access_flags.TheConstants.{ACC_STATIC}
use Rattle.link_rules.specs.Program.{Program, has_flag}
use Rattle.opcodes.specs.declared.op.ValueKind.TheVariants as kinds
use Rattle.instruction_rows.specs.Kinds.{kind_of}
use Rattle.link_model.specs.declared.members.MethodInfo.{MethodInfo}
use Rattle.link_model.specs.World.{World, name_number}
use Rattle.link_model.specs.Infos.{methods_of}
use Rattle.link_model.specs.MainMethod.{takes_strings, main_of}
use Rattle.link_model.specs.Worlds.{world_of}
use Rattle.ref_model.specs.Setting.{Setting}
use Rattle.ref_model.specs.Members.{is_initializer}
use Rattle.ref_model.specs.State.{State}
use Rattle.ref_model.specs.Opening.{opening_statics, initializers, opening}
use Rattle.frame_soundness.specs.StateKinds.{instance_kinds, static_kinds}
use Rattle.frame_soundness.specs.TypedStates.{IsTypedState}
use Rattle.frame_soundness.specs.EventLaws.{HasDimensions}
use Rattle.frame_soundness.specs.StepKinds.{IsLinkedWorld}

-- the method of this number is static, and takes an array of Strings (JLS 12.1.4)
pub record IsMain (w : World) (n : ℕ) : Type 0 where
  pub method : MethodInfo
  pub at : slice_get w.methods n ≡ Some method
  pub flag : has_flag ACC_STATIC method.flags ≡ true
  pub takes : takes_strings method.signature.args ≡ true

-- it is a static class initializer, and takes nothing (JVMS 2.9.2)
pub record IsClassInitializer (w : World) (n : ℕ) : Type 0 where
  pub method : MethodInfo
  pub at : slice_get w.methods n ≡ Some method
  pub is : is_initializer method ≡ true
  pub flag : has_flag ACC_STATIC method.flags ≡ true
  pub takes : method.signature.args ≡ []

pub record IsOpening (p : Setting) : Type 0 where
  -- the states of a thread have a reference and an int, their names and their ordinals
  pub states : (class : ℕ) → name_number p.world (codes "java/lang/Thread$State") ≡ Some class →
      instance_kinds p.world class ≡ kinds.Reference ∷ kinds.Int ∷ []
  pub statics : map kind_of (opening_statics p.world.program) ≡ static_kinds p.world
  pub main : IsMain p.world p.main
  pub initializers : Each (IsClassInitializer p.world) (initializers p.world.program)

-- The state in which a program begins keeps to the typing.
abbrev pub OpeningIsTyped : Type 0
OpeningIsTyped = (p : Setting) (r : State) → IsLinkedWorld p.world → IsOpening p → opening p ≡ Some r → IsTypedState p.world r

-- ---- what needs no test

-- the array types of a linked world
abbrev pub DimensionsAreThere : Type 0
DimensionsAreThere = (p : Program) → HasDimensions (world_of p)

-- the main method that is found
abbrev pub MainIsFound : Type 0
MainIsFound = (w : World) (name : List ℕ) (n : ℕ) → main_of w name ≡ Some n → IsMain w n

abbrev pub InitializersAreSuch : Type 0
InitializersAreSuch = (w : World) → w.methods ≡ methods_of w.program → Each (IsClassInitializer w) (initializers w.program)
