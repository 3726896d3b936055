-- The reference machine keeps what it owes its schedule.
use Rattle.std.specs.Prelude.{◌≡◌, ℕ, false, List, Some, slice_get}
use Rattle.items.specs.First.{Each}
use Rattle.link_rules.specs.declared.choice.Choice.TheVariants.{Method}
use Rattle.link_rules.specs.declared.place.MemberPlace.{MemberPlace}
use Rattle.link_rules.specs.Members.{method_number}
use Rattle.link_model.specs.declared.members.MethodInfo.{MethodInfo}
use Rattle.link_model.specs.Infos.{methods_of}
use Rattle.link_model.specs.MainMethod.{main_of}
use Rattle.link_model.specs.Methods.{choice_of}
use Rattle.link_model.specs.World.{World}
use Rattle.schedule_model.specs.Changes.{KeepsPromises}
use Rattle.ref_model.specs.Setting.{Setting}
use Rattle.ref_model.specs.State.{State}
use Rattle.ref_model.specs.Members.{is_hold}
use Rattle.ref_model.specs.Opening.{initializers, opening}
use Rattle.ref_model.specs.Starting.{run_method}
use Rattle.ref_model.specs.Looks.{machine_from}

-- a frame of the method of this number doesn't pin its thread (JEP 444)
abbrev pub IsPlain : World → ℕ → Type 0
IsPlain w n = (m : MethodInfo) → slice_get w.methods n ≡ Some m → is_hold w m ≡ false

-- No thread begins pinned: neither main, nor a class initializer, nor what is selected as the run of a thread is jvt.Native.hold.
pub record BeginsUnpinned (p : Setting) : Type 0 where
  pub main : IsPlain p.world p.main
  pub initializers : Each (IsPlain p.world) (initializers p.world.program)
  pub runs : (class run : ℕ) (at : MemberPlace) → run_method p.world ≡ Some run → choice_of p.world class run ≡ Some (Method at) →
      IsPlain p.world (method_number p.world.program at)

-- The looks of its states are looks, and steps and time change of other threads what a machine may.
abbrev pub PromisesAreKept : Type 0
PromisesAreKept = (p : Setting) (first : State) → BeginsUnpinned p → opening p ≡ Some first → KeepsPromises (machine_from p first)

-- It holds of a linked program whose main method is one of the name main (JLS 12.1.4).
abbrev pub LinkedProgramsBeginUnpinned : Type 0
LinkedProgramsBeginUnpinned = (p : Setting) (name : List ℕ) → p.world.methods ≡ methods_of p.world.program →
    main_of p.world name ≡ Some p.main → BeginsUnpinned p
