-- Typed frames after each legal history.
use Rattle.std.proofs.Common.{◌≡◌, ℕ, List, Some, refl}
use Rattle.history.specs.declared.entry.Entry.{Entry}
use Rattle.history.specs.Java.{java}
use Rattle.link_model.specs.Worlds.{world_of}
use Rattle.schedule_model.specs.Run.{Scheduled, schedule_of}
use Rattle.schedule_model.specs.Changes.{IsReached}
use Rattle.schedule_model.proofs.RunLaws.{runs_without_carriers}
use Rattle.ref_model.specs.Setting.{Setting}
use Rattle.ref_model.specs.State.{State}
use Rattle.ref_model.specs.Looks.{machine_from}
use Rattle.frame_soundness.specs.TypedStates.{IsTypedState}
use Rattle.step_soundness.specs.Resolutions.{IsStepResolution}
use Rattle.step_soundness.proofs.LinkedWorlds.{dimensions_are_there, initializers_are_such}
use Rattle.step_soundness.proofs.Openings.{opening_is_typed}
use Rattle.step_soundness.proofs.StateChanges.{time_keeps}
use Rattle.step_soundness.proofs.Starts.{runs_are_such}
use Rattle.step_soundness.proofs.Steps.{running_is_typed, step_keeps}
use Rattle.link_soundness.proofs.FieldNumbers.{linked_fields_have_kinds}
use Rattle.link_soundness.proofs.States.{linked_states_fit}
use Rattle.link_soundness.proofs.Statics.{linked_statics_fit}
use Rattle.link_soundness.proofs.Steps.{linked_code_is_named}
use Rattle.schedule_soundness.specs.TypedLaws.{HistoriesAreTyped, FramesAreTyped, LinkedProgramsAreSuch}
use Rattle.schedule_soundness.proofs.Reached.{reached_holds}

-- the state after a legal history is one that steps and ticks lead to
pub is_reached : (p : Setting) (first : State) (carriers : ℕ) (history : List Entry) (v : Scheduled State)
    → schedule_of (machine_from p first) carriers history ≡ Some v → IsReached (machine_from p first) v.state
is_reached p first carriers history v e = (java history, runs_without_carriers (machine_from p first) carriers history v e)

pub histories_are_typed : HistoriesAreTyped
histories_are_typed p first carriers history v is begins e =
    let lies : (r : State) (t : ℕ) → IsStepResolution p.world r t =
    λ r t. record { top = λ f below at. is.named r.memory f; runs = is.runs } in
    reached_holds p first (IsTypedState p.world) (λ r q t pick typed e. step_keeps p r q t pick is.linked typed (lies r t) e)
    (λ r q now typed e. time_keeps p.world r q now typed e) (opening_is_typed p first is.linked is.begins begins) v.state
    (is_reached p first carriers history v e)

pub frames_are_typed : FramesAreTyped
frames_are_typed p first carriers history v t frames is begins e at =
    running_is_typed p.world v.state t frames (histories_are_typed p first carriers history v is begins e) at

pub linked_programs_are_such : LinkedProgramsAreSuch
linked_programs_are_such program main limits links has typed is =
    let w = world_of program in
    record {
      linked = record { typed = typed; fields = linked_fields_have_kinds program links; arrays = dimensions_are_there program };
      begins = record {
        states = linked_states_fit program links has;
        statics = linked_statics_fit program links has;
        main = is;
        initializers = initializers_are_such w refl;
      };
      named = linked_code_is_named program links has;
      runs = runs_are_such w refl;
    }
