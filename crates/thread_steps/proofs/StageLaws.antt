-- The thread of a stage in the state that its parts and frames make, and that state where the thread alone is changed.
use Rattle.std.proofs.Common.{◌≡◌, List, [], Some, refl, ap, ◌∙◌}
use Rattle.std.specs.Prelude.{slice_get, slice_set}
use Rattle.std.proofs.lemmas.List.{set-set}
use Rattle.vthread_state.specs.declared.thread.Status.{Status}
use Rattle.vthread_state.specs.declared.thread.Status.TheVariants.{Done}
use Rattle.state_model.specs.Frames.{Frame}
use Rattle.ref_model.specs.State.{JavaThread, State, with_frames, with_status, with_thread}
use Rattle.ref_model.specs.Throwing.{finished}
use Rattle.ref_model.proofs.StateLaws.{get_set}
use Rattle.thread_steps.specs.declared.parts.Parts.{Parts}
use Rattle.thread_steps.specs.States.{Stage, own_thread, state_of}

-- it is there
pub own_at : (stage : Stage) (a : Parts) (frames : List Frame) → slice_get (state_of stage a frames).threads stage.number ≡ Some (own_thread stage a frames)
own_at stage a frames = get_set stage.state.threads stage.number stage.thread (own_thread stage a frames) stage.there

-- any change of it
own_changed : (stage : Stage) (a b : Parts) (frames after : List Frame) (change : JavaThread → JavaThread) → change (own_thread stage a frames) ≡ own_thread stage b after
    → with_thread (state_of stage a frames) stage.number change ≡ record (state_of stage a frames) { threads = slice_set stage.state.threads stage.number (own_thread stage b after) }
own_changed stage a b frames after change same =
    let r : State = state_of stage a frames in
    let found : with_thread r stage.number change ≡ record r { threads = slice_set r.threads stage.number (change (own_thread stage a frames)) } = rw (own_at stage a frames) refl in
    found
    ∙ ap (λ (ts : List JavaThread). record r { threads = ts }) (set-set stage.state.threads stage.number (own_thread stage a frames) (change (own_thread stage a frames)))
    ∙ ap (λ (x : JavaThread). record r { threads = slice_set stage.state.threads stage.number x }) same

-- other frames
pub own_frames : (stage : Stage) (a : Parts) (frames after : List Frame) → with_frames (state_of stage a frames) stage.number after ≡ state_of stage a after
own_frames stage a frames after = own_changed stage a a frames after (λ thread. record thread { frames = after }) refl

-- another status
pub own_status : (stage : Stage) (a : Parts) (frames : List Frame) (status : Status) → with_status (state_of stage a frames) stage.number status ≡ state_of stage (record a { status = status }) frames
own_status stage a frames status =
    own_changed stage a (record a { status = status }) frames frames (λ thread. record thread { thread = record thread.thread { status = status } }) refl

-- it is done
pub own_finished : (stage : Stage) (a : Parts) (frames : List Frame) → finished (state_of stage a frames) stage.number ≡ state_of stage (record a { status = Done }) []
own_finished stage a frames =
    own_changed stage a (record a { status = Done }) frames [] (λ thread. record thread { thread = record thread.thread { status = Done }; frames = [] }) refl
