-- The state of a replay as a stage of one of its threads.
use Rattle.std.proofs.Common.{◌≡◌, ℕ, List, Some, refl, ap, sym, ◌∙◌}
use Rattle.std.specs.Prelude.{slice_get, slice_set}
use Rattle.std.specs.Option.{option_map_or}
use Rattle.link_model.specs.World.{World}
use Rattle.state_model.specs.Frames.{Frame}
use Rattle.ref_model.specs.declared.exception.Exception.{Exception}
use Rattle.ref_model.specs.State.{JavaThread, State, with_status, with_thread}
use Rattle.ref_model.specs.Throwing.{raised}
use Rattle.ref_model.proofs.StateLaws.{set_same}
use Rattle.thread_steps.specs.declared.parts.Parts.{Parts}
use Rattle.thread_steps.specs.Concluding.{Raises}
use Rattle.thread_steps.specs.States as stages
use Rattle.thread_steps.specs.States.{Stage, memory_of, own_thread}
use Rattle.ref_run.specs.declared.state.RefState.{RefState}
use Rattle.ref_run.specs.States.{state_of}

-- a state in which a thread was changed
pub thread_is : (r : State) (t : ℕ) (change : JavaThread → JavaThread) (x : JavaThread) → slice_get r.threads t ≡ Some x
    → with_thread r t change ≡ record r { threads = slice_set r.threads t (change x) }
thread_is r t change x at = ap (λ o. option_map_or (λ z. record r { threads = slice_set r.threads t (change z) }) o r) at

abbrev pub stage_of : (r : State) (t : ℕ) (x : JavaThread) → slice_get r.threads t ≡ Some x → Stage
stage_of r t x at = record { state = r; number = t; thread = x; there = at }

-- the parts of the state, with the status of the thread
pub stage_is : (a : RefState) (t : ℕ) (x : JavaThread) (at : slice_get a.threads.items t ≡ Some x) (frames : List Frame) → frames ≡ x.frames
    → stages.state_of (stage_of (state_of a) t x at) (record a.memory { status = x.thread.status }) frames ≡ state_of a
stage_is a t x at frames same =
    let own : own_thread (stage_of (state_of a) t x at) (record a.memory { status = x.thread.status }) frames ≡ x = λ i. record x { frames = same i } in
    ap (λ (ts : List JavaThread). record (state_of a) { threads = ts }) (ap (slice_set a.threads.items t) own ∙ set_same a.threads.items t x at)

-- An exception was thrown, and its thread has the status that this left.
pub thrown : (w : World) (e : Exception) (t : ℕ) (a new : RefState) (x : JavaThread) (b : Parts) → slice_get a.threads.items t ≡ Some x
    → Raises w e (record a.memory { status = x.thread.status }) b → state_of new ≡ with_status (state_of (record a { memory = b })) t b.status
    → raised w (state_of a) t e ≡ Some (state_of new)
thrown w e t a new x b at raises set =
    ap (λ (r : State). raised w r t e) (sym (stage_is a t x at x.frames refl)) ∙ raises (stage_of (state_of a) t x at) x.frames
    ∙ ap (λ (r : State). Some r)
    (sym (set ∙ thread_is (state_of (record a { memory = b })) t (λ thread. record thread { thread = record thread.thread { status = b.status } }) x at))
