-- A thread that asked goes on.
use Rattle.std.proofs.Common.{◌≡◌, ℕ, ◌≤◌, Bool, true, false, List, [], ◌∷◌, length, drop, Option, Some, None, refl, ap, sym, subst, ◌∙◌, arith, length-drop}
use Rattle.std.specs.Prelude.{slice_get, slice_set, nat_le, if◌then◌else◌}
use Rattle.std.specs.Option.{option_map}
use Rattle.std.proofs.lemmas.Bool.{le-leb}
use Rattle.items.specs.Options.{◌>>=◌}
use Rattle.items.proofs.Binds.{bind_is}
use Rattle.instruction_rows.specs.SlotEffect.{pushed}
use Rattle.instruction_rows.specs.declared.value.Slot.{Slot}
use Rattle.instruction_rows.specs.declared.value.Value.{Value}
use Rattle.state_model.specs.Frames.{Frame}
use Rattle.continuation.specs.Continuation.{Continuation}
use Rattle.frames.specs.Frames.{at_pc, top_room, top_stack, with_stack}
use Rattle.ref_model.specs.Effects.{Effect, done, gives}
use Rattle.ref_model.specs.Frames.{behind}
use Rattle.ref_model.specs.Memory.{Memory}
use Rattle.ref_model.specs.State.{JavaThread, State, with_frames}
use Rattle.ref_model.proofs.StateLaws.{frames_is}
use Rattle.heap_instructions.specs.declared.outcome.Outcome.TheVariants as outcomes
use Rattle.heap_instructions.specs.Operands.{operands, ChangesOperands, HasTop}
use Rattle.heap_instructions.specs.Outcomes.{IsGiven}
use Rattle.thread_steps.specs.declared.progress.PendingRequest.{PendingRequest}
use Rattle.ref_run.specs.GoingOn.{GoesOn, GoesOnWith, GoesOnWithout}
use Rattle.ref_run.specs.States.{frames_of}

-- ---- the frames in the code

pub went_without : (q : PendingRequest) (m n : Continuation) (after : List Frame) → HasTop m → operands n ≡ drop q.operands (operands m) → ChangesOperands m n → after ≡ at_pc q.next n.stack.frames
    → GoesOnWithout q m.stack.frames after
went_without q m n after top left only pc =
    record {
      room = omega (arith, length-drop q.operands (operands m), top.held);
      frames = pc ∙ ap (at_pc q.next) (only.frames ∙ ap (λ s. with_stack s m.stack.frames) left);
    }

no_memory : Memory
no_memory = record { heap = []; room = 0; statics = []; out = []; err = []; exited = None }

same_stack : (r s : Memory) (x y : List Slot) → ◌≡◌ {A = Option Effect} (Some (done r x)) (Some (done s y)) → x ≡ y
same_stack r s x y e = cc

room_same : (frames : List Frame) (stack : List Slot) → top_room (with_stack stack frames) ≡ top_room frames
room_same [] stack = refl
room_same (f ∷ below) stack = refl

pub went_with : (q : PendingRequest) (v : Value) (m n : Continuation) (after : List Frame) → IsGiven q.operands v m n outcomes.Done → ChangesOperands m n
    → length (top_stack n.stack.frames) ≤ top_room n.stack.frames → after ≡ at_pc q.next n.stack.frames → GoesOnWith q v m.stack.frames after
went_with q v m n after given only held pc =
    let stack : List Slot = pushed v (drop q.operands (operands m)) in
    let now : stack ≡ operands n = same_stack no_memory no_memory stack (operands n) (given no_memory (Some (gives no_memory v (drop q.operands (operands m)))) refl) in
    let frames : n.stack.frames ≡ with_stack stack m.stack.frames = only.frames ∙ ap (λ s. with_stack s m.stack.frames) (sym now) in
    record {
      room = subst (λ s. length s ≤ top_room m.stack.frames) (sym now)
          (subst (λ k. length (operands n) ≤ k) (ap top_room only.frames ∙ room_same m.stack.frames (operands n)) held);
      frames = pc ∙ ap (at_pc q.next) frames;
    }

-- ---- the state

-- a frame goes on, where its operand stack has room
behind_is : (f : Frame) (next : ℕ) (stack : List Slot) → length stack ≤ f.room → behind f next stack ≡ Some (record f { pc = next; stack = stack })
behind_is f next stack held = by (nat_le (length stack) f.room) (le-leb (length stack) f.room held)
  where
    by : (b : Bool) → b ≡ true → (if b then Some (record f { pc = next; locals = f.locals; stack = stack }) else None) ≡ Some (record f { pc = next; stack = stack })
    by true e = refl
    by false e = absurd cc

-- the frames of a thread that is there
pub frames_at : (r : State) (t : ℕ) (x : JavaThread) (frames : List Frame) → slice_get r.threads t ≡ Some x → frames_of r t ≡ Some frames → x.frames ≡ frames
frames_at r t x frames at has =
    inside (ap (λ o. option_map (λ (y : JavaThread). y.frames) o) (sym at) ∙ has)
  where
    inside : {a b : List Frame} → ◌≡◌ {A = Option (List Frame)} (Some a) (Some b) → a ≡ b
    inside e = cc

-- Thread t goes on with this operand stack.
pub gone_on : (r : State) (t next : ℕ) (x : JavaThread) (f : Frame) (below after : List Frame) (stack : List Slot) → slice_get r.threads t ≡ Some x → x.frames ≡ f ∷ below
    → GoesOn next stack x.frames after
    → (behind f next stack >>= λ g. Some (with_frames r t (g ∷ below))) ≡ Some (record r { threads = slice_set r.threads t (record x { frames = after }) })
gone_on r t next x f below after stack at top goes =
    let g : Frame = record f { pc = next; stack = stack } in
    let last : after ≡ g ∷ below = goes.frames ∙ ap (λ fs. at_pc next (with_stack stack fs)) top in
    let room : length stack ≤ f.room = subst (λ fs. length stack ≤ top_room fs) top goes.room in
    bind_is (behind f next stack) (λ g. Some (with_frames r t (g ∷ below))) g (Some (record r { threads = slice_set r.threads t (record x { frames = after }) }))
    (behind_is f next stack room)
    (ap (λ (s : State). Some s) (frames_is r t x (g ∷ below) at) ∙ ap (λ fs. Some (record r { threads = slice_set r.threads t (record x { frames = fs }) })) (sym last))

left_operands : (q : PendingRequest) (before : List Frame) (f : Frame) (below : List Frame) → before ≡ f ∷ below → drop q.operands (top_stack before) ≡ drop q.operands f.stack
left_operands q before f below top = ap (λ fs. drop q.operands (top_stack fs)) top

-- So it does without what the request takes.
pub gone_without : (r : State) (t : ℕ) (q : PendingRequest) (x : JavaThread) (f : Frame) (below after : List Frame) → slice_get r.threads t ≡ Some x → frames_of r t ≡ Some (f ∷ below)
    → GoesOnWithout q x.frames after
    → (behind f q.next (drop q.operands f.stack) >>= λ g. Some (with_frames r t (g ∷ below))) ≡ Some (record r { threads = slice_set r.threads t (record x { frames = after }) })
gone_without r t q x f below after at has goes =
    let top = frames_at r t x (f ∷ below) at has in
    gone_on r t q.next x f below after (drop q.operands f.stack) at top (subst (λ s. GoesOn q.next s x.frames after) (left_operands q x.frames f below top) goes)

-- the same with a value in its place
pub gone_with : (r : State) (t : ℕ) (q : PendingRequest) (v : Value) (x : JavaThread) (f : Frame) (below after : List Frame) → slice_get r.threads t ≡ Some x → frames_of r t ≡ Some (f ∷ below)
    → GoesOnWith q v x.frames after
    → (behind f q.next (pushed v (drop q.operands f.stack)) >>= λ g. Some (with_frames r t (g ∷ below))) ≡ Some (record r { threads = slice_set r.threads t (record x { frames = after }) })
gone_with r t q v x f below after at has goes =
    let top = frames_at r t x (f ∷ below) at has in
    gone_on r t q.next x f below after (pushed v (drop q.operands f.stack)) at top
    (subst (λ s. GoesOn q.next (pushed v s) x.frames after) (left_operands q x.frames f below top) goes)
