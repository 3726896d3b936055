-- From the outcome of an instruction on fields, arrays or objects, or of a division by 0, to the step of its thread.
use Rattle.std.proofs.Common.{◌≡◌, ℕ, ◌≤◌, true, false, Bool, List, ◌∷◌, length, Option, Some, None, refl, ap, sym, ◌∙◌, subst}
use Rattle.std.specs.Prelude.{nat_le, if◌then◌else◌}
use Rattle.std.proofs.lemmas.Bool.{le-leb}
use Rattle.items.specs.Options.{◌>>=◌}
use Rattle.items.proofs.Binds.{bind_is}
use Rattle.instruction_rows.specs.declared.value.Slot.{Slot}
use Rattle.instruction_rows.specs.Rows.{Row, LocalRow, int, long, local, constant, wide_constant, returns, invoke, event, refused}
use Rattle.instruction_rows.specs.SlotEffect.{divides_by_zero}
use Rattle.instruction_rows.specs.Table.{row as row_of}
use Rattle.instruction_rows.proofs.DivisionLaws.{undefined_by_zero}
use Rattle.link_model.specs.World.{World}
use Rattle.verify_types.specs.Environment.{Instruction}
use Rattle.state_model.specs.Frames.{Frame}
use Rattle.std.specs.Vec.{with_items}
use Rattle.std.proofs.lemmas.List.{with_items_is}
use Rattle.instruction_rows.specs.declared.value.Value.{Value}
use Rattle.heap_objs.specs.Heap.{Heap}
use Rattle.continuation.specs.Continuation.{Continuation}
use Rattle.frames.specs.Frames.{at_pc, with_stack, top_stack, top_room}
use Rattle.ref_model.specs.Memory.{Memory}
use Rattle.ref_model.specs.State.{State, with_memory, with_frames}
use Rattle.ref_model.specs.Fetch.{fetched}
use Rattle.ref_model.specs.Frames.{behind, contents, moved}
use Rattle.ref_model.specs.LocalRows.{local_act}
use Rattle.ref_model.specs.declared.exception.Exception.TheVariants as exceptions
use Rattle.ref_model.specs.Effects.{Effect, done, throws, throws_object}
use Rattle.ref_model.specs.Throwing.{raised, throwing}
use Rattle.ref_model.specs.Step.{after_effect, division_effect}
use Rattle.heap_instructions.specs.declared.outcome.Outcome.{Outcome}
use Rattle.heap_instructions.specs.declared.outcome.Outcome.TheVariants.{Done, Throws, ThrowsObject, Asks, Undefined}
use Rattle.heap_instructions.specs.Outcomes.{IsEffect, KeptUnlessDone, with_heap, with_statics}
use Rattle.heap_instructions.specs.Operands.{operands}
use Rattle.heap_instructions.specs.Dispatch as events
use Rattle.thread_steps.specs.declared.parts.Parts.{Parts}
use Rattle.thread_steps.specs.States.{Stage, memory_of, state_of}
use Rattle.thread_steps.specs.Concluding.{Concludes, EndsOtherwise, IsQuietStep, Leads, Steps}
use Rattle.thread_steps.proofs.StageLaws.{own_frames}
use Rattle.thread_steps.proofs.StepLaws.{effect_step, event_is_run, no_row, quiet_effect}

-- ---- what is concluded from an effect

-- an outcome that isn't done changes no frame
pub ended_otherwise : (w : World) (next : ℕ) (outcome : Outcome) (a b : Parts) (frames : List Frame) → EndsOtherwise w outcome a b → Concludes w next outcome a frames b frames
ended_otherwise w next Done a b frames is = absurd is
ended_otherwise w next (Throws e) a b frames is = (is, refl)
ended_otherwise w next (ThrowsObject o) a b frames is = (is, refl)
ended_otherwise w next (Asks asked count) a b frames is = absurd is
ended_otherwise w next Undefined a b frames is = absurd is

-- the frame goes on, where its operand stack has room
goes_on : (f : Frame) (next : ℕ) (stack : List Slot) → length stack ≤ f.room → behind f next stack ≡ Some (record f { pc = next; stack = stack })
goes_on f next stack held = by (nat_le (length stack) f.room) (le-leb (length stack) f.room held)
  where
    by : (b : Bool) → b ≡ true → (if b then Some (record f { pc = next; locals = f.locals; stack = stack }) else None) ≡ Some (record f { pc = next; stack = stack })
    by true e = refl
    by false e = absurd cc

-- the parts differ in the memory alone
abbrev pub HasSameThread : Parts → Parts → Type 0
HasSameThread a mid = (stage : Stage) (frames : List Frame) → with_memory (state_of stage a frames) (memory_of mid) ≡ state_of stage mid frames

-- and not in the memory either
same_state : (stage : Stage) (a mid : Parts) (frames : List Frame) → HasSameThread a mid → memory_of mid ≡ memory_of a → state_of stage a frames ≡ state_of stage mid frames
same_state stage a mid frames thread same = ap (with_memory (state_of stage a frames)) (sym same) ∙ thread stage frames

-- An outcome, with the parts and frames that it left, and what was concluded from it.
pub concluded : (w : World) (stage : Stage) (a mid b : Parts) (f : Frame) (below left after : List Frame) (stack : List Slot) (next : ℕ) (o : Outcome) (effect : Option Effect)
    → HasSameThread a mid → IsEffect f.room o effect (memory_of mid) stack → length stack ≤ f.room → left ≡ with_stack stack (f ∷ below)
    → KeptUnlessDone o (memory_of a) (memory_of mid) → KeptUnlessDone o (f ∷ below) left → Concludes w next o mid left b after → Leads w stage a b f below after next effect
concluded w stage a mid b f below left after stack next Done effect thread is held frames kept same ends =
    let t = stage.number in
    let g : Frame = record f { pc = next; stack = stack } in
    let q : Option State = Some (state_of stage mid (g ∷ below)) in
    let r : State = with_memory (state_of stage a (f ∷ below)) (memory_of mid) in
    let goes : after_effect w (state_of stage a (f ∷ below)) t next f below (done (memory_of mid) stack) ≡ q =
    bind_is (behind f next stack) (λ x. Some (with_frames r t (x ∷ below))) g q (goes_on f next stack held)
    (ap (λ (s : State). Some (with_frames s t (g ∷ below))) (thread stage (f ∷ below)) ∙ ap (λ (s : State). Some s) (own_frames stage mid (f ∷ below) (g ∷ below))) in
    let top : after ≡ g ∷ below = ends.1 ∙ ap (at_pc next) frames in
    record {
      effect_is = done (memory_of mid) stack;
      is = is;
      quiet = refl;
      leads = goes ∙ ap (λ (fs : List Frame). Some (state_of stage mid fs)) (sym top) ∙ ap (λ (p : Parts). Some (state_of stage p after)) (sym ends.0);
    }
concluded w stage a mid b f below left after stack next (Throws e) effect thread is held frames kept same ends =
    let t = stage.number in
    let before : raised w (state_of stage a (f ∷ below)) t e ≡ raised w (state_of stage mid left) t e =
    ap (λ (r : State). raised w r t e) (same_state stage a mid (f ∷ below) thread kept) ∙ ap (λ (fs : List Frame). raised w (state_of stage mid fs) t e) (sym same) in
    record { effect_is = throws e; is = is; quiet = refl; leads = before ∙ ends.0 stage left ∙ ap (λ (fs : List Frame). Some (state_of stage b fs)) (sym ends.1) }
concluded w stage a mid b f below left after stack next (ThrowsObject n) effect thread is held frames kept same ends =
    let t = stage.number in
    let before : throwing (state_of stage a (f ∷ below)) t n ≡ throwing (state_of stage mid left) t n =
    ap (λ (r : State). throwing r t n) (same_state stage a mid (f ∷ below) thread kept) ∙ ap (λ (fs : List Frame). throwing (state_of stage mid fs) t n) (sym same) in
    record { effect_is = throws_object n; is = is; quiet = refl; leads = ap Some (before ∙ ends.0 stage left ∙ ap (state_of stage b) (sym ends.1)) }
concluded w stage a mid b f below left after stack next (Asks asked count) effect thread is held frames kept same ends = absurd ends.0
concluded w stage a mid b f below left after stack next Undefined effect thread is held frames kept same ends = absurd ends.0

-- ---- the instructions on fields, arrays and objects, and divisions by 0

-- a division looks at operands alone
divides_same : (act : LocalRow) (f : Frame) → divides_by_zero act (contents f) ≡ divides_by_zero act (contents (events.frame_with f.stack))
divides_same (int takes g) f = refl
divides_same (long takes g) f = refl
divides_same act f = refl

-- it has an effect only by 0
by_zero : (b : Bool) (x : Effect) → (if b then Some (throws exceptions.ArithmeticException) else None) ≡ Some x → b ≡ true
by_zero true x e = refl
by_zero false x e = absurd cc

division_stepped : (w : World) (i : Instruction) (act : LocalRow) (stage : Stage) (a b : Parts) (f : Frame) (below after : List Frame) → fetched w f ≡ Some i → row_of i.instr.op ≡ local act
    → Leads w stage a b f below after i.instr.next (division_effect act (events.frame_with f.stack)) → IsQuietStep w stage.number (state_of stage a (f ∷ below)) (f ∷ below) (state_of stage b after)
division_stepped w i act stage a b f below after at row x =
    let zero : divides_by_zero act (contents f) ≡ true = divides_same act f ∙ by_zero (divides_by_zero act (contents (events.frame_with f.stack))) x.effect_is x.is in
    let no : local_act w i (local act) f below ≡ None = ap (λ o. o >>= λ m. moved f i.instr.next m >>= λ g. Some (g ∷ below)) (undefined_by_zero act (contents f) zero) in
    let effect : division_effect act f ≡ Some x.effect_is = ap (λ (z : Bool). if z then Some (throws exceptions.ArithmeticException) else None) (divides_same act f) ∙ x.is in
    record {
      step = event_is_run w (state_of stage a (f ∷ below)) (state_of stage b after) stage.number (f ∷ below) (no_row w i (local act) f below at row no)
          (effect_step w i (local act) (state_of stage a (f ∷ below)) (state_of stage b after) stage.number f below x.effect_is at row tt effect x.leads);
      quiet = quiet_effect w i (local act) (memory_of a) f below x.effect_is at row effect x.quiet;
    }

pub event_stepped : (w : World) (i : Instruction) (stage : Stage) (a mid b : Parts) (f : Frame) (below left after : List Frame) (stack : List Slot) (o : Outcome) → fetched w f ≡ Some i
    → HasSameThread a mid → IsEffect f.room o (events.row_effect w i.resolution (row_of i.instr.op) (memory_of a) f.stack) (memory_of mid) stack → length stack ≤ f.room → left ≡ with_stack stack (f ∷ below)
    → KeptUnlessDone o (memory_of a) (memory_of mid) → KeptUnlessDone o (f ∷ below) left → Concludes w i.instr.next o mid left b after → IsQuietStep w stage.number (state_of stage a (f ∷ below)) (f ∷ below) (state_of stage b after)
event_stepped w i stage a mid b f below left after stack o at thread is held frames kept same ends = by (row_of i.instr.op) refl (concluded w stage a mid b f below left after stack i.instr.next o _ thread is held frames kept same ends)
  where
    by : (act : Row) → row_of i.instr.op ≡ act → Leads w stage a b f below after i.instr.next (events.row_effect w i.resolution act (memory_of a) f.stack) → IsQuietStep w stage.number (state_of stage a (f ∷ below)) (f ∷ below) (state_of stage b after)
    by (event e) row x =
        record {
          step = event_is_run w (state_of stage a (f ∷ below)) (state_of stage b after) stage.number (f ∷ below) (no_row w i (event e) f below at row refl)
              (effect_step w i (event e) (state_of stage a (f ∷ below)) (state_of stage b after) stage.number f below x.effect_is at row tt x.is x.leads);
          quiet = quiet_effect w i (event e) (memory_of a) f below x.effect_is at row x.is x.quiet;
        }
    by (local act) row x = division_stepped w i act stage a b f below after at row x
    by (constant index) row x = absurd (let e = x.is in cc)
    by (wide_constant index) row x = absurd (let e = x.is in cc)
    by (returns kind) row x = absurd (let e = x.is in cc)
    by (invoke invocation index) row x = absurd (let e = x.is in cc)
    by refused row x = absurd (let e = x.is in cc)

-- ---- the instruction as the code runs it

-- the parts with another heap and other static fields
abbrev pub with_values : Parts → Heap → List Value → Parts
with_values a h statics = record a { natives = record a.natives { heap = h }; statics = with_items a.statics statics }

-- the memory with them
pub valued : (a : Parts) (h : Heap) (statics : List Value) → length statics ≡ a.statics.len → memory_of (with_values a h statics) ≡ with_heap h (with_statics statics (memory_of a))
valued a h statics size = ap (λ (s : List Value). with_heap h (with_statics s (memory_of a))) (with_items_is a.statics statics size)

-- the memory stays, where they are the old ones
values_kept : (a : Parts) (h : Heap) (statics : List Value) (o : Outcome) → length statics ≡ a.statics.len → KeptUnlessDone o a.natives.heap h → KeptUnlessDone o a.statics.items statics
    → KeptUnlessDone o (memory_of a) (memory_of (with_values a h statics))
values_kept a h statics o size heap values = by o heap values
  where
    same : h ≡ a.natives.heap → statics ≡ a.statics.items → memory_of (with_values a h statics) ≡ memory_of a
    same x y = valued a h statics size ∙ ap (λ (g : Heap). with_heap g (with_statics statics (memory_of a))) x ∙ ap (λ (s : List Value). with_statics s (memory_of a)) y

    by : (o : Outcome) → KeptUnlessDone o a.natives.heap h → KeptUnlessDone o a.statics.items statics → KeptUnlessDone o (memory_of a) (memory_of (with_values a h statics))
    by Done x y = tt
    by (Throws e) x y = same x y
    by (ThrowsObject n) x y = same x y
    by (Asks asked count) x y = same x y
    by Undefined x y = same x y

-- where the thread stays, its frames do
pub frames_kept : (m next : Continuation) (frames : List Frame) (o : Outcome) → m.stack.frames ≡ frames → KeptUnlessDone o m next → KeptUnlessDone o frames next.stack.frames
frames_kept m next frames o top kept = by o kept
  where
    same : next ≡ m → next.stack.frames ≡ frames
    same x = ap (λ (n : Continuation). n.stack.frames) x ∙ top

    by : (o : Outcome) → KeptUnlessDone o m next → KeptUnlessDone o frames next.stack.frames
    by Done x = tt
    by (Throws e) x = same x
    by (ThrowsObject n) x = same x
    by (Asks asked count) x = same x
    by Undefined x = same x

pub event_done : (w : World) (i : Instruction) (a b : Parts) (h : Heap) (given statics : List Value) (m next : Continuation) (after : List Frame) (o : Outcome) → length statics ≡ a.statics.len → given ≡ a.statics.items
    → events.IsRun w i.resolution (row_of i.instr.op) a.natives.heap h given statics m next o → length (top_stack next.stack.frames) ≤ top_room next.stack.frames
    → Concludes w i.instr.next o (with_values a h statics) next.stack.frames b after → Steps w i a m.stack.frames b after
event_done w i a b h given statics m next after o size same ran held ends stage f below top at =
    let frames : next.stack.frames ≡ with_stack (operands next) (f ∷ below) = ran.only.frames ∙ ap (with_stack (operands next)) top in
    let room : top_room next.stack.frames ≡ f.room = ap top_room frames in
    let left = valued a h statics size in
    let effect = subst (λ (q : Memory). IsEffect (top_room m.stack.frames) o (events.row_effect w i.resolution (row_of i.instr.op) (with_heap a.natives.heap (with_statics given (memory_of a))) (operands m)) q (operands next)) (sym left) (ran.effect (memory_of a)) in
    let first : events.row_effect w i.resolution (row_of i.instr.op) (with_heap a.natives.heap (with_statics given (memory_of a))) (operands m) ≡ events.row_effect w i.resolution (row_of i.instr.op) (memory_of a) f.stack =
    ap (λ (s : List Value). events.row_effect w i.resolution (row_of i.instr.op) (with_statics s (memory_of a)) (operands m)) same ∙ ap (λ (fs : List Frame). events.row_effect w i.resolution (row_of i.instr.op) (memory_of a) (top_stack fs)) top in
    let kept_statics = subst (λ (s : List Value). KeptUnlessDone o s statics) same ran.kept_statics in
    let step : IsQuietStep w stage.number (state_of stage a (f ∷ below)) (f ∷ below) (state_of stage b after) =
    event_stepped w i stage a (with_values a h statics) b f below next.stack.frames after (operands next) o at (λ x fs. refl)
    (subst (λ (n : ℕ). IsEffect n o (events.row_effect w i.resolution (row_of i.instr.op) (memory_of a) f.stack) (memory_of (with_values a h statics)) (operands next)) (ap top_room top)
    (subst (λ (x : Option Effect). IsEffect (top_room m.stack.frames) o x (memory_of (with_values a h statics)) (operands next)) first effect))
    (subst (λ (n : ℕ). length (operands next) ≤ n) room held) frames (values_kept a h statics o size ran.kept_heap kept_statics) (frames_kept m next (f ∷ below) o top ran.kept) ends in
    subst (λ (fs : List Frame). IsQuietStep w stage.number (state_of stage a fs) fs (state_of stage b after)) (sym top) step
