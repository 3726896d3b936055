-- What an instruction did is what its row says, where its parts of the memory are among others.
use Rattle.std.proofs.Common.{◌≡◌, List, [], ◌∷◌, sym, subst}
use Rattle.std.specs.Prelude.{false, refl, Result, Ok, Err, IfOk}
use Rattle.opcodes.specs.declared.op.Primitive.{Primitive}
use Rattle.opcodes.specs.declared.op.Primitive.TheVariants as primitives
use Rattle.instruction_rows.specs.Rows.{LocalRow, push, int, long, moves, load, store, increment, branch, jump, select, Event, Row, event, new_array}
use Rattle.instruction_rows.specs.Table.{new_array_row}
use Rattle.instruction_rows.specs.declared.value.Value.{Value}
use Rattle.state_model.specs.Frames.{Frame}
use Rattle.frames.specs.Frames.{top_stack, with_stack}
use Rattle.continuation.specs.Continuation.{Continuation}
use Rattle.heap_objs.specs.Heap.{Heap}
use Rattle.link_model.specs.declared.sites.Resolution.{Resolution}
use Rattle.link_model.specs.World.{World}
use Rattle.ref_model.specs.Step.{division_effect, event_effect}
use Rattle.heap_instructions.specs.declared.outcome.Outcome.{Outcome}
use Rattle.heap_instructions.specs.declared.outcome.Outcome.TheVariants as outcomes
use Rattle.heap_instructions.specs.Operands.{ChangesOperands}
use Rattle.heap_instructions.specs.Outcomes.{Acts, KeptUnlessDone, with_heap, with_statics}
use Rattle.link_rules.specs.Instructions.{is_floating_primitive}
use Rattle.heap_instructions.specs.Dispatch.{IsHeapRun, IsRun, frame_with}

pub kept_same : {A : Type 0} (o : Outcome) (x : A) → KeptUnlessDone o x x
kept_same outcomes.Done x = tt
kept_same (outcomes.Throws e) x = refl
kept_same (outcomes.ThrowsObject o) x = refl
kept_same (outcomes.Asks asked count) x = refl
kept_same outcomes.Undefined x = refl

-- of the memory the heap alone
pub heap_run : (w : World) (resolution : Resolution) (r : Row) (e : Event) (heap next_heap : Heap) (statics : List Value) (m next : Continuation) (o : Outcome) →
    r ≡ event e → Acts (event_effect w resolution e) (with_heap heap) m (with_heap next_heap) next o → KeptUnlessDone o m next → KeptUnlessDone o heap next_heap →
    ChangesOperands m next → IsRun w resolution r heap next_heap statics statics m next o
heap_run w resolution r e heap next_heap statics m next o is acts kept kept_heap only =
    let P : Row → Type 0 = λ x. IsRun w resolution x heap next_heap statics statics m next o in
    subst P (sym is) (record {
      effect = λ q. acts (with_statics statics q);
      kept = kept;
      kept_heap = kept_heap;
      kept_statics = kept_same o statics;
      only = only;
    })

-- the static fields alone
pub statics_run : (w : World) (resolution : Resolution) (r : Row) (e : Event) (heap : Heap) (statics next_statics : List Value) (m next : Continuation) (o : Outcome) →
    r ≡ event e → Acts (event_effect w resolution e) (with_statics statics) m (with_statics next_statics) next o → KeptUnlessDone o m next →
    KeptUnlessDone o statics next_statics → ChangesOperands m next → IsRun w resolution r heap heap statics next_statics m next o
statics_run w resolution r e heap statics next_statics m next o is acts kept kept_statics only =
    let P : Row → Type 0 = λ x. IsRun w resolution x heap heap statics next_statics m next o in
    subst P (sym is) (record {
      effect = λ q. acts (with_heap heap q);
      kept = kept;
      kept_heap = kept_same o heap;
      kept_statics = kept_statics;
      only = only;
    })

-- the same of an instruction that may want memory
pub heap_run_ok : {E : Type 0} (w : World) (resolution : Resolution) (r : Row) (e : Event) (heap next_heap : Heap) (statics : List Value) (m next : Continuation)
    (result : Result Outcome E) → r ≡ event e →
    IfOk result (λ o. Acts (event_effect w resolution e) (with_heap heap) m (with_heap next_heap) next o) → IfOk result (λ o. KeptUnlessDone o m next) →
    IfOk result (λ o. KeptUnlessDone o heap next_heap) → ChangesOperands m next → IfOk result (λ o. IsRun w resolution r heap next_heap statics statics m next o)
heap_run_ok w resolution r e heap next_heap statics m next (Err x) is acts kept kept_heap only = tt
heap_run_ok w resolution r e heap next_heap statics m next (Ok o) is acts kept kept_heap only =
    heap_run w resolution r e heap next_heap statics m next o is acts kept kept_heap only

-- where a part of an instruction ran so
pub part_run_ok : {E : Type 0} (w : World) (resolution : Resolution) (r part : Row) (heap next_heap : Heap) (statics : List Value) (m next : Continuation)
    (result : Result Outcome E) → r ≡ part → IfOk result (λ o. IsHeapRun w resolution part heap next_heap m next o) →
    IfOk result (λ o. IsRun w resolution r heap next_heap statics statics m next o)
part_run_ok w resolution r part heap next_heap statics m next (Err x) is run = tt
part_run_ok w resolution r part heap next_heap statics m next (Ok o) is run =
    let P : Row → Type 0 = λ x. IsRun w resolution x heap next_heap statics statics m next o in
    subst P (sym is) (record {
      effect = λ q. run.effect (with_statics statics q);
      kept = run.kept;
      kept_heap = run.kept_heap;
      kept_statics = kept_same o statics;
      only = run.only;
    })

-- ---- newarray

pub array_row : (primitive : Primitive) → is_floating_primitive primitive ≡ false → new_array_row primitive ≡ event (new_array primitive)
array_row primitives.Float is = cc
array_row primitives.Double is = cc
array_row primitives.Boolean is = refl
array_row primitives.Char is = refl
array_row primitives.Byte is = refl
array_row primitives.Short is = refl
array_row primitives.Int is = refl
array_row primitives.Long is = refl

-- ---- a thread as it was

pub frames_same : (frames : List Frame) → frames ≡ with_stack (top_stack frames) frames
frames_same [] = refl
frames_same (f ∷ below) = refl

pub operands_same : (m : Continuation) → ChangesOperands m m
operands_same m = record { thread = refl; calls = refl; frames = frames_same m.stack.frames }

-- ---- a division looks at the operand stack alone

pub division_same : (act : LocalRow) (f : Frame) → division_effect act f ≡ division_effect act (frame_with f.stack)
division_same (push t v) f = refl
division_same (int takes g) f = refl
division_same (long takes g) f = refl
division_same (moves widths order) f = refl
division_same (load k n) f = refl
division_same (store k n) f = refl
division_same (increment n amount) f = refl
division_same (branch takes test target) f = refl
division_same (jump target) f = refl
division_same (select choice targets) f = refl
