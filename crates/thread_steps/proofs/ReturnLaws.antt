-- Returns, and exceptions on their way, as steps.
use Rattle.std.proofs.Common.{◌≡◌, ◌<◌, ℕ, true, false, Bool, List, [], ◌∷◌, ◌++◌, length, drop, Option, Some, None, refl, ap, sym, subst, arith, ◌∙◌}
use Rattle.std.specs.Prelude.{◌==◌, ◌||◌, if◌then◌else◌, slice_get}
use Rattle.std.specs.Global.{Vec}
use Rattle.std.specs.Option.{option_map, option_map_or}
use Rattle.items.specs.Options.{◌>>=◌}
use Rattle.items.proofs.Binds.{bind_is, some_is}
use Rattle.opcodes.specs.declared.op.ValueKind.{ValueKind}
use Rattle.instruction_rows.specs.declared.value.Slot.{Slot}
use Rattle.instruction_rows.specs.Rows.{Row, local, constant, wide_constant, returns, invoke, event, refused}
use Rattle.instruction_rows.specs.Table.{row as row_of}
use Rattle.vthread_state.specs.declared.phase.Phase.TheVariants.{Run, Throwing}
use Rattle.vthread_state.specs.declared.thread.Status.{Status}
use Rattle.vthread_state.specs.declared.thread.Status.TheVariants.{Live, Done}
use Rattle.link_model.specs.declared.members.MethodInfo.{MethodInfo}
use Rattle.link_model.specs.declared.sites.Resolution.{Resolution}
use Rattle.link_model.specs.World.{World}
use Rattle.verify_types.specs.Environment.{Handler, Instruction}
use Rattle.state_model.specs.Frames.{Frame}
use Rattle.state_model.specs.Objects.{text}
use Rattle.ref_model.specs.Classes.{class_name}
use Rattle.ref_model.specs.Fetch.{fetched}
use Rattle.ref_model.specs.declared.exception.Exception.TheVariants as exceptions
use Rattle.ref_model.specs.Memory.{Memory}
use Rattle.heap_objs.specs.Heap.{Heap}
use Rattle.ref_model.specs.Frames.{is_guarded, is_guarded_frame, is_left_openly, is_root, returned}
use Rattle.ref_model.specs.Heap.{class_at, units_at, units_of}
use Rattle.ref_model.specs.LocalRows.{row, local_act}
use Rattle.ref_model.specs.Members.{is_hold, is_synchronized}
use Rattle.ref_model.specs.Monitors.{frame_monitor, is_synchronized_frame}
use Rattle.ref_model.specs.Operands.{FindsOperands, HasOperands}
use Rattle.ref_model.specs.State.{State, with_frames, with_memory, with_status}
use Rattle.ref_model.specs.Step.{event_step, frame_returned, monitor_returned, root_left, row_event, row_or_event}
use Rattle.ref_model.specs.Texts.{text_bytes}
use Rattle.ref_model.specs.Throwing.{at_handler, finished, frame_dropped, frame_with_monitor_left, handler_of, handled, throwing, throwing_step, thrown_below, uncaught, uncaught_line}
use Rattle.continuation.specs.Continuation.{Continuation}
use Rattle.heap_instructions.specs.HeapReads.{class_number}
use Rattle.invocation.specs.declared.returning.Left.TheVariants.{Returned}
use Rattle.invocation.specs.FrameSteps.{HoldsMonitor, IsDropped, IsHandled, IsLeftBehind, IsLeftNative, IsLeftUnlocked, returned_kinds, top_at_handler, top_to_caller, top_handler, top_is_left_openly, top_is_root, top_is_synchronized, top_returned}
use Rattle.thread_steps.specs.declared.parts.Parts.{Parts}
use Rattle.thread_steps.specs.States.{Stage, IsRunStep, memory_of, own_thread, state_of}
use Rattle.thread_steps.specs.declared.progress.MonitorReturn.{MonitorReturn}
use Rattle.thread_steps.specs.Asking.{IsReturning}
use Rattle.thread_steps.specs.Concluding.{IsExceptionMade}
use Rattle.thread_steps.specs.Returning.{EndsUncaught, LeavesRoot, ReturnSteps, ThrowingSteps, ThrowsFrom, UnlockedDrops, UnlockedReturns, UnownedThrows, returned_kind, status_left}
use Rattle.thread_steps.proofs.StageLaws.{own_at, own_finished, own_frames, own_status}
use Rattle.thread_steps.proofs.StepLaws.{event_is_run, no_row, quiet_return}

-- ---- what a return takes

-- the row of a return, by what it gives back
pub kind_row : (act : Row) (kind : Option ValueKind) → returned_kind act ≡ Some kind → act ≡ returns kind
kind_row (returns k) kind e = let same : k ≡ kind = cc in ap returns same
kind_row (local r) kind e = absurd cc
kind_row (constant index) kind e = absurd cc
kind_row (wide_constant index) kind e = absurd cc
kind_row (invoke invocation index) kind e = absurd cc
kind_row (event e) kind is = absurd cc
kind_row refused kind e = absurd cc

pub value_taken : (w : World) (resolution : Resolution) (r : Row) (kind : Option ValueKind) (stack : List Slot) → returned_kind r ≡ Some kind → FindsOperands w resolution r stack →
    HasOperands (returned_kinds kind) 0 stack
value_taken w resolution r kind stack is x = by kind (subst (λ (s : Row). FindsOperands w resolution s stack) (kind_row r kind is) x)
  where
    by : (k : Option ValueKind) → FindsOperands w resolution (returns k) stack → HasOperands (returned_kinds k) 0 stack
    by None y = tt
    by (Some k) y = y

-- ---- a return to the caller

pub returned_steps : (w : World) (a : Parts) (kind : Option ValueKind) (frames after : List Frame) → top_returned w kind frames ≡ Some after → ReturnSteps w kind a frames a after
returned_steps w a kind frames after left stage f below i top at is =
    subst (λ (fs : List Frame). IsRunStep w stage.number (state_of stage a fs) fs (state_of stage a after)) (sym top) step
  where
    made : row w (f ∷ below) ≡ Some after
    made = bind_is (fetched w f) (λ j. local_act w j (row_of j.instr.op) f below) i (Some after) at
        (ap (λ (act : Row). local_act w i act f below) is ∙ subst (λ (fs : List Frame). top_returned w kind fs ≡ Some after) top left)

    step : IsRunStep w stage.number (state_of stage a (f ∷ below)) (f ∷ below) (state_of stage a after)
    step = ap (row_or_event w (state_of stage a (f ∷ below)) stage.number (f ∷ below)) made ∙ ap (λ (q : State). Some q) (own_frames stage a (f ∷ below) after)

-- one from a frame that others see leave, and that holds no monitor
openly_steps : (w : World) (a : Parts) (q : Stage → State) (kind : Option ValueKind) (frames : List Frame) → top_is_left_openly w frames ≡ true → top_is_synchronized w frames ≡ false
    → ((stage : Stage) (f : Frame) (below : List Frame) → frames ≡ f ∷ below → frame_returned w (state_of stage a frames) stage.number kind f below ≡ Some (q stage))
    → (stage : Stage) (f : Frame) (below : List Frame) (i : Instruction) → frames ≡ f ∷ below → fetched w f ≡ Some i → row_of i.instr.op ≡ returns kind
    → IsRunStep w stage.number (state_of stage a frames) frames (q stage)
openly_steps w a q kind frames openly plain left stage f below i top at is =
    subst (λ (fs : List Frame). IsRunStep w stage.number r fs (q stage)) (sym top)
    (event_is_run w r (q stage) stage.number (f ∷ below) (no_row w i (returns kind) f below at is (ap (λ (x : Bool). if x then None else returned w kind f below) here)) step)
  where
    r : State
    r = state_of stage a frames

    here : is_left_openly w f below ≡ true
    here = subst (λ (fs : List Frame). top_is_left_openly w fs ≡ true) top openly

    free : is_synchronized_frame w f ≡ false
    free = subst (λ (fs : List Frame). top_is_synchronized w fs ≡ false) top plain

    held : Option State
    held = frame_monitor w f >>= monitor_returned w r stage.number kind f below

    step : event_step w r stage.number (f ∷ below) ≡ Some (q stage)
    step = bind_is (fetched w f) (λ j. row_event w j (row_of j.instr.op) r stage.number f below) i (Some (q stage)) at
        (ap (λ (act : Row). row_event w i act r stage.number f below) is ∙ ap (λ (x : Bool). if x then held else frame_returned w r stage.number kind f below) free
        ∙ left stage f below top)

-- ---- a return from a native frame

pub native_steps : (w : World) (a b : Parts) (kind : Option ValueKind) (m n : Continuation) (after : List Frame) → IsLeftNative w m n → UnlockedReturns w kind a n.stack.frames b after
    → ReturnSteps w kind a m.stack.frames b after
native_steps w a b kind m n after native left =
    openly_steps w a (λ stage. state_of stage b after) kind m.stack.frames native.openly native.plain
    (subst (λ (x : Continuation). UnlockedReturns w kind a x.stack.frames b after) native.same left)

-- ---- a return from a root frame

pub root_is_left : (a : Parts) (frames after : List Frame) (status : Status) → after ≡ drop 1 frames
    → status ≡ status_left (length after) a.status → LeavesRoot a frames (record a { status = status }) after
root_is_left a frames after status left is stage f below top =
    let rest : after ≡ below = left ∙ ap (drop 1) top in
    by below rest (is ∙ ap (λ (fs : List Frame). status_left (length fs) a.status) rest)
  where
    by : (others : List Frame) → after ≡ others → status ≡ status_left (length others) a.status
        → root_left (state_of stage a (f ∷ below)) stage.number others ≡ state_of stage (record a { status = status }) after
    by [] rest done = own_finished stage a (f ∷ below) ∙ λ i. state_of stage (record a { status = sym done i }) (sym rest i)
    by (g ∷ others) rest goes = own_frames stage a (f ∷ below) (g ∷ others) ∙ λ i. state_of stage (record a { status = sym goes i }) (sym rest i)

pub unlocked_root : (w : World) (a b : Parts) (kind : Option ValueKind) (frames after : List Frame) → top_is_root w frames ≡ true → LeavesRoot a frames b after
    → UnlockedReturns w kind a frames b after
unlocked_root w a b kind frames after root left stage f below top =
    let r : State = state_of stage a frames in
    let is : is_root w f below ≡ true = subst (λ (fs : List Frame). top_is_root w fs ≡ true) top root in
    let s : State → Option State = λ q. Some q in
    ap (λ (b : Bool). if b then Some (root_left r stage.number below) else (returned w kind f below >>= λ frames. Some (with_frames r stage.number frames))) is
    ∙ ap (λ (fs : List Frame). Some (root_left (state_of stage a fs) stage.number below)) top
    ∙ ap s (left stage f below top)

root_openly : (w : World) (frames : List Frame) → top_is_root w frames ≡ true → top_is_left_openly w frames ≡ true
root_openly w [] root = root
root_openly w (f ∷ below) root = ap (λ (b : Bool). b || is_guarded_frame w f) root

pub root_steps : (w : World) (a b : Parts) (kind : Option ValueKind) (frames after : List Frame) → top_is_root w frames ≡ true → top_is_synchronized w frames ≡ false → LeavesRoot a frames b after → ReturnSteps w kind a frames b after
root_steps w a b kind frames after root plain left =
    openly_steps w a (λ stage. state_of stage b after) kind frames (root_openly w frames root) plain (unlocked_root w a b kind frames after root left)

-- ---- a return that leaves a monitor

-- others see that the frame is left
guarded_so : (w : World) (f : Frame) → is_synchronized_frame w f ≡ true → is_guarded_frame w f ≡ true
guarded_so w f = by (slice_get w.methods f.method)
  where
    by : (found : Option MethodInfo) → option_map_or is_synchronized found false ≡ true → option_map_or (is_guarded w) found false ≡ true
    by None e = cc
    by (Some m) e = ap (λ (b : Bool). b || is_hold w m) e

or_true : (b : Bool) → (b || true) ≡ true
or_true true = refl
or_true false = refl

pub monitor_return : (w : World) (i : Instruction) (q : MonitorReturn) (kind : Option ValueKind) (f : Frame) (below : List Frame) → fetched w f ≡ Some i → row_of i.instr.op ≡ returns kind
    → q.kind ≡ kind → HoldsMonitor w (f ∷ below) q.monitor → HasOperands (returned_kinds kind) 0 f.stack → IsReturning w q f below
monitor_return w i q kind f below at is same holds operands = record {
  step = λ r t. ap (row_or_event w r t (f ∷ below)) none ∙ event r t;
  quiet = λ memory. quiet_return w i kind memory f below at is;
  operands = subst (λ (k : Option ValueKind). HasOperands (returned_kinds k) 0 f.stack) (sym same) operands;
}
  where
    openly : is_left_openly w f below ≡ true
    openly = ap (λ (b : Bool). is_root w f below || b) (guarded_so w f holds.synchronized) ∙ or_true (is_root w f below)

    none : row w (f ∷ below) ≡ None
    none = no_row w i (returns kind) f below at is (ap (λ (x : Bool). if x then None else returned w kind f below) openly)

    event : (r : State) (t : ℕ) → event_step w r t (f ∷ below) ≡ monitor_returned w r t q.kind f below q.monitor
    event r t =
        let held : Option ValueKind → Option State = λ k. frame_monitor w f >>= monitor_returned w r t k f below in
        bind_is (fetched w f) (λ j. row_event w j (row_of j.instr.op) r t f below) i (monitor_returned w r t q.kind f below q.monitor) at
        (ap (λ (act : Row). row_event w i act r t f below) is
        ∙ ap (λ (x : Bool). if x then held kind else frame_returned w r t kind f below) holds.synchronized
        ∙ ap (λ (x : Option ℕ). x >>= monitor_returned w r t kind f below) holds.monitor
        ∙ ap (λ (k : Option ValueKind). monitor_returned w r t k f below q.monitor) (sym same))

-- ---- the rest of it

pub unlocked_returned : (w : World) (a : Parts) (kind : Option ValueKind) (m n : Continuation) → IsLeftUnlocked w kind m n Returned → UnlockedReturns w kind a m.stack.frames a n.stack.frames
unlocked_returned w a kind m n left stage f below top =
    let r : State = state_of stage a m.stack.frames in
    let inner : is_root w f below ≡ false = subst (λ (fs : List Frame). top_is_root w fs ≡ false) top left.0 in
    let back : returned w kind f below ≡ Some n.stack.frames = subst (λ (fs : List Frame). top_to_caller w kind fs ≡ Some n.stack.frames) top left.1 in
    ap (λ (b : Bool). if b then Some (root_left r stage.number below) else (returned w kind f below >>= λ frames. Some (with_frames r stage.number frames))) inner
    ∙ ap (λ (x : Option (List Frame)). x >>= λ frames. Some (with_frames r stage.number frames)) back
    ∙ ap (λ (s : State). Some s) (own_frames stage a m.stack.frames n.stack.frames)

-- ---- an exception on its way

-- what the phase makes of the top frame, by the class of the object
handled_so : (w : World) (stage : Stage) (a : Parts) (o class : ℕ) (f : Frame) (below : List Frame) (handler : Option Handler) (q : State) → Some class ≡ class_number w a.natives.heap.objects o
    → handler_of w class f ≡ handler → handled w (state_of stage a (f ∷ below)) stage.number o class f below handler ≡ Some q
    → (class_at w (memory_of a) o >>= λ c. handled w (state_of stage a (f ∷ below)) stage.number o c f below (handler_of w c f)) ≡ Some q
handled_so w stage a o class f below handler q named found made =
    bind_is (class_at w (memory_of a) o) (λ c. handled w (state_of stage a (f ∷ below)) stage.number o c f below (handler_of w c f)) class (Some q) (sym named)
    (ap (handled w (state_of stage a (f ∷ below)) stage.number o class f below) found ∙ made)

mapped_none : (o : Option Handler) → option_map (λ (h : Handler). h.row.handler) o ≡ None → o ≡ None
mapped_none None e = refl
mapped_none (Some h) e = absurd cc

-- The top frame has a handler.
pub handled_steps : (w : World) (a : Parts) (t name o class : ℕ) (m n : Continuation) → Some class ≡ class_number w a.natives.heap.objects o → IsHandled w class o m n
    → ThrowingSteps w t name o a m.stack.frames (record a { status = Live Run }) n.stack.frames
handled_steps w a t name o class m n named x stage is = by m.stack.frames x.is x.frames
  where
    b : Parts
    b = record a { status = Live Run }

    at : (f : Frame) (below : List Frame) (handler : Option Handler) → handler_of w class f ≡ handler → option_map (λ (h : Handler). h.row.handler) handler ≡ Some x.handler
        → top_at_handler x.handler o (f ∷ below) ≡ Some n.stack.frames → throwing_step w (state_of stage a (f ∷ below)) stage.number o (f ∷ below) ≡ Some (state_of stage b n.stack.frames)
    at f below None found none goes = absurd cc
    at f below (Some h) found some goes =
        let r : State = state_of stage a (f ∷ below) in
        let same : h.row.handler ≡ x.handler = cc in
        let g = some_is (at_handler f x.handler o) (λ g. Some (g ∷ below)) n.stack.frames goes in
        let last : g.0 ∷ below ≡ n.stack.frames = let e = g.2 in cc in
        let moves : with_frames (with_status r stage.number (Live Run)) stage.number (g.0 ∷ below) ≡ state_of stage b n.stack.frames =
        ap (λ (s : State). with_frames s stage.number (g.0 ∷ below)) (own_status stage a (f ∷ below) (Live Run)) ∙ own_frames stage b (f ∷ below) (g.0 ∷ below) ∙ ap (state_of stage b) last in
        handled_so w stage a o class f below (Some h) (state_of stage b n.stack.frames) named found
        (ap (λ k. at_handler f k o >>= λ d. Some (with_frames (with_status r stage.number (Live Run)) stage.number (d ∷ below))) same
        ∙ bind_is (at_handler f x.handler o) (λ d. Some (with_frames (with_status r stage.number (Live Run)) stage.number (d ∷ below))) g.0 (Some (state_of stage b n.stack.frames)) g.1
        (ap (λ (s : State). Some s) moves))

    by : (frames : List Frame) → top_handler w class frames ≡ Some x.handler → top_at_handler x.handler o frames ≡ Some n.stack.frames
        → throwing_step w (state_of stage a frames) stage.number o frames ≡ Some (state_of stage b n.stack.frames)
    by [] found goes = absurd cc
    by (f ∷ below) found goes = at f below (handler_of w class f) refl found goes

-- It has none, and is left.
pub left_steps : (w : World) (a : Parts) (t name o class : ℕ) (m n : Continuation) → Some class ≡ class_number w a.natives.heap.objects o → 0 < length m.stack.frames
    → top_handler w class m.stack.frames ≡ None → IsLeftBehind w m n → ThrowingSteps w t name o a m.stack.frames a n.stack.frames
left_steps w a t name o class m n named some none x stage is = by m.stack.frames some none x.inner x.plain x.frames
  where
    by : (frames : List Frame) → 0 < length frames → top_handler w class frames ≡ None → top_is_root w frames ≡ false → top_is_synchronized w frames ≡ false → n.stack.frames ≡ drop 1 frames
        → throwing_step w (state_of stage a frames) stage.number o frames ≡ Some (state_of stage a n.stack.frames)
    by [] some none inner plain left = absurd (omega arith)
    by (f ∷ below) some none inner plain left =
        let r : State = state_of stage a (f ∷ below) in
        handled_so w stage a o class f below None (state_of stage a n.stack.frames) named (mapped_none (handler_of w class f) none)
        (ap (λ (b : Bool). if b then (frame_monitor w f >>= frame_with_monitor_left w r stage.number class f below) else frame_dropped w r stage.number class f below)
        plain
        ∙ ap (λ (b : Bool). if b then uncaught w r stage.number class else Some (with_frames r stage.number below)) inner
        ∙ ap (λ (s : State). Some s) (own_frames stage a (f ∷ below) below ∙ ap (state_of stage a) (sym left)))

-- A root frame whose method doesn't catch an object of this class ends the thread.
pub uncaught_steps : (w : World) (a b : Parts) (t name o class : ℕ) (frames after : List Frame)
    → Some class ≡ class_number w a.natives.heap.objects o
    → top_handler w class frames ≡ None → top_is_root w frames ≡ true → top_is_synchronized w frames ≡ false → EndsUncaught w t name class a b after → ThrowingSteps w t name o a frames b after
uncaught_steps w a b t name o class [] after named none root plain ends stage is = absurd cc
uncaught_steps w a b t name o class (f ∷ below) after named none root plain ends stage is =
    let r : State = state_of stage a (f ∷ below) in
    handled_so w stage a o class f below None (state_of stage b after) named (mapped_none (handler_of w class f) none)
    (ap (λ (b : Bool). if b then (frame_monitor w f >>= frame_with_monitor_left w r stage.number class f below) else frame_dropped w r stage.number class f below)
    plain
    ∙ ap (λ (x : Bool). if x then uncaught w r stage.number class else Some (with_frames r stage.number below)) root ∙ ends stage (f ∷ below) is)

-- It has none, and holds a monitor.
pub holding_steps : (w : World) (a : Parts) (o class monitor : ℕ) (m : Continuation) → Some class ≡ class_number w a.natives.heap.objects o
    → top_handler w class m.stack.frames ≡ None → HoldsMonitor w m.stack.frames monitor → ThrowsFrom w (record { class = class; monitor = monitor }) o (memory_of a) m.stack.frames
holding_steps w a o class monitor m named caught held r t f below same top =
    let none : handler_of w class f ≡ None = mapped_none (handler_of w class f) (subst (λ (fs : List Frame). top_handler w class fs ≡ None) top caught) in
    let holds : HoldsMonitor w (f ∷ below) monitor = subst (λ (fs : List Frame). HoldsMonitor w fs monitor) top held in
    let here : class_at w r.memory o ≡ Some class = ap (λ (memory : Memory). class_at w memory o) same ∙ sym named in
    ap (throwing_step w r t o) top
    ∙ ap (λ (c : Option ℕ). c >>= λ c. handled w r t o c f below (handler_of w c f)) here
    ∙ ap (handled w r t o class f below) none
    ∙ ap (λ (b : Bool). if b then (frame_monitor w f >>= frame_with_monitor_left w r t class f below) else frame_dropped w r t class f below) holds.synchronized
    ∙ ap (λ (x : Option ℕ). x >>= frame_with_monitor_left w r t class f below) holds.monitor

-- ---- where the thread has left that monitor, or doesn't own it

pub unlocked_dropped : (w : World) (a : Parts) (t name class : ℕ) (m n : Continuation) → IsDropped w m n true → UnlockedDrops w t name class a m.stack.frames a n.stack.frames
unlocked_dropped w a t name class m n left stage f below is top =
    let r : State = state_of stage a m.stack.frames in
    let inner : is_root w f below ≡ false = subst (λ (fs : List Frame). top_is_root w fs ≡ false) top left.0 in
    let rest : n.stack.frames ≡ below = left.1 ∙ ap (drop 1) top in
    ap (λ (b : Bool). if b then uncaught w r stage.number class else Some (with_frames r stage.number below)) inner
    ∙ ap (λ (s : State). Some s) (own_frames stage a m.stack.frames below ∙ ap (state_of stage a) (sym rest))

pub unlocked_uncaught : (w : World) (a b : Parts) (t name class : ℕ) (frames after : List Frame) → top_is_root w frames ≡ true → EndsUncaught w t name class a b after
    → UnlockedDrops w t name class a frames b after
unlocked_uncaught w a b t name class frames after root ends stage f below is top =
    let r : State = state_of stage a frames in
    let here : is_root w f below ≡ true = subst (λ (fs : List Frame). top_is_root w fs ≡ true) top root in
    ap (λ (x : Bool). if x then uncaught w r stage.number class else Some (with_frames r stage.number below)) here
    ∙ ends stage frames is

-- the parts with this heap
abbrev pub heaped : Parts → Heap → Parts
heaped a h = record a { natives = record a.natives { heap = h } }

pub unowned_dropped : (w : World) (a : Parts) (h : Heap) (t name o : ℕ) (m n : Continuation) → IsExceptionMade w exceptions.IllegalMonitorStateException a.natives.heap h o
    → IsDropped w m n true → UnownedThrows w t name a m.stack.frames (record (heaped a h) { status = Live (Throwing o) }) n.stack.frames
unowned_dropped w a h t name o m n made left stage f below is top =
    let r : State = state_of stage a m.stack.frames in
    let b = heaped a h in
    let inner : is_root w f below ≡ false = subst (λ (fs : List Frame). top_is_root w fs ≡ false) top left.0 in
    let rest : n.stack.frames ≡ below = left.1 ∙ ap (drop 1) top in
    let kept : State = throwing (with_frames (with_memory r (memory_of b)) stage.number below) stage.number o in
    let dropped : State → Option State = λ s. Some s in
    ap (λ (x : Option (Memory × ℕ)). x >>= thrown_below w r stage.number f below) (made a refl)
    ∙ ap (λ (x : Bool). if x then (class_at w (memory_of b) o >>= λ class. uncaught w (with_memory r (memory_of b)) stage.number class) else Some kept) inner
    ∙ ap dropped (ap (λ (s : State). throwing s stage.number o) (own_frames stage b m.stack.frames below) ∙ own_status stage b below (Live (Throwing o)) ∙ ap (state_of stage (record b { status = Live (Throwing o) })) (sym rest))

pub unowned_uncaught : (w : World) (a b : Parts) (h : Heap) (t name o class : ℕ) (frames after : List Frame) → IsExceptionMade w exceptions.IllegalMonitorStateException a.natives.heap h o
    → Some class ≡ class_number w h.objects o → top_is_root w frames ≡ true → EndsUncaught w t name class (heaped a h) b after → UnownedThrows w t name a frames b after
unowned_uncaught w a b h t name o class frames after made named root ends stage f below is top =
    let r : State = state_of stage a frames in
    let new = heaped a h in
    let here : is_root w f below ≡ true = subst (λ (fs : List Frame). top_is_root w fs ≡ true) top root in
    let kept : Option State = Some (throwing (with_frames (with_memory r (memory_of new)) stage.number below) stage.number o) in
    ap (λ (x : Option (Memory × ℕ)). x >>= thrown_below w r stage.number f below) (made a refl)
    ∙ ap (λ (x : Bool). if x then (class_at w (memory_of new) o >>= λ class. uncaught w (with_memory r (memory_of new)) stage.number class) else kept) here
    ∙ ap (λ (x : Option ℕ). x >>= λ class. uncaught w (with_memory r (memory_of new)) stage.number class) (sym named)
    ∙ ends stage frames is

-- ---- the end of a thread whose exception nothing caught

-- the parts with this error output, of a thread that is done
abbrev pub ended : Parts → ℕ → Vec ℕ → Parts
ended a t err = record a { natives = record a.natives { err = err }; status = Done; main_threw = a.main_threw || t == 0 }

pub ends_uncaught : (w : World) (a : Parts) (t name class : ℕ) (units : List ℕ) (err : Vec ℕ) → slice_get a.natives.heap.objects name ≡ Some (text units)
    → err.items ≡ a.natives.err.items ++ text_bytes (uncaught_line units (class_name w class)) → EndsUncaught w t name class a (ended a t err) []
ends_uncaught w a t name class units err there written stage frames is =
    bind_is (slice_get r.threads n) (λ x. units_at r.memory x.thread.name >>= λ u. Some (finished (told u) n)) (own_thread stage a frames) made (own_at stage a frames)
    (bind_is (units_at r.memory stage.thread.thread.name) (λ u. Some (finished (told u) n)) units made named
    (ap (λ (s : State). Some (finished s n)) same ∙ ap (λ (s : State). Some s) (own_finished stage b frames)))
  where
    r : State
    r = state_of stage a frames

    n : ℕ
    n = stage.number

    made : Option State
    made = Some (state_of stage (ended a t err) [])

    -- the parts before the thread is done
    b : Parts
    b = record a { natives = record a.natives { err = err }; main_threw = a.main_threw || t == 0 }

    -- the state with the line
    told : List ℕ → State
    told u = record r { memory = record r.memory { err = r.memory.err ++ text_bytes (uncaught_line u (class_name w class)) }; main_threw = r.main_threw || n == 0 }

    named : units_at r.memory stage.thread.thread.name ≡ Some units
    named = ap (units_at r.memory) is.named ∙ bind_is (slice_get a.natives.heap.objects name) units_of (text units) (Some units) there refl

    same : told units ≡ state_of stage b frames
    same =
        ap (λ (es : List ℕ). record r { memory = record r.memory { err = es }; main_threw = a.main_threw || n == 0 }) (sym written)
        ∙ ap (λ (k : ℕ). record r { memory = record r.memory { err = err.items }; main_threw = a.main_threw || k == 0 }) is.number
