-- Exceptions on their way (JVMS 2.10, 6.5: athrow; JLS 11.3). A thread in phase Throwing looks at its top frame in each step.
use Rattle.std.specs.Prelude.{ℕ, ◌==◌, Bool, true, List, [], ◌∷◌, ◌++◌, Option, Some, None, codes, find, slice_get, ◌&&◌, ◌||◌, if◌then◌else◌}
use Rattle.std.specs.Option.{option_map_or}
use Rattle.items.specs.Options.{◌>>=◌}
use Rattle.instruction_rows.specs.declared.value.Value.TheVariants as values
use Rattle.instruction_rows.specs.SlotEffect.{pushed}
use Rattle.vthread_state.specs.declared.phase.Phase.TheVariants.{Run, Throwing}
use Rattle.vthread_state.specs.declared.thread.Status.TheVariants.{Live, Done}
use Rattle.link_model.specs.World.{World, name_number}
use Rattle.link_model.specs.Decoded.{code_at}
use Rattle.verify_types.specs.Environment.{Handler}
use Rattle.verify_types.specs.Calls.{covers}
use Rattle.state_model.specs.Frames.{Frame}
use Rattle.ref_model.specs.declared.exception.Exception.{Exception}
use Rattle.ref_model.specs.declared.exception.Exception.TheVariants as exceptions
use Rattle.ref_model.specs.Classes.{is_sub, class_name}
use Rattle.ref_model.specs.Members.{new_values}
use Rattle.ref_model.specs.Memory.{Memory}
use Rattle.ref_model.specs.State.{State, with_memory, with_thread, with_frames, with_status}
use Rattle.ref_model.specs.Heap.{class_at, units_at, with_instance}
use Rattle.ref_model.specs.Texts.{text_bytes}
use Rattle.ref_model.specs.Fetch.{handlers_of}
use Rattle.ref_model.specs.Frames.{behind, is_root}
use Rattle.ref_model.specs.Monitors.{owns, with_exit, is_synchronized_frame, frame_monitor}

-- ---- what the machine throws

abbrev pub exception_name : Exception → List ℕ
exception_name exceptions.AbstractMethodError = codes "java/lang/AbstractMethodError"
exception_name exceptions.ArithmeticException = codes "java/lang/ArithmeticException"
exception_name exceptions.ArrayIndexOutOfBoundsException = codes "java/lang/ArrayIndexOutOfBoundsException"
exception_name exceptions.ArrayStoreException = codes "java/lang/ArrayStoreException"
exception_name exceptions.ClassCastException = codes "java/lang/ClassCastException"
exception_name exceptions.IllegalArgumentException = codes "java/lang/IllegalArgumentException"
exception_name exceptions.IllegalMonitorStateException = codes "java/lang/IllegalMonitorStateException"
exception_name exceptions.IllegalThreadStateException = codes "java/lang/IllegalThreadStateException"
exception_name exceptions.IncompatibleClassChangeError = codes "java/lang/IncompatibleClassChangeError"
exception_name exceptions.InterruptedException = codes "java/lang/InterruptedException"
exception_name exceptions.NegativeArraySizeException = codes "java/lang/NegativeArraySizeException"
exception_name exceptions.NullPointerException = codes "java/lang/NullPointerException"
exception_name exceptions.OutOfMemoryError = codes "java/lang/OutOfMemoryError"
exception_name exceptions.StackOverflowError = codes "java/lang/StackOverflowError"
exception_name exceptions.StringIndexOutOfBoundsException = codes "java/lang/StringIndexOutOfBoundsException"
exception_name exceptions.VerifyError = codes "java/lang/VerifyError"

-- the OutOfMemoryError that is there from the start
abbrev pub out_of_memory : ℕ
out_of_memory = 0

-- A thread throws an object. Its frames stay as they are.
abbrev pub throwing : State → ℕ → ℕ → State
throwing r t o = with_status r t (Live (Throwing o))

abbrev pub throwing_new : State → ℕ → Option (Memory × ℕ) → State
throwing_new r t None = throwing r t out_of_memory
throwing_new r t (Some x) = throwing (with_memory r x.0) t x.1

-- a new object without a message, or the OutOfMemoryError of the start where there is no room for it
abbrev pub raised : World → State → ℕ → Exception → Option State
raised w r t e =
    name_number w (exception_name e) >>= λ class. Some (throwing_new r t (with_instance r.memory class (new_values w class)))

-- the same object, and the memory with it
abbrev pub made_or_first : Memory → Option (Memory × ℕ) → Memory × ℕ
made_or_first r None = (r, out_of_memory)
made_or_first r (Some x) = x

abbrev pub exception_made : World → Memory → Exception → Option (Memory × ℕ)
exception_made w r e =
    name_number w (exception_name e) >>= λ class. Some (made_or_first r (with_instance r class (new_values w class)))

-- ---- handlers

-- whether a row of the exception table catches an object of the class (JVMS 2.10)
abbrev pub catches : World → ℕ → ℕ → Handler → Bool
catches w pc class h = covers pc h && option_map_or (is_sub w class) h.catch true

-- the first row that catches it, in the frame's method at its pc
abbrev pub handler_of : World → ℕ → Frame → Option Handler
handler_of w class f = code_at w f.method >>= λ code. find (catches w f.pc class) (handlers_of w f.method code)

-- the frame at the handler, with the exception alone on its operand stack
abbrev pub at_handler : Frame → ℕ → ℕ → Option Frame
at_handler f handler o = behind f handler (pushed (values.Ref o) [])

-- ---- an exception that nothing catches (JLS 11.3; the text: own)

abbrev pub uncaught_line : List ℕ → List ℕ → List ℕ
uncaught_line thread class = codes "Exception in thread \"" ++ thread ++ codes "\" " ++ class ++ 10 ∷ []

-- the thread is done, and all its frames are dropped
abbrev pub finished : State → ℕ → State
finished r t = with_thread r t (λ thread. record thread { thread = record thread.thread { status = Done }; frames = [] })

abbrev pub uncaught : World → State → ℕ → ℕ → Option State
uncaught w r t class =
    slice_get r.threads t >>= λ thread.
    units_at r.memory thread.thread.name >>= λ name.
    Some (finished (record r {
      memory = record r.memory { err = r.memory.err ++ text_bytes (uncaught_line name (class_name w class)) };
      main_threw = r.main_threw || t == 0;
    }) t)

-- ---- a frame that nothing catches it in is left

-- a frame that holds no monitor any more: with a root frame all frames are left
abbrev pub frame_dropped : World → State → ℕ → ℕ → Frame → List Frame → Option State
frame_dropped w r t class f below = if is_root w f below then uncaught w r t class else Some (with_frames r t below)

-- an exception in place of the one that was thrown, in the frames below
abbrev pub thrown_below : World → State → ℕ → Frame → List Frame → Memory × ℕ → Option State
thrown_below w r t f below made =
    if is_root w f below
    then (class_at w made.0 made.1 >>= λ class. uncaught w (with_memory r made.0) t class)
    else Some (throwing (with_frames (with_memory r made.0) t below) t made.1)

-- The frame of a synchronized method leaves its monitor. Where the thread doesn't own it, IllegalMonitorStateException takes the place of
-- what was thrown (JVMS 2.11.10).
abbrev pub frame_with_monitor_left : World → State → ℕ → ℕ → Frame → List Frame → ℕ → Option State
frame_with_monitor_left w r t class f below o =
    if owns r t o then frame_dropped w (with_exit r o) t class f below
    else (exception_made w r.memory exceptions.IllegalMonitorStateException >>= thrown_below w r t f below)

abbrev pub frame_left : World → State → ℕ → ℕ → Frame → List Frame → Option State
frame_left w r t class f below =
    if is_synchronized_frame w f then (frame_monitor w f >>= frame_with_monitor_left w r t class f below)
    else frame_dropped w r t class f below

-- ---- one step of the phase

abbrev pub handled : World → State → ℕ → ℕ → ℕ → Frame → List Frame → Option Handler → Option State
handled w r t o class f below None = frame_left w r t class f below
handled w r t o class f below (Some h) =
    at_handler f h.row.handler o >>= λ g. Some (with_frames (with_status r t (Live Run)) t (g ∷ below))

abbrev pub throwing_step : World → State → ℕ → ℕ → List Frame → Option State
throwing_step w r t o [] = None
throwing_step w r t o (f ∷ below) =
    class_at w r.memory o >>= λ class. handled w r t o class f below (handler_of w class f)
