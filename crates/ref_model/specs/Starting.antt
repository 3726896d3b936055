-- Threads that are made and started (java.lang.Thread).
use Rattle.std.specs.Prelude.{ℕ, ◌+◌, pos, Bool, true, false, List, [], ◌∷◌, ◌++◌, Option, Some, None, codes, if◌then◌else◌, length, nat_lt, slice_get}
use Rattle.items.specs.Options.{◌>>=◌}
use Rattle.link_rules.specs.declared.choice.Choice.{Choice}
use Rattle.link_rules.specs.declared.choice.Choice.TheVariants.{Method, Abstract, Several}
use Rattle.link_rules.specs.declared.place.MemberPlace.{MemberPlace}
use Rattle.link_rules.specs.Program.{Program}
use Rattle.link_rules.specs.Members.{Key, is_static, declared_method, has_method, method_number}
use Rattle.instruction_rows.specs.declared.value.Value.TheVariants as values
use Rattle.instruction_rows.specs.declared.value.Slot.TheVariants.{One}
use Rattle.vthread_state.specs.declared.phase.Phase.{Phase}
use Rattle.vthread_state.specs.declared.phase.Phase.TheVariants.{Run, Entering}
use Rattle.vthread_state.specs.declared.thread.Status.{Status}
use Rattle.vthread_state.specs.declared.thread.Status.TheVariants.{New, Live}
use Rattle.vthread_state.specs.declared.thread.ThreadKind.{ThreadKind}
use Rattle.vthread_state.specs.declared.thread.ThreadKind.TheVariants.{Platform, Virtual}
use Rattle.vthread_state.specs.Threads.{new_thread}
use Rattle.link_model.specs.declared.members.MethodInfo.{MethodInfo}
use Rattle.link_model.specs.declared.members.MethodCode.{MethodCode}
use Rattle.link_model.specs.Initializers.{is_synchronized}
use Rattle.link_model.specs.Methods.{choice_of}
use Rattle.link_model.specs.World.{World, name_number}
use Rattle.link_model.specs.Decoded.{code_at}
use Rattle.state_model.specs.Frames.{Frame}
use Rattle.ref_model.specs.declared.exception.Exception.TheVariants as exceptions
use Rattle.ref_model.specs.Memory.{Memory}
use Rattle.ref_model.specs.State.{JavaThread, State, with_thread}
use Rattle.ref_model.specs.Heap.{class_at, with_text}
use Rattle.ref_model.specs.Texts.{decimal_text}
use Rattle.ref_model.specs.Frames.{first_frame}
use Rattle.ref_model.specs.Monitors.{with_monitor}
use Rattle.ref_model.specs.Throwing.{raised}
use Rattle.ref_model.specs.ThreadNatives.{with_number}
use Rattle.ref_model.specs.Asking.{Asking, goes}

-- ---- a thread is made

-- A virtual thread is a daemon (JEP 444), and a platform thread is one where the thread that makes it is.
abbrev pub first_daemon : ThreadKind → JavaThread → Bool
first_daemon Platform creator = creator.thread.daemon
first_daemon Virtual creator = true

-- The name of a thread that is made without one: that of a platform thread has the number of those before it, that of a virtual one is empty.
abbrev pub first_name : ThreadKind → State → List ℕ
first_name Platform r = codes "Thread-" ++ decimal_text (pos r.unnamed)
first_name Virtual r = []

-- how many platform threads without a name there are then
abbrev pub unnamed_after : ThreadKind → Option ℕ → State → ℕ
unnamed_after Platform None r = r.unnamed + 1
unnamed_after kind name r = r.unnamed

-- the memory with the name, and its number: a new String where there was no name
abbrev pub name_made : ThreadKind → State → Option ℕ → Option (Memory × ℕ)
name_made kind r None = with_text r.memory (first_name kind r)
name_made kind r (Some name) = Some (r.memory, name)

-- a thread that has no permit, wasn't interrupted, and wasn't started
abbrev pub made_thread : ThreadKind → Bool → ℕ → ℕ → JavaThread
made_thread kind daemon object name = record {
  thread = new_thread kind daemon object name;
  permit = false;
  interrupted = false;
  frames = [];
}

-- the state with this thread too, and this memory
abbrev pub with_new_thread : State → Memory → ℕ → JavaThread → State
with_new_thread r memory unnamed x = record r { memory = memory; unnamed = unnamed; threads = r.threads ++ x ∷ [] }

-- the new thread has the next number, which its object gets
abbrev pub numbered : State → ℕ → Asking → ThreadKind → ℕ → Option ℕ → JavaThread → Memory × ℕ → Option State
numbered r t a kind object name creator made =
    with_number made.0 object (length r.threads) >>= λ memory.
    goes (with_new_thread r memory (unnamed_after kind name r) (made_thread kind (first_daemon kind creator) object made.1)) t a

-- where there is no room for the name, nothing is made
abbrev pub made_or_thrown : World → State → ℕ → Asking → ThreadKind → ℕ → Option ℕ → JavaThread → Option (Memory × ℕ) → Option State
made_or_thrown w r t a kind object name creator None = raised w r t exceptions.OutOfMemoryError
made_or_thrown w r t a kind object name creator (Some made) = numbered r t a kind object name creator made

-- whether one more thread may be made
abbrev pub may_create : State → Bool
may_create r = nat_lt (length r.threads) r.most_threads

-- It is undefined where there are as many threads as there may be.
abbrev pub created : World → State → ℕ → Asking → ThreadKind → ℕ → Option ℕ → Option State
created w r t a kind object name =
    if may_create r
    then (slice_get r.threads t >>= λ creator. made_or_thrown w r t a kind object name creator (name_made kind r name))
    else None

-- ---- a thread is started

abbrev pub run_key : Key
run_key = record { name = codes "run"; descriptor = codes "()V" }

-- the number of a method that isn't static
abbrev pub instance_at : Program → MemberPlace → Option ℕ
instance_at p at = if has_method is_static p at then None else Some (method_number p at)

-- the number of the method run of java.lang.Thread
abbrev pub run_method : World → Option ℕ
run_method w =
    name_number w (codes "java/lang/Thread") >>= λ class.
    declared_method w.program run_key class >>= instance_at w.program

-- what is selected for a Thread object as its run (JVMS 5.4.6)
abbrev pub run_choice : World → Memory → ℕ → Option Choice
run_choice w r object = run_method w >>= λ n. class_at w r object >>= λ class. choice_of w class n

-- The frame of a method run on a Thread object. It enters the monitor of the object first, where it is synchronized.
abbrev pub run_frame : MethodInfo → ℕ → Frame → Frame
run_frame m object f = if is_synchronized m then with_monitor f object else f

abbrev pub first_phase : MethodInfo → ℕ → Phase
first_phase m object = if is_synchronized m then Entering object else Run

-- a thread is live, in this phase, with one frame
abbrev pub with_begun : State → ℕ → Phase → Frame → State
with_begun r u phase f =
    with_thread r u (λ x. record x { thread = record x.thread { status = Live phase }; frames = f ∷ [] })

-- The thread u begins with this method, and the thread t that starts it goes on.
abbrev pub begun : World → State → ℕ → Asking → ℕ → ℕ → ℕ → MethodCode → Option State
begun w r t a u object n code =
    slice_get w.methods n >>= λ m.
    first_frame n code (One (values.Ref object) ∷ []) >>= λ f.
    goes (with_begun r u (first_phase m object) (run_frame m object f)) t a

-- without code it is abstract, and the thread isn't started (own)
abbrev pub begun_with : World → State → ℕ → Asking → ℕ → ℕ → ℕ → Option MethodCode → Option State
begun_with w r t a u object n None = raised w r t exceptions.AbstractMethodError
begun_with w r t a u object n (Some code) = begun w r t a u object n code

abbrev pub begun_by : World → State → ℕ → Asking → ℕ → ℕ → Choice → Option State
begun_by w r t a u object (Method at) =
    begun_with w r t a u object (method_number w.program at) (code_at w (method_number w.program at))
begun_by w r t a u object Abstract = raised w r t exceptions.AbstractMethodError
begun_by w r t a u object Several = raised w r t exceptions.IncompatibleClassChangeError

-- only a new thread is started
abbrev pub started_in : World → State → ℕ → Asking → ℕ → ℕ → Status → Option State
started_in w r t a u object New = run_choice w r.memory object >>= begun_by w r t a u object
started_in w r t a u object status = raised w r t exceptions.IllegalThreadStateException

abbrev pub started : World → State → ℕ → Asking → ℕ → Option State
started w r t a u = slice_get r.threads u >>= λ x. started_in w r t a u x.thread.object x.thread.status
