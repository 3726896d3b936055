-- Phases of threads: when one may step, and what its step does (JLS 17; `Thread.State`).
use Rattle.std.proofs.Common.{◌≡◌, ℕ, true, false, List, [], ◌∷◌, Option, Some, None, refl}
use Rattle.std.specs.Prelude.{Bool, codes, slice_get, ◌++◌, ◌==◌, if◌then◌else◌}
use Rattle.std.specs.Char.{encode_utf8}
use Rattle.items.specs.Options.{◌>>=◌}
use Rattle.instruction_rows.specs.declared.value.Value.TheVariants.{Null, Ref}
use Rattle.instruction_rows.specs.declared.value.Slot.{Slot}
use Rattle.instruction_rows.specs.declared.value.Slot.TheVariants.{One}
use Rattle.lib_table.specs.Natives.{native_of, native_of_class, native_of_method}
use Rattle.lib_table.specs.Objects.{classes as object_classes}
use Rattle.lib_table.specs.Texts.{classes as text_classes}
use Rattle.lib_table.specs.System.{classes as system_classes}
use Rattle.lib_table.specs.Threads.{classes as thread_classes}
use Rattle.vthread_state.specs.declared.phase.Phase.{Phase}
use Rattle.vthread_state.specs.declared.phase.Phase.TheVariants.{Run, Throwing, Entering, Waiting, Reenter, Parked, Asleep, Joining}
use Rattle.vthread_state.specs.declared.phase.Wake.TheVariants.{Notified, TimedOut, Interrupted}
use Rattle.vthread_state.specs.declared.thread.Status.{Status}
use Rattle.vthread_state.specs.declared.thread.Status.TheVariants.{New, Live, Done}
use Rattle.vthread_state.specs.declared.thread.ThreadKind.TheVariants.{Platform}
use Rattle.state_model.specs.Frames.{Frame}
use Rattle.state_model.specs.Objects.{Object, instance, text}
use Rattle.ref_model.specs.declared.exception.Exception.TheVariants.{NullPointerException}
use Rattle.ref_model.specs.Effects.{throws}
use Rattle.ref_model.specs.RowEffects.{monitor_asked}
use Rattle.ref_model.specs.State.{JavaThread, Owner, State}
use Rattle.ref_model.specs.Requests.{Request, parks, enters, waits_on, calls}
use Rattle.ref_model.specs.Asking.{Asking}
use Rattle.ref_model.specs.Resuming.{asking_at}
use Rattle.ref_model.specs.Step.{enabled, thread_step}
use Rattle.ref_model.specs.Waiting.{at_time}
use Rattle.ref_model.specs.Looks.{is_stalled, reads_clock_next}
use Rattle.ref_model.proofs.WorkedThreadWorld.{thread_world, main_method, interrupted_exception, illegal_monitor_state}

-- ---- threads at an instruction of main; main is at its monitorenter, its park, its wait, and its call of a synchronized method

abbrev frame_at : ℕ → List Slot → Frame
frame_at pc stack = record { method = main_method; pc = pc; locals = []; stack = stack; room = 2 }

abbrev thread_at : ℕ → List Slot → Status → JavaThread
thread_at pc stack status = record {
  thread = record { kind = Platform; daemon = false; object = 0; name = 0; status = status };
  permit = false;
  interrupted = false;
  frames = frame_at pc stack ∷ [];
}

abbrev interrupted : JavaThread → JavaThread
interrupted x = record x { interrupted = true }

abbrev permitted : JavaThread → JavaThread
permitted x = record x { permit = true }

abbrev state : List JavaThread → Option Owner → ℕ → State
state threads owner now = record {
  memory = record { heap = instance 9 [] ∷ []; room = 4; statics = []; out = []; err = []; exited = None };
  threads = threads;
  most_threads = 3;
  unnamed = 0;
  owners = λ o. if o == 0 then owner else None;
  now = now;
  main_threw = false;
}

abbrev owned : ℕ → ℕ → Option Owner
owned t count = Some (record { thread = t; count = count })

abbrev object : List Slot
object = One (Ref 0) ∷ []

-- ---- when a thread may step

abbrev May : JavaThread → Option Owner → ℕ → Bool → Type 0
May x owner now may = enabled (state (x ∷ []) owner now) 0 ≡ may

abbrev in_phase : Phase → JavaThread
in_phase phase = thread_at 1 object (Live phase)

runs : May (in_phase Run) None 0 true
runs = refl

is_throwing : May (in_phase (Throwing 0)) None 0 true
is_throwing = refl

enters_a_free_monitor : May (in_phase (Entering 0)) None 0 true
enters_a_free_monitor = refl

enters_no_other : May (in_phase (Entering 0)) (owned 1 1) 0 false
enters_no_other = refl

waits : May (interrupted (in_phase (Waiting 0 1 (Some 3)))) None 5 false
waits = refl

reenters : May (in_phase (Reenter 0 1 Notified)) None 0 true
reenters = refl

reenters_no_other : May (in_phase (Reenter 0 1 Notified)) (owned 1 1) 0 false
reenters_no_other = refl

is_parked : May (in_phase (Parked (Some 6))) None 5 false
is_parked = refl

is_parked_until : May (in_phase (Parked (Some 5))) None 5 true
is_parked_until = refl

has_a_permit : May (permitted (in_phase (Parked None))) None 0 true
has_a_permit = refl

is_parked_and_interrupted : May (interrupted (in_phase (Parked None))) None 0 true
is_parked_and_interrupted = refl

sleeps : May (in_phase (Asleep 6)) None 5 false
sleeps = refl

is_awake : May (in_phase (Asleep 5)) None 5 true
is_awake = refl

joins_itself : May (in_phase (Joining 0 None)) None 5 false
joins_itself = refl

joins_the_other : enabled (state (in_phase (Joining 1 None) ∷ thread_at 1 [] Done ∷ []) None 0) 0 ≡ true
joins_the_other = refl

is_new : May (thread_at 1 [] New) None 0 false
is_new = refl

is_done : May (thread_at 1 [] Done) None 0 false
is_done = refl

-- ---- what its step does

-- what is seen of a state: the thread, and who owns monitor 0
abbrev seen : Option State → Option (Option JavaThread × Option Owner)
seen made = made >>= λ r. Some (slice_get r.threads 0, r.owners 0)

abbrev Steps : JavaThread → Option Owner → JavaThread → Option Owner → Type 0
Steps x owner after owner_after = seen (thread_step thread_world (state (x ∷ []) owner 5) 0) ≡ Some (Some after, owner_after)

-- monitorenter takes the monitor, and goes on
takes_the_monitor : Steps (in_phase (Entering 0)) None (thread_at 2 [] (Live Run)) (owned 0 1)
takes_the_monitor = refl

-- the same at once, and not where another owns it
takes_it_at_once : Steps (in_phase Run) None (thread_at 2 [] (Live Run)) (owned 0 1)
takes_it_at_once = refl

waits_for_it : Steps (in_phase Run) (owned 1 1) (in_phase (Entering 0)) (owned 1 1)
waits_for_it = refl

-- null has no monitor
no_monitor : monitor_asked enters (One Null ∷ []) ≡ Some (throws NullPointerException)
no_monitor = refl

-- monitorexit
leaves_the_monitor : Steps (thread_at 11 object (Live Run)) (owned 0 1) (thread_at 12 [] (Live Run)) None
leaves_the_monitor = refl

-- a thread that was started with a synchronized run begins when it has the monitor of its object
abbrev guarded : Status → JavaThread
guarded status = record (thread_at 0 [] status) { frames = record { method = 3; pc = 0; locals = One (Ref 0) ∷ One (Ref 0) ∷ []; stack = []; room = 1 } ∷ [] }

begins_guarded : Steps (guarded (Live (Entering 0))) None (guarded (Live Run)) (owned 0 1)
begins_guarded = refl

-- and leaves it at its end
ends_guarded : Steps (guarded (Live Run)) (owned 0 1) (record (guarded Done) { frames = [] }) None
ends_guarded = refl

-- without the monitor its return throws, and the frame stays
abbrev thrown_of : Option State → Option (Option JavaThread × Option Object)
thrown_of made = made >>= λ r. Some (slice_get r.threads 0, slice_get r.memory.heap 1)

ends_without : thrown_of (thread_step thread_world (state (guarded (Live Run) ∷ []) None 5) 0)
    ≡ Some (Some (guarded (Live (Throwing 1))), Some (instance illegal_monitor_state []))
ends_without = refl

-- An exception on its way leaves the monitor too, and here ends the thread, whose name is object 1.
abbrev thrown_state : Option Owner → State
thrown_state owner =
    let x = guarded (Live (Throwing 0)) in
    let r = state (record x { thread = record x.thread { name = 1 } } ∷ []) owner 5 in
    record r { memory = record r.memory { heap = instance interrupted_exception [] ∷ text (codes "t") ∷ [] } }

abbrev ended_with : Option Owner → Option (Option Owner × List ℕ)
ended_with owner = thread_step thread_world (thrown_state owner) 0 >>= λ r. Some (r.owners 0, r.memory.err)

leaves_by_an_exception : ended_with (owned 0 1) ≡ Some (None, codes "Exception in thread \"t\" java.lang.InterruptedException" ++ 10 ∷ [])
unfolding encode_utf8
leaves_by_an_exception = refl

-- without the monitor another exception takes its place
leaves_without : ended_with (owned 1 1) ≡ Some (owned 1 1, codes "Exception in thread \"t\" java.lang.IllegalMonitorStateException" ++ 10 ∷ [])
unfolding encode_utf8
leaves_without = refl

-- ---- instructions that ask, at park, wait and the call

abbrev request_of : Option (Request × Asking) → Option Request
request_of found = found >>= λ x. Some x.0

abbrev AsksAt : ℕ → List Slot → Request → Type 0
AsksAt pc stack q = request_of (asking_at thread_world (state (thread_at pc stack (Live Run) ∷ []) None 5) 0) ≡ Some q

asks_to_enter : AsksAt 1 object (enters 0)
asks_to_enter = refl

asks_to_park : AsksAt 2 [] (parks None)
unfolding native_of native_of_class native_of_method object_classes text_classes system_classes thread_classes
asks_to_park = refl

asks_to_wait : AsksAt 5 object (waits_on 0 None)
unfolding native_of native_of_class native_of_method object_classes
asks_to_wait = refl

-- the monitor of class 9
asks_to_call : AsksAt 8 [] (calls 0xffff0009 (record { method = 5; pc = 0; locals = One (Ref 0xffff0009) ∷ []; stack = []; room = 1 }))
asks_to_call = refl

-- ---- waits that are over

-- park: the permit is taken, and an interrupt stays
goes_on_with_a_permit : Steps (permitted (thread_at 2 [] (Live (Parked None)))) None (thread_at 5 [] (Live Run)) None
unfolding native_of native_of_class native_of_method object_classes text_classes system_classes thread_classes
goes_on_with_a_permit = refl

goes_on_interrupted : Steps (interrupted (thread_at 2 [] (Live (Parked None)))) None (interrupted (thread_at 5 [] (Live Run))) None
unfolding native_of native_of_class native_of_method object_classes text_classes system_classes thread_classes
goes_on_interrupted = refl

-- wait: the monitor is entered as often as before; an interrupt that came later stays
goes_on_notified : Steps (interrupted (thread_at 5 object (Live (Reenter 0 2 Notified)))) None (interrupted (thread_at 8 [] (Live Run))) (owned 0 2)
unfolding native_of native_of_class native_of_method object_classes
goes_on_notified = refl

-- of a wait that an interrupt ended the status is cleared
throws_interrupted : thrown_of (thread_step thread_world (state (interrupted (thread_at 5 object (Live (Reenter 0 2 Interrupted))) ∷ []) None 5) 0)
    ≡ Some (Some (thread_at 5 object (Live (Throwing 1))), Some (instance interrupted_exception []))
throws_interrupted = refl

-- sleep and join: an interrupt is told
throws_where_it_slept : thrown_of (thread_step thread_world (state (interrupted (thread_at 2 [] (Live (Asleep 9))) ∷ []) None 5) 0)
    ≡ Some (Some (thread_at 2 [] (Live (Throwing 1))), Some (instance interrupted_exception []))
throws_where_it_slept = refl

-- a call of a synchronized method goes into its frame
goes_into_the_method : Steps (thread_at 8 [] (Live (Entering 0xffff0009))) None
    (record (thread_at 8 [] (Live Run)) { frames = record { method = 5; pc = 0; locals = One (Ref 0xffff0009) ∷ []; stack = []; room = 1 } ∷ frame_at 8 [] ∷ [] }) None
goes_into_the_method = refl

-- ---- time ends the waits whose deadline it reaches

abbrev timed_of : Option State → Option (List JavaThread × ℕ)
timed_of made = made >>= λ r. Some (r.threads, r.now)

time_goes_on : timed_of (at_time (state (in_phase (Waiting 0 1 (Some 7)) ∷ in_phase (Waiting 0 2 (Some 8)) ∷ in_phase (Waiting 0 3 None) ∷ []) None 5) 7)
    ≡ Some (in_phase (Reenter 0 1 TimedOut) ∷ in_phase (Waiting 0 2 (Some 8)) ∷ in_phase (Waiting 0 3 None) ∷ [], 7)
time_goes_on = refl

time_never_stands : at_time (state [] None 5) 5 ≡ None
time_never_stands = refl

-- ---- a program that can't go on

joins_itself_for_ever : is_stalled thread_world (state (in_phase (Joining 0 None) ∷ []) None 5) ≡ true
joins_itself_for_ever = refl

has_time_to_come : is_stalled thread_world (state (in_phase (Parked (Some 6)) ∷ []) None 5) ≡ false
has_time_to_come = refl

-- ---- a park without a time doesn't read the clock

reads_nothing : reads_clock_next thread_world (state (in_phase Run ∷ []) None 5) 0 ≡ false
reads_nothing = refl
