-- What each request makes of a small state, beside the API of java.lang.Thread, LockSupport and Object.
use Rattle.std.proofs.Common.{◌≡◌, ℕ, pos, negsuc, true, false, List, [], ◌∷◌, Option, Some, None, refl}
use Rattle.std.specs.Fmt.{digits}
use Rattle.std.specs.Int.{int_wrap}
use Rattle.std.specs.Prelude.{codes, slice_get, ◌==◌, if◌then◌else◌}
use Rattle.items.specs.Options.{◌>>=◌}
use Rattle.instruction_rows.specs.declared.value.Value.TheVariants.{Int, Long, Null, Ref}
use Rattle.instruction_rows.specs.declared.value.Slot.{Slot}
use Rattle.instruction_rows.specs.declared.value.Slot.TheVariants.{One, Second}
use Rattle.vthread_state.specs.declared.phase.Phase.{Phase}
use Rattle.vthread_state.specs.declared.phase.Phase.TheVariants.{Run, Throwing, Entering, Waiting, Reenter, Parked, Asleep, Joining}
use Rattle.vthread_state.specs.declared.phase.Wake.TheVariants.{Notified, Interrupted}
use Rattle.vthread_state.specs.declared.thread.Status.{Status}
use Rattle.vthread_state.specs.declared.thread.Status.TheVariants.{New, Live, Done}
use Rattle.vthread_state.specs.declared.thread.ThreadKind.{ThreadKind}
use Rattle.vthread_state.specs.declared.thread.ThreadKind.TheVariants.{Platform, Virtual}
use Rattle.state_model.specs.Frames.{Frame}
use Rattle.state_model.specs.Objects.{Object, instance, text}
use Rattle.ref_model.specs.Memory.{Memory}
use Rattle.ref_model.specs.State.{JavaThread, Owner, State}
use Rattle.ref_model.specs.Requests.{Request, current, yields, creates, starts, joins, sleeps, interrupts, tells_interrupt, takes_interrupt, tells_alive, tells_virtual, tells_daemon, tells_name, tells_state, sets_daemon, sets_name, parks, unparks, tells_nanos, tells_millis, enters, exits, waits_on, notifies, notifies_all, calls}
use Rattle.ref_model.specs.Asking.{Asking}
use Rattle.ref_model.specs.Requesting.{asked, asked_with}
use Rattle.ref_model.proofs.WorkedThreadWorld.{thread_world, main_method, of_thread, guarded_thread, interrupted_exception, illegal_argument, illegal_monitor_state, illegal_thread_state}

-- ---- thread 0 asks, at an instruction of main, and the next one is at pc 7

abbrev frame_at : ℕ → List Slot → Frame
frame_at pc stack = record { method = main_method; pc = pc; locals = []; stack = stack; room = 2 }

abbrev here : Asking
here = record { frame = frame_at 5 (One Null ∷ []); below = []; next = 7; stack = [] }

abbrev thread_of : ThreadKind → ℕ → Status → List Frame → JavaThread
thread_of kind object status frames = record {
  thread = record { kind = kind; daemon = false; object = object; name = 2; status = status };
  permit = false;
  interrupted = false;
  frames = frames;
}

-- before, and after it has gone on
abbrev asker : JavaThread
asker = thread_of Platform 0 (Live Run) (frame_at 5 (One Null ∷ []) ∷ [])

abbrev gone : JavaThread
gone = record asker { frames = frame_at 7 [] ∷ [] }

-- with this on its operand stack
abbrev given : List Slot → JavaThread
given stack = record asker { frames = frame_at 7 stack ∷ [] }

-- it waits in this phase, at its instruction
abbrev waiting_in : Phase → JavaThread
waiting_in phase = record asker { thread = record asker.thread { status = Live phase } }

-- ---- thread 1 is another one

abbrev other : Status → JavaThread
other status = thread_of Virtual 1 status []

abbrev interrupted : JavaThread → JavaThread
interrupted x = record x { interrupted = true }

abbrev permitted : JavaThread → JavaThread
permitted x = record x { permit = true }

-- ---- states: two Thread objects and a String; time 5; who owns monitor 9

abbrev heap : List Object
heap = instance of_thread (Null ∷ Int (pos 0) ∷ []) ∷ instance of_thread (Null ∷ Int (pos 1) ∷ []) ∷ text (codes "name") ∷ []

abbrev memory : Memory
memory = record { heap = heap; room = 4; statics = []; out = []; err = []; exited = None }

abbrev state : List JavaThread → Option Owner → State
state threads owner = record {
  memory = memory;
  threads = threads;
  most_threads = 3;
  unnamed = 0;
  owners = λ o. if o == 9 then owner else None;
  now = 5;
  main_threw = false;
}

abbrev owned : ℕ → ℕ → Option Owner
owned t count = Some (record { thread = t; count = count })

-- what is seen of a state: the threads, and who owns monitor 9
abbrev seen : Option State → Option (List JavaThread × Option Owner)
seen made = made >>= λ r. Some (r.threads, r.owners 9)

-- with this owner, the request of a thread beside another makes these of both, and this of the owner
abbrev Makes : Option Owner → Request → JavaThread → JavaThread → JavaThread → JavaThread → Option Owner → Type 0
Makes owner q mine its mine_after its_after owner_after =
    seen (asked thread_world (state (mine ∷ its ∷ []) owner) 0 here q) ≡ Some (mine_after ∷ its_after ∷ [], owner_after)

-- nobody owns the monitor
abbrev Does : Request → JavaThread → JavaThread → JavaThread → JavaThread → Type 0
Does q mine its mine_after its_after = Makes None q mine its mine_after its_after None

-- what is thrown: a new object of this class, and the thread is as before but for its phase and its interrupt status
abbrev told : Option State → Option (Option Object × Option JavaThread)
told made = made >>= λ r. Some (slice_get r.memory.heap 3, slice_get r.threads 0)

abbrev Throws : Option Owner → Request → JavaThread → JavaThread → ℕ → Type 0
Throws owner q mine its class =
    told (asked thread_world (state (mine ∷ its ∷ []) owner) 0 here q) ≡ Some (Some (instance class []), Some (waiting_in (Throwing 3)))

-- ---- java.lang.Thread

itself : Does current asker (other New) (given (One (Ref 0) ∷ [])) (other New)
itself = refl

yielded : Does yields asker (other New) gone (other New)
yielded = refl

-- a daemon by its kind; the third thread, with a name of its own, and the number 2 in its object
abbrev made_of : Option State → Option (Option Object × List JavaThread)
made_of after = after >>= λ r. Some (slice_get r.memory.heap 1, r.threads)

made : made_of (asked thread_world (state (asker ∷ other New ∷ []) None) 0 here (creates Virtual 1 (Some 2)))
    ≡ Some (
      Some (instance of_thread (Null ∷ Int (pos 2) ∷ [])),
      gone ∷ other New
          ∷ record (other New) { thread = record { kind = Virtual; daemon = true; object = 1; name = 2; status = New } } ∷ [],
    )
made = refl

-- without a name: a new String, and the next number for names
abbrev named_of : Option State → Option (Option Object × ℕ × ℕ)
named_of after = after >>= λ r. Some (slice_get r.memory.heap 3, r.unnamed, r.memory.room)

named_by_number : named_of (asked thread_world (state (asker ∷ []) None) 0 here (creates Platform 1 None))
    ≡ Some (Some (text (codes "Thread-0")), 1, 2)
unfolding digits
named_by_number = refl

empty_name : named_of (asked thread_world (state (asker ∷ []) None) 0 here (creates Virtual 1 None)) ≡ Some (Some (text []), 0, 3)
empty_name = refl

no_fourth_thread : asked thread_world (state (asker ∷ other New ∷ other New ∷ []) None) 0 here (creates Virtual 1 None) ≡ None
no_fourth_thread = refl

-- started once, with the frame of the selected run
started_anew : Does (starts 1) asker (other New) gone
    (thread_of Virtual 1 (Live Run) (record { method = 1; pc = 0; locals = One (Ref 1) ∷ []; stack = []; room = 1 } ∷ []))
started_anew = refl

-- a synchronized run waits for the monitor of its object first
abbrev guarded_state : State
guarded_state =
    let r = state (asker ∷ other New ∷ []) None in
    record r { memory = record memory { heap = instance of_thread [] ∷ instance guarded_thread (Null ∷ Int (pos 1) ∷ []) ∷ [] } }

started_guarded : (asked thread_world guarded_state 0 here (starts 1) >>= λ r. slice_get r.threads 1)
    ≡ Some (thread_of Virtual 1 (Live (Entering 1))
    (record { method = 3; pc = 0; locals = One (Ref 1) ∷ One (Ref 1) ∷ []; stack = []; room = 1 } ∷ []))
started_guarded = refl

started_twice : Throws None (starts 1) asker (other (Live Run)) illegal_thread_state
started_twice = refl

started_after_its_end : Throws None (starts 1) asker (other Done) illegal_thread_state
started_after_its_end = refl

-- join waits for a live thread; 0 is no time
joined : Does (joins 1 None) asker (other (Live Run)) (waiting_in (Joining 1 None)) (other (Live Run))
joined = refl

joined_for_no_time : Does (joins 1 (Some (pos 0))) asker (other (Live Run)) (waiting_in (Joining 1 None)) (other (Live Run))
joined_for_no_time = refl

joined_for_two_millis : Does (joins 1 (Some (pos 2))) asker (other (Live Run)) (waiting_in (Joining 1 (Some 2000005))) (other (Live Run))
joined_for_two_millis = refl

-- a thread that is new or done is joined at once, and the interrupt status stays
joined_new : Does (joins 1 None) (interrupted asker) (other New) (interrupted gone) (other New)
joined_new = refl

joined_done : Does (joins 1 None) (interrupted asker) (other Done) (interrupted gone) (other Done)
joined_done = refl

joined_interrupted : Throws None (joins 1 None) (interrupted asker) (other (Live Run)) interrupted_exception
joined_interrupted = refl

-- the time is judged first
joined_for_less_than_nothing : Throws None (joins 1 (Some (negsuc 0))) asker (other New) illegal_argument
joined_for_less_than_nothing = refl

asleep : Does (sleeps (pos 1)) asker (other New) (waiting_in (Asleep 1000005)) (other New)
asleep = refl

slept_for_nothing : Does (sleeps (pos 0)) asker (other New) gone (other New)
slept_for_nothing = refl

slept_interrupted : Throws None (sleeps (pos 0)) (interrupted asker) (other New) interrupted_exception
slept_interrupted = refl

slept_for_less_than_nothing : Throws None (sleeps (negsuc 4)) asker (other New) illegal_argument
slept_for_less_than_nothing = refl

-- the latest deadline
slept_for_ever : Does (sleeps (pos 0x7fffffffffffffff)) asker (other New) (waiting_in (Asleep 0xffffffffffffffff)) (other New)
slept_for_ever = refl

interrupted_live : Does (interrupts 1) asker (other (Live Run)) gone (interrupted (other (Live Run)))
interrupted_live = refl

interrupted_new : Does (interrupts 1) asker (other New) gone (other New)
interrupted_new = refl

interrupted_itself : Does (interrupts 0) asker (other New) (interrupted gone) (other New)
interrupted_itself = refl

-- it ends a wait on a monitor
interrupted_waiting : Does (interrupts 1) asker (other (Live (Waiting 9 2 None))) gone (interrupted (other (Live (Reenter 9 2 Interrupted))))
interrupted_waiting = refl

is_interrupted : Does (tells_interrupt 1) asker (interrupted (other (Live Run))) (given (One (Int (pos 1)) ∷ [])) (interrupted (other (Live Run)))
is_interrupted = refl

interrupt_taken : Does takes_interrupt (interrupted asker) (other New) (given (One (Int (pos 1)) ∷ [])) (other New)
interrupt_taken = refl

alive : Does (tells_alive 1) asker (other (Live Run)) (given (One (Int (pos 1)) ∷ [])) (other (Live Run))
alive = refl

not_alive : Does (tells_alive 1) asker (other Done) (given (One (Int (pos 0)) ∷ [])) (other Done)
not_alive = refl

virtual : Does (tells_virtual 1) asker (other New) (given (One (Int (pos 1)) ∷ [])) (other New)
virtual = refl

no_daemon : Does (tells_daemon 0) asker (other New) (given (One (Int (pos 0)) ∷ [])) (other New)
no_daemon = refl

name : Does (tells_name 1) asker (other New) (given (One (Ref 2) ∷ [])) (other New)
name = refl

-- objects 4 to 9 are the states
new_state : Does (tells_state 1) asker (other New) (given (One (Ref 4) ∷ [])) (other New)
new_state = refl

waiting_state : Does (tells_state 1) asker (other (Live (Parked None))) (given (One (Ref 7) ∷ [])) (other (Live (Parked None)))
waiting_state = refl

renamed : Does (sets_name 0 1) asker (other New) (record gone { thread = record gone.thread { name = 1 } }) (other New)
renamed = refl

abbrev platform : Status → JavaThread
platform status = thread_of Platform 1 status []

made_a_daemon : Does (sets_daemon 1 true) asker (platform New) gone (record (platform New) { thread = record { kind = Platform; daemon = true; object = 1; name = 2; status = New } })
made_a_daemon = refl

virtual_threads_are_daemons : Throws None (sets_daemon 1 false) asker (other (Live Run)) illegal_argument
virtual_threads_are_daemons = refl

too_late_for_a_daemon : Throws None (sets_daemon 1 false) asker (platform (Live Run)) illegal_thread_state
too_late_for_a_daemon = refl

-- ---- LockSupport

-- park takes the permit first, and leaves an interrupt as it is
parked_with_permit : Does (parks None) (permitted (interrupted asker)) (other New) (interrupted gone) (other New)
parked_with_permit = refl

parked_interrupted : Does (parks None) (interrupted asker) (other New) (interrupted gone) (other New)
parked_interrupted = refl

parked : Does (parks None) asker (other New) (waiting_in (Parked None)) (other New)
parked = refl

parked_for_three_nanos : Does (parks (Some (pos 3))) asker (other New) (waiting_in (Parked (Some 8))) (other New)
parked_for_three_nanos = refl

-- without a time the permit stays
parked_for_nothing : Does (parks (Some (pos 0))) (permitted asker) (other New) (permitted gone) (other New)
parked_for_nothing = refl

unparked : Does (unparks 1) asker (other (Live (Parked None))) gone (permitted (other (Live (Parked None))))
unparked = refl

unparked_twice : Does (unparks 1) asker (permitted (other (Live Run))) gone (permitted (other (Live Run)))
unparked_twice = refl

unparked_new : Does (unparks 1) asker (other New) gone (other New)
unparked_new = refl

unparked_done : Does (unparks 1) asker (other Done) gone (other Done)
unparked_done = refl

-- ---- the clock

nanos : Does tells_nanos asker (other New) (given (Second ∷ One (Long (pos 5)) ∷ [])) (other New)
unfolding int_wrap
nanos = refl

millis : Does tells_millis asker (other New) (given (Second ∷ One (Long (pos 0)) ∷ [])) (other New)
millis = refl

-- ---- monitors

entered : Makes None (enters 9) asker (other New) gone (other New) (owned 0 1)
entered = refl

entered_again : Makes (owned 0 1) (enters 9) asker (other New) gone (other New) (owned 0 2)
entered_again = refl

entering : Makes (owned 1 1) (enters 9) asker (other (Live Run)) (waiting_in (Entering 9)) (other (Live Run)) (owned 1 1)
entering = refl

left_once : Makes (owned 0 2) (exits 9) asker (other New) gone (other New) (owned 0 1)
left_once = refl

left : Makes (owned 0 1) (exits 9) asker (other New) gone (other New) None
left = refl

left_by_another : Throws (owned 1 1) (exits 9) asker (other (Live Run)) illegal_monitor_state
left_by_another = refl

left_by_nobody : Throws None (exits 9) asker (other New) illegal_monitor_state
left_by_nobody = refl

-- wait leaves the monitor wholly
waits_alone : Makes (owned 0 2) (waits_on 9 None) asker (other New) (waiting_in (Waiting 9 2 None)) (other New) None
waits_alone = refl

waits_with_a_time : Makes (owned 0 1) (waits_on 9 (Some (pos 1))) asker (other New) (waiting_in (Waiting 9 1 (Some 1000005))) (other New) None
waits_with_a_time = refl

-- first the time, then the owner, then the interrupt
waits_for_less_than_nothing : Throws None (waits_on 9 (Some (negsuc 0))) asker (other New) illegal_argument
waits_for_less_than_nothing = refl

waits_interrupted : Throws (owned 0 1) (waits_on 9 None) (interrupted asker) (other New) interrupted_exception
waits_interrupted = refl

-- where the thread isn't the owner, the interrupt status stays
waits_without_monitor : told (asked thread_world (state (interrupted asker ∷ []) None) 0 here (waits_on 9 None))
    ≡ Some (Some (instance illegal_monitor_state []), Some (interrupted (waiting_in (Throwing 3))))
waits_without_monitor = refl

-- ---- notify picks one of those who wait, and nobody where none does

abbrev waiter : JavaThread
waiter = other (Live (Waiting 9 1 None))

abbrev notified : JavaThread
notified = other (Live (Reenter 9 1 Notified))

notified_one : seen (asked_with (state (asker ∷ waiter ∷ waiter ∷ []) (owned 0 1)) 0 here 2 (notifies 9)) ≡ Some (gone ∷ waiter ∷ notified ∷ [], owned 0 1)
notified_one = refl

-- one has to be picked
notified_none : asked thread_world (state (asker ∷ waiter ∷ []) (owned 0 1)) 0 here (notifies 9) ≡ None
notified_none = refl

notified_nobody : Makes (owned 0 1) (notifies 9) asker (other (Live (Waiting 8 1 None))) gone (other (Live (Waiting 8 1 None))) (owned 0 1)
notified_nobody = refl

-- of another monitor, or by another thread, nobody is picked
notified_of_another : asked_with (state (asker ∷ other (Live (Waiting 8 1 None)) ∷ []) (owned 0 1)) 0 here 1 (notifies 9) ≡ None
notified_of_another = refl

notified_by_another : asked_with (state (asker ∷ waiter ∷ []) (owned 1 1)) 0 here 1 (notifies 9) ≡ None
notified_by_another = refl

notified_without_monitor : Throws (owned 1 1) (notifies 9) asker waiter illegal_monitor_state
notified_without_monitor = refl

notified_all : seen (asked thread_world (state (asker ∷ waiter ∷ other (Live (Waiting 8 1 None)) ∷ waiter ∷ []) (owned 0 1)) 0 here (notifies_all 9))
    ≡ Some (gone ∷ notified ∷ other (Live (Waiting 8 1 None)) ∷ notified ∷ [], owned 0 1)
notified_all = refl

-- ---- a call of a synchronized method

abbrev callee : Frame
callee = record { method = 5; pc = 0; locals = One (Ref 9) ∷ []; stack = []; room = 1 }

called : Makes None (calls 9 callee) asker (other New) (record asker { frames = callee ∷ frame_at 5 [] ∷ [] }) (other New) (owned 0 1)
called = refl

called_too_early : Makes (owned 1 1) (calls 9 callee) asker (other (Live Run)) (waiting_in (Entering 9)) (other (Live Run)) (owned 1 1)
called_too_early = refl
