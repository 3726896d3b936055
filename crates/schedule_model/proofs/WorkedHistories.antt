-- Small histories, entry by entry.
use Rattle.std.proofs.Common.{◌≡◌, ℕ, true, false, List, [], ◌∷◌, ◌++◌, None, Some, refl}
use Rattle.items.specs.Options.{◌>>=◌}
use Rattle.history.specs.declared.entry.Entry.{Entry}
use Rattle.schedule_model.specs.Look.{in_wait_list, in_entry_list}
use Rattle.schedule_model.specs.Schedule.{opening_schedule}
use Rattle.schedule_model.specs.Run.{Machine, is_legal, schedule_of}
use Rattle.schedule_model.specs.Stalled.{is_stalled, is_starved}
use Rattle.schedule_model.proofs.WorkedLooks.{Row, row, runs, parked, fresh, ended, until, under_native, seen, at_end, showing, mounts, unmounts, steps, picks, ticks, places_after, lists_after}

-- ---- main runs alone: it is mounted, makes two entries of steps and a last one, and is unmounted

abbrev alone : Machine ℕ
alone = showing (seen 0 [] (runs ∷ []) ∷ seen 0 [] (runs ∷ []) ∷ seen 0 [] (runs ∷ []) ∷ at_end (ended ∷ []) ∷ []) []

abbrev alone_history : List Entry
alone_history = mounts 0 0 ∷ steps 0 0 ∷ steps 0 0 ∷ steps 0 0 ∷ []

alone_opens : places_after alone 1 [] ≡ Some (None ∷ [], (0 ∷ []) ∷ [])
alone_opens = refl

alone_ends : places_after alone 1 (alone_history ++ unmounts 0 0 ∷ []) ≡ Some (None ∷ [], [] ∷ [])
alone_ends = refl

-- a thread that isn't mounted makes no step, and isn't mounted twice
alone_by_another : is_legal alone 1 (mounts 0 0 ∷ steps 0 1 ∷ []) ≡ false
alone_by_another = refl

alone_unmounted : is_legal alone 1 (steps 0 0 ∷ []) ≡ false
alone_unmounted = refl

alone_twice : is_legal alone 2 (mounts 0 0 ∷ mounts 1 0 ∷ []) ≡ false
alone_twice = refl

-- a thread that goes on isn't unmounted
alone_early : is_legal alone 1 (mounts 0 0 ∷ steps 0 0 ∷ unmounts 0 0 ∷ []) ≡ false
alone_early = refl

-- nothing else comes after the end
alone_late : is_legal alone 1 (alone_history ++ steps 0 0 ∷ []) ≡ false
alone_late = refl

alone_later : is_legal alone 1 (alone_history ++ ticks 0 9 ∷ []) ≡ false
alone_later = refl

-- ---- main starts a virtual thread that runs for ever, on another carrier, and returns

abbrev daemon : Machine ℕ
daemon =
    showing (
    seen 0 [] (runs ∷ fresh ∷ []) ∷ seen 0 [] (runs ∷ runs ∷ []) ∷ seen 0 [] (runs ∷ runs ∷ []) ∷ at_end (ended ∷ runs ∷ []) ∷ []
    ) []

abbrev daemon_history : List Entry
daemon_history = mounts 0 0 ∷ steps 0 0 ∷ mounts 1 1 ∷ steps 1 1 ∷ steps 0 0 ∷ []

-- a started thread comes to the deque of the carrier that made the step
started : places_after daemon 2 (mounts 0 0 ∷ steps 0 0 ∷ []) ≡ Some (Some 0 ∷ None ∷ [], (1 ∷ []) ∷ [] ∷ [])
started = refl

-- an idle carrier takes from the others' deques
taken : places_after daemon 2 (mounts 0 0 ∷ steps 0 0 ∷ mounts 1 1 ∷ []) ≡ Some (Some 0 ∷ Some 1 ∷ [], [] ∷ [] ∷ [])
taken = refl

-- at the end only the thread that ended is unmounted, by the carrier of the last entry
daemon_ends : is_legal daemon 2 (daemon_history ++ unmounts 0 0 ∷ []) ≡ true
daemon_ends = refl

daemon_stays : is_legal daemon 2 (daemon_history ++ unmounts 1 1 ∷ []) ≡ false
daemon_stays = refl

-- a virtual thread calls System.exit, and nothing comes after it
abbrev exits : Machine ℕ
exits = showing (seen 0 [] (runs ∷ fresh ∷ []) ∷ seen 0 [] (runs ∷ runs ∷ []) ∷ at_end (runs ∷ runs ∷ []) ∷ []) []

exit_is_legal : is_legal exits 2 (mounts 0 0 ∷ steps 0 0 ∷ mounts 1 1 ∷ steps 1 1 ∷ []) ≡ true
exit_is_legal = refl

exit_is_last : is_legal exits 2 (mounts 0 0 ∷ steps 0 0 ∷ mounts 1 1 ∷ steps 1 1 ∷ unmounts 1 1 ∷ []) ≡ false
exit_is_last = refl

-- ---- main yields for ever

abbrev yielding : Machine ℕ
yielding = showing (seen 0 [] (runs ∷ []) ∷ seen 0 [] (runs ∷ []) ∷ seen 0 [] (runs ∷ []) ∷ []) (0 ∷ 1 ∷ [])

yield_round : places_after yielding 1 (mounts 0 0 ∷ steps 0 0 ∷ unmounts 0 0 ∷ []) ≡ Some (None ∷ [], (0 ∷ []) ∷ [])
yield_round = refl

yield_again : is_legal yielding 1 (mounts 0 0 ∷ steps 0 0 ∷ unmounts 0 0 ∷ mounts 0 0 ∷ steps 0 0 ∷ unmounts 0 0 ∷ []) ≡ true
yield_again = refl

-- after a yield the thread has to leave first
yield_owes : is_legal yielding 1 (mounts 0 0 ∷ steps 0 0 ∷ steps 0 0 ∷ []) ≡ false
yield_owes = refl

-- ---- time goes on past the deadlines of two threads: the earlier comes first

abbrev sleepers : Machine ℕ
sleepers =
    showing (
    seen 0 [] (runs ∷ until 300 parked ∷ until 200 parked ∷ []) ∷ seen 500 [] (runs ∷ until 300 runs ∷ until 200 runs ∷ []) ∷ []
    ) []

woken_by_time : places_after sleepers 1 (mounts 0 0 ∷ ticks 0 500 ∷ []) ≡ Some (Some 0 ∷ [], (2 ∷ 1 ∷ []) ∷ [])
woken_by_time = refl

-- ---- Threads 1 and 2 wait to be notified on monitor 7, the first of them with a time. Thread 0 takes the monitor, the time is over, and
-- thread 0 notifies the other and leaves.

abbrev waits : Row
waits = row (in_wait_list 7) false

abbrev lines : Row
lines = row (in_entry_list 7) false

abbrev monitor : Machine ℕ
monitor =
    showing (
    seen 0 [] (runs ∷ fresh ∷ fresh ∷ []) ∷
    seen 0 [] (runs ∷ runs ∷ fresh ∷ []) ∷
    seen 0 [] (runs ∷ runs ∷ runs ∷ []) ∷
    seen 0 [] (runs ∷ until 50 waits ∷ runs ∷ []) ∷
    seen 0 [] (runs ∷ until 50 waits ∷ waits ∷ []) ∷
    seen 0 (7 ∷ []) (runs ∷ until 50 waits ∷ waits ∷ []) ∷
    seen 60 (7 ∷ []) (runs ∷ lines ∷ waits ∷ []) ∷
    seen 60 (7 ∷ []) (runs ∷ lines ∷ lines ∷ []) ∷
    seen 60 [] (runs ∷ row (in_entry_list 7) true ∷ row (in_entry_list 7) true ∷ []) ∷
    seen 60 (7 ∷ []) (runs ∷ lines ∷ lines ∷ []) ∷ []
    ) []

abbrev both_wait : List Entry
both_wait =
    mounts 0 0 ∷ steps 0 0 ∷ steps 0 0 ∷ mounts 1 1 ∷ mounts 2 2 ∷ steps 1 1 ∷ steps 2 2 ∷ unmounts 1 1 ∷ unmounts 2 2 ∷ steps 0 0 ∷ []

in_order : lists_after monitor 3 7 both_wait ≡ Some (1 ∷ 2 ∷ [], [])
in_order = refl

timed_out : lists_after monitor 3 7 (both_wait ++ ticks 2 60 ∷ []) ≡ Some (2 ∷ [], 1 ∷ [])
timed_out = refl

-- the thread that has waited longest is notified, and it comes behind those in line
notified : lists_after monitor 3 7 (both_wait ++ ticks 2 60 ∷ picks 0 0 2 ∷ []) ≡ Some ([], 1 ∷ 2 ∷ [])
notified = refl

notified_another : is_legal monitor 3 (both_wait ++ ticks 2 60 ∷ picks 0 0 1 ∷ []) ≡ false
notified_another = refl

-- and no other while it still waits
notified_first : is_legal monitor 3 (both_wait ++ picks 0 0 1 ∷ []) ≡ true
notified_first = refl

notified_second : is_legal monitor 3 (both_wait ++ picks 0 0 2 ∷ []) ≡ false
notified_second = refl

-- nobody is put into a deque while the monitor is owned; then the first in line is
owned : places_after monitor 3 (both_wait ++ ticks 2 60 ∷ picks 0 0 2 ∷ []) ≡ Some (Some 0 ∷ None ∷ None ∷ [], [] ∷ [] ∷ [] ∷ [])
owned = refl

left : places_after monitor 3 (both_wait ++ ticks 2 60 ∷ picks 0 0 2 ∷ steps 0 0 ∷ [])
    ≡ Some (Some 0 ∷ None ∷ None ∷ [], (1 ∷ []) ∷ [] ∷ [] ∷ [])
left = refl

-- Thread 1 is taken up. When thread 0 has taken the monitor again it comes too late, and is unmounted without a step; it keeps its place in
-- line, and as it isn't enabled it comes to no deque.
abbrev taken_up : List Entry
taken_up = both_wait ++ ticks 2 60 ∷ picks 0 0 2 ∷ steps 0 0 ∷ mounts 1 1 ∷ []

in_time : is_legal monitor 3 (taken_up ++ unmounts 1 1 ∷ []) ≡ false
in_time = refl

late : places_after monitor 3 (taken_up ++ steps 0 0 ∷ unmounts 1 1 ∷ [])
    ≡ Some (Some 0 ∷ None ∷ None ∷ [], [] ∷ [] ∷ [] ∷ [])
late = refl

keeps_its_place : lists_after monitor 3 7 (taken_up ++ steps 0 0 ∷ unmounts 1 1 ∷ []) ≡ Some ([], 1 ∷ 2 ∷ [])
keeps_its_place = refl

-- ---- main parks for ever: the program is stalled; under a native frame it is starved while another is enabled

stalls : is_stalled (seen 9 [] (parked ∷ until 9 parked ∷ [])) ≡ true
stalls = refl

stalls_not : is_stalled (seen 9 [] (parked ∷ until 10 parked ∷ [])) ≡ false
stalls_not = refl

abbrev starves_in : Machine ℕ
starves_in = showing (seen 0 [] (runs ∷ []) ∷ seen 0 [] (under_native parked ∷ runs ∷ []) ∷ []) []

starves : (schedule_of starves_in 1 (mounts 0 0 ∷ steps 0 0 ∷ []) >>= λ v. Some (is_starved (starves_in.look v.state) v.schedule)) ≡ Some true
starves = refl

-- a pinned thread stays mounted
pinned_stays : is_legal starves_in 1 (mounts 0 0 ∷ steps 0 0 ∷ unmounts 0 0 ∷ []) ≡ false
pinned_stays = refl

-- where no other thread may step or wait for a time, the program is stalled and not starved
starves_not : is_starved (seen 0 [] (under_native parked ∷ parked ∷ [])) (record (opening_schedule 1) { mounted = Some 0 ∷ [] }) ≡ false
starves_not = refl

-- ---- Two threads join a third, which ends: they come to the deque by number, though the second has a deadline.

abbrev joined : Machine ℕ
joined =
    showing (
    seen 0 [] (runs ∷ parked ∷ until 5 parked ∷ []) ∷ seen 0 [] (ended ∷ runs ∷ until 5 runs ∷ []) ∷ []
    ) []

joiners_come : places_after joined 1 (mounts 0 0 ∷ steps 0 0 ∷ []) ≡ Some (Some 0 ∷ [], (1 ∷ 2 ∷ []) ∷ [])
joiners_come = refl

-- the thread that ended leaves, and the first of the others is taken
joiner_runs : places_after joined 1 (mounts 0 0 ∷ steps 0 0 ∷ unmounts 0 0 ∷ mounts 0 1 ∷ []) ≡ Some (Some 1 ∷ [], (2 ∷ []) ∷ [])
joiner_runs = refl

joiner_waits : is_legal joined 1 (mounts 0 0 ∷ steps 0 0 ∷ unmounts 0 0 ∷ mounts 0 2 ∷ []) ≡ false
joiner_waits = refl

-- ---- Thread 2 waits, then thread 1, and both are notified by one step: they come to the line in the order in which they waited.

abbrev all_notified : Machine ℕ
all_notified =
    showing (
    seen 0 [] (runs ∷ fresh ∷ fresh ∷ []) ∷
    seen 0 [] (runs ∷ runs ∷ fresh ∷ []) ∷
    seen 0 [] (runs ∷ runs ∷ runs ∷ []) ∷
    seen 0 [] (runs ∷ runs ∷ waits ∷ []) ∷
    seen 0 [] (runs ∷ waits ∷ waits ∷ []) ∷
    seen 0 (7 ∷ []) (runs ∷ waits ∷ waits ∷ []) ∷
    seen 0 (7 ∷ []) (runs ∷ lines ∷ lines ∷ []) ∷ []
    ) []

as_they_waited : lists_after all_notified 3 7 (mounts 0 0 ∷ steps 0 0 ∷ steps 0 0 ∷ mounts 1 1 ∷ mounts 2 2 ∷ steps 2 2 ∷ steps 1 1 ∷ steps 0 0 ∷ steps 0 0 ∷ [])
    ≡ Some ([], 2 ∷ 1 ∷ [])
as_they_waited = refl

-- ---- the end: two threads have ended on two carriers, and only the carrier of the last entry acts

abbrev both_end : Machine ℕ
both_end =
    showing (
    seen 0 [] (runs ∷ fresh ∷ []) ∷ seen 0 [] (runs ∷ runs ∷ []) ∷ seen 0 [] (runs ∷ ended ∷ []) ∷ at_end (ended ∷ ended ∷ []) ∷ []
    ) []

abbrev both_end_history : List Entry
both_end_history = mounts 0 0 ∷ steps 0 0 ∷ mounts 1 1 ∷ steps 1 1 ∷ steps 0 0 ∷ []

last_acts : is_legal both_end 2 (both_end_history ++ unmounts 0 0 ∷ []) ≡ true
last_acts = refl

other_acts_not : is_legal both_end 2 (both_end_history ++ unmounts 1 1 ∷ []) ≡ false
other_acts_not = refl

-- nothing is mounted after the end
none_mounted : is_legal daemon 2 (mounts 0 0 ∷ steps 0 0 ∷ steps 0 0 ∷ steps 0 0 ∷ mounts 1 1 ∷ []) ≡ false
none_mounted = refl

-- an entry is a carrier's that is there
no_carrier : is_legal sleepers 1 (mounts 0 0 ∷ ticks 1 500 ∷ []) ≡ false
no_carrier = refl

-- a carrier that has a thread takes no other
busy_carrier : is_legal daemon 1 (mounts 0 0 ∷ steps 0 0 ∷ mounts 0 1 ∷ []) ≡ false
busy_carrier = refl

-- a pinned thread that isn't enabled makes no step
pinned_waits : is_legal starves_in 1 (mounts 0 0 ∷ steps 0 0 ∷ steps 0 0 ∷ []) ≡ false
pinned_waits = refl

-- a thread that isn't pinned starves nobody: its carrier will put it down
loose_starves_not : is_starved (seen 0 [] (parked ∷ runs ∷ [])) (record (opening_schedule 1) { mounted = Some 0 ∷ [] }) ≡ false
loose_starves_not = refl

-- ---- main starts a thread whose synchronized `run` has to wait for a monitor that main owns: it comes to the deque all the same

abbrev starts_in_line : Machine ℕ
starts_in_line = showing (seen 0 (7 ∷ []) (runs ∷ fresh ∷ []) ∷ seen 0 (7 ∷ []) (runs ∷ lines ∷ []) ∷ []) []

started_in_line : places_after starts_in_line 1 (mounts 0 0 ∷ steps 0 0 ∷ []) ≡ Some (Some 0 ∷ [], (1 ∷ []) ∷ [])
started_in_line = refl

-- ---- Thread 1 parks, and is unparked before its carrier puts it down: it isn't put, and comes to its carrier's deque with its Unmount.

abbrev unparked : Machine ℕ
unparked =
    showing (
    seen 0 [] (runs ∷ fresh ∷ []) ∷ seen 0 [] (runs ∷ runs ∷ []) ∷ seen 0 [] (runs ∷ parked ∷ []) ∷ seen 0 [] (runs ∷ runs ∷ []) ∷ []
    ) []

abbrev to_unpark : List Entry
to_unpark = mounts 0 0 ∷ steps 0 0 ∷ mounts 1 1 ∷ steps 1 1 ∷ steps 0 0 ∷ []

unparked_in_place : places_after unparked 2 to_unpark ≡ Some (Some 0 ∷ Some 1 ∷ [], [] ∷ [] ∷ [])
unparked_in_place = refl

unparked_put_down : places_after unparked 2 (to_unpark ++ unmounts 1 1 ∷ []) ≡ Some (Some 0 ∷ None ∷ [], [] ∷ (1 ∷ []) ∷ [])
unparked_put_down = refl

-- ---- Thread 1 comes to the line of main's monitor, and main leaves that before thread 1 is put down: no wake-up is lost.

abbrev left_early : Machine ℕ
left_early =
    showing (
    seen 0 (7 ∷ []) (runs ∷ fresh ∷ []) ∷
    seen 0 (7 ∷ []) (runs ∷ runs ∷ []) ∷
    seen 0 (7 ∷ []) (runs ∷ lines ∷ []) ∷
    seen 0 [] (runs ∷ row (in_entry_list 7) true ∷ []) ∷ []
    ) []

left_in_place : places_after left_early 2 to_unpark ≡ Some (Some 0 ∷ Some 1 ∷ [], [] ∷ [] ∷ [])
left_in_place = refl

left_put_down : places_after left_early 2 (to_unpark ++ unmounts 1 1 ∷ []) ≡ Some (Some 0 ∷ None ∷ [], [] ∷ (1 ∷ []) ∷ [])
left_put_down = refl

-- ---- Thread 1 waits to be notified, and is interrupted while nobody owns the monitor: it comes to a deque.

abbrev interrupted : Machine ℕ
interrupted =
    showing (
    seen 0 [] (runs ∷ fresh ∷ []) ∷
    seen 0 [] (runs ∷ runs ∷ []) ∷
    seen 0 [] (runs ∷ waits ∷ []) ∷
    seen 0 [] (runs ∷ row (in_entry_list 7) true ∷ []) ∷ []
    ) []

interrupted_comes : places_after interrupted 2 (mounts 0 0 ∷ steps 0 0 ∷ mounts 1 1 ∷ steps 1 1 ∷ unmounts 1 1 ∷ steps 0 0 ∷ [])
    ≡ Some (Some 0 ∷ None ∷ [], (1 ∷ []) ∷ [] ∷ [])
interrupted_comes = refl
