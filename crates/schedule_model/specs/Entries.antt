-- What each entry of a history does to the schedule, and when it may stand there.
use Rattle.std.specs.Prelude.{ℕ, ◌==◌, ◌&&◌, ◌||◌, Bool, true, false, [], ◌∷◌, Option, None, Some, if◌then◌else◌, length, nat_lt, not, slice_get, slice_set}
use Rattle.items.specs.Options.{◌>>=◌}
use Rattle.thread_lists.specs.Lists.{push}
use Rattle.run_deques.specs.Take.{next, after_take}
use Rattle.schedule_model.specs.Look.{Look, Spot, in_wait_list, is_done, is_in_line}
use Rattle.schedule_model.specs.Schedule.{Schedule, with_value}
use Rattle.schedule_model.specs.Puts.{all_threads, beginning_with, by_deadline, is_first, after_change}

-- this value where it may be, else nothing
abbrev pub where_allowed : {A : Type 0} → Bool → A → Option A
where_allowed allowed x = if allowed then Some x else None

-- a carrier that is there and has nothing mounted; one that has this thread mounted
abbrev pub is_vacant : Option (Option ℕ) → Bool
is_vacant None = false
is_vacant (Some None) = true
is_vacant (Some (Some t)) = false

abbrev pub holds : ℕ → Option (Option ℕ) → Bool
holds t None = false
holds t (Some None) = false
holds t (Some (Some u)) = u == t

abbrev pub is_idle : Schedule → ℕ → Bool
is_idle s c = is_vacant (slice_get s.mounted c)

abbrev pub has_mounted : Schedule → ℕ → ℕ → Bool
has_mounted s c t = holds t (slice_get s.mounted c)

-- ---- Mount: an idle carrier takes the first thread of its own deque, else of the next deque that isn't empty, counting up and round.

abbrev pub mounted_from : Look → Schedule → ℕ → ℕ × ℕ → Schedule
mounted_from l s c found =
    record s {
      mounted = slice_set s.mounted c (Some found.1);
      deques = after_take s.deques (Some found);
      owes = with_value s.owes found.1 false;
      was_off = with_value s.was_off found.1 (not (l.enabled found.1));
      last = Some c;
    }

abbrev pub mount : Look → Schedule → ℕ → ℕ → Option Schedule
mount l s c t =
    next s.deques c >>= λ found.
    where_allowed (not l.ended && (is_idle s c && (found.1 == t))) (mounted_from l s c found)

-- ---- Step: of a mounted thread that is enabled, unless its carrier owes its Unmount.

-- a thread that a step picks has waited longest for its monitor
abbrev pub is_pick : Look → Schedule → Option ℕ → Bool
is_pick l s None = true
is_pick l s (Some u) = is_first_at (l.spot u)
  where
    is_first_at : Spot → Bool
    is_first_at (in_wait_list o) = is_first (s.wait_list o) u
    is_first_at spot = false

abbrev pub may_step : Look → Schedule → ℕ → ℕ → Option ℕ → Bool
may_step l s c t pick = has_mounted s c t && (not (s.owes t) && (l.enabled t && is_pick l s pick))

-- After its step a thread has to be unmounted where it has ended, and, unless it is pinned, where it yielded or isn't enabled.
abbrev pub has_to_leave : Look → ℕ → Bool → Bool
has_to_leave after t yields = is_done (after.spot t) || (not (after.pinned t) && (yields || not (after.enabled t)))

-- Threads are put into the deque by their number. Those who come to a list are in the order of the monitor's wait list, then by number.
abbrev pub after_step : Look → Look → Schedule → ℕ → ℕ → Bool → Schedule
after_step before after s c t yields =
    record (after_change before after c (all_threads after) (λ o. beginning_with (s.wait_list o) after) s) {
      owes = with_value s.owes t (has_to_leave after t yields);
    }

-- ---- Clock: time goes on. Threads are put into the deque, and come to lists, by their deadlines.

abbrev pub may_tick : Look → Schedule → ℕ → Bool
may_tick l s c = not l.ended && nat_lt c (length s.mounted)

abbrev pub after_tick : Look → Look → Schedule → ℕ → Schedule
after_tick before after s c = after_change before after c (by_deadline before after) (λ o. by_deadline before after) s

-- ---- Unmount: of a thread that has to leave, or that was woken in line and came too late for the monitor.

-- a thread in line that was taken up and, at some time since, couldn't take the monitor
abbrev pub came_late : Look → Schedule → ℕ → Bool
came_late l s t = not (l.pinned t) && (is_in_line (l.spot t) && s.was_off t)

-- after the end only the last entry's carrier puts down its thread, which has ended
abbrev pub is_last_act : Look → Schedule → ℕ → ℕ → Bool
is_last_act l s c t = is_done (l.spot t) && is_carrier s.last
  where
    is_carrier : Option ℕ → Bool
    is_carrier None = false
    is_carrier (Some k) = k == c

abbrev pub may_unmount : Look → Schedule → ℕ → ℕ → Bool
may_unmount l s c t =
    has_mounted s c t && (if l.ended then is_last_act l s c t else (s.owes t || came_late l s t))

-- it comes last to the carrier's deque exactly where it is enabled
abbrev pub after_unmount : Look → Schedule → ℕ → ℕ → Schedule
after_unmount l s c t =
    record s {
      mounted = slice_set s.mounted c None;
      deques = push s.deques c (if l.enabled t then t ∷ [] else []);
      last = Some c;
    }

abbrev pub unmount : Look → Schedule → ℕ → ℕ → Option Schedule
unmount l s c t = where_allowed (may_unmount l s c t) (after_unmount l s c t)
