-- Monitors as contracts see them, and how each call changes one.
use Rattle.std.specs.Prelude.{◌≡◌, ◌≢◌, ◌<◌, ◌≤◌, ◌+◌, ◌-◌, ◌==◌, ◌&&◌, ℕ, Bool, true, false, List, [], ◌∷◌, ◌++◌, Option, None, Some, drop, if◌then◌else◌, is_none, not, nat_lt, slice_get, take, unwrap_or, MatchResult, Result}
use Rattle.std.specs.Map.{lookup}
use Rattle.thread_lists.specs.Lists.{count, without}
use Rattle.monitors.specs.declared.records.NotOwner.{NotOwner}

-- a monitor: its owner and how often that entered it, the threads that wait to take it, and those that wait to be notified
pub record Monitor : Type 0 where
  pub owner : Option ℕ
  pub count : ℕ
  pub entry_list : List ℕ
  pub wait_list : List ℕ

-- the monitors in use, by object; how many threads may use monitors; how many calls surely need no memory
pub record Monitors : Type 0 where
  pub used : List (ℕ × Monitor)
  pub threads : ℕ
  pub spare : ℕ

-- a monitor that nobody owns, enters or waits for
abbrev pub free : Monitor
free = record { owner = None; count = 0; entry_list = []; wait_list = [] }

abbrev pub is_empty : List ℕ → Bool
is_empty [] = true
is_empty (t ∷ ts) = false

-- nobody owns, enters or waits for it
abbrev pub is_free : Monitor → Bool
is_free m = is_none m.owner && (is_empty m.entry_list && is_empty m.wait_list)

abbrev pub IsInUse : Monitor → Type 0
IsInUse m = is_free m ≡ false

-- the monitor of an object
abbrev pub monitor_of : Monitors → ℕ → Monitor
monitor_of all o = unwrap_or (lookup (λ p. o == p) all.used) free

-- how often a thread is in the two lists of a monitor
abbrev pub count_in : ℕ → Monitor → ℕ
count_in t m = count t m.entry_list + count t m.wait_list

-- a thread waits to take the monitor; it waits to be notified
abbrev pub IsInLine : ℕ → Monitor → Type 0
IsInLine t m = 0 < count t m.entry_list

abbrev pub IsWaiting : ℕ → Monitor → Type 0
IsWaiting t m = 0 < count t m.wait_list

-- the thread is in no list of any monitor
abbrev pub InNoList : Monitors → ℕ → Type 0
InNoList all t = (o : ℕ) → count_in t (monitor_of all o) ≡ 0

-- one monitor changes to m, and all others stay
pub record Becomes (old new : Monitors) (o : ℕ) (m : Monitor) : Type 0 where
  pub changed : monitor_of new o ≡ m
  pub others : (p : ℕ) → p ≢ o → monitor_of new p ≡ monitor_of old p
  pub threads : new.threads ≡ old.threads
  pub spare : old.spare ≤ new.spare + 1

-- another thread is the owner
abbrev pub is_taken : Option ℕ → ℕ → Bool
is_taken None t = false
is_taken (Some owner) t = not (owner == t)

-- a call by t succeeded and t is the owner, or was refused and another is or nobody
abbrev pub IsByOwner : {T : Type 0} → Result T NotOwner → Option ℕ → ℕ → Type 0
IsByOwner result owner t = MatchResult result (λ _. owner ≡ Some t) (λ refusal. (refusal.owner ≡ owner) × (owner ≢ Some t))

-- a monitor that t takes or enters once more, or else waits to take
abbrev pub after_enter : ℕ → Monitor → Monitor
after_enter t m =
    if is_taken m.owner t then record m { entry_list = m.entry_list ++ t ∷ [] } else record m { owner = Some t; count = m.count + 1 }

-- a monitor that its owner leaves once
abbrev pub after_exit : Monitor → Monitor
after_exit m = if nat_lt 1 m.count then record m { count = m.count - 1 } else record m { owner = None; count = 0 }

-- which thread is to be woken then
abbrev pub woken_by_exit : Monitor → Option ℕ
woken_by_exit m = if nat_lt 1 m.count then None else slice_get m.entry_list 0

-- a monitor that t, which was in line for it, takes again
abbrev pub after_retake : ℕ → ℕ → Monitor → Monitor
after_retake t count m = record m { owner = Some t; count = count; entry_list = without t m.entry_list }

-- a monitor that its owner t leaves wholly, to wait for a notification
abbrev pub after_wait : ℕ → Monitor → Monitor
after_wait t m = record m { owner = None; count = 0; wait_list = m.wait_list ++ t ∷ [] }

-- the first that waits comes last in line
abbrev pub after_notify : Monitor → Monitor
after_notify m = record m { entry_list = m.entry_list ++ take 1 m.wait_list; wait_list = drop 1 m.wait_list }

-- all that wait come last in line, in their order
abbrev pub after_notify_all : Monitor → Monitor
after_notify_all m = record m { entry_list = m.entry_list ++ m.wait_list; wait_list = [] }

-- a thread that waits comes last in line
abbrev pub after_leave_wait : ℕ → Monitor → Monitor
after_leave_wait t m = record m { entry_list = m.entry_list ++ t ∷ []; wait_list = without t m.wait_list }

-- a thread comes last in line
abbrev pub after_line_up : ℕ → Monitor → Monitor
after_line_up t m = record m { entry_list = m.entry_list ++ t ∷ [] }
