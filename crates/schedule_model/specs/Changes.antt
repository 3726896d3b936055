-- What a machine owes its schedule: what a step, or time, may change of the threads that don't step.
use Rattle.std.specs.Prelude.{◌≡◌, ◌≢◌, ◌||◌, ◌⊎◌, ℕ, true, false, List, Option, None, Some}
use Rattle.history.specs.declared.entry.Entry.{Entry}
use Rattle.schedule_model.specs.Look.{Look, IsLook, absent, unstarted, in_no_list, in_wait_list, in_entry_list, done, is_live, is_in_line}
use Rattle.schedule_model.specs.Run.{Machine, replay}

-- this thread isn't the one that steps
abbrev pub IsOther : Option ℕ → ℕ → Type 0
IsOther by t = by ≡ Some t → ⊥

-- started just now, or woken from a wait
abbrev pub CameToLine : Look → ℕ → ℕ → Type 0
CameToLine before t o =
    (before.spot t ≡ in_entry_list o) ⊎ ((is_live (before.spot t) ≡ false) ⊎ ((p : ℕ) × (before.spot t ≡ in_wait_list p)))

-- A step of the thread `by`, or a tick of time (None).
pub record Changes (before after : Look) (by : Option ℕ) : Type 0 where
  -- others in line stay in line
  pub in_line : (t o : ℕ) → IsOther by t → before.spot t ≡ in_entry_list o → after.spot t ≡ in_entry_list o
  -- others that may step, and are in no list of a monitor, stay so
  pub ready : (t : ℕ) → IsOther by t → before.spot t ≡ in_no_list → before.enabled t ≡ true →
      (after.spot t ≡ in_no_list) × (after.enabled t ≡ true)
  -- a thread in line that steps takes the monitor
  pub taken : (t o : ℕ) → by ≡ Some t → before.spot t ≡ in_entry_list o → after.owned o ≡ true
  -- who comes to the line of a monitor that nobody owns, before and after, was started just now or woken from a wait
  pub came : (t o : ℕ) → before.owned o ≡ false → after.owned o ≡ false → after.spot t ≡ in_entry_list o → CameToLine before t o
  -- a started thread may step, or is in line
  pub begun : (t : ℕ) → is_live (before.spot t) ≡ false → is_live (after.spot t) ≡ true →
      (after.enabled t || is_in_line (after.spot t)) ≡ true
  -- others stay pinned or not pinned, and who has ended stays so
  pub pinned : (t : ℕ) → IsOther by t → after.pinned t ≡ before.pinned t
  pub over : (t : ℕ) → IsOther by t → before.spot t ≡ done → after.spot t ≡ done

-- ---- thread by thread

-- What a step of another thread, or a tick, does to thread t: it leaves it where it is, and enabled if it was and is in no list; it makes,
-- starts or wakes it from a wait.
pub data ThreadChange (before after : Look) (t : ℕ) : Type 0 where
  stays : after.spot t ≡ before.spot t → (before.spot t ≡ in_no_list → before.enabled t ≡ true → after.enabled t ≡ true) →
      after.pinned t ≡ before.pinned t → ThreadChange before after t
  is_made : before.spot t ≡ absent → after.spot t ≡ unstarted → after.pinned t ≡ before.pinned t → ThreadChange before after t
  starts : before.spot t ≡ unstarted → (after.enabled t || is_in_line (after.spot t)) ≡ true → after.pinned t ≡ before.pinned t →
      ThreadChange before after t
  wakes : (o p : ℕ) → before.spot t ≡ in_wait_list o → after.spot t ≡ in_entry_list p → after.pinned t ≡ before.pinned t →
      ThreadChange before after t

-- What a step does to its own thread, which is live: out of a line it comes by taking the monitor, and into a line where a thread owns it.
pub record OwnChange (before after : Look) (t : ℕ) : Type 0 where
  pub live : is_live (before.spot t) ≡ true
  pub taken : (o : ℕ) → before.spot t ≡ in_entry_list o → after.owned o ≡ true
  pub came : (o : ℕ) → after.spot t ≡ in_entry_list o → before.owned o ≡ true

-- A step that others can't tell: it changes nothing but whether its own thread is pinned.
pub record IsLocal (before after : Look) (t : ℕ) : Type 0 where
  pub spot : (u : ℕ) → after.spot u ≡ before.spot u
  pub enabled : (u : ℕ) → after.enabled u ≡ before.enabled u
  pub owned : (o : ℕ) → after.owned o ≡ before.owned o
  pub pinned : (u : ℕ) → u ≢ t → after.pinned u ≡ before.pinned u

-- ---- what a machine owes

-- a state that some history of steps and ticks leads to
abbrev pub IsReached : {S : Type 0} → Machine S → S → Type 0
IsReached m r = (entries : List Entry) × (replay m m.opening entries ≡ Some r)

-- What a machine owes: its looks are looks, steps and ticks that don't end the program change no more than this, and at the opening
-- thread 0 alone was started, and may step.
pub record KeepsPromises {S : Type 0} (m : Machine S) : Type 0 where
  pub looks : (r : S) → IsReached m r → IsLook (m.look r)
  pub steps : (r q : S) (t n : ℕ) (pick : Option ℕ) → IsReached m r → m.steps r t n pick ≡ Some q → (m.look q).ended ≡ false →
      Changes (m.look r) (m.look q) (Some t)
  pub ticks : (r q : S) (now : ℕ) → IsReached m r → m.tick r now ≡ Some q → (m.look q).ended ≡ false → Changes (m.look r) (m.look q) None
  pub main : (m.look m.opening).spot 0 ≡ in_no_list
  pub main_goes : (m.look m.opening).ended ≡ false → (m.look m.opening).enabled 0 ≡ true
  pub alone : (t : ℕ) → t ≢ 0 → is_live ((m.look m.opening).spot t) ≡ false
  pub unpinned : (t : ℕ) → (m.look m.opening).pinned t ≡ false
