-- What a step makes of the lists of monitors: who waits for a notification, and who is in line (JLS 17.1, 17.2).
use Rattle.std.specs.Prelude.{◌≡◌, ◌≢◌, ℕ, Bool, true, false, Contains, List, [], ◌∷◌, ◌++◌, Some, drop, if◌then◌else◌, slice_get, take}
use Rattle.thread_lists.specs.Lists.{without}
use Rattle.link_model.specs.World.{World}
use Rattle.schedule_model.specs.Look.{Look, Spot, absent, unstarted, in_entry_list, in_wait_list, is_entering, is_waiting}
use Rattle.schedule_model.specs.Schedule.{Schedule}
use Rattle.schedule_model.specs.Puts.{beginning_with, updated_list}
use Rattle.schedule_model.specs.Entries.{after_step, after_tick}
use Rattle.schedule_model.specs.Woken.{AreListed}
use Rattle.ref_model.specs.State.{State}
use Rattle.ref_model.specs.Looks.{look_of}
use Rattle.schedule_soundness.specs.PutLaws.{OthersStayBeside, Stays}

-- ---- the lists of a monitor after a step

abbrev pub wait_list_after : Look → Look → Schedule → ℕ → List ℕ
wait_list_after before after s o = updated_list (is_waiting o) before after (beginning_with (s.wait_list o) after) (s.wait_list o)

abbrev pub entry_list_after : Look → Look → Schedule → ℕ → List ℕ
entry_list_after before after s o = updated_list (is_entering o) before after (beginning_with (s.wait_list o) after) (s.entry_list o)

-- Those of one monitor become these, and those of all others stay.
pub record ListsBecome (before after : Look) (s : Schedule) (o : ℕ) (waits enters : List ℕ) : Type 0 where
  pub waits_are : wait_list_after before after s o ≡ waits
  pub enters_are : entry_list_after before after s o ≡ enters
  pub others_wait : (n : ℕ) → n ≢ o → wait_list_after before after s n ≡ s.wait_list n
  pub others_enter : (n : ℕ) → n ≢ o → entry_list_after before after s n ≡ s.entry_list n

-- ---- they have their threads

-- each thread of a list is in line for this monitor
abbrev pub AreInLine : Look → ℕ → List ℕ → Type 0
AreInLine l o line = (u : ℕ) → Contains line u → l.spot u ≡ in_entry_list o

-- Where the lists have the threads that are there, each once, they do so after a step or a tick, whether or not the program ends with it; ..
abbrev pub StepsKeepLists : Type 0
StepsKeepLists = (w : World) (r q : State) (s : Schedule) (c t : ℕ) (yields : Bool) → AreListed (look_of w r) s →
    AreListed (look_of w q) (after_step (look_of w r) (look_of w q) s c t yields)

abbrev pub TicksKeepLists : Type 0
TicksKeepLists = (w : World) (r q : State) (s : Schedule) (c : ℕ) → AreListed (look_of w r) s →
    AreListed (look_of w q) (after_tick (look_of w r) (look_of w q) s c)

-- .. and then who is in the entry list is in line.
abbrev pub ListedAreInLine : Type 0
ListedAreInLine = (l : Look) (s : Schedule) (o : ℕ) → AreListed l s → AreInLine l o (s.entry_list o)

-- ---- one thread goes elsewhere

-- A list after a thread went from one spot to another: it leaves the list, or comes last to it, or neither.
abbrev pub moved_list : (Spot → Bool) → ℕ → Spot → Spot → List ℕ → List ℕ
moved_list belongs u old new list =
    if belongs new then (if belongs old then list else list ++ u ∷ []) else (if belongs old then without u list else list)

-- a thread is where it was, or was made just now
pub data IsWhereItWas (old new : Spot) : Type 0 where
  stayed : new ≡ old → IsWhereItWas old new
  was_made : old ≡ absent → new ≡ unstarted → IsWhereItWas old new

-- all threads but one are
abbrev pub OneMoves : ℕ → Look → Look → Type 0
OneMoves u before after = (t : ℕ) → t ≢ u → IsWhereItWas (before.spot t) (after.spot t)

-- It is so where all threads but the one that steps stay; and where one beside it doesn't, and the one that steps is where it was.
abbrev pub StepsMoveOne : Type 0
StepsMoveOne = (w : World) (r q : State) (t : ℕ) → ((u : ℕ) → u ≢ t → Stays (slice_get r.threads u) (slice_get q.threads u)) →
    OneMoves t (look_of w r) (look_of w q)

abbrev pub StepsMoveOneBeside : Type 0
StepsMoveOneBeside = (w : World) (r q : State) (t u : ℕ) → OthersStayBeside t u r q → (look_of w q).spot t ≡ (look_of w r).spot t →
    OneMoves u (look_of w r) (look_of w q)

-- Where one thread alone goes elsewhere it alone leaves lists or comes to them. It may be the one that steps, or one that is started,
-- notified or interrupted.
abbrev pub OneMovesInLists : Type 0
OneMovesInLists = (w : World) (r q : State) (s : Schedule) (u o : ℕ) → AreListed (look_of w r) s →
    OneMoves u (look_of w r) (look_of w q) →
    (wait_list_after (look_of w r) (look_of w q) s o ≡
    moved_list (is_waiting o) u ((look_of w r).spot u) ((look_of w q).spot u) (s.wait_list o)) ×
    (entry_list_after (look_of w r) (look_of w q) s o ≡
    moved_list (is_entering o) u ((look_of w r).spot u) ((look_of w q).spot u) (s.entry_list o))

-- ---- so each call of a monitor is met

-- in a list of some monitor
abbrev pub is_in_a_list : Spot → Bool
is_in_a_list (in_wait_list o) = true
is_in_a_list (in_entry_list o) = true
is_in_a_list spot = false

-- Who comes in line for a monitor comes last: by monitorenter, or as it is started.
abbrev pub WhoLinesUpIsLast : Type 0
WhoLinesUpIsLast = (w : World) (r q : State) (s : Schedule) (u o : ℕ) → AreListed (look_of w r) s →
    OneMoves u (look_of w r) (look_of w q) → is_in_a_list ((look_of w r).spot u) ≡ false → (look_of w q).spot u ≡ in_entry_list o →
    ListsBecome (look_of w r) (look_of w q) s o (s.wait_list o) (s.entry_list o ++ u ∷ [])

-- Who takes the monitor leaves the line.
abbrev pub WhoEntersLeavesTheLine : Type 0
WhoEntersLeavesTheLine = (w : World) (r q : State) (s : Schedule) (u o : ℕ) → AreListed (look_of w r) s →
    OneMoves u (look_of w r) (look_of w q) → (look_of w r).spot u ≡ in_entry_list o → is_in_a_list ((look_of w q).spot u) ≡ false →
    ListsBecome (look_of w r) (look_of w q) s o (s.wait_list o) (without u (s.entry_list o))

-- Who waits comes last to the wait list.
abbrev pub WhoWaitsIsLast : Type 0
WhoWaitsIsLast = (w : World) (r q : State) (s : Schedule) (u o : ℕ) → AreListed (look_of w r) s →
    OneMoves u (look_of w r) (look_of w q) → is_in_a_list ((look_of w r).spot u) ≡ false → (look_of w q).spot u ≡ in_wait_list o →
    ListsBecome (look_of w r) (look_of w q) s o (s.wait_list o ++ u ∷ []) (s.entry_list o)

-- Whose wait ends leaves that list, and comes last in line.
abbrev pub WhoseWaitEndsIsLast : Type 0
WhoseWaitEndsIsLast = (w : World) (r q : State) (s : Schedule) (u o : ℕ) → AreListed (look_of w r) s →
    OneMoves u (look_of w r) (look_of w q) → (look_of w r).spot u ≡ in_wait_list o → (look_of w q).spot u ≡ in_entry_list o →
    ListsBecome (look_of w r) (look_of w q) s o (without u (s.wait_list o)) (s.entry_list o ++ u ∷ [])

-- Where that is the first of the wait list (notify) it is the first of that which comes last to the other.
abbrev pub NotifyMovesTheFirst : Type 0
NotifyMovesTheFirst = (w : World) (r q : State) (s : Schedule) (u o : ℕ) → AreListed (look_of w r) s →
    OneMoves u (look_of w r) (look_of w q) → slice_get (s.wait_list o) 0 ≡ Some u → (look_of w q).spot u ≡ in_entry_list o →
    ListsBecome (look_of w r) (look_of w q) s o (drop 1 (s.wait_list o)) (s.entry_list o ++ take 1 (s.wait_list o))

-- Where it is in no list before and after no list changes.
abbrev pub OtherStepsKeepLists : Type 0
OtherStepsKeepLists = (w : World) (r q : State) (s : Schedule) (u o : ℕ) → AreListed (look_of w r) s →
    OneMoves u (look_of w r) (look_of w q) → is_in_a_list ((look_of w r).spot u) ≡ false → is_in_a_list ((look_of w q).spot u) ≡ false →
    ListsBecome (look_of w r) (look_of w q) s o (s.wait_list o) (s.entry_list o)

-- ---- all that wait on a monitor go elsewhere

-- they come in line for it, and all other threads are where they were
pub record AllMove (o : ℕ) (before after : Look) : Type 0 where
  pub waiters : (t : ℕ) → before.spot t ≡ in_wait_list o → after.spot t ≡ in_entry_list o
  pub others : (t : ℕ) → before.spot t ≢ in_wait_list o → after.spot t ≡ before.spot t

-- Then (notifyAll) they come last to its entry list, in their order.
abbrev pub NotifyAllMovesAll : Type 0
NotifyAllMovesAll = (w : World) (r q : State) (s : Schedule) (o : ℕ) → AreListed (look_of w r) s →
    AllMove o (look_of w r) (look_of w q) →
    ListsBecome (look_of w r) (look_of w q) s o [] (s.entry_list o ++ s.wait_list o)
