-- The step of a mounted thread as an entry of the history.
use Rattle.std.specs.Prelude.{◌≡◌, ◌<◌, ◌≤◌, ◌++◌, ◌∷◌, [], ℕ, suc, Bool, true, false, List, Option, Some, None, Result, Ok, Err, IfOk, length, nat_lt}
use Rattle.items.specs.declared.no_memory.NoMemory.{NoMemory}
use Rattle.history.specs.declared.entry.Entry.{Entry}
use Rattle.history.specs.declared.entry.What.{What}
use Rattle.ref_model.specs.declared.ending.Ending.{Ending}
use Rattle.ref_model.specs.declared.ending.Ending.TheVariants.{Limit, Halted}
use Rattle.ref_model.specs.declared.ending.Which.TheVariants.{Threads}
use Rattle.history.specs.declared.entry.What.TheVariants.{Step}
use Rattle.thread_lists.specs.Lists.{Lists}
use Rattle.vthread_state.specs.declared.phase.Phase.TheVariants.{Run}
use Rattle.link_model.specs.World.{World}
use Rattle.state_model.specs.Frames.{Frame}
use Rattle.continuation.specs.Continuation.{Continuation}
use Rattle.schedule_model.specs.Run.{Scheduled, scheduled_after}
use Rattle.ref_model.specs.Setting.{Setting}
use Rattle.ref_model.specs.State.{State, with_frames}
use Rattle.ref_model.specs.Enabled.{has_ended}
use Rattle.ref_model.specs.Entries.{is_grouped}
use Rattle.ref_model.specs.Step.{enabled}
use Rattle.ref_model.specs.Looks.{lacks_threads_next, machine_from, pins_of, reads_clock_next}
use Rattle.schedule_soundness.specs.HistoryLaws.{IsProgramAfter}
use Rattle.program_state.specs.declared.state.ProgramState.{ProgramState}
use Rattle.program_state.specs.States.{IsState}
use Rattle.machine.specs.declared.after.After.{After}
use Rattle.machine.specs.declared.after.After.TheVariants as afters
use Rattle.machine.specs.declared.after.After.TheVariants.{Goes, Runs, Leaves, Waits, Ends, Halts}
use Rattle.machine.specs.declared.made.Attempt.{Attempt}
use Rattle.machine.specs.declared.made.Attempt.TheVariants.{Made, LacksThreads, ReadsClock}
use Rattle.machine.specs.declared.made.Move.{Move}
use Rattle.machine.specs.declared.made.Others.{Others}
use Rattle.machine.specs.declared.made.StepResult.{StepResult}
use Rattle.machine.specs.declared.made.StepResult.TheVariants as results
use Rattle.machine.specs.Hands.{HasHand, IsHeld, IsLive, IsLiveIn}
use Rattle.machine.specs.Insides.{AreParts}
use Rattle.machine.specs.Legal.{IsAccepted}
use Rattle.machine.specs.Moves.{picked}
use Rattle.machine.specs.Puts.{HasPut}

-- A history of a program, after which thread t may step on carrier c, with these frames after local instructions that it doesn't have yet.
pub record StepsFrom (w : World) (carriers : ℕ) (state : ProgramState) (deques : Lists) (on : List (Option ℕ)) (c t n : ℕ) (frames : List Frame) : Type 0 where
  pub setting : Setting
  pub world : setting.world ≡ w
  pub accepted : IsAccepted setting
  pub first : State
  pub before : Scheduled State
  pub after : IsProgramAfter setting first before
  pub parts : AreParts carriers state deques on before
  pub hand : HasHand setting before c t n frames
  pub owes : before.schedule.owes t ≡ false
  pub may : enabled before.state t ≡ true
  pub grouped : is_grouped w before.state t (suc n) ≡ true

-- there is such a history
pub record MayBeMade (w : World) (state : ProgramState) (deques : Lists) (c t : ℕ) (frames : List Frame) : Type 0 where
  pub carriers : ℕ
  pub on : List (Option ℕ)
  pub local : ℕ
  pub from : StepsFrom w carriers state deques on c t local frames

-- whether the thread, which has ended, is pinned, and yielded, and may step or not, goes on after its step, waits, has to leave, or has ended
abbrev pub outcome_of : Bool → Bool → Bool → Bool → After
outcome_of true pinned yields goes_on = Ends
outcome_of false true yields true = Goes
outcome_of false true yields false = Waits
outcome_of false false true goes_on = Leaves
outcome_of false false false true = Goes
outcome_of false false false false = Leaves

-- what is told of it holds
abbrev pub IsTold : World → After → Scheduled State → ℕ → Type 0
IsTold w Goes v t = (v.schedule.owes t ≡ false) × (enabled v.state t ≡ true)
IsTold w Runs v t = (v.schedule.owes t ≡ false) × IsLiveIn v.state t Run × (enabled v.state t ≡ true)
IsTold w Leaves v t = (v.schedule.owes t ≡ true) × IsLive v.state t
IsTold w Waits v t = (v.schedule.owes t ≡ false) × IsHeld w v.state t
IsTold w Ends v t = (v.schedule.owes t ≡ true) × (has_ended v.state t ≡ true)
IsTold w afters.ReadsClock v t = ⊥
IsTold w Halts v t = ⊥

-- The history goes on with the step, which picks this thread or none, after which these are the parts, and the thread has these frames. A step
-- that reads the clock isn't made before this time, and picks none.
pub record Enters (w : World) (carriers : ℕ) (state : ProgramState) (deques : Lists) (on : List (Option ℕ)) (c t n : ℕ) (frames : List Frame)
    (from : StepsFrom w carriers state deques on c t n frames) (now : ℕ) (told : After) (pick : Option ℕ) (new : ProgramState) (left : Lists) (after : List Frame) : Type 0 where
  pub in_time : reads_clock_next w (with_frames from.before.state t frames) t ≡ true → now ≤ from.before.state.now
  pub unread : reads_clock_next w (with_frames from.before.state t frames) t ≡ true → pick ≡ None
  pub then : Scheduled State
  pub makes : scheduled_after (machine_from from.setting from.first) from.before c (Step t (suc n) pick) ≡ Some then
  pub parts : AreParts carriers new left on then
  pub hand : HasHand from.setting then c t 0 after
  pub outcome : IsTold w told then t

-- No step was made, since it would make one more thread than there may be.
pub record Lacks (w : World) (carriers : ℕ) (state : ProgramState) (deques : Lists) (on : List (Option ℕ)) (c t n : ℕ) (frames : List Frame)
    (from : StepsFrom w carriers state deques on c t n frames) (new : ProgramState) (left : Lists) : Type 0 where
  pub parts : AreParts carriers new left on from.before
  pub lacks : lacks_threads_next w (with_frames from.before.state t frames) t ≡ true

-- No step was made, since it reads the clock, and the time is less than this. Nothing has changed.
pub record WaitsForClock (w : World) (carriers : ℕ) (state : ProgramState) (deques : Lists) (on : List (Option ℕ)) (c t n : ℕ) (frames : List Frame)
    (from : StepsFrom w carriers state deques on c t n frames) (now : ℕ) (new : ProgramState) (left : Lists) : Type 0 where
  pub parts : AreParts carriers new left on from.before
  pub later : from.before.state.now < now
  pub reads : reads_clock_next w (with_frames from.before.state t frames) t ≡ true

abbrev pub IsTried : (w : World) (carriers : ℕ) (state : ProgramState) (deques : Lists) (on : List (Option ℕ)) (c t n : ℕ) (frames : List Frame) →
    StepsFrom w carriers state deques on c t n frames → ℕ → Attempt After → Option ℕ → ProgramState → Lists → List Frame → Type 0
IsTried w carriers state deques on c t n frames from now (Made told) pick new left after =
    Enters w carriers state deques on c t n frames from now told pick new left after
IsTried w carriers state deques on c t n frames from now LacksThreads pick new left after = Lacks w carriers state deques on c t n frames from new left
IsTried w carriers state deques on c t n frames from now ReadsClock pick new left after = WaitsForClock w carriers state deques on c t n frames from now new left

-- so it was from each history after which the thread of this continuation may step
abbrev pub IsTriedSo : World → ProgramState → Lists → ℕ → Continuation → ℕ → Result (Attempt After) NoMemory → Option ℕ → ProgramState → Lists → List Frame → Type 0
IsTriedSo w state deques c m now made pick new left after =
    (carriers n : ℕ) (on : List (Option ℕ)) (from : StepsFrom w carriers state deques on c m.thread n m.stack.frames) →
    IfOk made (λ tried. IsTried w carriers state deques on c m.thread n m.stack.frames from now tried pick new left after)

-- what came of a step, in one word, and in parts
abbrev pub told_of : StepResult → Result (Attempt After) NoMemory
told_of results.Goes = Ok (Made Goes)
told_of results.Runs = Ok (Made Runs)
told_of (results.Notifies u) = Ok (Made Goes)
told_of results.Leaves = Ok (Made Leaves)
told_of results.Waits = Ok (Made Waits)
told_of results.Ends = Ok (Made Ends)
told_of results.LacksThreads = Ok LacksThreads
told_of results.ReadsClock = Ok ReadsClock
told_of results.LacksMemory = Err (record {})

-- the thread that it picked
abbrev pub picked_by : StepResult → Option ℕ
picked_by results.Goes = None
picked_by results.Runs = None
picked_by (results.Notifies u) = Some u
picked_by results.Leaves = None
picked_by results.Waits = None
picked_by results.Ends = None
picked_by results.LacksThreads = None
picked_by results.ReadsClock = None
picked_by results.LacksMemory = None

-- ---- the end of a step

-- what becomes of a thread with these frames after its step, which was a yield or not
abbrev pub Becomes : World → ProgramState → ℕ → List Frame → Bool → Attempt After → Type 0
Becomes w state t frames yields (Made after) = (r : State) (out : ℕ → Bool) → IsState state r out →
    after ≡ outcome_of (has_ended r t) (nat_lt 0 (pins_of w frames)) yields (enabled r t)
Becomes w state t frames yields LacksThreads = ⊥
Becomes w state t frames yields ReadsClock = ⊥

-- the same becomes of the thread of a step that did so much to others, which picked the thread that it notified
pub record IsPicking (others : Others) (became : StepResult) (pick : Option ℕ) (tried : Attempt After) : Type 0 where
  pub same : told_of became ≡ Ok tried
  pub pick_is : pick ≡ picked others

-- whom it put and picked, and what becomes of its thread
pub record IsConcluded (w : World) (state : ProgramState) (t : ℕ) (frames : List Frame) (made : Move) (c : ℕ) (old new : Lists) (pick : Option ℕ)
    (tried : Attempt After) : Type 0 where
  pub put : HasPut state t made.others c old.lists new.lists
  pub room : length state.threads.threads ≤ new.threads
  pub outcome : Becomes w state t frames made.yields tried
  pub pick_is : pick ≡ picked made.others

-- ---- the history after a step

-- the entry comes last to it; or nothing was made, and time has to go on first, or the run has ended so
abbrev pub IsEntered : Result (Attempt After) NoMemory → List Entry → Option Ending → ℕ → What → ℕ → List Entry → Option Ending → After → Type 0
IsEntered (Ok (Made after)) history told c step most entries tells result =
    (entries ≡ history ++ record { carrier = c; what = step } ∷ []) × (tells ≡ told) × (result ≡ after)
IsEntered (Ok LacksThreads) history told c step most entries tells result =
    (entries ≡ history) × (tells ≡ Some (Limit Threads most)) × (result ≡ Halts)
IsEntered (Ok ReadsClock) history told c step most entries tells result =
    (entries ≡ history) × (tells ≡ told) × (result ≡ afters.ReadsClock)
IsEntered (Err e) history told c step most entries tells result = (entries ≡ history) × (tells ≡ Some Halted) × (result ≡ Halts)
