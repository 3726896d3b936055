-- Whom a step puts into the deque of its carrier.
use Rattle.std.specs.Prelude.{◌≡◌, ◌↔◌, ◌⊎◌, ◌==◌, ◌<◌, ◌&&◌, ℕ, Bool, true, false, Contains, List, [], ◌∷◌, Option, Some, None, filter, if◌then◌else◌}
use Rattle.std.specs.List.Sorted.{IsStrictlyIncreasing}
use Rattle.thread_lists.specs.Lists.{count, push, total}
use Rattle.vthread_state.specs.Threads.{joins}
use Rattle.ref_model.specs.declared.ending.Ending.{Ending}
use Rattle.ref_model.specs.Ending.{ending}
use Rattle.ref_model.specs.State.{State}
use Rattle.ref_model.specs.Step.{enabled}
use Rattle.program_state.specs.declared.state.ProgramState.{ProgramState}
use Rattle.program_state.specs.States.{IsState}
use Rattle.program_state.specs.Waiting.{has_ended_in, lies_in}
use Rattle.machine.specs.declared.made.Others.{Others}
use Rattle.machine.specs.declared.made.Others.TheVariants as moves

-- so the program has ended, or not
abbrev pub EndsSo : ProgramState → Option Ending → Type 0
EndsSo state e = (r : State) (out : ℕ → Bool) → IsState state r out → e ≡ ending r

-- a program that has ended
pub record IsOver (state : ProgramState) : Type 0 where
  pub told : Ending
  pub is : EndsSo state (Some told)

-- so a thread may step, or not
abbrev pub GoesSo : ProgramState → ℕ → Bool → Type 0
GoesSo state u goes = (r : State) (out : ℕ → Bool) → IsState state r out → goes ≡ enabled r u

-- a thread is in none of these deques
abbrev pub is_loose : List (List ℕ) → ℕ → Bool
is_loose lists u = total (count u) lists == 0

-- it is in none, and its frames lie with those that no carrier runs
abbrev pub is_nowhere : ProgramState → List (List ℕ) → ℕ → Bool
is_nowhere state lists u = lies_in state.frozen.items u && is_loose lists u

-- the same, and it may step
abbrev pub is_to_go : ProgramState → State → List (List ℕ) → ℕ → Bool
is_to_go state r lists u = (lies_in state.frozen.items u && enabled r u) && is_loose lists u

-- a thread alone, where there is one, and it is nowhere
abbrev pub if_nowhere : ProgramState → List (List ℕ) → Option ℕ → List ℕ
if_nowhere state lists None = []
if_nowhere state lists (Some u) = if is_nowhere state lists u then u ∷ [] else []

-- ---- with the end of a thread

-- these numbers and one more, in rising order
pub record HasAlso (number : ℕ) (old new : List ℕ) : Type 0 where
  pub rising : IsStrictlyIncreasing new
  pub members : (u : ℕ) → Contains new u ↔ (Contains old u ⊎ (number ≡ u))

-- these threads, and one more if there is one and no carrier has its frames, in rising order
pub record HasFirst (state : ProgramState) (first : Option ℕ) (old new : List ℕ) : Type 0 where
  pub rising : IsStrictlyIncreasing new
  pub members : (u : ℕ) → Contains new u ↔ (Contains old u ⊎ ((first ≡ Some u) × (lies_in state.frozen.items u ≡ true)))

-- Those that wait for the end of thread t, and the first in line for a monitor that it left, if there is one, unless they are mounted. They
-- are in rising order.
pub record AreWokenWith (t : ℕ) (state : ProgramState) (first : Option ℕ) (woken : List ℕ) : Type 0 where
  pub just_these : (u : ℕ) → Contains woken u ↔ (((joins state.threads u ≡ Some t) ⊎ (first ≡ Some u)) × (lies_in state.frozen.items u ≡ true))
  pub rising : IsStrictlyIncreasing woken

-- While the program goes on those of them are put that are in no deque; where it has ended too, the first in line alone.
pub data ArePutAtEnd (state : ProgramState) (lists : List (List ℕ)) (t : ℕ) (first : Option ℕ) (threads : List ℕ) : Type 0 where
  all_over : IsOver state → threads ≡ if_nowhere state lists first → ArePutAtEnd state lists t first threads
  goes_on : (woken : List ℕ) → has_ended_in state.threads t ≡ true → EndsSo state None → AreWokenWith t state first woken →
      threads ≡ filter (is_loose lists) woken → ArePutAtEnd state lists t first threads

-- they come last to the deque of carrier c
pub record IsPutAtEnd (state : ProgramState) (t : ℕ) (first : Option ℕ) (c : ℕ) (old new : List (List ℕ)) : Type 0 where
  pub threads : List ℕ
  pub who : ArePutAtEnd state old t first threads
  pub lists : new ≡ push old c threads

-- whom the end of a thread may let go on beside those that wait for it; a step that does anything else ends no thread
abbrev pub first_freed : Others → Option (Option ℕ)
first_freed moves.Stay = Some None
first_freed moves.Quiet = None
first_freed (moves.Starts u) = None
first_freed (moves.Wakes u) = None
first_freed (moves.Frees first) = Some first
first_freed (moves.Notifies u) = None

-- ---- after a step

-- it lets nobody go on
abbrev pub is_quiet : Others → Bool
is_quiet moves.Stay = true
is_quiet moves.Quiet = true
is_quiet (moves.Starts u) = false
is_quiet (moves.Wakes u) = false
is_quiet (moves.Frees first) = false
is_quiet (moves.Notifies u) = true

-- These are put after a step of thread t, which goes on: nobody; the thread that it started; the one that it gave a permit or an interrupt, if
-- that is in no place and may step; the first in line for a monitor that it left, if that is in no place. Or they are put with its end.
pub data ArePut (state : ProgramState) (lists : List (List ℕ)) (t : ℕ) (others : Others) (threads : List ℕ) : Type 0 where
  nobody : is_quiet others ≡ true → has_ended_in state.threads t ≡ false → threads ≡ [] → ArePut state lists t others threads
  started : (u : ℕ) → others ≡ moves.Starts u → has_ended_in state.threads t ≡ false → threads ≡ u ∷ [] → ArePut state lists t others threads
  woken : (u : ℕ) (goes : Bool) → others ≡ moves.Wakes u → has_ended_in state.threads t ≡ false → EndsSo state None → GoesSo state u goes →
      threads ≡ (if is_nowhere state lists u && goes then u ∷ [] else []) → ArePut state lists t others threads
  freed : (first : Option ℕ) → others ≡ moves.Frees first → has_ended_in state.threads t ≡ false → threads ≡ if_nowhere state lists first →
      ArePut state lists t others threads
  at_end : (first : Option ℕ) → first_freed others ≡ Some first → ArePutAtEnd state lists t first threads → ArePut state lists t others threads

-- they come last to the deque of carrier c
pub record HasPut (state : ProgramState) (t : ℕ) (others : Others) (c : ℕ) (old new : List (List ℕ)) : Type 0 where
  pub threads : List ℕ
  pub who : ArePut state old t others threads
  pub lists : new ≡ push old c threads

-- a thread has a number below this, if there is one
abbrev pub IsBelow : Option ℕ → ℕ → Type 0
IsBelow None n = Unit {0}
IsBelow (Some u) n = u < n

-- so has the thread to which a step does something
abbrev pub IsTouched : Others → ℕ → Type 0
IsTouched moves.Stay n = Unit {0}
IsTouched moves.Quiet n = Unit {0}
IsTouched (moves.Starts u) n = u < n
IsTouched (moves.Wakes u) n = u < n
IsTouched (moves.Frees first) n = IsBelow first n
IsTouched (moves.Notifies u) n = Unit {0}
