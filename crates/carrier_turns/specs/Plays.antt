-- Turns of several carriers, one after another.
use Rattle.std.specs.Prelude.{◌≡◌, ◌<◌, ℕ, true, List, ◌∷◌, ◌++◌, Some, is_some, length, slice_get}
use Rattle.std.specs.List.{All}
use Rattle.history.specs.declared.entry.Entry.{Entry}
use Rattle.history.specs.declared.entry.What.TheVariants.{Clock}
use Rattle.link_model.specs.World.{World}
use Rattle.machine.specs.Hands.{Idle}
use Rattle.machine.specs.Machines.{Known, machine_ending}
use Rattle.carrier_turns.specs.declared.ask.Ask.TheVariants.{Local, Freeze}
use Rattle.carrier_turns.specs.declared.hand.Hand.{Hand}
use Rattle.carrier_turns.specs.declared.plays.TurnOf.{TurnOf}
use Rattle.carrier_turns.specs.declared.ask.Turn.{Turn}
use Rattle.carrier_turns.specs.declared.ask.Turn.TheVariants.{Run}
use Rattle.carrier_turns.specs.Hands.{Fits, HasDone, MayFreeze, MayRun}
use Rattle.carrier_turns.specs.Turns.{Appends, HadReason, StallsAreTold, entry_by, goes_on, is_over, turns_left}

-- it fits, and has done what its last turn asked for
pub record IsReadyHand (m : Known) (c : ℕ) (h : Hand) : Type 0 where
  pub fits : Fits m c h
  pub done : HasDone h

-- it can do what its turn answered
abbrev pub MayDo : World → Hand → Turn → Type 0
MayDo w h (Run (Local t)) = MayRun w h
MayDo w h (Run Freeze) = MayFreeze h
MayDo w h answer = HasDone h

-- A turn of a carrier, and what it asked for.
pub record IsDoneTurn (old new : Known) (c now : ℕ) (h g : Hand) (answer : Turn) : Type 0 where
  pub appends : Appends old new c now
  pub reason : (later : List Entry) → appends.entries ≡ entry_by c (Clock now) ∷ later → HadReason old new c now later
  pub over : is_over answer ≡ is_some (machine_ending new)
  pub ended : is_some (machine_ending old) ≡ true → new ≡ old
  pub told : StallsAreTold old → StallsAreTold new
  pub nearer : goes_on answer ≡ true → turns_left new g < turns_left old h

-- There is a hand for each carrier, and each fits and has done what its last turn asked for.
pub record HandsFit (m : Known) (hands : List Hand) : Type 0 where
  pub count : length hands ≡ m.carriers
  pub fit : (c : ℕ) (h : Hand) → slice_get hands c ≡ Some h → IsReadyHand m c h

-- no carrier has a thread mounted, as when a machine begins
abbrev pub AreCarriersIdle : Known → Type 0
AreCarriersIdle m = (c : ℕ) → c < m.carriers → Idle m c

-- each turn is that of a carrier of the machine
abbrev pub AreTurnsOf : Known → List TurnOf → Type 0
AreTurnsOf m turns = All (λ (turn : TurnOf). turn.carrier < m.carriers) turns

-- the history grew at its end, and what was given stayed
pub record GoesOnFrom (old new : Known) : Type 0 where
  pub entries : List Entry
  pub history : new.history ≡ old.history ++ entries
  pub setting : new.setting ≡ old.setting
  pub carriers : new.carriers ≡ old.carriers
