-- What a carrier knows of the machine while others have it.
use Rattle.std.specs.Prelude.{◌≡◌, ◌<◌, ℕ, List, [], Some, None, is_some}
use Rattle.atomic_table.specs.Seated.{TableId}
use Rattle.history.specs.declared.entry.Entry.{Entry}
use Rattle.ref_model.specs.declared.ending.Ending.{Ending}
use Rattle.turn_lock.specs.Seats.{IsIdle, SeatState}
use Rattle.machine.specs.Legal.{IsLegal}
use Rattle.machine.specs.Machines.{Known, machine_ending}
use Rattle.carrier_turns.specs.declared.ask.Turn.{Turn}
use Rattle.carrier_turns.specs.declared.hand.Hand.{Hand}
use Rattle.carrier_turns.specs.Hands.{Fits}
use Rattle.carrier_turns.specs.Plays.{AreCarriersIdle, IsReadyHand, MayDo}
use Rattle.carrier_turns.specs.Turns.{is_over}
use Rattle.carrier.specs.declared.post.Post.{Post}
use Rattle.carrier.specs.Runs.{IsTimed}
use Rattle.carrier.specs.Shared.{SharedRun}

-- A machine with this history goes back to the first one: it was given the same, and has as many carriers.
pub record IsLater (first : Known) (seen : List Entry) (m : Known) : Type 0 where
  pub setting : m.setting ≡ first.setting
  pub carriers : m.carriers ≡ first.carriers
  pub history : m.history ≡ seen
  pub legal : IsLegal m

-- Between two turns of carrier c: a machine with the history that was seen last had no ending, and the hand fits it, and has done what
-- the last turn asked for.
pub record Knows (first : Known) (c : ℕ) (seen : List Entry) (h : Hand) : Type 0 where
  pub machine : Known
  pub later : IsLater first seen machine
  pub going : machine_ending machine ≡ None
  pub ready : IsReadyHand machine c h

-- Directly after a turn of carrier c, which answered this: the hand fits the machine that was given back, and can do what it is asked for.
-- The run has ended where the answer says it.
pub record HasTurned (run : SharedRun) (c : ℕ) (seen : List Entry) (h : Hand) (answer : Turn) : Type 0 where
  pub machine : Known
  pub later : IsLater run.first seen machine
  pub fits : Fits machine c h
  pub may : MayDo run.first.setting.world h answer
  pub over : is_over answer ≡ is_some (machine_ending machine)

-- What a carrier met at its last turn: this ending of the run. Each entry of time before it has a number that the clock gives, and a reason.
pub record HasMetEnding (run : SharedRun) (seen : List Entry) (told : Ending) : Type 0 where
  pub machine : Known
  pub later : IsLater run.first seen machine
  pub ended : machine_ending machine ≡ Some told
  pub timed : IsTimed run.gives machine

-- The seat of a post doesn't have the turn of this lock; and its hand is that of its carrier, or the run has ended.
pub record IsPost (run : SharedRun) (p : Post) : Type 0 where
  pub idle : IsIdle run.lock p.seat
  pub knows : p.met ≡ None → Knows run.first p.seat.number p.seat.seen p.hand
  pub met : (told : Ending) → p.met ≡ Some told → HasMetEnding run p.seat.seen told

-- The seat of a carrier that met the end of the run: it doesn't have the turn of this lock.
pub record HasLeft (run : SharedRun) (s : SeatState) : Type 0 where
  pub idle : IsIdle run.lock s
  pub told : Ending
  pub met : HasMetEnding run s.seen told

-- ---- when a run begins

-- a machine that begins, and has no ending yet
pub record IsBeginning (m : Known) : Type 0 where
  pub history : m.history ≡ []
  pub legal : IsLegal m
  pub going : machine_ending m ≡ None
  pub carriers_idle : AreCarriersIdle m

-- a seat of this lock for one of so many carriers, which has seen nothing
pub record IsNewSeat (lock : TableId) (carriers : ℕ) (s : SeatState) : Type 0 where
  pub idle : IsIdle lock s
  pub unseen : s.seen ≡ []
  pub below : s.number < carriers
