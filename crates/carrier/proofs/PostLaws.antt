-- From one turn of a carrier to its next.
use Rattle.std.proofs.Common.{◌≡◌, ◌≢◌, ◌==◌, ◌<◌, ℕ, suc, Bool, true, false, cond, List, [], ◌∷◌, ◌++◌, Option, Some, None, length, refl, sym, ap, ◌∙◌, subst, arith, length-append, eq-eqb}
use Rattle.std.specs.Prelude.{All, is_some}
use Rattle.std.proofs.lemmas.List.Elements.{filter-append, All-cons, All-nil}
use Rattle.items.specs.First.{Each}
use Rattle.history.specs.declared.entry.Entry.{Entry}
use Rattle.history.specs.declared.entry.What.TheVariants.{Step, Unmount}
use Rattle.history.specs.Carriers.{made_by}
use Rattle.turn_lock.specs.Seats.{Continues, HasSeenAll, SeatState}
use Rattle.link_model.specs.World.{World}
use Rattle.ref_model.specs.declared.ending.Ending.{Ending}
use Rattle.ref_model.specs.declared.limits.Limits.{Limits}
use Rattle.ref_model.specs.Setting.{Setting}
use Rattle.machine.specs.Hands.{Idle}
use Rattle.machine.specs.Legal.{IsLegal}
use Rattle.machine.specs.Machines.{Known, machine_ending}
use Rattle.operand_soundness.specs.Ready.{IsReady}
use Rattle.carrier_turns.specs.declared.ask.Turn.{Turn}
use Rattle.carrier_turns.specs.declared.hand.Hand.{Hand}
use Rattle.carrier_turns.specs.Hands.{Fits, FitsAsBefore, HasDone}
use Rattle.carrier_turns.specs.Plays.{MayDo}
use Rattle.carrier_turns.specs.Turns as turns
use Rattle.carrier_turns.specs.Turns.{Appends, AreActs, AreOfTurn, IsTurn, is_over}
use Rattle.carrier_turns.proofs.EndingLaws.{none_by}
use Rattle.carrier_turns.proofs.FitLaws.{may_do}
use Rattle.carrier_turns.proofs.OutlastLaws.{fits_outlasts}
use Rattle.carrier_turns.proofs.PlayLaws.{is_ready}
use Rattle.carrier.specs.declared.post.Post.{Post}
use Rattle.carrier.specs.Posts.{HasLeft, HasMetEnding, HasTurned, IsBeginning, IsLater, IsNewSeat, IsPost, Knows}
use Rattle.carrier.specs.Runs.{IsTimed}
use Rattle.carrier.specs.Shared.{MachineAndClock, SharedRun, machine_parts}
use Rattle.carrier.proofs.RunLaws.{same_carriers, same_parts, same_setting}

-- ---- the setting of a machine with its clock

module _ {C : Type 0} (t u : MachineAndClock C) where
  abbrev pub Same : Type 0
  Same = ◌≡◌ {A = (World × ℕ × Limits × ℕ) × C} (machine_parts t.machine, t.clock) (machine_parts u.machine, u.clock)

  pub parts_of : Same → machine_parts t.machine ≡ machine_parts u.machine
  parts_of e = ap (λ (x : (World × ℕ × Limits × ℕ) × C). x.0) e

  pub clock_of : Same → t.clock ≡ u.clock
  clock_of e = ap (λ (x : (World × ℕ × Limits × ℕ) × C). x.1) e

  pub both_parts : machine_parts t.machine ≡ machine_parts u.machine → t.clock ≡ u.clock → Same
  both_parts parts clock = λ i. (parts i, clock i)

-- ---- from give to take: entries of others

nothing_more : (xs ys : List Entry) → xs ++ ys ≡ xs → ys ≡ []
nothing_more xs [] e = refl
nothing_more xs (y ∷ ys) e = absurd (let l = sym (length-append xs (y ∷ ys)) ∙ ap length e in omega arith)

first_other : (c : ℕ) (x : Entry) (xs : List Entry) (b : Bool) → (x.carrier == c) ≡ b → cond b (x ∷ made_by c xs) (made_by c xs) ≡ []
    → (made_by c xs ≡ [] → Each (λ (e : Entry). e.carrier ≢ c) xs) → Each (λ (e : Entry). e.carrier ≢ c) (x ∷ xs)
first_other c x xs true is none rest = absurd cc
first_other c x xs false is none rest = ((λ same. absurd (let t = eq-eqb x.carrier c same in cc)), rest none)

all_others : (c : ℕ) (es : List Entry) → made_by c es ≡ [] → Each (λ (e : Entry). e.carrier ≢ c) es
all_others c [] none = tt
all_others c (x ∷ xs) none = first_other c x xs (x.carrier == c) refl none (all_others c xs)

others_since : (c : ℕ) (seen es log : List Entry) → seen ++ es ≡ log → made_by c log ≡ made_by c seen → Each (λ (e : Entry). e.carrier ≢ c) es
others_since c seen es log is exact =
    all_others c es (nothing_more (made_by c seen) (made_by c es)
    (sym (filter-append (λ (e : Entry). e.carrier == c) seen es) ∙ ap (made_by c) is ∙ exact))

-- the hand fits the machine that is taken
pub fits_taken : (first new : Known) (s : SeatState) (h : Hand) → Knows first s.number s.seen h → machine_parts new ≡ machine_parts first → HasSeenAll new.history s → Fits new s.number h
fits_taken first new s h knows same all =
    let m = knows.machine in
    let es = all.begins.0 in
    fits_outlasts m new es s.number h knows.later.legal knows.going (same_setting new first same ∙ sym knows.later.setting)
    (same_carriers new first same ∙ sym knows.later.carriers) (sym all.begins.1 ∙ ap (λ (xs : List Entry). xs ++ es) (sym knows.later.history))
    (others_since s.number s.seen es new.history all.begins.1 all.exact) knows.ready.fits

-- ---- from a turn to give: entries of one's own

own_acts : (c : ℕ) (es : List Entry) → AreActs c es → All (λ (e : Entry). e.carrier ≡ c) es
own_acts c es (turns.none is) = subst (All (λ (e : Entry). e.carrier ≡ c)) (sym is) (All-nil (λ (e : Entry). e.carrier ≡ c))
own_acts c es (turns.mount t is) = subst (All (λ (e : Entry). e.carrier ≡ c)) (sym is) (All-cons (λ (e : Entry). e.carrier ≡ c) _ [] refl (All-nil (λ (e : Entry). e.carrier ≡ c)))
own_acts c es (turns.unmount t is) = subst (All (λ (e : Entry). e.carrier ≡ c)) (sym is) (All-cons (λ (e : Entry). e.carrier ≡ c) _ [] refl (All-nil (λ (e : Entry). e.carrier ≡ c)))
own_acts c es (turns.step t n pick is) = subst (All (λ (e : Entry). e.carrier ≡ c)) (sym is) (All-cons (λ (e : Entry). e.carrier ≡ c) _ [] refl (All-nil (λ (e : Entry). e.carrier ≡ c)))
own_acts c es (turns.last_step t n pick is) =
    subst (All (λ (e : Entry). e.carrier ≡ c)) (sym is)
    (All-cons (λ (e : Entry). e.carrier ≡ c) (turns.entry_by c (Step t (suc n) pick)) (turns.entry_by c (Unmount t) ∷ []) refl
    (All-cons (λ (e : Entry). e.carrier ≡ c) (turns.entry_by c (Unmount t)) [] refl (All-nil (λ (e : Entry). e.carrier ≡ c))))

own_entries : (c now : ℕ) (es : List Entry) → AreOfTurn c now es → All (λ (e : Entry). e.carrier ≡ c) es
own_entries c now es (turns.acts are) = own_acts c es are
own_entries c now es (turns.timed later are is) =
    subst (All (λ (e : Entry). e.carrier ≡ c)) (sym is) (All-cons (λ (e : Entry). e.carrier ≡ c) _ later refl (own_acts c later are))

pub continues_by : (old new : Known) (c now : ℕ) (seen : List Entry) → Appends old new c now → seen ≡ old.history → Continues c seen new.history
continues_by old new c now seen a same =
    record { new = a.entries; all = a.history ∙ ap (λ (es : List Entry). es ++ a.entries) (sym same); own = own_entries c now a.entries a.of_turn }

-- what the machine was given stays in a turn
pub parts_stay : (old new : Known) (c now : ℕ) → Appends old new c now → machine_parts new ≡ machine_parts old
parts_stay old new c now a = same_parts new old a.setting a.carriers

-- ---- after a turn

module _ (run : SharedRun) (new : Known) (s : SeatState) (same : machine_parts new ≡ machine_parts run.first) (legal : IsLegal new) (seen : s.seen ≡ new.history) where
  later : IsLater run.first s.seen new
  later = record { setting = same_setting new run.first same; carriers = same_carriers new run.first same; history = sym seen; legal = legal }

  -- of the seat, once the machine is given back
  pub turned_on : (old : Known) (c now : ℕ) (h g : Hand) (answer : Turn) → Fits new c g → IsTurn old new c now h g answer → s.number ≡ c → HasTurned run s.number s.seen g answer
  turned_on old c now h g answer fits turn number = record {
    machine = new;
    later = later;
    fits = subst (λ k. Fits new k g) (sym number) fits;
    may = subst (λ (p : Setting). MayDo p.world g answer) (same_setting new run.first same) (may_do new c g answer fits turn.asks);
    over = turn.over;
  }

  pub met_on : (o : Option Ending) → o ≡ machine_ending new → IsTimed run.gives new → (told : Ending) → o ≡ Some told → HasMetEnding run s.seen told
  met_on o is timed told some = record { machine = new; later = later; ended = sym is ∙ some; timed = timed }

-- the program of the machine is such as its steps ask
pub ready_program : (run : SharedRun) (w : World) (c : ℕ) (seen : List Entry) (h : Hand) (answer : Turn) → HasTurned run c seen h answer → w ≡ run.first.setting.world → IsReady w
ready_program run w c seen h answer t same =
    is_ready t.machine w t.later.legal (same ∙ sym (ap (λ (p : Setting). p.world) t.later.setting))

-- once the hand has done what it was asked for
knows_again : (run : SharedRun) (w : World) (c : ℕ) (seen : List Entry) (h g : Hand) (answer : Turn) → HasTurned run c seen h answer → w ≡ run.first.setting.world
    → is_over answer ≡ false → FitsAsBefore w h g → HasDone g → Knows run.first c seen g
knows_again run w c seen h g answer t same goes fits done =
    record {
      machine = t.machine;
      later = t.later;
      going = none_by (machine_ending t.machine) (sym t.over ∙ goes);
      ready = record { fits = fits t.machine c (ap (λ (p : Setting). p.world) t.later.setting ∙ sym same) t.fits; done = done };
    }

-- ---- a post

pub is_post : (run : SharedRun) (w : World) (p : Post) (h : Hand) (answer : Turn) → p.seat.lock ≡ run.lock → p.seat.holds ≡ false → HasTurned run p.seat.number p.seat.seen h answer
    → ((told : Ending) → p.met ≡ Some told → HasMetEnding run p.seat.seen told) → w ≡ run.first.setting.world → FitsAsBefore w h p.hand → HasDone p.hand → is_over answer ≡ is_some p.met
    → IsPost run p
is_post run w p h answer this idle t met same fits done over =
    record {
      idle = record { this = this; idle = idle };
      knows = λ none. knows_again run w p.seat.number p.seat.seen h p.hand answer t same (over ∙ ap is_some none) fits done;
      met = met;
    }

-- when the run begins
pub first_post : (run : SharedRun) (p : Post) → IsBeginning run.first → IsNewSeat run.lock run.first.carriers p.seat → p.met ≡ None
    → ((k : Known) (i : ℕ) → i < k.carriers → Idle k i → Fits k i p.hand) → HasDone p.hand → IsPost run p
first_post run p begins seat none fits done =
    let m = run.first in
    let c = p.seat.number in
    record {
      idle = seat.idle;
      knows = λ same. record {
        machine = m;
        later = record { setting = refl; carriers = refl; history = begins.history ∙ sym seat.unseen; legal = begins.legal };
        going = begins.going;
        ready = record { fits = fits m c seat.below (begins.carriers_idle c seat.below); done = done };
      };
      met = λ told some. absurd (let e = sym none ∙ some in cc);
    }

-- the seat of a post that met the end of the run
pub has_left : (run : SharedRun) (p : Post) → IsPost run p → is_some p.met ≡ true → HasLeft run p.seat
has_left run p post over = by p.met refl over
  where
    by : (o : Option Ending) → p.met ≡ o → is_some o ≡ true → HasLeft run p.seat
    by (Some told) is some = record { idle = post.idle; told = told; met = post.met told is }
    by None is some = absurd cc
