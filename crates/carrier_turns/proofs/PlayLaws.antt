-- Turns of one carrier, and of several.
use Rattle.std.proofs.Common.{◌≡◌, ◌≢◌, ◌⊎◌, inl, inr, ◌<◌, ◌≤◌, ℕ, zero, suc, Bool, true, false, List, [], ◌∷◌, ◌++◌, length, Some, None, get_or, slice_get, slice_set, refl, ap, sym, ◌∙◌, subst, arith, append_assoc}
use Rattle.std.specs.Prelude.{is_some, if◌then◌else◌}
use Rattle.std.proofs.lemmas.Bool.{cases_eq}
use Rattle.std.proofs.lemmas.List.{append-nil}
use Rattle.std.proofs.Math.ListN.{length-set}
use Rattle.items.specs.First.{Each}
use Rattle.history.specs.declared.entry.Entry.{Entry}
use Rattle.link_model.specs.World.{World}
use Rattle.schedule_soundness.proofs.ThreadLists.{set_other}
use Rattle.machine.specs.Legal.{IsLegal}
use Rattle.machine.specs.Machines.{Known, machine_ending}
use Rattle.operand_soundness.specs.Ready.{IsReady}
use Rattle.carrier_turns.specs.declared.ask.Turn.{Turn}
use Rattle.carrier_turns.specs.declared.hand.Hand.{Hand}
use Rattle.carrier_turns.specs.Hands.{Fits}
use Rattle.carrier_turns.specs.Turns as turns
use Rattle.carrier_turns.specs.Turns.{Appends, AreActs, AreOfTurn, IsTurn, KeepsPressing, goes_on, is_pressing, turns_left}
use Rattle.carrier_turns.specs.declared.plays.TurnOf.{TurnOf}
use Rattle.carrier_turns.specs.Plays.{AreTurnsOf, GoesOnFrom, HandsFit, IsDoneTurn, IsReadyHand}
use Rattle.carrier_turns.proofs.EndingLaws.{ends_or_goes}
use Rattle.carrier_turns.proofs.OutlastLaws.{fits_outlasts}

-- a program that is accepted is such as its steps ask
pub is_ready : (m : Known) (w : World) → IsLegal m → w ≡ m.setting.world → IsReady w
is_ready m w x same =
    subst IsReady (sym same) (record { linked = x.accepted.typed.linked; named = x.accepted.typed.named; runs = x.accepted.typed.runs })

-- ---- one carrier

fewer : (a b : Bool) → (a ≡ true → b ≡ true) → (if b then 0 else 1) ≤ (if a then 0 else 1)
fewer true b h = let e = h refl in subst (λ (c : Bool). (if c then 0 else 1) ≤ 0) (sym e) (omega arith)
fewer false true h = omega arith
fewer false false h = omega arith

no_more : (m : Known) (h g : Hand) → KeepsPressing h g → turns_left m g ≤ turns_left m h
no_more m h g presses = let e = fewer (is_pressing h) (is_pressing g) presses in omega arith

pub done_turn : (old new : Known) (c now : ℕ) (h g x : Hand) (answer : Turn) → IsTurn old new c now h g answer → (is_some (machine_ending old) ≡ true → new ≡ old)
    → KeepsPressing g x → IsDoneTurn old new c now h x answer
done_turn old new c now h g x answer turn ended presses =
    record {
      appends = turn.appends;
      reason = turn.reason;
      over = turn.over;
      ended = ended;
      told = turn.told;
      nearer = λ goes. let less = turn.nearer goes in let more = no_more new g x presses in omega arith;
    }

-- ---- several carriers

acts_of : (c k : ℕ) (es : List Entry) → AreActs c es → c ≢ k → Each (λ (e : Entry). e.carrier ≢ k) es
acts_of c k es (turns.none is) ne = subst (Each (λ (e : Entry). e.carrier ≢ k)) (sym is) tt
acts_of c k es (turns.mount t is) ne = subst (Each (λ (e : Entry). e.carrier ≢ k)) (sym is) (ne, tt)
acts_of c k es (turns.unmount t is) ne = subst (Each (λ (e : Entry). e.carrier ≢ k)) (sym is) (ne, tt)
acts_of c k es (turns.step t n pick is) ne = subst (Each (λ (e : Entry). e.carrier ≢ k)) (sym is) (ne, tt)
acts_of c k es (turns.last_step t n pick is) ne = subst (Each (λ (e : Entry). e.carrier ≢ k)) (sym is) (ne, (ne, tt))

entry_of : (c k now : ℕ) (es : List Entry) → AreOfTurn c now es → c ≢ k → Each (λ (e : Entry). e.carrier ≢ k) es
entry_of c k now es (turns.acts are) ne = acts_of c k es are ne
entry_of c k now es (turns.timed later are is) ne = subst (Each (λ (e : Entry). e.carrier ≢ k)) (sym is) (ne, acts_of c k later are ne)

-- the hand of another carrier fits after a turn
pub other_fits : (old new : Known) (c k now : ℕ) (h g x : Hand) (answer : Turn) → IsLegal old → IsDoneTurn old new c now h g answer → c ≢ k → IsReadyHand old k x
    → IsReadyHand new k x
other_fits old new c k now h g x answer legal turn ne ready =
    record { fits = by (ends_or_goes (machine_ending old)); done = ready.done }
  where
    by : (is_some (machine_ending old) ≡ true) ⊎ (machine_ending old ≡ None) → Fits new k x
    by (inl ended) = subst (λ m. Fits m k x) (sym (turn.ended ended)) ready.fits
    by (inr none) =
        let a = turn.appends in
        fits_outlasts old new a.entries k x legal none a.setting a.carriers a.history (entry_of c k now a.entries a.of_turn ne) ready.fits

set_own : {A : Type 0} (xs : List A) (k : ℕ) (x y : A) → slice_get (slice_set xs k x) k ≡ Some y → y ≡ x
set_own [] k x y e = absurd cc
set_own (z ∷ zs) zero x y e = cc
set_own (z ∷ zs) (suc k) x y e = set_own zs k x y e

pub hands_fit : (old new : Known) (c now : ℕ) (hands after : List Hand) (h g : Hand) (answer : Turn) → IsLegal old → HandsFit old hands → after ≡ slice_set hands c g
    → IsDoneTurn old new c now h g answer → IsReadyHand new c g → HandsFit new after
hands_fit old new c now hands after h g answer legal fit set turn ready =
    subst (HandsFit new) (sym set) (record {
      count = length-set hands c g ∙ fit.count ∙ sym turn.appends.carriers;
      fit = λ k x at. by k x at (cases_eq k c);
    })
  where
    by : (k : ℕ) (x : Hand) → slice_get (slice_set hands c g) k ≡ Some x → (k ≡ c) ⊎ (k ≡ c → ⊥) → IsReadyHand new k x
    by k x at (inl same) =
        let here : x ≡ g = set_own hands c g x (ap (slice_get (slice_set hands c g)) (sym same) ∙ at) in
        subst (λ (y : Hand). IsReadyHand new k y) (sym here) (subst (λ n. IsReadyHand new n g) (sym same) ready)
    by k x at (inr other) =
        other_fits old new c k now h g x answer legal turn (λ e. other (sym e)) (fit.fit k x (sym (set_other hands c k g other) ∙ at))

pub goes_from : (old new : Known) (c now : ℕ) (h g : Hand) (answer : Turn) → IsDoneTurn old new c now h g answer → GoesOnFrom old new
goes_from old new c now h g answer turn =
    record { entries = turn.appends.entries; history = turn.appends.history; setting = turn.appends.setting; carriers = turn.appends.carriers }

pub from_itself : (m : Known) → GoesOnFrom m m
from_itself m = record { entries = []; history = sym (append-nil m.history); setting = refl; carriers = refl }

pub goes_further : (a b c : Known) → GoesOnFrom a b → GoesOnFrom b c → GoesOnFrom a c
goes_further a b c x y =
    record {
      entries = x.entries ++ y.entries;
      history = y.history ∙ ap (λ (es : List Entry). es ++ y.entries) x.history ∙ append_assoc a.history x.entries y.entries;
      setting = y.setting ∙ x.setting;
      carriers = y.carriers ∙ x.carriers;
    }

-- the turn of a loop over them is that of a carrier
pub turn_below : (old m : Known) (turns : List TurnOf) (i : ℕ) (d : TurnOf) → AreTurnsOf old turns → GoesOnFrom old m → i < length turns
    → (get_or turns i d).carrier < m.carriers
turn_below old m turns i d all grown less = subst (λ n. (get_or turns i d).carrier < n) (sym grown.carriers) (all i d less)

-- the hand of a carrier
pub hand_there : (m : Known) (hands : List Hand) (c : ℕ) (d : Hand) → HandsFit m hands → c < m.carriers → IsReadyHand m c (get_or hands c d)
hand_there m hands c d fit below =
    fit.fit c (get_or hands c d) (slice_get_at hands c d (subst (λ n. c < n) (sym fit.count) below))
  where
    slice_get_at : (xs : List Hand) (i : ℕ) (d : Hand) → i < length xs → slice_get xs i ≡ Some (get_or xs i d)
    slice_get_at [] i d less = absurd (omega arith)
    slice_get_at (x ∷ xs) zero d less = refl
    slice_get_at (x ∷ xs) (suc i) d less = slice_get_at xs i d (omega arith)
