-- The end of a lock: one seat that knows what all knew has a note on each number, so no other seat has the turn.
use Rattle.std.proofs.Common.{◌≡◌, ◌≢◌, ◌<◌, ◌≤◌, ◌+◌, ◌⊎◌, ℕ, zero, suc, false, Option, Some, List, [], ◌∷◌, length, map, refl, sym, ap, subst, ◌∙◌, inl, inr, ⊎_elim, arith}
use Rattle.std.proofs.lemmas.Bool.{false≢true}
use Rattle.std.specs.Prelude.{All, unwrap_or}
use native.Mathlib.Decide.{ℕ_discrete}
use Rattle.std.proofs.lemmas.List.Elements.{All-cons, All-nil}
use mathlib.Core.Option.{Option as Maybe, some, some-injective}
use lib.ListN.{get_elem?}
use Rattle.atomic_table.specs.Table.{Final, Seen}
use Rattle.history.specs.declared.entry.Entry.{Entry}
use Rattle.history.specs.Carriers.{made_by}
use Rattle.turn_lock.specs.declared.view.Note.{Note}
use Rattle.turn_lock.specs.declared.view.View.{View}
use Rattle.turn_lock.specs.Seats.{HasNumber, HasSeenAll, LockState, SeatState}
use Rattle.turn_lock.specs.Collected.{all_view}
use Rattle.turn_lock.specs.Views.{note, HasNote, AreRight, AreApart}
use Rattle.turn_lock.specs.Rules.{IsAt, Knows, IsHeld, Agrees, IsInOrder}

-- ---- as many notes as there are numbers

abbrev AreBelow : ℕ → List Note → Type 0
AreBelow n [] = Unit {0}
AreBelow n (m ∷ ms) = (m.number < n) × AreBelow n ms

below : (seats : ℕ) (log : List Entry) (ns : List Note) → AreRight seats log ns → AreBelow seats ns
below seats log [] right = tt
below seats log (n ∷ ns) right = (right.0.below, below seats log ns right.1)

same_or_not : (a b : ℕ) → (a ≡ b) ⊎ (a ≢ b)
same_or_not a b = by (ℕ_discrete a b)
  where
    by : Dec (a ≡ b) → (a ≡ b) ⊎ (a ≢ b)
    by (yes same) = inl same
    by (no apart) = inr apart

lower : (m : ℕ) (ns : List Note) → ¬ HasNote m ns → AreBelow (suc m) ns → AreBelow m ns
lower m [] free all = tt
lower m (n ∷ ns) free all =
    let other : n.number ≢ m = λ e. free (inl e) in
    let under : n.number < suc m = all.0 in (omega arith, lower m ns (λ has. free (inr has)) all.1)

-- the notes but for the one on m
record Others (m : ℕ) (ns : List Note) : Type 0 where
  notes : List Note
  apart : AreApart notes
  under : AreBelow m notes
  most : length ns ≤ length notes + 1
  among : (k : ℕ) → HasNote k notes → HasNote k ns

others : (m : ℕ) (ns : List Note) → AreApart ns → AreBelow (suc m) ns → Others m ns
others m [] apart under = record { notes = []; apart = tt; under = tt; most = omega arith; among = λ k has. has }
others m (n ∷ ns) apart under = by (ℕ_discrete n.number m) (others m ns apart.1 under.1)
  where
    by : Dec (n.number ≡ m) → Others m ns → Others m (n ∷ ns)
    by (yes here) rest = record {
      notes = ns;
      apart = apart.1;
      under = lower m ns (λ has. apart.0 (subst (λ k. HasNote k ns) (sym here) has)) under.1;
      most = omega arith;
      among = λ k has. inr has;
    }
    by (no away) rest = record {
      notes = n ∷ rest.notes;
      apart = ((λ has. apart.0 (rest.among n.number has)), rest.apart);
      under = ((let low : n.number < suc m = under.0 in omega arith), rest.under);
      most = (let r = rest.most in omega arith);
      among = λ k has. ⊎_elim (λ same. inl same) (λ h. inr (rest.among k h)) has;
    }

few : (n : ℕ) (ns : List Note) → AreApart ns → AreBelow n ns → length ns ≤ n
few zero [] apart under = omega arith
few zero (x ∷ xs) apart under = (let none : x.number < 0 = under.0 in absurd (omega arith))
few (suc n) ns apart under =
    let r = others n ns apart under in
    let most = r.most in
    let fewer = few n r.notes r.apart r.under in omega arith

has_or_not : (k : ℕ) (ns : List Note) → HasNote k ns ⊎ (¬ HasNote k ns)
has_or_not k [] = inr (λ has. has)
has_or_not k (n ∷ ns) = by (ℕ_discrete n.number k) (has_or_not k ns)
  where
    by : Dec (n.number ≡ k) → HasNote k ns ⊎ (¬ HasNote k ns) → HasNote k (n ∷ ns) ⊎ (¬ HasNote k (n ∷ ns))
    by (yes same) r = inl (inl same)
    by (no away) (inl has) = inl (inr has)
    by (no away) (inr free) = inr (λ has. ⊎_elim away free has)

all_there : (n : ℕ) (ns : List Note) → AreApart ns → AreBelow n ns → length ns ≡ n → (k : ℕ) → k < n → HasNote k ns
all_there n ns apart under many k low = ⊎_elim
    (λ has. has)
    (λ free. let most = few n (note k [] ∷ ns) (free, apart) (low, under) in absurd (omega arith))
    (has_or_not k ns)

-- ---- the seats that came back

abbrev notes_of : List SeatState → List Note
notes_of ss = map (λ (s : SeatState). note s.number s.seen) ss

length_notes : (ss : List SeatState) → length (notes_of ss) ≡ length ss
length_notes [] = refl
length_notes (s ∷ ss) = ap suc (length_notes ss)

all_seen : (seats : ℕ) (log : List Entry) (ss : List SeatState) → AreRight seats log (notes_of ss) → All (HasSeenAll log) ss
all_seen seats log [] right = All-nil (HasSeenAll log)
all_seen seats log (s ∷ ss) right = All-cons (HasSeenAll log) s ss (record { begins = right.0.begins; exact = right.0.exact }) (all_seen seats log ss right.1)

number_there : (k : ℕ) (ss : List SeatState) → HasNote k (notes_of ss) → HasNumber k ss
number_there k [] has = absurd has
number_there k (s ∷ ss) (inl same) = (0, s, omega arith, refl, same)
number_there k (s ∷ ss) (inr has) = let r = number_there k ss has in (suc r.0, r.1, (let low = r.2 in omega arith), r.3, r.4)

module _ {V C : Type 0} (history : V → List Entry) (setting : V → C) (initial : V) (seats : ℕ) where
  -- the turn is free once one seat has a note on each number
  free_at_end : (turn count : ℕ) (homes : List (Maybe (Option V))) (views : List View) (log : List Entry) (id : ℕ) (v : View)
      → Agrees history setting initial seats turn count homes views log → IsAt views id v → v.holds ≡ false → length v.notes ≡ seats → turn ≡ 0
  free_at_end turn count homes views log id v all at idle many = ⊎_elim (λ e. e) (λ h. absurd (not_held h)) all.held
    where
      mine : Knows seats turn homes log v
      mine = all.knows id v at

      not_held : IsHeld views → ⊥
      not_held h =
          let theirs = all.knows h.seat h.known h.there in
          let t = theirs.turn_is h.holds in
          let low : t.number < seats = (subst (AreRight seats log) t.notes theirs.right).0.below in
          let has : HasNote t.number v.notes = all_there seats v.notes mine.apart (below seats log v.notes mine.right) many t.number low in
          ⊎_elim
          (λ same. false≢true (sym idle ∙ ap (λ (x : View). x.holds) (some-injective v h.known (sym at ∙ ap (λ n. get_elem? views n) (sym same) ∙ h.there)) ∙ h.holds))
          (λ apart. all.separate id h.seat v h.known (λ e. apart (sym e)) at h.there t.number has (subst (HasNote t.number) (sym t.notes) (inl refl)))
          (same_or_not h.seat id)

  -- what is known of the value once the table is closed
  pub record Ended (ss : List SeatState) (value : V) : Type 0 where
    pub same : setting value ≡ setting initial
    pub seen : All (HasSeenAll (history value)) ss
    pub every : (k : ℕ) → k < seats → HasNumber k ss
    pub others : (k : ℕ) → seats ≤ k → made_by k (history value) ≡ []

  pub ends : (id : ℕ) (v : View) (ss : List SeatState) (ws : List ℕ) (xs : List (Option V)) (found : Option V)
      → Final (Seen (λ s. IsInOrder history setting initial seats s) id v) ws xs → v ≡ all_view ss → length ss ≡ seats → get_elem? xs 0 ≡ some found
      → (value : V) × (found ≡ Some value) × Ended ss value
  ends id v ss ws xs found final is many there =
      let s = final.0 in
      let o = final.1.0 in
      let at = final.1.1 in
      let notes_is : v.notes ≡ notes_of ss = ap (λ (x : View). x.notes) is in
      let mine = o.agrees.knows id v at in
      let right : AreRight seats o.log (notes_of ss) = subst (AreRight seats o.log) notes_is mine.right in
      let apart : AreApart (notes_of ss) = subst AreApart notes_is mine.apart in
      let full : length (notes_of ss) ≡ seats = length_notes ss ∙ many in
      let free = free_at_end o.turn o.count s.homes s.views o.log id v o.agrees at (ap (λ (x : View). x.holds) is) (ap length notes_is ∙ full) in
      let home = o.agrees.home free in (
        home.value,
        some-injective found (Some home.value) (sym there ∙ final.4 0 (Some home.value) (ap (λ hs. get_elem? hs 0) home.there)),
        record {
          same = home.same;
          seen = subst (λ es. All (HasSeenAll es) ss) (sym home.all) (all_seen seats o.log ss right);
          every = λ k low. number_there k ss (all_there seats (notes_of ss) apart (below seats o.log (notes_of ss) right) full k low);
          others = λ k above. ap (made_by k) home.all ∙ o.agrees.others k above;
        },
      )

  -- the same of the value that was taken out
  pub ends_with : (ss : List SeatState) (found : Option V) (value : V) → (x : V) × (found ≡ Some x) × Ended ss x → found ≡ Some value → Ended ss value
  ends_with ss found value e is = subst (Ended ss) (ap (λ o. unwrap_or o value) (sym e.1 ∙ is)) e.2

-- the same of the lock as contracts see it
pub ended_of : {V C : Type 0} (history : V → List Entry) (setting : V → C) (inside lock : LockState V) (ss : List SeatState) (value : V)
    → inside ≡ lock → Ended history setting inside.initial inside.seats ss value → Ended history setting lock.initial lock.seats ss value
ended_of history setting inside lock ss value same ended = subst (λ (l : LockState _). Ended history setting l.initial l.seats ss value) same ended
