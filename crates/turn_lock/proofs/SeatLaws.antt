-- A new lock, a seat that becomes two, and two that become one.
use Rattle.std.proofs.Common.{◌≡◌, ◌≢◌, ◌⊎◌, ℕ, zero, suc, Bool, true, false, Option, Some, List, [], ◌∷◌, ◌++◌, length, set, refl, sym, ap, subst, ◌∙◌, inl, inr, ⊎_elim, arith, length-set}
use Rattle.std.proofs.lemmas.Bool.{false≢true}
use mathlib.Core.Option.{Option as Maybe, some, some-injective, some-ne-none}
use lib.ListN.{get_elem?}
use Rattle.atomic_table.specs.Table.{State, Splits, Joins, opening}
use Rattle.atomic_table.proofs.Lists.{at_set, set_else, at_longer}
use Rattle.history.specs.declared.entry.Entry.{Entry}
use Rattle.turn_lock.specs.declared.view.Note.{Note}
use Rattle.turn_lock.specs.declared.view.View.{View}
use Rattle.turn_lock.specs.Views.{HasNote, AreRight, AreApart, first_view, joined_view, others_view, own_view, spent_view, view, own_note, other_notes}
use Rattle.turn_lock.specs.Rules.{IsAt, Knows, Agrees, IsInOrder}
use Rattle.turn_lock.proofs.NoteLaws.{apart_append, blank_apart, blank_right, has_append, others_apart, others_have, others_right, own_apart, own_has, own_or_other, own_right, right_append}

at_end : (l : List View) (a b : View) (j : ℕ) → IsAt (l ++ a ∷ []) j b → IsAt l j b ⊎ ((j ≡ length l) × (a ≡ b))
at_end [] a b zero there = inr (refl, some-injective a b there)
at_end [] a b (suc j) there = absurd (some-ne-none b (sym there))
at_end (x ∷ xs) a b zero there = inl there
at_end (x ∷ xs) a b (suc j) there = ⊎_elim (λ h. inl h) (λ t. inr (ap suc t.0, t.1)) (at_end xs a b j there)

pub one_slot : {A : Type 0} (before slots : List A) (a : A) (n : ℕ) → n ≡ length slots → before ≡ [] → slots ≡ before ++ a ∷ [] → n ≡ 1
one_slot before slots a n many none pushed = many ∙ ap length (pushed ∙ ap (λ xs. xs ++ a ∷ []) none)

-- where a view stands after a seat was split
data Part (views : List View) (id : ℕ) (left right : View) (i : ℕ) (u : View) : Type 0 where
  stays : i ≢ id → IsAt views i u → Part views id left right i u
  is_left : i ≡ id → left ≡ u → Part views id left right i u
  is_right : i ≡ length views → right ≡ u → Part views id left right i u

part : (views : List View) (id : ℕ) (left right : View) (i : ℕ) (u : View) → IsAt (set views id left ++ right ∷ []) i u → Part views id left right i u
part views id left right i u there = ⊎_elim
    (λ h. ⊎_elim (λ t. is_left t.0 t.1) (λ t. stays t.0 t.1) (at_set views id i left u h))
    (λ t. is_right (t.0 ∙ length-set views id left) t.1)
    (at_end (set views id left) right u i there)

-- where a view stands after two seats were joined
data Joined (views : List View) (id other : ℕ) (both : View) (i : ℕ) (u : View) : Type 0 where
  unchanged : i ≢ id → i ≢ other → IsAt views i u → Joined views id other both i u
  is_both : i ≡ id → both ≡ u → Joined views id other both i u
  is_spent : i ≡ other → spent_view ≡ u → Joined views id other both i u

joined : (views : List View) (id other : ℕ) (both : View) (i : ℕ) (u : View) → IsAt (set (set views id both) other spent_view) i u → Joined views id other both i u
joined views id other both i u there = ⊎_elim
    (λ t. is_spent t.0 t.1)
    (λ t. ⊎_elim (λ r. is_both r.0 r.1) (λ r. unchanged r.0 t.0 r.1) (at_set views id i both u t.1))
    (at_set (set views id both) other i spent_view u there)

module _ {V C : Type 0} (history : V → List Entry) (setting : V → C) (initial : V) (seats : ℕ) where
  abbrev InOrder : State (Option V) View → Type 0
  InOrder s = IsInOrder history setting initial seats s

  -- what a seat knows that doesn't have the turn
  quiet : (turn : ℕ) (homes : List (Maybe (Option V))) (log : List Entry) (slot : Bool) (ns : List Note) → AreRight seats log ns → AreApart ns
      → Knows seats turn homes log (view false slot ns)
  quiet turn homes log slot ns right apart = record { right = right; apart = apart; turn_is = λ h. absurd (false≢true h); empty = λ h _. absurd (false≢true h) }

  -- ---- a new lock

  opens : (value : V) → setting value ≡ setting initial → history value ≡ [] → InOrder (opening (0 ∷ 0 ∷ 0 ∷ []) (Some value ∷ []) (first_view seats))
  opens value same empty = record {
    turn = 0;
    count = 0;
    waiting = 0;
    log = [];
    words = refl;
    agrees = record {
      counts = refl;
      others = λ k above. refl;
      knows = first;
      separate = lone;
      home = λ _. record { value = value; there = refl; same = same; all = empty };
      held = inl refl;
    };
  }
    where
      first : (i : ℕ) (v : View) → IsAt (first_view seats ∷ []) i v → Knows seats 0 (some (Some value) ∷ []) [] v
      first zero v there = subst (Knows seats 0 (some (Some value) ∷ []) []) (some-injective (first_view seats) v there)
          (quiet 0 (some (Some value) ∷ []) [] false (first_view seats).notes (blank_right seats 0 seats (omega arith)) (blank_apart 0 seats))
      first (suc i) v there = absurd (some-ne-none v (sym there))

      lone : (i j : ℕ) (v w : View) → i ≢ j → IsAt (first_view seats ∷ []) i v → IsAt (first_view seats ∷ []) j w → (k : ℕ) → HasNote k v.notes → ¬ HasNote k w.notes
      lone zero zero v w apart at there k has and = apart refl
      lone zero (suc j) v w apart at there k has and = absurd (some-ne-none w (sym there))
      lone (suc i) j v w apart at there k has and = absurd (some-ne-none v (sym at))

  pub opens_with : (value : V) (before slots : List (Option V)) → setting value ≡ setting initial → history value ≡ [] → before ≡ [] → slots ≡ before ++ Some value ∷ []
      → InOrder (opening (0 ∷ 0 ∷ 0 ∷ []) slots (first_view seats))
  opens_with value before slots same empty none pushed =
      subst (λ (xs : List (Option V)). InOrder (opening (0 ∷ 0 ∷ 0 ∷ []) xs (first_view seats))) (sym (pushed ∙ ap (λ (xs : List (Option V)). xs ++ Some value ∷ []) none)) (opens value same empty)

  -- ---- a seat becomes two

  pub splits : (id : ℕ) (v : View) → v.holds ≡ false → Splits InOrder id v (own_view v) (others_view v)
  splits id v idle s o at = record {
    turn = o.turn;
    count = o.count;
    waiting = o.waiting;
    log = o.log;
    words = o.words;
    agrees = record {
      counts = all.counts;
      others = all.others;
      knows = λ i u there. knows i u (part s.views id (own_view v) (others_view v) i u there);
      separate = λ i j u w apart there here. between i j u w apart (part s.views id (own_view v) (others_view v) i u there) (part s.views id (own_view v) (others_view v) j w here);
      home = all.home;
      held = ⊎_elim inl (λ h. inr (record {
        seat = h.seat;
        known = h.known;
        there = at_longer (set s.views id (own_view v)) (others_view v ∷ []) h.seat h.known (set_else s.views id h.seat (own_view v) (not_here h.seat h.known h.there h.holds) ∙ h.there);
        holds = h.holds;
      })) all.held;
    };
  }
    where
      all : Agrees history setting initial seats o.turn o.count s.homes s.views o.log
      all = o.agrees

      known : Knows seats o.turn s.homes o.log v
      known = all.knows id v at

      not_here : (j : ℕ) (u : View) → IsAt s.views j u → u.holds ≡ true → j ≢ id
      not_here j u there holds same = false≢true (sym idle ∙ ap (λ (x : View). x.holds) (some-injective v u (sym at ∙ ap (λ n. get_elem? s.views n) (sym same) ∙ there)) ∙ holds)

      knows : (i : ℕ) (u : View) → Part s.views id (own_view v) (others_view v) i u → Knows seats o.turn s.homes o.log u
      knows i u (stays apart there) = all.knows i u there
      knows i u (is_left here same) = subst (Knows seats o.turn s.homes o.log) same
          (quiet o.turn s.homes o.log false (own_note v.notes) (own_right seats o.log v.notes known.right) (own_apart v.notes))
      knows i u (is_right here same) = subst (Knows seats o.turn s.homes o.log) same
          (quiet o.turn s.homes o.log false (other_notes v.notes) (others_right seats o.log v.notes known.right) (others_apart v.notes known.apart))

      own_at : (k : ℕ) (u : View) → own_view v ≡ u → HasNote k u.notes → HasNote k v.notes
      own_at k u same has = own_has k v.notes (subst (λ (x : View). HasNote k x.notes) (sym same) has)

      other_at : (k : ℕ) (u : View) → others_view v ≡ u → HasNote k u.notes → HasNote k v.notes
      other_at k u same has = others_have k v.notes (subst (λ (x : View). HasNote k x.notes) (sym same) has)

      between : (i j : ℕ) (u w : View) → i ≢ j → Part s.views id (own_view v) (others_view v) i u → Part s.views id (own_view v) (others_view v) j w
          → (k : ℕ) → HasNote k u.notes → ¬ HasNote k w.notes
      between i j u w apart (stays a p) (stays b q) k has and = all.separate i j u w apart p q k has and
      between i j u w apart (stays a p) (is_left b q) k has and = all.separate i id u v a p at k has (own_at k w q and)
      between i j u w apart (stays a p) (is_right b q) k has and = all.separate i id u v a p at k has (other_at k w q and)
      between i j u w apart (is_left a p) (stays b q) k has and = all.separate id j v w (λ e. b (sym e)) at q k (own_at k u p has) and
      between i j u w apart (is_left a p) (is_left b q) k has and = apart (a ∙ sym b)
      between i j u w apart (is_left a p) (is_right b q) k has and = own_or_other k v.notes known.apart
          (subst (λ (x : View). HasNote k x.notes) (sym p) has) (subst (λ (x : View). HasNote k x.notes) (sym q) and)
      between i j u w apart (is_right a p) (stays b q) k has and = all.separate id j v w (λ e. b (sym e)) at q k (other_at k u p has) and
      between i j u w apart (is_right a p) (is_left b q) k has and = own_or_other k v.notes known.apart
          (subst (λ (x : View). HasNote k x.notes) (sym q) and) (subst (λ (x : View). HasNote k x.notes) (sym p) has)
      between i j u w apart (is_right a p) (is_right b q) k has and = apart (a ∙ sym b)

  -- ---- two seats become one

  pub joins : (id : ℕ) (v : View) (other : ℕ) (w : View) → v.holds ≡ false → w.holds ≡ false → Joins InOrder id v other w (joined_view v w) spent_view
  joins id v other w idle calm s o at apart_ids there_after = record {
    turn = o.turn;
    count = o.count;
    waiting = o.waiting;
    log = o.log;
    words = o.words;
    agrees = record {
      counts = all.counts;
      others = all.others;
      knows = λ i u there. knows i u (place i u there);
      separate = λ i j u x apart there here. between i j u x apart (place i u there) (place j x here);
      home = all.home;
      held = ⊎_elim inl (λ h. inr (record {
        seat = h.seat;
        known = h.known;
        there = set_else (set s.views id both) other h.seat spent_view (not_here w other calm also h.seat h.known h.there h.holds)
            ∙ set_else s.views id h.seat both (not_here v id idle at h.seat h.known h.there h.holds) ∙ h.there;
        holds = h.holds;
      })) all.held;
    };
  }
    where
      both : View
      both = joined_view v w

      all : Agrees history setting initial seats o.turn o.count s.homes s.views o.log
      all = o.agrees

      also : IsAt s.views other w
      also = sym (set_else s.views id other both apart_ids) ∙ there_after

      mine : Knows seats o.turn s.homes o.log v
      mine = all.knows id v at

      theirs : Knows seats o.turn s.homes o.log w
      theirs = all.knows other w also

      place : (i : ℕ) (u : View) → IsAt (set (set s.views id both) other spent_view) i u → Joined s.views id other both i u
      place i u there = joined s.views id other both i u there

      not_here : (x : View) (n : ℕ) → x.holds ≡ false → IsAt s.views n x → (j : ℕ) (u : View) → IsAt s.views j u → u.holds ≡ true → j ≢ n
      not_here x n off here j u there holds same = false≢true (sym off ∙ ap (λ (y : View). y.holds) (some-injective x u (sym here ∙ ap (λ m. get_elem? s.views m) (sym same) ∙ there)) ∙ holds)

      whole : Knows seats o.turn s.homes o.log both
      whole = quiet o.turn s.homes o.log false (v.notes ++ w.notes) (right_append seats o.log v.notes w.notes mine.right theirs.right)
          (apart_append v.notes w.notes mine.apart theirs.apart (λ k has and. all.separate id other v w (λ e. apart_ids (sym e)) at also k has and))

      knows : (i : ℕ) (u : View) → Joined s.views id other both i u → Knows seats o.turn s.homes o.log u
      knows i u (unchanged a b there) = all.knows i u there
      knows i u (is_both here same) = subst (Knows seats o.turn s.homes o.log) same whole
      knows i u (is_spent here same) = subst (Knows seats o.turn s.homes o.log) same (quiet o.turn s.homes o.log false [] tt tt)

      none_spent : (k : ℕ) (u : View) → spent_view ≡ u → HasNote k u.notes → ⊥
      none_spent k u same has = subst (λ (x : View). HasNote k x.notes) (sym same) has

      -- a note of the joined view stands in one of the two
      either_of : (k : ℕ) (u : View) → both ≡ u → HasNote k u.notes → HasNote k v.notes ⊎ HasNote k w.notes
      either_of k u same has = has_append k v.notes w.notes (subst (λ (x : View). HasNote k x.notes) (sym same) has)

      between : (i j : ℕ) (u x : View) → i ≢ j → Joined s.views id other both i u → Joined s.views id other both j x → (k : ℕ) → HasNote k u.notes → ¬ HasNote k x.notes
      between i j u x apart (unchanged a b p) (unchanged c d q) k has and = all.separate i j u x apart p q k has and
      between i j u x apart (unchanged a b p) (is_both d q) k has and = ⊎_elim
          (λ h. all.separate i id u v a p at k has h) (λ h. all.separate i other u w b p also k has h) (either_of k x q and)
      between i j u x apart (is_both b p) (unchanged c d q) k has and = ⊎_elim
          (λ h. all.separate id j v x (λ e. c (sym e)) at q k h and) (λ h. all.separate other j w x (λ e. d (sym e)) also q k h and) (either_of k u p has)
      between i j u x apart (is_both b p) (is_both d q) k has and = apart (b ∙ sym d)
      between i j u x apart (is_spent b p) _ k has and = none_spent k u p has
      between i j u x apart _ (is_spent d q) k has and = none_spent k x q and
