-- Lists of threads that pass a test.
use Rattle.std.proofs.Common.{◌≡◌, ◌<◌, ◌==◌, ℕ, Bool, true, false, List, [], ◌∷◌, refl, ap, sym, subst, ◌∙◌, arith, cond, inl, inr}
use Rattle.std.specs.List.{filter}
use Rattle.std.proofs.lemmas.Bool.Decides.{eqb_tells}
use Rattle.thread_lists.specs.Lists.{count}
use Rattle.thread_lists.proofs.CountLaws.{count-here, count-other, count-same, count-there}

-- tests that agree on the threads of a list
pub filter_in : (p q : ℕ → Bool) (xs : List ℕ) → ((t : ℕ) → 0 < count t xs → p t ≡ q t) → filter p xs ≡ filter q xs
filter_in p q [] same = refl
filter_in p q (x ∷ xs) same =
    ap (λ b. cond b (x ∷ filter p xs) (filter p xs)) (same x (count-here x xs))
    ∙ ap (λ ys. cond (q x) (x ∷ ys) ys) (filter_in p q xs (λ t there. same t (count-there t x xs there)))

pub filter_all : (p : ℕ → Bool) (xs : List ℕ) → ((t : ℕ) → 0 < count t xs → p t ≡ true) → filter p xs ≡ xs
filter_all p [] pass = refl
filter_all p (x ∷ xs) pass =
    ap (λ b. cond b (x ∷ filter p xs) (filter p xs)) (pass x (count-here x xs))
    ∙ ap (λ ys. x ∷ ys) (filter_all p xs (λ t there. pass t (count-there t x xs there)))

pub filter_none : (p : ℕ → Bool) (xs : List ℕ) → ((t : ℕ) → 0 < count t xs → p t ≡ false) → filter p xs ≡ []
filter_none p [] fail = refl
filter_none p (x ∷ xs) fail =
    ap (λ b. cond b (x ∷ filter p xs) (filter p xs)) (fail x (count-here x xs))
    ∙ filter_none p xs (λ t there. fail t (count-there t x xs there))

-- a test that one thread passes alone, which is in the list once
filter_absent : (p : ℕ → Bool) (xs : List ℕ) (u : ℕ) → ((t : ℕ) → p t ≡ (t == u)) → count u xs ≡ 0 → filter p xs ≡ []
filter_absent p [] u only none = refl
filter_absent p (x ∷ xs) u only none =
    elim (eqb_tells x u) [
      | inl w ↦ absurd (omega (arith, none, subst (λ y. 0 < count y (x ∷ xs)) w.1 (count-here x xs)))
      | inr w ↦
          ap (λ b. cond b (x ∷ filter p xs) (filter p xs)) (only x ∙ w.0)
          ∙ filter_absent p xs u only (sym (count-other u x xs w.1) ∙ none)
    ]

pub filter_one : (p : ℕ → Bool) (xs : List ℕ) (u : ℕ) → ((t : ℕ) → p t ≡ (t == u)) → count u xs ≡ 1 → filter p xs ≡ u ∷ []
filter_one p [] u only once = absurd (omega (arith, once))
filter_one p (x ∷ xs) u only once =
    elim (eqb_tells x u) [
      | inl w ↦
          let same : count x xs ≡ 0 = omega (arith, count-same x xs, subst (λ y. count y (x ∷ xs) ≡ 1) (sym w.1) once) in
          let rest = filter_absent p xs u only (subst (λ y. count y xs ≡ 0) w.1 same) in
          ap (λ b. cond b (x ∷ filter p xs) (filter p xs)) (only x ∙ w.0) ∙ ap (λ ys. x ∷ ys) rest ∙ ap (λ y. y ∷ []) w.1
      | inr w ↦
          ap (λ b. cond b (x ∷ filter p xs) (filter p xs)) (only x ∙ w.0)
          ∙ filter_one p xs u only (sym (count-other u x xs w.1) ∙ once)
    ]
