-- A state in which one thread has changed, seen thread by thread.
use Rattle.std.proofs.Common.{◌≡◌, ◌≢◌, ◌⊎◌, inl, inr, eqb, ℕ, zero, suc, true, false, List, [], ◌∷◌, ◌++◌, Option, Some, None, refl, ap, sym, subst, ◌∙◌}
use Rattle.std.specs.Prelude.{map, slice_get, slice_set}
use Rattle.std.specs.Option.{option_map_or}
use Rattle.std.proofs.lemmas.Bool.Decides.{eqb_tells}
use Rattle.ref_model.specs.State.{JavaThread, State, with_thread}
use Rattle.ref_model.proofs.StateLaws.{get_set}

pub set_other : {A : Type 0} (xs : List A) (t u : ℕ) (y : A) → u ≢ t → slice_get (slice_set xs t y) u ≡ slice_get xs u
set_other [] t u y ne = refl
set_other (x ∷ xs) zero zero y ne = absurd (ne refl)
set_other (x ∷ xs) zero (suc u) y ne = refl
set_other (x ∷ xs) (suc t) zero y ne = refl
set_other (x ∷ xs) (suc t) (suc u) y ne = set_other xs t u y (λ e. ne (ap suc e))

pub same_some : {A : Type 0} (o : Option A) (x y : A) → o ≡ Some x → o ≡ Some y → x ≡ y
same_some o x y e f = cc

pub not_none : {A : Type 0} (o : Option A) (x : A) → o ≡ None → o ≡ Some x → ⊥
not_none o x e f = absurd cc

-- the thread of a number is there, whatever it is now
abbrev pub StaysThere : ℕ → State → State → Type 0
StaysThere t r q = (x : JavaThread) → slice_get r.threads t ≡ Some x → (y : JavaThread) × (slice_get q.threads t ≡ Some y)

pub same_there : (t : ℕ) (r q : State) → q.threads ≡ r.threads → StaysThere t r q
same_there t r q same x at = (x, ap (λ xs. slice_get xs t) same ∙ at)

-- one more at the end
pub more : {A : Type 0} (xs : List A) (x : A) (u : ℕ) → (slice_get (xs ++ x ∷ []) u ≡ slice_get xs u) ⊎ ((slice_get xs u ≡ None) × (slice_get (xs ++ x ∷ []) u ≡ Some x))
more [] x zero = inr (refl, refl)
more [] x (suc u) = inl refl
more (y ∷ xs) x zero = inl refl
more (y ∷ xs) x (suc u) = more xs x u

pub more_there : {A : Type 0} (xs : List A) (x : A) (u : ℕ) (y : A) → slice_get xs u ≡ Some y → slice_get (xs ++ x ∷ []) u ≡ Some y
more_there [] x u y e = absurd cc
more_there (z ∷ xs) x zero y e = e
more_there (z ∷ xs) x (suc u) y e = more_there xs x u y e

-- all are changed alike
pub map_there : {A B : Type 0} (f : A → B) (xs : List A) (u : ℕ) (x : A) → slice_get xs u ≡ Some x → slice_get (map f xs) u ≡ Some (f x)
map_there f [] u x e = absurd cc
map_there f (y ∷ xs) zero x e = let same : y ≡ x = cc in ap (λ z. Some (f z)) same
map_there f (y ∷ xs) (suc u) x e = map_there f xs u x e

pub map_none : {A B : Type 0} (f : A → B) (xs : List A) (u : ℕ) → slice_get xs u ≡ None → slice_get (map f xs) u ≡ None
map_none f [] u e = refl
map_none f (y ∷ xs) zero e = absurd cc
map_none f (y ∷ xs) (suc u) e = map_none f xs u e

-- ---- one thread has changed

-- the thread that has changed, if it is there
pub changed_is : (r : State) (t : ℕ) (change : JavaThread → JavaThread) (P : JavaThread → Type 0)
    → ((x : JavaThread) → slice_get r.threads t ≡ Some x → P (change x)) → (y : JavaThread) → slice_get (with_thread r t change).threads t ≡ Some y → P y
changed_is r t change P each = by (slice_get r.threads t) refl
  where
    by : (o : Option JavaThread) → slice_get r.threads t ≡ o → (y : JavaThread)
        → slice_get (option_map_or (λ thread. record r { threads = slice_set r.threads t (change thread) }) o r).threads t ≡ Some y → P y
    by None e y at = absurd (not_none (slice_get r.threads t) y e at)
    by (Some x) e y at =
        subst P (same_some (slice_get (slice_set r.threads t (change x)) t) (change x) y (get_set r.threads t x (change x) e) at) (each x e)

-- any fact of each of the two states that there may be
pub with_cases : (r : State) (t : ℕ) (change : JavaThread → JavaThread) (P : State → Type 0) → P r
    → ((x : JavaThread) → slice_get r.threads t ≡ Some x → P (record r { threads = slice_set r.threads t (change x) })) → P (with_thread r t change)
with_cases r t change P none some = by (slice_get r.threads t) refl
  where
    by : (o : Option JavaThread) → slice_get r.threads t ≡ o → P (option_map_or (λ thread. record r { threads = slice_set r.threads t (change thread) }) o r)
    by None e = none
    by (Some x) e = some x e

pub set_there : (t u : ℕ) (r : State) (x y : JavaThread) → slice_get r.threads u ≡ Some x
    → StaysThere t r (record r { threads = slice_set r.threads u y })
set_there t u r x y e z at = by (eqb_tells u t)
  where
    by : ((eqb u t ≡ true) × (u ≡ t)) ⊎ ((eqb u t ≡ false) × (u ≢ t))
        → (v : JavaThread) × (slice_get (slice_set r.threads u y) t ≡ Some v)
    by (inl me) = (y, ap (λ n. slice_get (slice_set r.threads u y) n) (sym me.1) ∙ get_set r.threads u x y e)
    by (inr other) = (z, set_other r.threads u t y (λ i. other.1 (sym i)) ∙ at)
