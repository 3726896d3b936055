-- What a carrier takes next: where it is, and when there is nothing.
use Rattle.std.proofs.Common.{◌≡◌, ◌+◌, ◌<◌, ℕ, suc, List, [], ◌∷◌, Option, Some, None, drop, length, take, ◌∙◌, ap, subst, refl, arith, ◌⊎◌, inl, inr}
use Rattle.std.proofs.lemmas.List.{length-drop, length-take, take-append-drop}
use Rattle.std.proofs.lemmas.List.Elements.{All-append, All-cons, All-drop, All-head, All-nil, All-tail, All-take}
use Rattle.std.specs.List.{All}
use Rattle.run_deques.specs.Take.{front, next, or}

abbrev pub AreEmpty : List (List ℕ) → Type 0
AreEmpty deques = All (λ deque. deque ≡ []) deques

pub AreEmpty-front : (k : ℕ) (deques : List (List ℕ)) → front k deques ≡ None → AreEmpty deques
AreEmpty-front k [] e = All-nil (λ deque. deque ≡ [])
AreEmpty-front k ([] ∷ deques) e = All-cons (λ deque. deque ≡ []) [] deques refl (AreEmpty-front (suc k) deques e)
AreEmpty-front k ((t ∷ ts) ∷ deques) e = cc

pub front-empty : (k : ℕ) (deques : List (List ℕ)) → AreEmpty deques → front k deques ≡ None
front-empty k [] h = refl
front-empty k ([] ∷ deques) h = front-empty (suc k) deques (All-tail (λ deque. deque ≡ []) [] deques h)
front-empty k ((t ∷ ts) ∷ deques) h = let e : t ∷ ts ≡ [] = All-head (λ deque. deque ≡ []) (t ∷ ts) deques h in cc

abbrev deque_of : Option (ℕ × ℕ) → ℕ
deque_of None = 0
deque_of (Some found) = found.0

pub front-inside : (j : ℕ) (deques : List (List ℕ)) (k t : ℕ) → front j deques ≡ Some (k, t) → k < j + length deques
front-inside j [] k t e = cc
front-inside j ([] ∷ deques) k t e = omega (arith, front-inside (suc j) deques k t e)
front-inside j ((u ∷ us) ∷ deques) k t e = let i : j ≡ k = ap deque_of e in omega arith

both : (a b : Option (ℕ × ℕ)) → or a b ≡ None → (a ≡ None) × (b ≡ None)
both None b e = (refl, e)
both (Some x) b e = cc

either : (a b : Option (ℕ × ℕ)) (x : ℕ × ℕ) → or a b ≡ Some x → (a ≡ Some x) ⊎ (b ≡ Some x)
either None b x e = inr e
either (Some y) b x e = inl e

pub AreEmpty-next : (deques : List (List ℕ)) (c : ℕ) → next deques c ≡ None → AreEmpty deques
AreEmpty-next deques c e =
    let parts = both (front c (drop c deques)) (front 0 (take c deques)) e in
    subst AreEmpty (take-append-drop c deques) (All-append (λ deque. deque ≡ []) (take c deques) (drop c deques) (AreEmpty-front 0 (take c deques) parts.1) (AreEmpty-front c (drop c deques) parts.0))

pub next-empty : (deques : List (List ℕ)) (c : ℕ) → AreEmpty deques → next deques c ≡ None
next-empty deques c h =
    ap (λ o. or o (front 0 (take c deques))) (front-empty c (drop c deques) (All-drop (λ deque. deque ≡ []) c deques h)) ∙ front-empty 0 (take c deques) (All-take (λ deque. deque ≡ []) c deques h)

pub next-inside : (deques : List (List ℕ)) (c k t : ℕ) → c < length deques → next deques c ≡ Some (k, t) → k < length deques
next-inside deques c k t h e =
    elim (either (front c (drop c deques)) (front 0 (take c deques)) (k, t) e) [
      | inl own ↦ omega (arith, front-inside c (drop c deques) k t own, length-drop c deques)
      | inr round ↦ omega (arith, front-inside 0 (take c deques) k t round, length-take c deques)
    ]
