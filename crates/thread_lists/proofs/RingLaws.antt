-- How rings change where one place is made to follow another.
use Rattle.std.proofs.Common.{◌≡◌, ◌<◌, ◌≤◌, ℕ, suc, zero, List, [], ◌∷◌, ◌++◌, length, sym, ◌∙◌, ap, subst, refl, append-nil, drop, slice_get, Some, None, arith, ◌⊎◌, inl, inr}
use Rattle.std.proofs.lemmas.Option.{slice_get_past}
use Rattle.thread_lists.specs.declared.ring.Place.{Place}
use Rattle.thread_lists.specs.declared.ring.Place.TheVariants.{Head, Thread}
use Rattle.thread_lists.specs.Lists.{count}
use Rattle.thread_lists.specs.Ring.{Leads, Follows, start_of, threads_from}
use Rattle.thread_lists.proofs.CountLaws.{count-here, count-there, count-append, count-cons, count-same, never, apart}

-- what holds of a ring holds where its places lead on as before
pub Leads-kept : (f g f' g' : Place → Place) (a b : Place) (xs : List ℕ) → Leads f g a xs b → f' a ≡ f a → g' b ≡ g b → ((x : ℕ) → 0 < count x xs → f' (Thread x) ≡ f (Thread x)) → ((x : ℕ) → 0 < count x xs → g' (Thread x) ≡ g (Thread x)) → Leads f' g' a xs b
Leads-kept f g f' g' a b [] r fa gb fs gs = (fa ∙ r.0, gb ∙ r.1)
Leads-kept f g f' g' a b (x ∷ xs) r fa gb fs gs =
    (fa ∙ r.0, gs x (count-here x xs) ∙ r.1, Leads-kept f g f' g' (Thread x) b xs r.2 (fs x (count-here x xs)) gb (λ y h. fs y (count-there y x xs h)) (λ y h. gs y (count-there y x xs h)))

-- a ring is cut at one of its threads
pub Leads-front : (f g : Place → Place) (a b : Place) (us : List ℕ) (t : ℕ) (vs : List ℕ) → Leads f g a (us ++ t ∷ vs) b → Leads f g a us (Thread t)
Leads-front f g a b [] t vs r = (r.0, r.1)
Leads-front f g a b (u ∷ us) t vs r = (r.0, r.1, Leads-front f g (Thread u) b us t vs r.2)

pub Leads-back : (f g : Place → Place) (a b : Place) (us : List ℕ) (t : ℕ) (vs : List ℕ) → Leads f g a (us ++ t ∷ vs) b → Leads f g (Thread t) vs b
Leads-back f g a b [] t vs r = r.2
Leads-back f g a b (u ∷ us) t vs r = Leads-back f g (Thread u) b us t vs r.2

pub Leads-joined : (f g : Place → Place) (a b : Place) (us : List ℕ) (t : ℕ) (vs : List ℕ) → Leads f g a us (Thread t) → Leads f g (Thread t) vs b → Leads f g a (us ++ t ∷ vs) b
Leads-joined f g a b [] t vs r s = (r.0, r.1, s)
Leads-joined f g a b (u ∷ us) t vs r s = (r.0, r.1, Leads-joined f g (Thread u) b us t vs r.2 s)

-- the place before b leads to b
pub Leads-end : (f g : Place → Place) (a b : Place) (xs : List ℕ) → Leads f g a xs b → f (g b) ≡ b
Leads-end f g a b [] r = ap f r.1 ∙ r.0
Leads-end f g a b (x ∷ xs) r = Leads-end f g (Thread x) b xs r.2

-- the place before b is the first place or a thread of the list
pub Leads-last : (f g : Place → Place) (a b : Place) (xs : List ℕ) → Leads f g a xs b → (g b ≡ a) ⊎ ((x : ℕ) × (0 < count x xs) × (g b ≡ Thread x))
Leads-last f g a b [] r = inl r.1
Leads-last f g a b (x ∷ xs) r =
    elim (Leads-last f g (Thread x) b xs r.2) [ inl e ↦ inr (x, count-here x xs, e) | inr w ↦ inr (w.0, count-there w.0 x xs w.1, w.2) ]

-- c takes the place of b after a list
pub Leads-turned : (f g f' g' : Place → Place) (a b c : Place) (xs : List ℕ) → Leads f g a xs b → Follows f g f' g' (g b) c → f (g b) ≡ b → ((x : ℕ) → 0 < count x xs → Thread x ≡ b → ⊥) → ((x : ℕ) → 0 < count x xs → Thread x ≡ c → ⊥) → Leads f' g' a xs c
Leads-turned f g f' g' a b c [] r j e nb nc = (ap f' (sym r.1) ∙ j.next, j.previous ∙ r.1)
Leads-turned f g f' g' a b c (x ∷ xs) r j e nb nc = (
  j.other_next a (λ i. nb x (count-here x xs) (sym r.0 ∙ ap f i ∙ e)) ∙ r.0,
  j.other_previous (Thread x) (nc x (count-here x xs)) ∙ r.1,
  Leads-turned f g f' g' (Thread x) b c xs r.2 j e (λ y h. nb y (count-there y x xs h)) (λ y h. nc y (count-there y x xs h)),
)

-- following `next` gives the list
pub threads_from-head : (f : Place → Place) (n k : ℕ) → threads_from f n (Head k) ≡ []
threads_from-head f zero k = refl
threads_from-head f (suc n) k = refl

pub threads_from-Leads : (f g : Place → Place) (a : Place) (k : ℕ) (xs : List ℕ) (n : ℕ) → Leads f g a xs (Head k) → length xs ≤ n → threads_from f n (f a) ≡ xs
threads_from-Leads f g a k [] n r h = ap (threads_from f n) r.0 ∙ threads_from-head f n k
threads_from-Leads f g a k (x ∷ xs) zero r h = absurd (omega arith)
threads_from-Leads f g a k (x ∷ xs) (suc n) r h =
    ap (threads_from f (suc n)) r.0 ∙ ap (λ ys. x ∷ ys) (threads_from-Leads f g (Thread x) k xs n r.2 (omega arith))

-- a place that isn't in a ring
pub record Outside (k : ℕ) (xs : List ℕ) (p : Place) : Type 0 where
  pub head : Head k ≡ p → ⊥
  pub thread : (x : ℕ) → 0 < count x xs → Thread x ≡ p → ⊥

pub Outside-thread : (k t : ℕ) (xs : List ℕ) → count t xs ≡ 0 → Outside k xs (Thread t)
Outside-thread k t xs h = record { head = λ e. cc; thread = λ x c e. never t xs h (let i : x ≡ t = cc in subst (λ y. 0 < count y xs) i c) }

pub Outside-head : (k j : ℕ) (xs : List ℕ) → (k ≡ j → ⊥) → Outside k xs (Head j)
Outside-head k j xs h = record { head = λ e. h cc; thread = λ x c e. cc }

-- a ring stays where no place of it is joined
pub Leads-outside : (f g f' g' : Place → Place) (k : ℕ) (xs : List ℕ) (a b : Place) → Outside k xs a → Outside k xs b → Follows f g f' g' a b → Leads f g (Head k) xs (Head k) → Leads f' g' (Head k) xs (Head k)
Leads-outside f g f' g' k xs a b oa ob j r =
    Leads-kept f g f' g' (Head k) (Head k) xs r (j.other_next (Head k) oa.head) (j.other_previous (Head k) ob.head) (λ x c. j.other_next (Thread x) (oa.thread x c)) (λ x c. j.other_previous (Thread x) (ob.thread x c))

-- a thread comes last
pub Leads-push : (f g f1 g1 f2 g2 : Place → Place) (k t : ℕ) (xs : List ℕ) → count t xs ≡ 0 → Follows f g f1 g1 (g (Head k)) (Thread t) → Follows f1 g1 f2 g2 (Thread t) (Head k) → Leads f g (Head k) xs (Head k) → Leads f2 g2 (Head k) (xs ++ t ∷ []) (Head k)
Leads-push f g f1 g1 f2 g2 k t xs new j1 j2 r =
    let o = Outside-thread k t xs new in
    let turned = Leads-turned f g f1 g1 (Head k) (Head k) (Thread t) xs r j1 (Leads-end f g (Head k) (Head k) xs r) (λ x c e. cc) (λ x c. o.thread x c) in
    let front = Leads-kept f1 g1 f2 g2 (Head k) (Thread t) xs turned (j2.other_next (Head k) (λ e. cc)) (j2.other_previous (Thread t) (λ e. cc)) (λ x c. j2.other_next (Thread x) (o.thread x c)) (λ x c. j2.other_previous (Thread x) (λ e. cc)) in
    Leads-joined f2 g2 (Head k) (Head k) xs t [] front (j2.next, j2.previous)

-- the neighbours of a thread are joined
pub Leads-closed : (f g f1 g1 : Place → Place) (k : ℕ) (us : List ℕ) (t : ℕ) (vs : List ℕ) → ((x : ℕ) → count x (us ++ t ∷ vs) ≤ 1) → Follows f g f1 g1 (g (Thread t)) (f (Thread t)) → Leads f g (Head k) (us ++ t ∷ vs) (Head k) → Leads f1 g1 (Head k) (us ++ vs) (Head k)
Leads-closed f g f1 g1 k us t [] once j r =
    let front = Leads-front f g (Head k) (Head k) us t [] r in
    let back = Leads-back f g (Head k) (Head k) us t [] r in
    let here = subst (λ p. Follows f g f1 g1 (g (Thread t)) p) back.0 j in
    let turned = Leads-turned f g f1 g1 (Head k) (Thread t) (Head k) us front here (Leads-end f g (Head k) (Thread t) us front) (λ x c e. apart x t us (t ∷ []) once c (count-here t []) cc) (λ x c e. cc) in
    subst (λ xs. Leads f1 g1 (Head k) xs (Head k)) (sym (append-nil us)) turned
Leads-closed f g f1 g1 k us t (v ∷ vs) once j r =
    let front = Leads-front f g (Head k) (Head k) us t (v ∷ vs) r in
    let back = Leads-back f g (Head k) (Head k) us t (v ∷ vs) r in
    let here = subst (λ p. Follows f g f1 g1 (g (Thread t)) p) back.0 j in
    let turned = Leads-turned f g f1 g1 (Head k) (Thread t) (Thread v) us front here (Leads-end f g (Head k) (Thread t) us front) (λ x c e. apart x t us (t ∷ v ∷ vs) once c (count-here t (v ∷ vs)) cc) (λ x c e. apart x v us (t ∷ v ∷ vs) once c (count-there v t (v ∷ vs) (count-here v vs)) cc) in
    let rest = Leads-kept f g f1 g1 (Thread v) (Head k) vs back.2 (here.other_next (Thread v) (behind v (count-here v vs))) (here.other_previous (Head k) (λ e. cc)) (λ x c. here.other_next (Thread x) (behind x (count-there x v vs c))) (λ x c. here.other_previous (Thread x) (differs x c)) in
    Leads-joined f1 g1 (Head k) (Head k) us v vs turned rest
  where
    behind : (x : ℕ) → 0 < count x (v ∷ vs) → Thread x ≡ g (Thread t) → ⊥
    behind x c e =
        elim (Leads-last f g (Head k) (Thread t) us (Leads-front f g (Head k) (Head k) us t (v ∷ vs) r)) [
          | inl i ↦ cc
          | inr w ↦ apart w.0 x us (t ∷ v ∷ vs) once w.1 (count-there x t (v ∷ vs) c) cc
        ]

    differs : (x : ℕ) → 0 < count x vs → Thread x ≡ Thread v → ⊥
    differs x c e = let i : x ≡ v = cc in omega (arith, once v, subst (λ y. 0 < count y vs) i c, count-append v us (t ∷ v ∷ vs), count-cons v t (v ∷ vs), count-same v vs)

drop-nil : (n : ℕ) → drop {A = ℕ} n [] ≡ []
drop-nil zero = refl
drop-nil (suc n) = refl

-- what follows a place, along a list
pub Leads-start : (f g : Place → Place) (a : Place) (k : ℕ) (xs : List ℕ) → Leads f g a xs (Head k) → f a ≡ start_of k xs
Leads-start f g a k [] r = r.0
Leads-start f g a k (x ∷ xs) r = r.0

pub Leads-next : (f g : Place → Place) (a : Place) (k : ℕ) (xs : List ℕ) (n t : ℕ) → Leads f g a xs (Head k) → start_of k (drop n xs) ≡ Thread t → f (Thread t) ≡ start_of k (drop (suc n) xs)
Leads-next f g a k [] n t r e = let i : Head k ≡ Thread t = ap (start_of k) (sym (drop-nil n)) ∙ e in cc
Leads-next f g a k (x ∷ xs) zero t r e = let i : x ≡ t = cc in ap (λ y. f (Thread y)) (sym i) ∙ Leads-start f g (Thread x) k xs r.2
Leads-next f g a k (x ∷ xs) (suc n) t r e = Leads-next f g (Thread x) k xs n t r.2 e

-- the thread that a place in front of the rest of a list is
pub start-thread : (k : ℕ) (xs : List ℕ) (n t : ℕ) → start_of k (drop n xs) ≡ Thread t → (slice_get xs n ≡ Some t) × (0 < count t xs) × (n < length xs)
start-thread k [] n t e = let i : Head k ≡ Thread t = ap (start_of k) (sym (drop-nil n)) ∙ e in cc
start-thread k (x ∷ xs) zero t e = let i : x ≡ t = cc in (ap Some i, subst (λ y. 0 < count y (x ∷ xs)) i (count-here x xs), omega arith)
start-thread k (x ∷ xs) (suc n) t e =
    let w = start-thread k xs n t e in
    (w.0, count-there t x xs w.1, omega (arith, w.2))

pub start-head : (k : ℕ) (xs : List ℕ) (n j : ℕ) → start_of k (drop n xs) ≡ Head j → (slice_get xs n ≡ None) × (length xs ≤ n)
start-head k [] n j e = (slice_get_past [] n (omega arith), omega arith)
start-head k (x ∷ xs) zero j e = cc
start-head k (x ∷ xs) (suc n) j e =
    let w = start-head k xs n j e in
    (w.0, omega (arith, w.1))

-- the threads of one list come after those of another
pub Leads-append : (f g f1 g1 f2 g2 f3 g3 : Place → Place) (from to : ℕ) (ys : List ℕ) (x : ℕ) (xs : List ℕ) → (from ≡ to → ⊥) → ((z : ℕ) → 0 < count z ys → 0 < count z (x ∷ xs) → ⊥) → ((z : ℕ) → count z (x ∷ xs) ≤ 1) → Follows f g f1 g1 (g (Head to)) (f (Head from)) → Follows f1 g1 f2 g2 (g (Head from)) (Head to) → Follows f2 g2 f3 g3 (Head from) (Head from) → Leads f g (Head to) ys (Head to) → Leads f g (Head from) (x ∷ xs) (Head from) → Leads f3 g3 (Head to) (ys ++ x ∷ xs) (Head to)
Leads-append f g f1 g1 f2 g2 f3 g3 from to ys x xs ne other once j1 j2 j3 r s =
    let turned = Leads-turned f g f1 g1 (Head to) (Head to) (Thread x) ys r join (Leads-end f g (Head to) (Head to) ys r) (λ y c e. cc) (λ y c e. let i : y ≡ x = cc in other x (subst (λ z. 0 < count z ys) i c) (count-here x xs)) in
    let rest = Leads-kept f g f1 g1 (Thread x) (Head from) xs s.2 (join.other_next (Thread x) (before x (count-here x xs))) (join.other_previous (Head from) (λ e. cc)) (λ y c. join.other_next (Thread y) (before y (count-there y x xs c))) (λ y c. join.other_previous (Thread y) (λ e. let i : x ≡ y = cc in omega (arith, once x, count-same x xs, subst (λ z. 0 < count z xs) (sym i) c))) in
    let last : g1 (Head from) ≡ g (Head from) = join.other_previous (Head from) (λ e. cc) in
    let second = subst (λ p. Follows f1 g1 f2 g2 p (Head to)) (sym last) j2 in
    let back = Leads-turned f1 g1 f2 g2 (Thread x) (Head from) (Head to) xs rest second (Leads-end f1 g1 (Thread x) (Head from) xs rest) (λ y c e. cc) (λ y c e. cc) in
    let front = Leads-kept f1 g1 f2 g2 (Head to) (Thread x) ys turned (j2.other_next (Head to) (λ e. behind_head e)) (j2.other_previous (Thread x) (λ e. cc)) (λ y c. j2.other_next (Thread y) (behind y c)) (λ y c. j2.other_previous (Thread y) (λ e. cc)) in
    Leads-outside f2 g2 f3 g3 to (ys ++ x ∷ xs) (Head from) (Head from) (Outside-head to from (ys ++ x ∷ xs) (λ e. ne (sym e))) (Outside-head to from (ys ++ x ∷ xs) (λ e. ne (sym e))) j3 (Leads-joined f2 g2 (Head to) (Head to) ys x xs front back)
  where
    join : Follows f g f1 g1 (g (Head to)) (Thread x)
    join = subst (λ p. Follows f g f1 g1 (g (Head to)) p) s.0 j1

    before : (z : ℕ) → 0 < count z (x ∷ xs) → Thread z ≡ g (Head to) → ⊥
    before z c e =
        elim (Leads-last f g (Head to) (Head to) ys r) [
          | inl i ↦ cc
          | inr w ↦ let i : w.0 ≡ z = cc in other z (subst (λ y. 0 < count y ys) i w.1) c
        ]

    behind_head : Head to ≡ g (Head from) → ⊥
    behind_head e =
        elim (Leads-last f g (Head from) (Head from) (x ∷ xs) s) [
          | inl i ↦ ne (let w : Head to ≡ Head from = e ∙ i in cc)
          | inr w ↦ cc
        ]

    behind : (y : ℕ) → 0 < count y ys → Thread y ≡ g (Head from) → ⊥
    behind y c e =
        elim (Leads-last f g (Head from) (Head from) (x ∷ xs) s) [
          | inl i ↦ cc
          | inr w ↦ let i : w.0 ≡ y = cc in other y c (subst (λ z. 0 < count z (x ∷ xs)) i w.1)
        ]
