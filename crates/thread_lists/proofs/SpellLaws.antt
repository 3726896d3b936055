-- How the lists that the links spell change with the links.
use Rattle.std.proofs.Common.{◌≡◌, ◌+◌, ◌<◌, ◌≤◌, ◌==◌, ℕ, zero, suc, List, [], ◌∷◌, ◌++◌, length, sym, ◌∙◌, ap, subst, refl, arith, add-one, append-nil, append_assoc, not, replicate, drop, take, slice_get, Some, None, ◌^◌, ◌⊎◌, inl, inr, set, get_or}
use Rattle.std.proofs.lemmas.Bool.{cases_eq, cases_lt, eq-eqb}
use Rattle.std.proofs.lemmas.Bool.Decides.{eqb_tells}
use Rattle.std.proofs.lemmas.List.{get_or-set_other, get_or-set_same, get_or-map, get_or_append_left, ext_get_or, length-append, length-map, replicate_more, set-get_or}
use Rattle.std.proofs.Math.ListN.{get_or-eq_default, length-set}
use Rattle.std.proofs.Math.Seq.{get_or-append_seam}
use Rattle.std.specs.Global.{Vec}
use Rattle.std.specs.Vec.{with_items}
use Rattle.std.proofs.lemmas.List.{with_items_is}
use Rattle.thread_lists.specs.declared.ring.Place.{Place}
use Rattle.thread_lists.specs.declared.ring.Place.TheVariants.{Head, Thread}
use Rattle.thread_lists.specs.declared.ring.Link.{Link}
use Rattle.thread_lists.specs.Lists.{Lists, append, count, total, list_at, push, without}
use Rattle.thread_lists.specs.Ring.{IsLinked, IsPlace, Leads, Joined, Spells, ring_of_one, link_of, next_of, previous_of, spelled, start_of, threads_from}
use Rattle.thread_lists.proofs.CountLaws.{count-append, count-cons, count-same, count-here, count-other, count-closed, length-le, never, Split, found, split, total-append, total-le, total-one_more, total-push, total-set, total-two, without-split}
use Rattle.thread_lists.proofs.RingLaws.{Leads-back, Leads-closed, Leads-append, Leads-front, Leads-kept, Leads-last, Leads-outside, Leads-push, Outside, Outside-head, Outside-thread, threads_from-Leads, Leads-next, start-head, start-thread}

-- what contracts see of the lists
abbrev pub seen : List (List ℕ) → ℕ → Lists
seen lists n = record { lists = lists; threads = n }

-- a place of the ring of list k
abbrev pub InRing : ℕ → List ℕ → Place → Type 0
InRing k xs p = (p ≡ Head k) ⊎ ((x : ℕ) × (0 < count x xs) × (p ≡ Thread x))

pub once_at : (heads threads : List Link) (lists : List (List ℕ)) → Spells heads threads lists → (k t : ℕ) → k < length lists → count t (list_at lists k) ≤ 1
once_at heads threads lists s k t h = omega (arith, s.once t, total-le t lists k h)

-- a list has no more threads than there are
pub length_at : (heads threads : List Link) (lists : List (List ℕ)) → Spells heads threads lists → (k : ℕ) → k < length heads → length (list_at lists k) ≤ length threads
length_at heads threads lists s k h =
    length-le (list_at lists k) (length threads) (λ t. once_at heads threads lists s k t (omega (arith, s.sizes))) (λ t le. omega (arith, s.within t le, total-le t lists k (omega (arith, s.sizes))))

-- what the links spell is these lists
pub spelled_is : (heads threads : List Link) (lists : List (List ℕ)) → Spells heads threads lists → spelled heads threads ≡ lists
spelled_is heads threads lists s =
    ext_get_or [] (spelled heads threads) lists (length-map heads _ ∙ sym s.sizes) (λ k h.
    let inside : k < length heads = omega (arith, length-map heads (λ (head : Link). threads_from (next_of heads threads) (length threads) head.next)) in
    get_or-map _ heads k (ring_of_one (Head k)) [] inside
    ∙ threads_from-Leads (next_of heads threads) (previous_of heads threads) (Head k) k (list_at lists k) (length threads) (s.rings k inside) (length_at heads threads lists s k inside))

-- a place of one list's ring isn't in another's
pub Outside-InRing : (lists : List (List ℕ)) (j k : ℕ) → ((t : ℕ) → total (count t) lists ≤ 1) → j < length lists → k < length lists → (j ≡ k → ⊥) → (p : Place) → InRing k (list_at lists k) p → Outside j (list_at lists j) p
Outside-InRing lists j k once hj hk ne p (inl e) = record { head = λ i. ne (let w : Head j ≡ Head k = i ∙ e in cc); thread = λ x c i. let w : Thread x ≡ Head k = i ∙ e in cc }
Outside-InRing lists j k once hj hk ne p (inr w) =
    record {
      head = λ i. let v : Head j ≡ Thread w.0 = i ∙ w.2 in cc;
      thread = λ x c i.
          let v : Thread x ≡ Thread w.0 = i ∙ w.2 in
          let e : x ≡ w.0 = cc in
          omega (arith, once w.0, total-two w.0 lists j k hj hk ne, subst (λ y. 0 < count y (list_at lists j)) e c, w.1);
    }

-- a thread that is in no list isn't a place of a ring
pub not_in_ring : (k : ℕ) (xs : List ℕ) (p : Place) → InRing k xs p → (t : ℕ) → count t xs ≡ 0 → Thread t ≡ p → ⊥
not_in_ring k xs p (inl e) t z i = let w : Thread t ≡ Head k = i ∙ e in cc
not_in_ring k xs p (inr w) t z i =
    let v : Thread t ≡ Thread w.0 = i ∙ w.2 in
    let e : w.0 ≡ t = cc in
    never t xs z (subst (λ y. 0 < count y xs) e w.1)

-- the neighbours of a thread are in the ring of its list
pub previous_in_ring : (f g : Place → Place) (k : ℕ) (us : List ℕ) (t : ℕ) (vs : List ℕ) → Leads f g (Head k) (us ++ t ∷ vs) (Head k) → InRing k (us ++ t ∷ vs) (g (Thread t))
previous_in_ring f g k us t vs r =
    elim (Leads-last f g (Head k) (Thread t) us (Leads-front f g (Head k) (Head k) us t vs r)) [ inl e ↦ inl e | inr w ↦ inr (w.0, omega (arith, count-append w.0 us (t ∷ vs), w.1), w.2) ]

pub next_in_ring : (f g : Place → Place) (k : ℕ) (us : List ℕ) (t : ℕ) (vs : List ℕ) → Leads f g (Head k) (us ++ t ∷ vs) (Head k) → InRing k (us ++ t ∷ vs) (f (Thread t))
next_in_ring f g k us t [] r = inl (Leads-back f g (Head k) (Head k) us t [] r).0
next_in_ring f g k us t (v ∷ vs) r =
    inr (v, omega (arith, count-append v us (t ∷ v ∷ vs), count-cons v t (v ∷ vs), count-here v vs), (Leads-back f g (Head k) (Head k) us t (v ∷ vs) r).0)

pub lists_below : (heads threads : List Link) (lists : List (List ℕ)) → Spells heads threads lists → (k : ℕ) → k < length heads → k < length lists
lists_below heads threads lists s k h = omega (arith, s.sizes)

-- the threads of the lists are among those there are
pub below : (heads threads : List Link) (lists : List (List ℕ)) → Spells heads threads lists → (k t : ℕ) → k < length lists → 0 < count t (list_at lists k) → t < length threads
below heads threads lists s k t h c =
    elim (cases_lt t (length threads)) [ inl l ↦ l | inr g ↦ absurd (omega (arith, s.within t g, total-le t lists k h)) ]

-- a place of a ring is one of the places there are
pub IsPlace-InRing : (heads threads : List Link) (lists : List (List ℕ)) → Spells heads threads lists → (k : ℕ) → k < length heads → (p : Place) → InRing k (list_at lists k) p → IsPlace heads threads p
IsPlace-InRing heads threads lists s k h p (inl e) = subst (IsPlace heads threads) (sym e) h
IsPlace-InRing heads threads lists s k h p (inr w) = subst (IsPlace heads threads) (sym w.2) (below heads threads lists s k w.0 (omega (arith, s.sizes)) w.1)

-- the neighbours of a list's head, and of a thread, are in the ring
pub last_in_ring : (heads threads : List Link) (lists : List (List ℕ)) → Spells heads threads lists → (k : ℕ) → k < length heads → InRing k (list_at lists k) (previous_of heads threads (Head k))
last_in_ring heads threads lists s k h = Leads-last (next_of heads threads) (previous_of heads threads) (Head k) (Head k) (list_at lists k) (s.rings k h)

module _ (heads threads : List Link) (lists : List (List ℕ)) (s : Spells heads threads lists) (k t : ℕ) (h : k < length heads) (c : 0 < count t (list_at lists k)) where
  cut : Split t (list_at lists k)
  cut = split t (list_at lists k) c

  ring : Leads (next_of heads threads) (previous_of heads threads) (Head k) (cut.before ++ t ∷ cut.after) (Head k)
  ring = subst (λ xs. Leads (next_of heads threads) (previous_of heads threads) (Head k) xs (Head k)) cut.is (s.rings k h)

  pub previous_at : InRing k (list_at lists k) (previous_of heads threads (Thread t))
  previous_at = subst (λ xs. InRing k xs (previous_of heads threads (Thread t))) (sym cut.is) (previous_in_ring (next_of heads threads) (previous_of heads threads) k cut.before t cut.after ring)

  pub next_at : InRing k (list_at lists k) (next_of heads threads (Thread t))
  next_at = subst (λ xs. InRing k xs (next_of heads threads (Thread t))) (sym cut.is) (next_in_ring (next_of heads threads) (previous_of heads threads) k cut.before t cut.after ring)

-- the rings of lists of which one changed
pub rings-set : (f g : Place → Place) (lists : List (List ℕ)) (k n : ℕ) (xs : List ℕ) → length lists ≡ n → k < n → Leads f g (Head k) xs (Head k) → ((j : ℕ) → j < n → (j ≡ k → ⊥) → Leads f g (Head j) (list_at lists j) (Head j)) → (j : ℕ) → j < n → Leads f g (Head j) (list_at (set lists k xs) j) (Head j)
rings-set f g lists k n xs size h here others j hj =
    elim (cases_eq j k) [
      | inl e ↦
          subst (λ i. Leads f g (Head i) (list_at (set lists k xs) i) (Head i)) (sym e)
          (subst (λ ys. Leads f g (Head k) ys (Head k)) (sym (get_or-set_same lists k xs [] (omega arith))) here)
      | inr ne ↦ subst (λ ys. Leads f g (Head j) ys (Head j)) (sym (get_or-set_other lists k j xs [] ne)) (others j hj ne)
    ]

module _ (h s h1 s1 h2 s2 : List Link) (lists : List (List ℕ)) (k t : ℕ) (same : length h2 ≡ length h) (same_threads : length s2 ≡ length s) (spells : Spells h s lists) (inside : k < length h) where
  -- a thread that is in no list comes last to list k
  pub Spells-push : t < length s → total (count t) lists ≡ 0 → Joined h s h1 s1 (previous_of h s (Head k)) (Thread t) → Joined h1 s1 h2 s2 (Thread t) (Head k) → Spells h2 s2 (push lists k (t ∷ []))
  Spells-push below none j1 j2 =
      record {
        sizes = length-set lists k _ ∙ spells.sizes ∙ sym same;
        rings = λ j hj. rings-set (next_of h2 s2) (previous_of h2 s2) lists k (length h) (list_at lists k ++ t ∷ []) spells.sizes inside
            (Leads-push (next_of h s) (previous_of h s) (next_of h1 s1) (previous_of h1 s1) (next_of h2 s2) (previous_of h2 s2) k t (list_at lists k) (not_at k inside) j1 j2 (spells.rings k inside))
            others j (omega arith);
        once = λ x. elim (cases_eq x t) [
          | inl e ↦ subst (λ y. total (count y) (push lists k (t ∷ [])) ≤ 1) (sym e) (omega (arith, total-push t lists k (t ∷ []) in_lists, count-same t []))
          | inr ne ↦ omega (arith, spells.once x, total-push x lists k (t ∷ []) in_lists, count-other x t [] (λ e. ne (sym e)))
        ];
        within = λ x le. omega (arith, spells.within x (omega arith), total-push x lists k (t ∷ []) in_lists, count-other x t [] (λ e. omega arith));
        outside = λ x none_of.
            let ne : x ≡ t → ⊥ = λ e. omega (arith, total-push t lists k (t ∷ []) in_lists, count-same t [], subst (λ y. total (count y) (push lists k (t ∷ [])) ≡ 0) e none_of) in
            let before : total (count x) lists ≡ 0 = omega (arith, total-push x lists k (t ∷ []) in_lists) in
            j2.other_next (Thread x) (λ e. ne cc)
            ∙ j1.other_next (Thread x) (not_in_ring k (list_at lists k) _ last x (omega (arith, total-le x lists k in_lists)))
            ∙ spells.outside x before;
        few = omega (arith, spells.few);
        few_lists = omega (arith, spells.few_lists);
      }
    where
      in_lists : k < length lists
      in_lists = omega (arith, spells.sizes)

      not_at : (j : ℕ) → j < length h → count t (list_at lists j) ≡ 0
      not_at j hj = omega (arith, total-le t lists j (omega (arith, spells.sizes)))

      last : InRing k (list_at lists k) (previous_of h s (Head k))
      last = last_in_ring h s lists spells k inside

      others : (j : ℕ) → j < length h → (j ≡ k → ⊥) → Leads (next_of h2 s2) (previous_of h2 s2) (Head j) (list_at lists j) (Head j)
      others j hj ne =
          let free = Outside-thread j t (list_at lists j) (not_at j hj) in
          Leads-outside (next_of h1 s1) (previous_of h1 s1) (next_of h2 s2) (previous_of h2 s2) j (list_at lists j) (Thread t) (Head k) free (Outside-head j k (list_at lists j) ne) j2
          (Leads-outside (next_of h s) (previous_of h s) (next_of h1 s1) (previous_of h1 s1) j (list_at lists j) (previous_of h s (Head k)) (Thread t) (Outside-InRing lists j k spells.once (omega (arith, spells.sizes)) in_lists ne _ last) free j1 (spells.rings j hj))

  -- a thread leaves list k
  pub Spells-remove : 0 < count t (list_at lists k) → Joined h s h1 s1 (previous_of h s (Thread t)) (next_of h s (Thread t)) → Joined h1 s1 h2 s2 (Thread t) (Thread t) → Spells h2 s2 (set lists k (without t (list_at lists k)))
  Spells-remove held j1 j2 =
      subst (λ xs. Spells h2 s2 (set lists k xs)) (sym left) (record {
        sizes = length-set lists k _ ∙ spells.sizes ∙ sym same;
        rings = λ j hj. rings-set (next_of h2 s2) (previous_of h2 s2) lists k (length h) rest spells.sizes inside
            (Leads-outside (next_of h1 s1) (previous_of h1 s1) (next_of h2 s2) (previous_of h2 s2) k rest (Thread t) (Thread t) gone gone j2
            (Leads-closed (next_of h s) (previous_of h s) (next_of h1 s1) (previous_of h1 s1) k cut.before t cut.after once_here j1 ring))
            others j (omega arith);
        once = λ x. omega (arith, spells.once x, total_after x);
        within = λ x le. omega (arith, spells.within x (omega arith), total_after x);
        outside = λ x none. elim (cases_eq x t) [
          | inl e ↦ subst (λ y. next_of h2 s2 (Thread y) ≡ Thread y) (sym e) j2.next
          | inr ne ↦
              let before : total (count x) lists ≡ 0 = omega (arith, total-set (count x) lists k rest in_lists, ap (count x) cut.is, count-closed x t cut.before cut.after ne) in
              let nowhere : count x (list_at lists k) ≡ 0 = omega (arith, total-le x lists k in_lists) in
              j2.other_next (Thread x) (λ e. ne cc)
              ∙ j1.other_next (Thread x) (not_in_ring k (list_at lists k) _ first x nowhere)
              ∙ spells.outside x before
        ];
        few = omega (arith, spells.few);
        few_lists = omega (arith, spells.few_lists);
      })
    where
      in_lists : k < length lists
      in_lists = omega (arith, spells.sizes)

      cut : Split t (list_at lists k)
      cut = split t (list_at lists k) held

      rest : List ℕ
      rest = cut.before ++ cut.after

      ring : Leads (next_of h s) (previous_of h s) (Head k) (cut.before ++ t ∷ cut.after) (Head k)
      ring = subst (λ xs. Leads (next_of h s) (previous_of h s) (Head k) xs (Head k)) cut.is (spells.rings k inside)

      once_here : (x : ℕ) → count x (cut.before ++ t ∷ cut.after) ≤ 1
      once_here x = subst (λ xs. count x xs ≤ 1) cut.is (once_at h s lists spells k x in_lists)

      parts : count t cut.before + count t cut.after ≡ 0
      parts = omega (arith, once_here t, count-append t cut.before (t ∷ cut.after), count-same t cut.after)

      left : without t (list_at lists k) ≡ rest
      left = ap (without t) cut.is ∙ without-split t cut.before cut.after (omega (arith, parts)) (omega (arith, parts))

      gone : Outside k rest (Thread t)
      gone = Outside-thread k t rest (count-append t cut.before cut.after ∙ parts)

      first : InRing k (list_at lists k) (previous_of h s (Thread t))
      first = previous_at h s lists spells k t inside held

      second : InRing k (list_at lists k) (next_of h s (Thread t))
      second = next_at h s lists spells k t inside held

      total_after : (x : ℕ) → total (count x) (set lists k rest) ≤ total (count x) lists
      total_after x =
          omega (arith, total-set (count x) lists k rest in_lists, ap (count x) cut.is, count-append x cut.before (t ∷ cut.after), count-append x cut.before cut.after, count-cons x t cut.after)

      others : (j : ℕ) → j < length h → (j ≡ k → ⊥) → Leads (next_of h2 s2) (previous_of h2 s2) (Head j) (list_at lists j) (Head j)
      others j hj ne =
          let in_j : j < length lists = omega (arith, spells.sizes) in
          let free = Outside-thread j t (list_at lists j) (omega (arith, spells.once t, total-two t lists j k in_j in_lists ne)) in
          Leads-outside (next_of h1 s1) (previous_of h1 s1) (next_of h2 s2) (previous_of h2 s2) j (list_at lists j) (Thread t) (Thread t) free free j2
          (Leads-outside (next_of h s) (previous_of h s) (next_of h1 s1) (previous_of h1 s1) j (list_at lists j) (previous_of h s (Thread t)) (next_of h s (Thread t))
          (Outside-InRing lists j k spells.once in_j in_lists ne _ first) (Outside-InRing lists j k spells.once in_j in_lists ne _ second) j1 (spells.rings j hj))

begins_with : (f g : Place → Place) (k : ℕ) (xs : List ℕ) (t : ℕ) → Leads f g (Head k) xs (Head k) → f (Head k) ≡ Thread t → (ys : List ℕ) × (xs ≡ t ∷ ys)
begins_with f g k [] t r e = let i : Head k ≡ Thread t = sym r.0 ∙ e in cc
begins_with f g k (x ∷ xs) t r e = let i : Thread x ≡ Thread t = sym r.0 ∙ e in let j : x ≡ t = cc in (xs, ap (λ y. y ∷ xs) j)

begins_with_none : (f g : Place → Place) (k : ℕ) (xs : List ℕ) (j : ℕ) → Leads f g (Head k) xs (Head k) → f (Head k) ≡ Head j → xs ≡ []
begins_with_none f g k [] j r e = refl
begins_with_none f g k (x ∷ xs) j r e = let i : Thread x ≡ Head j = sym r.0 ∙ e in cc

-- what the struct keeps, where its vectors were lent
pub own : (h s : List Link) (lists : List (List ℕ)) → Spells h s lists → IsLinked h s
own h s lists spells = subst (λ ls. Spells h s ls) (sym (spelled_is h s lists spells)) spells

pub IsLinked-lent : (heads threads : Vec Link) (h s : List Link) (lists : List (List ℕ)) → length h ≡ heads.len → length s ≡ threads.len → Spells h s lists → IsLinked (with_items heads h).items (with_items threads s).items
IsLinked-lent heads threads h s lists eh es spells =
    subst (λ hs. IsLinked hs (with_items threads s).items) (sym (with_items_is heads h eh)) (subst (λ ss. IsLinked h ss) (sym (with_items_is threads s es)) (own h s lists spells))

pub lists-lent : (change : List (List ℕ) → List (List ℕ)) (heads threads : Vec Link) (h0 s0 h s : List Link) → h0 ≡ heads.items → s0 ≡ threads.items → length h ≡ heads.len → length s ≡ threads.len → Spells h s (change (spelled h0 s0)) → seen (spelled (with_items heads h).items (with_items threads s).items) threads.len ≡ seen (change (spelled heads.items threads.items)) threads.len
lists-lent change heads threads h0 s0 h s e0 e1 eh es spells =
    ap (λ hs. seen (spelled hs (with_items threads s).items) threads.len) (with_items_is heads h eh)
    ∙ ap (λ ss. seen (spelled h ss) threads.len) (with_items_is threads s es)
    ∙ ap (λ ls. seen ls threads.len) (spelled_is h s (change (spelled h0 s0)) spells)
    ∙ ap (λ hs. seen (change (spelled hs s0)) threads.len) e0
    ∙ ap (λ ss. seen (change (spelled heads.items ss)) threads.len) e1

-- a place in front of the rest of a list that is a thread, while a list is gone along
pub record Step (heads threads : List Link) (xs : List ℕ) (k n : ℕ) (p : Place) (t : ℕ) : Type 0 where
  pub inside : IsPlace heads threads p
  pub next : next_of heads threads p ≡ start_of k (drop (n + 1) xs)
  pub at : slice_get xs n ≡ Some t
  pub below : n < length xs
  pub fits : n + 1 < 2 ^ 32

pub step : (heads threads : List Link) (lists : List (List ℕ)) → Spells heads threads lists → (k n : ℕ) (p : Place) (t : ℕ) → k < length heads → p ≡ start_of k (drop n (list_at lists k)) → p ≡ Thread t → Step heads threads (list_at lists k) k n p t
step heads threads lists s k n p t h e is =
    let w = start-thread k (list_at lists k) n t (sym e ∙ is) in
    let here = below heads threads lists s k t (lists_below heads threads lists s k h) w.1 in
    let next = Leads-next (next_of heads threads) (previous_of heads threads) (Head k) k (list_at lists k) n t (s.rings k h) (sym e ∙ is) in
    record {
      inside = subst (IsPlace heads threads) (sym is) here;
      next = rw add-one (ap (next_of heads threads) is ∙ next);
      at = w.0;
      below = w.2;
      fits = omega (arith, w.2, length_at heads threads lists s k h, s.few);
    }

pub step_end : (k n : ℕ) (xs : List ℕ) (p : Place) (j : ℕ) → p ≡ start_of k (drop n xs) → p ≡ Head j → (slice_get xs n ≡ None) × (length xs ≤ n)
step_end k n xs p j e is = start-head k xs n j (sym e ∙ is)

-- the place at which a thread stands in its list, and the thread behind it
at_thread : (k : ℕ) (xs : List ℕ) (n t : ℕ) → slice_get xs n ≡ Some t → Thread t ≡ start_of k (drop n xs)
at_thread k [] n t e = absurd cc
at_thread k (x ∷ xs) zero t e = let i : t ≡ x = cc in ap Thread i
at_thread k (x ∷ xs) (suc n) t e = at_thread k xs n t e

pub listed_inside : (heads threads : List Link) (lists : List (List ℕ)) → Spells heads threads lists → (k n t : ℕ) → k < length heads → slice_get (list_at lists k) n ≡ Some t → t < length threads
listed_inside heads threads lists s k n t h e = (step heads threads lists s k n (Thread t) t h (at_thread k (list_at lists k) n t e) refl).inside

pub behind_thread : (heads threads : List Link) (lists : List (List ℕ)) → Spells heads threads lists → (k n t u : ℕ) → k < length heads → slice_get (list_at lists k) n ≡ Some t → next_of heads threads (Thread t) ≡ Thread u → Some u ≡ slice_get (list_at lists k) (n + 1)
behind_thread heads threads lists s k n t u h e is =
    let next = (step heads threads lists s k n (Thread t) t h (at_thread k (list_at lists k) n t e) refl).next in
    sym (start-thread k (list_at lists k) (n + 1) u (sym next ∙ is)).0

pub behind_none : (heads threads : List Link) (lists : List (List ℕ)) → Spells heads threads lists → (k n t j : ℕ) → k < length heads → slice_get (list_at lists k) n ≡ Some t → next_of heads threads (Thread t) ≡ Head j → None ≡ slice_get (list_at lists k) (n + 1)
behind_none heads threads lists s k n t j h e is =
    let next = (step heads threads lists s k n (Thread t) t h (at_thread k (list_at lists k) n t e) refl).next in
    sym (start-head k (list_at lists k) (n + 1) j (sym next ∙ is)).0

leads_on : (f g : Place → Place) (k : ℕ) (us : List ℕ) (t : ℕ) (vs : List ℕ) → count t (us ++ t ∷ vs) ≤ 1 → Leads f g (Head k) (us ++ t ∷ vs) (Head k) → f (Thread t) ≡ Thread t → ⊥
leads_on f g k us t [] once r e = let i : Head k ≡ Thread t = sym (Leads-back f g (Head k) (Head k) us t [] r).0 ∙ e in cc
leads_on f g k us t (v ∷ vs) once r e =
    let i : Thread v ≡ Thread t = sym (Leads-back f g (Head k) (Head k) us t (v ∷ vs) r).0 ∙ e in
    let same : v ≡ t = cc in
    omega (arith, once, count-append t us (t ∷ v ∷ vs), count-same t (v ∷ vs), subst (λ y. 0 < count y (v ∷ vs)) same (count-here v vs))

-- a thread of a list is followed by another place
pub held_leads_on : (heads threads : List Link) (lists : List (List ℕ)) → Spells heads threads lists → (t : ℕ) → next_of heads threads (Thread t) ≡ Thread t → total (count t) lists ≡ 0
held_leads_on heads threads lists s t e =
    elim (cases_lt 0 (total (count t) lists)) [
      | inl some ↦
          let at = found t lists some in
          let cut = split t (list_at lists at.0) at.2 in
          let ring = subst (λ xs. Leads (next_of heads threads) (previous_of heads threads) (Head at.0) xs (Head at.0)) cut.is (s.rings at.0 (omega (arith, s.sizes, at.1))) in
          absurd (leads_on (next_of heads threads) (previous_of heads threads) at.0 cut.before t cut.after (subst (λ xs. count t xs ≤ 1) cut.is (once_at heads threads lists s at.0 t at.1)) ring e)
      | inr none ↦ omega (arith, none)
    ]

pub is_linked_by_next : (heads threads : List Link) (lists : List (List ℕ)) → Spells heads threads lists → (t next : ℕ) → next_of heads threads (Thread t) ≡ Thread next → not (next == t) ≡ not (total (count t) lists == 0)
is_linked_by_next heads threads lists s t next e =
    elim (eqb_tells next t) [
      | inl same ↦
          ap not (same.0 ∙ sym (eq-eqb (total (count t) lists) 0 (held_leads_on heads threads lists s t (e ∙ ap Thread same.1))))
      | inr differs ↦
          elim (eqb_tells (total (count t) lists) 0) [
            | inl none ↦ let i : Thread next ≡ Thread t = sym e ∙ s.outside t none.1 in absurd (differs.1 cc)
            | inr some ↦ ap not (differs.0 ∙ sym some.0)
          ]
    ]

-- an empty list adds nothing to another
pub append-none : (lists : List (List ℕ)) (from to : ℕ) → list_at lists from ≡ [] → append lists from to ≡ lists
append-none lists from to e =
    ap (λ xs. set (push lists to xs) from []) e
    ∙ ap (λ xs. set (set lists to xs) from []) (append-nil (list_at lists to))
    ∙ ap (λ ls. set ls from []) (set-get_or lists to [])
    ∙ ap (set lists from) (sym e)
    ∙ set-get_or lists from []

-- the threads of one list come after those of another
module _ (h s h1 s1 h2 s2 h3 s3 : List Link) (lists : List (List ℕ)) (from to : ℕ) (same : length h3 ≡ length h) (same_threads : length s3 ≡ length s) (spells : Spells h s lists) (from_in : from < length h) (to_in : to < length h) (ne : from ≡ to → ⊥) where
  pub Spells-append : (x : ℕ) (xs : List ℕ) → list_at lists from ≡ x ∷ xs → Joined h s h1 s1 (previous_of h s (Head to)) (next_of h s (Head from)) → Joined h1 s1 h2 s2 (previous_of h s (Head from)) (Head to) → Joined h2 s2 h3 s3 (Head from) (Head from) → Spells h3 s3 (append lists from to)
  Spells-append x xs is j1 j2 j3 =
      record {
        sizes = length-set (push lists to (list_at lists from)) from [] ∙ length-set lists to _ ∙ spells.sizes ∙ sym same;
        rings = λ j hj. rings-set (next_of h3 s3) (previous_of h3 s3) (push lists to (list_at lists from)) from (length h) [] (length-set lists to _ ∙ spells.sizes) from_in (j3.next, j3.previous)
            (λ i hi ni. rings-set-one i hi ni) j (omega arith);
        once = λ t. omega (arith, spells.once t, total-append t lists from to in_from in_to ne);
        within = λ t le. omega (arith, spells.within t (omega arith), total-append t lists from to in_from in_to ne);
        outside = λ t none.
            let before : total (count t) lists ≡ 0 = omega (arith, total-append t lists from to in_from in_to ne) in
            j3.other_next (Thread t) (λ e. cc)
            ∙ j2.other_next (Thread t) (not_in_ring from (list_at lists from) _ last t (omega (arith, total-le t lists from in_from)))
            ∙ j1.other_next (Thread t) (not_in_ring to (list_at lists to) _ end t (omega (arith, total-le t lists to in_to)))
            ∙ spells.outside t before;
        few = omega (arith, spells.few);
        few_lists = omega (arith, spells.few_lists);
      }
    where
      in_from : from < length lists
      in_from = omega (arith, spells.sizes)

      in_to : to < length lists
      in_to = omega (arith, spells.sizes)

      last : InRing from (list_at lists from) (previous_of h s (Head from))
      last = last_in_ring h s lists spells from from_in

      end : InRing to (list_at lists to) (previous_of h s (Head to))
      end = last_in_ring h s lists spells to to_in

      first : InRing from (list_at lists from) (next_of h s (Head from))
      first = subst (λ ys. InRing from ys (next_of h s (Head from))) (sym is) (inr (x, count-here x xs, (subst (λ ys. Leads (next_of h s) (previous_of h s) (Head from) ys (Head from)) is (spells.rings from from_in)).0))

      whole : Leads (next_of h3 s3) (previous_of h3 s3) (Head to) (list_at lists to ++ x ∷ xs) (Head to)
      whole = Leads-append (next_of h s) (previous_of h s) (next_of h1 s1) (previous_of h1 s1) (next_of h2 s2) (previous_of h2 s2) (next_of h3 s3) (previous_of h3 s3) from to (list_at lists to) x xs ne
          (λ z c d. omega (arith, spells.once z, total-two z lists from to in_from in_to ne, subst (λ ys. 0 < count z ys) (sym is) d, c))
          (λ z. subst (λ ys. count z ys ≤ 1) is (once_at h s lists spells from z in_from))
          j1 j2 j3 (spells.rings to to_in) (subst (λ ys. Leads (next_of h s) (previous_of h s) (Head from) ys (Head from)) is (spells.rings from from_in))

      others : (j : ℕ) → j < length h → (j ≡ from → ⊥) → (j ≡ to → ⊥) → Leads (next_of h3 s3) (previous_of h3 s3) (Head j) (list_at lists j) (Head j)
      others j hj nf nt =
          let in_j : j < length lists = omega (arith, spells.sizes) in
          let ys = list_at lists j in
          let of_from = λ (p : Place) (i : InRing from (list_at lists from) p). Outside-InRing lists j from spells.once in_j in_from nf p i in
          let of_to = λ (p : Place) (i : InRing to (list_at lists to) p). Outside-InRing lists j to spells.once in_j in_to nt p i in
          Leads-outside (next_of h2 s2) (previous_of h2 s2) (next_of h3 s3) (previous_of h3 s3) j ys (Head from) (Head from) (Outside-head j from ys nf) (Outside-head j from ys nf) j3
          (Leads-outside (next_of h1 s1) (previous_of h1 s1) (next_of h2 s2) (previous_of h2 s2) j ys (previous_of h s (Head from)) (Head to) (of_from _ last) (Outside-head j to ys nt) j2
          (Leads-outside (next_of h s) (previous_of h s) (next_of h1 s1) (previous_of h1 s1) j ys (previous_of h s (Head to)) (next_of h s (Head from)) (of_to _ end) (of_from _ first) j1 (spells.rings j hj)))

      rings-set-one : (i : ℕ) → i < length h → (i ≡ from → ⊥) → Leads (next_of h3 s3) (previous_of h3 s3) (Head i) (list_at (push lists to (list_at lists from)) i) (Head i)
      rings-set-one i hi ni =
          elim (cases_eq i to) [
            | inl e ↦
                subst (λ n. Leads (next_of h3 s3) (previous_of h3 s3) (Head n) (list_at (push lists to (list_at lists from)) n) (Head n)) (sym e)
                (subst (λ ys. Leads (next_of h3 s3) (previous_of h3 s3) (Head to) ys (Head to)) (sym (get_or-set_same lists to _ [] in_to ∙ ap (λ ys. list_at lists to ++ ys) is)) whole)
            | inr nt ↦ subst (λ ys. Leads (next_of h3 s3) (previous_of h3 s3) (Head i) ys (Head i)) (sym (get_or-set_other lists to i _ [] nt)) (others i hi ni nt)
          ]

-- one more list, and one more thread
pub get_or-one_more : {X : Type 0} (xs : List X) (d : ℕ → X) (j : ℕ) → get_or (xs ++ d (length xs) ∷ []) j (d j) ≡ get_or xs j (d j)
get_or-one_more [] d zero = refl
get_or-one_more [] d (suc j) = refl
get_or-one_more (x ∷ xs) d zero = refl
get_or-one_more (x ∷ xs) d (suc j) = get_or-one_more xs (λ i. d (suc i)) j

link_of-list : (h s : List Link) (p : Place) → link_of (h ++ ring_of_one (Head (length h)) ∷ []) s p ≡ link_of h s p
link_of-list h s (Head k) = get_or-one_more h (λ k. ring_of_one (Head k)) k
link_of-list h s (Thread t) = refl

link_of-thread : (h s : List Link) (p : Place) → link_of h (s ++ ring_of_one (Thread (length s)) ∷ []) p ≡ link_of h s p
link_of-thread h s (Head k) = refl
link_of-thread h s (Thread t) = get_or-one_more s (λ t. ring_of_one (Thread t)) t

pub Leads-same : (h s h' s' : List Link) → ((p : Place) → link_of h' s' p ≡ link_of h s p) → (a b : Place) (xs : List ℕ) → Leads (next_of h s) (previous_of h s) a xs b → Leads (next_of h' s') (previous_of h' s') a xs b
Leads-same h s h' s' e a b xs r =
    Leads-kept (next_of h s) (previous_of h s) (next_of h' s') (previous_of h' s') a b xs r (ap (λ (l : Link). l.next) (e a)) (ap (λ (l : Link). l.previous) (e b)) (λ x c. ap (λ (l : Link). l.next) (e (Thread x))) (λ x c. ap (λ (l : Link). l.previous) (e (Thread x)))

pub Spells-add_list : (h s : List Link) (lists : List (List ℕ)) → length h < 2 ^ 32 → Spells h s lists → Spells (h ++ ring_of_one (Head (length h)) ∷ []) s (lists ++ [] ∷ [])
Spells-add_list h s lists fits spells =
    record {
      sizes = omega (arith, spells.sizes, length-append lists ([] ∷ []), length-append h (ring_of_one (Head (length h)) ∷ []));
      rings = λ j hj.
          elim (cases_lt j (length h)) [
            | inl l ↦
                subst (λ ys. Leads (next_of (h ++ ring_of_one (Head (length h)) ∷ []) s) (previous_of (h ++ ring_of_one (Head (length h)) ∷ []) s) (Head j) ys (Head j)) (sym (get_or_append_left lists ([] ∷ []) [] j (omega (arith, spells.sizes))))
                (Leads-same h s (h ++ ring_of_one (Head (length h)) ∷ []) s (link_of-list h s) (Head j) (Head j) (list_at lists j) (spells.rings j l))
            | inr g ↦
                let beyond : get_or h j (ring_of_one (Head j)) ≡ ring_of_one (Head j) = get_or-eq_default h (ring_of_one (Head j)) g in
                let link : link_of (h ++ ring_of_one (Head (length h)) ∷ []) s (Head j) ≡ ring_of_one (Head j) = link_of-list h s (Head j) ∙ beyond in
                let here : j ≡ length lists = omega (arith, spells.sizes, length-append h (ring_of_one (Head (length h)) ∷ [])) in
                subst (λ ys. Leads (next_of (h ++ ring_of_one (Head (length h)) ∷ []) s) (previous_of (h ++ ring_of_one (Head (length h)) ∷ []) s) (Head j) ys (Head j))
                (sym (ap (list_at (lists ++ [] ∷ [])) here ∙ get_or-append_seam lists [] [] []))
                (ap (λ (l : Link). l.next) link, ap (λ (l : Link). l.previous) link)
          ];
      once = λ t. omega (arith, spells.once t, total-one_more t lists);
      within = λ t le. omega (arith, spells.within t le, total-one_more t lists);
      outside = λ t none. ap (λ (l : Link). l.next) (link_of-list h s (Thread t)) ∙ spells.outside t (omega (arith, total-one_more t lists));
      few = spells.few;
      few_lists = omega (arith, length-append h (ring_of_one (Head (length h)) ∷ []));
    }

pub Spells-add_thread : (h s : List Link) (lists : List (List ℕ)) → length s + 1 < 2 ^ 32 → Spells h s lists → Spells h (s ++ ring_of_one (Thread (length s)) ∷ []) lists
Spells-add_thread h s lists fits spells =
    record {
      sizes = spells.sizes;
      rings = λ j hj. Leads-same h s h (s ++ ring_of_one (Thread (length s)) ∷ []) (link_of-thread h s) (Head j) (Head j) (list_at lists j) (spells.rings j hj);
      once = spells.once;
      within = λ t le. spells.within t (omega (arith, length-append s (ring_of_one (Thread (length s)) ∷ [])));
      outside = λ t none. ap (λ (l : Link). l.next) (link_of-thread h s (Thread t)) ∙ spells.outside t none;
      few = omega (arith, length-append s (ring_of_one (Thread (length s)) ∷ []));
      few_lists = spells.few_lists;
    }

pub added_list : (h s h' : List Link) (link : Link) (k : ℕ) (lists : List (List ℕ)) → h' ≡ h ++ link ∷ [] → link ≡ ring_of_one (Head k) → k ≡ length h → k < 2 ^ 32 → Spells h s lists → Spells h' s (lists ++ [] ∷ [])
added_list h s h' link k lists items is at fits spells =
    subst (λ hs. Spells hs s (lists ++ [] ∷ [])) (sym (items ∙ ap (λ l. h ++ l ∷ []) (is ∙ ap (λ n. ring_of_one (Head n)) at))) (Spells-add_list h s lists (omega arith) spells)

pub one_more_list : (h s h' : List Link) (link : Link) (k : ℕ) (lists : List (List ℕ)) (n m : ℕ) → h' ≡ h ++ link ∷ [] → link ≡ ring_of_one (Head k) → k ≡ length h → k < 2 ^ 32 → n + 1 ≡ m → Spells h s (lists ++ replicate n []) → Spells h' s (lists ++ replicate m [])
one_more_list h s h' link k lists n m items is at fits more spells =
    subst (Spells h' s) (append_assoc lists (replicate n []) ([] ∷ []) ∙ ap (λ ls. lists ++ ls) (replicate_more n [] ∙ ap (λ i. replicate i []) more))
    (added_list h s h' link k (lists ++ replicate n []) items is at fits spells)

pub added_thread : (h s s' : List Link) (link : Link) (t : ℕ) (lists : List (List ℕ)) → s' ≡ s ++ link ∷ [] → link ≡ ring_of_one (Thread t) → t ≡ length s → t + 1 < 2 ^ 32 → Spells h s lists → Spells h s' lists
added_thread h s s' link t lists items is at fits spells =
    subst (λ ss. Spells h ss lists) (sym (items ∙ ap (λ l. s ++ l ∷ []) (is ∙ ap (λ n. ring_of_one (Thread n)) at))) (Spells-add_thread h s lists (omega arith) spells)

-- a place stays one while the links change
pub IsPlace-same : (h s h' s' : List Link) (p : Place) → length h' ≡ length h → length s' ≡ length s → IsPlace h s p → IsPlace h' s' p
IsPlace-same h s h' s' (Head k) eh es i = omega arith
IsPlace-same h s h' s' (Thread t) eh es i = omega arith

-- the place after a list's head is in its ring
pub first_in_ring : (heads threads : List Link) (lists : List (List ℕ)) → Spells heads threads lists → (k t : ℕ) → k < length heads → next_of heads threads (Head k) ≡ Thread t → (xs : List ℕ) × (list_at lists k ≡ t ∷ xs)
first_in_ring heads threads lists s k t h e = begins_with (next_of heads threads) (previous_of heads threads) k (list_at lists k) t (s.rings k h) e

pub no_first : (heads threads : List Link) (lists : List (List ℕ)) → Spells heads threads lists → (k j : ℕ) → k < length heads → next_of heads threads (Head k) ≡ Head j → list_at lists k ≡ []
no_first heads threads lists s k j h e = begins_with_none (next_of heads threads) (previous_of heads threads) k (list_at lists k) j (s.rings k h) e

pub place_behind : (heads threads : List Link) (lists : List (List ℕ)) → Spells heads threads lists → (k t : ℕ) → k < length heads → next_of heads threads (Head k) ≡ Thread t → IsPlace heads threads (next_of heads threads (Head k))
place_behind heads threads lists s k t h e =
    let begins = first_in_ring heads threads lists s k t h e in
    IsPlace-InRing heads threads lists s k h _ (inr (t, subst (λ xs. 0 < count t xs) (sym begins.1) (count-here t begins.0), e))

-- one more thread of a list, and all of them
pub take_more : (xs found more : List ℕ) (n t : ℕ) → found ≡ take n xs → slice_get xs n ≡ Some t → more ≡ found ++ t ∷ [] → more ≡ take (n + 1) xs
take_more xs found more n t e at pushed = pushed ∙ ap (λ (ys : List ℕ). ys ++ t ∷ []) e ∙ one_more xs n t at
  where
    one_more : (ys : List ℕ) (k u : ℕ) → slice_get ys k ≡ Some u → take k ys ++ u ∷ [] ≡ take (k + 1) ys
    one_more [] k u e = absurd cc
    one_more (y ∷ ys) zero u e = let same : u ≡ y = cc in rw same refl
    one_more (y ∷ ys) (suc k) u e = rw (add-one) (ap (λ (zs : List ℕ). y ∷ zs) (one_more ys k u e ∙ rw add-one refl))

pub take_all : (xs found : List ℕ) (n : ℕ) → found ≡ take n xs → length xs ≤ n → found ≡ xs
take_all xs found n e past = e ∙ all_of xs n past
  where
    all_of : (ys : List ℕ) (k : ℕ) → length ys ≤ k → take k ys ≡ ys
    all_of [] zero h = refl
    all_of [] (suc k) h = refl
    all_of (y ∷ ys) zero h = absurd (omega arith)
    all_of (y ∷ ys) (suc k) h = ap (λ (zs : List ℕ). y ∷ zs) (all_of ys k (omega arith))
