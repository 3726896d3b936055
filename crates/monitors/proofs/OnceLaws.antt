-- A thread is in at most one list of one monitor.
use Rattle.std.proofs.Common.{◌∙◌, ◌≡◌, ◌+◌, ◌<◌, ◌≤◌, ℕ, false, Option, Some, None, length, nat_eq, sym, ap, subst, refl, arith}
use Rattle.std.specs.Cmp.{nat_eq_equiv}
use Rattle.std.specs.HashMap.{IsUnique, get}
use Rattle.std.specs.List.{All}
use Rattle.std.specs.Map.{lookup}
use Rattle.std.specs.Option.{IfSome}
use Rattle.std.proofs.lemmas.List.Elements.{All-map}
use Rattle.std.proofs.lemmas.List.{get_or-map, length-map}
use Rattle.std.proofs.lemmas.Map.Views.{All-values_from_lookup}
use Rattle.thread_lists.specs.Lists.{count, list_at, total}
use Rattle.thread_lists.proofs.CountLaws.{total-two}
use Rattle.monitors.specs.declared.records.Owner.{Owner}
use Rattle.monitors.specs.declared.records.Record.{Record}
use Rattle.monitors.specs.declared.monitors.Monitors.TheInside.{Inside}
use Rattle.monitors.specs.Monitors.{Monitor, is_free, count_in, monitor_of}
use Rattle.monitors.specs.Records.{IsConsistent, entry_list_of, known, seen, wait_list_of, count_of, thread_of}
use Rattle.monitors.proofs.MonitorLaws.{in_use_is, unused_is}

module _ (a : Inside) (kept : IsConsistent a) (once : (t : ℕ) → total (count t) a.lists.lists ≤ 1) where
  entry_list : ℕ → Record → ℕ
  entry_list t r = count t (list_at a.lists.lists (entry_list_of r.pair))

  of_two : (t i j : ℕ) → i < length a.lists.lists → j < length a.lists.lists → (i ≡ j → ⊥) → count t (list_at a.lists.lists i) + count t (list_at a.lists.lists j) ≤ 1
  of_two t i j hi hj ne = omega (arith, once t, total-two t a.lists.lists i j hi hj ne)

  one : (t o : ℕ) (x : Option Record) → get nat_eq a.records o ≡ x → count_in t (monitor_of (seen a) o) ≤ 1
  one t o None e = subst (λ m. count_in t m ≤ 1) (sym (unused_is a o e)) (omega arith)
  one t o (Some r) e =
      let inside = kept.fits.inside o r e in
      subst (λ m. count_in t m ≤ 1) (sym (in_use_is a o r e)) (of_two t (entry_list_of r.pair) (wait_list_of r.pair) (omega arith) inside (λ i. omega arith))

  pub once_in : (t o : ℕ) → count_in t (monitor_of (seen a) o) ≤ 1
  once_in t o = one t o (get nat_eq a.records o) refl

  two : (t o p : ℕ) → (o ≡ p → ⊥) → (x y : Option Record) → get nat_eq a.records o ≡ x → get nat_eq a.records p ≡ y → count_in t (monitor_of (seen a) o) + count_in t (monitor_of (seen a) p) ≤ 1
  two t o p ne None y e f = let none = ap (count_in t) (unused_is a o e) in omega (arith, none, once_in t p)
  two t o p ne (Some r) None e f = let none = ap (count_in t) (unused_is a p f) in omega (arith, none, once_in t o)
  two t o p ne (Some r) (Some q) e f =
      let differ : r.pair ≡ q.pair → ⊥ = λ i. ne (kept.fits.apart o p r q e f i) in
      let ir = kept.fits.inside o r e in
      let iq = kept.fits.inside p q f in
      let mine = ap (count_in t) (in_use_is a o r e) in
      let other = ap (count_in t) (in_use_is a p q f) in
      let a1 = of_two t (entry_list_of r.pair) (entry_list_of q.pair) (omega arith) (omega arith) (λ i. differ (omega arith)) in
      let a2 = of_two t (entry_list_of r.pair) (wait_list_of q.pair) (omega arith) iq (λ i. omega arith) in
      let a3 = of_two t (wait_list_of r.pair) (entry_list_of q.pair) ir (omega arith) (λ i. omega arith) in
      let a4 = of_two t (wait_list_of r.pair) (wait_list_of q.pair) ir iq (λ i. differ (omega arith)) in
      omega (arith, mine, other, a1, a2, a3, a4, once_in t o, once_in t p)

  pub apart_in : (t o p : ℕ) → (o ≡ p → ⊥) → count_in t (monitor_of (seen a) o) + count_in t (monitor_of (seen a) p) ≤ 1
  apart_in t o p ne = two t o p ne (get nat_eq a.records o) (get nat_eq a.records p) refl refl

  pub used_in : IsUnique nat_eq a.records → All (λ e. is_free e.1 ≡ false) (seen a).used
  used_in unique =
      All-map (λ e. is_free e.1 ≡ false) (λ (e : ℕ × Record). (e.0, known a.lists.lists e.1)) a.records.entries (λ k d h.
      subst (λ r. is_free (known a.lists.lists r) ≡ false) (get_or-map (λ (e : ℕ × Record). e.1) a.records.entries k d d.1 h)
      (All-values_from_lookup nat_eq_equiv (λ r. is_free (known a.lists.lists r) ≡ false) a.records.entries unique found k d.1 (omega (arith, length-map a.records.entries (λ (e : ℕ × Record). e.1)))))
    where
      found : (o : ℕ) → IfSome (lookup (nat_eq o) a.records.entries) (λ r. is_free (known a.lists.lists r) ≡ false)
      found o = by (lookup (nat_eq o) a.records.entries) refl
        where
          by : (x : Option Record) → lookup (nat_eq o) a.records.entries ≡ x → IfSome x (λ r. is_free (known a.lists.lists r) ≡ false)
          by None e = tt
          by (Some r) e = kept.fits.in_use o r e

-- a monitor without an owner
pub unowned_in : (a : Inside) (o : ℕ) → (monitor_of (seen a) o).owner ≡ None → (monitor_of (seen a) o).count ≡ 0
unowned_in a o e = by (get nat_eq a.records o) refl
  where
    none : (owner : Option Owner) → thread_of owner ≡ None → count_of owner ≡ 0
    none None i = refl
    none (Some owner) i = cc

    by : (x : Option Record) → get nat_eq a.records o ≡ x → (monitor_of (seen a) o).count ≡ 0
    by None i = ap (λ (m : Monitor). m.count) (unused_is a o i)
    by (Some r) i =
        let same = in_use_is a o r i in
        ap (λ (m : Monitor). m.count) same ∙ none r.owner (sym (ap (λ (m : Monitor). m.owner) same) ∙ e)
