-- What stays when pairs are made.
use Rattle.std.proofs.Common.{◌≡◌, ◌+◌, ◌*◌, ◌<◌, ◌≤◌, ◌⊎◌, ℕ, zero, suc, List, [], ◌∷◌, ◌++◌, Option, Some, None, inl, inr, length, length-append, nat_eq, sym, ◌∙◌, ap, subst, refl, arith, unwrap_or, vec_len, get_or}
use Rattle.std.specs.Global.{Vec}
use Rattle.std.specs.HashMap.{get, hash_map_len}
use Rattle.std.specs.Option.{option_map}
use Rattle.std.specs.Vec.{vec_capacity}
use Rattle.std.proofs.lemmas.Bool.{cases_eq, cases_lt}
use Rattle.std.proofs.lemmas.List.{get_or-append_right, get_or_append_left}
use Rattle.thread_lists.specs.Lists.{Lists, count, list_at}
use Rattle.thread_lists.proofs.CountLaws.{count-append, count-other, count-same}
use Rattle.monitors.specs.declared.records.Record.{Record}
use Rattle.monitors.specs.declared.monitors.Monitors.TheInside.{Inside}
use Rattle.monitors.specs.Monitors.{free, is_free, monitor_of}
use Rattle.monitors.specs.Records.{Fits, Grows, IsConsistent, count_of, entry_list_of, known, seen, thread_of, wait_list_of}
use Rattle.monitors.proofs.MonitorLaws.{monitor_is}

-- the lists of a pair that there was
pub known-kept : (lists lists' : List (List ℕ)) (r : Record) → ((k : ℕ) → k < length lists → list_at lists' k ≡ list_at lists k) → wait_list_of r.pair < length lists → known lists' r ≡ known lists r
known-kept lists lists' r keeps inside =
    ap (λ xs. record { owner = thread_of r.owner; count = count_of r.owner; entry_list = xs; wait_list = list_at lists' (wait_list_of r.pair) }) (keeps (entry_list_of r.pair) (omega arith))
    ∙ ap (λ xs. record { owner = thread_of r.owner; count = count_of r.owner; entry_list = list_at lists (entry_list_of r.pair); wait_list = xs }) (keeps (wait_list_of r.pair) inside)

empty_two : (i : ℕ) → get_or {A = List ℕ} ([] ∷ [] ∷ []) i [] ≡ []
empty_two zero = refl
empty_two (suc zero) = refl
empty_two (suc (suc i)) = refl

-- one more pair
module _ (records : ℕ → Option Record) (vacant : List ℕ) (lists : List (List ℕ)) (n : ℕ) (size : 2 * n ≡ length lists) where
  abbrev more : List (List ℕ)
  more = lists ++ [] ∷ [] ∷ []

  longer : length more ≡ length lists + 2
  longer = length-append lists ([] ∷ [] ∷ [])

  pub keeps : (k : ℕ) → k < length lists → list_at more k ≡ list_at lists k
  keeps k h = get_or_append_left lists ([] ∷ [] ∷ []) [] k h

  beyond : (k : ℕ) → length lists ≤ k → list_at more k ≡ []
  beyond k h = get_or-append_right lists ([] ∷ [] ∷ []) (length lists) k [] refl h ∙ empty_two _

  after : (pair : ℕ) → count pair (vacant ++ n ∷ []) ≡ count pair vacant + count pair (n ∷ [])
  after pair = count-append pair vacant (n ∷ [])

  new_or_old : (pair : ℕ) → 0 < count pair (vacant ++ n ∷ []) → (pair ≡ n) ⊎ (0 < count pair vacant)
  new_or_old pair h =
      elim (cases_eq pair n) [
        | inl e ↦ inl e
        | inr ne ↦ inr (omega (arith, after pair, count-other pair n [] (λ e. ne (sym e)), h))
      ]

  pub Fits-more : Fits records vacant lists → Fits records (vacant ++ n ∷ []) more
  Fits-more fits =
      record {
        inside = λ o r e. omega (arith, fits.inside o r e, longer);
        apart = fits.apart;
        vacant_inside = λ pair h. elim (new_or_old pair h) [ inl e ↦ omega (arith, longer, size, e) | inr v ↦ omega (arith, fits.vacant_inside pair v, longer) ];
        vacant_once = λ pair. elim (cases_eq pair n) [
          | inl e ↦ subst (λ s. count s (vacant ++ n ∷ []) ≤ 1) (sym e) (elim (cases_lt 0 (count n vacant)) [
            | inl h ↦ absurd (omega (arith, fits.vacant_inside n h, size))
            | inr z ↦ omega (arith, after n, count-same n [], z)
          ])
          | inr ne ↦ omega (arith, after pair, count-other pair n [] (λ e. ne (sym e)), fits.vacant_once pair)
        ];
        vacant_apart = λ o r e. omega (arith, after r.pair, fits.vacant_apart o r e, count-other r.pair n [] (λ i. omega (arith, fits.inside o r e, size)));
        vacant_entry_list = λ pair h. elim (new_or_old pair h) [ inl e ↦ beyond (entry_list_of pair) (omega (arith, size, e)) | inr v ↦ keeps (entry_list_of pair) (omega (arith, fits.vacant_inside pair v)) ∙ fits.vacant_entry_list pair v ];
        vacant_wait_list = λ pair h. elim (new_or_old pair h) [ inl e ↦ beyond (wait_list_of pair) (omega (arith, size, e)) | inr v ↦ keeps (wait_list_of pair) (fits.vacant_inside pair v) ∙ fits.vacant_wait_list pair v ];
        used = λ k t h held. elim (cases_lt k (length lists)) [
          | inl l ↦ fits.used k t l (subst (λ xs. 0 < count t xs) (keeps k l) held)
          | inr g ↦ let none : 0 < count t [] = subst (λ xs. 0 < count t xs) (beyond k g) held in absurd (omega (arith, none))
        ];
        in_use = λ o r e. ap is_free (known-kept lists more r keeps (fits.inside o r e)) ∙ fits.in_use o r e;
      }

pub Grows-same : (vacant vacant' : Vec ℕ) (n : ℕ) (lists : Lists) → vacant'.items ≡ vacant.items → vec_len vacant' ≡ vec_len vacant → vec_capacity vacant ≤ vec_capacity vacant' → 2 * n ≡ length lists.lists → n ≤ vec_capacity vacant → Grows vacant n lists vacant' n lists
Grows-same vacant vacant' n lists items len capacity size room =
    record {
      fits = λ records fits. subst (λ xs. Fits records xs lists.lists) (sym items) fits;
      pairs = size;
      capacity = omega arith;
      keeps = λ k h. refl;
      longer = omega arith;
      threads = refl;
      len = omega arith;
      more = omega arith;
    }

pub Grows-one : (vacant vacant' : Vec ℕ) (n : ℕ) (lists lists' : Lists) → vacant'.items ≡ vacant.items ++ n ∷ [] → vec_len vacant' ≡ vec_len vacant + 1 → n + 1 ≤ vec_capacity vacant' → 2 * n ≡ length lists.lists → lists' ≡ record lists { lists = lists.lists ++ [] ∷ [] ∷ [] } → Grows vacant n lists vacant' (n + 1) lists'
Grows-one vacant vacant' n lists lists' items len room size e =
    subst (λ (ls : Lists). Grows vacant n lists vacant' (n + 1) ls) (sym e) (record {
      fits = λ records fits. subst (λ xs. Fits records xs (lists.lists ++ [] ∷ [] ∷ [])) (sym items) (Fits-more records vacant.items lists.lists n size fits);
      pairs = omega (arith, size, length-append lists.lists ([] ∷ [] ∷ []));
      capacity = room;
      keeps = λ k h. get_or_append_left lists.lists ([] ∷ [] ∷ []) [] k h;
      longer = omega (arith, length-append lists.lists ([] ∷ [] ∷ []));
      threads = refl;
      len = omega arith;
      more = omega arith;
    })

pub Grows-trans : (u v w : Vec ℕ) (i j k : ℕ) (a b c : Lists) → Grows u i a v j b → Grows v j b w k c → Grows u i a w k c
Grows-trans u v w i j k a b c g h =
    record {
      fits = λ records fits. h.fits records (g.fits records fits);
      pairs = h.pairs;
      capacity = h.capacity;
      keeps = λ n l. h.keeps n (omega (arith, g.longer, l)) ∙ g.keeps n l;
      longer = omega (arith, g.longer, h.longer);
      threads = h.threads ∙ g.threads;
      len = omega (arith, g.len, h.len);
      more = omega (arith, g.more, h.more);
    }

-- monitors stay when there are more pairs
module _ (a b : Inside) (kept : IsConsistent a) (same : (o : ℕ) → get nat_eq b.records o ≡ get nat_eq a.records o) (size : hash_map_len b.records ≡ hash_map_len a.records) (grows : Grows a.vacant a.pairs a.lists b.vacant b.pairs b.lists) where
  pub room-kept : IsConsistent b
  room-kept =
      record {
        fits = grows.fits (get nat_eq b.records) (subst (λ (records : ℕ → Option Record). Fits records a.vacant.items a.lists.lists) (λ i o. sym (same o) i) kept.fits);
        pairs = grows.pairs;
        capacity = grows.capacity;
        whole = omega (arith, kept.whole, grows.len, grows.more, size);
      }

  pub room-monitor : (o : ℕ) → monitor_of (seen b) o ≡ monitor_of (seen a) o
  room-monitor o = monitor_is b o ∙ ap (λ x. unwrap_or (option_map (known b.lists.lists) x) free) (same o) ∙ reads (get nat_eq a.records o) refl ∙ sym (monitor_is a o)
    where
      reads : (x : Option Record) → get nat_eq a.records o ≡ x → unwrap_or (option_map (known b.lists.lists) x) free ≡ unwrap_or (option_map (known a.lists.lists) x) free
      reads None e = refl
      reads (Some r) e = known-kept a.lists.lists b.lists.lists r grows.keeps (kept.fits.inside o r e)
