-- How the records of monitors, the vacant pairs and the lists of threads change together.
use Rattle.std.proofs.Common.{◌≡◌, ◌+◌, ◌<◌, ◌≤◌, ◌⊎◌, ℕ, false, List, [], ◌∷◌, ◌++◌, Option, Some, None, length, inl, inr, sym, ◌∙◌, ap, subst, refl, arith, unwrap_or}
use Rattle.std.specs.Option.{option_map}
use Rattle.std.proofs.lemmas.Bool.{cases_eq}
use Rattle.monitors.specs.declared.records.Owner.{Owner}
use Rattle.monitors.specs.declared.records.Record.{Record}
use Rattle.thread_lists.specs.Lists.{count, list_at}
use Rattle.thread_lists.proofs.CountLaws.{count-append, count-other, count-same}
use Rattle.monitors.specs.Monitors.{Monitor, free, is_free}
use Rattle.monitors.specs.Records.{Fits, IsUsed, count_of, entry_list_of, known, thread_of, wait_list_of}

-- the monitor of an object
abbrev pub read : (ℕ → Option Record) → List (List ℕ) → ℕ → Monitor
read records lists o = unwrap_or (option_map (known lists) (records o)) free

-- the lists of all pairs but one stay
abbrev pub KeepsLists : List (List ℕ) → List (List ℕ) → ℕ → Type 0
KeepsLists lists lists' pair = (k : ℕ) → (k ≡ entry_list_of pair → ⊥) → (k ≡ wait_list_of pair → ⊥) → list_at lists' k ≡ list_at lists k

-- the records of all objects but one stay
abbrev pub KeepsRecords : (ℕ → Option Record) → (ℕ → Option Record) → ℕ → Type 0
KeepsRecords records records' o = (p : ℕ) → (p ≡ o → ⊥) → records' p ≡ records p

monitor_with : Option Owner → List ℕ → List ℕ → Monitor
monitor_with owner entry_list wait_list =
    record {
      owner = thread_of owner;
      count = count_of owner;
      entry_list = entry_list;
      wait_list = wait_list;
    }

known-same : (lists lists' : List (List ℕ)) (pair : ℕ) (r : Record) → KeepsLists lists lists' pair → (r.pair ≡ pair → ⊥) → known lists' r ≡ known lists r
unfolding monitor_with
known-same lists lists' pair r keeps ne =
    ap (λ entry_list. monitor_with r.owner entry_list (list_at lists' (wait_list_of r.pair))) (keeps (entry_list_of r.pair) (λ e. ne (omega arith)) (λ e. absurd (omega arith)))
    ∙ ap (monitor_with r.owner (list_at lists (entry_list_of r.pair))) (keeps (wait_list_of r.pair) (λ e. absurd (omega arith)) (λ e. ne (omega arith)))

same_record : (records : ℕ → Option Record) (o p : ℕ) (r q : Record) → p ≡ o → records o ≡ Some r → records p ≡ Some q → q ≡ r
same_record records o p r q e here there = let i : Some q ≡ Some r = sym there ∙ ap records e ∙ here in cc

-- other monitors read as before
pub read-others : (records records' : ℕ → Option Record) (vacant : List ℕ) (lists lists' : List (List ℕ)) (o pair : ℕ) → KeepsRecords records records' o → KeepsLists lists lists' pair → ((p : ℕ) (q : Record) → (p ≡ o → ⊥) → records p ≡ Some q → q.pair ≡ pair → ⊥) → (p : ℕ) → (p ≡ o → ⊥) → read records' lists' p ≡ read records lists p
read-others records records' vacant lists lists' o pair rs ls apart p ne =
    ap (λ x. unwrap_or (option_map (known lists') x) free) (rs p ne) ∙ by (records p) refl
  where
    by : (x : Option Record) → records p ≡ x → unwrap_or (option_map (known lists') x) free ≡ unwrap_or (option_map (known lists) x) free
    by None e = refl
    by (Some q) e = known-same lists lists' pair q ls (apart p q ne e)

-- a monitor that is in use changes and stays in use
pub record Changes (records records' : ℕ → Option Record) (lists lists' : List (List ℕ)) (o : ℕ) (r r' : Record) : Type 0 where
  pub was : records o ≡ Some r
  pub pair : r'.pair ≡ r.pair
  pub now : records' o ≡ Some r'
  pub others : KeepsRecords records records' o
  pub size : length lists' ≡ length lists
  pub keeps : KeepsLists lists lists' r.pair
  pub in_use : is_free (known lists' r') ≡ false

module _ (records records' : ℕ → Option Record) (vacant : List ℕ) (lists lists' : List (List ℕ)) (o : ℕ) (r r' : Record) (fits : Fits records vacant lists) (c : Changes records records' lists lists' o r r') where
  -- each record has the pair of the record before
  old_pair : (p : ℕ) (q : Record) → records' p ≡ Some q → (old : Record) × (records p ≡ Some old) × (q.pair ≡ old.pair)
  old_pair p q e =
      elim (cases_eq p o) [
        | inl i ↦ (r, ap records i ∙ c.was, ap (λ (x : Record). x.pair) (same_record records' o p r' q i c.now e) ∙ c.pair)
        | inr ne ↦ (q, sym (c.others p ne) ∙ e, refl)
      ]

  pub Fits-changes : Fits records' vacant lists'
  Fits-changes =
      record {
        inside = λ p q e. let w = old_pair p q e in omega (arith, fits.inside p w.0 w.1, w.2, c.size);
        apart = λ p q s t e f i. let w = old_pair p s e in let v = old_pair q t f in fits.apart p q w.0 v.0 w.1 v.1 (sym w.2 ∙ i ∙ v.2);
        vacant_inside = λ pair h. omega (arith, fits.vacant_inside pair h, c.size);
        vacant_once = fits.vacant_once;
        vacant_apart = λ p q e. let w = old_pair p q e in ap (λ pair. count pair vacant) w.2 ∙ fits.vacant_apart p w.0 w.1;
        vacant_entry_list = λ pair h. c.keeps (entry_list_of pair) (λ e. other pair h (omega arith)) (λ e. absurd (omega arith)) ∙ fits.vacant_entry_list pair h;
        vacant_wait_list = λ pair h. c.keeps (wait_list_of pair) (λ e. absurd (omega arith)) (λ e. other pair h (omega arith)) ∙ fits.vacant_wait_list pair h;
        used = used_still;
        in_use = λ p q e.
            elim (cases_eq p o) [
              | inl i ↦ subst (λ x. is_free (known lists' x) ≡ false) (sym (same_record records' o p r' q i c.now e)) c.in_use
              | inr ne ↦
                  let old : records p ≡ Some q = sym (c.others p ne) ∙ e in
                  ap is_free (known-same lists lists' r.pair q c.keeps (λ i. ne (fits.apart p o q r old c.was i))) ∙ fits.in_use p q old
            ];
      }
    where
      other : (pair : ℕ) → 0 < count pair vacant → pair ≡ r.pair → ⊥
      other pair h e = omega (arith, fits.vacant_apart o r c.was, subst (λ s. 0 < count s vacant) e h)

      used_still : (k t : ℕ) → k < length lists' → 0 < count t (list_at lists' k) → IsUsed records' k
      used_still k t h n =
          elim (cases_eq k (entry_list_of r.pair)) [
            | inl e ↦ record { object = o; found = r'; here = c.now; list = inl (omega (arith, e, c.pair)) }
            | inr ne ↦
                elim (cases_eq k (wait_list_of r.pair)) [
                  | inl e ↦ record { object = o; found = r'; here = c.now; list = inr (omega (arith, e, c.pair)) }
                  | inr nw ↦
                      let u = fits.used k t (omega (arith, c.size)) (subst (λ xs. 0 < count t xs) (c.keeps k ne nw) n) in
                      elim (cases_eq u.object o) [
                        | inl e ↦
                            let same = same_record records o u.object r u.found e c.was u.here in
                            record { object = o; found = r'; here = c.now; list = subst (λ pair. (k ≡ entry_list_of pair) ⊎ (k ≡ wait_list_of pair)) (ap (λ (x : Record). x.pair) same ∙ sym c.pair) u.list }
                        | inr nu ↦ record { object = u.object; found = u.found; here = c.others u.object nu ∙ u.here; list = u.list }
                      ]
                ]
          ]

  pub read-changed : read records' lists' o ≡ known lists' r'
  read-changed = ap (λ x. unwrap_or (option_map (known lists') x) free) c.now

  pub read-unchanged : (p : ℕ) → (p ≡ o → ⊥) → read records' lists' p ≡ read records lists p
  read-unchanged = read-others records records' vacant lists lists' o r.pair c.others c.keeps (λ p q ne e i. ne (fits.apart p o q r e c.was i))

-- a monitor that was free comes into use, with a pair that was vacant
pub record Opens (records records' : ℕ → Option Record) (vacant vacant' : List ℕ) (lists lists' : List (List ℕ)) (o : ℕ) (r : Record) : Type 0 where
  pub was : records o ≡ None
  pub taken : vacant ≡ vacant' ++ r.pair ∷ []
  pub now : records' o ≡ Some r
  pub others : KeepsRecords records records' o
  pub size : length lists' ≡ length lists
  pub keeps : KeepsLists lists lists' r.pair
  pub in_use : is_free (known lists' r) ≡ false

module _ (records records' : ℕ → Option Record) (vacant vacant' : List ℕ) (lists lists' : List (List ℕ)) (o : ℕ) (r : Record) (fits : Fits records vacant lists) (c : Opens records records' vacant vacant' lists lists' o r) where
  count_before : (pair : ℕ) → count pair vacant ≡ count pair vacant' + count pair (r.pair ∷ [])
  count_before pair = ap (count pair) c.taken ∙ count-append pair vacant' (r.pair ∷ [])

  was_vacant : 0 < count r.pair vacant
  was_vacant = omega (arith, count_before r.pair, count-same r.pair [])

  gone : count r.pair vacant' ≡ 0
  gone = omega (arith, count_before r.pair, count-same r.pair [], fits.vacant_once r.pair)

  old_record : (p : ℕ) (q : Record) → (p ≡ o → ⊥) → records' p ≡ Some q → records p ≡ Some q
  old_record p q ne e = sym (c.others p ne) ∙ e

  other_pair : (p : ℕ) (q : Record) → records p ≡ Some q → q.pair ≡ r.pair → ⊥
  other_pair p q e i = omega (arith, fits.vacant_apart p q e, subst (λ s. 0 < count s vacant) (sym i) was_vacant)

  pub Fits-opens : Fits records' vacant' lists'
  Fits-opens =
      record {
        inside = λ p q e. elim (cases_eq p o) [
          | inl i ↦ subst (λ (x : Record). wait_list_of x.pair < length lists') (sym (same_record records' o p r q i c.now e)) (omega (arith, fits.vacant_inside r.pair was_vacant, c.size))
          | inr ne ↦ omega (arith, fits.inside p q (old_record p q ne e), c.size)
        ];
        apart = λ p q s t e f i. elim (cases_eq p o) [
          | inl ip ↦ elim (cases_eq q o) [
            | inl iq ↦ ip ∙ sym iq
            | inr nq ↦ absurd (other_pair q t (old_record q t nq f) (sym i ∙ ap (λ (x : Record). x.pair) (same_record records' o p r s ip c.now e)))
          ]
          | inr np ↦ elim (cases_eq q o) [
            | inl iq ↦ absurd (other_pair p s (old_record p s np e) (i ∙ ap (λ (x : Record). x.pair) (same_record records' o q r t iq c.now f)))
            | inr nq ↦ fits.apart p q s t (old_record p s np e) (old_record q t nq f) i
          ]
        ];
        vacant_inside = λ pair h. omega (arith, fits.vacant_inside pair (omega (arith, count_before pair, h)), c.size);
        vacant_once = λ pair. omega (arith, fits.vacant_once pair, count_before pair);
        vacant_apart = λ p q e. elim (cases_eq p o) [
          | inl i ↦ ap (λ (x : Record). count x.pair vacant') (same_record records' o p r q i c.now e) ∙ gone
          | inr ne ↦ omega (arith, fits.vacant_apart p q (old_record p q ne e), count_before q.pair)
        ];
        vacant_entry_list = λ pair h. c.keeps (entry_list_of pair) (λ e. still pair h (omega arith)) (λ e. absurd (omega arith)) ∙ fits.vacant_entry_list pair (omega (arith, count_before pair, h));
        vacant_wait_list = λ pair h. c.keeps (wait_list_of pair) (λ e. absurd (omega arith)) (λ e. still pair h (omega arith)) ∙ fits.vacant_wait_list pair (omega (arith, count_before pair, h));
        used = used_still;
        in_use = λ p q e. elim (cases_eq p o) [
          | inl i ↦ subst (λ x. is_free (known lists' x) ≡ false) (sym (same_record records' o p r q i c.now e)) c.in_use
          | inr ne ↦
              ap is_free (known-same lists lists' r.pair q c.keeps (other_pair p q (old_record p q ne e))) ∙ fits.in_use p q (old_record p q ne e)
        ];
      }
    where
      still : (pair : ℕ) → 0 < count pair vacant' → pair ≡ r.pair → ⊥
      still pair h e = omega (arith, gone, subst (λ s. 0 < count s vacant') e h)

      used_still : (k t : ℕ) → k < length lists' → 0 < count t (list_at lists' k) → IsUsed records' k
      used_still k t h n =
          elim (cases_eq k (entry_list_of r.pair)) [
            | inl e ↦ record { object = o; found = r; here = c.now; list = inl e }
            | inr ne ↦
                elim (cases_eq k (wait_list_of r.pair)) [
                  | inl e ↦ record { object = o; found = r; here = c.now; list = inr e }
                  | inr nw ↦
                      let u = fits.used k t (omega (arith, c.size)) (subst (λ xs. 0 < count t xs) (c.keeps k ne nw) n) in
                      record {
                        object = u.object;
                        found = u.found;
                        here = c.others u.object (λ e. let i : None ≡ Some u.found = sym c.was ∙ ap records (sym e) ∙ u.here in cc) ∙ u.here;
                        list = u.list;
                      }
                ]
          ]

  pub read-opened : read records' lists' o ≡ known lists' r
  read-opened = ap (λ x. unwrap_or (option_map (known lists') x) free) c.now

  pub read-unopened : (p : ℕ) → (p ≡ o → ⊥) → read records' lists' p ≡ read records lists p
  read-unopened = read-others records records' vacant lists lists' o r.pair c.others c.keeps (λ p q ne e i. other_pair p q e i)

-- a monitor falls free, and its pair becomes vacant
pub record Closes (records records' : ℕ → Option Record) (lists : List (List ℕ)) (o : ℕ) (r : Record) : Type 0 where
  pub was : records o ≡ Some r
  pub now : records' o ≡ None
  pub others : KeepsRecords records records' o
  pub entry_list : list_at lists (entry_list_of r.pair) ≡ []
  pub wait_list : list_at lists (wait_list_of r.pair) ≡ []

module _ (records records' : ℕ → Option Record) (vacant : List ℕ) (lists : List (List ℕ)) (o : ℕ) (r : Record) (fits : Fits records vacant lists) (c : Closes records records' lists o r) where
  count_after : (pair : ℕ) → count pair (vacant ++ r.pair ∷ []) ≡ count pair vacant + count pair (r.pair ∷ [])
  count_after pair = count-append pair vacant (r.pair ∷ [])

  elsewhere : (p : ℕ) (q : Record) → records' p ≡ Some q → p ≡ o → ⊥
  elsewhere p q e i = let w : None ≡ Some q = sym c.now ∙ ap records' (sym i) ∙ e in cc

  old_one : (p : ℕ) (q : Record) → records' p ≡ Some q → records p ≡ Some q
  old_one p q e = sym (c.others p (elsewhere p q e)) ∙ e

  vacant_or_new : (pair : ℕ) → 0 < count pair (vacant ++ r.pair ∷ []) → (pair ≡ r.pair) ⊎ (0 < count pair vacant)
  vacant_or_new pair h =
      elim (cases_eq pair r.pair) [
        | inl e ↦ inl e
        | inr ne ↦ inr (omega (arith, count_after pair, count-other pair r.pair [] (λ e. ne (sym e)), h))
      ]

  pub Fits-closes : Fits records' (vacant ++ r.pair ∷ []) lists
  Fits-closes =
      record {
        inside = λ p q e. fits.inside p q (old_one p q e);
        apart = λ p q s t e f i. fits.apart p q s t (old_one p s e) (old_one q t f) i;
        vacant_inside = λ pair h. elim (vacant_or_new pair h) [ inl e ↦ subst (λ s. wait_list_of s < length lists) (sym e) (fits.inside o r c.was) | inr v ↦ fits.vacant_inside pair v ];
        vacant_once = λ pair. elim (cases_eq pair r.pair) [
          | inl e ↦ subst (λ s. count s (vacant ++ r.pair ∷ []) ≤ 1) (sym e) (omega (arith, count_after r.pair, count-same r.pair [], fits.vacant_apart o r c.was))
          | inr ne ↦ omega (arith, count_after pair, count-other pair r.pair [] (λ e. ne (sym e)), fits.vacant_once pair)
        ];
        vacant_apart = λ p q e.
            omega (arith, count_after q.pair, fits.vacant_apart p q (old_one p q e), count-other q.pair r.pair [] (λ i. elsewhere p q e (fits.apart p o q r (old_one p q e) c.was (sym i))));
        vacant_entry_list = λ pair h. elim (vacant_or_new pair h) [ inl e ↦ ap (λ s. list_at lists (entry_list_of s)) e ∙ c.entry_list | inr v ↦ fits.vacant_entry_list pair v ];
        vacant_wait_list = λ pair h. elim (vacant_or_new pair h) [ inl e ↦ ap (λ s. list_at lists (wait_list_of s)) e ∙ c.wait_list | inr v ↦ fits.vacant_wait_list pair v ];
        used = λ k t h n.
            let u = fits.used k t h n in
            record {
              object = u.object;
              found = u.found;
              here = c.others u.object (λ e. empty k t n u e) ∙ u.here;
              list = u.list;
            };
        in_use = λ p q e. fits.in_use p q (old_one p q e);
      }
    where
      empty : (k t : ℕ) → 0 < count t (list_at lists k) → (u : IsUsed records k) → u.object ≡ o → ⊥
      empty k t n u e =
          let same = same_record records o u.object r u.found e c.was u.here in
          elim (subst (λ (x : Record). (k ≡ entry_list_of x.pair) ⊎ (k ≡ wait_list_of x.pair)) same u.list) [
            | inl i ↦ let none : list_at lists k ≡ [] = ap (list_at lists) i ∙ c.entry_list in omega (arith, subst (λ xs. 0 < count t xs) none n)
            | inr i ↦ let none : list_at lists k ≡ [] = ap (list_at lists) i ∙ c.wait_list in omega (arith, subst (λ xs. 0 < count t xs) none n)
          ]

  pub read-closed : read records' lists o ≡ free
  read-closed = ap (λ x. unwrap_or (option_map (known lists) x) free) c.now

  pub read-unclosed : (p : ℕ) → (p ≡ o → ⊥) → read records' lists p ≡ read records lists p
  read-unclosed p ne = ap (λ x. unwrap_or (option_map (known lists) x) free) (c.others p ne)
