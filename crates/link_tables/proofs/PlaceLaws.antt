-- Tables of the places of fields.
use Rattle.std.proofs.Common.{◌≡◌, ℕ, ◌+◌, ◌<◌, ◌≤◌, Bool, true, false, cond, not, List, [], ◌∷◌, ◌++◌, length, take, get_or, Option, Some, None, unwrap_or, refl, sym, ap, ◌∙◌, ⊎_elim, nat_eq, nat_lt, arith}
use Rattle.std.specs.Prelude.{filter, position, slice_get, ◌==◌, ◌&&◌}
use Rattle.std.specs.Option.{option_or, option_map_or, option_and_then}
use Rattle.std.proofs.lemmas.Option.{slice_get_past, slice_get-get_or}
use Rattle.std.proofs.lemmas.List.{get_or_past}
use Rattle.std.proofs.lemmas.List.Filters.{length-filter_more}
use Rattle.std.proofs.lemmas.Bool.{cases_lt, cases_eq}
use Rattle.std.proofs.lemmas.Bool.Decides.{nat_tests}
use Rattle.std.proofs.lemmas.Grind.{common_steps}
use Rattle.link_model.specs.declared.members.FieldInfo.{FieldInfo}
use Rattle.link_model.specs.Fields.{declares, is_static_field}
use Rattle.link_resolution.specs.Tables.{row_at, parent_at, tabulate}
use Rattle.link_resolution.proofs.TableLaws.{tabulate_more, parent-tabulate}
use Rattle.link_resolution.proofs.Positions.{position_push}
use Rattle.link_tables.specs.Places.{if_static, static_at, is_own, place_in, place_by, place_in_first, place_by_first}

-- ---- static fields

entry_is : (xs : List (Option ℕ)) (n : ℕ) → get_or xs n None ≡ parent_at xs n
entry_is xs n =
    ⊎_elim
    (λ (h : n < length xs). ap (option_and_then (λ (o : Option ℕ). o)) (sym (slice_get-get_or xs n None h)))
    (λ (h : length xs ≤ n). get_or_past xs n None h ∙ ap (option_and_then (λ (o : Option ℕ). o)) (sym (slice_get_past xs n h)))
    (cases_lt n (length xs))

-- the table says it of each number
pub statics_are : (fields : List FieldInfo) (xs : List (Option ℕ)) → xs ≡ tabulate (static_at fields) (length fields) → (n : ℕ) → get_or xs n None ≡ static_at fields n
statics_are fields xs e n =
    entry_is xs n ∙ ap (λ ys. parent_at ys n) e
    ∙ parent-tabulate (static_at fields) (length fields)
    (λ k h. ap (option_and_then (λ f. if_static f (length (filter is_static_field (take k fields))))) (slice_get_past fields k h)) n

-- one field more
pub static_more : (fields : List FieldInfo) (i : ℕ) (f : FieldInfo) (old new : List (Option ℕ)) (before : ℕ) → i < length fields → f ≡ get_or fields i f
    → old ≡ tabulate (static_at fields) i → before ≡ length (filter is_static_field (take i fields)) → new ≡ old ++ if_static f before ∷ []
    → new ≡ tabulate (static_at fields) (i + 1)
static_more fields i f old new before h e table count step =
    let at : static_at fields i ≡ if_static f before =
    ap (option_and_then (λ g. if_static g (length (filter is_static_field (take i fields))))) (slice_get-get_or fields i f h ∙ ap Some (sym e))
    ∙ ap (if_static f) (sym count) in
    step ∙ ap (λ xs. xs ++ if_static f before ∷ []) table ∙ ap (λ o. tabulate (static_at fields) i ++ o ∷ []) (sym at)
    ∙ sym (tabulate_more (static_at fields) i)

pub count_more : (fields : List FieldInfo) (i : ℕ) (f : FieldInfo) (before after : ℕ) → i < length fields → f ≡ get_or fields i f
    → before ≡ length (filter is_static_field (take i fields)) → after ≡ before + cond (is_static_field f) 1 0
    → after ≡ length (filter is_static_field (take (i + 1) fields))
count_more fields i f before after h e count step =
    step ∙ ap (λ n. n + cond (is_static_field f) 1 0) count
    ∙ ap (λ g. length (filter is_static_field (take i fields)) + cond (is_static_field g) 1 0) e
    ∙ sym (length-filter_more is_static_field fields i f h)

-- ---- the fields that a class declares

join : (own : Bool) (start p r : Option ℕ) → option_or (option_or start (cond own p None)) (cond own r None) ≡ option_or start (cond own (option_or p r) None)
join true None p r = refl
join true (Some x) p r = refl
join false None p r = refl
join false (Some x) p r = refl

pub row_none : (own : Bool) (start : Option ℕ) → start ≡ option_or start (cond own None None)
row_none true None = refl
row_none true (Some x) = refl
row_none false None = refl
row_none false (Some x) = refl

pub row_more : (row : List ℕ) (i x q : ℕ) (own : Bool) (start old new : Option ℕ) → i < length row → x ≡ get_or row i 0
    → old ≡ option_or start (cond own (position (λ m. m == q) (take i row)) None)
    → new ≡ option_or old (cond own (cond (nat_eq x q) (Some i) None) None)
    → new ≡ option_or start (cond own (position (λ m. m == q) (take (i + 1) row)) None)
row_more row i x q own start old new h e before step =
    let t : take (i + 1) row ≡ take i row ++ x ∷ [] = grind (arith, common_steps) in
    let l : length (take i row) ≡ i = grind (arith, common_steps) in
    step ∙ ap (λ o. option_or o (cond own (cond (nat_eq x q) (Some i) None) None)) before
    ∙ join own start (position (λ m. m == q) (take i row)) (cond (nat_eq x q) (Some i) None)
    ∙ ap (λ p. option_or start (cond own p None))
    (ap (λ n. option_or (position (λ m. m == q) (take i row)) (cond (nat_eq x q) (Some n) None)) (sym l)
    ∙ sym (position_push (λ m. m == q) (take i row) x) ∙ ap (λ xs. position (λ m. m == q) xs) (sym t))

-- ---- class by class

or_none : (o : Option ℕ) → option_or o None ≡ o
or_none None = refl
or_none (Some x) = refl

lt_more : (k c : ℕ) (row : ℕ → Option ℕ)
    → option_or (cond (nat_lt k c) (row k) None) (cond (nat_eq k c) (row c) None) ≡ cond (nat_lt k (c + 1)) (row k) None
lt_more k c row =
    ⊎_elim
    (λ (e : k ≡ c).
    let a : nat_lt k c ≡ false = grind (arith, nat_tests) in
    let b : nat_eq k c ≡ true = grind (arith, nat_tests) in
    let d : nat_lt k (c + 1) ≡ true = grind (arith, nat_tests) in
    ap (λ t. option_or (cond t (row k) None) (cond (nat_eq k c) (row c) None)) a ∙ ap (λ t. cond t (row c) None) b ∙ ap row (sym e)
    ∙ ap (λ t. cond t (row k) None) (sym d))
    (λ (ne : k ≡ c → ⊥).
    let b : nat_eq k c ≡ false = grind (arith, nat_tests) in
    let d : nat_lt k (c + 1) ≡ nat_lt k c = grind (arith, nat_tests) in
    ap (λ t. option_or (cond (nat_lt k c) (row k) None) (cond t (row c) None)) b ∙ or_none (cond (nat_lt k c) (row k) None)
    ∙ ap (λ t. cond t (row k) None) (sym d))
    (cases_eq k c)

one_more : (s : Bool) (k c before : ℕ) (row : ℕ → Option ℕ)
    → option_or (cond s (Some before) (cond (nat_lt k c) (row k) None)) (cond (nat_eq k c && not s) (row c) None)
    ≡ cond s (Some before) (cond (nat_lt k (c + 1)) (row k) None)
one_more true k c before row = refl
one_more false k c before row = ap (λ t. option_or (cond (nat_lt k c) (row k) None) (cond t (row c) None)) (and_true (nat_eq k c)) ∙ lt_more k c row
  where
    and_true : (b : Bool) → (b && true) ≡ b
    and_true true = refl
    and_true false = refl

pub class_more : (fields : List FieldInfo) (rows : List (List ℕ)) (c q : ℕ)
    → option_or (place_by_first c fields rows q) (cond (is_own fields c q) (position (λ m. m == q) (row_at rows c)) None)
    ≡ place_by_first (c + 1) fields rows q
class_more fields rows c q = by (slice_get fields q)
  where
    by : (o : Option FieldInfo)
        → option_or (option_and_then (λ f. place_in_first c rows f (length (filter is_static_field (take q fields))) q) o)
        (cond (option_map_or (declares c) o false) (position (λ m. m == q) (row_at rows c)) None)
        ≡ option_and_then (λ f. place_in_first (c + 1) rows f (length (filter is_static_field (take q fields))) q) o
    by None = refl
    by (Some f) = one_more (is_static_field f) f.class c (length (filter is_static_field (take q fields))) (λ d. position (λ m. m == q) (row_at rows d))

pub no_class : (fields : List FieldInfo) (rows : List (List ℕ)) (q : ℕ) → static_at fields q ≡ place_by_first 0 fields rows q
no_class fields rows q = by (slice_get fields q)
  where
    none : (k : ℕ) → nat_lt k 0 ≡ false
    none k = grind (arith, nat_tests)

    by : (o : Option FieldInfo) → option_and_then (λ f. if_static f (length (filter is_static_field (take q fields)))) o
        ≡ option_and_then (λ f. place_in_first 0 rows f (length (filter is_static_field (take q fields))) q) o
    by None = refl
    by (Some f) = ap (λ t. cond (is_static_field f) (Some (length (filter is_static_field (take q fields)))) (cond t (position (λ m. m == q) (row_at rows f.class)) None)) (sym (none f.class))

pub all_classes : (fields : List FieldInfo) (rows : List (List ℕ)) (q : ℕ) → place_by_first (length rows) fields rows q ≡ place_by fields rows q
all_classes fields rows q = by (slice_get fields q)
  where
    row : ℕ → Option ℕ
    row c = position (λ m. m == q) (row_at rows c)

    past : (c : ℕ) → length rows ≤ c → row c ≡ None
    past c h = ap (λ o. position (λ m. m == q) (unwrap_or o [])) (slice_get_past rows c h)

    in_all : (c : ℕ) → cond (nat_lt c (length rows)) (row c) None ≡ row c
    in_all c =
        ⊎_elim
        (λ (h : c < length rows). let t : nat_lt c (length rows) ≡ true = grind (arith, nat_tests) in ap (λ b. cond b (row c) None) t)
        (λ (h : length rows ≤ c). let t : nat_lt c (length rows) ≡ false = grind (arith, nat_tests) in ap (λ b. cond b (row c) None) t ∙ sym (past c h))
        (cases_lt c (length rows))

    by : (o : Option FieldInfo) → option_and_then (λ f. place_in_first (length rows) rows f (length (filter is_static_field (take q fields))) q) o
        ≡ option_and_then (λ f. place_in rows f (length (filter is_static_field (take q fields))) q) o
    by None = refl
    by (Some f) = ap (λ o. cond (is_static_field f) (Some (length (filter is_static_field (take q fields)))) o) (in_all f.class)

-- a table of places speaks of equal fields and rows too
pub places_along : (places : List (Option ℕ)) (old fields : List FieldInfo) (before rows : List (List ℕ)) → old ≡ fields → before ≡ rows
    → ((n : ℕ) → get_or places n None ≡ place_by old before n) → (n : ℕ) → get_or places n None ≡ place_by fields rows n
places_along places old fields before rows e r h n =
    h n ∙ ap (λ (fs : List FieldInfo). place_by fs before n) e ∙ ap (λ (rs : List (List ℕ)). place_by fields rs n) r
