-- Paths that grow by nodes.
use Rattle.std.proofs.Common.{◌≡◌, ℕ, zero, suc, ◌+◌, ◌<◌, ◌≤◌, List, [], ◌∷◌, ◌++◌, length, get_or, ltb, Option, Some, None, refl, ap, sym, subst, ◌∙◌, ◌⊎◌, inl, inr, append_assoc, arith}
use Rattle.std.specs.Prelude.{◌-◌, drop, slice_get, is_some, IfSome, MatchOption}
use Rattle.std.proofs.lemmas.List.{length-append, get_or_append_left}
use Rattle.std.specs.Borrow.{Bor}
use Rattle.std.specs.Option.{option_copied}
use Rattle.std.proofs.lemmas.Bool.{ltb-true, ltb-false}
use Rattle.std.proofs.lemmas.Option.{same_Some, slice_get_past, slice_get_read}
use Rattle.std.proofs.Math.Seq.{get_or-append_seam}
use native.Mathlib.Numerals.{unary_clauses}
use Rattle.type_paths.specs.declared.paths.Node.{Node}
use Rattle.type_paths.specs.Paths.{Path, path, paths_from, root, AreAbove, AreCounted, IsAbove, IsPath, IsTop, IsTree, count_on}

abbrev above : List Path → Node → Path
above paths n = n.item ∷ path paths n.below

pub grows : (paths : List Path) (ns : List Node) (n : Node) → paths_from paths (ns ++ n ∷ []) ≡ paths_from paths ns ++ above (paths_from paths ns) n ∷ []
grows paths [] n = refl
grows paths (m ∷ ns) n = grows (paths ++ above paths m ∷ []) ns n

one_longer : (paths : List Path) (p : Path) → length (paths ++ p ∷ []) ≡ length paths + 1
one_longer paths p = length-append paths (p ∷ [])

pub keeps : (paths : List Path) (ns : List Node) (k : ℕ) → k < length paths → path (paths_from paths ns) k ≡ path paths k
keeps paths [] k low = refl
keeps paths (n ∷ ns) k low =
    keeps (paths ++ above paths n ∷ []) ns k (omega (arith, one_longer paths (above paths n)))
    ∙ get_or_append_left paths (above paths n ∷ []) [] k low

pub count_is : (paths : List Path) (ns : List Node) → length (paths_from paths ns) ≡ length paths + length ns
count_is paths [] = omega arith
count_is paths (n ∷ ns) = omega (arith, count_is (paths ++ above paths n ∷ []) ns, one_longer paths (above paths n))

pub all_above : (n : ℕ) (ns : List Node) (top : Node) → AreAbove n ns → top.below < n + length ns → AreAbove n (ns ++ top ∷ [])
all_above n [] top h low = (omega arith, tt)
all_above n (m ∷ ns) top h low = (h.0, all_above (n + 1) ns top h.1 (omega arith))

top_from : (paths : List Path) (ns : List Node) (k : ℕ) (n : Node) → AreAbove (length paths) ns → slice_get ns k ≡ Some n
    → (n.below < length paths + length ns) × (path (paths_from paths ns) (length paths + k) ≡ above (paths_from paths ns) n)
top_from paths [] k n h e = absurd cc
top_from paths (m ∷ ns) zero n h e =
    let same : m ≡ n = same_Some m n e in
    let longer = one_longer paths (above paths m) in
    let now = paths ++ above paths m ∷ [] in
    let here : path (paths_from now ns) (length paths) ≡ above paths m = keeps now ns (length paths) (omega arith) ∙ get_or-append_seam paths (above paths m) [] [] in
    let under : path paths m.below ≡ path (paths_from now ns) m.below = sym (keeps now ns m.below (omega (arith, h.0)) ∙ get_or_append_left paths (above paths m ∷ []) [] m.below h.0) in
    let none : length paths + 0 ≡ length paths = omega arith in
    subst (λ (x : Node). (x.below < length paths + length (m ∷ ns)) × (path (paths_from now ns) (length paths + 0) ≡ above (paths_from now ns) x)) same
    (omega (arith, h.0), ap (λ i. path (paths_from now ns) i) none ∙ here ∙ ap (λ p. m.item ∷ p) under)
top_from paths (m ∷ ns) (suc k) n h e =
    let now = paths ++ above paths m ∷ [] in
    let longer = one_longer paths (above paths m) in
    let more = top_from now ns k n (subst (λ i. AreAbove i ns) (sym longer) h.1) e in
    let far : length now + k ≡ length paths + suc k = omega arith in
    (omega (arith, more.0), ap (λ i. path (paths_from now ns) i) (sym far) ∙ more.1)

pub top_is : (ns : List Node) (k : ℕ) (n : Node) → IsTree ns → slice_get ns k ≡ Some n → IsTop (paths_from root ns) (1 + k) n
top_is ns k n h e =
    let found = top_from root ns k n h.above e in
    record { is_node = omega (arith, found.0, count_is root ns); is = found.1; counted = h.counted.each k n e }

pub is_known : (ns : List Node) (n : ℕ) → n ≤ length ns → n < length (paths_from root ns)
is_known ns n low = omega (arith, count_is root ns)

pub first_is : (ns : List Node) → path (paths_from root ns) 0 ≡ []
first_is ns = keeps root ns 0 (omega arith)

none_past : (xs : List Path) (k : ℕ) → length xs ≤ k → path xs k ≡ []
none_past [] k high = refl
none_past (x ∷ xs) zero high = absurd (omega arith)
none_past (x ∷ xs) (suc k) high = none_past xs k (omega arith)

pub past : (ns : List Node) (n : ℕ) → length ns < n → path (paths_from root ns) n ≡ []
past ns n high = none_past (paths_from root ns) n (omega (arith, count_is root ns))

pub got : (xs : List Node) (i : ℕ) (r : Option (Bor Node)) → is_some r ≡ ltb i (length xs) → IfSome r (λ x. x.now ≡ get_or xs i x.now) → option_copied r ≡ slice_get xs i
got xs i None found is = sym (slice_get_past xs i (ltb-false i (length xs) (sym found)))
got xs i (Some x) found is = sym (slice_get_read xs (length xs) i x.now refl (ltb-true i (length xs) (sym found)) is)

not_within : (ns : List Node) (k : ℕ) → slice_get ns k ≡ None → length ns ≤ k
not_within [] k e = omega arith
not_within (m ∷ ns) zero e = absurd cc
not_within (m ∷ ns) (suc k) e = omega (arith, not_within ns k e)

pub top_or_none : (ns : List Node) (n : ℕ) (o : Option Node) → 0 < n → IsTree ns → o ≡ slice_get ns (n - 1) → MatchOption o (path (paths_from root ns) n ≡ []) (IsTop (paths_from root ns) n)
top_or_none ns n None some h e =
    past ns n (omega (arith, not_within ns (n - 1) (sym e)))
top_or_none ns n (Some top) some h e =
    let at : 1 + (n - 1) ≡ n = omega arith in
    subst (λ (i : ℕ). IsTop (paths_from root ns) i top) at (top_is ns (n - 1) top h (sym e))

-- ---- one node more is counted

got_last : (ns : List Node) (m n : Node) (k : ℕ) → slice_get (ns ++ m ∷ []) k ≡ Some n → ((slice_get ns k ≡ Some n) × (k < length ns)) ⊎ ((k ≡ length ns) × (m ≡ n))
got_last [] m n zero e = inr (refl, same_Some m n e)
got_last [] m n (suc k) e = absurd cc
got_last (x ∷ ns) m n zero e = inl (e, omega arith)
got_last (x ∷ ns) m n (suc k) e = after (got_last ns m n k e)
  where
    after : ((slice_get ns k ≡ Some n) × (k < length ns)) ⊎ ((k ≡ length ns) × (m ≡ n)) → ((slice_get ns k ≡ Some n) × (suc k < length (x ∷ ns))) ⊎ ((suc k ≡ length (x ∷ ns)) × (m ≡ n))
    after (inl h) = inl (h.0, omega (arith, h.1))
    after (inr h) = inr (omega (arith, h.0), h.1)

pub all_counted : (ns : List Node) (m : Node) → AreCounted ns → m.slots ≡ count_on (above (paths_from root ns) m) → AreCounted (ns ++ m ∷ [])
all_counted ns m h last = record { each = λ k n e. by_place k n (got_last ns m n k e) }
  where
    by_place : (k : ℕ) (n : Node) → ((slice_get ns k ≡ Some n) × (k < length ns)) ⊎ ((k ≡ length ns) × (m ≡ n)) → n.slots ≡ count_on (path (paths_from root (ns ++ m ∷ [])) (1 + k))
    by_place k n (inl found) =
        h.each k n found.0
        ∙ ap count_on (sym (get_or_append_left (paths_from root ns) (above (paths_from root ns) m ∷ []) [] (1 + k) (omega (arith, found.1, count_is root ns))))
        ∙ ap (λ (ps : List Path). count_on (path ps (1 + k))) (sym (grows root ns m))
    by_place k n (inr found) =
        let at : length (paths_from root ns) ≡ 1 + k = omega (arith, found.0, count_is root ns) in
        ap (λ (x : Node). x.slots) (sym found.1)
        ∙ last
        ∙ ap count_on (sym (get_or-append_seam (paths_from root ns) (above (paths_from root ns) m) [] []))
        ∙ ap (λ (i : ℕ). count_on (path (paths_from root ns ++ above (paths_from root ns) m ∷ []) i)) at
        ∙ ap (λ (ps : List Path). count_on (path ps (1 + k))) (sym (grows root ns m))

-- ---- nodes on a path

pub above_itself : (paths : List Path) (n : ℕ) → IsAbove paths n n
above_itself paths n = record { more = []; is = refl }

pub above_top : (paths : List Path) (n : ℕ) (top : Node) → IsTop paths n top → IsAbove paths n top.below
above_top paths n top h = record { more = top.item ∷ []; is = h.is }

pub above_twice : (paths : List Path) (a b c : ℕ) → IsAbove paths a b → IsAbove paths b c → IsAbove paths a c
above_twice paths a b c h g = record { more = h.more ++ g.more; is = h.is ∙ ap (λ (p : Path). h.more ++ p) g.is ∙ sym (append_assoc h.more g.more (path paths c)) }

-- ---- no path is longer than there are nodes

abbrev AreShort : ℕ → List Path → Type 0
AreShort n [] = Unit {0}
AreShort n (p ∷ ps) = (length p < n) × AreShort n ps

short_at : (n : ℕ) (ps : List Path) (k : ℕ) → 0 < n → AreShort n ps → length (path ps k) < n
short_at n [] k some h = some
short_at n (p ∷ ps) zero some h = h.0
short_at n (p ∷ ps) (suc k) some h = short_at n ps k some h.1

short_more : (n m : ℕ) (ps : List Path) (q : Path) → n ≤ m → length q < m → AreShort n ps → AreShort m (ps ++ q ∷ [])
short_more n m [] q up low h = (low, tt)
short_more n m (p ∷ ps) q up low h = (omega (arith, h.0), short_more n m ps q up low h.1)

short_from : (n : ℕ) (paths : List Path) (ns : List Node) (k : ℕ) → 0 < n → AreShort n paths → length (path (paths_from paths ns) k) < n + length ns
short_from n paths [] k some h = omega (arith, short_at n paths k some h)
short_from n paths (m ∷ ns) k some h =
    let under = short_at n paths m.below some h in
    let more = short_more n (n + 1) paths (above paths m) (omega arith) (omega arith) h in
    omega (arith, short_from (n + 1) (paths ++ above paths m ∷ []) ns k (omega arith) more)

pub short : (ns : List Node) (k : ℕ) → length (path (paths_from root ns) k) ≤ length ns
short ns k = omega (arith, short_from 1 root ns k (omega arith) (omega arith, tt))

-- ---- a node that is chopped

pub under : (paths : List Path) (n : ℕ) (top : Node) (p : Path) → IsTop paths n top → IsPath paths n p → IsPath paths top.below (drop 1 p)
under paths n top p here h = record { is_node = here.is_node; is = ap (drop 1) (sym here.is ∙ h.is) }

pub under_none : (paths : List Path) (n : ℕ) (p : Path) → path paths n ≡ [] → IsPath paths n p → IsPath paths n (drop 1 p)
under_none paths n p none h = record { is_node = h.is_node; is = none ∙ ap (drop 1) (sym none ∙ h.is) }

one_more : (k : ℕ) → k + 1 ≡ suc k
one_more k = omega arith

pub drop_more : (k : ℕ) (p : Path) → drop 1 (drop k p) ≡ drop (k + 1) p
drop_more zero p = refl
drop_more (suc k) [] = simp unary_clauses refl
drop_more (suc k) (x ∷ p) = simp unary_clauses (drop_more k p ∙ ap (λ n. drop n p) (one_more k))
