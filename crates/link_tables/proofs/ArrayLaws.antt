-- The place of an array type among all of them, which are grouped by the type of their last elements.
use Rattle.std.proofs.Common.{◌≡◌, ℕ, zero, suc, ◌+◌, ◌-◌, ◌≤◌, Bool, true, false, cond, List, [], ◌∷◌, length, Option, Some, None, get_or, take, refl, sym, ap, ◌∙◌, arith, length-append, nat_eq, nat_lt}
use Rattle.std.specs.Prelude.{nat_le, position, ◌==◌, ◌&&◌}
use Rattle.std.specs.List.{enumerate_from, flat_map, sum}
use Rattle.std.specs.Option.{option_and_then, option_map, option_map_or, option_or}
use Rattle.std.proofs.lemmas.Bool.Decides.{nat_tests}
use Rattle.std.proofs.lemmas.List.Sums.{sum_by-cons}
use Rattle.stack_maps.specs.declared.types.Base.{Base}
use Rattle.stack_maps.specs.declared.types.Base.TheVariants as bases
use Rattle.link_resolution.proofs.Positions.{position_append, position_push}
use Rattle.link_model.specs.declared.sites.ArrayType.{ArrayType}
use Rattle.link_model.specs.LookUps.{same_base, same_type}
use Rattle.link_model.specs.Numbering.{arrays_of, arrays_of_base, base_at}
use Rattle.link_numbers.specs.ArrayTypes.{number_in, place_of}

-- ---- types that are no arrays by their places

by_base : (P : Base → Type 0) → P bases.Bool → P bases.Byte → P bases.Char → P bases.Short → P bases.Int → P bases.Long → P bases.Float → P bases.Double
    → ((class : ℕ) → P (bases.Class class)) → (b : Base) → P b
by_base P a b c d e f g h of bases.Bool = a
by_base P a b c d e f g h of bases.Byte = b
by_base P a b c d e f g h of bases.Char = c
by_base P a b c d e f g h of bases.Short = d
by_base P a b c d e f g h of bases.Int = e
by_base P a b c d e f g h of bases.Long = f
by_base P a b c d e f g h of bases.Float = g
by_base P a b c d e f g h of bases.Double = h
by_base P a b c d e f g h of (bases.Class class) = of class

-- whether this is the place of the type
abbrev is_place : ℕ → Base → Bool
is_place i b = option_map_or (λ j. nat_eq i j) (place_of b) false

not_class : (i class : ℕ) → i ≤ 7 → false ≡ nat_eq i (8 + class)
not_class i class h = grind (arith, nat_tests)

same_class : (i class : ℕ) → nat_eq (suc (suc (suc (suc (suc (suc (suc (suc i))))))) - 8) class ≡ nat_eq (suc (suc (suc (suc (suc (suc (suc (suc i)))))))) (8 + class)
same_class i class = grind (arith, nat_tests)

class_at : (i : ℕ) → base_at (suc (suc (suc (suc (suc (suc (suc (suc i)))))))) ≡ bases.Class (suc (suc (suc (suc (suc (suc (suc (suc i))))))) - 8)
class_at i = grind (arith, nat_tests)

past_class : (i k : ℕ) → k ≤ 7 → false ≡ nat_eq (suc (suc (suc (suc (suc (suc (suc (suc i)))))))) k
past_class i k h = grind (arith, nat_tests)

same_at : (i : ℕ) (b : Base) → same_base (base_at i) b ≡ is_place i b
same_at zero b = by_base (λ v. same_base bases.Bool v ≡ is_place 0 v) refl refl refl refl refl refl refl refl (λ c. not_class 0 c (omega arith)) b
same_at (suc zero) b = by_base (λ v. same_base bases.Byte v ≡ is_place 1 v) refl refl refl refl refl refl refl refl (λ c. not_class 1 c (omega arith)) b
same_at (suc (suc zero)) b = by_base (λ v. same_base bases.Char v ≡ is_place 2 v) refl refl refl refl refl refl refl refl (λ c. not_class 2 c (omega arith)) b
same_at (suc (suc (suc zero))) b = by_base (λ v. same_base bases.Short v ≡ is_place 3 v) refl refl refl refl refl refl refl refl (λ c. not_class 3 c (omega arith)) b
same_at (suc (suc (suc (suc zero)))) b = by_base (λ v. same_base bases.Int v ≡ is_place 4 v) refl refl refl refl refl refl refl refl (λ c. not_class 4 c (omega arith)) b
same_at (suc (suc (suc (suc (suc zero))))) b = by_base (λ v. same_base bases.Long v ≡ is_place 5 v) refl refl refl refl refl refl refl refl (λ c. not_class 5 c (omega arith)) b
same_at (suc (suc (suc (suc (suc (suc zero)))))) b = by_base (λ v. same_base bases.Float v ≡ is_place 6 v) refl refl refl refl refl refl refl refl (λ c. not_class 6 c (omega arith)) b
same_at (suc (suc (suc (suc (suc (suc (suc zero))))))) b = by_base (λ v. same_base bases.Double v ≡ is_place 7 v) refl refl refl refl refl refl refl refl (λ c. not_class 7 c (omega arith)) b
same_at (suc (suc (suc (suc (suc (suc (suc (suc i)))))))) b =
    ap (λ v. same_base v b) (class_at i) ∙
    by_base (λ v. same_base (bases.Class (suc (suc (suc (suc (suc (suc (suc (suc i))))))) - 8)) v ≡ is_place (suc (suc (suc (suc (suc (suc (suc (suc i)))))))) v)
    (past_class i 0 (omega arith)) (past_class i 1 (omega arith)) (past_class i 2 (omega arith)) (past_class i 3 (omega arith))
    (past_class i 4 (omega arith)) (past_class i 5 (omega arith)) refl refl (same_class i) b

-- ---- in one group

-- the place of the type of so many dimensions in a group of types with at most so many
abbrev in_group : ℕ → ℕ → Option ℕ
in_group d most = cond (nat_lt 0 d && nat_le d most) (Some (d - 1)) None

size_of : (b : Base) (most : ℕ) → length (arrays_of_base b most) ≡ most
size_of b zero = refl
size_of b (suc n) = let front = size_of b n in simp length-append (omega arith)

none_in_empty : (s : Bool) (d : ℕ) → None ≡ cond s (in_group d 0) None
none_in_empty false d = refl
none_in_empty true zero = refl
none_in_empty true (suc d) = grind (arith, nat_tests)

last_or_before : (n d size : ℕ) (s : Bool) → size ≡ n
    → option_or (cond s (in_group d n) None) (cond ((suc n == d) && s) (Some size) None) ≡ cond s (in_group d (suc n)) None
last_or_before n d size false e = by (suc n == d)
  where
    by : (b : Bool) → option_or None (cond (b && false) (Some size) None) ≡ None
    by true = refl
    by false = refl
last_or_before n d size true e = grind (arith, nat_tests)

place_in_group : (b : Base) (t : ArrayType) (most : ℕ)
    → position (λ other. same_type other t) (arrays_of_base b most) ≡ cond (same_base b t.base) (in_group t.dimensions most) None
place_in_group b t zero = none_in_empty (same_base b t.base) t.dimensions
place_in_group b t (suc n) =
    let last : ArrayType = record { dimensions = suc n; base = b } in
    position_push (λ other. same_type other t) (arrays_of_base b n) last
    ∙ ap (λ o. option_or o (cond (same_type last t) (Some (length (arrays_of_base b n))) None)) (place_in_group b t n)
    ∙ last_or_before n t.dimensions (length (arrays_of_base b n)) (same_base b t.base) (size_of b n)

-- ---- among all groups

abbrev groups : ℕ → List ℕ → List ArrayType
groups k depths = flat_map (λ x. arrays_of_base (base_at x.0) x.1) (enumerate_from k depths)

place_in_groups : (t : ArrayType) (k n : ℕ) (depths : List ℕ)
    → position (λ other. same_type other t) (groups k (n ∷ depths))
    ≡ option_or (cond (same_base (base_at k) t.base) (in_group t.dimensions n) None) (option_map (λ i. n + i) (position (λ other. same_type other t) (groups (k + 1) depths)))
place_in_groups t k n depths =
    position_append (λ other. same_type other t) (arrays_of_base (base_at k) n) (groups (k + 1) depths)
    ∙ ap (λ o. option_or o (option_map (λ i. length (arrays_of_base (base_at k) n) + i) (position (λ other. same_type other t) (groups (k + 1) depths)))) (place_in_group (base_at k) t n)
    ∙ ap (λ size. option_or (cond (same_base (base_at k) t.base) (in_group t.dimensions n) None) (option_map (λ i. size + i) (position (λ other. same_type other t) (groups (k + 1) depths))))
    (size_of (base_at k) n)

-- from a group on behind that of the type
none_behind : (t : ArrayType) (k : ℕ) (depths : List ℕ) → ((i : ℕ) → k ≤ i → same_base (base_at i) t.base ≡ false)
    → position (λ other. same_type other t) (groups k depths) ≡ None
none_behind t k [] none = refl
none_behind t k (n ∷ depths) none =
    place_in_groups t k n depths
    ∙ ap (λ s. option_or (cond s (in_group t.dimensions n) None) (option_map (λ i. n + i) (position (λ other. same_type other t) (groups (k + 1) depths)))) (none k (omega arith))
    ∙ ap (λ o. option_map (λ i. n + i) o) (none_behind t (k + 1) depths (λ i h. none i (omega arith)))

nothing_more : (o : Option ℕ) → option_or o None ≡ option_map (λ i. 0 + i) o
nothing_more None = refl
nothing_more (Some i) = ap Some (omega arith)

behind_group : (o : Option ℕ) (n s all : ℕ) → all ≡ n + s → option_map (λ i. n + i) (option_map (λ i. s + i) o) ≡ option_map (λ i. all + i) o
behind_group None n s all e = refl
behind_group (Some i) n s all e = ap Some (omega arith)

-- in the groups from k on, where the type has the place of the group k + i
place_from : (t : ArrayType) (k i j : ℕ) (depths : List ℕ) → j ≡ k + i → ((m : ℕ) → same_base (base_at m) t.base ≡ nat_eq m j)
    → position (λ other. same_type other t) (groups k depths) ≡ option_map (λ place. sum (take i depths) + place) (in_group t.dimensions (get_or depths i 0))
place_from t k i j [] e same = none i t.dimensions
  where
    none : (i d : ℕ) → None ≡ option_map (λ place. sum (take i []) + place) (in_group d (get_or [] i 0))
    none zero d = ap (λ o. option_map (λ place. sum (take 0 []) + place) o) (none_in_empty true d)
    none (suc i) d = ap (λ o. option_map (λ place. sum (take (suc i) []) + place) o) (none_in_empty true d)
place_from t k zero j (n ∷ depths) e same =
    let here : nat_eq k j ≡ true = grind (arith, nat_tests) in
    place_in_groups t k n depths
    ∙ ap (λ s. option_or (cond s (in_group t.dimensions n) None) (option_map (λ i. n + i) (position (λ other. same_type other t) (groups (k + 1) depths)))) (same k ∙ here)
    ∙ ap (λ o. option_or (in_group t.dimensions n) (option_map (λ i. n + i) o))
    (none_behind t (k + 1) depths (λ i h. same i ∙ not_place i h))
    ∙ nothing_more (in_group t.dimensions n)
  where
    not_place : (i : ℕ) → k + 1 ≤ i → nat_eq i j ≡ false
    not_place i h = grind (arith, nat_tests)
place_from t k (suc i) j (n ∷ depths) e same =
    let other : nat_eq k j ≡ false = grind (arith, nat_tests) in
    place_in_groups t k n depths
    ∙ ap (λ s. option_or (cond s (in_group t.dimensions n) None) (option_map (λ i. n + i) (position (λ other. same_type other t) (groups (k + 1) depths)))) (same k ∙ other)
    ∙ ap (λ o. option_map (λ i. n + i) o) (place_from t (k + 1) i j depths (omega arith) same)
    ∙ behind_group (in_group t.dimensions (get_or depths i 0)) n (sum (take i depths)) (sum (n ∷ take i depths)) (sum_by-cons (λ m. m) n (take i depths))

-- ---- the number

counted : (count s d : ℕ) (b : Bool)
    → option_map (λ place. count + place) (option_map (λ place. s + place) (cond b (Some (d - 1)) None)) ≡ cond b (Some (count + s + (d - 1))) None
counted count s d true = ap Some (omega arith)
counted count s d false = refl

-- the number of an array type is that of its place after the names
pub number_is : (count : ℕ) (depths : List ℕ) (t : ArrayType)
    → option_and_then (λ index. number_in count depths index t.dimensions) (place_of t.base)
    ≡ option_map (λ place. count + place) (position (λ other. same_type other t) (arrays_of depths))
number_is count depths t = by (place_of t.base) refl
  where
    by : (o : Option ℕ) → place_of t.base ≡ o
        → option_and_then (λ index. number_in count depths index t.dimensions) o
        ≡ option_map (λ place. count + place) (position (λ other. same_type other t) (arrays_of depths))
    by None e =
        ap (λ o. option_map (λ place. count + place) o)
        (sym (none_behind t 0 depths (λ i h. same_at i t.base ∙ ap (λ o. option_map_or (λ j. nat_eq i j) o false) e)))
    by (Some j) e =
        sym (ap (λ o. option_map (λ place. count + place) o)
        (place_from t 0 j j depths (omega arith) (λ m. same_at m t.base ∙ ap (λ o. option_map_or (λ j. nat_eq m j) o false) e))
        ∙ counted count (sum (take j depths)) t.dimensions (nat_lt 0 t.dimensions && nat_le t.dimensions (get_or depths j 0)))
