-- Going over items one after the other.
use Rattle.std.proofs.Common.{◌≡◌, ℕ, ◌+◌, ◌-◌, ◌<◌, List, [], ◌∷◌, ◌++◌, length, map, take, drop, get_or, Option, Some, None, Result, Ok, Err, refl, sym, ap, ◌∙◌, arith}
use Rattle.std.specs.List.{flat_map, sum_by}
use Rattle.std.specs.Result.{IsErrAnd}
use Rattle.std.proofs.lemmas.List.{at_drop_more}
use Rattle.std.proofs.lemmas.List.Sums.{sum_by-cons, sum_by_more}
use Rattle.std.proofs.lemmas.Result.{err_from_is_err_and}
use Rattle.jvm_utf8.specs.Text.{unit}
use Rattle.class_grammar.specs.declared.class_why.ClassWhy.{ClassWhy}
use Rattle.byte_reader.specs.declared.fault.Fault.{Fault}
use Rattle.class_model.specs.declared.constant.Const.{Const}
use Rattle.class_model.specs.declared.constant.Const.TheVariants.{Utf8}
use Rattle.class_grammar.specs.Checks.{Item, left_after, sound_bytes, u2_item, constant_items}
use Rattle.class_checks.specs.Sizes.{text_size, const_size, less, less_at_end, bare_items}

-- going on from a result
abbrev pub then_on : Result ℕ (Fault ClassWhy) → List Item → Result ℕ (Fault ClassWhy)
then_on (Ok left) is = left_after left is
then_on (Err f) is = Err f

-- one item, and those after it
abbrev first : ℕ → ℕ → List Item → Option ClassWhy → Result ℕ (Fault ClassWhy)
first left size is fault = elim fault [ None ↦ left_after (left - size) is | Some why ↦ Err (record { left = left; why = why }) ]

one_more : (left size : ℕ) (is js : List Item) (fault : Option ClassWhy) → left_after (left - size) (is ++ js) ≡ then_on (left_after (left - size) is) js → first left size (is ++ js) fault ≡ then_on (first left size is fault) js
one_more left size is js None more = more
one_more left size is js (Some why) more = refl

-- items, and those after them
pub left_after_append : (left : ℕ) (is js : List Item) → left_after left (is ++ js) ≡ then_on (left_after left is) js
left_after_append left [] js = refl
left_after_append left (i ∷ is) js = one_more left i.size is js i.fault (left_after_append (left - i.size) is js)

-- the units of a text
pub text_on : (left : ℕ) (units : List ℕ) → left_after left (map (λ u. sound_bytes (length (unit u))) units) ≡ Ok (left - text_size units)
text_on left [] = ap (λ (n : ℕ). Ok n) (omega arith)
text_on left (u ∷ us) =
    let size = sum_by-cons (λ (u : ℕ). length (unit u)) u us in
    text_on (left - length (unit u)) us ∙ ap (λ (n : ℕ). Ok n) (omega arith)

-- ---- the units of texts, which are taken off afterwards

shifted_one : (k left size : ℕ) (is : List Item) (fault : Option ClassWhy) → left_after ((left - size) - k) is ≡ less k (left_after (left - size) is) → first (left - k) size is fault ≡ less k (first left size is fault)
shifted_one k left size is None more = ap (λ (n : ℕ). left_after n is) (let e : (left - k) - size ≡ (left - size) - k = omega arith in e) ∙ more
shifted_one k left size is (Some why) more = refl

-- what was in front is taken off afterwards
pub shifted : (k left : ℕ) (is : List Item) → left_after (left - k) is ≡ less k (left_after left is)
shifted k left [] = refl
shifted k left (i ∷ is) = shifted_one k left i.size is i.fault (shifted k (left - i.size) is)

none_at_end : (r : Result ℕ (Fault ClassWhy)) → less_at_end 0 r ≡ r
none_at_end (Ok left) = ap (λ (n : ℕ). Ok n) (omega arith)
none_at_end (Err fault) = refl

bare_whole : (pool : List Const) (left : ℕ) (c : Const) → less_at_end (const_size c) (left_after left (bare_items pool c)) ≡ left_after left (constant_items pool c)
bare_whole pool left (Utf8 units) = sym (text_on (left - 3) units)
bare_whole pool left c = none_at_end (left_after left (constant_items pool c))

-- a constant, where the texts in front of it are taken off afterwards
one_constant : (pool : List Const) (k left : ℕ) (c : Const) (r : Result ℕ (Fault ClassWhy)) → r ≡ left_after left (bare_items pool c) → left_after (left - k) (constant_items pool c) ≡ less k (less_at_end (const_size c) r)
one_constant pool k left c r e =
    shifted k left (constant_items pool c) ∙ ap (less k) (sym (bare_whole pool left c) ∙ ap (less_at_end (const_size c)) (sym e))

-- ---- what answers cite

-- what a `?` hands on
pub handed_on : (r total : Result ℕ (Fault ClassWhy)) (fault : Fault ClassWhy) → IsErrAnd r (λ f. f ≡ fault) → Err fault ≡ total → r ≡ total
handed_on r total fault out e = let p = err_from_is_err_and r out in p.1 ∙ ap (λ (f : Fault ClassWhy). Err f) p.2 ∙ e

-- one more thing of a list was gone over, or has a fault
pub looped : {X : Type 0} (f : X → List Item) (xs : List X) (i : ℕ) (x : X) (left : ℕ) (r total : Result ℕ (Fault ClassWhy)) → i < length xs → x ≡ get_or xs i x → r ≡ left_after left (f x)
    → left_after left (flat_map f (drop i xs)) ≡ total → then_on r (flat_map f (drop (i + 1) xs)) ≡ total
looped f xs i x left r total lt is one so_far =
    let rest = flat_map f (drop (i + 1) xs) in
    ap (λ (q : Result ℕ (Fault ClassWhy)). then_on q rest) (one ∙ ap (λ y. left_after left (f y)) is)
    ∙ sym (left_after_append left (f (get_or xs i x)) rest)
    ∙ sym (at_drop_more (λ more. left_after left (flat_map f more)) xs i x lt) ∙ so_far

-- numbers in two bytes, and what is after them
pub faults_first : (left : ℕ) (found wanted : List (Option ClassWhy)) (r : Result ℕ (Fault ClassWhy)) (is : List Item) → r ≡ left_after left (map u2_item found) → found ≡ wanted
    → then_on r is ≡ left_after left (map u2_item wanted ++ is)
faults_first left found wanted r is one same =
    ap (λ (q : Result ℕ (Fault ClassWhy)). then_on q is) (one ∙ ap (λ (fs : List (Option ClassWhy)). left_after left (map u2_item fs)) same) ∙ sym (left_after_append left (map u2_item wanted) is)

-- constants, where the texts are taken off afterwards
pub constants_on : (pool cs : List Const) (i : ℕ) (c : Const) (left more : ℕ) (total : Result ℕ (Fault ClassWhy)) → i < length cs → c ≡ get_or cs i c → Ok more ≡ left_after left (bare_items pool c)
    → left_after (left - sum_by const_size (take i cs)) (flat_map (constant_items pool) (drop i cs)) ≡ total
    → left_after (more - sum_by const_size (take (i + 1) cs)) (flat_map (constant_items pool) (drop (i + 1) cs)) ≡ total
constants_on pool cs i c left more total lt is one so_far =
    let k = sum_by const_size (take i cs) in
    let all : sum_by const_size (take (i + 1) cs) ≡ k + const_size c = sum_by_more const_size cs i c lt ∙ ap (λ x. k + const_size x) (sym is) in
    let size : more - sum_by const_size (take (i + 1) cs) ≡ (more - const_size c) - k = omega (arith, all) in
    looped (constant_items pool) cs i c (left - k) (Ok (more - sum_by const_size (take (i + 1) cs))) total lt is
    (ap (λ (n : ℕ). Ok n) size ∙ sym (one_constant pool k left c (Ok more) one)) so_far

pub constants_bad : (pool cs : List Const) (i : ℕ) (c : Const) (left : ℕ) (fault : Fault ClassWhy) (total : Result ℕ (Fault ClassWhy)) → i < length cs → c ≡ get_or cs i c → Err fault ≡ left_after left (bare_items pool c)
    → left_after (left - sum_by const_size (take i cs)) (flat_map (constant_items pool) (drop i cs)) ≡ total
    → less (sum_by const_size (take i cs)) (Err fault) ≡ total
constants_bad pool cs i c left fault total lt is one so_far =
    let k = sum_by const_size (take i cs) in
    looped (constant_items pool) cs i c (left - k) (less k (Err fault)) total lt is (sym (one_constant pool k left c (Err fault) one)) so_far
