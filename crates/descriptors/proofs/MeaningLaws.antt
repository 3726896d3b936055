-- What a descriptor means is the kind, or the signature, whose descriptor it is.
use Rattle.std.proofs.Common.{◌≡◌, ℕ, zero, suc, ◌-◌, ◌<◌, ◌≤◌, Bool, true, false, cond, eqb, List, [], ◌∷◌, ◌++◌, length, take, drop, refl, sym, ap, ◌∙◌, append_assoc, arith}
use Rattle.std.specs.Prelude.{Option, Some, None}
use Rattle.std.specs.List.{flat_map, AllByRecursion, prefix_len}
use Rattle.std.proofs.lemmas.Bool.{ne_eqb}
use Rattle.std.proofs.lemmas.List.{append-nil, length-append, take_at, drop_at}
use Rattle.descriptors.specs.declared.kind.ElementType.{ElementType}
use Rattle.descriptors.specs.declared.kind.ElementType.TheVariants.{Byte, Char, Double, Float, Int, Long, Short, Class}
use Rattle.descriptors.specs.declared.kind.ElementType.TheVariants as elements
use Rattle.descriptors.specs.declared.kind.Kind.{Kind}
use Rattle.descriptors.specs.declared.kind.Signature.{Signature}
use Rattle.descriptors.specs.Descriptors.{brackets, element_spelling, spelling, result_spelling, method_spelling, IsElement, IsKind, IsResult, IsSignature}
use Rattle.descriptors.specs.States.{is_field, is_method}
use Rattle.descriptors.specs.Meaning.{element_of, brackets_in, type_of, kind_of, first_length, begins_with, arguments_in, result_in, result_of, signature_of}
use Rattle.descriptors.proofs.KindLaws.{starts, regrouped}
use Rattle.descriptors.proofs.FrontKind.{NoSemicolon, name_units, length-brackets}

-- ---- one type

name_back : (name : List ℕ) → take (length (name ++ 59 ∷ []) - 1) (name ++ 59 ∷ []) ≡ name
name_back name = take_at name (59 ∷ []) _ (omega (arith, length-append name (59 ∷ [])))

element_back : (element : ElementType) → element_of (element_spelling element) ≡ element
element_back Byte = refl
element_back Char = refl
element_back Double = refl
element_back Float = refl
element_back Int = refl
element_back Long = refl
element_back Short = refl
element_back elements.Bool = refl
element_back (Class name) = ap (λ (x : List ℕ). Class x) (name_back name)

no_bracket : (element : ElementType) → prefix_len (λ u. eqb u 91) (element_spelling element) ≡ 0
no_bracket Byte = refl
no_bracket Char = refl
no_bracket Double = refl
no_bracket Float = refl
no_bracket Int = refl
no_bracket Long = refl
no_bracket Short = refl
no_bracket elements.Bool = refl
no_bracket (Class name) = refl

brackets_back : (n : ℕ) (element : ElementType) → brackets_in (brackets n ++ element_spelling element) ≡ n
brackets_back zero element = no_bracket element
brackets_back (suc n) element = let rest = brackets_back n element in omega (arith, rest)

pub type_back : (kind : Kind) → type_of (spelling kind) ≡ kind
type_back kind =
    let n = kind.dimensions in
    let dims = brackets_back n kind.element in
    let behind : drop (brackets_in (spelling kind)) (spelling kind) ≡ element_spelling kind.element = ap (λ (m : ℕ). drop m (spelling kind)) dims ∙ drop_at (brackets n) (element_spelling kind.element) n (length-brackets n) in
    let element = ap element_of behind ∙ element_back kind.element in
    λ i. record { dimensions = dims i; element = element i }

-- ---- the first of several types

name_length : (name tail : List ℕ) → NoSemicolon name → first_length true (name ++ 59 ∷ tail) ≡ suc (length name)
name_length [] tail none = refl
name_length (u ∷ name) tail none = ap (λ (b : Bool). cond b 1 (suc (first_length true (name ++ 59 ∷ tail)))) none.0 ∙ ap suc (name_length name tail none.1)

element_length : (element : ElementType) (tail : List ℕ) → IsElement element → first_length false (element_spelling element ++ tail) ≡ length (element_spelling element)
element_length Byte tail fit = refl
element_length Char tail fit = refl
element_length Double tail fit = refl
element_length Float tail fit = refl
element_length Int tail fit = refl
element_length Long tail fit = refl
element_length Short tail fit = refl
element_length elements.Bool tail fit = refl
element_length (Class name) tail fit =
    ap (λ (x : List ℕ). suc (first_length true x)) (append_assoc name (59 ∷ []) tail)
    ∙ ap suc (name_length name tail (name_units name false fit))
    ∙ (let size = length-append name (59 ∷ []) in omega (arith, size))

behind_length : (n : ℕ) (element : ElementType) (tail : List ℕ) → IsElement element → first_length false ((brackets n ++ element_spelling element) ++ tail) ≡ length (brackets n ++ element_spelling element)
behind_length zero element tail fit = element_length element tail fit
behind_length (suc n) element tail fit = ap suc (behind_length n element tail fit)

kind_length : (kind : Kind) (tail : List ℕ) → IsKind kind → first_length false (spelling kind ++ tail) ≡ length (spelling kind)
kind_length kind tail fit = behind_length kind.dimensions kind.element tail fit.element

no_end : (kind : Kind) (tail : List ℕ) → IsKind kind → begins_with 41 (spelling kind ++ tail) ≡ false
no_end kind tail fit = let s = starts kind tail fit in ap (begins_with 41) s.2 ∙ ne_eqb s.0 41 s.3

no_void : (kind : Kind) → IsKind kind → begins_with 86 (spelling kind) ≡ false
no_void kind fit = let s = starts kind [] fit in ap (begins_with 86) (sym (append-nil (spelling kind)) ∙ s.2) ∙ ne_eqb s.0 86 s.4

-- ---- arguments and results

-- one step over a type
abbrev argument_step : ℕ → List ℕ → Bool → ℕ → List Kind
argument_step n units end size = cond end [] (type_of (take size units) ∷ arguments_in n (drop size units))

abbrev result_step : ℕ → List ℕ → Bool → ℕ → List ℕ
result_step n units end size = cond end (drop 1 units) (result_in n (drop size units))

one_argument : (n : ℕ) (kind : Kind) (tail : List ℕ) → IsKind kind → arguments_in (suc n) (spelling kind ++ tail) ≡ kind ∷ arguments_in n tail
one_argument n kind tail fit =
    let units = spelling kind ++ tail in
    let size = kind_length kind tail fit in
    let front : type_of (take (first_length false units) units) ≡ kind = ap (λ (m : ℕ). type_of (take m units)) size ∙ ap type_of (take_at (spelling kind) tail (length (spelling kind)) refl) ∙ type_back kind in
    let behind : drop (first_length false units) units ≡ tail = ap (λ (m : ℕ). drop m units) size ∙ drop_at (spelling kind) tail (length (spelling kind)) refl in
    ap (λ (b : Bool). argument_step n units b (first_length false units)) (no_end kind tail fit) ∙ (λ i. front i ∷ arguments_in n (behind i))

one_behind : (n : ℕ) (kind : Kind) (tail : List ℕ) → IsKind kind → result_in (suc n) (spelling kind ++ tail) ≡ result_in n tail
one_behind n kind tail fit =
    let units = spelling kind ++ tail in
    let size = kind_length kind tail fit in
    let behind : drop (first_length false units) units ≡ tail = ap (λ (m : ℕ). drop m units) size ∙ drop_at (spelling kind) tail (length (spelling kind)) refl in
    ap (λ (b : Bool). result_step n units b (first_length false units)) (no_end kind tail fit) ∙ ap (result_in n) behind

arguments_back : (n : ℕ) (ks : List Kind) (x : List ℕ) → AllByRecursion IsKind ks → length ks < n → arguments_in n (flat_map spelling ks ++ 41 ∷ x) ≡ ks
arguments_back zero ks x fit less = absurd (omega arith)
arguments_back (suc n) [] x fit less = refl
arguments_back (suc n) (k ∷ ks) x fit less =
    ap (arguments_in (suc n)) (regrouped k ks (41 ∷ x))
    ∙ one_argument n k (flat_map spelling ks ++ 41 ∷ x) fit.0
    ∙ ap (λ (y : List Kind). k ∷ y) (arguments_back n ks x fit.1 (omega arith))

behind_back : (n : ℕ) (ks : List Kind) (x : List ℕ) → AllByRecursion IsKind ks → length ks < n → result_in n (flat_map spelling ks ++ 41 ∷ x) ≡ x
behind_back zero ks x fit less = absurd (omega arith)
behind_back (suc n) [] x fit less = refl
behind_back (suc n) (k ∷ ks) x fit less =
    ap (result_in (suc n)) (regrouped k ks (41 ∷ x))
    ∙ one_behind n k (flat_map spelling ks ++ 41 ∷ x) fit.0
    ∙ behind_back n ks x fit.1 (omega arith)

-- each type has a unit
few : (ks : List Kind) (x : List ℕ) → AllByRecursion IsKind ks → length ks ≤ length (flat_map spelling ks ++ x)
few [] x fit = omega arith
few (k ∷ ks) x fit =
    let tail = flat_map spelling ks ++ x in
    let s = starts k [] fit.0 in
    let some : spelling k ≡ s.0 ∷ s.1 = sym (append-nil (spelling k)) ∙ s.2 in
    omega (arith, few ks x fit.1, ap length (regrouped k ks x), length-append (spelling k) tail, ap length some)

result_back : (r : Option Kind) → IsResult r → result_of (result_spelling r) ≡ r
result_back None fit = refl
result_back (Some k) fit = ap (λ (b : Bool). cond b None (Some (type_of (spelling k)))) (no_void k fit) ∙ ap (λ (x : Kind). Some x) (type_back k)

-- the signature that a text means, if it is a descriptor
abbrev pub read : List ℕ → Signature
read units = record { args = arguments_in (length units) (drop 1 units); result = result_of (result_in (length units) (drop 1 units)) }

pub signature_back : (s : Signature) → IsSignature s → read (method_spelling s) ≡ s
signature_back s fit =
    let text = method_spelling s in
    let more = few s.args (41 ∷ result_spelling s.result) fit.args in
    let args = arguments_back (length text) s.args (result_spelling s.result) fit.args (omega (arith, more)) in
    let behind = behind_back (length text) s.args (result_spelling s.result) fit.args (omega (arith, more)) in
    let result = ap result_of behind ∙ result_back s.result fit.result in
    λ i. record { args = args i; result = result i }

-- ---- as the readers have it

pub kind_meant : (units : List ℕ) (kind : Kind) → is_field units ≡ true → units ≡ spelling kind → kind ≡ kind_of units
kind_meant units kind is e =
    sym (type_back kind) ∙ ap type_of (sym e)
    ∙ sym (ap (λ (b : Bool). cond b (type_of units) (let int : Kind = record { dimensions = 0; element = elements.Int } in int)) is)

pub signature_meant : (units : List ℕ) (s : Signature) → is_method units ≡ true → IsSignature s → units ≡ method_spelling s → s ≡ signature_of units
signature_meant units s is fit e =
    sym (signature_back s fit) ∙ ap read (sym e)
    ∙ sym (ap (λ (b : Bool). cond b (read units) (let none : Signature = record { args = []; result = None } in none)) is)

-- ---- a text is the descriptor of one alone

pub one_kind : (a b : Kind) → spelling a ≡ spelling b → a ≡ b
one_kind a b e = sym (type_back a) ∙ ap type_of e ∙ type_back b

pub one_signature : (a b : Signature) → IsSignature a → IsSignature b → method_spelling a ≡ method_spelling b → a ≡ b
one_signature a b f g e = sym (signature_back a f) ∙ ap read e ∙ signature_back b g
