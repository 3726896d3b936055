-- The arguments of a method's descriptor, read one after the other.
use Rattle.std.proofs.Common.{◌≡◌, ◌≢◌, ℕ, ◌+◌, ◌<◌, ◌≤◌, List, [], ◌∷◌, ◌++◌, length, get_or, drop, refl, sym, ap, ◌∙◌, append_assoc, length-append, arith}
use Rattle.std.specs.Prelude.{Option}
use Rattle.std.specs.List.{flat_map, sum_by, AllByRecursion}
use Rattle.std.proofs.lemmas.List.{append-nil}
use Rattle.std.proofs.lemmas.List.Concat.{flat_map-cons}
use Rattle.std.proofs.lemmas.Grind.{flat_map-append}
use Rattle.std.proofs.lemmas.List.Sums.{sum_by-append, sum_by-cons}
use Rattle.descriptors.specs.declared.kind.Kind.{Kind}
use Rattle.descriptors.specs.declared.kind.Signature.{Signature}
use Rattle.descriptors.specs.Descriptors.{spelling, slots, IsKind, IsResult, IsSignature, result_spelling, method_spelling}
use Rattle.descriptors.specs.Refusal.{IsMethod, KindInFront, IsResultText}
use Rattle.descriptors.proofs.KindLaws.{starts, same_behind, same_slots, regrouped}
use Rattle.descriptors.proofs.StateLaws.{IsRest}

-- These arguments were read, and the rest of the descriptor is this.
pub record AreRead (units : List ℕ) (args : List Kind) (rest : List ℕ) : Type 0 where
  pub fit : AllByRecursion IsKind args
  pub left : IsRest (sum_by slots args) rest
  pub read : units ≡ 40 ∷ (flat_map spelling args ++ rest)

pub read_none : (units : List ℕ) → IsMethod units → AreRead units [] (drop 1 units)
read_none units m =
    let is = m.1 in
    let rest : drop 1 units ≡ flat_map spelling m.0.args ++ 41 ∷ result_spelling m.0.result = ap (drop 1) m.2 in
    record {
      fit = tt;
      left = record { args = m.0.args; fit = is.args; few = omega (arith, is.slots_fit); result = m.0.result; is_result = is.result; parts = rest };
      read = m.2 ∙ ap (λ (x : List ℕ). 40 ∷ x) (sym rest);
    }

first_unit : (args : List Kind) (x : List ℕ) → AllByRecursion IsKind args → (u : ℕ) × (r : List ℕ) × (flat_map spelling args ++ 41 ∷ x ≡ u ∷ r)
first_unit [] x fit = (41, x, refl)
first_unit (k ∷ ks) x fit = let s = starts k (flat_map spelling ks ++ 41 ∷ x) fit.0 in (s.0, s.1, regrouped k ks (41 ∷ x) ∙ s.2)

pub some_left : (taken : ℕ) (rest : List ℕ) → IsRest taken rest → 0 < length rest
some_left taken rest left =
    let f = first_unit left.args (result_spelling left.result) left.fit in
    omega (arith, ap length (left.parts ∙ f.2))

get_first : (rest : List ℕ) (u : ℕ) (r : List ℕ) → rest ≡ u ∷ r → get_or rest 0 0 ≡ u
get_first rest u r e = ap (λ (x : List ℕ). get_or x 0 0) e

pub next_kind : (taken : ℕ) (rest : List ℕ) → IsRest taken rest → get_or rest 0 0 ≢ 41 → KindInFront rest
next_kind taken rest left ne = by_args left.args left.fit left.parts
  where
    by_args : (args : List Kind) → AllByRecursion IsKind args → rest ≡ flat_map spelling args ++ 41 ∷ result_spelling left.result → KindInFront rest
    by_args [] fit e = absurd (ne (get_first rest 41 (result_spelling left.result) e))
    by_args (k ∷ ks) fit e = record { kind = k; fit = fit.0; rest = flat_map spelling ks ++ 41 ∷ result_spelling left.result; parts = e ∙ regrouped k ks (41 ∷ result_spelling left.result) }

pub result_left : (taken : ℕ) (rest : List ℕ) → IsRest taken rest → get_or rest 0 0 ≡ 41 → IsResultText (drop 1 rest) × (rest ≡ 41 ∷ drop 1 rest)
result_left taken rest left end = by_args left.args left.fit left.parts
  where
    by_args : (args : List Kind) → AllByRecursion IsKind args → rest ≡ flat_map spelling args ++ 41 ∷ result_spelling left.result → IsResultText (drop 1 rest) × (rest ≡ 41 ∷ drop 1 rest)
    by_args [] fit e = (record { result = left.result; fit = left.is_result; parts = ap (drop 1) e }, e ∙ ap (λ (x : List ℕ). 41 ∷ x) (sym (ap (drop 1) e)))
    by_args (k ∷ ks) fit e =
        let s = starts k (flat_map spelling ks ++ 41 ∷ result_spelling left.result) fit.0 in
        absurd (s.3 (sym (get_first rest s.0 s.1 (e ∙ regrouped k ks (41 ∷ result_spelling left.result) ∙ s.2)) ∙ end))

all_more : (ks : List Kind) (k : Kind) → AllByRecursion IsKind ks → IsKind k → AllByRecursion IsKind (ks ++ k ∷ [])
all_more [] k fit one = (one, tt)
all_more (j ∷ ks) k fit one = (fit.0, all_more ks k fit.1 one)

text_more : (args : List Kind) (k : Kind) (x : List ℕ) → flat_map spelling args ++ (spelling k ++ x) ≡ flat_map spelling (args ++ k ∷ []) ++ x
text_more args k x =
    sym (append_assoc (flat_map spelling args) (spelling k) x)
    ∙ ap (λ (y : List ℕ). y ++ x) (ap (λ (y : List ℕ). flat_map spelling args ++ y) (sym (flat_map-cons spelling k [] ∙ append-nil (spelling k))) ∙ sym (flat_map-append spelling args (k ∷ [])))

pub read_more : (units : List ℕ) (args : List Kind) (rest : List ℕ) (kind : Kind) (behind : List ℕ) → AreRead units args rest → get_or rest 0 0 ≢ 41 → IsKind kind → rest ≡ spelling kind ++ behind → AreRead units (args ++ kind ∷ []) behind
read_more units args rest kind behind so_far ne is e = by_args so_far.left.args so_far.left.fit so_far.left.few so_far.left.parts
  where
    by_args : (others : List Kind) → AllByRecursion IsKind others → sum_by slots args + sum_by slots others ≤ 255 → rest ≡ flat_map spelling others ++ 41 ∷ result_spelling so_far.left.result → AreRead units (args ++ kind ∷ []) behind
    by_args [] fit few parts = absurd (ne (get_first rest 41 (result_spelling so_far.left.result) parts))
    by_args (k ∷ ks) fit few parts =
        let tail = flat_map spelling ks ++ 41 ∷ result_spelling so_far.left.result in
        let whole : spelling k ++ tail ≡ spelling kind ++ behind = sym (regrouped k ks (41 ∷ result_spelling so_far.left.result)) ∙ sym parts ∙ e in
        let same = same_behind k kind tail behind fit.0 is whole in
        let taken = same_slots k kind tail behind fit.0 is whole in
        record {
          fit = all_more args kind so_far.fit is;
          left = record {
            args = ks;
            fit = fit.1;
            few = omega (arith, few, taken, sum_by-cons slots k ks, sum_by-append slots args (kind ∷ []), sum_by-cons slots kind []);
            result = so_far.left.result;
            is_result = so_far.left.is_result;
            parts = sym same;
          };
          read = so_far.read ∙ ap (λ (x : List ℕ). 40 ∷ x) (ap (λ (x : List ℕ). flat_map spelling args ++ x) e ∙ text_more args kind behind);
        }

-- a kind has a unit
pub shorter : (rest : List ℕ) (kind : Kind) (behind : List ℕ) → IsKind kind → rest ≡ spelling kind ++ behind → length behind < length rest
shorter rest kind behind is e =
    let s = starts kind [] is in
    let text : spelling kind ≡ s.0 ∷ s.1 = sym (append-nil (spelling kind)) ∙ s.2 in
    omega (arith, ap length e, length-append (spelling kind) behind, ap length text)

pub whole : (units : List ℕ) (args : List Kind) (rest : List ℕ) (r : Option Kind) → AreRead units args rest → get_or rest 0 0 ≡ 41 → IsResult r → drop 1 rest ≡ result_spelling r
    → (let s : Signature = record { args = args; result = r } in IsSignature s × (units ≡ method_spelling s))
whole units args rest r so_far end is e =
    let few = so_far.left.few in (
      record { args = so_far.fit; slots_fit = omega arith; result = is },
      so_far.read ∙ ap (λ (x : List ℕ). 40 ∷ (flat_map spelling args ++ x)) ((result_left _ rest so_far.left end).1 ∙ ap (λ (x : List ℕ). 41 ∷ x) e),
    )
