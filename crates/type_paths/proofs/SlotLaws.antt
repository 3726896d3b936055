-- The types of a path, from its end on.
use Rattle.std.proofs.Common.{◌≡◌, ℕ, ◌+◌, List, [], ◌∷◌, ◌++◌, length, Option, Some, None, refl, ap, sym, ◌∙◌, append_assoc, arith}
use Rattle.std.specs.Prelude.{reverse}
use Rattle.std.specs.Option.{option_map}
use Rattle.std.proofs.lemmas.List.{append-nil, length-append, reverse-append}
use Rattle.std.proofs.lemmas.Grind.{flat_map-append}
use Rattle.items.specs.Options.{◌>>=◌}
use Rattle.stack_maps.specs.declared.types.VType.{VType}
use Rattle.instruction_rows.specs.Contents.{slot_types, types_of}
use Rattle.type_paths.specs.Paths.{Path, count_on, types_on}

-- the types below one, and that one
abbrev with_last : Option (List VType) → Option VType → Option (List VType)
with_last o item = o >>= λ ts. item >>= λ u. Some (ts ++ u ∷ [])

known : (o : Option (List VType)) → with_last o None ≡ None
known None = refl
known (Some ts) = refl

pub unknown : {X : Type 0} (p q : Path) (item : Option VType) (f : List VType → X) (all : Option X) → p ≡ item ∷ q → item ≡ None → option_map f (types_on p) ≡ all → None ≡ all
unknown p q item f all e none so_far =
    sym (ap (λ (r : Path). option_map f (types_on r)) e ∙ ap (λ i. option_map f (with_last (types_on q) i)) none ∙ ap (λ o. option_map f o) (known (types_on q))) ∙ so_far

-- ---- as a list

behind : (o : Option (List VType)) (u : VType) (v : List VType) → option_map (λ ts. ts ++ reverse v) (with_last o (Some u)) ≡ option_map (λ ts. ts ++ reverse (v ++ u ∷ [])) o
behind None u v = refl
behind (Some ts) u v = ap Some (append_assoc ts (u ∷ []) (reverse v) ∙ ap (λ us. ts ++ us) (sym (reverse-append v (u ∷ []))))

pub more_types : (p q : Path) (item : Option VType) (u : VType) (v : List VType) (all : Option (List VType)) → p ≡ item ∷ q → item ≡ Some u
    → option_map (λ ts. ts ++ reverse v) (types_on p) ≡ all → option_map (λ ts. ts ++ reverse (v ++ u ∷ [])) (types_on q) ≡ all
more_types p q item u v all e is so_far =
    sym (ap (λ (r : Path). option_map (λ ts. ts ++ reverse v) (types_on r)) e ∙ ap (λ i. option_map (λ ts. ts ++ reverse v) (with_last (types_on q) i)) is ∙ behind (types_on q) u v) ∙ so_far

pub no_more : (p : Path) (v : List VType) (all : Option (List VType)) → p ≡ [] → option_map (λ ts. ts ++ reverse v) (types_on p) ≡ all → Some (reverse v) ≡ all
no_more p v all e so_far = sym (ap (λ (r : Path). option_map (λ ts. ts ++ reverse v) (types_on r)) e) ∙ so_far

pub none_yet : (o : Option (List VType)) → option_map (λ ts. ts ++ []) o ≡ o
none_yet None = refl
none_yet (Some ts) = ap Some (append-nil ts)

-- ---- as a number of slots

slots_of_last : (ts : List VType) (u : VType) → length (slot_types (ts ++ u ∷ [])) ≡ length (slot_types ts) + length (types_of u)
slots_of_last ts u =
    ap (λ (s : List VType). length s) (flat_map-append types_of ts (u ∷ []))
    ∙ length-append (slot_types ts) (slot_types (u ∷ []))
    ∙ ap (λ (s : List VType). length (slot_types ts) + length s) (append-nil (types_of u))

counted : (o : Option (List VType)) (u : VType) (c all : ℕ) → Some c ≡ option_map (λ ts. length (slot_types ts)) o → all ≡ c + length (types_of u)
    → Some all ≡ option_map (λ ts. length (slot_types ts)) (with_last o (Some u))
counted None u c all e is = absurd cc
counted (Some ts) u c all e is =
    let here : c ≡ length (slot_types ts) = cc in
    ap Some (omega (arith, here, is, slots_of_last ts u))

uncounted : (o : Option (List VType)) (item : Option VType) → None ≡ option_map (λ ts. length (slot_types ts)) o → None ≡ option_map (λ ts. length (slot_types ts)) (with_last o item)
uncounted None item e = refl
uncounted (Some ts) item e = absurd cc

pub more_slots : (p : Path) (item : Option VType) (u : VType) (c all : ℕ) → item ≡ Some u → Some c ≡ count_on p → all ≡ c + length (types_of u) → Some all ≡ count_on (item ∷ p)
more_slots p item u c all is e sum = counted (types_on p) u c all e sum ∙ ap (λ i. option_map (λ ts. length (slot_types ts)) (with_last (types_on p) i)) (sym is)

pub no_item : (p : Path) (item : Option VType) → item ≡ None → None ≡ count_on (item ∷ p)
no_item p item is = ap (λ o. option_map (λ ts. length (slot_types ts)) o) (sym (known (types_on p))) ∙ ap (λ i. option_map (λ ts. length (slot_types ts)) (with_last (types_on p) i)) (sym is)

pub no_count : (p : Path) (item : Option VType) → None ≡ count_on p → None ≡ count_on (item ∷ p)
no_count p item e = uncounted (types_on p) item e

pub no_slots : (p : Path) → p ≡ [] → Some 0 ≡ count_on p
no_slots p e = ap count_on (sym e)
