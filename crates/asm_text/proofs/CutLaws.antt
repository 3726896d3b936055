-- A text is cut at the first such byte.
use Rattle.std.proofs.Common.{◌≡◌, ℕ, ◌+◌, ◌<◌, ◌≤◌, Bool, true, false, cond, List, [], ◌∷◌, ◌++◌, length, take, drop, Option, Some, None, refl, sym, ap, ◌∙◌, append_assoc, arith, eqb, ltb}
use Rattle.std.specs.Option.{option_map}
use Rattle.std.specs.List.{All, position_or_len}
use Rattle.std.proofs.lemmas.Bool.{ltb-true, ltb-false}
use Rattle.std.proofs.lemmas.Grind.{common_steps}
use Rattle.std.proofs.lemmas.List.Sums.{fails_before_first}
use Rattle.std.proofs.lemmas.List.Splits.{slice_split_first, slice_split_none}
use Rattle.asm_text.proofs.Tests.{some_same}
use Rattle.asm_text.specs.Words.{cut_at, parts_of}

abbrev same : ℕ → ℕ → Bool
same c b = eqb b c

abbrev cut_by : Bool → ℕ → List ℕ → Option (List ℕ × List ℕ)
cut_by within c bytes = option_map (λ (at : ℕ). (take at bytes, drop (at + 1) bytes)) (cond within (Some (position_or_len (same c) bytes)) None)

-- where it is cut
pub record IsCut (c : ℕ) (bytes front behind : List ℕ) : Type 0 where
  pub inside : position_or_len (same c) bytes < length bytes
  pub front_is : front ≡ take (position_or_len (same c) bytes) bytes
  pub behind_is : behind ≡ drop (position_or_len (same c) bytes + 1) bytes

cut_parts : (c : ℕ) (bytes front behind : List ℕ) (within : Bool) → ltb (position_or_len (same c) bytes) (length bytes) ≡ within
    → cut_by within c bytes ≡ Some (front, behind) → IsCut c bytes front behind
cut_parts c bytes front behind false test e = absurd cc
cut_parts c bytes front behind true test e =
    let at = position_or_len (same c) bytes in
    let both : (take at bytes, drop (at + 1) bytes) ≡ (front, behind) = some_same _ _ e in
    record { inside = ltb-true _ _ test; front_is = sym (ap (λ (t : List ℕ × List ℕ). t.0) both); behind_is = sym (ap (λ (t : List ℕ × List ℕ). t.1) both) }

pub cut_is : (c : ℕ) (bytes front behind : List ℕ) → cut_at c bytes ≡ Some (front, behind) → IsCut c bytes front behind
cut_is c bytes front behind e = cut_parts c bytes front behind (ltb (position_or_len (same c) bytes) (length bytes)) refl e

-- ---- parts

pub part_more : (bytes part behind : List ℕ) → Some (part, behind) ≡ cut_at 32 bytes → parts_of bytes ≡ part ∷ parts_of behind
part_more bytes part behind e =
    let cut = cut_is 32 bytes part behind (sym e) in
    slice_split_first (same 32) bytes 0 cut.inside ∙ (λ i. sym cut.front_is i ∷ parts_of (sym cut.behind_is i))

no_cut : (c : ℕ) (bytes : List ℕ) (within : Bool) → ltb (position_or_len (same c) bytes) (length bytes) ≡ within
    → None ≡ cut_by within c bytes → length bytes ≤ position_or_len (same c) bytes
no_cut c bytes false test e = ltb-false _ _ test
no_cut c bytes true test e = absurd cc

-- there is no such byte where it isn't cut
pub uncut : (c : ℕ) (bytes : List ℕ) → None ≡ cut_at c bytes → All (λ x. same c x ≡ false) bytes
uncut c bytes e =
    let past = no_cut c bytes (ltb (position_or_len (same c) bytes) (length bytes)) refl e in
    λ k x m. let fails = fails_before_first (same c) bytes k x (grind (arith, common_steps)) in grind (arith, common_steps)

pub part_last : (bytes : List ℕ) → None ≡ cut_at 32 bytes → parts_of bytes ≡ bytes ∷ []
part_last bytes e = slice_split_none (same 32) bytes (uncut 32 bytes e)

-- one more part
pub parts_pushed : (line : List ℕ) (parts new : List (List ℕ)) (rest part behind : List ℕ) → parts_of line ≡ parts ++ parts_of rest → Some (part, behind) ≡ cut_at 32 rest
    → new ≡ parts ++ part ∷ [] → parts_of line ≡ new ++ parts_of behind
parts_pushed line parts new rest part behind so_far cut pushed =
    so_far ∙ ap (λ (ps : List (List ℕ)). parts ++ ps) (part_more rest part behind cut) ∙ sym (append_assoc parts (part ∷ []) (parts_of behind))
    ∙ ap (λ (ps : List (List ℕ)). ps ++ parts_of behind) (sym pushed)

-- and the last part
pub parts_done : (line : List ℕ) (parts new : List (List ℕ)) (rest : List ℕ) → parts_of line ≡ parts ++ parts_of rest → None ≡ cut_at 32 rest → new ≡ parts ++ rest ∷ []
    → new ≡ parts_of line
parts_done line parts new rest so_far cut pushed = pushed ∙ ap (λ (ps : List (List ℕ)). parts ++ ps) (sym (part_last rest cut)) ∙ sym so_far
