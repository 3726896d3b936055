-- The `new` at a pc, by the index of its instruction.
use Rattle.std.proofs.Common.{◌≡◌, ℕ, zero, suc, ◌+◌, ◌<◌, ◌≤◌, Bool, true, false, cond, eqb, ltb, get_or, List, [], ◌∷◌, length, Some, None, refl, ap, sym, ◌∙◌, arith}
use Rattle.std.specs.Prelude.{drop, find, not, position, slice_get}
use Rattle.std.specs.List.{position_or_len}
use Rattle.std.specs.List.Sorted.{IsNonDecreasingBy, IsPartitionPoint}
use Rattle.std.specs.Option.{option_and_then, option_map}
use Rattle.std.proofs.lemmas.Bool.{eq-eqb, le-ltb, lt-ltb, ltb-false, ltb-true, ne_eqb}
use Rattle.std.proofs.lemmas.List.Folds.{find_at}
use Rattle.std.proofs.lemmas.List.Sums.{position_or_len_is}
use Rattle.std.proofs.lemmas.Option.{slice_get_past}
use Rattle.opcodes.specs.declared.op.Instr.{Instr}
use Rattle.link_model.specs.declared.sites.Resolution.{Resolution}
use Rattle.link_model.specs.declared.sites.Site.TheVariants.{Plain}
use Rattle.verify_types.specs.Environment.{Instruction, with_resolutions}
use Rattle.verify_types.specs.Calls.{made_by}
use Rattle.verify_instructions.specs.Tables.{new_at}

abbrev plain : Resolution
plain = record { site = Plain; class = None; failure = None }

abbrev pub At : ℕ → Instr → Bool
At pc i = eqb i.pc pc

abbrev AtNamed : ℕ → Instruction → Bool
AtNamed pc i = eqb i.instr.pc pc

same_place : (pc : ℕ) (code : List Instr) (ns : List Resolution) → position_or_len (AtNamed pc) (with_resolutions code ns) ≡ position_or_len (At pc) code
same_place pc [] ns = refl
same_place pc (i ∷ code) ns = ap (λ k. cond (not (At pc i)) (1 + k) 0) (same_place pc code (drop 1 ns))

named : (code : List Instr) (ns : List Resolution) (n : ℕ) → slice_get (with_resolutions code ns) n ≡ option_map (λ (i : Instr). record { instr = i; resolution = get_or ns n plain }) (slice_get code n)
named [] ns n = refl
named (i ∷ code) ns zero = refl
named (i ∷ code) [] (suc n) = named code [] n
named (i ∷ code) (m ∷ ns) (suc n) = named code ns n

placed : (pc : ℕ) (code : List Instr) (ns : List Resolution) → find (AtNamed pc) (with_resolutions code ns) ≡ option_map (λ (i : Instr). record { instr = i; resolution = get_or ns (position_or_len (At pc) code) plain }) (slice_get code (position_or_len (At pc) code))
placed pc code ns =
    find_at (AtNamed pc) (with_resolutions code ns)
    ∙ ap (λ n. slice_get (with_resolutions code ns) n) (same_place pc code ns)
    ∙ named code ns (position_or_len (At pc) code)

some_place : (b : Bool) (k n : ℕ) → cond b (Some k) None ≡ Some n → k ≡ n
some_place true k n e = cc
some_place false k n e = absurd cc

no_place : (b : Bool) (k : ℕ) → cond b (Some k) None ≡ None → b ≡ false
no_place true k e = absurd cc
no_place false k e = refl

pub new_found : (pc : ℕ) (code : List Instr) (ns : List Resolution) (n : ℕ) (i : Instr) → position (At pc) code ≡ Some n → slice_get code n ≡ Some i → new_at pc (with_resolutions code ns) ≡ made_by i.op (get_or ns n plain).site
new_found pc code ns n i at is =
    let k = position_or_len (At pc) code in
    let same : k ≡ n = some_place (ltb k (length code)) k n at in
    ap (λ o. option_and_then (λ (x : Instruction). made_by x.instr.op x.resolution.site) o)
    (placed pc code ns ∙ ap (λ m. option_map (λ (x : Instr). record { instr = x; resolution = get_or ns m plain }) (slice_get code m)) same ∙ ap (λ o. option_map (λ (x : Instr). record { instr = x; resolution = get_or ns n plain }) o) is)

pub new_none : (pc : ℕ) (code : List Instr) (ns : List Resolution) → position (At pc) code ≡ None → new_at pc (with_resolutions code ns) ≡ None
new_none pc code ns none =
    let k = position_or_len (At pc) code in
    let past = ltb-false k (length code) (no_place (ltb k (length code)) k none) in
    ap (λ o. option_and_then (λ (x : Instruction). made_by x.instr.op x.resolution.site) o)
    (placed pc code ns ∙ ap (λ o. option_map (λ (x : Instr). record { instr = x; resolution = get_or ns k plain }) o) (slice_get_past code k past))

-- ---- the first instruction at a pc, where those before a place lie before the pc, and those from there on don't

abbrev pub Before : ℕ → Instr → Bool
Before pc i = ltb i.pc pc

abbrev pub IsFirst : ℕ → List Instr → ℕ → Type 0
IsFirst pc code n = IsPartitionPoint (λ i. Before pc i ≡ true) (λ i. Before pc i ≡ false) code n

below_other : (pc n : ℕ) (code : List Instr) → IsFirst pc code n → (k : ℕ) (d : Instr) → k < n → At pc (get_or code k d) ≡ false
below_other pc n code h k d low =
    let before = ltb-true (get_or code k d).pc pc (h.0 k d (omega arith) low) in
    ne_eqb (get_or code k d).pc pc (λ same. omega arith)

pub first_found : (pc n : ℕ) (code : List Instr) (d : Instr) → IsFirst pc code n → n < length code → (get_or code n d).pc ≡ pc → Some n ≡ position (At pc) code
first_found pc n code d h low is =
    let at : position_or_len (At pc) code ≡ n = position_or_len_is (At pc) code n d (omega arith) (λ k below. below_other pc n code h k d below) (λ l. eq-eqb (get_or code n d).pc pc is) in
    sym (ap (λ k. cond (ltb k (length code)) (Some k) None) at ∙ ap (λ b. cond b (Some n) None) (lt-ltb n (length code) low))

past_other : (pc n : ℕ) (code : List Instr) (d : Instr) → IsNonDecreasingBy (λ (i : Instr). i.pc) code → IsFirst pc code n → ((get_or code n d).pc ≡ pc → ⊥) → (k : ℕ) → n ≤ k → k < length code → At pc (get_or code k d) ≡ false
past_other pc n code d rises h not k up low =
    let from = ltb-false (get_or code n d).pc pc (h.1 n d (omega arith) (omega arith)) in
    let above = rises n k d up low in
    ne_eqb (get_or code k d).pc pc (λ same. not (omega arith))

pub first_none : (pc n : ℕ) (code : List Instr) (d : Instr) → IsNonDecreasingBy (λ (i : Instr). i.pc) code → IsFirst pc code n → (n < length code → (get_or code n d).pc ≡ pc → ⊥) → None ≡ position (At pc) code
first_none pc n code d rises h other =
    let at : position_or_len (At pc) code ≡ length code = position_or_len_is (At pc) code (length code) d (omega arith) (λ k low. by_place k low (ltb k n) refl) (λ l. absurd (omega arith)) in
    sym (ap (λ k. cond (ltb k (length code)) (Some k) None) at ∙ ap (λ b. cond b (Some (length code)) None) (ltb_itself (length code)))
  where
    ltb_itself : (n : ℕ) → ltb n n ≡ false
    ltb_itself n = le-ltb n n (omega arith)

    by_place : (k : ℕ) → k < length code → (b : Bool) → ltb k n ≡ b → At pc (get_or code k d) ≡ false
    by_place k low true e = below_other pc n code h k d (ltb-true k n e)
    by_place k low false e = let up = ltb-false k n e in past_other pc n code d rises h (other (omega arith)) k up low

pub first_past : (pc n : ℕ) (code : List Instr) → IsNonDecreasingBy (λ (i : Instr). i.pc) code → IsFirst pc code n → length code ≤ n → None ≡ position (At pc) code
first_past pc n [] rises h past = refl
first_past pc n (i ∷ code) rises h past = first_none pc n (i ∷ code) i rises h (λ low. absurd (omega arith))
