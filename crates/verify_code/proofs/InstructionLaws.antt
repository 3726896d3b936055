-- The instructions of a method by rising pc, with and without what their constants mean.
use Rattle.std.proofs.Common.{◌≡◌, ℕ, ◌+◌, ◌<◌, ◌≤◌, ◌^◌, Bool, true, false, cond, eqb, List, [], ◌∷◌, length, Option, Some, refl, ap, ◌∙◌, arith}
use Rattle.std.proofs.lemmas.List.{length-append}
use Rattle.std.specs.Prelude.{ℤ, drop, find, is_some, map, ◌==◌}
use Rattle.std.specs.List.{list_all}
use Rattle.std.specs.List.Sorted.{IsNonDecreasingBy}
use Rattle.std.proofs.lemmas.List.Folds.{list_all-map}
use Rattle.opcodes.specs.declared.op.Instr.{Instr}
use Rattle.opcodes.specs.declared.switch.Match.{Match}
use Rattle.opcodes.specs.Code.{BeginsWithAll}
use Rattle.opcodes.proofs.CodeLaws.{some_bytes}
use Rattle.link_model.specs.declared.members.MethodCode.{MethodCode}
use Rattle.link_model.specs.Decoded.{IsDecoded}
use Rattle.instruction_rows.specs.Switches.{match_target}
use Rattle.link_model.specs.declared.sites.Resolution.{Resolution}
use Rattle.verify_types.specs.Environment.{Instruction, with_resolutions}
use Rattle.verify_code.specs.Environments.{AreInOrder}
use Rattle.verify_frames.specs.Entries.{Rises}
use Rattle.verify_frames.proofs.Rising.{rises_far}

pub rises_below : {A : Type 0} (pc : A → ℕ) (low high : ℕ) (xs : List A) → low ≤ high → Rises pc high xs → Rises pc low xs
rises_below pc low high [] up h = tt
rises_below pc low high (x ∷ xs) up h = (omega (arith, h.0), h.1)

pub in_order_rises : (pc : ℕ) (is : List Instr) (ns : List Resolution) → AreInOrder pc (with_resolutions is ns) → Rises (λ (i : Instr). i.pc) pc is
in_order_rises pc [] ns h = tt
in_order_rises pc (i ∷ is) ns h =
    (omega (arith, h.0), rises_below (λ (i : Instr). i.pc) (i.pc + 1) i.next is (omega (arith, h.0, h.1)) (in_order_rises i.next is (drop 1 ns) h.3))

found_step : (i : Instruction) (j : Instr) (o : Option Instruction) (p : Option Instr) (b : Bool) → is_some o ≡ is_some p → is_some (cond b (Some i) o) ≡ is_some (cond b (Some j) p)
found_step i j o p true e = refl
found_step i j o p false e = e

pub is_found : (pc : ℕ) (is : List Instr) (ns : List Resolution) → is_some (find (λ (i : Instruction). i.instr.pc == pc) (with_resolutions is ns)) ≡ is_some (find (λ (i : Instr). i.pc == pc) is)
is_found pc [] ns = refl
is_found pc (i ∷ is) ns = found_step _ i _ _ (eqb i.pc pc) (is_found pc is (drop 1 ns))

-- ---- the targets of a switch

pub all_matches : (p : ℤ → Bool) (ms : List Match) → list_all p (map match_target ms) ≡ list_all (λ m. p (match_target m)) ms
all_matches p ms = list_all-map p match_target ms

-- ---- decoded instructions are in order

in_order : (pc : ℕ) (code : List ℕ) (is : List Instr) (ns : List Resolution) → BeginsWithAll pc code is [] → pc + length code < 2 ^ 16 → AreInOrder pc (with_resolutions is ns)
in_order pc code [] ns b few = tt
in_order pc code (i ∷ is) ns b few =
    let first = b.1 in
    let sizes = ap length first.parts ∙ length-append first.bytes b.0 in
    (first.here, omega (arith, some_bytes pc code i b.0 first, sizes, first.next), omega (arith, sizes, first.next), in_order i.next b.0 is (drop 1 ns) b.2 (omega (arith, sizes, first.next)))

pub decoded_in_order : (code : MethodCode) (ns : List Resolution) → IsDecoded code → AreInOrder 0 (with_resolutions code.code ns)
decoded_in_order code ns h = in_order 0 h.bytes code.code ns h.is_code (omega (arith, h.few))

pub decoded_rises : (code : MethodCode) → IsDecoded code → IsNonDecreasingBy (λ (i : Instr). i.pc) code.code
decoded_rises code h = rises_far (λ (i : Instr). i.pc) 0 code.code (in_order_rises 0 code.code [] (decoded_in_order code [] h))
