-- The instruction at a pc by its index.
use Rattle.std.proofs.Common.{◌≡◌, ℕ, suc, ◌+◌, Bool, true, false, cond, not, List, [], ◌∷◌, drop, length, get_or, Option, Some, None, refl, sym, ap, ◌∙◌, arith}
use Rattle.std.specs.Prelude.{find, nat_lt, position, slice_get, ◌==◌}
use Rattle.std.specs.Option.{option_and_then, option_map, option_map_or}
use Rattle.std.proofs.lemmas.List.{get_or-drop}
use Rattle.items.specs.Options.{◌>>=◌}
use Rattle.opcodes.specs.declared.op.Instr.{Instr}
use Rattle.link_resolution.proofs.Positions.{position_cons}
use Rattle.link_model.specs.declared.members.MethodCode.{MethodCode}
use Rattle.link_model.specs.declared.sites.Resolution.{Resolution}
use Rattle.link_model.specs.Decoded.{code_at}
use Rattle.link_model.specs.LookUps.{index_at, index_in}
use Rattle.link_model.specs.Sites.{plain}
use Rattle.link_model.specs.World.{World}
use Rattle.verify_types.specs.Environment.{Instruction, with_resolutions}
use Rattle.ref_model.specs.Fetch.{instruction_in}
use Rattle.runtime_program.specs.Instructions.{instruction_by}

-- ---- the instruction that is found, by its index

one_behind : (x : Instr) (is : List Instr) (ns : List Resolution) (o : Option ℕ)
    → instruction_by is (drop 1 ns) o ≡ instruction_by (x ∷ is) ns (option_map suc o)
one_behind x is ns None = refl
one_behind x is ns (Some k) =
    let next : 1 + k ≡ suc k = omega arith in
    ap (λ (n : Resolution). slice_get is k >>= λ y. Some (record { instr = y; resolution = n }))
    (get_or-drop 1 ns k plain ∙ ap (λ i. get_or ns i plain) next)

by_first : (b : Bool) (x : Instr) (is : List Instr) (ns : List Resolution) (found : Option Instruction) (o : Option ℕ)
    → found ≡ instruction_by is (drop 1 ns) o
    → cond b (Some (record { instr = x; resolution = get_or ns 0 plain })) found ≡ instruction_by (x ∷ is) ns (cond b (Some 0) (option_map suc o))
by_first true x is ns found o e = refl
by_first false x is ns found o e = e ∙ one_behind x is ns o

found_by : (pc : ℕ) (is : List Instr) (ns : List Resolution)
    → find (λ (i : Instruction). i.instr.pc == pc) (with_resolutions is ns) ≡ instruction_by is ns (position (λ (i : Instr). i.pc == pc) is)
found_by pc [] ns = refl
found_by pc (x ∷ is) ns =
    by_first (x.pc == pc) x is ns (find (λ (i : Instruction). i.instr.pc == pc) (with_resolutions is (drop 1 ns)))
    (position (λ (i : Instr). i.pc == pc) is) (found_by pc is (drop 1 ns))
    ∙ ap (instruction_by (x ∷ is) ns) (sym (position_cons (λ (i : Instr). i.pc == pc) x is))

index_is : (pc : ℕ) (code : MethodCode) (o : Option (Option MethodCode)) → option_and_then (λ c. c) o ≡ Some code
    → option_and_then (option_and_then (index_at pc)) o ≡ index_at pc code
index_is pc code None e = absurd cc
index_is pc code (Some None) e = absurd cc
index_is pc code (Some (Some d)) e = ap (λ (q : Option MethodCode). option_map_or (index_at pc) q None) e

-- the instruction at a pc of a method with code
pub instruction_is : (w : World) (method pc : ℕ) (code : MethodCode) → code_at w method ≡ Some code
    → instruction_by code.code (get_or w.resolutions method []) (index_in w.codes method pc) ≡ (code_at w method >>= instruction_in w method pc)
instruction_is w method pc code e =
    let resolutions = get_or w.resolutions method [] in
    ap (instruction_by code.code resolutions) (index_is pc code (slice_get w.codes method) e)
    ∙ sym (found_by pc code.code resolutions)
    ∙ sym (ap (λ (o : Option MethodCode). o >>= instruction_in w method pc) e)
