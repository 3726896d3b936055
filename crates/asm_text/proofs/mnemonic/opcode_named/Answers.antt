use Rattle.std.proofs.Common.{sym, ◌∙◌, eqb-true, arith}
use Rattle.asm_text.proofs.TableLaws.{index_none, index_some, index_below}
use Rattle.asm_text.proofs.mnemonic.opcode_named.Goals as goal

pub returns-then-is_empty : goal.returns-then-is_empty
returns-then-is_empty c = index_none c.mnemonics-rows.result.now c.mnemonics-rows.ensures c.args.name.now (eqb-true _ _ (sym c.if-is_empty.ensures))

pub returns-in_err-opcode : goal.returns-in_err-opcode
returns-in_err-opcode c =
    c.from_residual.ensures ∙ sym c.in_err-opcode.was ∙ c.index_of.ensures ∙ index_some c.mnemonics-rows.result.now c.mnemonics-rows.ensures c.args.name.now (sym c.if-is_empty.ensures)

pub returns : goal.returns
returns c =
    sym c.in_ok-opcode.was ∙ c.index_of.ensures ∙ index_some c.mnemonics-rows.result.now c.mnemonics-rows.ensures c.args.name.now (sym c.if-is_empty.ensures)

pub overflow_cast-result : goal.overflow_cast-result
overflow_cast-result c =
    let below = index_below c.mnemonics-rows.result.now c.mnemonics-rows.ensures c.args.name.now c.in_ok-opcode.opcode (sym c.index_of.ensures ∙ c.in_ok-opcode.was) in
    record { fits = omega (arith, below) }
