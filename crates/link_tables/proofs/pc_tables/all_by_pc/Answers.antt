use Rattle.std.proofs.Common.{◌≡◌, List, length, vec_len, rules, sym, subst, ◌∙◌, arith}
use Rattle.opcodes.specs.declared.op.Instr.{Instr}
use Rattle.link_numbers.specs.Decodings.{instrs_in}
use Rattle.link_tables.specs.PcTables.{IsByPc}
use Rattle.link_tables.proofs.PcLaws.{next_method}
use Rattle.link_tables.proofs.pc_tables.all_by_pc.Goals as goal

pub loop-code-preserved : goal.loop-code-preserved
loop-code-preserved c =
    let tables = c.loop-code.tables in
    let size : vec_len tables ≡ length tables.items = search rules in
    let table = c.in_ok-by_pc.field-0 in
    let one : IsByPc (instrs_in c.code-item.result) table = subst (λ (is : List Instr). IsByPc is table) c.instrs_in.ensures c.in_ok-by_pc.ensures in (
      next_method c.args.codes.now c.loop-code.code-index c.code-item.result tables.items c.push.new.self.items table c.loop-code-test.true
          c.code-item.is (sym size ∙ c.loop-code.invariant.1) c.loop-code.invariant.0 one c.in_ok-push.ensures.items,
      omega (arith, c.in_ok-push.ensures.len, c.loop-code.invariant.1),
    )
