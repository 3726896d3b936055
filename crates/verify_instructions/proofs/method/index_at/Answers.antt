use Rattle.std.proofs.Common.{length, rules, sym, ap, ◌∙◌}
use Rattle.std.proofs.lemmas.Bool.{ltb-true}
use Rattle.std.proofs.lemmas.List.Sorted.{IsPartitionPoint-from_clause, IsPartitionedBy-ltb}
use Rattle.opcodes.specs.declared.op.Instr.{Instr}
use Rattle.verify_instructions.proofs.NewLaws.{Before, IsFirst, first_found, first_none, first_past}
use Rattle.verify_instructions.proofs.method.index_at.Goals as goal

pub returns-in_default : goal.returns-in_default
returns-in_default c =
    let code = c.args.code.now in
    let facts = c.partition_point-n.ensures in
    let point : IsFirst c.args.pc code c.partition_point-n.result = IsPartitionPoint-from_clause (Before c.args.pc) code c.partition_point-n.result facts.partitioned (IsPartitionedBy-ltb (λ (i : Instr). i.pc) code c.args.pc c.requires) (λ a r f called. search rules) in
    first_past c.args.pc c.partition_point-n.result code c.requires point c.in_default.ensures.lookup.3

pub returns-then-i-pc : goal.returns-then-i-pc
returns-then-i-pc c =
    let code = c.args.code.now in
    let i = c.in-Some.i.now in
    let facts = c.partition_point-n.ensures in
    let point : IsFirst c.args.pc code c.partition_point-n.result = IsPartitionPoint-from_clause (Before c.args.pc) code c.partition_point-n.result facts.partitioned (IsPartitionedBy-ltb (λ (i : Instr). i.pc) code c.args.pc c.requires) (λ a r f called. search rules) in
    first_found c.args.pc c.partition_point-n.result code i point (ltb-true c.partition_point-n.result (length code) (sym c.in-Some.ensures.lookup.0)) (ap (λ (x : Instr). x.pc) (sym c.in-Some.ensures.lookup.1) ∙ c.if-i-pc.true)

pub returns-else-i-pc : goal.returns-else-i-pc
returns-else-i-pc c =
    let code = c.args.code.now in
    let i = c.in-Some.i.now in
    let facts = c.partition_point-n.ensures in
    let point : IsFirst c.args.pc code c.partition_point-n.result = IsPartitionPoint-from_clause (Before c.args.pc) code c.partition_point-n.result facts.partitioned (IsPartitionedBy-ltb (λ (i : Instr). i.pc) code c.args.pc c.requires) (λ a r f called. search rules) in
    first_none c.args.pc c.partition_point-n.result code i c.requires point (λ low same. c.if-i-pc.false (ap (λ (x : Instr). x.pc) c.in-Some.ensures.lookup.1 ∙ same))
