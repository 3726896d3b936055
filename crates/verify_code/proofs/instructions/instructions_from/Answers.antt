use Rattle.std.proofs.Common.{Bool, ltb, rules, ap, ◌∙◌}
use Rattle.std.specs.Prelude.{drop}
use Rattle.std.proofs.lemmas.List.Sorted.{IsPartitionPoint-from_clause, IsPartitionedBy-ltb}
use Rattle.opcodes.specs.declared.op.Instr.{Instr}
use Rattle.verify_frames.proofs.Prefixes.{partition_is}
use Rattle.verify_frames.proofs.Rising.{rises_far}
use Rattle.verify_code.proofs.instructions.instructions_from.Goals as goal

pub returns : goal.returns
returns c =
    let xs = c.args.code.now in
    let test : Instr → Bool = λ i. ltb i.pc c.args.pc in
    let facts = c.partition_point-n.ensures in
    let point = IsPartitionPoint-from_clause test xs c.partition_point-n.result facts.partitioned (IsPartitionedBy-ltb (λ (i : Instr). i.pc) xs c.args.pc (rises_far (λ (i : Instr). i.pc) 0 xs c.requires)) (λ a r f called. search rules) in
    c.split_at.ensures.back ∙ ap (λ n. drop n xs) (partition_is test xs c.partition_point-n.result facts.bound point)
