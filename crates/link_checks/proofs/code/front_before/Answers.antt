use Rattle.std.proofs.Common.{true, List, sym, ap, ◌∙◌}
use Rattle.opcodes.specs.declared.op.Instr.{Instr}
use Rattle.link_rules.specs.Faults.{Decoded}
use Rattle.link_checks.proofs.DecodedLaws.{front, front_code}
use Rattle.link_checks.proofs.code.front_before.Goals as goal

pub returns-in-Ok-clause-front : goal.returns-in-Ok-clause-front
returns-in-Ok-clause-front c =
    let bad = c.requires.bad.1 in
    let same = c.in-Ok.ensures.only bad.front (front_code 0 c.args.code.now bad.front bad.rest c.args.pc bad.before bad.at) in
    front c.args.code.now c.args.pc c.requires.bad.0 bad ∙ ap (λ (is : List Instr). let d : Decoded = record { instrs = is; is_bad = true } in d) (sym same)
