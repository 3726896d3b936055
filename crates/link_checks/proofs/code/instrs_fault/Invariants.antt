use Rattle.std.proofs.Common.{◌≡◌, drop}
use Rattle.items.specs.First.{first_in}
use Rattle.link_checks.specs.ConstantUses.{AreFine}
use Rattle.link_checks.specs.Firsts.{instr_why}
use Rattle.link_checks.proofs.code.instrs_fault.Given as goal

abbrev pub invariant-loop-instr : goal.invariant-loop-instr
invariant-loop-instr l =
    AreFine l.namer.world.now l.namer.class l.namer.pool.now l.fine
    × (first_in (instr_why l.namer.world.now l.namer.class l.namer.pool.now) l.instrs ≡ first_in (instr_why l.namer.world.now l.namer.class l.namer.pool.now) (drop l.instr-index l.instrs))
