use Rattle.std.proofs.Common.{◌≡◌, drop}
use Rattle.items.specs.First.{first_in}
use Rattle.link_checks.specs.ConstantUses.{AreFine}
use Rattle.link_checks.specs.Firsts.{code_why}
use Rattle.link_checks.proofs.program.codes_fault.Given as goal

abbrev pub invariant-loop-method : goal.invariant-loop-method
invariant-loop-method l =
    AreFine l.namer.world.now l.namer.class l.namer.pool.now l.fine
    × (first_in (code_why l.namer.world.now l.namer.class l.namer.pool.now) l.methods ≡ first_in (code_why l.namer.world.now l.namer.class l.namer.pool.now) (drop l.method-index l.methods))
