use Rattle.std.proofs.Common.{List, Option, sym, subst}
use Rattle.link_checks.specs.declared.constant_uses.Use.{Use}
use Rattle.link_checks.specs.ConstantUses.{AreFine}
use Rattle.link_checks.proofs.ConstantUseLaws.{noted}
use Rattle.link_checks.proofs.constant_uses.known_fault.Goals as goal

pub returns-clause-fine : goal.returns-clause-fine
returns-clause-fine c =
    let n = c.args.namer in
    subst (λ (fine : List (Option Use)). AreFine n.world.now n.class n.pool.now fine) (sym c.note.ensures) (noted n.world.now n.class n.pool.now c.args.fine.now c.in_ok-fault.fault c.args.wanted c.args.index c.requires c.in_ok-fault.ensures)
