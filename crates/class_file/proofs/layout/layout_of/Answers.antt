use Rattle.std.proofs.Common.{ap, arith}
use Rattle.std.specs.List.{sum_by}
use Rattle.class_checks.specs.Costs.{judging, adding}
use Rattle.class_file.proofs.layout.layout_of.Goals as goal

pub returns-clause-rest : goal.returns-clause-rest
returns-clause-rest g c =
    let same = c.in_ok-file.ensures.pool in
    omega (arith, ap (sum_by judging) same, ap (sum_by adding) same, c.in_ok-version.ensures.size, c.in_ok-pool.ensures.rest, c.in_ok-file.ensures.rest)
