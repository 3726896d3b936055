use Rattle.std.proofs.Common.{◌<◌, arith, nat_eq, length}
use Rattle.std.proofs.lemmas.Bool.Decides.{nat_tests}
use Rattle.std.proofs.lemmas.List.Folds.{list_any_at}
use Rattle.jvm_edges.proofs.list_clock.ListClockClock.now.Goals as goal

pub returns : goal.returns
returns c =
    let xs = c.self.inside.readings.items in
    let within : c.next_index.result < length xs = rw c.self.view_is c.next_index.ensures in
    rw (← c.self.view_is) (list_any_at (nat_eq c.index.result.now) xs c.next_index.result c.index.result.now within (grind (arith, nat_tests)))
