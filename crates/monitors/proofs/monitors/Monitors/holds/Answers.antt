use Rattle.monitors.proofs.CallLaws as call
use Rattle.monitors.proofs.monitors.Monitors.holds.Goals as goal

pub returns : goal.returns
returns c =
    rw (← c.self.view_is) (call.holds_is c.self.inside c.self.invariant c.args.t c.holds.result c.holds.ensures)
