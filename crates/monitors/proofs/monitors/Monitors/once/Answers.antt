use Rattle.monitors.proofs.OnceLaws.{apart_in, once_in, unowned_in, used_in}
use Rattle.monitors.proofs.monitors.Monitors.once.Goals as goal

pub returns-clause-once : goal.returns-clause-once
returns-clause-once c = rw (← c.self.view_is) (once_in c.self.inside c.self.invariant c.once.ensures.once)

pub returns-clause-apart : goal.returns-clause-apart
returns-clause-apart c = rw (← c.self.view_is) (apart_in c.self.inside c.self.invariant c.once.ensures.once)

pub returns-clause-used : goal.returns-clause-used
returns-clause-used c = rw (← c.self.view_is) (used_in c.self.inside c.self.invariant c.once.ensures.once c.len.ensures.unique)

pub returns-clause-unowned : goal.returns-clause-unowned
returns-clause-unowned c = rw (← c.self.view_is) (unowned_in c.self.inside)
