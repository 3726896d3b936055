use Rattle.std.proofs.Common.{ap, sym, ◌∙◌}
use Rattle.monitors.specs.Monitors.{Monitor}
use Rattle.monitors.proofs.MonitorLaws.{in_use_is, unused_is}
use Rattle.monitors.proofs.monitors.Monitors.count.Goals as goal

pub returns-in-Some : goal.returns-in-Some
returns-in-Some c =
    rw (← c.self.view_is) (c.count.ensures ∙ sym (ap (λ (m : Monitor). m.count) (in_use_is c.self.inside c.args.o c.in-Some.kept (sym c.find.ensures ∙ c.in-Some.is))))

pub returns-in-None : goal.returns-in-None
returns-in-None c =
    rw (← c.self.view_is) (sym (ap (λ (m : Monitor). m.count) (unused_is c.self.inside c.args.o (sym c.find.ensures ∙ c.in-None.is))))
