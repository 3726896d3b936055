use Rattle.std.proofs.Common.{ap, arith, sym, ◌∙◌, [], slice_get}
use Rattle.std.proofs.lemmas.Option.{slice_get_past}
use Rattle.thread_lists.specs.Lists.{list_at}
use Rattle.monitors.specs.Monitors.{Monitor}
use Rattle.monitors.proofs.MonitorLaws.{in_use_is, unused_is}
use Rattle.monitors.proofs.monitors.Monitors.waiter.Goals as goal

pub returns-in-Some : goal.returns-in-Some
returns-in-Some c =
    rw (← c.self.view_is) (c.get.ensures ∙ ap (λ k. slice_get (list_at c.self.inside.lists.lists k) c.args.i) c.wait_list.ensures ∙ sym (ap (λ (m : Monitor). slice_get m.wait_list c.args.i) (in_use_is c.self.inside c.args.o c.in-Some.kept (sym c.find.ensures ∙ c.in-Some.is))))

pub returns-in-None : goal.returns-in-None
returns-in-None c =
    rw (← c.self.view_is) (sym (ap (λ (m : Monitor). slice_get m.wait_list c.args.i) (unused_is c.self.inside c.args.o (sym c.find.ensures ∙ c.in-None.is)) ∙ slice_get_past [] c.args.i (omega arith)))
