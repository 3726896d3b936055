use Rattle.std.proofs.Common.{subst, sym, ◌∙◌, ◌<◌}
use Rattle.thread_lists.specs.Lists.{count, list_at}
use Rattle.monitors.specs.Monitors.{IsWaiting, Monitors, monitor_of}
use Rattle.monitors.proofs.CallLaws as call
use Rattle.monitors.proofs.MonitorLaws.{in_use_is}
use Rattle.monitors.proofs.monitors.Monitors.leave_wait.Goals as goal

pub unreachable-requires : goal.unreachable-requires
unreachable-requires c =
    call.waiting_used c.self.inside c.args.o c.args.t (sym c.find.ensures ∙ c.in_default.is) (subst (λ (v : Monitors). IsWaiting c.args.t (monitor_of v c.args.o)) (sym c.self.view_is) c.requires)

pub move_last-requires-clause-held : goal.move_last-requires-clause-held
move_last-requires-clause-held c =
    subst (λ k. 0 < count c.args.t (list_at c.self.inside.lists.lists k)) (sym c.wait_list.ensures) (subst (IsWaiting c.args.t) (in_use_is c.self.inside c.args.o c.in-Some.kept (sym c.find.ensures ∙ c.in-Some.is)) (subst (λ (v : Monitors). IsWaiting c.args.t (monitor_of v c.args.o)) (sym c.self.view_is) c.requires))

pub invariant_of-self : goal.invariant_of-self
invariant_of-self c =
    (call.leave_wait_moves c.self.inside c.self.invariant c.args.o c.in-Some.kept (sym c.find.ensures ∙ c.in-Some.is) c.args.t c.move_last.new.self (c.move_last.ensures ∙ call.move_is c.self.inside.lists c.args.t _ _ _ _ c.wait_list.ensures c.entry_list.ensures)).kept

pub returns : goal.returns
returns c =
    rw (← c.self.view_is) (call.leave_wait_moves c.self.inside c.self.invariant c.args.o c.in-Some.kept (sym c.find.ensures ∙ c.in-Some.is) c.args.t c.move_last.new.self (c.move_last.ensures ∙ call.move_is c.self.inside.lists c.args.t _ _ _ _ c.wait_list.ensures c.entry_list.ensures)).becomes
