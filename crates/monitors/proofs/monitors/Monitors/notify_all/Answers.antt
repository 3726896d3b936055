use Rattle.std.proofs.Common.{ap, length, subst, sym, ◌∙◌}
use Rattle.std.proofs.lemmas.Result.{err_from_is_err_and}
use Rattle.thread_lists.specs.Lists.{list_at}
use Rattle.monitors.specs.Monitors.{IsByOwner, Monitor, Monitors, monitor_of}
use Rattle.monitors.proofs.CallLaws as call
use Rattle.monitors.proofs.MonitorLaws.{in_use_is}
use Rattle.monitors.proofs.monitors.Monitors.notify_all.Goals as goal

pub returns-in_err-kept-clause-owner : goal.returns-in_err-kept-clause-owner
returns-in_err-kept-clause-owner c =
    let p = err_from_is_err_and c.from_residual.result c.from_residual.ensures.1 in
    subst (λ (v : Monitors). IsByOwner c.from_residual.result (monitor_of v c.args.o).owner c.args.t) c.self.view_is
    (rw (p.1, p.2) (call.by_other c.self.inside c.args.o c.args.t c.in_err-kept.field-0.0.owner c.in_err-kept.ensures.refused c.in_err-kept.ensures.other))

pub invariant_of-self : goal.invariant_of-self
invariant_of-self c =
    (call.notify_all_moves c.self.inside c.self.invariant c.args.o c.in_ok-kept.kept c.in_ok-kept.ensures.found c.args.t c.append.new.self c.in_ok-kept.ensures.owner (c.append.ensures ∙ call.append_is c.self.inside.lists _ _ _ _ c.wait_list-2.ensures c.entry_list.ensures)).kept

pub returns-clause-owner : goal.returns-clause-owner
returns-clause-owner c =
    rw (← c.self.view_is) (ap (λ (m : Monitor). m.owner) (in_use_is c.self.inside c.args.o c.in_ok-kept.kept c.in_ok-kept.ensures.found) ∙ c.in_ok-kept.ensures.owner)

pub returns-clause-moved : goal.returns-clause-moved
returns-clause-moved c =
    rw (← c.self.view_is) (c.len-count.ensures ∙ ap (λ k. length (list_at c.self.inside.lists.lists k)) c.wait_list.ensures ∙ sym (ap (λ (m : Monitor). length m.wait_list) (in_use_is c.self.inside c.args.o c.in_ok-kept.kept c.in_ok-kept.ensures.found)))

pub returns-clause-ok : goal.returns-clause-ok
returns-clause-ok c =
    rw (← c.self.view_is) (call.notify_all_moves c.self.inside c.self.invariant c.args.o c.in_ok-kept.kept c.in_ok-kept.ensures.found c.args.t c.append.new.self c.in_ok-kept.ensures.owner (c.append.ensures ∙ call.append_is c.self.inside.lists _ _ _ _ c.wait_list-2.ensures c.entry_list.ensures)).becomes
