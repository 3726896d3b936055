use Rattle.std.proofs.Common.{ap, subst, sym, ◌∙◌, Some, [], ◌∷◌, slice_get}
use Rattle.std.proofs.lemmas.Result.{err_from_is_err_and}
use Rattle.thread_lists.specs.Lists.{push}
use Rattle.monitors.specs.Monitors.{InNoList, IsByOwner, Monitor, Monitors, monitor_of}
use Rattle.monitors.proofs.CallLaws as call
use Rattle.monitors.proofs.MonitorLaws.{free_thread, in_use_is}
use Rattle.monitors.proofs.monitors.Monitors.wait.Goals as goal

pub returns-in_err-kept-clause-owner : goal.returns-in_err-kept-clause-owner
returns-in_err-kept-clause-owner c =
    let p = err_from_is_err_and c.from_residual.result c.from_residual.ensures.1 in
    subst (λ (v : Monitors). IsByOwner c.from_residual.result (monitor_of v c.args.o).owner c.args.t) c.self.view_is
    (rw (p.1, p.2) (call.by_other c.self.inside c.args.o c.args.t c.in_err-kept.field-0.0.owner c.in_err-kept.ensures.refused c.in_err-kept.ensures.other))

pub push-requires-clause-free : goal.push-requires-clause-free
push-requires-clause-free c =
    free_thread c.self.inside c.self.invariant c.args.t (subst (λ (v : Monitors). InNoList v c.args.t) (sym c.self.view_is) c.requires.free)

pub invariant_of-self : goal.invariant_of-self
invariant_of-self c =
    (call.wait_leaves c.self.inside c.self.invariant c.args.o c.in_ok-kept.kept c.in_ok-kept.ensures.found c.args.t c.put.new.records c.push.new.self (c.put.ensures.now ∙ ap Some c.without_owner.ensures) c.put.ensures.others c.put.ensures.len c.put.ensures.spare (c.push.ensures ∙ ap (λ k. record c.self.inside.lists { lists = push c.self.inside.lists.lists k (c.args.t ∷ []) }) c.wait_list.ensures)).kept

pub returns-clause-owner : goal.returns-clause-owner
returns-clause-owner c =
    rw (← c.self.view_is) (ap (λ (m : Monitor). m.owner) (in_use_is c.self.inside c.args.o c.in_ok-kept.kept c.in_ok-kept.ensures.found) ∙ c.in_ok-kept.ensures.owner)

pub returns-clause-count : goal.returns-clause-count
returns-clause-count c =
    rw (← c.self.view_is) (c.count.ensures ∙ sym (ap (λ (m : Monitor). m.count) (in_use_is c.self.inside c.args.o c.in_ok-kept.kept c.in_ok-kept.ensures.found)))

pub returns-clause-woken : goal.returns-clause-woken
returns-clause-woken c =
    rw (← c.self.view_is) (c.first_in_line-next.ensures ∙ sym (ap (λ (m : Monitor). slice_get m.entry_list 0) (in_use_is c.self.inside c.args.o c.in_ok-kept.kept c.in_ok-kept.ensures.found)))

pub returns-clause-ok : goal.returns-clause-ok
returns-clause-ok c =
    rw (← c.self.view_is) (call.wait_leaves c.self.inside c.self.invariant c.args.o c.in_ok-kept.kept c.in_ok-kept.ensures.found c.args.t c.put.new.records c.push.new.self (c.put.ensures.now ∙ ap Some c.without_owner.ensures) c.put.ensures.others c.put.ensures.len c.put.ensures.spare (c.push.ensures ∙ ap (λ k. record c.self.inside.lists { lists = push c.self.inside.lists.lists k (c.args.t ∷ []) }) c.wait_list.ensures)).becomes
