use Rattle.std.proofs.Common.{ap, arith, subst, sym, ◌∙◌, ◌<◌, slice_get}
use Rattle.std.proofs.lemmas.Result.{err_from_is_err_and}
use Rattle.thread_lists.specs.Lists.{count, list_at}
use Rattle.thread_lists.proofs.CountLaws.{first-held, total-le}
use Rattle.monitors.specs.Monitors.{IsByOwner, Monitor, Monitors, monitor_of}
use Rattle.monitors.specs.Records.{wait_list_of}
use Rattle.monitors.proofs.CallLaws as call
use Rattle.monitors.proofs.MonitorLaws.{in_use_is}
use Rattle.monitors.proofs.monitors.Monitors.notify.Goals as goal

pub returns-in_err-kept-clause-owner : goal.returns-in_err-kept-clause-owner
returns-in_err-kept-clause-owner c =
    let p = err_from_is_err_and c.from_residual.result c.from_residual.ensures.1 in
    subst (λ (v : Monitors). IsByOwner c.from_residual.result (monitor_of v c.args.o).owner c.args.t) c.self.view_is
    (rw (p.1, p.2) (call.by_other c.self.inside c.args.o c.args.t c.in_err-kept.field-0.0.owner c.in_err-kept.ensures.refused c.in_err-kept.ensures.other))

pub returns-in_default-clause-owner : goal.returns-in_default-clause-owner
returns-in_default-clause-owner c =
    rw (← c.self.view_is) (ap (λ (m : Monitor). m.owner) (in_use_is c.self.inside c.args.o c.in_ok-kept.kept c.in_ok-kept.ensures.found) ∙ c.in_ok-kept.ensures.owner)

pub returns-in_default-clause-moved : goal.returns-in_default-clause-moved
returns-in_default-clause-moved c =
    rw (← c.self.view_is) (sym (ap (λ (m : Monitor). slice_get m.wait_list 0) (in_use_is c.self.inside c.args.o c.in_ok-kept.kept c.in_ok-kept.ensures.found) ∙ (sym c.first_waiter.ensures ∙ c.in_default.is)))

pub returns-in_default-clause-ok : goal.returns-in_default-clause-ok
returns-in_default-clause-ok c =
    rw (← c.self.view_is) (call.notify_none c.self.inside c.self.invariant c.args.o c.in_ok-kept.kept c.in_ok-kept.ensures.found (sym c.first_waiter.ensures ∙ c.in_default.is)).becomes

pub move_last-requires-clause-held : goal.move_last-requires-clause-held
move_last-requires-clause-held c =
    subst (λ k. 0 < count c.in-Some.waiter (list_at c.self.inside.lists.lists k)) (sym c.wait_list.ensures) (first-held (list_at c.self.inside.lists.lists (wait_list_of c.in_ok-kept.kept.pair)) c.in-Some.waiter (sym c.first_waiter.ensures ∙ c.in-Some.is))

pub invariant_of-self : goal.invariant_of-self
invariant_of-self c =
    (call.notify_moves c.self.inside c.self.invariant c.args.o c.in_ok-kept.kept c.in_ok-kept.ensures.found c.in-Some.waiter c.move_last.new.self (sym c.first_waiter.ensures ∙ c.in-Some.is) (omega (arith, c.once.ensures.once c.in-Some.waiter, total-le c.in-Some.waiter c.self.inside.lists.lists (wait_list_of c.in_ok-kept.kept.pair) (c.self.invariant.fits.inside c.args.o c.in_ok-kept.kept c.in_ok-kept.ensures.found)))
    (c.move_last.ensures ∙ call.move_is c.self.inside.lists c.in-Some.waiter _ _ _ _ c.wait_list.ensures c.entry_list.ensures)).kept

pub returns-clause-owner : goal.returns-clause-owner
returns-clause-owner c =
    rw (← c.self.view_is) (ap (λ (m : Monitor). m.owner) (in_use_is c.self.inside c.args.o c.in_ok-kept.kept c.in_ok-kept.ensures.found) ∙ c.in_ok-kept.ensures.owner)

pub returns-clause-moved : goal.returns-clause-moved
returns-clause-moved c =
    rw (← c.self.view_is) (sym (ap (λ (m : Monitor). slice_get m.wait_list 0) (in_use_is c.self.inside c.args.o c.in_ok-kept.kept c.in_ok-kept.ensures.found) ∙ (sym c.first_waiter.ensures ∙ c.in-Some.is)))

pub returns-clause-ok : goal.returns-clause-ok
returns-clause-ok c =
    rw (← c.self.view_is) (call.notify_moves c.self.inside c.self.invariant c.args.o c.in_ok-kept.kept c.in_ok-kept.ensures.found c.in-Some.waiter c.move_last.new.self (sym c.first_waiter.ensures ∙ c.in-Some.is) (omega (arith, c.once.ensures.once c.in-Some.waiter, total-le c.in-Some.waiter c.self.inside.lists.lists (wait_list_of c.in_ok-kept.kept.pair) (c.self.invariant.fits.inside c.args.o c.in_ok-kept.kept c.in_ok-kept.ensures.found)))
    (c.move_last.ensures ∙ call.move_is c.self.inside.lists c.in-Some.waiter _ _ _ _ c.wait_list.ensures c.entry_list.ensures)).becomes
