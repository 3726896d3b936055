use Rattle.std.proofs.Common.{ap, is_none, not, set, subst, sym, ◌∙◌, ◌<◌, Some}
use Rattle.thread_lists.specs.Lists.{count, list_at, without}
use Rattle.monitors.specs.Monitors.{IsInLine, Monitor, Monitors, monitor_of}
use Rattle.monitors.proofs.CallLaws as call
use Rattle.monitors.proofs.MonitorLaws.{in_use_is}
use Rattle.monitors.proofs.monitors.Monitors.retake.Goals as goal

pub unreachable-requires : goal.unreachable-requires
unreachable-requires c =
    call.in_line_used c.self.inside c.args.o c.args.t (sym c.find.ensures ∙ c.in_default.is) (subst (λ (v : Monitors). IsInLine c.args.t (monitor_of v c.args.o)) (sym c.self.view_is) c.requires)

pub returns-then-taken-clause-taken : goal.returns-then-taken-clause-taken
returns-then-taken-clause-taken c =
    rw (← c.self.view_is) (sym (ap (λ (m : Monitor). is_none m.owner) (in_use_is c.self.inside c.args.o c.in-Some.kept (sym c.find.ensures ∙ c.in-Some.is)) ∙ call.is_none_of c.in-Some.kept.owner ∙ ap not (sym c.is_some-taken.ensures ∙ c.if-taken.true)))

pub remove-requires-clause-held : goal.remove-requires-clause-held
remove-requires-clause-held c =
    subst (λ k. 0 < count c.args.t (list_at c.self.inside.lists.lists k)) (sym c.entry_list.ensures) (subst (IsInLine c.args.t) (in_use_is c.self.inside c.args.o c.in-Some.kept (sym c.find.ensures ∙ c.in-Some.is)) (subst (λ (v : Monitors). IsInLine c.args.t (monitor_of v c.args.o)) (sym c.self.view_is) c.requires))

pub invariant_of-self : goal.invariant_of-self
invariant_of-self c =
    (call.retake_takes c.self.inside c.self.invariant c.args.o c.in-Some.kept (sym c.find.ensures ∙ c.in-Some.is) c.args.t c.args.count c.put.new.records c.remove.new.self (c.put.ensures.now ∙ ap Some c.owned_by.ensures) c.put.ensures.others c.put.ensures.len c.put.ensures.spare
    (c.remove.ensures ∙ ap (λ k. record c.self.inside.lists { lists = set c.self.inside.lists.lists k (without c.args.t (list_at c.self.inside.lists.lists k)) }) c.entry_list.ensures)).kept

pub returns-clause-taken : goal.returns-clause-taken
returns-clause-taken c =
    rw (← c.self.view_is) (sym (ap (λ (m : Monitor). is_none m.owner) (in_use_is c.self.inside c.args.o c.in-Some.kept (sym c.find.ensures ∙ c.in-Some.is)) ∙ call.is_none_of c.in-Some.kept.owner ∙ ap not (sym c.is_some-taken.ensures ∙ c.if-taken.false)))

pub returns-clause-yes : goal.returns-clause-yes
returns-clause-yes c =
    rw (← c.self.view_is) (call.retake_takes c.self.inside c.self.invariant c.args.o c.in-Some.kept (sym c.find.ensures ∙ c.in-Some.is) c.args.t c.args.count c.put.new.records c.remove.new.self (c.put.ensures.now ∙ ap Some c.owned_by.ensures) c.put.ensures.others c.put.ensures.len c.put.ensures.spare
    (c.remove.ensures ∙ ap (λ k. record c.self.inside.lists { lists = set c.self.inside.lists.lists k (without c.args.t (list_at c.self.inside.lists.lists k)) }) c.entry_list.ensures)).becomes
