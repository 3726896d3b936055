use Rattle.std.proofs.Common.{ap, arith, subst, sym, ◌∙◌, [], ◌∷◌}
use Rattle.thread_lists.specs.Lists.{push}
use Rattle.monitors.specs.Monitors.{InNoList, Monitors}
use Rattle.monitors.proofs.CallLaws as call
use Rattle.monitors.proofs.MonitorLaws.{free_thread}
use Rattle.monitors.proofs.monitors.Monitors.line_up.Goals as goal

pub entry_list-requires : goal.entry_list-requires
entry_list-requires c =
    omega (arith, call.pair_inside c.self.inside c.self.invariant c.args.o c.take_pair-pair.result (sym c.find.ensures ∙ c.in_default.is) c.take_pair-pair.new.vacant c.take_pair-pair.ensures.items c.take_pair-pair.ensures.len c.take_pair-pair.ensures.capacity, c.once.ensures.few_lists)

pub push-requires-clause-list : goal.push-requires-clause-list
push-requires-clause-list c =
    omega (arith, call.pair_inside c.self.inside c.self.invariant c.args.o c.take_pair-pair.result (sym c.find.ensures ∙ c.in_default.is) c.take_pair-pair.new.vacant c.take_pair-pair.ensures.items c.take_pair-pair.ensures.len c.take_pair-pair.ensures.capacity, c.entry_list.ensures)

pub push-requires-clause-free : goal.push-requires-clause-free
push-requires-clause-free c =
    free_thread c.self.inside c.self.invariant c.args.t (subst (λ (v : Monitors). InNoList v c.args.t) (sym c.self.view_is) c.requires.free)

pub invariant_of-self : goal.invariant_of-self
invariant_of-self c =
    (call.line_up_opens c.self.inside c.self.invariant c.args.o c.take_pair-pair.result (sym c.find.ensures ∙ c.in_default.is) c.take_pair-pair.new.vacant c.take_pair-pair.ensures.items c.take_pair-pair.ensures.len c.take_pair-pair.ensures.capacity c.args.t c.put.new.records c.push.new.self c.put.ensures.now c.put.ensures.others c.put.ensures.len c.put.ensures.spare (c.push.ensures ∙ ap (λ k. record c.self.inside.lists { lists = push c.self.inside.lists.lists k (c.args.t ∷ []) }) c.entry_list.ensures)).kept

pub returns-in_default : goal.returns-in_default
returns-in_default c =
    rw (← c.self.view_is) (call.line_up_opens c.self.inside c.self.invariant c.args.o c.take_pair-pair.result (sym c.find.ensures ∙ c.in_default.is) c.take_pair-pair.new.vacant c.take_pair-pair.ensures.items c.take_pair-pair.ensures.len c.take_pair-pair.ensures.capacity c.args.t c.put.new.records c.push.new.self c.put.ensures.now c.put.ensures.others c.put.ensures.len c.put.ensures.spare (c.push.ensures ∙ ap (λ k. record c.self.inside.lists { lists = push c.self.inside.lists.lists k (c.args.t ∷ []) }) c.entry_list.ensures)).becomes

pub push-requires-2-clause-free : goal.push-requires-2-clause-free
push-requires-2-clause-free c =
    free_thread c.self.inside c.self.invariant c.args.t (subst (λ (v : Monitors). InNoList v c.args.t) (sym c.self.view_is) c.requires.free)

pub invariant_of-self-2 : goal.invariant_of-self-2
invariant_of-self-2 c =
    (call.line_up_adds c.self.inside c.self.invariant c.args.o c.in-Some.kept (sym c.find.ensures ∙ c.in-Some.is) c.args.t c.push-2.new.self (c.push-2.ensures ∙ ap (λ k. record c.self.inside.lists { lists = push c.self.inside.lists.lists k (c.args.t ∷ []) }) c.entry_list-2.ensures)).kept

pub returns : goal.returns
returns c =
    rw (← c.self.view_is) (call.line_up_adds c.self.inside c.self.invariant c.args.o c.in-Some.kept (sym c.find.ensures ∙ c.in-Some.is) c.args.t c.push-2.new.self (c.push-2.ensures ∙ ap (λ k. record c.self.inside.lists { lists = push c.self.inside.lists.lists k (c.args.t ∷ []) }) c.entry_list-2.ensures)).becomes
