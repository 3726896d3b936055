use Rattle.std.proofs.Common.{ap, if◌then◌else◌, subst, sym, ◌∙◌, ◌+◌, ◌<◌, Bool, [], ◌∷◌}
use Rattle.thread_lists.specs.Lists.{push}
use Rattle.monitors.specs.declared.monitors.Enter.TheVariants.{Blocked, Got}
use Rattle.monitors.specs.Monitors.{InNoList, Monitor, Monitors, is_taken, monitor_of}
use Rattle.monitors.proofs.CallLaws.{count_fits, enter_blocks, enter_opens, enter_takes}
use Rattle.monitors.proofs.MonitorLaws.{free_thread, in_use_is, unused_is}
use Rattle.monitors.proofs.monitors.Monitors.enter.Goals as goal

pub enter_record-requires-clause-count : goal.enter_record-requires-clause-count
enter_record-requires-clause-count c =
    count_fits c.self.inside c.args.o (subst (λ (v : Monitors). (monitor_of v c.args.o).count + 1 < 4294967296) (sym c.self.view_is) c.requires.count)

pub invariant_of-self : goal.invariant_of-self
invariant_of-self c =
    let n = c.in_default.ensures.opened in
    (enter_opens c.self.inside c.self.invariant c.args.o n.pair (sym c.enter_record.ensures.was ∙ c.in_default.is) c.enter_record.new.vacant n.items n.len n.capacity c.args.t c.enter_record.new.records n.now c.enter_record.ensures.others c.enter_record.ensures.len c.enter_record.ensures.spare).kept

pub returns-in_default-clause-entered : goal.returns-in_default-clause-entered
returns-in_default-clause-entered c =
    rw (← c.self.view_is) (ap (λ (m : Monitor). if is_taken m.owner c.args.t then Blocked else Got) (sym (unused_is c.self.inside c.args.o (sym c.enter_record.ensures.was ∙ c.in_default.is))))

pub returns-in_default-clause-monitor : goal.returns-in_default-clause-monitor
returns-in_default-clause-monitor c =
    let n = c.in_default.ensures.opened in
    rw (← c.self.view_is) (enter_opens c.self.inside c.self.invariant c.args.o n.pair (sym c.enter_record.ensures.was ∙ c.in_default.is) c.enter_record.new.vacant n.items n.len n.capacity c.args.t c.enter_record.new.records n.now c.enter_record.ensures.others c.enter_record.ensures.len c.enter_record.ensures.spare).becomes

pub push-requires-clause-free : goal.push-requires-clause-free
push-requires-clause-free c =
    free_thread c.self.inside c.self.invariant c.args.t (subst (λ (v : Monitors). InNoList v c.args.t) (sym c.self.view_is) c.requires.free)

pub invariant_of-self-then-is_taken : goal.invariant_of-self-then-is_taken
invariant_of-self-then-is_taken c =
    (enter_blocks c.self.inside c.self.invariant c.args.o c.in-Some.kept (sym c.enter_record.ensures.was ∙ c.in-Some.is) c.args.t c.enter_record.new.records c.enter_record.new.vacant c.push.new.self (sym c.is_taken.ensures ∙ c.if-is_taken.true) c.in-Some.ensures.now c.enter_record.ensures.others c.enter_record.ensures.len c.enter_record.ensures.spare c.in-Some.ensures.vacant
    (c.push.ensures ∙ ap (λ k. record c.self.inside.lists { lists = push c.self.inside.lists.lists k (c.args.t ∷ []) }) c.entry_list.ensures)).kept

pub returns-then-is_taken-clause-entered : goal.returns-then-is_taken-clause-entered
returns-then-is_taken-clause-entered c =
    rw (← c.self.view_is)
    (sym (ap (λ (m : Monitor). if is_taken m.owner c.args.t then Blocked else Got) (in_use_is c.self.inside c.args.o c.in-Some.kept (sym c.enter_record.ensures.was ∙ c.in-Some.is))
    ∙ ap (λ (b : Bool). if b then Blocked else Got) (sym c.is_taken.ensures ∙ c.if-is_taken.true)))

pub returns-then-is_taken-clause-monitor : goal.returns-then-is_taken-clause-monitor
returns-then-is_taken-clause-monitor c =
    rw (← c.self.view_is) (enter_blocks c.self.inside c.self.invariant c.args.o c.in-Some.kept (sym c.enter_record.ensures.was ∙ c.in-Some.is) c.args.t c.enter_record.new.records c.enter_record.new.vacant c.push.new.self (sym c.is_taken.ensures ∙ c.if-is_taken.true) c.in-Some.ensures.now c.enter_record.ensures.others c.enter_record.ensures.len c.enter_record.ensures.spare c.in-Some.ensures.vacant
    (c.push.ensures ∙ ap (λ k. record c.self.inside.lists { lists = push c.self.inside.lists.lists k (c.args.t ∷ []) }) c.entry_list.ensures)).becomes

pub invariant_of-self-else-is_taken : goal.invariant_of-self-else-is_taken
invariant_of-self-else-is_taken c =
    (enter_takes c.self.inside c.self.invariant c.args.o c.in-Some.kept (sym c.enter_record.ensures.was ∙ c.in-Some.is) c.args.t c.enter_record.new.records c.enter_record.new.vacant (sym c.is_taken.ensures ∙ c.if-is_taken.false) c.in-Some.ensures.now c.enter_record.ensures.others c.enter_record.ensures.len c.enter_record.ensures.spare c.in-Some.ensures.vacant).kept

pub returns-clause-entered : goal.returns-clause-entered
returns-clause-entered c =
    rw (← c.self.view_is)
    (sym (ap (λ (m : Monitor). if is_taken m.owner c.args.t then Blocked else Got) (in_use_is c.self.inside c.args.o c.in-Some.kept (sym c.enter_record.ensures.was ∙ c.in-Some.is))
    ∙ ap (λ (b : Bool). if b then Blocked else Got) (sym c.is_taken.ensures ∙ c.if-is_taken.false)))

pub returns-clause-monitor : goal.returns-clause-monitor
returns-clause-monitor c =
    rw (← c.self.view_is) (enter_takes c.self.inside c.self.invariant c.args.o c.in-Some.kept (sym c.enter_record.ensures.was ∙ c.in-Some.is) c.args.t c.enter_record.new.records c.enter_record.new.vacant (sym c.is_taken.ensures ∙ c.if-is_taken.false) c.in-Some.ensures.now c.enter_record.ensures.others c.enter_record.ensures.len c.enter_record.ensures.spare c.in-Some.ensures.vacant).becomes
