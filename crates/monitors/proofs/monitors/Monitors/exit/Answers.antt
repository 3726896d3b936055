use Rattle.std.proofs.Common.{ap, arith, if◌then◌else◌, subst, sym, ◌∙◌, Bool, None, slice_get}
use Rattle.std.proofs.lemmas.Bool.{le-ltb, lt-ltb}
use Rattle.std.proofs.lemmas.Result.{err_from_is_err_and}
use Rattle.thread_lists.specs.Lists.{list_at}
use Rattle.monitors.specs.Monitors.{IsByOwner, Monitor, Monitors, monitor_of, woken_by_exit}
use Rattle.monitors.specs.Records.{count_of, entry_list_of, wait_list_of}
use Rattle.monitors.proofs.CallLaws as call
use Rattle.monitors.proofs.MonitorLaws.{in_use_is}
use Rattle.monitors.proofs.monitors.Monitors.exit.Goals as goal

pub invariant_of-self : goal.invariant_of-self
invariant_of-self c =
    call.same_entries c.self.inside c.leave_record.new.records c.self.invariant c.in_err-kept.ensures.err

pub returns-in_err-kept-clause-owner : goal.returns-in_err-kept-clause-owner
returns-in_err-kept-clause-owner c =
    let p = err_from_is_err_and c.from_residual.result c.from_residual.ensures.1 in
    subst (λ (v : Monitors). IsByOwner c.from_residual.result (monitor_of v c.args.o).owner c.args.t) c.self.view_is
    (rw (p.1, p.2) (call.by_other c.self.inside c.args.o c.args.t c.in_err-kept.field-0.0.owner c.in_err-kept.ensures.refused c.in_err-kept.ensures.other))

pub invariant_of-self-then-count-gt1 : goal.invariant_of-self-then-count-gt1
invariant_of-self-then-count-gt1 c =
    (call.exit_lowers c.self.inside c.self.invariant c.args.o c.in_ok-kept.kept c.in_ok-kept.ensures.found c.args.t c.leave_record.new.records c.in_ok-kept.ensures.owner (lt-ltb 1 (count_of c.in_ok-kept.kept.owner) (omega (arith, c.count.ensures, c.if-count-gt1.true))) c.in_ok-kept.ensures.now c.in_ok-kept.ensures.others c.in_ok-kept.ensures.len c.in_ok-kept.ensures.spare).kept

pub returns-then-count-gt1-clause-owner : goal.returns-then-count-gt1-clause-owner
returns-then-count-gt1-clause-owner c =
    rw (← c.self.view_is) (ap (λ (m : Monitor). m.owner) (in_use_is c.self.inside c.args.o c.in_ok-kept.kept c.in_ok-kept.ensures.found) ∙ c.in_ok-kept.ensures.owner)

pub returns-then-count-gt1-clause-woken : goal.returns-then-count-gt1-clause-woken
returns-then-count-gt1-clause-woken c =
    rw (← c.self.view_is) (sym (ap woken_by_exit (in_use_is c.self.inside c.args.o c.in_ok-kept.kept c.in_ok-kept.ensures.found) ∙ ap (λ (b : Bool). if b then None else slice_get (list_at c.self.inside.lists.lists (entry_list_of c.in_ok-kept.kept.pair)) 0) (lt-ltb 1 (count_of c.in_ok-kept.kept.owner) (omega (arith, c.count.ensures, c.if-count-gt1.true)))))

pub returns-then-count-gt1-clause-ok : goal.returns-then-count-gt1-clause-ok
returns-then-count-gt1-clause-ok c =
    rw (← c.self.view_is) (call.exit_lowers c.self.inside c.self.invariant c.args.o c.in_ok-kept.kept c.in_ok-kept.ensures.found c.args.t c.leave_record.new.records c.in_ok-kept.ensures.owner (lt-ltb 1 (count_of c.in_ok-kept.kept.owner) (omega (arith, c.count.ensures, c.if-count-gt1.true))) c.in_ok-kept.ensures.now c.in_ok-kept.ensures.others c.in_ok-kept.ensures.len c.in_ok-kept.ensures.spare).becomes

pub push_reserved-requires : goal.push_reserved-requires
push_reserved-requires c =
    call.vacant_has_room c.self.inside c.self.invariant c.args.o c.in_ok-kept.kept c.in_ok-kept.ensures.found

pub invariant_of-self-then-is_deserted : goal.invariant_of-self-then-is_deserted
invariant_of-self-then-is_deserted c =
    (call.exit_closes c.self.inside c.self.invariant c.args.o c.in_ok-kept.kept c.in_ok-kept.ensures.found c.leave_record.new.records c.drop_record.new.records c.push_reserved.new.self (le-ltb 1 (count_of c.in_ok-kept.kept.owner) (omega (arith, c.count.ensures, c.if-count-gt1.false))) (sym c.is_deserted.ensures ∙ c.if-is_deserted.true) c.in_ok-kept.ensures.now c.in_ok-kept.ensures.others c.in_ok-kept.ensures.len c.in_ok-kept.ensures.spare c.drop_record.ensures.now c.drop_record.ensures.others c.drop_record.ensures.len c.drop_record.ensures.spare c.push_reserved.ensures.items c.push_reserved.ensures.len c.push_reserved.ensures.capacity).kept

pub returns-then-is_deserted-clause-owner : goal.returns-then-is_deserted-clause-owner
returns-then-is_deserted-clause-owner c =
    rw (← c.self.view_is) (ap (λ (m : Monitor). m.owner) (in_use_is c.self.inside c.args.o c.in_ok-kept.kept c.in_ok-kept.ensures.found) ∙ c.in_ok-kept.ensures.owner)

pub returns-then-is_deserted-clause-woken : goal.returns-then-is_deserted-clause-woken
returns-then-is_deserted-clause-woken c =
    rw (← c.self.view_is) (sym (ap woken_by_exit (in_use_is c.self.inside c.args.o c.in_ok-kept.kept c.in_ok-kept.ensures.found) ∙ ap (λ (b : Bool). if b then None else slice_get (list_at c.self.inside.lists.lists (entry_list_of c.in_ok-kept.kept.pair)) 0) (le-ltb 1 (count_of c.in_ok-kept.kept.owner) (omega (arith, c.count.ensures, c.if-count-gt1.false))) ∙ ap (λ xs. slice_get xs 0) (call.empty_first (list_at c.self.inside.lists.lists (entry_list_of c.in_ok-kept.kept.pair)) (list_at c.self.inside.lists.lists (wait_list_of c.in_ok-kept.kept.pair)) (sym c.is_deserted.ensures ∙ c.if-is_deserted.true))))

pub returns-then-is_deserted-clause-ok : goal.returns-then-is_deserted-clause-ok
returns-then-is_deserted-clause-ok c =
    rw (← c.self.view_is) (call.exit_closes c.self.inside c.self.invariant c.args.o c.in_ok-kept.kept c.in_ok-kept.ensures.found c.leave_record.new.records c.drop_record.new.records c.push_reserved.new.self (le-ltb 1 (count_of c.in_ok-kept.kept.owner) (omega (arith, c.count.ensures, c.if-count-gt1.false))) (sym c.is_deserted.ensures ∙ c.if-is_deserted.true) c.in_ok-kept.ensures.now c.in_ok-kept.ensures.others c.in_ok-kept.ensures.len c.in_ok-kept.ensures.spare c.drop_record.ensures.now c.drop_record.ensures.others c.drop_record.ensures.len c.drop_record.ensures.spare c.push_reserved.ensures.items c.push_reserved.ensures.len c.push_reserved.ensures.capacity).becomes

pub invariant_of-self-2 : goal.invariant_of-self-2
invariant_of-self-2 c =
    (call.exit_leaves c.self.inside c.self.invariant c.args.o c.in_ok-kept.kept c.in_ok-kept.ensures.found c.args.t c.leave_record.new.records c.in_ok-kept.ensures.owner (le-ltb 1 (count_of c.in_ok-kept.kept.owner) (omega (arith, c.count.ensures, c.if-count-gt1.false))) (sym c.is_deserted.ensures ∙ c.if-is_deserted.false) c.in_ok-kept.ensures.now c.in_ok-kept.ensures.others c.in_ok-kept.ensures.len c.in_ok-kept.ensures.spare).kept

pub returns-clause-owner : goal.returns-clause-owner
returns-clause-owner c =
    rw (← c.self.view_is) (ap (λ (m : Monitor). m.owner) (in_use_is c.self.inside c.args.o c.in_ok-kept.kept c.in_ok-kept.ensures.found) ∙ c.in_ok-kept.ensures.owner)

pub returns-clause-woken : goal.returns-clause-woken
returns-clause-woken c =
    rw (← c.self.view_is) (c.first_in_line.ensures ∙ sym (ap woken_by_exit (in_use_is c.self.inside c.args.o c.in_ok-kept.kept c.in_ok-kept.ensures.found) ∙ ap (λ (b : Bool). if b then None else slice_get (list_at c.self.inside.lists.lists (entry_list_of c.in_ok-kept.kept.pair)) 0) (le-ltb 1 (count_of c.in_ok-kept.kept.owner) (omega (arith, c.count.ensures, c.if-count-gt1.false)))))

pub returns-clause-ok : goal.returns-clause-ok
returns-clause-ok c =
    rw (← c.self.view_is) (call.exit_leaves c.self.inside c.self.invariant c.args.o c.in_ok-kept.kept c.in_ok-kept.ensures.found c.args.t c.leave_record.new.records c.in_ok-kept.ensures.owner (le-ltb 1 (count_of c.in_ok-kept.kept.owner) (omega (arith, c.count.ensures, c.if-count-gt1.false))) (sym c.is_deserted.ensures ∙ c.if-is_deserted.false) c.in_ok-kept.ensures.now c.in_ok-kept.ensures.others c.in_ok-kept.ensures.len c.in_ok-kept.ensures.spare).becomes
