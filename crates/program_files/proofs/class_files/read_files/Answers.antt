use Rattle.std.proofs.Common.{◌∙◌, refl}
use Rattle.jvm_edges.specs.Causes.{Rose}
use Rattle.command_line.specs.Commands.{texts}
use Rattle.program_files.specs.LoadCauses.{IsStopped}
use Rattle.program_files.proofs.LoadLaws.{are_spelled, one_more_read, one_not_read, err_is, faults_is}
use Rattle.program_files.proofs.class_files.read_files.Goals as goal

pub returns-in_err-read_class-clause-stopped : goal.returns-in_err-read_class-clause-stopped
returns-in_err-read_class-clause-stopped g c =
    let known = g.S.Store.files c.args.store.now in
    let before = g.S.Store.faults c.args.store.now in
    let after = g.S.Store.faults c.read_class.new.store in
    err_is c.from_residual.result c.in_err-read_class.field-0.0 (IsStopped known (Rose before after) (texts c.args.names.now)) c.from_residual.ensures.1
    (one_not_read known _ before _ after c.args.names.now c.loop-index.index c.index-names-index.result c.as_str.result.now c.loop-index.classes.items c.in_err-read_class.field-0.0
    c.loop-index-test.true c.index-names-index.is c.as_str.ensures.value c.loop-index.invariant.read c.loop-index.invariant.kept c.loop-index.invariant.faults c.in_err-read_class.ensures.cause)

pub returns-in_err-read_class-clause-faults : goal.returns-in_err-read_class-clause-faults
returns-in_err-read_class-clause-faults g c =
    faults_is c.from_residual.result c.in_err-read_class.field-0.0 _ _ _ c.from_residual.ensures.1 c.loop-index.invariant.faults c.in_err-read_class.ensures.faults

pub returns-in_err-push-clause-stopped : goal.returns-in_err-push-clause-stopped
returns-in_err-push-clause-stopped g c =
    let known = g.S.Store.files c.args.store.now in
    let before = g.S.Store.faults c.args.store.now in
    let after = g.S.Store.faults c.read_class.new.store in
    err_is c.from_residual-in_err-push.result _ (IsStopped known (Rose before after) (texts c.args.names.now)) c.from_residual-in_err-push.ensures.1
    (one_not_read known known before before after c.args.names.now c.loop-index.index c.index-names-index.result c.as_str.result.now c.loop-index.classes.items _
    c.loop-index-test.true c.index-names-index.is c.as_str.ensures.value c.loop-index.invariant.read refl refl tt)

pub returns-in_err-push-clause-faults : goal.returns-in_err-push-clause-faults
returns-in_err-push-clause-faults g c = faults_is c.from_residual-in_err-push.result _ _ _ _ c.from_residual-in_err-push.ensures.1 refl tt

pub returns-clause-spelled : goal.returns-clause-spelled
returns-clause-spelled g c =
    are_spelled (g.S.Store.files c.args.store.now) _ c.loop-index.classes.items c.loop-index.invariant.read

pub loop-index-preserved : goal.loop-index-preserved
loop-index-preserved g c = record {
  kept = c.read_class.ensures.kept ∙ c.loop-index.invariant.kept;
  faults = c.in_ok-read_class.ensures.faults ∙ c.loop-index.invariant.faults;
  read = one_more_read _ _ c.args.names.now c.loop-index.index c.index-names-index.result c.as_str.result.now c.loop-index.classes.items _ c.in_ok-read_class.field-0
      c.loop-index-test.true c.index-names-index.is c.as_str.ensures.value c.in_ok-push.ensures.items c.loop-index.invariant.read c.loop-index.invariant.kept c.in_ok-read_class.ensures.found;
}
