use Rattle.jvm_edges.specs.Causes.{Rose}
use Rattle.input_files.specs.Errors.{load_answer}
use Rattle.input_files.specs.StoreFaults.{StoreFaults}
use Rattle.class_tools.specs.Exact.{IsExact, IsRefusal}
use Rattle.class_tools.specs.Making.{IsOfBytes}
use Rattle.class_tools.proofs.ExactLaws.{answer_is, bytes_faults, bytes_refusal, each_err, load_refusal, made_cause, made_exact, unread_exact}
use Rattle.class_tools.proofs.conversion.converted.Goals as goal

pub returns-in_err-bytes-clause-exact : goal.returns-in_err-bytes-clause-exact
returns-in_err-bytes-clause-exact g c =
    let known = g.S.Store.files c.args.store.now in
    let faulty = Rose (g.S.Store.faults c.args.store.now) (g.S.Store.faults c.read_file.new.store) in
    answer_is c.from_residual.result (load_answer c.in_err-bytes.field-0.0) (IsExact g.T.Conversion.owes known faulty c.args.file.now) c.from_residual.ensures.1
    (unread_exact g.T.Conversion.owes g.met.T.Conversion.one_is_due known faulty c.args.file.now c.in_err-bytes.field-0.0 c.in_err-bytes.ensures.cause c.in_err-bytes.ensures.kind)

pub returns-in_err-bytes-clause-refusal : goal.returns-in_err-bytes-clause-refusal
returns-in_err-bytes-clause-refusal g c = answer_is c.from_residual.result (load_answer c.in_err-bytes.field-0.0) IsRefusal c.from_residual.ensures.1 (load_refusal c.in_err-bytes.field-0.0)

pub returns-in_err-bytes-clause-faults : goal.returns-in_err-bytes-clause-faults
returns-in_err-bytes-clause-faults g c =
    let before = g.S.Store.faults c.args.store.now in
    let after = g.S.Store.faults c.read_file.new.store in
    answer_is c.from_residual.result (load_answer c.in_err-bytes.field-0.0) (λ why. StoreFaults why before after) c.from_residual.ensures.1 c.in_err-bytes.ensures.faults

pub returns-clause-cause : goal.returns-clause-cause
returns-clause-cause g c =
    made_cause g.T.Conversion.owes g.met.T.Conversion.one_is_due (g.S.Store.files c.args.store.now) ⊥ c.args.file.now c.in_ok-bytes.bytes.items c.in_ok-bytes.ensures.small c.in_ok-bytes.ensures.found c.convert.result (rw c.deref.ensures.value at c.convert.ensures.made)

pub returns-clause-exact : goal.returns-clause-exact
returns-clause-exact g c =
    made_exact g.T.Conversion.owes g.met.T.Conversion.one_is_due (g.S.Store.files c.args.store.now) (Rose (g.S.Store.faults c.args.store.now) (g.S.Store.faults c.read_file.new.store)) c.args.file.now c.in_ok-bytes.bytes.items c.in_ok-bytes.ensures.small c.in_ok-bytes.ensures.found c.convert.result (rw c.deref.ensures.value at c.convert.ensures.made) c.convert.ensures.kind

pub returns-clause-refusal : goal.returns-clause-refusal
returns-clause-refusal g c = each_err c.convert.result IsOfBytes IsRefusal bytes_refusal c.convert.ensures.kind

pub returns-clause-faults : goal.returns-clause-faults
returns-clause-faults g c =
    let before = g.S.Store.faults c.args.store.now in
    let after = g.S.Store.faults c.read_file.new.store in
    each_err c.convert.result IsOfBytes (λ why. StoreFaults why before after) (λ why. bytes_faults why before after c.in_ok-bytes.ensures.faults) c.convert.ensures.kind
