use Rattle.std.proofs.Common.{string_bytes}
use Rattle.jvm_edges.specs.Causes.{Rose}
use Rattle.class_tools.proofs.AnswerLaws.{answer_exact, answer_store, idle_is, written_is}
use Rattle.class_tools.proofs.conversion.convert_file.Goals as goal

pub returns-clause-written : goal.returns-clause-written
returns-clause-written g c =
    written_is g.T.Conversion.owes g.met.T.Conversion.one_is_due (g.S.Store.files c.args.store.now) (Rose (g.S.Store.faults c.args.store.now) (g.S.Store.faults c.converted-made.new.store)) (string_bytes c.args.file.now)
    (g.O.Sink.contents c.args.out.now) (g.O.Sink.contents c.answer.new.out) c.converted-made.result c.answer.result (rw c.as_str.ensures.value at c.converted-made.ensures.cause) c.converted-made.ensures.refusal c.answer.ensures.answers

pub returns-clause-idle : goal.returns-clause-idle
returns-clause-idle g c = idle_is (g.O.Sink.contents c.args.out.now) (g.O.Sink.contents c.answer.new.out) c.converted-made.result c.answer.result c.answer.ensures.answers c.answer.ensures.history c.answer.ensures.err_written

pub returns-clause-exact : goal.returns-clause-exact
returns-clause-exact g c =
    answer_exact g.T.Conversion.owes g.met.T.Conversion.one_is_due (g.S.Store.files c.args.store.now) (Rose (g.S.Store.faults c.args.store.now) (g.S.Store.faults c.converted-made.new.store)) (string_bytes c.args.file.now) (g.O.Sink.contents c.args.out.now) (g.O.Sink.contents c.answer.new.out) c.converted-made.result c.answer.result
    (rw c.as_str.ensures.value at c.converted-made.ensures.cause) (rw c.as_str.ensures.value at c.converted-made.ensures.exact) c.answer.ensures.answers

pub returns-clause-store_faults : goal.returns-clause-store_faults
returns-clause-store_faults g c = answer_store (g.O.Sink.contents c.args.out.now) (g.O.Sink.contents c.answer.new.out) c.converted-made.result c.answer.result (g.S.Store.faults c.args.store.now) (g.S.Store.faults c.converted-made.new.store) c.converted-made.ensures.kept c.converted-made.ensures.faults c.answer.ensures.answers
