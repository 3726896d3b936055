use Rattle.class_tools.proofs.ExactLaws.{text_kind, text_makes}
use Rattle.class_tools.proofs.assembling.AssemblyConversion.convert.Goals as goal

pub written-requires : goal.written-requires
written-requires c = (c.args.text.now, c.in-Ok.ensures)

pub returns-in-Err-clause-made : goal.returns-in-Err-clause-made
returns-in-Err-clause-made c = rw c.answer_of.ensures (text_makes c.args.text.now c.in-Err.error c.in-Err.ensures)

pub returns-in-Err-clause-kind : goal.returns-in-Err-clause-kind
returns-in-Err-clause-kind c = rw c.answer_of.ensures (text_kind c.in-Err.error)

pub returns-in_ok-written-in-Ok-clause-made : goal.returns-in_ok-written-in-Ok-clause-made
returns-in_ok-written-in-Ok-clause-made c = (c.in-Ok.class, c.in-Ok.ensures, (c.in_ok-written-in-Ok).ensures)
