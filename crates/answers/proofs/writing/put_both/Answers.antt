use Rattle.answers.proofs.TakenLaws.{none_is, some_is, stopped_told, went_on_told}
use Rattle.answers.proofs.writing.put_both.Goals as goal

pub returns-then-is_none : goal.returns-then-is_none
returns-then-is_none g c =
    went_on_told _ _ c.args.sink.now c.put_part.new.sink c.put_part-then-is_none.new.sink c.args.first.now c.args.others.now c.put_part.result c.put_part-then-is_none.result (none_is _ _ c.is_none.ensures c.if-is_none.true)
    c.put_part.ensures c.put_part-then-is_none.ensures

pub returns-else-is_none : goal.returns-else-is_none
returns-else-is_none g c =
    stopped_told _ _ c.args.sink.now c.put_part.new.sink c.args.first.now c.args.others.now c.put_part.result (some_is _ _ c.is_none.ensures c.if-is_none.false) c.put_part.ensures
