use Rattle.std.proofs.Common.{length}
use Rattle.asm_text.specs.Parsing.{frame_type_at}
use Rattle.asm_text.proofs.ManyLaws.{many_more, many_stop}
use Rattle.asm_text.proofs.lists.frame_types_at.Goals as goal

pub returns-in-Err-Bad : goal.returns-in-Err-Bad
returns-in-Err-Bad c =
    let none = rw c.in-Err-Bad.field-0-is at c.in-Err-Bad.ensures in
    many_stop frame_type_at _ (length c.args.words.now) c.loop.counter c.loop.frame_types c.loop.rest.now c.loop-test.true c.loop.invariant none

pub loop-preserved : goal.loop-preserved
loop-preserved c =
    many_more frame_type_at _ (length c.args.words.now) c.loop.counter c.loop.frame_types _ c.loop.rest.now c.in-Ok.frame_type c.in-Ok.behind.now c.loop-test.true c.loop.invariant c.in-Ok.ensures
    c.in_ok-push-in-Ok.ensures.ok
