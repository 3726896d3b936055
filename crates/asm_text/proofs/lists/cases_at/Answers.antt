use Rattle.std.proofs.Common.{length}
use Rattle.asm_text.specs.Parsing.{case_at}
use Rattle.asm_text.proofs.ManyLaws.{many_more, many_stop}
use Rattle.asm_text.proofs.lists.cases_at.Goals as goal

pub returns-in-Err-Bad : goal.returns-in-Err-Bad
returns-in-Err-Bad c =
    let none = rw c.in-Err-Bad.field-0-is at c.in-Err-Bad.ensures in
    many_stop case_at _ (length c.args.words.now) c.loop.counter c.loop.cases c.loop.rest.now c.loop-test.true c.loop.invariant none

pub loop-preserved : goal.loop-preserved
loop-preserved c =
    many_more case_at _ (length c.args.words.now) c.loop.counter c.loop.cases _ c.loop.rest.now c.in-Ok.case c.in-Ok.behind.now c.loop-test.true c.loop.invariant c.in-Ok.ensures
    c.in_ok-push-in-Ok.ensures.ok
