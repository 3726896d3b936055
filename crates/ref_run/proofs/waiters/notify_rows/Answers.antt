use Rattle.std.proofs.Common.{◌≡◌, ◌+◌, ◌<◌, suc, ap, arith, length, ◌∙◌}
use Rattle.ref_model.specs.Waiting.{notified_on}
use Rattle.ref_run.proofs.AllLaws.{all_changed, change_next, changed}
use Rattle.ref_run.proofs.waiters.notify_rows.Goals as goal

pub loop-i-preserved : goal.loop-i-preserved
loop-i-preserved c =
    let xs = c.args.threads.now in
    let i = c.loop-i.i in
    let within : i < length xs = omega arith in
    let next : suc i ≡ i + 1 = omega arith in
    change_next (notified_on c.args.o) i xs c.loop-i.threads c.notify_row.new.threads within c.loop-i.invariant c.notify_row.ensures
    ∙ ap (λ n. changed (notified_on c.args.o) n xs) next

pub returns : goal.returns
returns c = c.loop-i.invariant ∙ all_changed (notified_on c.args.o) c.loop-i.i c.args.threads.now (omega arith)
