use Rattle.std.proofs.Common.{Bool, ◌+◌, subst, arith, ◌∙◌}
use Rattle.carrier_turns.specs.LocalRuns.{GoesOver}
use Rattle.carrier_turns.proofs.BackLaws.{goes_again, long_run, ran_more, whole_run}
use Rattle.carrier_turns.proofs.local.run_local.Goals as goal

pub returns-then-steps-eq-MOST_STEPS-clause-run : goal.returns-then-steps-eq-MOST_STEPS-clause-run
returns-then-steps-eq-MOST_STEPS-clause-run c =
    let w = c.args.program.now in
    let first = c.args.mounted.now.stack.frames in
    let mid = c.run_top-run.new.mounted.stack.frames in
    let n = c.loop-steps.steps in
    let more = c.run_top-run.result.steps in
    whole_run w (n + more) first mid (ran_more w n more first c.loop-steps.mounted.stack.frames mid c.loop-steps.invariant.rows c.run_top-run.ensures.rows) c.run_top-run.ensures.typed
    c.if-steps-eq-MOST_STEPS.true

pub returns-then-not-branch-clause-run : goal.returns-then-not-branch-clause-run
returns-then-not-branch-clause-run c =
    let w = c.args.program.now in
    let first = c.args.mounted.now.stack.frames in
    let mid = c.run_top-run.new.mounted.stack.frames in
    let last = c.go_over.new.mounted.stack.frames in
    let n = c.loop-steps.steps in
    let more = c.run_top-run.result.steps in
    let few = c.run_top-run.ensures.few in
    let made = c.loop-steps.invariant.few in
    long_run w (n + more) first mid last (ran_more w n more first c.loop-steps.mounted.stack.frames mid c.loop-steps.invariant.rows c.run_top-run.ensures.rows) c.run_top-run.ensures.typed (omega arith)
    (subst (λ (b : Bool). GoesOver w mid last b) c.if-not-branch.true c.in_ok-go_over.ensures.over)

pub loop-steps-preserved : goal.loop-steps-preserved
loop-steps-preserved c =
    let w = c.args.program.now in
    let first = c.args.mounted.now.stack.frames in
    let mid = c.run_top-run.new.mounted.stack.frames in
    let last = c.go_over.new.mounted.stack.frames in
    let n = c.loop-steps.steps in
    let more = c.run_top-run.result.steps in
    let few = c.run_top-run.ensures.few in
    let made = c.loop-steps.invariant.few in
    let not_all = c.if-steps-eq-MOST_STEPS.false in
    let over = subst (λ (b : Bool). GoesOver w mid last b) c.if-not-branch.false c.in_ok-go_over.ensures.over in
    record {
      few = omega arith;
      rows = goes_again w (n + more) first mid last (ran_more w n more first c.loop-steps.mounted.stack.frames mid c.loop-steps.invariant.rows c.run_top-run.ensures.rows) over;
      typed = over.1;
      thread = c.in_ok-go_over.ensures.thread ∙ c.run_top-run.ensures.thread ∙ c.loop-steps.invariant.thread;
      selected = c.in_ok-go_over.ensures.cache;
    }
