use Rattle.carrier.proofs.RunLaws.{is_run}
use Rattle.carrier.proofs.program_run.leave.Goals as goal

pub returns : goal.returns
returns c = λ gives timed.
    is_run c.args.machine c.in_ok-ending.ending _ _ _ _ c.is_legal.ensures c.in_ok-ending.ensures.ending c.in_ok-ending.ensures.works
    c.into_written-history.ensures.history c.into_written-history.ensures.out c.into_written-history.ensures.err c.in_ok-listed.ensures.stalled c.in_ok-listed.ensures.starved gives timed
