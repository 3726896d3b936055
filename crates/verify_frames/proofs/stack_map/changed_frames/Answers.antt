use Rattle.verify_frames.proofs.StackMapLaws.{expansion_is, expansion_rises}
use Rattle.verify_frames.proofs.stack_map.changed_frames.Goals as goal

pub returns-in-Ok-clause-frames : goal.returns-in-Ok-clause-frames
returns-in-Ok-clause-frames c = expansion_is c.args.first.now c.args.bytes.now _ c.in-Ok.ensures.found

pub returns-in-Ok-clause-rising : goal.returns-in-Ok-clause-rising
returns-in-Ok-clause-rising c = expansion_rises c.args.first.now c.args.bytes.now _ c.in-Ok.ensures.found
