use Rattle.std.proofs.Common.{arith}
use Rattle.verify_frames.proofs.WantedLaws.{wanted_everywhere}
use Rattle.verify_frames.proofs.wanted.are_wanted.Goals as goal

pub returns : goal.returns
returns c = wanted_everywhere c.args.paths.now c.args.nodes.now c.args.wanted.now (λ k low. c.loop-n.invariant k (omega arith))
