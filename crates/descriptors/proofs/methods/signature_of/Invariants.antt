use Rattle.std.proofs.Common.{length}
use Rattle.descriptors.proofs.ArgsLaws.{AreRead}
use Rattle.descriptors.proofs.methods.signature_of.Given as goal

abbrev pub invariant-loop-rest : goal.invariant-loop-rest
invariant-loop-rest l = AreRead l.units l.args l.rest

abbrev pub decreases-loop-rest : goal.decreases-loop-rest
decreases-loop-rest l = length l.rest
