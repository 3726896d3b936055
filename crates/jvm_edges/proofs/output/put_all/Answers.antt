use Rattle.std.proofs.Common.{◌≡◌, ◌-◌, length, take, drop, arith}
use Rattle.std.proofs.lemmas.Grind.{common_steps}
use Rattle.jvm_edges.proofs.PutLaws.{put_more}
use Rattle.jvm_edges.proofs.output.put_all.Goals as goal

pub loop-taken-preserved : goal.loop-taken-preserved
loop-taken-preserved g c =
    let bytes = c.args.bytes.now in
    let taken = c.loop-taken.taken in
    let left : take (length bytes - taken) (drop taken bytes) ≡ drop taken bytes = grind (arith, common_steps) in
    put_more _ _ _ _ _ _ _ _ _ _ c.loop-taken.invariant left c.in-Ok.ensures.within c.in-Ok.ensures.taken c.in-Ok.ensures.cause.kept
