use Rattle.std.proofs.Common.{refl, arith}
use Rattle.verify_code.proofs.MergedLaws.{put_both}
use Rattle.verify_code.proofs.merged.Merged.put.Goals as goal

pub returns-in-Some : goal.returns-in-Some
returns-in-Some c = put_both c.args.self.now.guards.items _ c.last_of-index.result c.index-before.result.now c.in-Some.both c.args.guard (omega arith) c.index-before.ensures refl c.in-Some.ensures
