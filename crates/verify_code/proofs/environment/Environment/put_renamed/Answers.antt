use Rattle.std.specs.Prelude.{map}
use Rattle.verify_code.specs.Guards.{guard_in}
use Rattle.verify_code.proofs.MergedLaws.{put_same}
use Rattle.verify_code.proofs.environment.Environment.put_renamed.Goals as goal

pub returns : goal.returns
returns g c =
    put_same c.args.self.now (map guard_in c.args.merged.now.guards.items) (map guard_in c.put.new.self.guards.items) (guard_in c.renamed-renamed.result) (guard_in c.args.guard.now)
    c.in_ok-put.ensures c.renamed-renamed.ensures
