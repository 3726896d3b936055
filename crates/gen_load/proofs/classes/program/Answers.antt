use Rattle.gen_load.proofs.Spelled.{both_spelled}
use Rattle.gen_load.proofs.classes.program.Goals as goal

pub returns-clause-spelled : goal.returns-clause-spelled
returns-clause-spelled c =
    both_spelled c.args.count c.new-files.result.items c.push.new.self.items c.push-2.new.self.items c.in_ok-load.field-0 c.in_ok-turn.field-0
    c.requires.limit c.new-files.ensures.items c.in_ok-push.ensures.items c.in_ok-push-2.ensures.items c.in_ok-load.ensures c.in_ok-turn.ensures
