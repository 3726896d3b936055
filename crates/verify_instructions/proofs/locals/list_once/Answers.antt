use Rattle.std.proofs.Common.{rules}
use Rattle.verify_instructions.proofs.LocalLaws.{among_listed, written_listed}
use Rattle.verify_instructions.proofs.locals.list_once.Goals as goal

pub returns-then-is_among_first-clause-listed : goal.returns-then-is_among_first-clause-listed
returns-then-is_among_first-clause-listed c = λ types low here h. among_listed c.args.slots.now.items c.args.slot c.args.t (search rules) types low h

pub returns-clause-listed : goal.returns-clause-listed
returns-clause-listed c = λ types low here h.
    written_listed c.args.slots.now.items c.list.new.slots.items c.args.slot c.args.was c.args.t c.in_ok-list.ensures.listed types low here h
