use Rattle.std.proofs.Common.{sym, ◌∙◌}
use Rattle.machine.proofs.PutFacts.{also_first}
use Rattle.machine.proofs.puts.add_first.Goals as goal

pub returns-in_ok-add_number-in-Some : goal.returns-in_ok-add_number-in-Some
returns-in_ok-add_number-in-Some c =
    also_first c.args.state.now c.in-Some.u c.args.first c.args.threads.now.items c.add_number.new.numbers.items c.in-Some.is (sym c.lies.ensures ∙ c.if-lies.true)
    c.in_ok-add_number-in-Some.ensures
