use Rattle.heap_instructions.specs.Operands.{operands}
use Rattle.native_methods.proofs.AnswerLaws.{stays}
use Rattle.native_methods.proofs.ArgumentLaws.{arguments_found}
use Rattle.native_methods.proofs.run.run_native.Goals as goal

pub answer_of-requires-clause-given : goal.answer_of-requires-clause-given
answer_of-requires-clause-given g c =
    arguments_found (g.W.EventWorld.world c.args.world.now) c.args.native c.takes-arguments.result (operands c.args.mounted.now) c.takes-arguments.ensures c.requires.arguments

pub returns-clause-kept_state : goal.returns-clause-kept_state
returns-clause-kept_state g c =
    stays c.slots.result c.in_ok-answer.answer c.args.mounted.now c.outcome_of.new.mounted c.outcome_of.result c.args.state.now c.answer_of.new.state
    c.outcome_of.ensures.answered c.in_ok-answer.ensures.kept
