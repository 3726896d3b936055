use Rattle.std.proofs.Common.{refl}
use Rattle.std.proofs.lemmas.Result.{on_ok_weaker}
use Rattle.interp_local.specs.Fetched.{instruction_of}
use Rattle.machine.proofs.MoveLaws.{runs_or_asks}
use Rattle.operand_soundness.proofs.OperandLaws.{natives_found, operands_found}
use Rattle.machine.proofs.moves.running_move.Goals as goal

pub run_step-requires-clause-operands : goal.run_step-requires-clause-operands
run_step-requires-clause-operands c =
    operands_found c.args.program.now c.args.mounted.now.stack.frames (instruction_of c.args.next) c.requires.ready c.requires.typed c.requires.next.at

pub run_step-requires-clause-natives : goal.run_step-requires-clause-natives
run_step-requires-clause-natives c =
    natives_found c.args.program.now c.args.state.now.memory c.args.mounted.now c.args.mounted.now.stack.frames (instruction_of c.args.next) refl
    c.requires.ready c.requires.typed c.requires.next.at

pub returns-clause-made : goal.returns-clause-made
returns-clause-made c =
    on_ok_weaker c.run_step.result
    (runs_or_asks c.args.program.now c.run_step.new.progress c.args.state.now c.run_step.new.state c.args.mounted.now c.run_step.new.mounted c.requires.runs c.run_step.ensures.monitors)
    c.run_step.ensures.progress
