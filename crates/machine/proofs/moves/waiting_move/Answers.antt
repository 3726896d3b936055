use Rattle.std.proofs.Common.{false, refl}
use Rattle.interp_local.specs.Fetched.{instruction_of}
use Rattle.machine.specs.declared.made.Others.TheVariants as moves
use Rattle.machine.proofs.MoveLaws.{moves_by, off_in_time, off_yields, same_lists, stay_steps, waiting_frames}
use Rattle.operand_soundness.proofs.OperandLaws.{natives_found, operands_found}
use Rattle.machine.proofs.moves.waiting_move.Goals as goal

pub finish_wait-requires-clause-operands : goal.finish_wait-requires-clause-operands
finish_wait-requires-clause-operands c =
    operands_found c.args.program.now c.args.mounted.now.stack.frames (instruction_of c.in_ok-next.next) c.requires.ready c.requires.typed c.in_ok-next.ensures.at

pub finish_wait-requires-clause-natives : goal.finish_wait-requires-clause-natives
finish_wait-requires-clause-natives c =
    natives_found c.args.program.now c.args.state.now.memory c.args.mounted.now c.args.mounted.now.stack.frames (instruction_of c.in_ok-next.next) refl
    c.requires.ready c.requires.typed c.in_ok-next.ensures.at

pub returns-clause-made : goal.returns-clause-made
returns-clause-made c =
    let w = c.args.program.now in
    let m = c.args.mounted.now in
    let old = c.args.state.now in
    let new = c.finish_wait.new.state in
    let after = c.finish_wait.new.mounted.stack.frames in
    let off = waiting_frames m.stack.frames c.args.phase c.requires.waiting in (
      moves_by w (record { others = moves.Stay; yields = false }) m.thread c.args.phase old new m.stack.frames after c.requires.waits refl
          (same_lists old.monitors new.monitors c.finish_wait.ensures.monitors)
          (stay_steps w c.args.phase m.thread old new m.stack.frames after (c.in_ok-finish_wait.ensures.steps c.args.phase))
          (λ r out is h. off_yields w r m.thread c.args.phase m.stack.frames off h),
      λ now. off_in_time w now m.thread c.args.phase old m.stack.frames off c.requires.waits,
    )
