use Rattle.std.proofs.Common.{false, refl}
use Rattle.interp_local.specs.Fetched.{instruction_of}
use Rattle.machine.specs.declared.made.Others.TheVariants as moves
use Rattle.machine.proofs.MoveLaws.{line_frames, moves_by, off_in_time, off_yields}
use Rattle.operand_soundness.proofs.OperandLaws.{natives_found, operands_found}
use Rattle.machine.proofs.moves.entering_move.Goals as goal

pub finish_entry-requires-clause-operands : goal.finish_entry-requires-clause-operands
finish_entry-requires-clause-operands c =
    operands_found c.args.program.now c.args.mounted.now.stack.frames (instruction_of c.in_ok-next.next) c.requires.ready c.requires.typed c.in_ok-next.ensures.at

pub finish_entry-requires-clause-natives : goal.finish_entry-requires-clause-natives
finish_entry-requires-clause-natives c =
    natives_found c.args.program.now c.args.state.now.memory c.args.mounted.now c.args.mounted.now.stack.frames (instruction_of c.in_ok-next.next) refl
    c.requires.ready c.requires.typed c.in_ok-next.ensures.at

pub returns-clause-made : goal.returns-clause-made
returns-clause-made c =
    let w = c.args.program.now in
    let m = c.args.mounted.now in
    let off = line_frames m.stack.frames c.args.phase c.requires.in_line in (
      moves_by w (record { others = moves.Quiet; yields = false }) m.thread c.args.phase c.args.state.now c.finish_entry.new.state m.stack.frames
          c.finish_entry.new.mounted.stack.frames c.requires.waits refl c.in_ok-finish_entry.ensures.lists (c.in_ok-finish_entry.ensures.steps c.args.phase)
          (λ r out is h. off_yields w r m.thread c.args.phase m.stack.frames off h),
      λ now. off_in_time w now m.thread c.args.phase c.args.state.now m.stack.frames off c.requires.waits,
    )
