use Rattle.std.proofs.Common.{false, refl}
use Rattle.vthread_state.specs.declared.phase.Phase.TheVariants.{Run}
use Rattle.machine.specs.declared.made.Others.TheVariants as moves
use Rattle.machine.proofs.MoveLaws.{call_frame, calling_in_time, calling_yields, moves_by}
use Rattle.machine.proofs.moves.calling_move.Goals as goal

pub make_call-requires-clause-frame : goal.make_call-requires-clause-frame
make_call-requires-clause-frame c = (call_frame c.args.program.now c.args.call c.args.state.now.memory c.args.mounted.now c.requires.calls).0

pub make_call-requires-clause-given : goal.make_call-requires-clause-given
make_call-requires-clause-given c = (call_frame c.args.program.now c.args.call c.args.state.now.memory c.args.mounted.now c.requires.calls).1

pub returns-clause-made : goal.returns-clause-made
returns-clause-made c =
    let w = c.args.program.now in
    let m = c.args.mounted.now in
    let old = c.args.state.now in (
      moves_by w (record { others = moves.Quiet; yields = false }) m.thread Run old c.make_call.new.state m.stack.frames c.make_call.new.mounted.stack.frames c.requires.runs refl
          c.in_ok-make_call.ensures.lists (c.in_ok-make_call.ensures.steps w c.requires.calls)
          (λ r out is h. calling_yields w c.args.call old r out m.thread m.stack.frames is h c.requires.calls),
      λ now. calling_in_time w c.args.call now m.thread old m.stack.frames c.requires.runs c.requires.calls,
    )
