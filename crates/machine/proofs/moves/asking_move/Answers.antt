use Rattle.std.proofs.lemmas.Result.{IfOk-weaker}
use Rattle.machine.specs.Moves.{IsMade, IsRequested, StaysIfReading}
use Rattle.machine.proofs.MoveLaws.{pending_in_time, reads_first, requested_made, requested_stays}
use Rattle.machine.proofs.moves.asking_move.Goals as goal

pub returns-then-is_early-clause-made : goal.returns-then-is_early-clause-made
returns-then-is_early-clause-made c =
    let m = c.args.mounted.now in
    reads_first c.args.program.now c.args.pending c.args.now m.thread c.args.state.now m.stack.frames c.requires.runs c.requires.asks
    (c.is_early.ensures.reads c.if-is_early.true) (c.is_early.ensures.early c.if-is_early.true)

pub monitor_move-requires-clause-never : goal.monitor_move-requires-clause-never
monitor_move-requires-clause-never c = c.is_on_monitor.ensures c.if-is_on_monitor.true

pub returns-then-is_on_monitor-clause-made : goal.returns-then-is_on_monitor-clause-made
returns-then-is_on_monitor-clause-made c =
    let m = c.args.mounted.now in (
      c.in_ok-made.ensures.made,
      pending_in_time c.args.program.now c.args.pending c.args.now m.thread c.args.state.now m.stack.frames c.requires.runs c.requires.asks
          (c.is_early.ensures.in_time c.if-is_early.false),
    )

pub returns-clause-made : goal.returns-clause-made
returns-clause-made c =
    let w = c.args.program.now in
    let m = c.args.mounted.now in
    let old = c.args.state.now in
    let x = c.request_move in
    let after = x.new.mounted.stack.frames in
    IfOk-weaker x.result (λ tried. IsRequested w tried m.thread old m.stack.frames x.new.state after) (λ tried. IsMade w tried c.args.now m.thread old m.stack.frames x.new.state after)
    (λ tried is.
    requested_made w tried c.args.now m.thread old x.new.state m.stack.frames after
    (pending_in_time w c.args.pending c.args.now m.thread old m.stack.frames c.requires.runs c.requires.asks (c.is_early.ensures.in_time c.if-is_early.false)) is)
    x.ensures.made

pub returns-clause-kept : goal.returns-clause-kept
returns-clause-kept c =
    let w = c.args.program.now in
    let m = c.args.mounted.now in
    let old = c.args.state.now in
    let x = c.request_move in
    let after = x.new.mounted.stack.frames in
    IfOk-weaker x.result (λ tried. IsRequested w tried m.thread old m.stack.frames x.new.state after) (λ tried. StaysIfReading tried m x.new.mounted)
    (λ tried is. requested_stays w tried m.thread old x.new.state m.stack.frames after m x.new.mounted is) x.ensures.made
