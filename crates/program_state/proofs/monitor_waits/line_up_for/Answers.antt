use Rattle.std.proofs.Common.{sym, subst}
use Rattle.program_state.specs.Monitors.{LinesUpFor}
use Rattle.program_state.proofs.SeatLaws.{lined_up}
use Rattle.program_state.proofs.monitor_waits.line_up_for.Goals as goal

pub returns : goal.returns
returns c =
    subst (λ m. LinesUpFor c.args.t m c.args.monitors.now c.line_up.new.self) (sym c.in-Some.is)
    (lined_up c.args.t c.in-Some.o c.args.monitors.now c.room.new.self c.line_up.new.self c.in_ok-room.ensures.monitors c.in_ok-room.ensures.threads c.in_ok-room.ensures.spare c.line_up.ensures)
