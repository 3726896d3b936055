use Rattle.std.proofs.Common.{refl, arith}
use Rattle.program_state.proofs.WheelLaws.{timer_set}
use Rattle.program_state.proofs.timers.add_sleeper.Goals as goal

pub returns : goal.returns
returns c =
    timer_set c.args.t c.args.deadline c.add-key.result.number c.args.wheel.now c.room.new.self c.add-key.new.self c.args.keys.now.items _ c.add-key.result c.room.ensures.sleepers (omega arith) refl
    c.add-key.ensures.vacant c.add-key.ensures.sleepers refl
