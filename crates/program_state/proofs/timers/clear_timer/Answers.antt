use Rattle.std.proofs.Common.{ap, sym, ◌∙◌}
use Rattle.program_state.specs.Deadlines.{key_number}
use Rattle.program_state.proofs.WheelLaws.{no_timer_cleared, timer_cleared}
use Rattle.program_state.proofs.timers.clear_timer.Goals as goal

pub returns-in_default : goal.returns-in_default
returns-in_default c = no_timer_cleared c.args.t c.args.wheel.now c.args.keys.now.items (sym c.key_of.ensures ∙ ap key_number c.in_default.is)

pub returns : goal.returns
returns c =
    timer_cleared c.args.t c.args.wheel.now c.remove.new.self c.args.keys.now.items c.clear_key.new.keys.items c.in-Some.key (sym c.key_of.ensures ∙ ap key_number c.in-Some.is) c.remove.ensures.sleepers
    c.clear_key.ensures
