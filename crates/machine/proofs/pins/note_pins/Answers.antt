use Rattle.std.proofs.Common.{inl, sym, ◌∙◌}
use Rattle.machine.proofs.PinLaws.{goes_unnoted}
use Rattle.machine.proofs.pins.note_pins.Goals as goal

pub returns-else-not-is_in_no_list-clause-own : goal.returns-else-not-is_in_no_list-clause-own
returns-else-not-is_in_no_list-clause-own c = goes_unnoted c.args.program.now c.args.state.now c.args.t c.args.mounted.now.stack.frames c.args.tried c.args.c c.args.pins.now.items c.args.pins.now.items
    c.in-Goes.is (c.is_in_no_list.ensures c.if-not-is_in_no_list.false)
