use Rattle.std.proofs.Common.{◌≡◌, drop}
use Rattle.std.specs.Prelude.{find}
use Rattle.link_model.specs.Worlds.{world_of}
use Rattle.verify_types.specs.Environment.{with_catches}
use Rattle.ref_model.specs.Throwing.{catches}
use Rattle.runtime_program.proofs.handlers.handler_in.Given as goal

abbrev pub invariant-loop-i : goal.invariant-loop-i
invariant-loop-i l =
    find (catches (world_of l.world) l.pc l.class) (with_catches l.rows l.caught)
    ≡ find (catches (world_of l.world) l.pc l.class) (with_catches (drop l.i l.rows) (drop l.i l.caught))
