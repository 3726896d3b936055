use Rattle.std.proofs.Common.{◌≡◌, [], drop}
use Rattle.asm_pool.specs.Places.{IsPool}
use Rattle.asm_body.specs.FrameTypes.{types_behind}
use Rattle.asm_body.proofs.frame_types.types_of.Given as goal

abbrev pub invariant-loop-frame_type : goal.invariant-loop-frame_type
invariant-loop-frame_type l =
    (types_behind [] l.types l.initial.pool.entries ≡ types_behind l.placed (drop l.frame_type-index l.types) l.pool.entries) × IsPool l.pool
