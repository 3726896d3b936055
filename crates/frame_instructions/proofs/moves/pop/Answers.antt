use Rattle.std.proofs.Common.{◌+◌, ◌-◌, [], ◌∷◌, refl, arith}
use Rattle.instruction_rows.specs.StackItems.{one}
use Rattle.frames.specs.Slots.{ascending}
use Rattle.frame_instructions.proofs.TopWrites.{moves_written, moves_enough}
use Rattle.frame_instructions.proofs.moves.pop.Goals as goal

pub overflow_sub-result : goal.overflow_sub-result
overflow_sub-result c = let few = moves_enough (one ∷ []) ([]) _ _ _ c.requires.acts in omega (arith, few)

pub returns : goal.returns
returns c =
    let few = moves_enough (one ∷ []) ([]) _ _ _ c.requires.acts in
    moves_written (one ∷ []) [] 1 (ascending c.args.slots.now (c.args.locals + c.args.used - 1) 1) []
    c.args.slots.now c.args.slots.now c.args.locals c.args.used (c.args.locals + c.args.used - 1) _ (λ locals stack. refl)
    refl (omega (arith, few)) few refl (omega (arith, few)) (omega (arith, few))
