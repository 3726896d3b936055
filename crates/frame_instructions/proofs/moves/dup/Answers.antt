use Rattle.std.proofs.Common.{◌+◌, ◌-◌, [], ◌∷◌, refl, arith}
use Rattle.instruction_rows.specs.StackItems.{one}
use Rattle.frame_instructions.proofs.TopWrites.{moves_written, moves_enough, lie_one}
use Rattle.frame_instructions.proofs.moves.dup.Goals as goal

pub overflow_sub-at : goal.overflow_sub-at
overflow_sub-at c = let few = moves_enough (one ∷ []) (0 ∷ 0 ∷ []) _ _ _ c.requires.acts in omega (arith, few)

pub returns : goal.returns
returns c =
    let few = moves_enough (one ∷ []) (0 ∷ 0 ∷ []) _ _ _ c.requires.acts in
    moves_written (one ∷ []) (0 ∷ 0 ∷ []) 1 (c.stored_at-a.result ∷ []) (c.stored_at-a.result ∷ c.stored_at-a.result ∷ [])
    c.args.slots.now c.put_two.new.slots c.args.locals c.args.used (c.args.locals + c.args.used - 1) _ (λ locals stack. refl)
    (lie_one c.args.slots.now (c.args.locals + c.args.used - 1) c.stored_at-a.result c.stored_at-a.ensures) (omega (arith, few)) few c.put_two.ensures (omega (arith, few)) (omega (arith, few))
