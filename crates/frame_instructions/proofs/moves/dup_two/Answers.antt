use Rattle.std.proofs.Common.{◌+◌, ◌-◌, [], ◌∷◌, refl, arith}
use Rattle.instruction_rows.specs.StackItems.{two}
use Rattle.frame_instructions.proofs.TopWrites.{moves_written, moves_enough, lie_two}
use Rattle.frame_instructions.proofs.moves.dup_two.Goals as goal

pub overflow_sub-at : goal.overflow_sub-at
overflow_sub-at c = let few = moves_enough (two ∷ []) (0 ∷ 0 ∷ []) _ _ _ c.requires.acts in omega (arith, few)

pub returns : goal.returns
returns c =
    let few = moves_enough (two ∷ []) (0 ∷ 0 ∷ []) _ _ _ c.requires.acts in
    moves_written (two ∷ []) (0 ∷ 0 ∷ []) 2 (c.stored_at-b.result ∷ c.stored_at-a.result ∷ []) (c.stored_at-b.result ∷ c.stored_at-a.result ∷ c.stored_at-b.result ∷ c.stored_at-a.result ∷ [])
    c.args.slots.now c.put_four.new.slots c.args.locals c.args.used (c.args.locals + c.args.used - 2) _ (λ locals stack. refl)
    (lie_two c.args.slots.now (c.args.locals + c.args.used - 2) c.stored_at-b.result c.stored_at-a.result c.stored_at-b.ensures c.stored_at-a.ensures) (omega (arith, few)) few c.put_four.ensures (omega (arith, few)) (omega (arith, few))
