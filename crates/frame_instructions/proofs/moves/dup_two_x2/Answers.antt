use Rattle.std.proofs.Common.{◌+◌, ◌-◌, [], ◌∷◌, refl, arith}
use Rattle.instruction_rows.specs.StackItems.{two}
use Rattle.frame_instructions.proofs.TopWrites.{moves_written, moves_enough, lie_four}
use Rattle.frame_instructions.proofs.moves.dup_two_x2.Goals as goal

pub overflow_sub-at : goal.overflow_sub-at
overflow_sub-at c = let few = moves_enough (two ∷ two ∷ []) (0 ∷ 1 ∷ 0 ∷ []) _ _ _ c.requires.acts in omega (arith, few)

pub returns : goal.returns
returns c =
    let few = moves_enough (two ∷ two ∷ []) (0 ∷ 1 ∷ 0 ∷ []) _ _ _ c.requires.acts in
    moves_written (two ∷ two ∷ []) (0 ∷ 1 ∷ 0 ∷ []) 4 (c.stored_at-d.result ∷ c.stored_at-c.result ∷ c.stored_at-b.result ∷ c.stored_at-a.result ∷ []) (c.stored_at-b.result ∷ c.stored_at-a.result ∷ c.stored_at-d.result ∷ c.stored_at-c.result ∷ c.stored_at-b.result ∷ c.stored_at-a.result ∷ [])
    c.args.slots.now c.put_six.new.slots c.args.locals c.args.used (c.args.locals + c.args.used - 4) _ (λ locals stack. refl)
    (lie_four c.args.slots.now (c.args.locals + c.args.used - 4) c.stored_at-d.result c.stored_at-c.result c.stored_at-b.result c.stored_at-a.result c.stored_at-d.ensures c.stored_at-c.ensures c.stored_at-b.ensures c.stored_at-a.ensures) (omega (arith, few)) few c.put_six.ensures (omega (arith, few)) (omega (arith, few))

pub put_six-requires : goal.put_six-requires
put_six-requires c = let few = moves_enough (two ∷ two ∷ []) (0 ∷ 1 ∷ 0 ∷ []) _ _ _ c.requires.acts in omega (arith, few)
