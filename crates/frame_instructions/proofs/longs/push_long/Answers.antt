use Rattle.std.proofs.Common.{ℤ, ◌+◌, ◌∙◌, [], ◌∷◌, ap, refl, arith, rules}
use Rattle.std.specs.Prelude.{slice_set}
use Rattle.std.specs.Int.{w64}
use Rattle.std.proofs.lemmas.Int.{to_z-of_z}
use Rattle.instruction_rows.specs.declared.value.Value.TheVariants as values
use Rattle.instruction_rows.specs.declared.value.Slot.TheVariants.{One, Second}
use Rattle.frame_instructions.proofs.TopWrites.{top_written}
use Rattle.stack_maps.specs.declared.types.VType.TheVariants as types
use Rattle.instruction_rows.specs.Rows.{push}
use Rattle.frame_instructions.proofs.longs.push_long.Goals as goal

pub returns : goal.returns
returns c =
    top_written (push types.Long (values.Long c.args.n)) c.args.slots.now c.put_long.new.slots c.args.locals c.args.used c.args.used (c.args.locals + c.args.used) (c.args.used + 2) (One (values.Long c.args.n) ∷ Second ∷ [])
    refl (c.put_long.ensures ∙ ap (λ (n : ℤ). slice_set (slice_set c.args.slots.now (c.args.locals + c.args.used) (One (values.Long n))) (c.args.locals + c.args.used + 1) Second) (to_z-of_z w64 c.args.n (search rules))) refl (omega arith) (omega arith)
