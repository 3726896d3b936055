use Rattle.std.proofs.Common.{◌+◌, [], ◌∷◌, refl, arith}
use Rattle.instruction_rows.specs.declared.value.Value.TheVariants as values
use Rattle.instruction_rows.specs.declared.value.Slot.TheVariants.{One}
use Rattle.instruction_rows.specs.Rows.{push}
use Rattle.frame_instructions.proofs.TopWrites.{top_written}
use Rattle.frame_instructions.proofs.constants.push_null.Goals as goal

pub returns : goal.returns
returns c =
    λ t. top_written (push t values.Null) c.args.slots.now c.put_null.new.slots c.args.locals c.args.used c.args.used (c.args.locals + c.args.used) (c.args.used + 1) (One values.Null ∷ [])
    refl c.put_null.ensures refl (omega arith) refl
