-- Operands at single values, beside JVMS 2.6.1, 2.6.2 and 6.5: the topmost first.
use Rattle.std.proofs.Common.{◌≡◌, pos, List, [], ◌∷◌, Some, None, refl}
use Rattle.descriptors.specs.declared.kind.ElementType.TheVariants as elements
use Rattle.descriptors.specs.declared.kind.Signature.{Signature}
use Rattle.opcodes.specs.declared.op.Element.TheVariants as element_kinds
use Rattle.opcodes.specs.declared.op.ValueKind.TheVariants as kinds
use Rattle.jvm_words.specs.declared.operation.LongOp.TheVariants as longs
use Rattle.opcodes.specs.declared.op.Op.TheVariants as ops
use Rattle.opcodes.specs.declared.op.Simple.TheVariants as simples
use Rattle.instruction_rows.specs.declared.value.Value.TheVariants.{Int, Long, Ref}
use Rattle.instruction_rows.specs.declared.value.Slot.{Slot}
use Rattle.instruction_rows.specs.declared.value.Slot.TheVariants.{One, Second}
use Rattle.instruction_rows.specs.Rows.{virtual, static, event, returns, put_static, get_field, put_field, new_arrays, array_store}
use Rattle.instruction_rows.specs.Table.{row}
use Rattle.link_model.specs.declared.sites.Resolution.{Resolution}
use Rattle.link_model.specs.declared.sites.Site.TheVariants as sites
use Rattle.ref_model.specs.Operands.{HasOperand, called_takes, row_takes, FindsOperands}
use Rattle.ref_model.proofs.WorkedWorld.{world, of_nothing}

-- the field of a long
abbrev large : Resolution
large = record { site = sites.Field 2; class = Some 7; failure = None }

-- a long above a reference above an int
abbrev stack : List Slot
stack = Second ∷ One (Long (pos 5)) ∷ One (Ref 3) ∷ One (Int (pos 1)) ∷ []

-- ---- fields

an_object_lies_below_its_long : FindsOperands world large (event (put_field 1)) stack
an_object_lies_below_its_long = (record { operand = pos 5; is = refl }, (record { operand = Some 3; is = refl }, tt))

a_static_field_has_no_object : row_takes world large (event (put_static 1)) ≡ kinds.Long ∷ []
a_static_field_has_no_object = refl

a_long_is_no_object : FindsOperands world large (event (get_field 1)) stack → ⊥
a_long_is_no_object there = let e = there.0.is in cc

half_a_long_is_no_long : HasOperand kinds.Long 1 stack → ⊥
half_a_long_is_no_long there = let e = there.is in cc

-- ---- arrays

element_index_array : row_takes world of_nothing (event (array_store element_kinds.Byte)) ≡ kinds.Int ∷ kinds.Int ∷ kinds.Reference ∷ []
element_index_array = refl

three_lengths : row_takes world of_nothing (event (new_arrays 1 3)) ≡ kinds.Int ∷ kinds.Int ∷ kinds.Int ∷ []
three_lengths = refl

-- ---- divisions and returns

two_longs : row_takes world of_nothing (row (ops.Simple (simples.LongBinary longs.Div))) ≡ kinds.Long ∷ kinds.Long ∷ []
two_longs = refl

nothing_is_returned : row_takes world of_nothing (returns None) ≡ []
nothing_is_returned = refl

-- ---- arguments: of an int and then a long, the long lies above

abbrev of_int_and_long : Signature
of_int_and_long = record {
  args = record { dimensions = 0; element = elements.Int } ∷ record { dimensions = 0; element = elements.Long } ∷ [];
  result = None;
}

the_receiver_lies_lowest : called_takes virtual of_int_and_long ≡ kinds.Long ∷ kinds.Int ∷ kinds.Reference ∷ []
the_receiver_lies_lowest = refl

a_static_method_has_none : called_takes static of_int_and_long ≡ kinds.Long ∷ kinds.Int ∷ []
a_static_method_has_none = refl
