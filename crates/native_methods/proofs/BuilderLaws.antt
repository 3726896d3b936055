-- The text of a builder by its field.
use Rattle.std.proofs.Common.{ℕ, ◌≡◌, List, Option, Some, None, ap, refl, ◌∙◌}
use Rattle.std.specs.Prelude.{slice_get}
use Rattle.items.specs.Options.{◌>>=◌}
use Rattle.instruction_rows.specs.declared.value.Value.{Value}
use Rattle.state_model.specs.Objects.{Object}
use Rattle.ref_model.specs.Heap.{values_of}
use Rattle.heap_instructions.specs.HeapReads.{value_in}
use Rattle.native_methods.specs.NativeStates.{builder_units, field_units}

grouped : (x : Option (List Value)) (f : Value → Option (List ℕ)) →
    ((x >>= λ values. slice_get values 0) >>= f) ≡ (x >>= λ fields. slice_get fields 0 >>= f)
grouped None f = refl
grouped (Some values) f = refl

pub builder_is : (heap : List Object) (o : ℕ) (found : Option Value) → found ≡ value_in heap o 0 →
    (found >>= field_units heap) ≡ builder_units heap o
builder_is heap o found e = ap (λ (x : Option Value). x >>= field_units heap) e ∙ grouped (slice_get heap o >>= values_of) (field_units heap)
