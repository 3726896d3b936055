-- A builder whose text has grown.
use Rattle.std.proofs.Common.{ℕ, ◌≡◌, ◌++◌, List, Option, Some, ap, ◌∙◌, sym}
use Rattle.instruction_rows.specs.declared.value.Value.TheVariants as values
use Rattle.ref_model.specs.Memory.{Memory}
use Rattle.ref_model.specs.Heap.{with_text, with_value}
use Rattle.ref_model.specs.NativeRows as rows
use Rattle.ref_model.specs.NativeRows.{on_units}
use Rattle.ref_model.specs.BuilderNatives.{appended, builder_given, builder_text, builder_with}

pub appended_is : (q middle last : Memory) (this : Option ℕ) (o new : ℕ) (before units text : List ℕ) → this ≡ Some o → Some before ≡ builder_text q o →
    text ≡ before ++ units → with_text q text ≡ Some (middle, new) → with_value middle o 0 (values.Ref new) ≡ Some last →
    Some (appended q this units) ≡ Some (rows.returns_value last (values.Ref o))
appended_is q middle last this o new before units text is found joined made set =
    ap (λ (t : Option ℕ). Some (appended q t units)) is
    ∙ ap (λ (x : Option (List ℕ)). Some (on_units x (λ old. builder_with o (with_text q (old ++ units))))) (sym found)
    ∙ ap (λ (xs : List ℕ). Some (builder_with o (with_text q xs))) (sym joined)
    ∙ ap (λ (x : Option (Memory × ℕ)). Some (builder_with o x)) made
    ∙ ap (λ (x : Option Memory). Some (builder_given o x)) set
