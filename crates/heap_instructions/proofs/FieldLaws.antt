-- A store into a field, where its operands are known.
use Rattle.std.proofs.Common.{ℕ, ◌≡◌, ◌+◌, List, Option, Some, drop, sym, ap, ◌∙◌}
use Rattle.std.specs.Prelude.{slice_get}
use Rattle.items.specs.Options.{◌>>=◌}
use Rattle.items.proofs.Binds.{bind_is}
use Rattle.opcodes.specs.declared.op.ValueKind.TheVariants as kinds
use Rattle.instruction_rows.specs.declared.value.Slot.{Slot}
use Rattle.instruction_rows.specs.declared.value.Value.{Value}
use Rattle.instruction_rows.specs.SlotEffect.{popped}
use Rattle.link_model.specs.declared.members.FieldInfo.{FieldInfo}
use Rattle.link_model.specs.declared.sites.Resolution.{Resolution}
use Rattle.link_model.specs.World.{World}
use Rattle.ref_model.specs.Memory.{Memory}
use Rattle.ref_model.specs.Heap.{with_value}
use Rattle.ref_model.specs.Members.{field_place}
use Rattle.ref_model.specs.Fetch.{field_of}
use Rattle.ref_model.specs.Effects.{Effect, done, on_instance}
use Rattle.ref_model.specs.Fields.{stored, field_put}

-- putfield, where its field, its value and its reference are known
pub field_put_is : (w : World) (resolution : Resolution) (r : Memory) (stack : List Slot) (n : ℕ) (f : FieldInfo) (v : Value) (reference : Option ℕ) (d depth : ℕ)
    (effect : Option Effect) → Some n ≡ field_of resolution.site → Some f ≡ slice_get w.fields n → depth ≡ d →
    stored f stack ≡ Some (v, drop d stack) → popped kinds.Reference (drop depth stack) ≡ Some (reference, drop (depth + 1) stack) →
    on_instance w resolution r reference (λ o class. field_place w n >>= λ place. with_value r o place v >>= λ q. Some (done q (drop (depth + 1) stack))) ≡ effect →
    field_put w resolution r stack ≡ effect
field_put_is w resolution r stack n f v reference d depth effect site field e value object h =
    let last : (x : Value × List Slot) → Option ℕ × List Slot → Option Effect = λ x y.
    on_instance w resolution r y.0 (λ o class. field_place w n >>= λ place. with_value r o place x.0 >>= λ q. Some (done q y.1)) in
    let more : Value × List Slot → Option Effect = λ x. popped kinds.Reference x.1 >>= last x in
    let found : FieldInfo → Option Effect = λ g. stored g stack >>= more in
    bind_is (field_of resolution.site) _ n effect (sym site)
    (bind_is (slice_get w.fields n) found f effect (sym field)
    (bind_is (stored f stack) more (v, drop depth stack) effect (value ∙ ap (λ m. Some (v, drop m stack)) (sym e))
    (bind_is (popped kinds.Reference (drop depth stack)) (last (v, drop depth stack)) (reference, drop (depth + 1) stack) effect object h)))
