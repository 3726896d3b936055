-- Fields (JVMS 6.5: getstatic, putstatic, getfield, putfield). Null is tested first, and then the class of the object.
use Rattle.std.specs.Prelude.{List, Option, Some, slice_get}
use Rattle.items.specs.Options.{◌>>=◌}
use Rattle.opcodes.specs.declared.op.ValueKind.TheVariants as kinds
use Rattle.instruction_rows.specs.declared.value.Value.{Value}
use Rattle.instruction_rows.specs.declared.value.Slot.{Slot}
use Rattle.instruction_rows.specs.Contents.{with_item}
use Rattle.instruction_rows.specs.Kinds.{value}
use Rattle.instruction_rows.specs.SlotEffect.{popped}
use Rattle.link_model.specs.declared.members.FieldInfo.{FieldInfo}
use Rattle.link_model.specs.declared.sites.Resolution.{Resolution}
use Rattle.link_model.specs.World.{World}
use Rattle.ref_model.specs.Kinds.{value_kind, kept}
use Rattle.ref_model.specs.Members.{field_place, static_place}
use Rattle.ref_model.specs.Memory.{Memory}
use Rattle.ref_model.specs.Heap.{values_at, with_value}
use Rattle.ref_model.specs.Fetch.{field_of}
use Rattle.ref_model.specs.Effects.{Effect, done, gives, on_instance}

-- a value of the field's type on top, as the field keeps it, and what lies below
abbrev pub stored : FieldInfo → List Slot → Option (Value × List Slot)
stored f stack = popped (value_kind f.kind) stack >>= λ x. Some (kept f.kind (value (value_kind f.kind) x.0), x.1)

-- ---- static fields

abbrev pub static_gotten : World → Resolution → Memory → List Slot → Option Effect
static_gotten w resolution r stack =
    field_of resolution.site >>= λ n. slice_get r.statics (static_place w n) >>= λ v. Some (gives r v stack)

abbrev pub static_put : World → Resolution → Memory → List Slot → Option Effect
static_put w resolution r stack = do
  n ← field_of resolution.site
  f ← slice_get w.fields n
  x ← stored f stack
  statics ← with_item (static_place w n) x.0 r.statics
  Some (done (record r { statics = statics }) x.1)

-- ---- fields of an object

abbrev pub field_gotten : World → Resolution → Memory → List Slot → Option Effect
field_gotten w resolution r stack = do
  n ← field_of resolution.site
  x ← popped kinds.Reference stack
  on_instance w resolution r x.0 (λ o class. do
    place ← field_place w n
    fields ← values_at r o
    v ← slice_get fields place
    Some (gives r v x.1))

abbrev pub field_put : World → Resolution → Memory → List Slot → Option Effect
field_put w resolution r stack = do
  n ← field_of resolution.site
  f ← slice_get w.fields n
  x ← stored f stack
  y ← popped kinds.Reference x.1
  on_instance w resolution r y.0 (λ o class. do
    place ← field_place w n
    q ← with_value r o place x.0
    Some (done q y.1))
