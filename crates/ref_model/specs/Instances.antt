-- Objects and their classes (JVMS 6.5: new, checkcast, instanceof, athrow).
use Rattle.std.specs.Prelude.{ℕ, pos, List, Option, Some, None, if◌then◌else◌}
use Rattle.items.specs.Options.{◌>>=◌}
use Rattle.opcodes.specs.declared.op.ValueKind.TheVariants as kinds
use Rattle.instruction_rows.specs.declared.value.Value.TheVariants as values
use Rattle.instruction_rows.specs.declared.value.Slot.{Slot}
use Rattle.instruction_rows.specs.SlotEffect.{popped}
use Rattle.link_model.specs.declared.sites.Resolution.{Resolution}
use Rattle.link_model.specs.World.{World}
use Rattle.ref_model.specs.declared.exception.Exception.TheVariants as exceptions
use Rattle.ref_model.specs.Classes.{is_sub}
use Rattle.ref_model.specs.Members.{new_values}
use Rattle.ref_model.specs.Memory.{Memory}
use Rattle.ref_model.specs.Heap.{class_at, with_instance}
use Rattle.ref_model.specs.Fetch.{class_of}
use Rattle.ref_model.specs.Effects.{Effect, done, gives, gives_new, throws, throws_object, not_null}

-- new: an object whose fields have their first values
abbrev pub object_made : World → Resolution → Memory → List Slot → Option Effect
object_made w resolution r stack =
    class_of resolution.site >>= λ class. Some (gives_new (with_instance r class (new_values w class)) stack)

-- checkcast: null and an instance of the class stay on the operand stack
abbrev pub cast : World → ℕ → Memory → Option ℕ → List Slot → Option Effect
cast w class r None stack = Some (done r stack)
cast w class r (Some o) stack =
    class_at w r o >>= λ c. Some (if is_sub w c class then done r stack else throws exceptions.ClassCastException)

abbrev pub object_cast : World → Resolution → Memory → List Slot → Option Effect
object_cast w resolution r stack =
    class_of resolution.site >>= λ class. popped kinds.Reference stack >>= λ x. cast w class r x.0 stack

-- instanceof: 1 where the object is an instance of the class, 0 where it isn't and for null
abbrev pub judged : World → ℕ → Memory → Option ℕ → List Slot → Option Effect
judged w class r None rest = Some (gives r (values.Int (pos 0)) rest)
judged w class r (Some o) rest =
    class_at w r o >>= λ c. Some (gives r (values.Int (if is_sub w c class then pos 1 else pos 0)) rest)

abbrev pub object_judged : World → Resolution → Memory → List Slot → Option Effect
object_judged w resolution r stack =
    class_of resolution.site >>= λ class. popped kinds.Reference stack >>= λ x. judged w class r x.0 x.1

-- athrow
abbrev pub object_thrown : List Slot → Option Effect
object_thrown stack = popped kinds.Reference stack >>= λ x. not_null x.0 (λ o. Some (throws_object o))
