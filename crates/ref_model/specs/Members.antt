-- Where the values of fields lie, and which methods are native, synchronized or class initializers (JVMS 2.5.1, 2.9.2, 4.5, 4.6).
use Rattle.std.specs.Prelude.{ℕ, Bool, false, ◌&&◌, List, Option, None, codes, map, slice_get}
use Rattle.std.specs.Option.{option_map_or}
use Rattle.class_model.specs.declared.class_file.ClassFile.{ClassFile}
use Rattle.class_model.specs.declared.member.Member.{Member}
use Rattle.class_grammar.specs.Text.{same_text}
use Rattle.items.specs.Options.{◌>>=◌}
use Rattle.lib_table.specs.declared.native.Native.{Native}
use Rattle.lib_table.specs.Natives.{native_of}
use Rattle.link_rules.specs.Program.{own_name, class_at}
use Rattle.link_rules.specs.Selection.{key_in}
use Rattle.instruction_rows.specs.declared.value.Value.{Value}
use Rattle.instruction_rows.specs.declared.value.Value.TheVariants as values
use Rattle.link_model.specs.declared.members.FieldInfo.{FieldInfo}
use Rattle.link_model.specs.declared.members.MethodInfo.{MethodInfo}
use Rattle.link_model.specs.World.{World}
pub use Rattle.link_model.specs.Fields.{is_static_field, own_fields, instance_fields, field_place, static_place}
pub use Rattle.link_model.specs.Initializers.{is_initializer, is_synchronized}
pub use Rattle.link_model.specs.Methods.{method_place}
use Rattle.ref_model.specs.Kinds.{zero_of}

-- ---- fields

-- the value that a field has in a new object
abbrev pub field_zero : World → ℕ → Value
field_zero w n = option_map_or (λ (f : FieldInfo). zero_of f.kind) (slice_get w.fields n) values.Null

-- the values of a new object of the class (JVMS 6.5: new)
abbrev pub new_values : World → ℕ → List Value
new_values w class = map (field_zero w) (instance_fields w class)

-- ---- methods

abbrev pub native_of_member : ClassFile → Member → Option Native
native_of_member f m = native_of (own_name f) (key_in f.pool m).name (key_in f.pool m).descriptor

abbrev pub native_in : ℕ → ClassFile → Option Native
native_in index f = slice_get f.methods index >>= native_of_member f

-- what the machine does in place of the method's code, where the method is native
abbrev pub native_at : World → ℕ → Option Native
native_at w n = method_place w n >>= λ at. class_at (native_in at.index) None w.program at.class

-- jvt.Native.hold, whose frame pins its thread
abbrev pub is_hold : World → MethodInfo → Bool
is_hold w m = class_at (λ f. same_text (own_name f) (codes "jvt/Native")) false w.program m.class && same_text m.name (codes "hold")
