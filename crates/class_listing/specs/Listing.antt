-- The text of a class file: a line for each of its parts, in their order. One with a part that has no line has no
-- listing.
use Rattle.std.specs.Prelude.{ℕ, List, [], ◌∷◌, Option, Some, None, ◌==◌, if◌then◌else◌}
use Rattle.items.specs.Options.{◌>>=◌}
use Rattle.class_model.specs.declared.constant.Const.{Const}
use Rattle.class_model.specs.declared.attribute.Attribute.{Attribute}
use Rattle.class_model.specs.declared.member.Member.{Member}
use Rattle.class_model.specs.declared.class_file.ClassFile.{ClassFile}
use Rattle.asm_text.specs.declared.line.Line.{Line}
use Rattle.asm_text.specs.declared.line.Line.TheVariants as lines
use Rattle.asm_code.specs.Encoding.{Step}
use Rattle.asm_listing.specs.Words.{class_at, word_at}
use Rattle.class_listing.specs.Flags.{class_flags, member_flags}
use Rattle.class_listing.specs.Methods.{with_line, with_methods}

abbrev pub class_line : List Const → ℕ → ℕ → Option Line
class_line pool flags own = do
  name ← class_at pool own
  Some (lines.Class (class_flags flags) name)

abbrev pub with_class : List Const → ℕ → ℕ → Step
with_class pool flags own text = do
  line ← class_line pool flags own
  Some (with_line line text)

-- a class without a superclass has no line for it
abbrev pub with_super : List Const → ℕ → Step
with_super pool parent text =
    if parent == 0 then Some text
    else (class_at pool parent >>= λ name. Some (with_line (lines.Super name) text))

abbrev pub with_interface : List Const → ℕ → Step
with_interface pool index text = do
  name ← class_at pool index
  Some (with_line (lines.Implements name) text)

abbrev pub with_interfaces : List Const → List ℕ → Step
with_interfaces pool [] text = Some text
with_interfaces pool (index ∷ indexes) text = do
  next ← with_interface pool index text
  with_interfaces pool indexes next

abbrev pub without : {A : Type 0} → List Attribute → A → Option A
without [] x = Some x
without (a ∷ as') x = None

abbrev pub field_line : List Const → Member → Option Line
field_line pool m = do
  name ← word_at pool m.name
  descriptor ← word_at pool m.descriptor
  Some (lines.Field (member_flags m.flags) name descriptor)

-- a field has no attribute
abbrev pub with_field : List Const → Member → Step
with_field pool m text = do
  line ← field_line pool m
  without m.attributes (with_line line text)

abbrev pub with_fields : List Const → List Member → Step
with_fields pool [] text = Some text
with_fields pool (m ∷ ms) text = do
  next ← with_field pool m text
  with_fields pool ms next

abbrev pub listing : ClassFile → Option (List ℕ)
listing f = do
  head ← with_class f.pool f.flags f.own []
  parent ← with_super f.pool f.parent head
  interfaces ← with_interfaces f.pool f.interfaces parent
  fields ← with_fields f.pool f.fields interfaces
  with_methods f.pool f.methods fields
