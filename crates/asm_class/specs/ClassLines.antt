-- The lines of a class and of its members, before the bodies of methods (JVMS 4.1, 4.5, 4.6).
use Rattle.std.specs.Prelude.{ℕ, Bool, List, [], ◌∷◌, ◌++◌, length, codes, Option, Some, None, nat_lt, ◌&&◌, if◌then◌else◌}
use Rattle.items.specs.Options.{◌>>=◌}
use Rattle.class_model.specs.declared.constant.Const.{Const}
use Rattle.class_model.specs.declared.attribute.Attribute.{Attribute}
use Rattle.class_model.specs.declared.member.Member.{Member}
use Rattle.class_grammar.specs.Checks.{has_no_code}
use Rattle.class_grammar.specs.Names.{object_class}
use Rattle.class_grammar.specs.Text.{same_text}
use Rattle.asm_text.specs.declared.line.Flag.{Flag}
use Rattle.asm_pool.specs.Mentions as pools
use Rattle.asm_class.specs.declared.assembly.Stage.{Stage}
use Rattle.asm_class.specs.declared.assembly.Stage.TheVariants as stages
use Rattle.asm_class.specs.declared.assembly.ClassParts.{ClassParts}
use Rattle.asm_class.specs.declared.assembly.MethodParts.{MethodParts}
use Rattle.asm_class.specs.Flags.{bits_of}
use Rattle.asm_class.specs.Names.{class_at, names_at, is_field_of, is_method_of}
use Rattle.asm_class.specs.States.{State}

-- whether one more fits a list whose count has two bytes
abbrev pub has_room : {X : Type 0} → List X → Bool
has_room xs = nat_lt (length xs) 65535

-- java/lang/Object, and no other class, has no superclass
abbrev pub after_class : List ℕ → Stage
after_class name = if same_text name object_class then stages.Interfaces else stages.Super

abbrev pub class_line : List Flag → List ℕ → State → Option State
class_line flags name s = do
  own ← class_at name s.pool
  Some (record s {
    stage = after_class name;
    pool = own.1;
    class = record s.class { flags = bits_of flags; own = own.0 };
  })

abbrev pub super_line : List ℕ → State → Option State
super_line name s = do
  parent ← class_at name s.pool
  Some (record s { stage = stages.Interfaces; pool = parent.1; class = record s.class { parent = parent.0 } })

abbrev pub with_interface : ClassParts → ℕ → ClassParts
with_interface class index = record class { interfaces = class.interfaces ++ index ∷ [] }

abbrev pub implements_line : List ℕ → State → Option State
implements_line name s =
    if has_room s.class.interfaces
    then (class_at name s.pool >>= λ interface.
    Some (record s { pool = interface.1; class = with_interface s.class interface.0 }))
    else None

-- ---- fields

abbrev pub field_of : ℕ → ℕ × ℕ → Member
field_of flags names = record { flags = flags; name = names.0; descriptor = names.1; attributes = [] }

abbrev pub with_field : ClassParts → Member → ClassParts
with_field class field = record class { fields = class.fields ++ field ∷ [] }

abbrev pub field_line : List Flag → List ℕ → List ℕ → State → Option State
field_line flags name descriptor s =
    if is_field_of name descriptor && has_room s.class.fields
    then (names_at name descriptor s.pool >>= λ names. Some (record s {
      stage = stages.Fields;
      pool = names.1;
      class = with_field s.class (field_of (bits_of flags) names.0);
    }))
    else None

-- ---- methods

-- a method that is abstract or native has no code
abbrev pub after_method : ℕ → Stage
after_method flags = if has_no_code flags then stages.NoCode else stages.Stack

-- the index of the name of the attribute, where the method has code
abbrev pub code_at : ℕ → List Const → pools.Mention
code_at flags pool = if has_no_code flags then Some (0, pool) else pools.text (codes "Code") pool

abbrev pub method_of : ℕ → ℕ × ℕ → ℕ → MethodParts
method_of flags names code = record { flags = flags; name = names.0; descriptor = names.1; code = code }

abbrev pub method_line : List Flag → List ℕ → List ℕ → State → Option State
method_line flags name descriptor s =
    if is_method_of name descriptor && has_room s.class.methods
    then (names_at name descriptor s.pool >>= λ names. code_at (bits_of flags) names.1 >>= λ code. Some (record s {
      stage = after_method (bits_of flags);
      pool = code.1;
      method = method_of (bits_of flags) names.0 code.0;
    }))
    else None

-- the method, and what it has
abbrev pub with_method : List Attribute → State → State
with_method attributes s =
    let m : Member = record { flags = s.method.flags; name = s.method.name; descriptor = s.method.descriptor; attributes = attributes } in
    record s { stage = stages.Methods; class = record s.class { methods = s.class.methods ++ m ∷ [] } }
