-- The recognized attributes (JVMS 4.7): the Code of a method, the ConstantValue of a field and the StackMapTable of a Code, each
-- at most once in one holder. Every other attribute is its bytes.
use Rattle.std.specs.Prelude.{◌≡◌, ℕ, Bool, true, false, not, List, [], ◌∷◌, codes, ◌&&◌, if◌then◌else◌}
use Rattle.std.specs.Option.{option_map_or}
use Rattle.std.specs.List.{AllByRecursion}
use Rattle.class_model.specs.declared.constant.Const.{Const}
use Rattle.class_model.specs.declared.attribute.Attribute.{Attribute}
use Rattle.class_model.specs.declared.attribute.Body.{Body}
use Rattle.class_model.specs.declared.attribute.Body.TheVariants.{Code, Constant, Other}
use Rattle.class_model.specs.declared.attribute.CodeAttribute.{CodeAttribute}
use Rattle.class_model.specs.declared.attribute.CodeExtra.{CodeExtra}
use Rattle.class_model.specs.declared.attribute.CodeExtra.TheVariants as extras
use Rattle.class_model.specs.declared.member.Member.{Member}
use Rattle.class_model.specs.declared.class_file.ClassFile.{ClassFile}
use Rattle.class_grammar.specs.declared.holder.Holder.{Holder}
use Rattle.class_grammar.specs.declared.holder.Holder.TheVariants as holders
use Rattle.class_grammar.specs.Text.{same_text}
use Rattle.class_grammar.specs.Pool.{text_at}

-- whether the attribute of this name is recognized in this holder
abbrev pub is_recognized : Holder → List ℕ → Bool
is_recognized holders.Class name = false
is_recognized holders.Field name = same_text name (codes "ConstantValue")
is_recognized holders.Method name = same_text name (codes "Code")

-- whether an attribute of a Code is a StackMapTable by its name
abbrev pub is_stack_map_name : List ℕ → Bool
is_stack_map_name name = same_text name (codes "StackMapTable")

abbrev pub is_method : Holder → Bool
is_method holders.Method = true
is_method holder = false

abbrev pub is_field : Holder → Bool
is_field holders.Field = true
is_field holder = false

-- whether an attribute of this name has such a body in this holder
abbrev pub has_body_name : Holder → Body → List ℕ → Bool
has_body_name holder (Code c) name = is_method holder && is_recognized holder name
has_body_name holder (Constant value) name = is_field holder && is_recognized holder name
has_body_name holder (Other bytes) name = not (is_recognized holder name)

abbrev pub has_extra_name : CodeExtra → List ℕ → Bool
has_extra_name (extras.StackMap bytes) name = is_stack_map_name name
has_extra_name (extras.Other bytes) name = not (is_stack_map_name name)

abbrev pub is_recognized_body : Body → Bool
is_recognized_body (Other bytes) = false
is_recognized_body body = true

abbrev pub is_map : CodeExtra → Bool
is_map (extras.StackMap bytes) = true
is_map (extras.Other bytes) = false

-- whether at most one item passes the test, and none where one has been seen before
abbrev pub at_most_one : {X : Type 0} → (X → Bool) → Bool → List X → Bool
at_most_one test seen [] = true
at_most_one test seen (x ∷ xs) = if test x then not seen && at_most_one test true xs else at_most_one test seen xs

-- whether the name is a text, and the body is of the kind that the name says
abbrev pub is_extra_of_name : List Const → CodeAttribute → Bool
is_extra_of_name pool a = option_map_or (has_extra_name a.body) (text_at pool a.name) false

-- the attributes of a Code
pub record AreExtras (pool : List Const) (seen : Bool) (extras : List CodeAttribute) : Type 0 where
  pub named : AllByRecursion (λ (a : CodeAttribute). is_extra_of_name pool a ≡ true) extras
  pub single : at_most_one (λ (a : CodeAttribute). is_map a.body) seen extras ≡ true

abbrev pub HasOwnAttributes : List Const → Body → Type 0
HasOwnAttributes pool (Code c) = AreExtras pool false c.attributes
HasOwnAttributes pool body = Unit {0}

pub record IsAttributeAt (pool : List Const) (holder : Holder) (a : Attribute) : Type 0 where
  pub named : option_map_or (has_body_name holder a.body) (text_at pool a.name) false ≡ true
  pub inside : HasOwnAttributes pool a.body

-- the attributes of a holder, where a recognized one has been seen before or has not
pub record AreAttributesAt (pool : List Const) (holder : Holder) (seen : Bool) (attributes : List Attribute) : Type 0 where
  pub each : AllByRecursion (IsAttributeAt pool holder) attributes
  pub single : at_most_one (λ (a : Attribute). is_recognized_body a.body) seen attributes ≡ true

abbrev pub AreMembers : List Const → Holder → List Member → Type 0
AreMembers pool holder members = AllByRecursion (λ (m : Member). AreAttributesAt pool holder false m.attributes) members

-- each attribute of the file is of the kind that its name and its holder say
pub record HasAttributes (f : ClassFile) : Type 0 where
  pub fields : AreMembers f.pool holders.Field f.fields
  pub methods : AreMembers f.pool holders.Method f.methods
  pub attributes : AreAttributesAt f.pool holders.Class false f.attributes
