-- A class file that is sound is spelled.
use Rattle.std.proofs.Common.{◌≡◌, ℕ, ◌≤◌, ◌==◌, ◌⊎◌, inl, inr, Bool, true, false, not, ◌||◌, cond, List, [], ◌∷◌, length, codes, Option, None, refl, sym, ◌∙◌, ap, subst, arith}
use Rattle.std.specs.Option.{option_map_or}
use Rattle.std.specs.List.{AllByRecursion, flat_map, list_any}
use Rattle.std.proofs.lemmas.Bool.{le-leb, lt-ltb}
use Rattle.std.proofs.lemmas.List.Concat.{flat_map-cons}
use Rattle.class_model.specs.declared.constant.Const.{Const}
use Rattle.class_model.specs.declared.attribute.Attribute.{Attribute}
use Rattle.class_model.specs.declared.attribute.Body.{Body}
use Rattle.class_model.specs.declared.attribute.Body.TheVariants.{Code}
use Rattle.class_model.specs.declared.attribute.CodeBody.{CodeBody}
use Rattle.class_model.specs.declared.attribute.CodeAttribute.{CodeAttribute}
use Rattle.class_model.specs.declared.attribute.CodeExtra.{CodeExtra}
use Rattle.class_model.specs.declared.attribute.CodeExtra.TheVariants as extras
use Rattle.class_model.specs.declared.attribute.Row.{Row}
use Rattle.class_model.specs.declared.member.Member.{Member}
use Rattle.class_model.specs.declared.class_file.ClassFile.{ClassFile}
use Rattle.class_grammar.specs.declared.class_why.ClassWhy.{ClassWhy}
use Rattle.class_grammar.specs.declared.class_why.ClassWhy.TheVariants as whys
use Rattle.class_grammar.specs.declared.holder.Holder.TheVariants as holders
use Rattle.class_grammar.specs.Text.{same_text}
use Rattle.class_grammar.specs.Names.{object_class, is_field_name, is_method_name}
use Rattle.class_grammar.specs.Pool.{text_at, is_text}
use Rattle.class_grammar.specs.Layout as layout
use Rattle.class_grammar.specs.Ranges.{IsU2, IsU4, IsSized, IsBody, IsTable, IsMember, IsAttribute, IsCode, IsRow, IsCodeAttribute, IsInRange}
use Rattle.class_grammar.specs.Attributes.{has_body_name, is_extra_of_name, has_extra_name, is_map, is_recognized_body, HasOwnAttributes, AreExtras, IsAttributeAt, AreAttributesAt, HasAttributes}
use Rattle.class_grammar.specs.Checks.{Item, unless, class_fault, parent_fault, interface_items, class_items, catch_fault, row_items, code_items, extra_items, body_items, attribute_items, field_items, method_items, member_items, pool_items, items, has_no_code, is_code, text_fault, is_object}
use Rattle.class_grammar.specs.Grammar.{IsSound, Spells}
use Rattle.descriptors.specs.States.{is_field, is_method}
use Rattle.asm_soundness.specs.Pools.{IsClassAt}
use Rattle.asm_soundness.specs.SoundStates.{IsPassed, IsSoundClass, IsSoundField, IsCaughtAt, IsSoundRow, IsSoundMap, AreSoundMaps, IsSoundCode, IsSoundAttribute, AreSoundAttributes, IsSoundMethod, AreFew, IsSoundFile}
use Rattle.asm_soundness.proofs.SpellLaws.{range_is, sound_is, small_text, small_class, class_sound, text_sound, all_append}

-- ---- what holds of each item of a list

pub all_by : {X : Type 0} (P Q : X → Type 0) → ((x : X) → P x → Q x) → (xs : List X) → AllByRecursion P xs → AllByRecursion Q xs
all_by P Q f [] h = tt
all_by P Q f (x ∷ xs) h = (f x h.0, all_by P Q f xs h.1)

table_by : {X : Type 0} (P Q : X → Type 0) → ((x : X) → P x → Q x) → (xs : List X) → AreFew P xs → IsTable Q xs
table_by P Q f xs h = let few = h.few in (omega arith, all_by P Q f xs h.each)

items_by : {X : Type 0} (P : X → Type 0) (part : X → List Item) → ((x : X) → P x → AllByRecursion IsSound (part x)) → (xs : List X) → AllByRecursion P xs → AllByRecursion IsSound (flat_map part xs)
items_by P part f [] h = tt
items_by P part f (x ∷ xs) h =
    subst (AllByRecursion IsSound) (sym (flat_map-cons part x xs)) (all_append (part x) (flat_map part xs) (f x h.0) (items_by P part f xs h.1))

-- ---- code

module _ (pool : List Const) (few : length pool ≤ 65535) where
  row_range : (size : ℕ) → IsU2 size → (r : Row) → IsSoundRow pool size r → IsRow r
  row_range size small r h =
      let a = h.start in let b = h.end in let c = h.handler in
      record { start = omega arith; end = omega arith; handler = omega arith; catch_type = caught h.caught }
    where
      caught : IsCaughtAt pool r.catch_type → IsU2 r.catch_type
      caught (inl z) = omega arith
      caught (inr k) = small_class pool r.catch_type few k

  no_fault : (b : Bool) (o : Option ClassWhy) → o ≡ None → cond b None o ≡ None
  no_fault true o e = refl
  no_fault false o e = e

  caught_sound : (i : ℕ) → IsCaughtAt pool i → catch_fault pool i ≡ None
  caught_sound i (inl z) = ap (λ (n : ℕ). catch_fault pool n) z
  caught_sound i (inr k) = no_fault (i == 0) (class_fault pool i) (class_sound pool i k)

  row_sound : (size : ℕ) (r : Row) → IsSoundRow pool size r → AllByRecursion IsSound (row_items pool size r)
  row_sound size r h = (
    ap (λ (b : Bool). unless b whys.Range) (lt-ltb r.start r.end h.start),
    (
      ap (λ (b : Bool). unless b whys.Range) (le-leb r.end size h.end),
      (
        ap (λ (b : Bool). unless b whys.Range) (lt-ltb r.handler size h.handler),
        (caught_sound r.catch_type h.caught, tt),
      ),
    ),
  )

  map_range : (a : CodeAttribute) → IsSoundMap pool a → IsCodeAttribute a
  map_range a h = record {
    name = small_text pool a.name (codes "StackMapTable") few h.name;
    contents = subst (λ (e : CodeExtra). IsSized (layout.code_extra e)) (sym h.body) h.sized;
  }

  maps_range : (as' : List CodeAttribute) → AreSoundMaps pool as' → IsTable IsCodeAttribute as'
  maps_range [] h = (omega arith, tt)
  maps_range (a ∷ []) h = (omega arith, (map_range a h, tt))
  maps_range (a ∷ b ∷ cs) h = absurd h

  code_range : (c : CodeBody) → IsSoundCode pool c → IsCode c
  code_range c h = record {
    max_stack = h.max_stack;
    max_locals = h.max_locals;
    code = (h.some, h.few, h.bytes);
    rows = (h.few_rows, all_by (IsSoundRow pool (length c.code)) IsRow (row_range (length c.code) h.few) c.rows h.rows);
    attributes = maps_range c.attributes h.maps;
  }

  extras_sound : (as' : List CodeAttribute) → AllByRecursion IsSound (flat_map extra_items as')
  extras_sound [] = tt
  extras_sound (a ∷ cs) = subst (AllByRecursion IsSound) (sym (flat_map-cons extra_items a cs)) (all_append (extra_items a) (flat_map extra_items cs) (refl, (refl, tt)) (extras_sound cs))

  code_sound : (c : CodeBody) → IsSoundCode pool c → AllByRecursion IsSound (code_items pool c)
  code_sound c h = (
    refl,
    (
      refl,
      (
        refl,
        all_append (flat_map (row_items pool (length c.code)) c.rows) _
            (items_by (IsSoundRow pool (length c.code)) (row_items pool (length c.code)) (row_sound (length c.code)) c.rows h.rows)
            (refl, extras_sound c.attributes),
      ),
    ),
  )

  map_named : (a : CodeAttribute) → IsSoundMap pool a → is_extra_of_name pool a ≡ true
  map_named a h =
      ap (λ (e : CodeExtra). option_map_or (has_extra_name e) (text_at pool a.name) false) h.body
      ∙ ap (λ (o : Option (List ℕ)). option_map_or (has_extra_name (extras.StackMap h.bytes)) o false) h.name

  maps_at : (as' : List CodeAttribute) → AreSoundMaps pool as' → AreExtras pool false as'
  maps_at [] h = record { named = tt; single = refl }
  maps_at (a ∷ []) h = record { named = (map_named a h, tt); single = ap (λ (e : CodeExtra). cond (is_map e) true true) h.body }
  maps_at (a ∷ b ∷ cs) h = absurd h

  -- ---- attributes

  attribute_range : (a : Attribute) → IsSoundAttribute pool a → IsAttribute a
  attribute_range a h = record {
    name = small_text pool a.name (codes "Code") few h.name;
    contents = subst (λ (b : Body). IsBody b) (sym h.body) (code_range h.code h.sound);
    size = subst (λ (b : Body). IsU4 (length (layout.body b))) (sym h.body) h.sound.size;
  }

  attribute_at : (a : Attribute) → IsSoundAttribute pool a → IsAttributeAt pool holders.Method a
  attribute_at a h = record {
    named = ap (λ (b : Body). option_map_or (has_body_name holders.Method b) (text_at pool a.name) false) h.body
        ∙ ap (λ (o : Option (List ℕ)). option_map_or (has_body_name holders.Method (Code h.code)) o false) h.name;
    inside = subst (λ (b : Body). HasOwnAttributes pool b) (sym h.body) (maps_at h.code.attributes h.sound.maps);
  }

  attribute_sound : (m : Member) (a : Attribute) → IsSoundAttribute pool a → AllByRecursion IsSound (attribute_items pool m a)
  attribute_sound m a h = (refl, subst (λ (b : Body). AllByRecursion IsSound (body_items pool m b)) (sym h.body) (code_sound h.code h.sound))

  attributes_range : (flags : ℕ) (as' : List Attribute) → AreSoundAttributes pool flags as' → IsTable IsAttribute as'
  attributes_range flags [] h = (omega arith, tt)
  attributes_range flags (a ∷ []) h = (omega arith, (attribute_range a h.1, tt))
  attributes_range flags (a ∷ b ∷ cs) h = absurd h

  attributes_at : (flags : ℕ) (as' : List Attribute) → AreSoundAttributes pool flags as' → AreAttributesAt pool holders.Method false as'
  attributes_at flags [] h = record { each = tt; single = refl }
  attributes_at flags (a ∷ []) h = record { each = (attribute_at a h.1, tt); single = ap (λ (b : Body). cond (is_recognized_body b) true true) h.1.body }
  attributes_at flags (a ∷ b ∷ cs) h = absurd h

  attributes_sound : (m : Member) (flags : ℕ) (as' : List Attribute) → AreSoundAttributes pool flags as' → AllByRecursion IsSound (flat_map (attribute_items pool m) as')
  attributes_sound m flags [] h = tt
  attributes_sound m flags (a ∷ []) h =
      subst (AllByRecursion IsSound) (sym (flat_map-cons (attribute_items pool m) a [])) (all_append (attribute_items pool m a) (flat_map (attribute_items pool m) []) (attribute_sound m a h.1) tt)
  attributes_sound m flags (a ∷ b ∷ cs) h = absurd h

  has_code : (flags : ℕ) (as' : List Attribute) → AreSoundAttributes pool flags as' → (has_no_code flags ≡ not (list_any is_code as'))
  has_code flags [] h = h
  has_code flags (a ∷ []) h = h.0 ∙ sym (ap (λ (b : Body). not (is_code (record { name = a.name; body = b }) || false)) h.1.body)
  has_code flags (a ∷ b ∷ cs) h = absurd h

  -- ---- fields and methods

  passed_sound : (test : List ℕ → Bool) (why : ClassWhy) (i : ℕ) → IsPassed test pool i → text_fault test why pool i ≡ None
  passed_sound test why i h = text_sound test why pool i h.units h.is h.passed

  passed_small : (test : List ℕ → Bool) (i : ℕ) → IsPassed test pool i → IsU2 i
  passed_small test i h = small_text pool i h.units few h.is

  field_range : (m : Member) → IsSoundField pool m → IsMember m
  field_range m h = record {
    flags = h.flags;
    name = passed_small _ m.name h.name;
    descriptor = passed_small _ m.descriptor h.descriptor;
    attributes = subst (λ (as' : List Attribute). IsTable IsAttribute as') (sym h.attributes) (omega arith, tt);
  }

  field_at : (m : Member) → IsSoundField pool m → AreAttributesAt pool holders.Field false m.attributes
  field_at m h = subst (λ (as' : List Attribute). AreAttributesAt pool holders.Field false as') (sym h.attributes) (record { each = tt; single = refl })

  field_is_sound : (m : Member) → IsSoundField pool m → AllByRecursion IsSound (field_items pool m)
  field_is_sound m h = (
    refl,
    (
      passed_sound is_field_name whys.Name m.name h.name,
      (
        passed_sound is_field whys.Descriptor m.descriptor h.descriptor,
        (refl, subst (λ (as' : List Attribute). AllByRecursion IsSound (flat_map (attribute_items pool m) as')) (sym h.attributes) tt),
      ),
    ),
  )

  method_range : (m : Member) → IsSoundMethod pool m → IsMember m
  method_range m h = record {
    flags = h.flags;
    name = passed_small _ m.name h.name;
    descriptor = passed_small _ m.descriptor h.descriptor;
    attributes = attributes_range m.flags m.attributes h.attributes;
  }

  code_is : (none some : Bool) → none ≡ not some → unless (cond none (not some) some) whys.Code ≡ None
  code_is true true e = absurd cc
  code_is true false e = refl
  code_is false true e = refl
  code_is false false e = absurd cc

  method_is_sound : (m : Member) → IsSoundMethod pool m → AllByRecursion IsSound (method_items pool m)
  method_is_sound m h = (
    code_is (has_no_code m.flags) (list_any is_code m.attributes) (has_code m.flags m.attributes h.attributes),
    (
      passed_sound is_method_name whys.Name m.name h.name,
      (
        passed_sound is_method whys.Descriptor m.descriptor h.descriptor,
        (refl, attributes_sound m m.flags m.attributes h.attributes),
      ),
    ),
  )

  -- ---- the class

  parent_sound : (own parent : ℕ) → IsSoundClass pool own parent → parent_fault pool own parent ≡ None
  parent_sound own parent h = by h.parent_is
    where
      object : is_object pool own ≡ same_text h.name object_class
      object = ap (λ (o : Option (List ℕ)). option_map_or (is_text object_class) o false) h.own_is

      by : ((same_text h.name object_class ≡ true) × (parent ≡ 0)) ⊎ ((same_text h.name object_class ≡ false) × IsClassAt pool parent) → parent_fault pool own parent ≡ None
      by (inl k) = ap (λ (b : Bool). cond b (unless (parent == 0) whys.Index) (class_fault pool parent)) (object ∙ k.0) ∙ ap (λ (n : ℕ). unless (n == 0) whys.Index) k.1
      by (inr k) = ap (λ (b : Bool). cond b (unless (parent == 0) whys.Index) (class_fault pool parent)) (object ∙ k.0) ∙ class_sound pool parent k.1

  parent_small : (own parent : ℕ) → IsSoundClass pool own parent → IsU2 parent
  parent_small own parent h = by h.parent_is
    where
      by : ((same_text h.name object_class ≡ true) × (parent ≡ 0)) ⊎ ((same_text h.name object_class ≡ false) × IsClassAt pool parent) → IsU2 parent
      by (inl k) = let z = k.1 in omega arith
      by (inr k) = small_class pool parent few k.1

  interfaces_sound : (is : List ℕ) → AllByRecursion (IsClassAt pool) is → AllByRecursion IsSound (interface_items pool is)
  interfaces_sound [] h = tt
  interfaces_sound (i ∷ is) h = (class_sound pool i h.0, interfaces_sound is h.1)

-- ---- the file

module _ (f : ClassFile) (h : IsSoundFile f) where
  few : length f.pool ≤ 65535
  few = h.pool.few

  own_at : IsClassAt f.pool f.own
  own_at = record { name = h.class.name; here = h.class.own_is }

  none_range : IsTable IsAttribute f.attributes
  none_range = subst (λ (as' : List Attribute). IsTable IsAttribute as') (sym h.attributes) (omega arith, tt)

  pub in_range : IsInRange f
  in_range =
      let minor = h.minor in let major = h.major in
      record {
        version = (omega arith, omega arith, omega arith, λ _. h.minor);
        pool = range_is f.pool h.pool;
        flags = h.flags;
        own = small_class f.pool f.own few own_at;
        parent = parent_small f.pool few f.own f.parent h.class;
        interfaces = table_by (IsClassAt f.pool) IsU2 (λ i k. small_class f.pool i few k) f.interfaces h.interfaces;
        fields = table_by (IsSoundField f.pool) IsMember (field_range f.pool few) f.fields h.fields;
        methods = table_by (IsSoundMethod f.pool) IsMember (method_range f.pool few) f.methods h.methods;
        attributes = none_range;
      }

  pub by_name : HasAttributes f
  by_name = record {
    fields = all_by (IsSoundField f.pool) (λ (m : Member). AreAttributesAt f.pool holders.Field false m.attributes) (field_at f.pool few) f.fields h.fields.each;
    methods = all_by (IsSoundMethod f.pool) (λ (m : Member). AreAttributesAt f.pool holders.Method false m.attributes) (λ m k. attributes_at f.pool few m.flags m.attributes k.attributes) f.methods h.methods.each;
    attributes = subst (λ (as' : List Attribute). AreAttributesAt f.pool holders.Class false as') (sym h.attributes) (record { each = tt; single = refl });
  }

  class_is_sound : AllByRecursion IsSound (class_items f)
  class_is_sound = (
    ap (λ (n : ℕ). unless (n == 0) whys.Unsupported) h.no_module,
    (
      class_sound f.pool f.own own_at,
      (
        parent_sound f.pool few f.own f.parent h.class,
        (refl, interfaces_sound f.pool few f.interfaces h.interfaces.each),
      ),
    ),
  )

  members_sound : AllByRecursion IsSound (member_items f)
  members_sound = (
    refl,
    all_append (flat_map (field_items f.pool) f.fields) _
        (items_by (IsSoundField f.pool) (field_items f.pool) (field_is_sound f.pool few) f.fields h.fields.each)
        (refl, items_by (IsSoundMethod f.pool) (method_items f.pool) (method_is_sound f.pool few) f.methods h.methods.each),
  )

  pub all_sound : AllByRecursion IsSound (items f)
  all_sound = all_append (pool_items f) _ (refl, sound_is f.pool h.pool) (all_append (class_items f) (member_items f) class_is_sound members_sound)

pub file_is_spelled : (f : ClassFile) → IsSoundFile f → Spells (layout.class_file f) f
file_is_spelled f h = record { layout = refl; range = in_range f h; by_name = by_name f h; sound = all_sound f h }
