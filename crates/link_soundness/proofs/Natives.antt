-- The native methods of a program with the built-in classes fit their descriptors: no class of a file has the name of a built-in one (JVMS 5.3).
use Rattle.std.proofs.Common.{◌≡◌, ℕ, suc, ◌+◌, ◌-◌, Bool, true, false, List, [], ◌∷◌, Option, Some, None, refl, ap, sym, subst, ◌∙◌, arith}
use Rattle.std.specs.Prelude.{slice_get, ◌&&◌, if◌then◌else◌}
use Rattle.std.specs.Option.{option_map_or, option_or}
use Rattle.std.specs.List.{list_all}
use Rattle.items.specs.First.{first_in}
use Rattle.items.specs.Options.{◌>>=◌}
use Rattle.items.proofs.Binds.{some_is}
use Rattle.class_model.specs.declared.access_flags.TheConstants.{ACC_STATIC}
use Rattle.class_model.specs.declared.class_file.ClassFile.{ClassFile}
use Rattle.class_model.specs.declared.member.Member.{Member}
use Rattle.class_grammar.specs.Text.{same_text}
use Rattle.descriptors.specs.Meaning.{signature_of}
use Rattle.lib_table.specs.declared.native.Native.{Native}
use Rattle.lib_table.specs.Build as build
use Rattle.lib_table.specs.Declarations.{Class, Method}
use Rattle.lib_table.specs.Natives as natives
use Rattle.lib_table.specs.Natives.{native_of, native_of_class, native_of_method}
use Rattle.lib_table.specs.Table.{groups}
use Rattle.link_rules.specs.declared.place.MemberPlace.{MemberPlace}
use Rattle.link_rules.specs.Faults.{Links}
use Rattle.link_rules.specs.Members.{is_static, methods_before, place}
use Rattle.link_rules.specs.Program.{Program, class_at, has_flag, own_name}
use Rattle.link_rules.specs.Selection.{key_in}
use Rattle.link_model.specs.declared.members.MethodInfo.{MethodInfo}
use Rattle.link_model.specs.Methods.{method_place}
use Rattle.link_model.specs.Worlds.{world_of}
use Rattle.ref_model.specs.Members.{native_at, native_in, native_of_member}
use Rattle.frame_soundness.specs.NativeKinds.{FitsNative}
use Rattle.verify_types.proofs.ListLaws.{and_true, at_all}
use Rattle.step_soundness.specs.MethodKinds.{HasFitNatives}
use Rattle.step_soundness.proofs.MethodNumbers.{IsMember, member_of, none_before}
use Rattle.step_soundness.proofs.Selections.{text_same}
use Rattle.link_soundness.specs.Library.{HasLibrary}
use Rattle.link_soundness.proofs.BuiltIns.{IsBuiltIn, IsDeclared, built_in, file_named}
use Rattle.link_soundness.proofs.LinkedCode.{each_at}
use Rattle.link_soundness.proofs.NativeTests.{class_passes, groups_pass, member_is_fit, named_so, receiver}

-- ---- what is found first in a list lies in it

record FoundAt {A B : Type 0} (f : A → Option B) (xs : List A) (y : B) : Type 0 where
  pub item : A
  pub index : ℕ
  pub at : slice_get xs index ≡ Some item
  pub is : f item ≡ Some y

found_at : {A B : Type 0} (f : A → Option B) (xs : List A) (y : B) → first_in f xs ≡ Some y → FoundAt f xs y
found_at f [] y e = absurd cc
found_at {A} {B} f (x ∷ xs) y e = by (f x) refl e (found_at f xs y)
  where
    by : (o : Option B) → f x ≡ o → option_or o (first_in f xs) ≡ Some y → (first_in f xs ≡ Some y → FoundAt f xs y) → FoundAt f (x ∷ xs) y
    by None is e rest = let h = rest e in record { item = h.item; index = suc h.index; at = h.at; is = h.is }
    by (Some z) is e rest = record { item = x; index = 0; at = refl; is = is ∙ e }

-- ---- a native method is declared

-- by a class of the table, in a method of this name and descriptor
record IsNativeMethod (class name descriptor : List ℕ) (native : Native) (c : Class) : Type 0 where
  pub class_same : same_text class c.name ≡ true
  pub method : Method
  pub index : ℕ
  pub method_is : slice_get c.methods index ≡ Some method
  pub name_same : same_text name method.name ≡ true
  pub descriptor_same : same_text descriptor method.descriptor ≡ true
  pub is : natives.native_in method.body ≡ Some native

where_true : {B : Type 0} (b : Bool) (o : Option B) (y : B) → (if b then o else None) ≡ Some y → (b ≡ true) × (o ≡ Some y)
where_true true o y e = (refl, e)
where_true false o y e = absurd cc

method_found : (class name descriptor : List ℕ) (native : Native) (c : Class) → native_of_class class name descriptor c ≡ Some native
    → IsNativeMethod class name descriptor native c
unfolding native_of_class native_of_method
method_found class name descriptor native c e =
    let here = where_true (same_text class c.name) (first_in (native_of_method name descriptor) c.methods) native e in
    let h = found_at (native_of_method name descriptor) c.methods native here.1 in
    let found = where_true (same_text name h.item.name && same_text descriptor h.item.descriptor) (natives.native_in h.item.body) native h.is in
    let both = and_true (same_text name h.item.name) (same_text descriptor h.item.descriptor) found.0 in
    record {
      class_same = here.0;
      method = h.item;
      index = h.index;
      method_is = h.at;
      name_same = both.0;
      descriptor_same = both.1;
      is = found.1;
    }

record IsNative (class name descriptor : List ℕ) (native : Native) : Type 0 where
  pub declaration : Class
  pub declared : IsDeclared declaration
  pub passes : class_passes declaration ≡ true
  pub method : IsNativeMethod class name descriptor native declaration

native_found : (class name descriptor : List ℕ) (native : Native) → native_of class name descriptor ≡ Some native → IsNative class name descriptor native
unfolding native_of
native_found class name descriptor native e =
    let g = found_at (first_in (native_of_class class name descriptor)) groups native e in
    let c = found_at (native_of_class class name descriptor) g.item native g.is in
    record {
      declaration = c.item;
      declared = record { group = g.item; group_index = g.index; group_is = g.at; index = c.index; class_is = c.at };
      passes = at_all class_passes g.item c.index c.item (each_at (λ xs. list_all class_passes xs ≡ true) groups g.index g.item groups_pass g.at) c.at;
      method = method_found class name descriptor native c.item c.is;
    }

-- ---- the native method of a number

same_info : (o : Option MethodInfo) (a b : MethodInfo) → o ≡ Some a → o ≡ Some b → a ≡ b
same_info o a b x y = cc

same_place : (a b : MemberPlace) → ◌≡◌ {A = Option MemberPlace} (Some a) (Some b) → a ≡ b
same_place a b e = cc

index_of_number : (n b i : ℕ) → n ≡ b + i → n - b ≡ i
index_of_number n b i e = omega arith

place_is : (p : Program) (n : ℕ) (m : MethodInfo) (at : MemberPlace) (h : IsMember 0 p.classes n m) → slice_get (world_of p).methods n ≡ Some m
    → method_place (world_of p) n ≡ Some at → at ≡ place h.class h.index
place_is p n m at h method e =
    let x = some_is (slice_get (world_of p).methods n) (λ i. Some (place i.class (n - methods_before p.classes i.class))) at e in
    let same = same_info (slice_get (world_of p).methods n) x.0 m x.1 method in
    let class_is : x.0.class ≡ h.class =
    ap (λ (i : MethodInfo). i.class) same ∙ ap (λ (i : MethodInfo). i.class) (sym h.is) ∙ none_before h.class in
    sym (same_place (place x.0.class (n - methods_before p.classes x.0.class)) at x.2)
    ∙ ap (λ c. place c (n - methods_before p.classes c)) class_is
    ∙ ap (place h.class) (index_of_number n (methods_before p.classes h.class) h.index h.number)

native_is : (p : Program) (n : ℕ) (m : MethodInfo) (native : Native) (h : IsMember 0 p.classes n m) → slice_get (world_of p).methods n ≡ Some m
    → native_at (world_of p) n ≡ Some native → native_of_member h.file h.member ≡ Some native
native_is p n m native h method e =
    let at = some_is (method_place (world_of p) n) (λ at. class_at (native_in at.index) None p at.class) native e in
    sym (ap (λ o. option_map_or (native_in h.index) o None) h.file_is ∙ ap (λ (o : Option Member). o >>= native_of_member h.file) h.member_is)
    ∙ ap (λ (q : MemberPlace). class_at (native_in q.index) None p q.class) (sym (place_is p n m at.0 h method at.1)) ∙ at.2

-- ---- the class of a native method is built in

file_is : (p : Program) (c : ℕ) (f : ClassFile) (declaration : Class) → Links p → slice_get p.classes c ≡ Some f → IsBuiltIn p declaration
    → class_passes declaration ≡ true → same_text (own_name f) declaration.name ≡ true → build.class_file declaration ≡ f
file_is p c f declaration links file b passes same =
    file_named p declaration b c f links file
    (text_same (own_name (build.class_file declaration)) declaration.name (named_so declaration passes) ∙ sym (text_same (own_name f) declaration.name same))

-- ---- all of them

member_fits : (p : Program) (c i : ℕ) (f : ClassFile) (m : Member) (native : Native) → Links p → HasLibrary p → slice_get p.classes c ≡ Some f
    → slice_get f.methods i ≡ Some m → native_of_member f m ≡ Some native
    → FitsNative (signature_of (key_in f.pool m).descriptor) (receiver (is_static m)) native
member_fits p c i f m native links has file member e =
    let key = key_in f.pool m in
    let h = native_found (own_name f) key.name key.descriptor native e in
    let same = file_is p c f h.declaration links file (built_in p h.declaration links has h.declared) h.passes h.method.class_same in
    let P : ClassFile → Type 0 = λ g. slice_get g.methods i ≡ Some m → same_text (key_in g.pool m).name h.method.method.name ≡ true
    → same_text (key_in g.pool m).descriptor h.method.method.descriptor ≡ true
    → FitsNative (signature_of (key_in g.pool m).descriptor) (receiver (is_static m)) native in
    subst P same
    (λ here name descriptor. member_is_fit h.declaration i m h.method.index h.method.method native h.passes here h.method.method_is name descriptor h.method.is)
    member h.method.name_same h.method.descriptor_same

pub fit_natives : (p : Program) → Links p → HasLibrary p → HasFitNatives (world_of p)
fit_natives p links has = λ n m native at is.
    let h = member_of 0 p.classes n m at in
    let fits = member_fits p h.class h.index h.file h.member native links has h.file_is h.member_is (native_is p n m native h at is) in
    subst (λ (i : MethodInfo). FitsNative i.signature (receiver (has_flag ACC_STATIC i.flags)) native) h.is fits
