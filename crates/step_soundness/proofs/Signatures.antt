-- The method that runs has the signature of the one that is named.
use Rattle.std.proofs.Common.{◌≡◌, inl, inr, ℕ, ◌+◌, ◌-◌, Bool, true, false, List, [], ◌∷◌, Option, Some, None, refl, ap, sym, subst, ◌∙◌, arith}
use Rattle.std.specs.Prelude.{not, slice_get, if◌then◌else◌}
use Rattle.std.specs.Option.{option_map_or}
use Rattle.items.specs.Options.{◌>>=◌}
use Rattle.items.proofs.Binds.{some_is}
use Rattle.class_model.specs.declared.access_flags.TheConstants.{ACC_STATIC}
use Rattle.class_model.specs.declared.class_file.ClassFile.{ClassFile}
use Rattle.class_model.specs.declared.member.Member.{Member}
use Rattle.descriptors.specs.Meaning.{signature_of}
use Rattle.lib_table.specs.declared.native.Native.{Native}
use Rattle.opcodes.specs.declared.op.ValueKind.{ValueKind}
use Rattle.opcodes.specs.declared.op.ValueKind.TheVariants as kinds
use Rattle.link_rules.specs.declared.choice.Choice.{Choice}
use Rattle.link_rules.specs.declared.choice.Choice.TheVariants.{Method, Abstract, Several}
use Rattle.link_rules.specs.declared.place.MemberPlace.{MemberPlace}
use Rattle.link_rules.specs.Program.{Program, has_flag}
use Rattle.link_rules.specs.Members.{place, has_method, is_open, is_private, is_static, methods_before, method_number}
use Rattle.link_rules.specs.Selection.{select}
use Rattle.instruction_rows.specs.declared.value.Slot.{Slot}
use Rattle.instruction_rows.specs.Rows.{Invocation, virtual, special, static, interface, dynamic, invoke}
use Rattle.link_model.specs.declared.members.MethodInfo.{MethodInfo}
use Rattle.link_model.specs.declared.sites.Resolution.{Resolution}
use Rattle.link_model.specs.Infos.{method_info, methods_of}
use Rattle.link_model.specs.World.{World}
use Rattle.link_model.specs.Methods.{selecting_class, method_place, choice_of}
use Rattle.verify_types.proofs.ListLaws.{and_true}
use Rattle.ref_model.specs.Members.{native_at}
use Rattle.ref_model.specs.Memory.{Memory}
use Rattle.ref_model.specs.Fetch.{Named, method_of, named_method}
use Rattle.ref_model.specs.Calls.{method_numbered}
use Rattle.frame_soundness.specs.EventLaws.{OfReceiver}
use Rattle.frame_soundness.specs.NativeKinds.{FitsNative}
use Rattle.frame_soundness.specs.EnterLaws.{IsOfObjects}
use Rattle.step_soundness.specs.Resolutions.{chosen_method, method_run, receiver, IsSelected, IsInvocation, IsRowResolution}
use Rattle.step_soundness.specs.MethodKinds.{HasFitNatives, IsKindOf}
use Rattle.step_soundness.proofs.MethodNumbers.{number_at, member_of}
use Rattle.step_soundness.proofs.Selections.{select_has, IsItselfOrOpen, select_open}

same_number : (a b : ℕ) → ◌≡◌ {A = Option ℕ} (Some a) (Some b) → a ≡ b
same_number a b e = cc

same_place : (a b : MemberPlace) → ◌≡◌ {A = Option MemberPlace} (Some a) (Some b) → a ≡ b
same_place a b e = cc

same_choice : (a b : Choice) → ◌≡◌ {A = Option Choice} (Some a) (Some b) → a ≡ b
same_choice a b e = cc

same_info : (o : Option MethodInfo) (a b : MethodInfo) → o ≡ Some a → o ≡ Some b → a ≡ b
same_info o a b x y = cc

same_named : (a b : Named) → ◌≡◌ {A = Option Named} (Some a) (Some b) → a ≡ b
same_named a b e = cc

nothing_before : (c : ℕ) → 0 + c ≡ c
nothing_before c = omega arith

index_of_number : (n b i : ℕ) → n ≡ b + i → n - b ≡ i
index_of_number n b i e = omega arith

-- the method of this number
numbered_is : (w : World) (n : ℕ) (info : MethodInfo) (chosen : Named) → slice_get w.methods n ≡ Some info → method_numbered w n ≡ Some chosen
    → info ≡ chosen.method
numbered_is w n info chosen at e =
    let x = some_is (slice_get w.methods n) (λ x. Some (record { number = n; method = x })) chosen e in
    same_info (slice_get w.methods n) info x.0 at x.1
    ∙ ap (λ (y : Named). y.method) (same_named (record { number = n; method = x.0 }) chosen x.2)

-- the method that runs has the signature and the name of the one that is named, and is one of objects as that is
pub record Runs (m chosen : Named) : Type 0 where
  pub signature : chosen.method.signature ≡ m.method.signature
  pub name : chosen.method.name ≡ m.method.name
  pub of_objects : has_flag ACC_STATIC m.method.flags ≡ false → has_flag ACC_STATIC chosen.method.flags ≡ false

-- a member that isn't static
not_static : (m : Member) → is_open m ≡ true → is_static m ≡ false
not_static m e = by (is_static m) (and_true (not (is_private m)) (not (is_static m)) e).1
  where
    by : (b : Bool) → not b ≡ true → b ≡ false
    by true e = absurd cc
    by false e = refl

member_open : (p : Program) (at : MemberPlace) (f : ClassFile) (m : Member) → slice_get p.classes at.class ≡ Some f
    → slice_get f.methods at.index ≡ Some m → has_method is_open p at ≡ true → is_open m ≡ true
member_open p at f m file member e =
    sym (ap (λ o. option_map_or is_open (option_map_or (λ (g : ClassFile). slice_get g.methods at.index) o None) false) file
    ∙ ap (λ o. option_map_or is_open o false) member) ∙ e

-- what is found isn't static where the method isn't
flag_of : (p : Program) (at found : MemberPlace) (f : ClassFile) (m : Member) (g : ClassFile) (other : Member) → slice_get p.classes at.class ≡ Some f
    → slice_get f.methods at.index ≡ Some m → slice_get p.classes found.class ≡ Some g → slice_get g.methods found.index ≡ Some other
    → is_static m ≡ false → IsItselfOrOpen p at found → is_static other ≡ false
flag_of p at found f m g other file member other_file other_member flag (inl same) =
    let here : slice_get p.classes found.class ≡ Some f = subst (λ (x : MemberPlace). slice_get p.classes x.class ≡ Some f) same file in
    let files = same_file (slice_get p.classes found.class) f g here other_file in
    let there : slice_get g.methods found.index ≡ Some m =
    subst (λ (h : ClassFile). slice_get h.methods found.index ≡ Some m) files
    (subst (λ (x : MemberPlace). slice_get f.methods x.index ≡ Some m) same member) in
    ap is_static (sym (same_member (slice_get g.methods found.index) m other there other_member)) ∙ flag
  where
    same_file : (o : Option ClassFile) (a b : ClassFile) → o ≡ Some a → o ≡ Some b → a ≡ b
    same_file o a b x y = cc

    same_member : (o : Option Member) (a b : Member) → o ≡ Some a → o ≡ Some b → a ≡ b
    same_member o a b x y = cc
flag_of p at found f m g other file member other_file other_member flag (inr is) =
    not_static other (member_open p found g other other_file other_member is)

-- of what is chosen
pub chosen_runs : (w : World) (class n : ℕ) (m chosen : Named) (choice : Choice) → w.methods ≡ methods_of w.program
    → slice_get w.methods m.number ≡ Some m.method → choice_of w class m.number ≡ Some choice → chosen_method w choice ≡ Some n
    → method_numbered w n ≡ Some chosen → Runs m chosen
chosen_runs w class n m chosen Abstract methods at found is numbered = absurd cc
chosen_runs w class n m chosen Several methods at found is numbered = absurd cc
chosen_runs w class n m chosen (Method found_at) methods at found is numbered =
    let p = w.program in
    let info = member_of 0 p.classes m.number m.method (ap (λ (ms : List MethodInfo). slice_get ms m.number) (sym methods) ∙ at) in
    let start = some_is (selecting_class w class)
    (λ start. method_place w m.number >>= λ at. Some (select p start at)) (Method found_at) found in
    let here = some_is (method_place w m.number) (λ at. Some (select p start.0 at)) (Method found_at) start.2 in
    let selects : select p start.0 here.0 ≡ Method found_at = same_choice (select p start.0 here.0) (Method found_at) here.2 in
    let x = some_is (slice_get w.methods m.number) (λ i. Some (place i.class (m.number - methods_before p.classes i.class))) here.0 here.1 in
    let same = same_info (slice_get w.methods m.number) x.0 m.method x.1 at in
    let class_is : x.0.class ≡ info.class =
    ap (λ (i : MethodInfo). i.class) same ∙ ap (λ (i : MethodInfo). i.class) (sym info.is) ∙ nothing_before info.class in
    let place_is : here.0 ≡ place info.class info.index =
    sym (same_place (place x.0.class (m.number - methods_before p.classes x.0.class)) here.0 x.2)
    ∙ ap (λ c. place c (m.number - methods_before p.classes c)) class_is
    ∙ ap (place info.class) (index_of_number m.number (methods_before p.classes info.class) info.index info.number) in
    let selected = ap (select p start.0) (sym place_is) ∙ selects in
    let key = select_has p start.0 (place info.class info.index) found_at info.file info.member info.file_is info.member_is
    selected in
    let open_or_same = select_open p start.0 (place info.class info.index) found_at info.file info.member info.file_is info.member_is
    selected in
    let there : slice_get w.methods (method_number p found_at) ≡ Some (method_info (0 + found_at.class) key.file.pool key.member) =
    ap (λ (ms : List MethodInfo). slice_get ms (method_number p found_at)) methods
    ∙ number_at 0 p.classes found_at.class found_at.index key.file key.member key.file_is key.member_is in
    let number : method_number p found_at ≡ n = same_number (method_number p found_at) n is in
    let other = numbered_is w n (method_info (0 + found_at.class) key.file.pool key.member) chosen
    (ap (slice_get w.methods) (sym number) ∙ there) numbered in
    record {
      signature = ap (λ (i : MethodInfo). i.signature) (sym other) ∙ ap signature_of key.descriptor
          ∙ ap (λ (i : MethodInfo). i.signature) info.is;
      name = ap (λ (i : MethodInfo). i.name) (sym other) ∙ key.name ∙ ap (λ (i : MethodInfo). i.name) info.is;
      of_objects = λ flag. ap (λ (i : MethodInfo). has_flag ACC_STATIC i.flags) (sym other)
          ∙ flag_of p (place info.class info.index) found_at info.file info.member key.file key.member info.file_is info.member_is
          key.file_is key.member_is (ap (λ (i : MethodInfo). has_flag ACC_STATIC i.flags) info.is ∙ flag) open_or_same;
    }

run_is : (w : World) (invocation : Invocation) (m chosen : Named) (class n : ℕ) → w.methods ≡ methods_of w.program
    → slice_get w.methods m.number ≡ Some m.method → method_run w invocation m class ≡ Some n → method_numbered w n ≡ Some chosen
    → Runs m chosen
run_is w virtual m chosen class n methods at runs numbered =
    let c = some_is (choice_of w class m.number) (chosen_method w) n runs in
    chosen_runs w class n m chosen c.0 methods at c.1 c.2 numbered
run_is w (interface count) m chosen class n methods at runs numbered =
    let c = some_is (choice_of w class m.number) (chosen_method w) n runs in
    chosen_runs w class n m chosen c.0 methods at c.1 c.2 numbered
run_is w special m chosen class n methods at runs numbered =
    let number : m.number ≡ n = same_number m.number n runs in
    let same = sym (numbered_is w n m.method chosen (ap (slice_get w.methods) (sym number) ∙ at) numbered) in
    record {
      signature = ap (λ (i : MethodInfo). i.signature) same;
      name = ap (λ (i : MethodInfo). i.name) same;
      of_objects = λ flag. ap (λ (i : MethodInfo). has_flag ACC_STATIC i.flags) same ∙ flag;
    }
run_is w static m chosen class n methods at runs numbered = absurd cc
run_is w dynamic m chosen class n methods at runs numbered = absurd cc

-- the method that an instruction names is at its number
named_at : (w : World) (resolution : Resolution) (m : Named) → named_method w resolution ≡ Some m → slice_get w.methods m.number ≡ Some m.method
named_at w resolution m e =
    let n = some_is (method_of resolution.site) (λ n. slice_get w.methods n >>= λ x. Some (record { number = n; method = x })) m e in
    let x = some_is (slice_get w.methods n.0) (λ x. Some (record { number = n.0; method = x })) m n.2 in
    subst (λ (y : Named). slice_get w.methods y.number ≡ Some y.method) (same_named (record { number = n.0; method = x.0 }) m x.2) x.1

pub selection_fits : (w : World) (resolution : Resolution) (invocation : Invocation) (m : Named) (class : ℕ) → w.methods ≡ methods_of w.program
    → named_method w resolution ≡ Some m
    → ((n : ℕ) (chosen : Named) → method_run w invocation m class ≡ Some n → method_numbered w n ≡ Some chosen → IsOfObjects w chosen)
    → IsSelected w resolution invocation m class
selection_fits w resolution invocation m class methods named fits =
    λ of n chosen is_named sub runs numbered. record {
      signature = (run_is w invocation m chosen class n methods (named_at w resolution m named) runs numbered).signature;
      method = fits n chosen runs numbered;
    }

-- ---- by the method that is named alone

by_flag : (w : World) (m : Named) (receiver : List ValueKind) (b : Bool) → HasFitNatives w → slice_get w.methods m.number ≡ Some m.method
    → has_flag ACC_STATIC m.method.flags ≡ b → receiver ≡ (if b then [] else kinds.Reference ∷ []) → (n : Native) → native_at w m.number ≡ Some n
    → FitsNative m.method.signature receiver n
by_flag w m receiver b fit at flag is n native =
    subst (λ (ks : List ValueKind). FitsNative m.method.signature ks n)
    (ap (λ (c : Bool). if c then [] else kinds.Reference ∷ []) flag ∙ sym is) (fit m.number m.method n at native)

object_fits : (w : World) (m chosen : Named) → HasFitNatives w → slice_get w.methods chosen.number ≡ Some chosen.method → Runs m chosen
    → has_flag ACC_STATIC m.method.flags ≡ false → IsOfObjects w chosen
object_fits w m chosen fit at runs flag =
    let here = runs.of_objects flag in
    record {
      flag = here;
      natives = by_flag w chosen (kinds.Reference ∷ []) false fit at here refl;
    }

-- a method of a number is at that number
numbered_at : (w : World) (n : ℕ) (m : Named) → method_numbered w n ≡ Some m → slice_get w.methods m.number ≡ Some m.method
numbered_at w n m e =
    let x = some_is (slice_get w.methods n) (λ x. Some (record { number = n; method = x })) m e in
    subst (λ (y : Named). slice_get w.methods y.number ≡ Some y.method) (same_named (record { number = n; method = x.0 }) m x.2) x.1

selected_fits : (w : World) (resolution : Resolution) (invocation : Invocation) (m : Named) (r : Memory) (stack : List Slot)
    → w.methods ≡ methods_of w.program → HasFitNatives w → named_method w resolution ≡ Some m → has_flag ACC_STATIC m.method.flags ≡ false
    → OfReceiver w r (receiver m.method.signature stack) (IsSelected w resolution invocation m)
selected_fits w resolution invocation m r stack methods fit named flag = λ o class at_hand of_class.
    selection_fits w resolution invocation m class methods named (λ n chosen runs numbered.
    object_fits w m chosen fit (numbered_at w n chosen numbered)
    (run_is w invocation m chosen class n methods (named_at w resolution m named) runs numbered) flag)

invocation_fits : (w : World) (resolution : Resolution) (invocation : Invocation) (m : Named) (r : Memory) (stack : List Slot)
    → w.methods ≡ methods_of w.program → HasFitNatives w → named_method w resolution ≡ Some m → IsKindOf invocation m.method
    → IsInvocation w resolution invocation m r stack
invocation_fits w resolution static m r stack methods fit named is =
    record { flag = is; natives = by_flag w m [] true fit (named_at w resolution m named) is refl }
invocation_fits w resolution dynamic m r stack methods fit named is = tt
invocation_fits w resolution virtual m r stack methods fit named is =
    selected_fits w resolution virtual m r stack methods fit named is
invocation_fits w resolution special m r stack methods fit named is =
    selected_fits w resolution special m r stack methods fit named is
invocation_fits w resolution (interface count) m r stack methods fit named is =
    selected_fits w resolution (interface count) m r stack methods fit named is

pub invocations_fit : (w : World) (resolution : Resolution) (invocation : Invocation) (index : ℕ) (r : Memory) (stack : List Slot)
    → w.methods ≡ methods_of w.program → HasFitNatives w
    → ((m : Named) → named_method w resolution ≡ Some m → IsKindOf invocation m.method) → IsRowResolution w resolution (invoke invocation index) r stack
invocations_fit w resolution invocation index r stack methods fit kind = λ m named.
    invocation_fits w resolution invocation m r stack methods fit named (kind m named)
