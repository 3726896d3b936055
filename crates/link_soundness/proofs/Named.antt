-- What an instruction at which no rule is broken names.
use Rattle.std.proofs.Common.{◌≡◌, ℕ, ◌+◌, ◌-◌, Bool, true, false, List, [], ◌∷◌, length, Option, Some, None, refl, ap, sym, subst, ◌∙◌}
use Rattle.std.specs.Prelude.{get_or, map, not, slice_get, if◌then◌else◌, ◌==◌, ◌&&◌, ◌||◌}
use Rattle.std.specs.Bool.{beq}
use Rattle.std.specs.Option.{option_map, option_map_or}
use Rattle.std.proofs.lemmas.Option.{slice_get_within}
use Rattle.items.specs.First.{AllNone, Each}
use Rattle.items.specs.Options.{◌>>=◌}
use Rattle.items.proofs.Binds.{some_is}
use Rattle.items.proofs.FirstLaws.{passed}
use Rattle.class_model.specs.declared.access_flags.TheConstants.{ACC_STATIC}
use Rattle.class_model.specs.declared.constant.Const.{Const}
use Rattle.class_model.specs.declared.constant.Const.TheVariants as consts
use Rattle.class_grammar.specs.Text.{same_text}
use Rattle.opcodes.specs.declared.op.Instr.{Instr}
use Rattle.opcodes.specs.declared.op.Op.{Op}
use Rattle.opcodes.specs.declared.op.Op.TheVariants as ops
use Rattle.opcodes.specs.declared.op.Primitive.{Primitive}
use Rattle.opcodes.specs.declared.op.Primitive.TheVariants as primitives
use Rattle.opcodes.specs.declared.op.Simple.{Simple}
use Rattle.opcodes.specs.declared.op.Simple.TheVariants as simples
use Rattle.link_rules.specs.declared.reference.Invocation.{Invocation as Call}
use Rattle.link_rules.specs.declared.reference.Purpose.TheVariants as purposes
use Rattle.link_rules.specs.declared.choice.Choice.{Choice}
use Rattle.link_rules.specs.declared.choice.Choice.TheVariants.{Method, Abstract, Several}
use Rattle.link_rules.specs.declared.place.MemberPlace.{MemberPlace}
use Rattle.link_rules.specs.declared.why.LinkWhy.TheVariants.{BadCode, WrongKind}
use Rattle.link_rules.specs.Program.{Program, class_named, has_flag, is_abstract, is_array_name, is_interface}
use Rattle.link_rules.specs.Faults.{Links, instr_faults_in}
use Rattle.link_rules.specs.Members.{Key, field_number, has_field, has_method, is_static, method_number}
use Rattle.link_rules.specs.Constants.{home_of, key_at, name_at}
use Rattle.link_rules.specs.Instructions.{class_const_faults, class_faults, const_faults, field_const_faults, field_faults, instr_faults, interface_call, is_field_kind, is_instantiable, is_interface_name, is_method_kind, method_const_faults, method_faults, resolved_field, resolved_method, special_call, static_call, virtual_call}
use Rattle.link_rules.specs.Selection.{select_special}
use Rattle.instruction_rows.specs.Rows.{Row, get_static, put_static, get_field, put_field, new, event, invoke}
use Rattle.instruction_rows.specs.Table.{new_array_row, row, simple_row}
use Rattle.link_model.specs.declared.members.FieldInfo.{FieldInfo}
use Rattle.link_model.specs.declared.members.MethodInfo.{MethodInfo}
use Rattle.link_model.specs.declared.sites.Resolution.{Resolution}
use Rattle.link_model.specs.declared.sites.Site.TheVariants as sites
use Rattle.link_model.specs.Decoded.{code_at}
use Rattle.link_model.specs.Fields.{is_static_field}
use Rattle.link_model.specs.Infos.{field_info, fields_of, method_info, methods_of}
use Rattle.link_model.specs.Numbering.{array_number, class_number, number_of}
use Rattle.link_model.specs.Sites.{class_resolution, field_resolution, instr_resolution, member_of, method_resolution, named_class, named_field, named_method as named_method_of, resolution_at, resolution_of, plain, call_of, chosen_place, special_choice}
use Rattle.link_model.specs.World.{World, array_type}
use Rattle.link_model.specs.Worlds.{linking_of, world_of}
use Rattle.descriptors.specs.Meaning.{kind_of}
use Rattle.verify_types.specs.Environment.{Instruction, with_resolutions}
use Rattle.verify_types.specs.Effects.{row_of}
use Rattle.verify_types.proofs.ListLaws.{and_true, each_found, not_true}
use Rattle.state_model.specs.Frames.{Frame}
use Rattle.ref_model.specs.Fetch.{Named, fetched, field_of, instruction_in, named_method}
use Rattle.frame_soundness.specs.EventLaws.{IsInstanceResolution, IsObjectResolution, IsStaticResolution}
use Rattle.step_soundness.specs.MethodKinds.{IsKindOf}
use Rattle.step_soundness.proofs.Selections.{position_found}
use Rattle.link_soundness.proofs.Settled.{IsSettled}
use Rattle.link_soundness.proofs.Instances.{instance_named}
use Rattle.link_soundness.proofs.CodeNumbers.{member_of_code, resolutions_are, instructions_are}
use Rattle.link_soundness.proofs.LinkedCode.{instructions_link}
use Rattle.link_soundness.proofs.Tests.{beq_true, lower}
use Rattle.link_soundness.proofs.Places.{HasField, HasMethod, IsOfChoice, IsOfInstances, field_flag, field_is, field_resolved, method_flag, method_is, method_resolved, special_selected}

-- ---- what an instruction names, whatever the state is

-- getstatic and putstatic name a static field, getfield and putfield one of the objects that are instances of its class, new no array class,
-- and an invocation a method of its kind (JVMS 6.5)
abbrev pub IsNamed : World → Resolution → Row → Type 0
IsNamed w resolution (event (get_static index)) = IsStaticResolution w resolution
IsNamed w resolution (event (put_static index)) = IsStaticResolution w resolution
IsNamed w resolution (event (get_field index)) = (class : ℕ) → IsInstanceResolution w resolution class
IsNamed w resolution (event (put_field index)) = (class : ℕ) → IsInstanceResolution w resolution class
IsNamed w resolution (event (new index)) = IsObjectResolution w resolution
IsNamed w resolution (invoke invocation index) = (m : Named) → named_method w resolution ≡ Some m → IsKindOf invocation m.method
IsNamed w resolution row = Unit {0}

-- ---- fields

-- the field that is named is static as it is to be
pub field_named : (p : Program) (c : ℕ) (wanted : Bool) (name : List ℕ) (key : Key) (n : ℕ) (f : FieldInfo) → AllNone (field_faults p c wanted name key)
    → field_of (named_field (linking_of p) name key).site ≡ Some n → slice_get (fields_of p) n ≡ Some f → is_static_field f ≡ wanted
field_named p c wanted name key n f none named at =
    by (resolved_field p name key) refl (passed (is_field_kind p wanted (resolved_field p name key)) WrongKind none.1.0) named
  where
    of_place : (x : MemberPlace) → HasField p x → has_field is_static p x ≡ wanted → field_number p x ≡ n → is_static_field f ≡ wanted
    of_place x h flag same =
        let known : ◌≡◌ {A = Option FieldInfo} (Some (field_info (0 + x.class) h.file.pool h.member)) (Some f) =
        sym (field_is p x h) ∙ ap (slice_get (fields_of p)) same ∙ at in
        let info : field_info (0 + x.class) h.file.pool h.member ≡ f = cc in
        ap is_static_field (sym info) ∙ sym (field_flag p x is_static h) ∙ flag

    by : (o : Option MemberPlace) → resolved_field p name key ≡ o → is_field_kind p wanted o ≡ true
        → field_of (member_of (linking_of p) name (option_map (λ x. sites.Field (field_number p x)) o)).site ≡ Some n → is_static_field f ≡ wanted
    by None is kind e = absurd cc
    by (Some x) is kind e =
        let same : field_number p x ≡ n = cc in
        of_place x (field_resolved p name key x is) (beq_true (has_field is_static p x) wanted kind) same

field_const_named : (p : Program) (c : ℕ) (pool : List Const) (wanted : Bool) (n : ℕ) (f : FieldInfo) (k : Const)
    → AllNone (field_const_faults p c pool wanted k) → field_of (field_resolution (linking_of p) pool k).site ≡ Some n
    → slice_get (fields_of p) n ≡ Some f → is_static_field f ≡ wanted
field_const_named p c pool wanted n f (consts.Fieldref class member) none named at =
    field_named p c wanted (name_at pool class) (key_at pool member) n f none named at
field_const_named p c pool wanted n f other none named at = let bad = none.0 in absurd cc

pub field_at_named : (p : Program) (c : ℕ) (pool : List Const) (wanted : Bool) (index n : ℕ) (f : FieldInfo)
    → AllNone (const_faults pool index (field_const_faults p c pool wanted)) → field_of (resolution_at pool index (field_resolution (linking_of p) pool)).site ≡ Some n
    → slice_get (fields_of p) n ≡ Some f → is_static_field f ≡ wanted
field_at_named p c pool wanted index n f none named at = by (slice_get pool index) none named
  where
    by : (o : Option Const) → AllNone (option_map_or (field_const_faults p c pool wanted) o (Some BadCode ∷ []))
        → field_of (option_map_or (field_resolution (linking_of p) pool) o plain).site ≡ Some n → is_static_field f ≡ wanted
    by None none named = let bad = none.0 in absurd cc
    by (Some k) none named = field_const_named p c pool wanted n f k none named at

-- the objects of a class have the field at its place
instance_at_named : (p : Program) (c : ℕ) (pool : List Const) (index class : ℕ) → Links p → IsSettled (world_of p)
    → AllNone (const_faults pool index (field_const_faults p c pool false)) → IsInstanceResolution (world_of p) (resolution_at pool index (field_resolution (linking_of p) pool)) class
instance_at_named p c pool index class links settled none = by (slice_get pool index) none
  where
    of_const : (k : Const) → AllNone (field_const_faults p c pool false k) → IsInstanceResolution (world_of p) (field_resolution (linking_of p) pool k) class
    of_const (consts.Fieldref holder member) none = instance_named p c (name_at pool holder) (key_at pool member) class links settled none
    of_const other none = let bad = none.0 in absurd cc

    by : (o : Option Const) → AllNone (option_map_or (field_const_faults p c pool false) o (Some BadCode ∷ []))
        → IsInstanceResolution (world_of p) (option_map_or (field_resolution (linking_of p) pool) o plain) class
    by None none = let bad = none.0 in absurd cc
    by (Some k) none = of_const k none

-- ---- methods

same_named : (a b : Named) → ◌≡◌ {A = Option Named} (Some a) (Some b) → a ≡ b
same_named a b e = cc

-- of a method at a place
method_at_place : (p : Program) (x : MemberPlace) (h : HasMethod p x) (m : Named)
    → (slice_get (methods_of p) (method_number p x) >>= λ info. Some (let it : Named = record { number = method_number p x; method = info } in it)) ≡ Some m
    → has_flag ACC_STATIC m.method.flags ≡ has_method is_static p x
method_at_place p x h m e =
    let made : MethodInfo → Option Named = λ info. Some (record { number = method_number p x; method = info }) in
    let known = sym (ap (λ o. o >>= made) (method_is p x h)) ∙ e in
    ap (λ (y : Named). has_flag ACC_STATIC y.method.flags) (sym (same_named (record { number = method_number p x; method = method_info (0 + x.class) h.file.pool h.member }) m known))
    ∙ sym (method_flag p x is_static h)

-- the method that is named is static as it is to be
pub method_named : (p : Program) (c : ℕ) (call : Call) (of_interface : Bool) (name : List ℕ) (key : Key) (m : Named)
    → AllNone (method_faults p c call of_interface name key)
    → named_method (world_of p) (named_method_of (linking_of p) c false of_interface name key) ≡ Some m
    → has_flag ACC_STATIC m.method.flags ≡ call.is_static
method_named p c call of_interface name key m none e =
    let kinds = and_true (beq (is_interface_name p name) of_interface) (is_method_kind p call.is_static (resolved_method p of_interface name key))
    (passed (beq (is_interface_name p name) of_interface && is_method_kind p call.is_static (resolved_method p of_interface name key)) WrongKind none.1.0) in
    by (resolved_method p of_interface name key) refl kinds.1 e
  where
    by : (o : Option MemberPlace) → resolved_method p of_interface name key ≡ o → is_method_kind p call.is_static o ≡ true
        → named_method (world_of p) (option_map_or (λ x. call_of (linking_of p) name x (Method x)) o plain) ≡ Some m
        → has_flag ACC_STATIC m.method.flags ≡ call.is_static
    by None is kind e = absurd cc
    by (Some x) is kind e =
        method_at_place p x (method_resolved p of_interface name key x is) m e ∙ beq_true (has_method is_static p x) call.is_static kind

-- what invokespecial selects is of objects
pub special_named : (p : Program) (c : ℕ) (of_interface : Bool) (name : List ℕ) (key : Key) (m : Named)
    → AllNone (method_faults p c special_call of_interface name key)
    → named_method (world_of p) (named_method_of (linking_of p) c true of_interface name key) ≡ Some m
    → has_flag ACC_STATIC m.method.flags ≡ false
special_named p c of_interface name key m none e =
    let kinds = and_true (beq (is_interface_name p name) of_interface) (is_method_kind p false (resolved_method p of_interface name key))
    (passed (beq (is_interface_name p name) of_interface && is_method_kind p false (resolved_method p of_interface name key)) WrongKind none.1.0) in
    by (resolved_method p of_interface name key) refl kinds.1 e
  where
    -- the method that is selected, or else the one that the constant means
    place_of : (x : MemberPlace) (choice : Choice) → IsOfInstances p x → IsOfChoice p choice → IsOfInstances p (chosen_place x choice)
    place_of x (Method at) has of = of
    place_of x Abstract has of = has
    place_of x Several has of = has

    selected : (x : MemberPlace) → IsOfInstances p x → (home : Option ℕ) → IsOfChoice p (option_map_or (λ h. select_special p c h key) home (Method x))
    selected x has None = has
    selected x has (Some h) = special_selected p c h key

    by : (o : Option MemberPlace) → resolved_method p of_interface name key ≡ o → is_method_kind p false o ≡ true
        → named_method (world_of p) (option_map_or (λ x. call_of (linking_of p) name x (special_choice (linking_of p) c name key x)) o plain) ≡ Some m
        → has_flag ACC_STATIC m.method.flags ≡ false
    by None is kind e = absurd cc
    by (Some x) is kind e =
        let has : IsOfInstances p x = record { has = method_resolved p of_interface name key x is; flag = beq_true (has_method is_static p x) false kind } in
        let choice = special_choice (linking_of p) c name key x in
        let of = place_of x choice has (selected x has (home_of p name)) in
        method_at_place p (chosen_place x choice) of.has m e ∙ of.flag

-- the constant of an invocation but invokespecial
call_named : (p : Program) (c : ℕ) (pool : List Const) (call : Call) (m : Named) (k : Const) → AllNone (method_const_faults p c pool call k)
    → named_method (world_of p) (method_resolution (linking_of p) c pool false k) ≡ Some m → has_flag ACC_STATIC m.method.flags ≡ call.is_static
call_named p c pool call m (consts.Methodref class member) none e = by call.by_class none
  where
    by : (b : Bool) → AllNone (if b then method_faults p c call false (name_at pool class) (key_at pool member) else Some BadCode ∷ [])
        → has_flag ACC_STATIC m.method.flags ≡ call.is_static
    by true none = method_named p c call false (name_at pool class) (key_at pool member) m none e
    by false none = let bad = none.0 in absurd cc
call_named p c pool call m (consts.InterfaceMethodref class member) none e = by call.by_interface none
  where
    by : (b : Bool) → AllNone (if b then method_faults p c call true (name_at pool class) (key_at pool member) else Some BadCode ∷ [])
        → has_flag ACC_STATIC m.method.flags ≡ call.is_static
    by true none = method_named p c call true (name_at pool class) (key_at pool member) m none e
    by false none = let bad = none.0 in absurd cc
call_named p c pool call m other none e = let bad = none.0 in absurd cc

special_call_named : (p : Program) (c : ℕ) (pool : List Const) (m : Named) (k : Const) → AllNone (method_const_faults p c pool special_call k)
    → named_method (world_of p) (method_resolution (linking_of p) c pool true k) ≡ Some m → has_flag ACC_STATIC m.method.flags ≡ false
special_call_named p c pool m (consts.Methodref class member) none e = special_named p c false (name_at pool class) (key_at pool member) m none e
special_call_named p c pool m (consts.InterfaceMethodref class member) none e = special_named p c true (name_at pool class) (key_at pool member) m none e
special_call_named p c pool m other none e = let bad = none.0 in absurd cc

call_at_named : (p : Program) (c : ℕ) (pool : List Const) (call : Call) (index : ℕ) (m : Named)
    → AllNone (const_faults pool index (method_const_faults p c pool call))
    → named_method (world_of p) (resolution_at pool index (method_resolution (linking_of p) c pool false)) ≡ Some m
    → has_flag ACC_STATIC m.method.flags ≡ call.is_static
call_at_named p c pool call index m none e = by (slice_get pool index) none e
  where
    by : (o : Option Const) → AllNone (option_map_or (method_const_faults p c pool call) o (Some BadCode ∷ []))
        → named_method (world_of p) (option_map_or (method_resolution (linking_of p) c pool false) o plain) ≡ Some m
        → has_flag ACC_STATIC m.method.flags ≡ call.is_static
    by None none e = let bad = none.0 in absurd cc
    by (Some k) none e = call_named p c pool call m k none e

special_at_named : (p : Program) (c : ℕ) (pool : List Const) (index : ℕ) (m : Named)
    → AllNone (const_faults pool index (method_const_faults p c pool special_call))
    → named_method (world_of p) (resolution_at pool index (method_resolution (linking_of p) c pool true)) ≡ Some m
    → has_flag ACC_STATIC m.method.flags ≡ false
special_at_named p c pool index m none e = by (slice_get pool index) none e
  where
    by : (o : Option Const) → AllNone (option_map_or (method_const_faults p c pool special_call) o (Some BadCode ∷ []))
        → named_method (world_of p) (option_map_or (method_resolution (linking_of p) c pool true) o plain) ≡ Some m
        → has_flag ACC_STATIC m.method.flags ≡ false
    by None none e = let bad = none.0 in absurd cc
    by (Some k) none e = special_call_named p c pool m k none e

-- ---- classes

-- a class that may be made an instance of is no array class
pub object_named : (p : Program) (c : ℕ) (name : List ℕ) → AllNone (class_faults p c purposes.Instance name)
    → IsObjectResolution (world_of p) (class_resolution (class_number (linking_of p).numbering name))
object_named p c name none =
    let usable = passed (is_instantiable p name) WrongKind none.1.0 in
    let no_array = and_true (not (is_array_name name)) (option_map_or (λ d. not (is_interface p d || is_abstract p d)) (class_named p name) true) usable in
    by (is_array_name name) (not_true (is_array_name name) no_array.0)
  where
    names : List (List ℕ)
    names = (linking_of p).numbering.names

    of_number : (o : Option ℕ) → number_of names name ≡ o → IsObjectResolution (world_of p) (class_resolution o)
    of_number None is = λ class e. absurd cc
    of_number (Some n) is = λ class e.
        let same : n ≡ class = cc in
        let h = position_found (λ other. same_text other name) names n is in
        ap (λ k. array_type (world_of p) k) (sym same)
        ∙ ap (λ (b : Bool). if b then None else slice_get (world_of p).arrays (n - length names)) (lower n (length names) (slice_get_within names n h.item h.at))

    by : (b : Bool) → b ≡ false
        → IsObjectResolution (world_of p) (class_resolution (if b then array_number (linking_of p).numbering (kind_of name) else number_of names name))
    by true e = absurd cc
    by false e = of_number (number_of names name) refl

object_at_named : (p : Program) (c : ℕ) (pool : List Const) (index : ℕ) → AllNone (const_faults pool index (class_const_faults p c pool purposes.Instance index))
    → IsObjectResolution (world_of p) (named_class (linking_of p) pool index)
object_at_named p c pool index none = by (slice_get pool index) none
  where
    of_const : (k : Const) → AllNone (class_const_faults p c pool purposes.Instance index k) → IsObjectResolution (world_of p) (named_class (linking_of p) pool index)
    of_const (consts.Class name) none = object_named p c (name_at pool index) none
    of_const other none = let bad = none.0 in absurd cc

    by : (o : Option Const) → AllNone (option_map_or (class_const_faults p c pool purposes.Instance index) o (Some BadCode ∷ []))
        → IsObjectResolution (world_of p) (named_class (linking_of p) pool index)
    by None none = let bad = none.0 in absurd cc
    by (Some k) none = of_const k none

-- ---- instructions

simple_named : (w : World) (resolution : Resolution) (s : Simple) → IsNamed w resolution (simple_row s)
simple_named w resolution simples.Nop = tt
simple_named w resolution simples.PushNull = tt
simple_named w resolution (simples.ArrayLoad element) = tt
simple_named w resolution (simples.ArrayStore element) = tt
simple_named w resolution simples.Pop = tt
simple_named w resolution simples.Pop2 = tt
simple_named w resolution simples.Dup = tt
simple_named w resolution simples.DupX1 = tt
simple_named w resolution simples.DupX2 = tt
simple_named w resolution simples.Dup2 = tt
simple_named w resolution simples.Dup2X1 = tt
simple_named w resolution simples.Dup2X2 = tt
simple_named w resolution simples.Swap = tt
simple_named w resolution (simples.IntBinary op) = tt
simple_named w resolution (simples.LongBinary op) = tt
simple_named w resolution (simples.LongShift op) = tt
simple_named w resolution simples.IntNegate = tt
simple_named w resolution simples.LongNegate = tt
simple_named w resolution simples.IntToLong = tt
simple_named w resolution simples.LongToInt = tt
simple_named w resolution (simples.IntNarrow to) = tt
simple_named w resolution simples.LongCompare = tt
simple_named w resolution (simples.ReturnValue kind) = tt
simple_named w resolution simples.Return = tt
simple_named w resolution simples.ArrayLength = tt
simple_named w resolution simples.Throw = tt
simple_named w resolution simples.MonitorEnter = tt
simple_named w resolution simples.MonitorExit = tt

array_named : (w : World) (resolution : Resolution) (primitive : Primitive) → IsNamed w resolution (new_array_row primitive)
array_named w resolution primitives.Boolean = tt
array_named w resolution primitives.Char = tt
array_named w resolution primitives.Float = tt
array_named w resolution primitives.Double = tt
array_named w resolution primitives.Byte = tt
array_named w resolution primitives.Short = tt
array_named w resolution primitives.Int = tt
array_named w resolution primitives.Long = tt

op_named : (p : Program) (c : ℕ) (pool : List Const) (op : Op) → Links p → IsSettled (world_of p) → AllNone (instr_faults p c pool op)
    → IsNamed (world_of p) (resolution_of (linking_of p) c pool op) (row op)
op_named p c pool (ops.Simple simple) links settled none = simple_named (world_of p) (resolution_of (linking_of p) c pool (ops.Simple simple)) simple
op_named p c pool (ops.GetStatic index) links settled none = λ n f named at. field_at_named p c pool true index n f none named at
op_named p c pool (ops.PutStatic index) links settled none = λ n f named at. field_at_named p c pool true index n f none named at
op_named p c pool (ops.InvokeVirtual index) links settled none = λ m e. call_at_named p c pool virtual_call index m none e
op_named p c pool (ops.InvokeSpecial index) links settled none = λ m e. special_at_named p c pool index m none e
op_named p c pool (ops.InvokeStatic index) links settled none = λ m e. call_at_named p c pool static_call index m none e
op_named p c pool (ops.InvokeInterface index count) links settled none = λ m e. call_at_named p c pool (interface_call count) index m none e
op_named p c pool (ops.InvokeDynamic index) links settled none = λ m e. tt
op_named p c pool (ops.New index) links settled none = object_at_named p c pool index none
op_named p c pool (ops.NewArray primitive) links settled none = array_named (world_of p) (resolution_of (linking_of p) c pool (ops.NewArray primitive)) primitive
op_named p c pool (ops.PushInt n) links settled none = tt
op_named p c pool (ops.PushLong n) links settled none = tt
op_named p c pool (ops.PushConstant index) links settled none = tt
op_named p c pool (ops.PushWideConstant index) links settled none = tt
op_named p c pool (ops.Load kind n) links settled none = tt
op_named p c pool (ops.Store kind n) links settled none = tt
op_named p c pool (ops.Increment n amount) links settled none = tt
op_named p c pool (ops.IfZero order target) links settled none = tt
op_named p c pool (ops.IfInts order target) links settled none = tt
op_named p c pool (ops.IfReferences sameness target) links settled none = tt
op_named p c pool (ops.IfNull sameness target) links settled none = tt
op_named p c pool (ops.Goto target) links settled none = tt
op_named p c pool (ops.TableSwitch table) links settled none = tt
op_named p c pool (ops.LookupSwitch lookup) links settled none = tt
op_named p c pool (ops.GetField index) links settled none = λ class. instance_at_named p c pool index class links settled none
op_named p c pool (ops.PutField index) links settled none = λ class. instance_at_named p c pool index class links settled none
op_named p c pool (ops.ANewArray index) links settled none = tt
op_named p c pool (ops.MultiANewArray index dimensions) links settled none = tt
op_named p c pool (ops.CheckCast index) links settled none = tt
op_named p c pool (ops.InstanceOf index) links settled none = tt
op_named p c pool (ops.Jsr target) links settled none = tt
op_named p c pool (ops.Ret n) links settled none = tt
op_named p c pool (ops.Floating opcode) links settled none = tt

-- ---- the instructions of a method

abbrev IsNamedIn : Program → Instruction → Type 0
IsNamedIn p i = IsNamed (world_of p) i.resolution (row_of i)

all_named : (p : Program) (c : ℕ) (pool : List Const) (is : List Instr) → Links p → IsSettled (world_of p) → Each (λ (x : Instr). AllNone (instr_faults_in p c pool x)) is
    → Each (IsNamedIn p) (with_resolutions is (map (instr_resolution (linking_of p) c pool) is))
all_named p c pool [] links settled none = tt
all_named p c pool (i ∷ is) links settled none = (op_named p c pool i.op links settled none.0, all_named p c pool is links settled none.1)

pub instruction_named : (p : Program) (f : Frame) (i : Instruction) → Links p → IsSettled (world_of p) → fetched (world_of p) f ≡ Some i → IsNamedIn p i
instruction_named p f i links settled e =
    let w = world_of p in
    let found = some_is (code_at w f.method) (instruction_in w f.method f.pc) i e in
    let code = found.0 in
    let h = member_of_code p f.method code found.1 in
    let pool = h.file.pool in
    let all = all_named p (0 + h.class) pool code.code links settled
    (instructions_link p h.class h.index h.file h.member code links h.file_is h.member_is h.is) in
    let resolutions : get_or w.resolutions f.method [] ≡ map (instr_resolution (linking_of p) (0 + h.class) pool) code.code =
    resolutions_are p f.method code h ∙ ap (map (instr_resolution (linking_of p) (0 + h.class) pool)) (instructions_are h.member code h.is) in
    let Holds : List Resolution → Type 0 = λ ns. Each (IsNamedIn p) (with_resolutions code.code ns) in
    each_found (IsNamedIn p) (λ (x : Instruction). x.instr.pc == f.pc) (with_resolutions code.code (get_or w.resolutions f.method [])) i
    (subst Holds (sym resolutions) all) found.2
