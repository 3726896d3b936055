-- What the invocations do to types (JVMS 4.10.1.9). A call is stated by the descriptor of the method that its constant resolves
-- to, which is that of the constant.
use Rattle.std.specs.Prelude.{ℕ, Bool, false, not, List, Option, Some, None, Result, Ok, Err, ok_or, map, reverse, slice_get, nat_lt, nat_le, ◌==◌, ◌&&◌, ◌||◌, if◌then◌else◌}
use Rattle.std.specs.Option.{option_map_or, option_and_then}
use Rattle.std.specs.List.{list_any}
use Rattle.class_grammar.specs.Names.{is_initializer}
use Rattle.descriptors.specs.declared.kind.Signature.{Signature}
use Rattle.opcodes.specs.declared.op.ValueKind.TheVariants as kinds
use Rattle.opcodes.specs.declared.op.Op.{Op}
use Rattle.opcodes.specs.declared.op.Op.TheVariants as ops
use Rattle.stack_maps.specs.declared.types.VType.{VType}
use Rattle.stack_maps.specs.declared.types.VType.TheVariants as types
use Rattle.instruction_rows.specs.declared.row_why.RowWhy.{RowWhy}
use Rattle.instruction_rows.specs.declared.row_why.RowWhy.TheVariants as whys
use Rattle.instruction_rows.specs.Results.{◌then◌}
use Rattle.instruction_rows.specs.Rows.{Invocation, virtual, special, static, interface, dynamic}
use Rattle.instruction_rows.specs.TypeEffect.{type_popped, type_pushed}
use Rattle.link_rules.specs.Hierarchy.{parent_of}
use Rattle.link_model.specs.declared.members.MethodInfo.{MethodInfo}
use Rattle.link_model.specs.declared.sites.Resolution.{Resolution}
use Rattle.link_model.specs.declared.sites.Site.{Site}
use Rattle.link_model.specs.declared.sites.Site.TheVariants as sites
use Rattle.link_model.specs.World.{World, class_type}
use Rattle.verify_types.specs.ClassTypes.{type_of_kind}
use Rattle.link_model.specs.Subtypes.{is_number}
use Rattle.verify_types.specs.Assignability.{assignable}
use Rattle.verify_types.specs.TypeStates.{TypeState, with_stack, is_this, is_new, replaced}
use Rattle.verify_types.specs.Environment.{Instruction, Handler, Environment, is_constructor, instruction_at}
use Rattle.verify_types.specs.Operands.{only_if, wanted, all_wanted}
use Rattle.verify_types.specs.Objects.{named_class}

abbrev pub method_of : World → Site → Result MethodInfo RowWhy
method_of w (sites.Method n) = ok_or (slice_get w.methods n) whys.Kind
method_of w site = Err whys.Kind

-- ---- arguments and results

-- the types of the arguments, the topmost first
abbrev pub argument_types : World → Signature → List VType
argument_types w signature = reverse (map (type_of_kind w) signature.args)

abbrev pub arguments_taken : World → MethodInfo → List VType → Result (List VType) RowWhy
arguments_taken w m stack = all_wanted w (argument_types w m.signature) stack

abbrev pub result_pushed : World → MethodInfo → List VType → List VType
result_pushed w m stack = option_map_or (λ kind. type_pushed (type_of_kind w kind) stack) m.signature.result stack

-- ---- initialization of an object (JVMS 4.10.1.9: invokespecial)

-- the pc lies in the range of the row
abbrev pub covers : ℕ → Handler → Bool
covers pc h = nat_le h.row.start pc && nat_lt pc h.row.end

abbrev pub is_covered : Environment → ℕ → Bool
is_covered env pc = list_any (covers pc) env.handlers

-- the class whose objects the instruction makes
abbrev pub made_by : Op → Site → Option ℕ
made_by (ops.New index) (sites.Class class) = Some class
made_by op site = None

-- whether there is a `new` of this class at the pc
abbrev pub is_new_of : Environment → ℕ → ℕ → Bool
is_new_of env pc class = is_number (option_and_then (λ (i : Instruction). made_by i.instr.op i.resolution.site) (instruction_at env pc)) class

-- The class named is that of the object's `new`.
abbrev pub may_initialize_new : Environment → ℕ → ℕ → Bool
may_initialize_new env new class = is_new_of env new class

-- The class named is that whose constructor runs, or its superclass. In the range of a row of the exception table this is
-- refused.
abbrev pub may_initialize_this : Environment → ℕ → ℕ → Bool
may_initialize_this env pc class =
    (class == env.method.class || is_number (parent_of env.world.program env.method.class) class) && not (is_covered env pc)

-- the state after the object is initialized, wherever it lies
abbrev pub initialized : (VType → Bool) → VType → Bool → TypeState → TypeState
initialized test t this_uninit s = record {
  types = record { locals = replaced test t s.types.locals; stack = replaced test t s.types.stack };
  this_uninit = this_uninit;
}

-- the object that lay below the arguments is initialized; the class named declares the constructor
abbrev pub object_initialized : Environment → ℕ → ℕ → VType → TypeState → Result TypeState RowWhy
object_initialized env pc class (types.Uninit new) s =
    only_if (may_initialize_new env new class) whys.Init
    (initialized (is_new new) (class_type env.world class) s.this_uninit s)
object_initialized env pc class types.UninitThis s =
    only_if (may_initialize_this env pc class) whys.Init
    (initialized is_this (class_type env.world env.method.class) false s)
object_initialized env pc class t s = Err whys.Init

abbrev pub constructor_called : Environment → ℕ → MethodInfo → ℕ → TypeState → Result TypeState RowWhy
constructor_called env pc m class s =
    arguments_taken env.world m s.types.stack then λ rest.
    type_popped kinds.Reference rest then λ x.
    only_if (m.class == class) whys.Init x then λ y.
    object_initialized env pc class y.0 (with_stack s y.1) then λ after.
    Ok (with_stack after (result_pushed env.world m after.types.stack))

-- ---- other calls

-- A constructor or a class initializer is called in no other way.
abbrev pub result_given : World → MethodInfo → TypeState → List VType → Result TypeState RowWhy
result_given w m s rest =
    only_if (not (is_initializer m.name)) whys.Init (with_stack s (result_pushed w m rest))

-- a method of the class, without a receiver
abbrev pub static_called : World → MethodInfo → TypeState → Result TypeState RowWhy
static_called w m s = arguments_taken w m s.types.stack then λ rest. result_given w m s rest

-- a method of an object of this class
abbrev pub instance_called : World → MethodInfo → ℕ → TypeState → Result TypeState RowWhy
instance_called w m class s =
    arguments_taken w m s.types.stack then λ rest.
    wanted w (class_type w class) rest then λ below.
    result_given w m s below

-- whether the class whose code this is, is one that the constant names
abbrev pub is_own_method : Environment → ℕ → Bool
is_own_method env class = assignable env.world (class_type env.world env.method.class) (class_type env.world class)

-- a method that isn't selected by the receiver's class: the receiver is of the class whose code this is
abbrev pub special_called : Environment → MethodInfo → ℕ → TypeState → Result TypeState RowWhy
special_called env m class s =
    instance_called env.world m env.method.class s then λ after. only_if (is_own_method env class) whys.Init after

-- ---- rows

abbrev pub called : Environment → ℕ → Invocation → MethodInfo → ℕ → TypeState → Result TypeState RowWhy
called env pc virtual m class s = instance_called env.world m class s
called env pc (interface count) m class s = instance_called env.world m class s
called env pc special m class s =
    if is_constructor m then constructor_called env pc m class s else special_called env m class s
called env pc static m class s = static_called env.world m s
called env pc dynamic m class s = Err whys.Kind

abbrev pub invoke_state : Environment → ℕ → Resolution → Invocation → TypeState → Result TypeState RowWhy
invoke_state env pc resolution invocation s =
    method_of env.world resolution.site then λ m. named_class resolution then λ class. called env pc invocation m class s
