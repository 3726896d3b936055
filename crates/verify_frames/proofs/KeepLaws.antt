-- Instructions that change the operand stack alone.
use Rattle.std.proofs.Common.{◌≡◌, ℕ, Bool, true, false, List, Result, Ok, Err, refl, subst}
use Rattle.std.specs.Prelude.{IfOk}
use Rattle.opcodes.specs.declared.op.Op.{Op}
use Rattle.opcodes.specs.declared.op.Op.TheVariants as ops
use Rattle.opcodes.specs.declared.op.Simple.{Simple}
use Rattle.opcodes.specs.declared.op.Simple.TheVariants as simples
use Rattle.opcodes.specs.declared.op.Primitive.{Primitive}
use Rattle.opcodes.specs.declared.op.Primitive.TheVariants as primitives
use Rattle.opcodes.specs.declared.op.ValueKind.TheVariants as kinds
use Rattle.stack_maps.specs.declared.types.VType.{VType}
use Rattle.stack_maps.specs.declared.types.VType.TheVariants as types
use Rattle.instruction_rows.specs.declared.row_why.RowWhy.{RowWhy}
use Rattle.instruction_rows.specs.Contents.{Contents}
use Rattle.instruction_rows.specs.Results.{◌then◌}
use Rattle.instruction_rows.specs.Rows.{LocalRow, push, int, long, moves, load, store, increment, branch, jump, select, Invocation, virtual, special, static, interface, dynamic, Event, get_static, put_static, get_field, put_field, new, new_array, new_array_of, new_arrays, array_length, array_load, array_store, check_cast, instance_of, throw, monitor_enter, monitor_exit, Row, local, constant, wide_constant, returns, invoke, event, refused}
use Rattle.instruction_rows.specs.Table.{row, simple_row, new_array_row}
use Rattle.instruction_rows.specs.StackItems.{items_on}
use Rattle.instruction_rows.specs.TypeEffect.{items_popped, local_type, type_popped, type_pushed, typed, types_on, types_popped}
use Rattle.link_model.specs.declared.members.MethodInfo.{MethodInfo}
use Rattle.link_model.specs.declared.sites.Resolution.{Resolution}
use Rattle.link_model.specs.World.{World, class_type}
use Rattle.verify_types.specs.TypeStates.{TypeState, with_stack, with_types}
use Rattle.verify_types.specs.Operands.{only_if, wanted}
use Rattle.verify_types.specs.Objects.{constant_type, event_state, named_class}
use Rattle.verify_types.specs.Calls.{arguments_taken, called, instance_called, method_of, result_given}
use Rattle.verify_types.specs.Environment.{Environment, Instruction}
use Rattle.verify_types.specs.Effects.{row_state, state_after, constant_pushed}
use Rattle.verify_frames.specs.Overwrites.{keeps_locals}

-- the same but for the operand stack
pub record Kept (s after : TypeState) : Type 0 where
  pub locals : s.types.locals ≡ after.types.locals
  pub flag : s.this_uninit ≡ after.this_uninit

abbrev pub Keeps : TypeState → Result TypeState RowWhy → Type 0
Keeps s r = IfOk r (Kept s)

same : (s : TypeState) (stack : List VType) → Kept s (with_stack s stack)
same s stack = record { locals = refl; flag = refl }

bound : {A : Type 0} (s : TypeState) (r : Result A RowWhy) (f : A → Result TypeState RowWhy) → ((a : A) → Keeps s (f a)) → Keeps s (r then f)
bound s (Err why) f h = tt
bound s (Ok a) f h = h a

tested : (s : TypeState) (b : Bool) (why : RowWhy) (stack : List VType) → Keeps s (only_if b why (with_stack s stack))
tested s true why stack = same s stack
tested s false why stack = tt

-- ---- local rows

abbrev KeepsTypes : Contents VType → Result (Contents VType) RowWhy → Type 0
KeepsTypes c r = IfOk r (λ after. c.locals ≡ after.locals)

pushed : {A : Type 0} (c : Contents VType) (r : Result A RowWhy) (f : A → List VType) → KeepsTypes c (r then λ x. types_on c.locals (f x))
pushed c (Err why) f = tt
pushed c (Ok x) f = refl

unchanged : {A : Type 0} (c : Contents VType) (r : Result A RowWhy) → KeepsTypes c (r then λ x. Ok c)
unchanged c (Err why) = tt
unchanged c (Ok x) = refl

abbrev keeps_types : LocalRow → Bool
keeps_types (store k n) = false
keeps_types r = true

types_kept : (r : LocalRow) (c : Contents VType) → keeps_types r ≡ true → KeepsTypes c (typed r c)
types_kept (push t v) c h = refl
types_kept (int takes f) c h = pushed c (types_popped takes c.stack) (λ stack. type_pushed types.Int stack)
types_kept (long takes f) c h = pushed c (types_popped takes c.stack) (λ stack. type_pushed types.Long stack)
types_kept (moves widths order) c h = pushed c (items_popped widths c.stack) (λ x. items_on x.0 order x.1)
types_kept (load k n) c h = pushed c (local_type k n c.locals) (λ t. type_pushed t c.stack)
types_kept (store k n) c h = absurd cc
types_kept (increment n amount) c h = unchanged c (local_type kinds.Int n c.locals)
types_kept (branch takes test target) c h = pushed c (types_popped takes c.stack) (λ stack. stack)
types_kept (jump target) c h = refl
types_kept (select choice targets) c h = pushed c (type_popped kinds.Int c.stack) (λ x. x.1)

with_kept : (s : TypeState) (r : Result (Contents VType) RowWhy) → KeepsTypes s.types r → Keeps s (r then λ types. Ok (with_types s types))
with_kept s (Err why) h = tt
with_kept s (Ok types) h = record { locals = h; flag = refl }

-- ---- calls

given : (w : World) (m : MethodInfo) (s : TypeState) (rest : List VType) → Keeps s (result_given w m s rest)
given w m s rest = tested s _ _ _

pub on_instance : (w : World) (m : MethodInfo) (class : ℕ) (s : TypeState) → Keeps s (instance_called w m class s)
on_instance w m class s = bound s (arguments_taken w m s.types.stack) (λ rest. wanted w (class_type w class) rest then λ below. result_given w m s below) (λ rest. bound s (wanted w (class_type w class) rest) (λ below. result_given w m s below) (λ below. given w m s below))

abbrev keeps_call : Invocation → Bool
keeps_call special = false
keeps_call i = true

call_kept : (env : Environment) (pc : ℕ) (i : Invocation) (m : MethodInfo) (class : ℕ) (s : TypeState) → keeps_call i ≡ true → Keeps s (called env pc i m class s)
call_kept env pc virtual m class s h = on_instance env.world m class s
call_kept env pc special m class s h = absurd cc
call_kept env pc static m class s h = bound s (arguments_taken env.world m s.types.stack) (λ rest. result_given env.world m s rest) (λ rest. given env.world m s rest)
call_kept env pc (interface count) m class s h = on_instance env.world m class s
call_kept env pc dynamic m class s h = tt

-- ---- rows

abbrev keeps_event : Event → Bool
keeps_event (new index) = false
keeps_event e = true

on_stack : (s : TypeState) (r : Result (List VType) RowWhy) → Keeps s (r then λ stack. Ok (with_stack s stack))
on_stack s r = bound s r _ (λ stack. same s stack)

event_kept : (w : World) (own pc : ℕ) (resolution : Resolution) (e : Event) (s : TypeState) → keeps_event e ≡ true → Keeps s (event_state w own pc resolution e s)
event_kept w own pc resolution (get_static index) s h = on_stack s _
event_kept w own pc resolution (put_static index) s h = on_stack s _
event_kept w own pc resolution (get_field index) s h = on_stack s _
event_kept w own pc resolution (put_field index) s h = on_stack s _
event_kept w own pc resolution (new index) s h = absurd cc
event_kept w own pc resolution (new_array primitive) s h = on_stack s _
event_kept w own pc resolution (new_array_of index) s h = on_stack s _
event_kept w own pc resolution (new_arrays index lengths) s h = on_stack s _
event_kept w own pc resolution array_length s h = on_stack s _
event_kept w own pc resolution (array_load element) s h = on_stack s _
event_kept w own pc resolution (array_store element) s h = on_stack s _
event_kept w own pc resolution (check_cast index) s h = on_stack s _
event_kept w own pc resolution (instance_of index) s h = on_stack s _
event_kept w own pc resolution throw s h = on_stack s _
event_kept w own pc resolution monitor_enter s h = on_stack s _
event_kept w own pc resolution monitor_exit s h = on_stack s _

abbrev keeps_row : Row → Bool
keeps_row (local r) = keeps_types r
keeps_row (invoke i index) = keeps_call i
keeps_row (event e) = keeps_event e
keeps_row r = true

constant_kept : (w : World) (resolution : Resolution) (s : TypeState) → Keeps s (constant_pushed w resolution s)
constant_kept w resolution s = bound s (constant_type w resolution.site) (λ t. Ok (with_stack s (type_pushed t s.types.stack))) (λ t. same s (type_pushed t s.types.stack))

row_kept : (env : Environment) (pc : ℕ) (resolution : Resolution) (r : Row) (s : TypeState) → keeps_row r ≡ true → Keeps s (row_state env pc resolution r s)
row_kept env pc resolution (local r) s h = with_kept s _ (types_kept r s.types h)
row_kept env pc resolution (constant index) s h = constant_kept env.world resolution s
row_kept env pc resolution (wide_constant index) s h = constant_kept env.world resolution s
row_kept env pc resolution (returns kind) s h = on_stack s _
row_kept env pc resolution (invoke i index) s h = bound s (method_of env.world resolution.site) (λ m. named_class resolution then λ class. called env pc i m class s) (λ m. bound s (named_class resolution) (λ class. called env pc i m class s) (λ class. call_kept env pc i m class s h))
row_kept env pc resolution (event e) s h = event_kept env.world env.method.class pc resolution e s h
row_kept env pc resolution refused s h = tt

-- ---- instructions

simple_keeps : (x : Simple) → keeps_row (simple_row x) ≡ true
simple_keeps simples.Nop = refl
simple_keeps simples.PushNull = refl
simple_keeps (simples.ArrayLoad element) = refl
simple_keeps (simples.ArrayStore element) = refl
simple_keeps simples.Pop = refl
simple_keeps simples.Pop2 = refl
simple_keeps simples.Dup = refl
simple_keeps simples.DupX1 = refl
simple_keeps simples.DupX2 = refl
simple_keeps simples.Dup2 = refl
simple_keeps simples.Dup2X1 = refl
simple_keeps simples.Dup2X2 = refl
simple_keeps simples.Swap = refl
simple_keeps (simples.IntBinary op) = refl
simple_keeps (simples.LongBinary op) = refl
simple_keeps (simples.LongShift op) = refl
simple_keeps simples.IntNegate = refl
simple_keeps simples.LongNegate = refl
simple_keeps simples.IntToLong = refl
simple_keeps simples.LongToInt = refl
simple_keeps (simples.IntNarrow to) = refl
simple_keeps simples.LongCompare = refl
simple_keeps (simples.ReturnValue kind) = refl
simple_keeps simples.Return = refl
simple_keeps simples.ArrayLength = refl
simple_keeps simples.Throw = refl
simple_keeps simples.MonitorEnter = refl
simple_keeps simples.MonitorExit = refl

array_keeps : (p : Primitive) → keeps_row (new_array_row p) ≡ true
array_keeps primitives.Boolean = refl
array_keeps primitives.Char = refl
array_keeps primitives.Float = refl
array_keeps primitives.Double = refl
array_keeps primitives.Byte = refl
array_keeps primitives.Short = refl
array_keeps primitives.Int = refl
array_keeps primitives.Long = refl

op_keeps : (op : Op) → keeps_locals op ≡ true → keeps_row (row op) ≡ true
op_keeps (ops.Simple simple) h = simple_keeps simple
op_keeps (ops.PushInt n) h = refl
op_keeps (ops.PushLong n) h = refl
op_keeps (ops.PushConstant n) h = refl
op_keeps (ops.PushWideConstant n) h = refl
op_keeps (ops.Load k n) h = refl
op_keeps (ops.Store k n) h = absurd cc
op_keeps (ops.Increment n a) h = refl
op_keeps (ops.IfZero c t) h = refl
op_keeps (ops.IfInts c t) h = refl
op_keeps (ops.IfReferences c t) h = refl
op_keeps (ops.IfNull c t) h = refl
op_keeps (ops.Goto t) h = refl
op_keeps (ops.TableSwitch s) h = refl
op_keeps (ops.LookupSwitch s) h = refl
op_keeps (ops.GetStatic n) h = refl
op_keeps (ops.PutStatic n) h = refl
op_keeps (ops.GetField n) h = refl
op_keeps (ops.PutField n) h = refl
op_keeps (ops.InvokeVirtual n) h = refl
op_keeps (ops.InvokeSpecial n) h = absurd cc
op_keeps (ops.InvokeStatic n) h = refl
op_keeps (ops.InvokeInterface n c) h = refl
op_keeps (ops.InvokeDynamic n) h = refl
op_keeps (ops.New n) h = absurd cc
op_keeps (ops.NewArray p) h = array_keeps p
op_keeps (ops.ANewArray n) h = refl
op_keeps (ops.MultiANewArray n d) h = refl
op_keeps (ops.CheckCast n) h = refl
op_keeps (ops.InstanceOf n) h = refl
op_keeps (ops.Jsr t) h = refl
op_keeps (ops.Ret n) h = refl
op_keeps (ops.Floating o) h = refl

-- the state after an instruction that keeps the local variables has those of the state before it
pub after_kept : (env : Environment) (i : Instruction) (s after : TypeState) → keeps_locals i.instr.op ≡ true → state_after env i s ≡ Ok after → Kept s after
after_kept env i s after h e = subst (λ r. Keeps s r) e (row_kept env i.instr.pc i.resolution (row i.instr.op) s (op_keeps i.instr.op h))
