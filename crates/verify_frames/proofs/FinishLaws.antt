-- Instructions that make an object, or finish one: they change the types of unfinished objects alone.
use Rattle.std.proofs.Common.{◌≡◌, ℕ, Bool, true, false, cond, List, Result, Ok, Err, length, ap, subst}
use Rattle.std.specs.Prelude.{IfOk}
use Rattle.opcodes.specs.declared.op.Op.{Op}
use Rattle.opcodes.specs.declared.op.Op.TheVariants as ops
use Rattle.stack_maps.specs.declared.types.VType.{VType}
use Rattle.stack_maps.specs.declared.types.VType.TheVariants as types
use Rattle.instruction_rows.specs.declared.row_why.RowWhy.{RowWhy}
use Rattle.instruction_rows.specs.Results.{◌then◌}
use Rattle.instruction_rows.specs.Rows.{special}
use Rattle.instruction_rows.specs.Table.{row}
use Rattle.instruction_rows.specs.TypeEffect.{type_popped}
use Rattle.opcodes.specs.declared.op.ValueKind.TheVariants as kinds
use Rattle.link_model.specs.declared.members.MethodInfo.{MethodInfo}
use Rattle.link_model.specs.declared.sites.Resolution.{Resolution}
use Rattle.link_model.specs.World.{class_type}
use Rattle.verify_types.specs.TypeStates.{TypeState, with_stack}
use Rattle.verify_types.specs.Operands.{only_if}
use Rattle.verify_types.specs.Objects.{made_anew, named_class}
use Rattle.verify_types.specs.Calls.{arguments_taken, called, constructor_called, method_of, object_initialized, special_called}
use Rattle.verify_types.specs.Environment.{Environment, Instruction, is_constructor}
use Rattle.verify_types.specs.Effects.{row_state, state_after}
use Rattle.verify_instructions.specs.Unfinished.{is_unfinished, type_at}
use Rattle.verify_instructions.specs.declared.state.Uninitialized.TheVariants as objects
use Rattle.verify_instructions.proofs.LocalLaws.{replaced_as_many, replaced_same}
use Rattle.verify_frames.specs.Overwrites.{finishes}
use Rattle.verify_frames.proofs.KeepLaws.{Keeps, Kept, on_instance}

-- the same but for unfinished objects in local variables, the operand stack and the flag
pub record Finished (s after : TypeState) : Type 0 where
  pub as_many : length s.types.locals ≡ length after.types.locals
  pub same : (k : ℕ) → is_unfinished (type_at s.types.locals k) ≡ false → type_at s.types.locals k ≡ type_at after.types.locals k

abbrev Finishes : TypeState → Result TypeState RowWhy → Type 0
Finishes s r = IfOk r (Finished s)

bound : {A : Type 0} (s : TypeState) (r : Result A RowWhy) (f : A → Result TypeState RowWhy) → ((a : A) → Finishes s (f a)) → Finishes s (r then f)
bound s (Err why) f h = tt
bound s (Ok a) f h = h a

carried : (s : TypeState) (r : Result TypeState RowWhy) (f : TypeState → Result TypeState RowWhy) → Finishes s r → ((a : TypeState) → Finished s a → Finishes s (f a)) → Finishes s (r then f)
carried s (Err why) f h g = tt
carried s (Ok a) f h g = g a h

kept_finished : (s after : TypeState) → Kept s after → Finished s after
kept_finished s after h = record { as_many = ap length h.locals; same = λ k e. ap (λ ls. type_at ls k) h.locals }

keeps_finishes : (s : TypeState) (r : Result TypeState RowWhy) → Keeps s r → Finishes s r
keeps_finishes s (Err why) h = tt
keeps_finishes s (Ok after) h = kept_finished s after h

tested : (s after : TypeState) (b : Bool) (why : RowWhy) → Finished s after → Finishes s (only_if b why after)
tested s after true why h = h
tested s after false why h = tt

-- ---- new

pub anew : (pc : ℕ) (s : TypeState) → Finishes s (made_anew pc s)
anew pc s = tested s _ _ _ (record { as_many = replaced_as_many (objects.New pc) types.Top s.types.locals; same = replaced_same (objects.New pc) types.Top s.types.locals })

-- ---- constructors

object_finished : (env : Environment) (pc class : ℕ) (t : VType) (s : TypeState) (stack : List VType) → Finishes s (object_initialized env pc class t (with_stack s stack))
object_finished env pc class (types.Uninit new) s stack =
    tested s _ _ _ (record { as_many = replaced_as_many (objects.New new) (class_type env.world class) s.types.locals; same = replaced_same (objects.New new) (class_type env.world class) s.types.locals })
object_finished env pc class types.UninitThis s stack =
    tested s _ _ _ (record { as_many = replaced_as_many objects.This (class_type env.world env.method.class) s.types.locals; same = replaced_same objects.This (class_type env.world env.method.class) s.types.locals })
object_finished env pc class t s stack = tt

constructor_finished : (env : Environment) (pc : ℕ) (m : MethodInfo) (class : ℕ) (s : TypeState) → Finishes s (constructor_called env pc m class s)
constructor_finished env pc m class s =
    bound s (arguments_taken env.world m s.types.stack) _ (λ rest.
    bound s (type_popped kinds.Reference rest) _ (λ x.
    bound s _ _ (λ (y : VType × List VType).
    carried s (object_initialized env pc class y.0 (with_stack s y.1)) _ (object_finished env pc class y.0 s y.1) (λ after h. record { as_many = h.as_many; same = h.same }))))

special_finished : (env : Environment) (m : MethodInfo) (class : ℕ) (s : TypeState) → Finishes s (special_called env m class s)
special_finished env m class s =
    carried s _ _ (keeps_finishes s _ (on_instance env.world m env.method.class s)) (λ after h. tested s after _ _ h)

either : (s : TypeState) (b : Bool) (r q : Result TypeState RowWhy) → Finishes s r → Finishes s q → Finishes s (cond b r q)
either s true r q h k = h
either s false r q h k = k

called_finished : (env : Environment) (pc : ℕ) (m : MethodInfo) (class : ℕ) (s : TypeState) → Finishes s (called env pc special m class s)
called_finished env pc m class s =
    either s (is_constructor m) (constructor_called env pc m class s) (special_called env m class s) (constructor_finished env pc m class s) (special_finished env m class s)

special_row : (env : Environment) (pc : ℕ) (resolution : Resolution) (s : TypeState) → Finishes s (method_of env.world resolution.site then λ m. named_class resolution then λ class. called env pc special m class s)
special_row env pc resolution s =
    bound s (method_of env.world resolution.site) _ (λ m. bound s (named_class resolution) _ (λ class. called_finished env pc m class s))

op_finishes : (env : Environment) (pc : ℕ) (resolution : Resolution) (op : Op) (s : TypeState) → finishes op ≡ true → Finishes s (row_state env pc resolution (row op) s)
op_finishes env pc resolution (ops.New index) s h = anew pc s
op_finishes env pc resolution (ops.InvokeSpecial index) s h = special_row env pc resolution s
op_finishes env pc resolution op s h = absurd cc

pub after_finished : (env : Environment) (i : Instruction) (s after : TypeState) → finishes i.instr.op ≡ true → state_after env i s ≡ Ok after → Finished s after
after_finished env i s after h e = subst (λ r. Finishes s r) e (op_finishes env i.instr.pc i.resolution i.instr.op s h)
