-- Where the receiver of an invocation lies: below the arguments, as many slots as they take. They and it are there.
use Rattle.std.proofs.Common.{ℕ, ◌≡◌, ◌+◌, ◌≤◌, Bool, true, false, List, [], ◌∷◌, ◌++◌, Option, Some, length, map, reverse, refl, sym, subst, ap, ◌∙◌, arith}
use Rattle.std.specs.Prelude.{slice_get, sum_by, ◌==◌, ◌||◌, if◌then◌else◌}
use Rattle.std.specs.List.{list_any}
use Rattle.std.specs.Option.{option_map_or}
use Rattle.std.proofs.lemmas.List.Sums.{sum_by-cons}
use Rattle.std.proofs.lemmas.List.Sorted.{sum_by-IsPermutation, IsPermutation-reverse}
use Rattle.descriptors.specs.declared.kind.ElementType.{ElementType}
use Rattle.descriptors.specs.declared.kind.ElementType.TheVariants as elements
use Rattle.descriptors.specs.declared.kind.Kind.{Kind as FieldType}
use Rattle.descriptors.specs.declared.kind.Signature.{Signature}
use Rattle.descriptors.specs.Descriptors.{element_slots, slots}
use Rattle.opcodes.specs.declared.op.ValueKind.{ValueKind}
use Rattle.opcodes.specs.declared.op.ValueKind.TheVariants as kinds
use Rattle.instruction_rows.specs.declared.value.Slot.{Slot}
use Rattle.instruction_rows.specs.Rows.{Invocation, static, Row, invoke}
use Rattle.link_model.specs.declared.members.MethodInfo.{MethodInfo}
use Rattle.link_model.specs.declared.sites.Resolution.{Resolution}
use Rattle.link_model.specs.World.{World}
use Rattle.ref_model.specs.Fetch.{Named, method_of}
use Rattle.ref_model.specs.Kinds.{argument_slots, kind_of_element_type, value_kind}
use Rattle.ref_model.specs.Operands.{FindsOperands, HasOperand, HasOperands, argument_kinds, called_takes, width}
use Rattle.heap_instructions.proofs.OperandLaws.{has_at, operand_within}
use Rattle.invocation.specs.declared.invocation_cache.NamedMethod.{NamedMethod}
use Rattle.invocation.specs.declared.target.Callee.{Callee}
use Rattle.invocation.specs.declared.target.Target.{Target}
use Rattle.invocation.specs.declared.target.Target.TheVariants as targets
use Rattle.invocation.specs.Arguments.{is_double, is_double_element, takes_double}
use Rattle.invocation.specs.InvocationCache.{IsNamed}
use Rattle.invocation.specs.Targets.{IfCode, IsStaticCallee}
use Rattle.invocation.proofs.InvocationLaws.{named_is}

-- ---- how many slots arguments take

element_width : (b : Bool) (x : ElementType) → (if b then is_double_element x else false) ≡ false →
    width (if b then kind_of_element_type x else kinds.Reference) ≡ (if b then element_slots x else 1)
element_width false x plain = refl
element_width true elements.Byte plain = refl
element_width true elements.Char plain = refl
element_width true elements.Double plain = cc
element_width true elements.Float plain = refl
element_width true elements.Int plain = refl
element_width true elements.Long plain = refl
element_width true elements.Short plain = refl
element_width true elements.Bool plain = refl
element_width true (elements.Class name) plain = refl

neither : (a b : Bool) → (a || b) ≡ false → (a ≡ false) × (b ≡ false)
neither false b e = (refl, e)
neither true b e = cc

widths_are_slots : (ts : List FieldType) → list_any is_double ts ≡ false → sum_by width (map value_kind ts) ≡ sum_by slots ts
widths_are_slots [] plain = refl
widths_are_slots (t ∷ ts) plain =
    let both = neither (is_double t) (list_any is_double ts) plain in
    let first : width (value_kind t) ≡ slots t = element_width (t.dimensions == 0) t.element both.0 in
    let rest = widths_are_slots ts both.1 in
    sum_by-cons width (value_kind t) (map value_kind ts) ∙ ap (λ n. n + sum_by width (map value_kind ts)) first ∙ ap (λ n. slots t + n) rest
    ∙ sym (sum_by-cons slots t ts)

-- ---- what lies below them

below : (ks : List ValueKind) (depth : ℕ) (stack : List Slot) → HasOperands (ks ++ kinds.Reference ∷ []) depth stack →
    HasOperand kinds.Reference (depth + sum_by width ks) stack
below [] depth stack x = has_at kinds.Reference depth (depth + 0) stack (omega arith) x.0
below (k ∷ ks) depth stack x =
    let all = sum_by-cons width k ks in
    has_at kinds.Reference (depth + width k + sum_by width ks) (depth + sum_by width (k ∷ ks)) stack (omega arith) (below ks (depth + width k) stack x.1)

-- what the arguments of a method take
argument_widths : (s : Signature) (count : ℕ) → takes_double s ≡ false → count ≡ argument_slots s → sum_by width (argument_kinds s) ≡ count
argument_widths s count plain is =
    let ks = map value_kind s.args in
    sum_by-IsPermutation width ks (reverse ks) (IsPermutation-reverse ks) ∙ widths_are_slots s.args plain ∙ sym is

receiver_below : (s : Signature) (count : ℕ) (stack : List Slot) → takes_double s ≡ false → count ≡ argument_slots s →
    HasOperands (argument_kinds s ++ kinds.Reference ∷ []) 0 stack → HasOperand kinds.Reference count stack
receiver_below s count stack plain is x =
    let all = argument_widths s count plain is in
    has_at kinds.Reference (0 + sum_by width (argument_kinds s)) count stack (omega arith) (below (argument_kinds s) 0 stack x)

-- ---- an invocation of a method that is known

taken : (w : World) (resolution : Resolution) (r : Row) (invocation : Invocation) (index n : ℕ) (m : MethodInfo) (stack : List Slot) → r ≡ invoke invocation index →
    Some n ≡ method_of resolution.site → Some m ≡ slice_get w.methods n → FindsOperands w resolution r stack → HasOperands (called_takes invocation m.signature) 0 stack
taken w resolution r invocation index n m stack row site is x =
    let P : List ValueKind → Type 0 = λ ks. HasOperands ks 0 stack in
    let by : Option Named → List ValueKind = λ o. option_map_or (λ (named : Named). called_takes invocation named.method.signature) o [] in
    let here : FindsOperands w resolution (invoke invocation index) stack = subst (λ (y : Row). FindsOperands w resolution y stack) row x in
    subst P (ap by (named_is w resolution n m site is)) here

-- the receiver of one that takes it
pub receiver_found : (w : World) (resolution : Resolution) (r : Row) (invocation : Invocation) (index : ℕ) (m : NamedMethod) (stack : List Slot) →
    ((s : Signature) → called_takes invocation s ≡ argument_kinds s ++ kinds.Reference ∷ []) → r ≡ invoke invocation index →
    Some m.number ≡ method_of resolution.site → IsNamed w m → FindsOperands w resolution r stack → HasOperand kinds.Reference m.slots stack
receiver_found w resolution r invocation index m stack takes row site is x =
    let P : List ValueKind → Type 0 = λ ks. HasOperands ks 0 stack in
    receiver_below is.method.signature m.slots stack is.plain is.slots
    (subst P (takes is.method.signature) (taken w resolution r invocation index m.number is.method stack row site is.is x))

-- ---- how many slots there are

all_within : (ks : List ValueKind) (depth : ℕ) (stack : List Slot) → depth ≤ length stack → HasOperands ks depth stack → depth + sum_by width ks ≤ length stack
all_within [] depth stack within x = omega arith
all_within (k ∷ ks) depth stack within x =
    let all = sum_by-cons width k ks in
    let rest = all_within ks (depth + width k) stack (operand_within k depth stack x.0) x.1 in
    omega arith

-- the arguments of an invokestatic
pub arguments_given : (w : World) (resolution : Resolution) (r : Row) (index n slots : ℕ) (m : MethodInfo) (stack : List Slot) → r ≡ invoke static index →
    Some n ≡ method_of resolution.site → Some m ≡ slice_get w.methods n → takes_double m.signature ≡ false → slots ≡ argument_slots m.signature →
    FindsOperands w resolution r stack → slots ≤ length stack
arguments_given w resolution r index n slots m stack row site at plain is x =
    let all = argument_widths m.signature slots plain is in
    let within = all_within (argument_kinds m.signature) 0 stack (omega arith) (taken w resolution r static index n m stack row site at x) in
    omega arith

-- and of the method that it begins as a local instruction
pub callee_given : (w : World) (resolution : Resolution) (r : Row) (index : ℕ) (c : Callee) (stack : List Slot) → r ≡ invoke static index → IsStaticCallee w resolution c →
    FindsOperands w resolution r stack → c.slots ≤ length stack
callee_given w resolution r index c stack row x there =
    let same = ap (λ (y : Callee). y.slots) x.callee.is in
    let given = arguments_given w resolution r index x.number x.slots x.callee.method stack row (sym x.named) (sym x.callee.at) x.plain x.takes there in
    omega arith

pub code_given : (target : Target) (slots : ℕ) (stack : List Slot) → IfCode target (λ callee. callee.slots ≡ slots) → slots ≤ length stack →
    IfCode target (λ callee. callee.slots ≤ length stack)
code_given (targets.Code callee) slots stack is given = omega arith
code_given (targets.Pins callee) slots stack is given = omega arith
code_given (targets.Synchronized callee) slots stack is given = omega arith
code_given (targets.Native native) slots stack is given = tt
code_given (targets.Throws e) slots stack is given = tt
code_given targets.Undefined slots stack is given = tt
