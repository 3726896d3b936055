-- What a native method does on an operand stack whose topmost operands are known.
use Rattle.std.proofs.Common.{◌≡◌, ℕ, drop, List, [], ◌∷◌, Option, Some, None, ap, refl, subst, sym, ◌∙◌}
use Rattle.std.specs.Prelude.{Result, Ok, Err, IfOk}
use Rattle.items.specs.Options.{◌>>=◌}
use Rattle.opcodes.specs.declared.op.ValueKind.{ValueKind}
use Rattle.opcodes.specs.declared.op.ValueKind.TheVariants as kinds
use Rattle.instruction_rows.specs.declared.value.Slot.{Slot}
use Rattle.instruction_rows.specs.Kinds.{Of, Function}
use Rattle.instruction_rows.specs.SlotEffect.{applied, popped}
use Rattle.lib_table.specs.declared.native.Native.{Native}
use Rattle.link_model.specs.World.{World}
use Rattle.ref_model.specs.Memory.{Memory}
use Rattle.ref_model.specs.Effects.{Effect}
use Rattle.ref_model.specs.NativeRows as rows
use Rattle.ref_model.specs.NativeRows.{NativeRow, native, native_acted, answered, row_kinds}
use Rattle.ref_model.specs.Natives.{native_row, native_takes}
use Rattle.ref_model.proofs.NativeLaws.{rows_take}
use Rattle.ref_model.specs.Operands.{FindsArguments, HasOperands}
use Rattle.native_methods.specs.Arguments.{answer_to, answer_to_none, answer_to_two, kinds_of, native_effect, row_answer, with_argument}
use Rattle.native_methods.specs.NativeStates.{Answers, AnswersOn, IsAnswer, IsAnswerEffect, LacksAnswer, with_natives}
use Rattle.native_methods.specs.declared.state.NativeState.{NativeState}
use Rattle.items.specs.declared.no_memory.NoMemory.{NoMemory}
use Rattle.heap_instructions.specs.Outcomes.{LacksEffect}
use Rattle.native_methods.proofs.AnswerLaws.{any_memory}
use Rattle.native_methods.proofs.UndefinedLaws.{lacks_answered, row_takes_none, row_takes_one, row_takes_two}
use Rattle.native_methods.specs.declared.arguments.Arguments.{Arguments}
use Rattle.native_methods.specs.declared.answer.Answer.{Answer}
use Rattle.native_methods.specs.declared.answer.Answer.TheVariants as answers

-- the operands of a native method, where the kinds that it takes are known
row_found : (o : Option NativeRow) (ks : List ValueKind) (stack : List Slot) → row_kinds o ≡ Some ks →
    ((takes : List ValueKind) (act : Function takes rows.Answer) → o ≡ Some (native takes act) → HasOperands takes 0 stack) → HasOperands ks 0 stack
row_found None ks stack e x = cc
row_found (Some (native takes act)) ks stack e x =
    let is : takes ≡ ks = cc in
    subst (λ js. HasOperands js 0 stack) is (x takes act refl)

pub arguments_found : (w : World) (n : Native) (a : Arguments) (stack : List Slot) → Some (kinds_of a) ≡ native_takes n → FindsArguments w n stack → HasOperands (kinds_of a) 0 stack
arguments_found w n a stack e x = row_found (native_row w any_memory n) (kinds_of a) stack (rows_take w any_memory n ∙ sym e) (x any_memory)

-- what a row does on a stack, if there is a row
abbrev on : Option NativeRow → List Slot → Option Effect
on o stack = o >>= λ row. native_acted row stack

answered_is : (o : Option NativeRow) (stack : List Slot) (a : rows.Answer) → row_answer o ≡ Some a → on o stack ≡ Some (answered stack a)
answered_is None stack a h = cc
answered_is (Some (native [] answer)) stack a h = ap (λ (x : Option rows.Answer). x >>= λ b. Some (answered stack b)) h
answered_is (Some (native (k ∷ ks) act)) stack a h = cc

-- a row on a stack whose topmost operand is of the kind that it takes first
taken : (k : ValueKind) (ks : List ValueKind) (act : Function (k ∷ ks) rows.Answer) (x : Of k) (stack rest : List Slot) → popped k stack ≡ Some (x, rest) →
    native_acted (native (k ∷ ks) act) stack ≡ native_acted (native ks (act x)) rest
taken k ks act x stack rest p =
    ap (λ (y : Option (Of k × List Slot)). (y >>= λ z. applied rows.Answer ks (act z.0) z.1) >>= λ z. Some (answered z.1 z.0)) p

argument_is : (k : ValueKind) (x : Of k) (o : Option NativeRow) (stack rest : List Slot) (e : Effect) → popped k stack ≡ Some (x, rest) →
    on (with_argument k x o) rest ≡ Some e → on o stack ≡ Some e
argument_is kinds.Int x None stack rest e p h = cc
argument_is kinds.Int x (Some (native [] act)) stack rest e p h = cc
argument_is kinds.Int x (Some (native (kinds.Int ∷ ks) act)) stack rest e p h = taken kinds.Int ks act x stack rest p ∙ h
argument_is kinds.Int x (Some (native (kinds.Long ∷ ks) act)) stack rest e p h = cc
argument_is kinds.Int x (Some (native (kinds.Reference ∷ ks) act)) stack rest e p h = cc
argument_is kinds.Long x None stack rest e p h = cc
argument_is kinds.Long x (Some (native [] act)) stack rest e p h = cc
argument_is kinds.Long x (Some (native (kinds.Int ∷ ks) act)) stack rest e p h = cc
argument_is kinds.Long x (Some (native (kinds.Long ∷ ks) act)) stack rest e p h = taken kinds.Long ks act x stack rest p ∙ h
argument_is kinds.Long x (Some (native (kinds.Reference ∷ ks) act)) stack rest e p h = cc
argument_is kinds.Reference x None stack rest e p h = cc
argument_is kinds.Reference x (Some (native [] act)) stack rest e p h = cc
argument_is kinds.Reference x (Some (native (kinds.Int ∷ ks) act)) stack rest e p h = cc
argument_is kinds.Reference x (Some (native (kinds.Long ∷ ks) act)) stack rest e p h = cc
argument_is kinds.Reference x (Some (native (kinds.Reference ∷ ks) act)) stack rest e p h = taken kinds.Reference ks act x stack rest p ∙ h

-- ---- from an answer to an effect

-- where an answer makes an effect of the same kind, whatever it is
by_answer : (answer : Answer) (defined : Option rows.Answer) (effect : Option Effect) (q : Memory) (rest : List Slot) → (a : rows.Answer) × (defined ≡ Some a) →
    ((a : rows.Answer) → defined ≡ Some a → effect ≡ Some (answered rest a)) → IsAnswer answer defined q → IsAnswerEffect answer effect q rest
by_answer answers.Returns defined effect q rest some is h = is _ h
by_answer (answers.Gives v) defined effect q rest some is h = is _ h
by_answer (answers.Throws e) defined effect q rest some is h = is _ h
by_answer (answers.Asks asked) defined effect q rest some is h = is _ h
by_answer answers.Undefined defined effect q rest some is h = λ room.
    subst (LacksEffect room) (sym (is some.0 some.1)) (lacks_answered some.0 rest room (subst LacksAnswer some.1 h))

-- A native method that takes nothing, one that takes one operand, and one that takes two, the second a reference.
pub none_answered : (answer : Answer) (w : World) (r q : Memory) (n : Native) (stack : List Slot) → native_takes n ≡ Some [] →
    IsAnswer answer (answer_to_none w r n) q → IsAnswerEffect answer (native_effect w n r stack) q stack
none_answered answer w r q n stack takes h =
    by_answer answer (answer_to_none w r n) (native_effect w n r stack) q stack (row_takes_none w r n takes) (answered_is (native_row w r n) stack) h

pub one_answered : (answer : Answer) (w : World) (r q : Memory) (n : Native) (k : ValueKind) (x : Of k) (stack rest : List Slot) →
    native_takes n ≡ Some (k ∷ []) → popped k stack ≡ Some (x, rest) → IsAnswer answer (answer_to w r n k x) q → IsAnswerEffect answer (native_effect w n r stack) q rest
one_answered answer w r q n k x stack rest takes p h =
    let row = native_row w r n in
    by_answer answer (answer_to w r n k x) (native_effect w n r stack) q rest (row_takes_one w r n k x takes)
    (λ a e. argument_is k x row stack rest (answered rest a) p (answered_is (with_argument k x row) rest a e)) h

pub two_answered : (answer : Answer) (w : World) (r q : Memory) (n : Native) (k : ValueKind) (x : Of k) (this : Of kinds.Reference)
    (stack middle rest : List Slot) → native_takes n ≡ Some (k ∷ kinds.Reference ∷ []) → popped k stack ≡ Some (x, middle) → popped kinds.Reference middle ≡ Some (this, rest) →
    IsAnswer answer (answer_to_two w r n k x this) q → IsAnswerEffect answer (native_effect w n r stack) q rest
two_answered answer w r q n k x this stack middle rest takes p p2 h =
    let row = native_row w r n in
    by_answer answer (answer_to_two w r n k x this) (native_effect w n r stack) q rest (row_takes_two w r n k x this takes)
    (λ a e. argument_is k x row stack middle (answered rest a) p
    (argument_is kinds.Reference this (with_argument k x row) middle rest (answered rest a) p2
    (answered_is (with_argument kinds.Reference this (with_argument k x row)) rest a e))) h

pub none_along : (w : World) (n : Native) (stack : List Slot) (old new : NativeState) (a : Answer) → native_takes n ≡ Some [] →
    Answers (λ r. answer_to_none w r n) old new a → AnswersOn w n stack 0 old new a
none_along w n stack old new a takes h = λ r. none_answered a w (with_natives old r) (with_natives new r) n stack takes (h r)

-- The same, unless memory ran out.
pub one_along : (w : World) (n : Native) (k : ValueKind) (x : Of k) (stack : List Slot) (count : ℕ) (old new : NativeState) (result : Result Answer NoMemory) →
    native_takes n ≡ Some (k ∷ []) → popped k stack ≡ Some (x, drop count stack) → IfOk result (λ a. Answers (λ r. answer_to w r n k x) old new a) → IfOk result (AnswersOn w n stack count old new)
one_along w n k x stack count old new (Err e) takes p h = tt
one_along w n k x stack count old new (Ok a) takes p h = λ r. one_answered a w (with_natives old r) (with_natives new r) n k x stack (drop count stack) takes p (h r)

pub two_along : (w : World) (n : Native) (k : ValueKind) (x : Of k) (this : Of kinds.Reference) (stack : List Slot) (first count : ℕ) (old new : NativeState) (result : Result Answer NoMemory) →
    native_takes n ≡ Some (k ∷ kinds.Reference ∷ []) → popped k stack ≡ Some (x, drop first stack) → popped kinds.Reference (drop first stack) ≡ Some (this, drop count stack) →
    IfOk result (λ a. Answers (λ r. answer_to_two w r n k x this) old new a) → IfOk result (AnswersOn w n stack count old new)
two_along w n k x this stack first count old new (Err e) takes p q h = tt
two_along w n k x this stack first count old new (Ok a) takes p q h = λ r.
    two_answered a w (with_natives old r) (with_natives new r) n k x this stack (drop first stack) (drop count stack) takes p q (h r)
