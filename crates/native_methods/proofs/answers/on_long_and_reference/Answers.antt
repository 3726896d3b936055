use Rattle.std.proofs.Common.{ℤ, Some, rules, subst, to_z-of_z}
use Rattle.std.specs.Prelude.{FitsSigned}
use Rattle.std.specs.Int.{w64}
use Rattle.opcodes.specs.declared.op.ValueKind.TheVariants as kinds
use Rattle.ref_model.specs.ThreadNatives.{object_wait_millis, thread_join_millis}
use Rattle.native_methods.specs.Arguments.{to_two}
use Rattle.native_methods.specs.NativeStates.{Answers}
use Rattle.native_methods.proofs.answers.on_long_and_reference.Goals as goal

pub returns-in-ObjectWaitMillis-clause-answer : goal.returns-in-ObjectWaitMillis-clause-answer
returns-in-ObjectWaitMillis-clause-answer g c =
    let fits : FitsSigned w64 c.args.n = search rules in
    let P : ℤ → Type 0 = λ n. Answers (λ r. to_two kinds.Long n c.args.this (Some object_wait_millis)) c.args.state.now c.args.state.now c.waited_for.result in
    rw c.in-ObjectWaitMillis.is (subst P (to_z-of_z fits) (c.waited_for.ensures c.args.state.now))

pub returns-in-ThreadJoinMillis-clause-answer : goal.returns-in-ThreadJoinMillis-clause-answer
returns-in-ThreadJoinMillis-clause-answer g c =
    let fits : FitsSigned w64 c.args.n = search rules in
    let P : ℤ → Type 0 = λ n. Answers (λ r. to_two kinds.Long n c.args.this (Some (thread_join_millis r))) c.args.state.now c.args.state.now c.joined_for.result in
    rw c.in-ThreadJoinMillis.is (subst P (to_z-of_z fits) c.joined_for.ensures)
