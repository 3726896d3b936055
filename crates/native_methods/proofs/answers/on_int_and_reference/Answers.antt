use Rattle.std.proofs.Common.{ℕ, ℤ, List, Some, ap, rules, subst, to_z-of_z, ◌∙◌}
use Rattle.std.specs.Prelude.{FitsSigned, IfOk, true}
use Rattle.std.specs.Int.{w32}
use Rattle.opcodes.specs.declared.op.ValueKind.TheVariants as kinds
use Rattle.ref_model.specs.Printing.{written}
use Rattle.ref_model.specs.StringNatives.{string_char_at}
use Rattle.ref_model.specs.ThreadNatives.{thread_set_daemon}
use Rattle.ref_model.specs.Texts.{char_text}
use Rattle.native_methods.specs.Arguments.{to_two}
use Rattle.native_methods.specs.NativeStates.{Answers, printed}
use Rattle.native_methods.proofs.answers.on_int_and_reference.Goals as goal

pub returns-in-StringCharAt-clause-answer : goal.returns-in-StringCharAt-clause-answer
returns-in-StringCharAt-clause-answer g c =
    let fits : FitsSigned w32 c.args.n = search rules in
    let P : ℤ → Type 0 = λ n. Answers (λ r. to_two kinds.Int n c.args.this (Some (string_char_at r))) c.args.state.now c.args.state.now c.string_char_at.result in
    rw c.in-StringCharAt.is (subst P (to_z-of_z fits) c.string_char_at.ensures)

pub returns-in-PrintStreamPrintlnChar-clause-answer : goal.returns-in-PrintStreamPrintlnChar-clause-answer
returns-in-PrintStreamPrintlnChar-clause-answer g c =
    let fits : FitsSigned w32 c.args.n = search rules in
    let x = c.print-in-PrintStreamPrintlnChar in
    let P : List ℕ → Type 0 = λ units. IfOk x.result (λ a. Answers (λ r. Some (written r c.args.this (printed true units))) c.args.state.now x.new.state a) in
    rw c.in-PrintStreamPrintlnChar.is (subst P (c.char_text-in-PrintStreamPrintlnChar.ensures ∙ ap char_text (to_z-of_z fits)) x.ensures.answer)

pub returns-in-ThreadSetDaemon-clause-answer : goal.returns-in-ThreadSetDaemon-clause-answer
returns-in-ThreadSetDaemon-clause-answer g c =
    let fits : FitsSigned w32 c.args.n = search rules in
    let P : ℤ → Type 0 = λ n. Answers (λ r. to_two kinds.Int n c.args.this (Some (thread_set_daemon r))) c.args.state.now c.args.state.now c.daemon_set.result in
    rw c.in-ThreadSetDaemon.is (subst P (to_z-of_z fits) c.daemon_set.ensures)
