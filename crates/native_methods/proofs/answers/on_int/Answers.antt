use Rattle.std.proofs.Common.{ℕ, List, Some, ap, rules, subst, to_z-of_z, ◌∙◌}
use Rattle.std.specs.Prelude.{FitsSigned, IfOk}
use Rattle.std.specs.Int.{w32}
use Rattle.ref_model.specs.NativeRows.{gives_text}
use Rattle.ref_model.specs.Texts.{char_text}
use Rattle.native_methods.specs.NativeStates.{Answers}
use Rattle.native_methods.proofs.answers.on_int.Goals as goal

pub returns-in-StringValueOfChar-clause-answer : goal.returns-in-StringValueOfChar-clause-answer
returns-in-StringValueOfChar-clause-answer g c =
    let fits : FitsSigned w32 c.args.n = search rules in
    let x = c.new_text-in-StringValueOfChar in
    let P : List ℕ → Type 0 = λ units. IfOk x.result (λ a. Answers (λ r. Some (gives_text r units)) c.args.state.now x.new.state a) in
    rw c.in-StringValueOfChar.is (subst P (c.char_text.ensures ∙ ap char_text (to_z-of_z fits)) x.ensures.answer)
