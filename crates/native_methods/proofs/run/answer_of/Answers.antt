use Rattle.std.proofs.Common.{ℤ, ap, rules, subst, sym, to_z-of_z, ◌∙◌}
use Rattle.std.specs.Prelude.{FitsSigned, IfOk, Some}
use Rattle.std.specs.Int.{w32, w64}
use Rattle.opcodes.specs.declared.op.ValueKind.TheVariants as kinds
use Rattle.heap_instructions.specs.Operands.{operands}
use Rattle.native_methods.specs.Arguments.{answer_to, answer_to_two, kinds_of, slots_of}
use Rattle.native_methods.specs.NativeStates.{Answers, AnswersOn}
use Rattle.native_methods.specs.declared.arguments.Arguments.{Arguments}
use Rattle.native_methods.proofs.ArgumentLaws.{one_along, two_along}
use Rattle.native_methods.proofs.run.answer_of.Goals as goal

pub returns-in-Reference-clause-answer : goal.returns-in-Reference-clause-answer
returns-in-Reference-clause-answer g c =
    let w = g.W.EventWorld.world c.args.world.now in
    let n = c.args.native in
    let stack = operands c.args.mounted.now in
    let old = c.args.state.now in
    let new = c.on_reference.new.state in
    let is = c.in-Reference.is in
    subst (λ (a : Arguments). IfOk c.on_reference.result (AnswersOn w n stack (slots_of a) old new)) (sym is)
    (one_along w n kinds.Reference c.reference_operand-this.result stack 1 old new c.on_reference.result
    (sym c.requires.takes ∙ ap (λ (a : Arguments). Some (kinds_of a)) is) c.reference_operand-this.ensures.read c.on_reference.ensures.answer)

pub returns-in-TwoReferences-clause-answer : goal.returns-in-TwoReferences-clause-answer
returns-in-TwoReferences-clause-answer g c =
    let w = g.W.EventWorld.world c.args.world.now in
    let n = c.args.native in
    let stack = operands c.args.mounted.now in
    let old = c.args.state.now in
    let new = c.on_two_references.new.state in
    let is = c.in-TwoReferences.is in
    subst (λ (a : Arguments). IfOk c.on_two_references.result (AnswersOn w n stack (slots_of a) old new)) (sym is)
    (two_along w n kinds.Reference c.reference_operand-other.result c.reference_operand-this-in-TwoReferences.result stack 1 2 old new c.on_two_references.result
    (sym c.requires.takes ∙ ap (λ (a : Arguments). Some (kinds_of a)) is) c.reference_operand-other.ensures.read c.reference_operand-this-in-TwoReferences.ensures.read c.on_two_references.ensures.answer)

pub returns-in-IntAndReference-clause-answer : goal.returns-in-IntAndReference-clause-answer
returns-in-IntAndReference-clause-answer g c =
    let w = g.W.EventWorld.world c.args.world.now in
    let n = c.args.native in
    let stack = operands c.args.mounted.now in
    let old = c.args.state.now in
    let new = c.on_int_and_reference.new.state in
    let is = c.in-IntAndReference.is in
    let fits : FitsSigned w32 c.int_operand-n.result = search rules in
    let answered = subst (λ (x : ℤ). IfOk c.on_int_and_reference.result (λ a. Answers (λ r. answer_to_two w r n kinds.Int x c.reference_operand-this-in-IntAndReference.result) old new a)) (to_z-of_z fits) c.on_int_and_reference.ensures.answer in
    subst (λ (a : Arguments). IfOk c.on_int_and_reference.result (AnswersOn w n stack (slots_of a) old new)) (sym is)
    (two_along w n kinds.Int c.int_operand-n.result c.reference_operand-this-in-IntAndReference.result stack 1 2 old new c.on_int_and_reference.result
    (sym c.requires.takes ∙ ap (λ (a : Arguments). Some (kinds_of a)) is) c.int_operand-n.ensures.read c.reference_operand-this-in-IntAndReference.ensures.read answered)

pub returns-in-LongAndReference-clause-answer : goal.returns-in-LongAndReference-clause-answer
returns-in-LongAndReference-clause-answer g c =
    let w = g.W.EventWorld.world c.args.world.now in
    let n = c.args.native in
    let stack = operands c.args.mounted.now in
    let old = c.args.state.now in
    let new = c.on_long_and_reference.new.state in
    let is = c.in-LongAndReference.is in
    let fits : FitsSigned w64 c.long_operand-n.result = search rules in
    let answered = subst (λ (x : ℤ). IfOk c.on_long_and_reference.result (λ a. Answers (λ r. answer_to_two w r n kinds.Long x c.reference_operand-this-in-LongAndReference.result) old new a)) (to_z-of_z fits) c.on_long_and_reference.ensures.answer in
    subst (λ (a : Arguments). IfOk c.on_long_and_reference.result (AnswersOn w n stack (slots_of a) old new)) (sym is)
    (two_along w n kinds.Long c.long_operand-n.result c.reference_operand-this-in-LongAndReference.result stack 2 3 old new c.on_long_and_reference.result
    (sym c.requires.takes ∙ ap (λ (a : Arguments). Some (kinds_of a)) is) c.long_operand-n.ensures.read c.reference_operand-this-in-LongAndReference.ensures.read answered)

pub returns-in-Int-clause-answer : goal.returns-in-Int-clause-answer
returns-in-Int-clause-answer g c =
    let w = g.W.EventWorld.world c.args.world.now in
    let n = c.args.native in
    let stack = operands c.args.mounted.now in
    let old = c.args.state.now in
    let new = c.on_int.new.state in
    let is = c.in-Int.is in
    let number = c.int_operand-n-in-Int in
    let fits : FitsSigned w32 number.result = search rules in
    let answered = subst (λ (x : ℤ). IfOk c.on_int.result (λ a. Answers (λ r. answer_to w r n kinds.Int x) old new a)) (to_z-of_z fits) c.on_int.ensures.answer in
    subst (λ (a : Arguments). IfOk c.on_int.result (AnswersOn w n stack (slots_of a) old new)) (sym is)
    (one_along w n kinds.Int number.result stack 1 old new c.on_int.result
    (sym c.requires.takes ∙ ap (λ (a : Arguments). Some (kinds_of a)) is) number.ensures.read answered)

pub returns-in-Long-clause-answer : goal.returns-in-Long-clause-answer
returns-in-Long-clause-answer g c =
    let w = g.W.EventWorld.world c.args.world.now in
    let n = c.args.native in
    let stack = operands c.args.mounted.now in
    let old = c.args.state.now in
    let new = c.on_long.new.state in
    let is = c.in-Long.is in
    let number = c.long_operand-n-in-Long in
    let fits : FitsSigned w64 number.result = search rules in
    let answered = subst (λ (x : ℤ). IfOk c.on_long.result (λ a. Answers (λ r. answer_to w r n kinds.Long x) old new a)) (to_z-of_z fits) c.on_long.ensures.answer in
    subst (λ (a : Arguments). IfOk c.on_long.result (AnswersOn w n stack (slots_of a) old new)) (sym is)
    (one_along w n kinds.Long number.result stack 2 old new c.on_long.result
    (sym c.requires.takes ∙ ap (λ (a : Arguments). Some (kinds_of a)) is) number.ensures.read answered)
