use Rattle.std.proofs.Common.{ℕ, Option, subst, ◌∙◌}
use Rattle.ref_model.specs.Heap.{with_text}
use Rattle.native_methods.specs.NativeStates.{IsMade, with_natives}
use Rattle.native_methods.proofs.TextLaws.{appended_is}
use Rattle.native_methods.proofs.UndefinedLaws.{builder_settable}
use Rattle.instruction_rows.specs.declared.value.Value.TheVariants as values
use Rattle.native_methods.proofs.builder_natives.append.Goals as goal

pub returns-clause-answer : goal.returns-clause-answer
returns-clause-answer c = λ r.
    let q = with_natives c.args.state.now r in
    let middle = with_natives c.make_text.new.state r in
    let last = with_natives c.set_value.new.state r in
    let text = c.as_slice.result.now in
    let M : Option ℕ → Type 0 = λ found. IsMade (λ s. with_text s text) c.args.state.now c.make_text.new.state found in
    appended_is q middle last c.args.this c.in-Some.o c.in-Some-2.new c.in-Some-builder_text.before.now c.args.units.now text c.in-Some.is
    c.in-Some-builder_text.ensures (c.as_slice.ensures.value ∙ c.in_ok-text.ensures) (subst M c.in-Some-2.is c.in_ok-new.ensures r) (c.if-not-set_value.ensures r)

pub returns-then-not-set_value-clause-answer : goal.returns-then-not-set_value-clause-answer
returns-then-not-set_value-clause-answer c = λ r.
    let q = with_natives c.args.state.now r in
    let middle = with_natives c.make_text.new.state r in
    let text = c.as_slice.result.now in
    let M : Option ℕ → Type 0 = λ found. IsMade (λ s. with_text s text) c.args.state.now c.make_text.new.state found in
    let none = c.if-not-set_value.ensures in
    absurd (builder_settable q middle c.in-Some.o c.in-Some-2.new c.in-Some-builder_text.before.now text (values.Ref c.in-Some-2.new) c.in-Some-builder_text.ensures
    (subst M c.in-Some-2.is c.in_ok-new.ensures r) (none.0 r))
