use Rattle.std.proofs.Common.{◌≡◌, true, Option, subst, sym, ◌∙◌}
use Rattle.verify_frames.specs.Overwrites.{overwritten_since}
use Rattle.verify_frames.specs.KnownStates.{AllFit, FitAll, type_state}
use Rattle.verify_frames.specs.declared.known_state.Fitted.{Fitted}
use Rattle.verify_frames.proofs.OverwriteLaws.{none_in}
use Rattle.verify_frames.proofs.KnownStateLaws.{fitted_over}
use Rattle.verify_code.proofs.environment.Environment.fitted_over.Goals as goal

pub returns-in_ok-new-in-Some-shared : goal.returns-in_ok-new-in-Some-shared
returns-in_ok-new-in-Some-shared g c = λ f t at is.
    let env = c.args.self.now in
    let known = c.args.s.now.fitted in
    let empty : c.is_empty.result ≡ true = cc in
    let none = sym c.overwritten.ensures ∙ none_in c.is_empty.result c.overwritten.result.now c.is_empty.ensures empty in
    subst (λ (x : Fitted). AllFit env t x) (sym c.in_ok-new-in-Some-shared.ensures)
    (c.in_ok-again-in-Some-shared.ensures env t
    (subst (λ (x : Fitted). AllFit env t x) (sym c.get.ensures) (subst (λ (o : Option Fitted). FitAll env t o) c.in-Some.is (fitted_over env (overwritten_since c.args.s.now.like) (type_state c.args.s.now) c.args.pc c.in-Some-shared.field-0 f t known none c.in-Some-shared.ensures at is c.requires.fitted))))
