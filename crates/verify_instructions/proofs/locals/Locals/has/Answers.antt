use Rattle.std.proofs.Common.{List, ℕ, ap, ◌∙◌}
use Rattle.std.specs.List.{list_any}
use Rattle.stack_maps.specs.declared.types.VType.{VType}
use Rattle.verify_instructions.specs.Unfinished.{type_at}
use Rattle.verify_instructions.specs.Views.{is_object}
use Rattle.verify_instructions.proofs.StackLaws.{any_listed}
use Rattle.verify_instructions.proofs.locals.Locals.has.Goals as goal

pub returns : goal.returns
returns c =
    let x = c.self.inside in
    let test = is_object c.args.object in
    c.any_among.ensures
    ∙ ap (λ (ls : List VType). list_any (λ n. test (type_at ls n)) c.deref-2.result.now) c.deref.ensures.value
    ∙ ap (λ (slots : List ℕ). list_any (λ n. test (type_at x.types.items n)) slots) c.deref-2.ensures.value
    ∙ any_listed c.args.object x.unfinished.items x.types.items c.self.invariant
    ∙ ap (λ (ls : List VType). list_any test ls) c.self.view_is
