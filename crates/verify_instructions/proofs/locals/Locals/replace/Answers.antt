use Rattle.std.proofs.Common.{◌≡◌, List, length, ap, subst, sym, ◌∙◌, arith}
use Rattle.std.proofs.lemmas.List.{with_items_is}
use Rattle.stack_maps.specs.declared.types.VType.{VType}
use Rattle.verify_types.specs.TypeStates.{replaced}
use Rattle.verify_instructions.specs.Unfinished.{AreListed, replaced_among}
use Rattle.verify_instructions.specs.Views.{is_object}
use Rattle.verify_instructions.proofs.LocalLaws.{listed_after, replaced_listed}
use Rattle.verify_instructions.proofs.locals.Locals.replace.Goals as goal

pub invariant_of-self : goal.invariant_of-self
invariant_of-self c =
    let x = c.self.inside in
    let now = c.replace_all.new.types in
    let among : now ≡ replaced_among (is_object c.args.object) c.args.t x.unfinished.items x.types.items = cc in
    let few : length now ≡ x.types.len = omega arith in
    subst (λ (ls : List VType). AreListed x.unfinished.items ls) (sym (with_items_is x.types now few ∙ among)) (listed_after c.args.object c.args.t x.unfinished.items x.types.items c.self.invariant)

pub returns : goal.returns
returns c =
    let x = c.self.inside in
    let now = c.replace_all.new.types in
    let among : now ≡ replaced_among (is_object c.args.object) c.args.t x.unfinished.items x.types.items = cc in
    let few : length now ≡ x.types.len = omega arith in
    let all = replaced_listed c.args.object c.args.t x.unfinished.items x.types.items c.self.invariant in
    with_items_is x.types now few ∙ among ∙ all ∙ ap (λ (ls : List VType). replaced (is_object c.args.object) c.args.t ls) c.self.view_is
