use Rattle.std.proofs.Common.{ℕ, Option, Some, sym, subst, ap, ◌∙◌}
use Rattle.items.specs.Options.{◌>>=◌}
use Rattle.link_rules.specs.declared.choice.Choice.{Choice}
use Rattle.ref_model.specs.Effects.{Effect}
use Rattle.ref_model.specs.Calls.{chosen}
use Rattle.invocation.specs.Targets.{Gives, numbered_effect}
use Rattle.invocation.proofs.invocations.selected_anew.Goals as goal

pub returns-in_ok-method_number-in-Method-clause-selected : goal.returns-in_ok-method_number-in-Method-clause-selected
returns-in_ok-method_number-in-Method-clause-selected g c = λ r depth stack.
    let w = g.W.EventWorld.world c.args.world.now in
    let act : ℕ → Option Effect = λ k. numbered_effect w r depth k c.args.slots stack in
    let P : Option Effect → Type 0 = λ x. Gives w r depth stack x c.numbered.result in
    let by : Option Choice → Option Effect = λ o. o >>= λ choice. chosen w choice act in
    subst P (sym (ap by (sym c.in_ok-choice.ensures ∙ c.in-Some.is ∙ ap Some c.in-Method.is) ∙ ap act (sym c.in_ok-method_number-in-Method.ensures)))
    (c.numbered.ensures.numbered r depth stack)
