use Rattle.std.proofs.Common.{◌≡◌, ◌∙◌, Bool, true, false, not, refl, sym, subst, arith}
use Rattle.interp_local.specs.declared.frame_step.Step.{Step}
use Rattle.superinstructions.specs.QuickRows.{is_quick}
use Rattle.interp_local.specs.Runs.{IsStep}
use Rattle.interp_local.proofs.LoopLaws.{inside_at, used_at}
use Rattle.interp_local.proofs.QuickSteps.{can_be_made, quick_step}
use Rattle.interp_local.proofs.frame_step.step_at.Goals as goal

not_left : (b : Bool) → not b ≡ false → b ≡ true
not_left true e = refl
not_left false e = absurd cc

pub quick_at-quick-requires : goal.quick_at-quick-requires
quick_at-quick-requires g c =
    let inside = inside_at c.args.p.now c.args.code.now c.args.frame.now c.args.slots.now c.args.used c.args.at c.requires.code c.requires.at in
    omega (arith, inside, c.requires.code.quicks.count)

pub make_quick-turn-requires : goal.make_quick-turn-requires
make_quick-turn-requires g c =
    let w = c.args.p.now in
    let code = c.args.code.now in
    let f = c.args.frame.now in
    let slots = c.args.slots.now in
    let q = c.quick_at-quick.result.now in
    let quick : is_quick q ≡ true = not_left (is_quick q) (sym c.is_left.ensures ∙ c.if-is_left.false) in
    record {
      quick = quick;
      fits = omega (arith, used_at w code.instrs.now f slots c.args.used c.args.at c.requires.typed c.requires.at);
      made = can_be_made w code f slots c.args.used c.args.at q c.requires.typed c.requires.code c.requires.at c.quick_at-quick.ensures quick c.requires.fits;
    }

pub returns-then-is_left : goal.returns-then-is_left
returns-then-is_left g c =
    let inside = inside_at c.args.p.now c.args.code.now c.args.frame.now c.args.slots.now c.args.used c.args.at c.requires.code c.requires.at in
    record { leads = c.execute_at-index.ensures; some = omega arith; inside = omega (arith, inside) }

pub returns : goal.returns
returns g c =
    let w = c.args.p.now in
    let code = c.args.code.now in
    let f = c.args.frame.now in
    let slots = c.args.slots.now in
    let q = c.quick_at-quick.result.now in
    let quick : is_quick q ≡ true = not_left (is_quick q) (sym c.is_left.ensures ∙ c.if-is_left.false) in
    let turn = c.make_quick-turn in
    subst (λ (s : Step). IsStep w code.instrs.now f slots c.args.used c.args.at turn.new.slots s) (sym c.step_of.ensures)
    (quick_step w code f slots turn.new.slots c.args.used c.args.at q turn.result c.requires.typed c.requires.code c.requires.at c.quick_at-quick.ensures quick
    turn.ensures.makes turn.ensures.leads turn.ensures.count)
