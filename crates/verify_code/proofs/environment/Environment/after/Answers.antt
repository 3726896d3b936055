use Rattle.std.proofs.Common.{ap, sym, ◌∙◌}
use Rattle.verify_types.specs.Environment.{Environment}
use Rattle.verify_types.specs.Effects.{state_after}
use Rattle.verify_instructions.specs.Views.{state_in}
use Rattle.verify_frames.specs.KnownStates.{type_state}
use Rattle.verify_code.specs.Findings.{instruction_of}
use Rattle.verify_frames.proofs.KnownStateLaws.{holds_after}
use Rattle.verify_code.proofs.WalkLaws.{gives_broken, gives_state}
use Rattle.verify_code.proofs.environment.Environment.after.Goals as goal

pub returns : goal.returns
returns g c =
    ap (λ (env : Environment). state_after env (instruction_of c.args.i.now c.args.resolution) (type_state c.args.s)) (sym c.self.view_is)
    ∙ gives_broken c.apply-applied.result _ _ c.in-Err.stop c.in_ok-broken_rule-in-Err.field-0 c.apply-applied.ensures c.in-Err.is c.in_ok-broken_rule-in-Err.ensures

pub returns-in-Ok : goal.returns-in-Ok
returns-in-Ok g c =
    let i = instruction_of c.args.i.now c.args.resolution in
    let is =
    ap (λ (env : Environment). state_after env i (type_state c.args.s)) (sym c.self.view_is)
    ∙ gives_state c.apply-applied.result (state_in c.apply-applied.new.self) _ c.in-Ok.field-0 c.apply-applied.ensures c.in-Ok.is in
    holds_after c.args.self.now i c.args.s c.in_ok-after.after c.in_ok-like.like c.in_ok-watch.watch c.apply-applied.new.self c.requires.holds is c.in_ok-like.ensures c.in_ok-watch.ensures c.in_ok-after.ensures
