use Rattle.std.proofs.Common.{◌≡◌, None, Some, ap, refl, subst, sym, ◌∙◌}
use Rattle.std.specs.Option.{option_map}
use Rattle.verify_types.specs.Environment.{Environment, map_at}
use Rattle.verify_instructions.specs.Views.{state_in}
use Rattle.verify_frames.specs.declared.known_state.KnownState.{KnownState}
use Rattle.verify_frames.specs.Frames.{frame_at, frame_in}
use Rattle.verify_frames.specs.KnownStates.{AllHold}
use Rattle.verify_frames.proofs.KnownStateLaws.{going_holds, new_holds}
use Rattle.verify_code.proofs.environment.Environment.arrive.Goals as goal

pub returns-in-Some-2-clause-holds : goal.returns-in-Some-2-clause-holds
returns-in-Some-2-clause-holds g c =
    let at : map_at c.args.self.now c.args.pc ≡ Some (frame_in c.in-Some.frame) =
    ap (λ fs. frame_at c.args.pc fs) (sym (c.self.invariant.are ∙ ap (λ (env : Environment). env.map) c.self.view_is)) ∙ sym c.at.ensures ∙ ap (λ o. option_map frame_in o) c.in-Some.is in
    let is = sym c.in_ok-state.ensures ∙ ap (λ o. option_map state_in o) c.in-Some-2.is in
    let s : KnownState = record { state = c.in-Some-2.state; like = Some c.new-like.result; judged = c.judged_there-judged.result; stored = None; fitted = c.in_ok-fitted.fitted } in
    new_holds c.args.self.now c.args.pc (frame_in c.in-Some.frame) c.new-like.result s at is refl c.new-like.ensures.pc c.new-like.ensures.none
    (c.judged_there-judged.ensures (frame_in c.in-Some.frame) (state_in c.in-Some-2.state) at is) refl
    (c.in_ok-fitted.ensures (frame_in c.in-Some.frame) (state_in c.in-Some-2.state) at is)

pub returns-in_default-clause-holds : goal.returns-in_default-clause-holds
returns-in_default-clause-holds g c = subst (AllHold c.args.self.now) (sym c.going.ensures) (going_holds c.args.self.now c.args.before.known c.args.before.goes_on c.requires)
