use Rattle.std.proofs.Common.{◌≡◌, Some, ap, sym, ◌∙◌}
use Rattle.std.specs.Option.{option_map}
use Rattle.verify_types.specs.Assignability.{assignable}
use Rattle.verify_types.specs.Environment.{Environment, map_at}
use Rattle.verify_types.specs.Handlers.{caught_type}
use Rattle.verify_frames.specs.Frames.{frame_at, frame_in}
use Rattle.verify_frames.proofs.StackLaws.{takes_on}
use Rattle.verify_code.specs.Merged.{AsksLocals}
use Rattle.verify_code.proofs.MergedLaws.{if_true, takes_caught}
use Rattle.verify_code.proofs.environment.Environment.asks_locals.Goals as goal

pub returns : goal.returns
returns g c = if_true c.fits_stack.result (AsksLocals c.args.self.now c.args.c) (λ fit.
    let env = c.args.self.now in
    let w = g.L.Lookups.world c.self.inside.world.now in
    let f = c.in-Some.frame in
    let at : map_at env c.from.result ≡ Some (frame_in f) =
    ap (λ fs. frame_at c.from.result fs) (sym (c.self.invariant.are ∙ ap (λ (env : Environment). env.map) c.self.view_is)) ∙ sym c.at.ensures ∙ ap (λ o. option_map frame_in o) c.in-Some.is in
    let caught = c.caught_type-caught.result in
    let of = ap (λ (e : Environment). e.world) c.self.view_is in
    takes_caught env w c.args.c f caught c.from.result of (c.caught_type-caught.ensures ∙ ap (λ x. caught_type x c.args.c.catch) (sym of)) c.from.ensures
    (ap (λ t. assignable w caught t) (sym c.throwable_type.ensures) ∙ sym c.assignable.ensures ∙ c.if-not-assignable.false) at
    (takes_on w caught f (sym c.is_known.ensures ∙ c.if-not-is_known.false) (sym c.fits_stack.ensures ∙ fit)))
