use Rattle.std.proofs.Common.{◌≡◌, Some, ap, sym, ◌∙◌}
use Rattle.std.specs.Option.{option_map}
use Rattle.verify_types.specs.Environment.{Environment, map_at}
use Rattle.verify_frames.specs.Frames.{frame_at, frame_in}
use Rattle.verify_frames.proofs.KnownStateLaws.{fitted_now}
use Rattle.verify_code.proofs.environment.Environment.fitted_at.Goals as goal

pub returns-then-is_known : goal.returns-then-is_known
returns-then-is_known g c = λ s may fits.
    let at : map_at c.args.self.now c.args.pc ≡ Some (frame_in c.in-Some.frame) =
    ap (λ fs. frame_at c.args.pc fs) (sym (c.self.invariant.are ∙ ap (λ (env : Environment). env.map) c.self.view_is)) ∙ sym c.at.ensures ∙ ap (λ o. option_map frame_in o) c.in-Some.is in
    fitted_now c.args.self.now s c.args.pc c.in-Some.frame at (sym c.is_known.ensures ∙ c.if-is_known.true) fits
