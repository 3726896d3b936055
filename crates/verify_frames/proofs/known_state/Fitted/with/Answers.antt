use Rattle.std.proofs.Common.{List, subst, sym}
use Rattle.std.specs.List.{All}
use Rattle.std.proofs.lemmas.List.Elements.{All-push}
use Rattle.verify_frames.specs.KnownStates.{FitsBut}
use Rattle.verify_frames.proofs.KnownStateLaws.{fits_weaker}
use Rattle.verify_frames.proofs.known_state.Fitted.with.Goals as goal

pub returns : goal.returns
returns c = λ env s all here.
    let few = c.bounded-pcs.result in
    let P = FitsBut env few.changed.items s in
    subst (λ (ps : List _). All P ps) (sym c.in_ok-push.ensures.items) (All-push P few.pcs.items c.args.pc (c.bounded-pcs.ensures env s all) (fits_weaker env few.changed.items s c.args.pc here))
