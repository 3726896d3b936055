use Rattle.std.proofs.Common.{◌≡◌, subst, sym}
use Rattle.std.specs.Prelude.{MatchBool}
use Rattle.verify_frames.specs.declared.watch.Around.{Around}
use Rattle.verify_frames.specs.declared.watch.Watch.{Watch}
use Rattle.verify_frames.specs.Watches.{ShowsKept}
use Rattle.verify_frames.proofs.watch.Watch.is_kept.Goals as goal

pub returns-in-Store : goal.returns-in-Store
returns-in-Store c =
    let same = c.are_same.result in
    subst (λ (w : Watch). MatchBool same (ShowsKept w c.args.locals.now) (Unit {0})) (sym c.in-Store.is)
    (subst (λ (a : Around). MatchBool same (a ≡ c.in-Store.was) (Unit {0})) c.types_around.ensures c.are_same.ensures)
