use Rattle.std.proofs.Common.{◌-◌, ap, sym, ◌∙◌}
use Rattle.type_paths.specs.Paths.{path}
use Rattle.verify_frames.proofs.PathFitLaws.{named_locals, parted}
use Rattle.verify_frames.proofs.path_fits.fit_locals.Goals as goal

pub returns-then-unset-saturating_sub : goal.returns-then-unset-saturating_sub
returns-then-unset-saturating_sub g c =
    let locals = c.args.locals.now in
    let halves = c.split_at.result in
    let parts = parted c.in-Some.count locals halves.0.now halves.1.now c.split_at.ensures.front c.split_at.ensures.back in
    c.fit_path.ensures
    ∙ named_locals (g.L.Lookups.world c.args.w.now) c.args.max_locals c.in-Some.count c.saturating_sub.result locals halves.0.now halves.1.now (path c.args.paths.now c.args.from) (sym c.in-Some.is ∙ c.slot_count.ensures) parts c.split_at.ensures.front_len
    c.if-unset-saturating_sub.true
    (c.saturating_sub.ensures ∙ ap (λ n. n - c.in-Some.count) c.from.ensures)
