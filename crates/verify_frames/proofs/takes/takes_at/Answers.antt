use Rattle.std.proofs.Common.{sym, ◌∙◌}
use Rattle.type_paths.specs.Paths.{path}
use Rattle.verify_frames.proofs.TakeLaws.{takes_type}
use Rattle.verify_frames.proofs.takes.takes_at.Goals as goal

pub returns : goal.returns
returns g c =
    takes_type (g.L.Lookups.world c.args.w.now) (path c.args.paths.now c.args.from) c.args.locals.now c.args.slot c.in-Some.t c.type_at.result c.in-Some.ensures c.type_at.ensures (sym c.assignable.ensures ∙ c.if-not-assignable.false)
