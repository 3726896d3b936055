use Rattle.std.proofs.Common.{List, ap, subst, sym, ◌∙◌}
use Rattle.verify_frames.specs.Entries.{entry_at}
use Rattle.verify_frames.specs.Skips.{AreSkips}
use Rattle.verify_frames.proofs.TakeLaws.{takes_frame}
use Rattle.verify_frames.proofs.WantedLaws.{if_shown}
use Rattle.verify_frames.proofs.frames.Frames.takes.Goals as goal

pub takes_all-requires : goal.takes_all-requires
takes_all-requires g c = subst (λ (ss : List _). AreSkips c.self.inside.paths ss) (sym c.deref-2.ensures.value) c.self.invariant.skipping

pub returns : goal.returns
returns g c =
    let x = c.self.inside in
    takes_frame x.paths x.is_constructor x.max_locals c.args.pc x.entries.items c.args.self.now c.entry_at.result c.in-Some.entry (g.L.Lookups.world c.args.w.now) c.args.locals.now c.args.slots.now c.self.view_is
    (c.entry_at.ensures ∙ ap (entry_at c.args.pc) c.deref.ensures.value) c.in-Some.is
    (if_shown c.takes_all.result _ c.if-not-takes_all.false c.takes_all.ensures)
