use Rattle.std.proofs.Common.{List, subst, sym}
use Rattle.verify_frames.specs.declared.frame_paths.Entry.{Entry}
use Rattle.verify_frames.proofs.FrameLaws.{Built, built_none, built_one, built_whole}
use Rattle.verify_frames.proofs.frame_paths.entries_of.Goals as goal

pub loop-change-init : goal.loop-change-init
loop-change-init g c =
    let w = g.L.Lookups.world c.args.w.now in
    subst (λ (es : List Entry). Built w c.args.class c.args.first.now c.args.changes.now c.put.new.paths es c.in_ok-locals.locals c.args.changes.now) (sym c.in_ok-entries.ensures.items)
    (built_none w c.args.class c.args.first.now c.args.changes.now c.put.new.paths c.in_ok-locals.locals c.in_ok-locals.ensures.node)

pub loop-change-preserved : goal.loop-change-preserved
loop-change-preserved g c =
    let w = g.L.Lookups.world c.args.w.now in
    let built =
    built_one w c.args.class c.args.first.now c.args.changes.now c.loop-change.paths c.entry_of.new.paths c.loop-change.entries.items c.loop-change.locals c.in_ok-entry.entry c.in-Some.change.now
    c.loop-change.rest.now c.in-Some.behind.now c.loop-change.invariant c.in-Some.ensures.cases.0 c.in_ok-entry.ensures.grown c.in_ok-entry.ensures.entry in
    subst (λ (es : List Entry). Built w c.args.class c.args.first.now c.args.changes.now c.entry_of.new.paths es c.in_ok-entry.entry.locals c.in-Some.behind.now) (sym c.in_ok-push.ensures.items) built

pub returns : goal.returns
returns g c =
    built_whole (g.L.Lookups.world c.args.w.now) c.args.class c.args.first.now c.args.changes.now c.loop-change.paths c.loop-change.entries.items c.loop-change.locals c.loop-change.rest.now
    c.loop-change.invariant c.in_default.ensures.cases
