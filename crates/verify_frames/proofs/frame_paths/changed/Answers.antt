use Rattle.std.proofs.Common.{ap, subst, sym, ◌∙◌}
use Rattle.stack_maps.specs.declared.types.LocalsChange.{LocalsChange}
use Rattle.stack_maps.specs.declared.types.LocalsChange.TheVariants as changes
use Rattle.stack_maps.specs.Changes.{locals_after}
use Rattle.type_paths.specs.Paths.{IsPath}
use Rattle.verify_frames.specs.FramePaths.{path_of}
use Rattle.verify_frames.proofs.FramePathLaws.{appended, chopped_types}
use Rattle.verify_frames.proofs.frame_paths.changed.Goals as goal

pub returns-in-Chop-clause-node : goal.returns-in-Chop-clause-node
returns-in-Chop-clause-node g c = λ ls h.
    let w = g.L.Lookups.world c.args.w.now in
    let chopped = c.chopped.ensures (path_of w c.args.class ls) h in
    subst (λ (ch : LocalsChange). IsPath c.args.paths.now c.chopped.result (path_of w c.args.class (locals_after ls ch))) (sym c.in-Chop.is)
    (subst (IsPath c.args.paths.now c.chopped.result) (chopped_types w c.args.class c.in-Chop.dropped ls) chopped)

pub returns-in-Append-clause-node : goal.returns-in-Append-clause-node
returns-in-Append-clause-node g c =
    appended (g.L.Lookups.world c.args.w.now) c.args.class c.args.paths.now c.append.new.paths c.args.locals c.deref.result.now c.args.change.now c.append.result (c.in-Append.is ∙ ap (λ ts. changes.Append ts) (sym c.deref.ensures))
    c.append.ensures.node
