use Rattle.std.proofs.Common.{List, refl, subst}
use Rattle.stack_maps.specs.declared.types.VType.{VType}
use Rattle.type_paths.specs.Paths.{IsPath}
use Rattle.stack_maps.specs.Changes.{locals_after}
use Rattle.verify_frames.specs.FramePaths.{path_of}
use Rattle.verify_frames.proofs.FramePathLaws.{grows_twice, kept}
use Rattle.verify_frames.proofs.frame_paths.entry_of.Goals as goal

pub returns-clause-grown : goal.returns-clause-grown
returns-clause-grown g c = grows_twice c.args.paths.now c.changed.new.paths c.put.new.paths c.in_ok-locals.ensures.grown c.in_ok-stack.ensures.grown

pub returns-clause-entry : goal.returns-clause-entry
returns-clause-entry g c = λ ls h.
    let w = g.L.Lookups.world c.args.w.now in
    let after = path_of w c.args.class (locals_after ls c.args.change.now.1.locals) in
    record {
      pc = refl;
      locals = kept c.changed.new.paths c.put.new.paths c.in_ok-locals.locals after c.in_ok-stack.ensures.grown (c.in_ok-locals.ensures.node ls h);
      stack = subst (λ (ts : List VType). IsPath c.put.new.paths c.in_ok-stack.stack (path_of w c.args.class ts)) c.deref.ensures c.in_ok-stack.ensures.node;
    }
