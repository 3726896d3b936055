use Rattle.std.proofs.Common.{Bool, ap, ◌∙◌}
use Rattle.std.specs.Prelude.{map}
use Rattle.stack_maps.specs.Changes.{made_whole}
use Rattle.verify_frames.specs.FramePaths.{entry_in}
use Rattle.verify_frames.proofs.FrameLaws.{all_are, entries_rise}
use Rattle.verify_frames.proofs.frames.Frames.new.Goals as goal

pub invariant_of-result : goal.invariant_of-result
invariant_of-result g c = record {
  rising =
      entries_rise (g.L.Lookups.world c.args.w.now) c.args.m.now.class 0 c.entries_of.new.paths c.in_ok-entries.entries.items (made_whole c.args.first.now c.args.changes.now)
      c.in_ok-entries.ensures c.requires;
  flagged = c.in_ok-flags.ensures;
  skipping = c.in_ok-skips.ensures;
}

pub returns : goal.returns
returns g c =
    ap (λ (b : Bool). map (entry_in c.entries_of.new.paths b c.args.max_locals) c.in_ok-entries.entries.items) c.is_constructor-is_constructor.ensures
    ∙ all_are (g.L.Lookups.world c.args.w.now) c.args.m.now c.args.max_locals c.entries_of.new.paths c.in_ok-entries.entries.items (made_whole c.args.first.now c.args.changes.now) c.in_ok-entries.ensures
