use Rattle.std.proofs.Common.{◌≡◌, ap, subst, sym}
use Rattle.link_model.specs.World.{World}
use Rattle.link_model.specs.Worlds.{world_of}
use Rattle.frame_soundness.specs.EventLaws.{HasDimensions}
use Rattle.frame_soundness.specs.StateKinds.{HasFieldKinds}
use Rattle.link_soundness.specs.Names.{AreNamed}
use Rattle.ref_run.proofs.replaying.is_ready.Goals as goal

pub returns : goal.returns
returns c =
    let w : World = c.args.program.now in
    let p = w.program in
    let linked : w ≡ world_of p = c.is_linked.ensures.linked in
    let links = c.is_linked.ensures.links in
    record {
      linked = record {
        typed = c.is_linked.ensures.typed;
        fields = subst HasFieldKinds (sym linked) (c.linked_fields_have_kinds.ensures p links);
        arrays = subst HasDimensions (sym linked) (c.linked_worlds_open.ensures.dimensions p);
      };
      named = subst AreNamed (sym linked) (c.linked_code_is_named.ensures p links c.requires);
      runs = c.runs_are_such.ensures w (ap (λ (v : World). v.methods) linked);
    }
