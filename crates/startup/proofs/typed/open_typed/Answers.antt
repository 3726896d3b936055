use Rattle.std.proofs.Common.{◌≡◌, ap, sym, subst}
use Rattle.link_model.specs.World.{World}
use Rattle.link_model.specs.Worlds.{world_of}
use Rattle.frame_soundness.specs.EventLaws.{HasDimensions}
use Rattle.frame_soundness.specs.StateKinds.{HasFieldKinds}
use Rattle.link_soundness.specs.FirstValues.{HasStates, HasStaticKinds}
use Rattle.startup.specs.Openings.{opened_state, setting}
use Rattle.startup.proofs.typed.open_typed.Goals as goal

pub returns-clause-typed : goal.returns-clause-typed
returns-clause-typed c =
    let w : World = c.args.program.now in
    let p = w.program in
    let linked : w ≡ world_of p = c.is_linked.ensures.linked in
    let links = c.is_linked.ensures.links in
    c.openings_are_typed.ensures (setting w c.args.main c.args.limits) (opened_state c.args.limits c.in_ok-opened.opened)
    (record {
      typed = c.is_linked.ensures.typed;
      fields = subst HasFieldKinds (sym linked) (c.linked_fields_have_kinds.ensures p links);
      arrays = subst HasDimensions (sym linked) (c.linked_worlds_open.ensures.dimensions p);
    })
    (record {
      states = subst HasStates (sym linked) (c.linked_values_fit.ensures.states p links c.requires.library);
      statics = subst HasStaticKinds (sym linked) (c.linked_values_fit.ensures.statics p links c.requires.library);
      main = c.requires.main;
      initializers = c.linked_worlds_open.ensures.initializers w (ap (λ (v : World). v.methods) linked);
    })
    c.in_ok-opened.ensures.state
