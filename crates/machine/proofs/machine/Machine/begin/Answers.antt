use Rattle.std.proofs.Common.{List, None, refl, subst, sym}
use Rattle.history.specs.declared.entry.Entry.{Entry}
use Rattle.startup.specs.Openings.{opened_state, setting}
use Rattle.machine.specs.Insides.{IsConsistent}
use Rattle.machine.proofs.BeginLaws.{first_consistent}
use Rattle.machine.proofs.PinLaws.{first_known}
use Rattle.machine.proofs.machine.Machine.begin.Goals as goal

pub invariant_of-result : goal.invariant_of-result
invariant_of-result c =
    let p = setting c.args.program.now c.args.main c.args.limits in
    let state = c.in_ok-first_state.field-0 in
    let deques = c.in_ok-first_deques.field-0 in
    let mounted = c.in_ok-first_mounted.field-0.items in
    let sound = subst (λ (es : List Entry). IsConsistent p c.args.carriers state deques mounted es None) (sym c.new.ensures.items)
    (first_consistent p c.args.carriers (opened_state c.args.limits c.in_ok-opened.opened) state deques mounted c.is_accepted.ensures c.requires.carriers
    c.in_ok-opened.ensures.state refl c.in_ok-first_state.ensures.state c.in_ok-opened.opened.monitor c.in_ok-first_state.ensures.monitors
    c.in_ok-first_deques.ensures c.in_ok-first_mounted.ensures) in
    record {
      sound = sound;
      pins = first_known p c.args.carriers state deques mounted c.new.result.items None sound _ c.in_ok-first_pins.field-0.items refl c.in_ok-first_mounted.ensures c.in_ok-first_pins.ensures;
    }
