use Rattle.std.proofs.Common.{◌≡◌, true, rules, subst, sym, ◌∙◌}
use Rattle.instruction_rows.specs.Table.{row}
use Rattle.verify_instructions.specs.Answers.{Leaves}
use Rattle.verify_instructions.specs.RowKinds.{is_local}
use Rattle.verify_instructions.specs.Views.{environment_in, state_in}
use Rattle.verify_instructions.proofs.EffectLaws.{event_state, local_state}
use Rattle.verify_instructions.proofs.state.State.apply.Goals as goal

pub returns-then-is_event : goal.returns-then-is_event
returns-then-is_event g c =
    subst (λ wanted. Leaves c.event.result (state_in c.event.new.self) wanted)
    (event_state (environment_in (g.L.Lookups.world c.args.w.now) c.args.m.now) c.args.pc c.args.resolution (row c.args.op.now) (state_in c.args.self.now) (sym c.is_event.ensures ∙ c.if-is_event.true))
    c.event.ensures

pub returns-in_default : goal.returns-in_default
returns-in_default g c =
    let is : is_local (row c.args.op.now) ≡ true = search rules in
    subst (λ wanted. Leaves c.local.result (state_in c.local.new.self) wanted)
    (local_state (environment_in (g.L.Lookups.world c.args.w.now) c.args.m.now) c.args.pc c.args.resolution (row c.args.op.now) (state_in c.args.self.now) is)
    c.local.ensures
