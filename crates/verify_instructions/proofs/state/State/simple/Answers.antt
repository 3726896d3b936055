use Rattle.std.proofs.Common.{◌≡◌, true, rules, subst}
use Rattle.instruction_rows.specs.Table.{simple_row}
use Rattle.verify_instructions.specs.Answers.{Leaves}
use Rattle.verify_instructions.specs.RowKinds.{is_local}
use Rattle.verify_instructions.specs.Views.{state_in}
use Rattle.verify_instructions.proofs.EffectLaws.{local_state}
use Rattle.verify_instructions.proofs.state.State.simple.Goals as goal

pub returns-in_default : goal.returns-in_default
returns-in_default c = λ env pc resolution.
    let is : is_local (simple_row c.args.simple) ≡ true = search rules in
    subst (λ wanted. Leaves c.simple_local.result (state_in c.simple_local.new.self) wanted)
    (local_state env pc resolution (simple_row c.args.simple) (state_in c.args.self.now) is)
    c.simple_local.ensures
