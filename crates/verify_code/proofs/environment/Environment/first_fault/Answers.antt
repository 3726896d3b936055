use Rattle.std.proofs.Common.{List, None, ap, subst, sym, ◌∙◌}
use Rattle.link_model.specs.Resolutions.{meanings}
use Rattle.opcodes.specs.declared.op.Instr.{Instr}
use Rattle.link_model.specs.declared.sites.Resolution.{Resolution}
use Rattle.verify_types.specs.Environment.{with_resolutions}
use Rattle.verify_types.specs.Walk.{standing}
use Rattle.verify_code.specs.Environments.{AreInOrder}
use Rattle.verify_frames.specs.KnownStates.{going}
use Rattle.verify_code.specs.Walks.{IsStep, entry_of, fault_from, place}
use Rattle.verify_code.proofs.WalkLaws.{fault_at_first, fault_behind_first}
use Rattle.verify_code.proofs.environment.Environment.first_fault.Goals as goal

pub returns-in-Fault : goal.returns-in-Fault
returns-in-Fault g c =
    let env = c.args.self.now in
    let before = going c.loop-i.before in
    let entry = entry_of c.loop-i.is_entry before in
    let i = c.in-Some.i.now in
    let p = place i c.at-resolution.result.now (standing env i.pc before) entry c.is_empty-is_last.result in
    let fault = subst (λ x. IsStep env p x) c.in-Fault.is c.in_ok-fault.ensures.step in
    sym (fault_at_first env entry before i c.in-Some.behind.now (meanings c.loop-i.resolutions) c.at-resolution.result.now c.is_empty-is_last.result c.in-Fault.fault c.at-resolution.ensures c.is_empty-is_last.ensures fault)
    ∙ ap (λ (is : List Instr). fault_from env entry before (with_resolutions is (meanings c.loop-i.resolutions))) (sym c.in-Some.ensures.cases.0)
    ∙ c.loop-i.invariant.0

pub loop-i-preserved : goal.loop-i-preserved
loop-i-preserved g c =
    let env = c.args.self.now in
    let before = going c.loop-i.before in
    let after = going c.in-On.after in
    let entry = entry_of c.loop-i.is_entry before in
    let i = c.in-Some.i.now in
    let is = c.in-Some.behind.now in
    let ns = (meanings c.loop-i.resolutions) in
    let p = place i c.at-resolution.result.now (standing env i.pc before) entry c.is_empty-is_last.result in
    let on = subst (λ x. IsStep env p x) c.in-On.is c.in_ok-fault.ensures.step in
    let order = subst (λ (is : List Instr). AreInOrder c.loop-i.invariant.1 (with_resolutions is ns)) c.in-Some.ensures.cases.0 c.loop-i.invariant.2 in (
      ap (λ (ms : List Resolution). fault_from env None after (with_resolutions is ms)) c.behind_first-resolutions.ensures
          ∙ sym (fault_behind_first env entry before c.in-On.after i is ns c.at-resolution.result.now c.is_empty-is_last.result c.at-resolution.ensures c.is_empty-is_last.ensures on)
          ∙ ap (λ (is : List Instr). fault_from env entry before (with_resolutions is ns)) (sym c.in-Some.ensures.cases.0)
          ∙ c.loop-i.invariant.0,
      i.next,
      subst (λ (ms : List Resolution). AreInOrder i.next (with_resolutions is ms)) (sym c.behind_first-resolutions.ensures) order.3,
      on.holds,
      c.in_ok-fault.ensures.taken,
    )
