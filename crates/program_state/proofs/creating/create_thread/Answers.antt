use Rattle.std.proofs.Common.{◌≡◌, ℕ, Option, Some, subst}
use Rattle.ref_model.specs.Memory.{Memory}
use Rattle.ref_model.specs.ThreadNatives.{with_number}
use Rattle.heap_instructions.specs.Outcomes.{with_heap}
use Rattle.thread_calls.specs.Creating.{IsNameMade}
use Rattle.program_state.proofs.CreateLaws.{nothing_created, thread_created}
use Rattle.program_state.proofs.creating.create_thread.Goals as goal

pub returns-in_default-clause-answers : goal.returns-in_default-clause-answers
returns-in_default-clause-answers c w =
    let a = c.args.state.now in
    nothing_created w c.args.kind c.args.object c.args.name c.args.t a c.name_of.new.heap c.requires
    (subst (λ (o : Option ℕ). IsNameMade c.args.kind c.args.name a.unnamed a.memory.natives.heap c.name_of.new.heap o) c.in_default.is c.in_ok-made.ensures)

pub returns-clause-answers : goal.returns-clause-answers
returns-clause-answers c w =
    let a = c.args.state.now in
    let named = c.name_of.new.heap in
    let numbered = c.number_object.new.heap in
    let object = c.args.object in
    thread_created w c.args.kind object c.in-Some.string c.args.name c.args.t a c.add_thread.new.state named numbered c.in_ok-row_at.field-0 c.first_daemon-daemon.result c.in_ok-unnamed.unnamed
    c.requires c.in_ok-row_at.ensures c.first_daemon-daemon.ensures c.in_ok-unnamed.ensures
    (subst (λ (o : Option ℕ). IsNameMade c.args.kind c.args.name a.unnamed a.memory.natives.heap named o) c.in-Some.is c.in_ok-made.ensures)
    (subst (λ (n : ℕ). (m : Memory) → with_number (with_heap named m) object n ≡ Some (with_heap numbered m)) c.count-number.ensures c.in_ok-number_object.ensures)
    c.in_ok-add_thread.ensures
