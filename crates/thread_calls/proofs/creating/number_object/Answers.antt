use Rattle.std.proofs.Common.{Option, ℕ, ap, sym, w32, rules, ◌∙◌}
use Rattle.std.specs.Prelude.{is_some, not}
use Rattle.std.proofs.lemmas.Int.{to_z-of_z}
use Rattle.thread_calls.proofs.CreateLaws.{number_is_set}
use Rattle.thread_calls.proofs.creating.number_object.Goals as goal

pub returns : goal.returns
returns c m =
    number_is_set c.args.heap.now c.set_value.new.heap c.args.object c.args.number _ c.set_value.result m
    (ap (λ (o : Option ℕ). is_some o) (sym c.thread_number.ensures) ∙ c.is_none.ensures ∙ ap not c.if-is_none.false)
    (to_z-of_z w32 c.in-Ok.n (search rules) ∙ c.in-Ok.ensures.1) c.if-not-set_value.false c.set_value.ensures
