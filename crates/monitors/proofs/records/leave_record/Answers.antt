use Rattle.std.proofs.Common.{nat_eq, sym, ◌∙◌}
use Rattle.std.proofs.lemmas.Map.Steps.{set_value_same}
use Rattle.monitors.proofs.records.leave_record.Goals as goal

pub returns-in_default-owner-clause-err : goal.returns-in_default-owner-clause-err
returns-in_default-owner-clause-err c =
    (c.get_mut.follows.holds c.in-Some.place.now).0 ∙ set_value_same (nat_eq c.args.o) c.args.records.now.entries c.in-Some.place.now (sym c.in-Some.ensures.value)

pub returns-in-Some-clause-err : goal.returns-in-Some-clause-err
returns-in-Some-clause-err c =
    (c.get_mut.follows.holds c.in-Some.place.now).0 ∙ set_value_same (nat_eq c.args.o) c.args.records.now.entries c.in-Some.place.now (sym c.in-Some.ensures.value)
