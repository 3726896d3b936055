use Rattle.std.proofs.Common.{◌≤◌, length, rules, sym, arith}
use Rattle.jvm_utf8.proofs.TextLaws.{read_more, read_stops, read_whole, shorter}
use Rattle.jvm_utf8.proofs.decoder.units_by_form.Goals as goal

pub returns-in_default-unit_at-clause-offset : goal.returns-in_default-unit_at-clause-offset
returns-in_default-unit_at-clause-offset g c = λ at e. let stops = read_stops _ _ _ c.loop-rest.invariant.read (search rules) (sym c.in_default-unit_at.ensures) in cc

pub loop-rest-preserved : goal.loop-rest-preserved
loop-rest-preserved g c =
    let less : length c.in-Some.behind.now ≤ length c.loop-rest.rest.now = shorter _ (c.in-Some.unit, c.in-Some.behind.now) (sym c.in-Some.ensures) in
    record {
      read = rw c.in-Ok-push.ensures.items (read_more _ _ _ _ _ c.loop-rest.invariant.read (sym c.in-Some.ensures));
      spent = omega arith;
    }

pub returns-clause-value : goal.returns-clause-value
returns-clause-value g c = read_whole _ _ _ c.loop-rest.invariant.read (search rules)
