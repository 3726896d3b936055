use Rattle.std.proofs.Common.{◌∙◌, refl}
use Rattle.round_trip.proofs.OutcomeLaws.{one_more_outcome, both_kept}
use Rattle.round_trip.proofs.file_lines.copy_files.Goals as goal

pub loop-name-preserved : goal.loop-name-preserved
loop-name-preserved g c = record {
  outcomes = one_more_outcome _ _ c.args.names.now c.loop-name.name-index c.name-item.result c.as_str.result.now c.loop-name.all_same c.in_ok-all_same.field-0 _ c.loop-name-test.true c.name-item.is c.as_str.ensures.value
      c.loop-name.invariant.outcomes c.loop-name.invariant.kept c.in_ok-all_same.ensures.outcome refl;
  kept = c.copy_file.ensures.kept ∙ c.loop-name.invariant.kept;
  store = both_kept c.loop-name.all_same c.in_ok-all_same.field-0 _ _ _ _ refl c.in_ok-all_same.ensures.store_faults c.loop-name.invariant.store;
  out = c.in_ok-all_same.ensures.out_faults ∙ c.loop-name.invariant.out;
}
