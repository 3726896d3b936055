use Rattle.std.proofs.Common.{◌≡◌, take}
use Rattle.std.specs.Prelude.{IsTrue}
use Rattle.round_trip.specs.Outcomes.{HaveOutcomes}
use Rattle.round_trip.proofs.file_lines.copy_files.Given as goal

abbrev pub invariant-loop-name : goal.invariant-loop-name
invariant-loop-name g l = record {
  outcomes : HaveOutcomes (g.S.Store.files l.fn.store) (take l.name-index l.names) l.all_same;
  kept : g.S.Store.files l.store ≡ g.S.Store.files l.fn.store;
  store : IsTrue l.all_same → g.S.Store.faults l.store ≡ g.S.Store.faults l.fn.store;
  out : g.O.Sink.faults l.out ≡ g.O.Sink.faults l.fn.out;
}
