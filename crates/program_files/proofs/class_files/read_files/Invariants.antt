use Rattle.std.proofs.Common.{◌≡◌, take}
use Rattle.std.specs.List.{AllZip}
use Rattle.command_line.specs.Commands.{texts}
use Rattle.input_files.specs.LoadCauses.{IsRead}
use Rattle.program_files.proofs.class_files.read_files.Given as goal

abbrev pub invariant-loop-index : goal.invariant-loop-index
invariant-loop-index g l = record {
  kept : g.S.Store.files l.store ≡ g.S.Store.files l.fn.store;
  faults : g.S.Store.faults l.store ≡ g.S.Store.faults l.fn.store;
  read : AllZip (IsRead (g.S.Store.files l.fn.store)) (texts (take l.index l.names)) l.classes.items;
}
