use Rattle.std.proofs.Common.{◌≡◌, drop}
use Rattle.jvm_edges.specs.Files.{file_named}
use Rattle.jvm_edges.specs.States.{named_files}
use Rattle.jvm_edges.proofs.map_store.find_file.Given as goal

abbrev pub invariant-loop-file_name : goal.invariant-loop-file_name
invariant-loop-file_name l = file_named l.name (named_files l.files) ≡ file_named l.name (named_files (drop l.file_name-index l.files))
