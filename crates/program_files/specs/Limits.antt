-- The limits of a command.
use Rattle.std.specs.Prelude.{ℕ}
use Rattle.ref_model.specs.declared.limits.Limits.{Limits}

-- the most FILE arguments
abbrev pub most_files : ℕ
most_files = 256

-- the limits of a run whose history may have so many entries: cells of the heap, and threads
abbrev pub run_limits : ℕ → Limits
run_limits events = record { heap_cells = 4194304; threads = 100000; events = events }
