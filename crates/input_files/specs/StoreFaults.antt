-- The faults of the store that an answer names.
use Rattle.std.specs.Prelude.{◌≡◌, ℕ}
use Rattle.jvm_edges.specs.Causes.{Rose}
use Rattle.command_line.specs.declared.answer.Why.{Why}
use Rattle.command_line.specs.declared.answer.Why.TheVariants.{SourceFault, NoMemory}

-- The store's count of faults rose where the answer names a fault of the store. NoMemory may come after such a fault,
-- where no memory was left for its line. No other answer does, so the count is as it was.
abbrev pub StoreFaults : Why → ℕ → ℕ → Type 0
StoreFaults (SourceFault file) before now = Rose before now
StoreFaults NoMemory before now = Unit {0}
StoreFaults why before now = now ≡ before
