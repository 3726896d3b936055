-- What one carrier did.
use Rattle.std.specs.Prelude.{ℕ, List, ◌==◌}
use Rattle.std.specs.List.{filter}
use Rattle.history.specs.declared.entry.Entry.{Entry}

-- the entries of carrier c, in their order
abbrev pub made_by : ℕ → List Entry → List Entry
made_by c entries = filter (λ (e : Entry). e.carrier == c) entries
