-- How far the lines of entries go.
use Rattle.std.specs.Prelude.{◌≡◌, ℕ, List, ◌++◌, None}
use Rattle.std.specs.List.{flat_map}
use Rattle.history.specs.declared.entry.Entry.{Entry}
use Rattle.history.specs.TraceText.{line, AreEntries}
use Rattle.history.specs.Parsing.{entry_at}

-- the lines of these entries are in front of the rest, where there is no entry's line
pub record TakesEntries (bytes : List ℕ) (entries : List Entry) (rest : List ℕ) : Type 0 where
  pub parts : bytes ≡ flat_map line entries ++ rest
  pub are_entries : AreEntries entries
  pub no_entry : entry_at rest ≡ None
