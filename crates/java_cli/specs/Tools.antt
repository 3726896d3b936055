-- What the commands on one file do.
use Rattle.std.specs.Prelude.{◌≡◌, ℕ, List, [], Option}
use Rattle.jvm_edges.specs.Files.{Files}
use Rattle.answers.specs.declared.report.Report.{Report}
use Rattle.class_tools.specs.Due.{Due}
use Rattle.class_tools.specs.Exact.{IsExact, IsWritten, OnText}

-- Nothing was run. Each answer comes only by its cause, where `of` says what the command makes of the file's bytes and `faulty` that the store
-- failed; and what `out` took is what the command makes, or a front of it.
pub record Converts (of : List ℕ → Due → Type 0) (known : Option Files) (faulty : Type 0) (file : List ℕ) (before after : Option (List ℕ)) (r : Report)
    : Type 0 where
  pub history : r.history.items ≡ []
  pub exact : IsExact of known faulty file r.why
  pub written : OnText r.why (IsWritten of known file before after r)
