-- Counts of faults: the count of a store or a sink rises exactly where it answers that it failed, so that every fault is
-- answered.
use Rattle.std.specs.Prelude.{◌≡◌, ℕ, ◌+◌, ◌-◌, ◌^◌, ◌≤◌, min, Result, IsErrOf, OnOk, OnErr}
use Rattle.jvm_edges.specs.declared.store.StoreError.{StoreError}
use Rattle.jvm_edges.specs.declared.store.StoreError.TheVariants as store_errors
use Rattle.jvm_edges.specs.declared.sink.Failed.{Failed}

-- The count is greater than before, or it is the greatest u64, where it stays.
abbrev pub Rose : ℕ → ℕ → Type 0
Rose before now = min (before + 1) (2 ^ 64 - 1) ≤ now

-- The count never falls. Where the store answers Failed it rose; any other answer, NoMemory too, leaves it as it was.
pub record StoreHasCause {T : Type 0} (before now : ℕ) (result : Result T StoreError) : Type 0 where
  pub later : before ≤ now
  pub failed : IsErrOf result store_errors.Failed → Rose before now
  pub kept : ¬ IsErrOf result store_errors.Failed → now ≡ before

-- The count never falls. Where the sink answers Failed it rose; an answer Ok leaves it as it was.
pub record SinkHasCause {T : Type 0} (before now : ℕ) (result : Result T Failed) : Type 0 where
  pub later : before ≤ now
  pub failed : OnErr result (Rose before now)
  pub kept : OnOk result (now ≡ before)
