-- The operands of switches (JVMS 6.5, tableswitch and lookupswitch).
use Rattle.std.specs.Prelude.{ℕ, ◌+◌, ◌-◌, ◌%◌, ℤ, pos, ◌-ℤ◌, int_lt, unsigned_abs, [], ◌∷◌, ◌++◌, Option, Some, None, if◌then◌else◌}
use Rattle.items.specs.Options.{◌>>=◌}
use Rattle.asm_text.specs.declared.instruction.Operands.TheVariants as operands
use Rattle.asm_listing.specs.declared.operand_reader.Listed.{Listed}
use Rattle.asm_listing.specs.declared.switch_reader.Targets.{Targets}
use Rattle.asm_listing.specs.declared.switch_reader.Cases.{Cases}
use Rattle.asm_listing.specs.Numbers.{Reader, StepOn, repeat, s4_at, skip}
use Rattle.asm_listing.specs.Words.{label_of, target_of}

abbrev pub padding_of : ℕ → ℕ
padding_of pc = 3 - pc % 4

-- a target, four bytes from the pc of the switch
abbrev pub far_target : ℕ → Reader ℕ
far_target pc bytes = do
  offset ← s4_at bytes
  target ← target_of pc offset.0
  Some (target, offset.1)

-- no labels, where the default is named
abbrev pub no_targets : ℕ → Targets
no_targets default = record { labels = []; pcs = default ∷ [] }

abbrev pub with_target : Targets → ℕ → Targets
with_target t target = record { labels = t.labels ++ label_of target ∷ []; pcs = t.pcs ++ target ∷ [] }

abbrev pub one_target : ℕ → StepOn Targets
one_target pc targets bytes = do
  target ← far_target pc bytes
  Some (with_target targets target.0, target.1)

-- how many targets there are from the lowest value to the highest
abbrev pub count_of : ℤ → ℤ → Option ℕ
count_of low high =
    if int_lt high low then None
    else if int_lt (pos 65535) (high -ℤ low) then None
    else Some (unsigned_abs (high -ℤ low) + 1)

abbrev pub table_of : ℤ → ℕ → Targets → Listed
table_of low default targets = record {
  operands = operands.Table low targets.labels (label_of default);
  targets = targets.pcs;
}

abbrev pub table : ℕ → Reader Listed
table pc bytes = do
  padded ← skip (padding_of pc) bytes
  default ← far_target pc padded
  low ← s4_at default.1
  high ← s4_at low.1
  count ← count_of low.0 high.0
  targets ← repeat (one_target pc) count (no_targets default.0) high.1
  Some (table_of low.0 default.0 targets.0, targets.1)

-- no cases, where the default is named
abbrev pub no_cases : ℕ → Cases
no_cases default = record { cases = []; pcs = default ∷ [] }

abbrev pub with_case : Cases → ℤ → ℕ → Cases
with_case c value target = record {
  cases = c.cases ++ record { value = value; label = label_of target } ∷ [];
  pcs = c.pcs ++ target ∷ [];
}

abbrev pub one_case : ℕ → StepOn Cases
one_case pc cases bytes = do
  value ← s4_at bytes
  target ← far_target pc value.1
  Some (with_case cases value.0 target.0, target.1)

abbrev pub case_count : ℤ → Option ℕ
case_count n = if int_lt n (pos 0) then None else Some (unsigned_abs n)

abbrev pub lookup_of : ℕ → Cases → Listed
lookup_of default cases = record { operands = operands.Lookup cases.cases (label_of default); targets = cases.pcs }

abbrev pub lookup : ℕ → Reader Listed
lookup pc bytes = do
  padded ← skip (padding_of pc) bytes
  default ← far_target pc padded
  n ← s4_at default.1
  count ← case_count n.0
  cases ← repeat (one_case pc) count (no_cases default.0) n.1
  Some (lookup_of default.0 cases.0, cases.1)
