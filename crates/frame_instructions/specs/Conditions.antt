-- What the ifs ask of their operands (JVMS 6.5).
use Rattle.std.specs.Prelude.{ℕ, ℤ, pos, Bool, List, [], ◌∷◌, None}
use Rattle.opcodes.specs.declared.op.Comparison.{Comparison}
use Rattle.opcodes.specs.declared.op.Sameness.{Sameness}
use Rattle.opcodes.specs.declared.op.ValueKind.{ValueKind}
use Rattle.opcodes.specs.declared.op.ValueKind.TheVariants as kinds
use Rattle.instruction_rows.specs.declared.value.Slot.{Slot}
use Rattle.instruction_rows.specs.Comparisons.{compares, are_so}
use Rattle.instruction_rows.specs.Kinds.{Function}
use Rattle.instruction_rows.specs.Rows.{branch}
use Rattle.frame_instructions.specs.SlotRows.{Acts, CanTest, way_of}

-- the kinds of the operands, the topmost first, and whether the branch is taken
pub record Condition : Type 0 where
  pub takes : List ValueKind
  pub test : Function takes Bool

-- ifeq to ifle
abbrev pub zero_condition : Comparison → Condition
zero_condition order = record { takes = kinds.Int ∷ []; test = λ a. compares order a (pos 0) }

-- the same against an int
abbrev pub int_condition : Comparison → ℤ → Condition
int_condition order n = record { takes = kinds.Int ∷ []; test = λ a. compares order a n }

-- if_icmpeq to if_icmple
abbrev pub ints_condition : Comparison → Condition
ints_condition order = record { takes = kinds.Int ∷ kinds.Int ∷ []; test = λ b a. compares order a b }

-- if_acmpeq and if_acmpne
abbrev pub references_condition : Sameness → Condition
references_condition s = record { takes = kinds.Reference ∷ kinds.Reference ∷ []; test = λ b a. are_so s a b }

-- ifnull and ifnonnull
abbrev pub null_condition : Sameness → Condition
null_condition s = record { takes = kinds.Reference ∷ []; test = λ a. are_so s a None }

-- the operands are there
abbrev pub CanBranch : Condition → List Slot → ℕ → ℕ → Type 0
CanBranch x slots locals used = CanTest x.takes x.test slots locals used

-- the branch leaves these slots with this number of operands, and leads to its target if it is taken
abbrev pub Branches : Condition → List Slot → ℕ → ℕ → ℕ → Bool → Type 0
Branches x slots locals used left taken =
    (target : ℤ) → Acts (branch x.takes x.test target) slots locals used slots left (way_of taken target)
