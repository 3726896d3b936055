-- When a branch goes to its target (JVMS 6.5: if<cond>, if_icmp<cond>, if_acmp<cond>, ifnull, ifnonnull).
use Rattle.std.specs.Prelude.{ℕ, ℤ, Bool, true, false, not, Option, Some, None, int_lt, int_le, ◌==◌}
use Rattle.std.specs.Ordering.{int_eq}
use Rattle.opcodes.specs.declared.op.Comparison.{Comparison}
use Rattle.opcodes.specs.declared.op.Comparison.TheVariants as orders
use Rattle.opcodes.specs.declared.op.Sameness.{Sameness}
use Rattle.opcodes.specs.declared.op.Sameness.TheVariants as samenesses

-- a compares so with b
abbrev pub compares : Comparison → ℤ → ℤ → Bool
compares orders.Equal a b = int_eq a b
compares orders.Unequal a b = not (int_eq a b)
compares orders.Less a b = int_lt a b
compares orders.GreaterOrEqual a b = int_le b a
compares orders.Greater a b = int_lt b a
compares orders.LessOrEqual a b = int_le a b

-- two references are null, or of the same object
abbrev pub same_reference : Option ℕ → Option ℕ → Bool
same_reference None None = true
same_reference (Some a) (Some b) = a == b
same_reference a b = false

-- two references compare so
abbrev pub are_so : Sameness → Option ℕ → Option ℕ → Bool
are_so samenesses.Same a b = same_reference a b
are_so samenesses.Different a b = not (same_reference a b)
