-- What instructions ask of the constants of a class's pool.
use Rattle.std.specs.Prelude.{◌≡◌, ℕ, true, false, List, Option, Some, None, slice_get, slice_set}
use Rattle.items.specs.First.{first_some}
use Rattle.class_model.specs.declared.constant.Const.{Const}
use Rattle.link_rules.specs.declared.why.LinkWhy.{LinkWhy}
use Rattle.link_rules.specs.Program.{Program}
use Rattle.link_rules.specs.Instructions.{Faults, const_faults, field_const_faults, method_const_faults, class_const_faults}
use Rattle.link_checks.specs.declared.constant_uses.Use.{Use}
use Rattle.link_checks.specs.declared.constant_uses.Use.TheVariants as uses

-- what may be wrong with a use of the constant at an index
abbrev pub use_faults : Program → ℕ → List Const → Use → ℕ → Faults
use_faults p c pool uses.StaticField i = const_faults pool i (field_const_faults p c pool true)
use_faults p c pool uses.ObjectField i = const_faults pool i (field_const_faults p c pool false)
use_faults p c pool (uses.Method call) i = const_faults pool i (method_const_faults p c pool call)
use_faults p c pool (uses.Class purpose) i = const_faults pool i (class_const_faults p c pool purpose i)

-- nothing is wrong with the uses in a table by index
abbrev pub AreFine : Program → ℕ → List Const → List (Option Use) → Type 0
AreFine p c pool fine = (i : ℕ) (u : Use) → slice_get fine i ≡ Some (Some u) → first_some (use_faults p c pool u i) ≡ None

-- the table with one more use, if it has no fault
abbrev pub with_use : List (Option Use) → Option LinkWhy → Use → ℕ → List (Option Use)
with_use fine None u i = slice_set fine i (Some u)
with_use fine (Some why) u i = fine
