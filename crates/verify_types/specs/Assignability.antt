-- When a value of one type may stand for one of another (JVMS 4.10.1.2). Neither type is a constant of a pool: those are
-- resolved first.
use Rattle.std.specs.Prelude.{nat_lt, if◌then◌else◌, ℕ, Bool, true, false, ◌==◌, ◌&&◌, ◌||◌}
use Rattle.stack_maps.specs.declared.types.Base.{Base}
use Rattle.stack_maps.specs.declared.types.Base.TheVariants as bases
use Rattle.stack_maps.specs.declared.types.VType.{VType}
use Rattle.stack_maps.specs.declared.types.VType.TheVariants as types
use Rattle.link_rules.specs.Program.{is_interface}
use Rattle.link_model.specs.World.{World}
pub use Rattle.link_model.specs.Subtypes.{is_object, is_array_super, class_below, same_primitive}

-- a class to itself, to its superclasses, and to every interface
abbrev pub class_assignable : World → ℕ → ℕ → Bool
class_assignable w a b = is_interface w.program b || class_below w a b

-- elements of arrays, or classes
abbrev pub base_assignable : World → Base → Base → Bool
base_assignable w (bases.Class a) (bases.Class b) = class_assignable w a b
base_assignable w a b = same_primitive a b

-- Named types, by their dimensions and what lies below them: with as many dimensions, where their last elements are assignable;
-- with more, to what is above each array class, or an array of that.
abbrev pub named_assignable : World → ℕ → Base → ℕ → Base → Bool
named_assignable w m a n b = if m == n then base_assignable w a b else (nat_lt n m && is_array_super w b)

-- Each type to itself and to Top, and null to each class, interface and array.
abbrev pub assignable : World → VType → VType → Bool
assignable w a types.Top = true
assignable w types.Int types.Int = true
assignable w types.Float types.Float = true
assignable w types.Double types.Double = true
assignable w types.Long types.Long = true
assignable w types.Null types.Null = true
assignable w types.UninitThis types.UninitThis = true
assignable w (types.Uninit a) (types.Uninit b) = a == b
assignable w types.Null (types.Named n base) = true
assignable w (types.Named m a) (types.Named n b) = named_assignable w m a n b
assignable w a b = false
