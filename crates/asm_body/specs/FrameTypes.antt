-- The types of a frame with the classes that they name in the pool.
use Rattle.std.specs.Prelude.{◌≡◌, ℕ, List, [], ◌∷◌, ◌++◌, Option, Some, None, Result, Ok, Err}
use Rattle.std.specs.Option.{option_map}
use Rattle.items.specs.Options.{◌>>=◌}
use Rattle.class_model.specs.declared.constant.Const.{Const}
use Rattle.asm_text.specs.declared.error.LineError.{LineError}
use Rattle.asm_text.specs.declared.error.LineError.TheVariants as line_errors
use Rattle.asm_text.specs.declared.line.FrameType.{FrameType}
use Rattle.asm_text.specs.declared.line.FrameType.TheVariants as types
use Rattle.asm_pool.specs.declared.pool.Pool.{Pool}
use Rattle.asm_pool.specs.Mentions as pools
use Rattle.asm_pool.specs.Places.{IsPool}
use Rattle.asm_body.specs.declared.placed.PlacedType.{PlacedType}
use Rattle.asm_body.specs.declared.placed.PlacedType.TheVariants as placed

-- the call gave this value and left this pool, unless memory ran out
abbrev pub GivesPooled : {X : Type 0} → Result X LineError → Pool → Option (X × List Const) → Type 0
GivesPooled (Ok x) new made = (made ≡ Some (x, new.entries)) × IsPool new
GivesPooled (Err line_errors.Bad) new made = made ≡ None
GivesPooled (Err line_errors.NoMemory) new made = Unit {0}

abbrev pub object : pools.Mention → Option (PlacedType × List Const)
object mention = option_map (λ (x : ℕ × List Const). (placed.Object x.0, x.1)) mention

abbrev pub type_of : FrameType → List Const → Option (PlacedType × List Const)
type_of types.Top pool = Some (placed.Top, pool)
type_of types.Int pool = Some (placed.Int, pool)
type_of types.Long pool = Some (placed.Long, pool)
type_of types.Null pool = Some (placed.Null, pool)
type_of types.This pool = Some (placed.This, pool)
type_of (types.New label) pool = Some (placed.New label, pool)
type_of (types.Ref name) pool = object (pools.class name pool)

-- the types behind those that were there
abbrev pub types_behind : List PlacedType → List FrameType → List Const → Option (List PlacedType × List Const)
types_behind before [] pool = Some (before, pool)
types_behind before (t ∷ ts) pool = do
  here ← type_of t pool
  types_behind (before ++ here.0 ∷ []) ts here.1
