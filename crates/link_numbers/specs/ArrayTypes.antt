-- The numbers of array types by the type of their last elements.
use Rattle.std.specs.Prelude.{ℕ, ◌+◌, ◌-◌, List, Option, Some, None, get_or, length, nat_le, nat_lt, take, ◌&&◌, if◌then◌else◌}
use Rattle.std.specs.List.{sum}
use Rattle.std.specs.Option.{option_and_then}
use Rattle.stack_maps.specs.declared.types.Base.{Base}
use Rattle.stack_maps.specs.declared.types.Base.TheVariants as bases
use Rattle.link_model.specs.declared.sites.ArrayType.{ArrayType}
use Rattle.link_model.specs.Numbering.{Numbering}

-- the place of a type among the types that are no arrays; floats and doubles, which have no operations here, have none
abbrev pub place_of : Base → Option ℕ
place_of bases.Bool = Some 0
place_of bases.Byte = Some 1
place_of bases.Char = Some 2
place_of bases.Short = Some 3
place_of bases.Int = Some 4
place_of bases.Long = Some 5
place_of bases.Float = None
place_of bases.Double = None
place_of (bases.Class class) = Some (8 + class)

-- the number of an array type, by the place of its elements' type and its dimensions
abbrev pub number_in : ℕ → List ℕ → ℕ → ℕ → Option ℕ
number_in count depths index dimensions =
    if nat_lt 0 dimensions && nat_le dimensions (get_or depths index 0)
    then Some (count + sum (take index depths) + (dimensions - 1))
    else None

abbrev pub number_at : Numbering → ℕ → ℕ → Option ℕ
number_at n index dimensions = number_in (length n.names) n.depths index dimensions

abbrev pub type_number : Numbering → ArrayType → Option ℕ
type_number n array = option_and_then (λ index. number_at n index array.dimensions) (place_of array.base)
