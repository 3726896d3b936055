-- The classes of the elements of arrays.
use Rattle.std.specs.Prelude.{ℕ, Option}
use Rattle.link_model.specs.declared.sites.ArrayType.{ArrayType}
use Rattle.link_model.specs.World.{World}
use Rattle.ref_model.specs.Classes.{array_class, element_of}

-- the class of the elements of an array, where that is an array class
abbrev pub inner_class : World → ArrayType → Option ℕ
inner_class w array = array_class w (element_of array)
