-- What the machine asks of a linked world at each instruction (JVMS 6.5).
use Rattle.std.specs.Prelude.{ℕ, ◌+◌, ◌-◌, Bool, true, false, List, [], Option, Some, None, length, position, get_or, slice_get, ◌==◌, ◌&&◌, if◌then◌else◌}
use Rattle.std.specs.Option.{option_and_then, option_map, option_map_or}
use Rattle.descriptors.specs.declared.kind.Kind.{Kind}
use Rattle.opcodes.specs.declared.op.Instr.{Instr}
use Rattle.stack_maps.specs.declared.types.Base.{Base}
use Rattle.stack_maps.specs.declared.types.Base.TheVariants as bases
use Rattle.link_model.specs.declared.members.MethodCode.{MethodCode}
use Rattle.link_model.specs.declared.sites.ArrayType.{ArrayType}
use Rattle.link_model.specs.declared.sites.Site.{Site}
use Rattle.link_model.specs.World.{World, array_type}
use Rattle.link_model.specs.Numbering.{array_number, numbering_of}
use Rattle.link_model.specs.Sites.{plain}

-- ---- sites

-- the index of the instruction that begins at a pc
abbrev pub index_at : ℕ → MethodCode → Option ℕ
index_at pc code = position (λ (i : Instr). i.pc == pc) code.code

-- the same in a list of codes, by the method's number
abbrev pub index_in : List (Option MethodCode) → ℕ → ℕ → Option ℕ
index_in codes method pc = option_and_then (option_and_then (index_at pc)) (slice_get codes method)

-- what the instruction at a pc of a method names; at a pc where none begins, nothing
abbrev pub site : World → ℕ → ℕ → Site
site w method pc = option_map_or (λ i. (get_or (get_or w.resolutions method []) i plain).site) (index_in w.codes method pc) plain.site

-- ---- array classes

-- the class of objects of such a type, where they are no primitive values
abbrev pub class_of_base : Base → Option ℕ
class_of_base (bases.Class class) = Some class
class_of_base base = None

-- the number of the class of an array's elements: that of an array of one dimension less comes before it
abbrev pub element_of : ℕ → ArrayType → Option ℕ
element_of n array = if array.dimensions == 1 then class_of_base array.base else Some (n - 1)

-- the class of the elements of the array class with this number, where they are objects
abbrev pub element : World → ℕ → Option ℕ
element w n = option_and_then (element_of n) (array_type w n)

-- the number of an array class, by the type of its objects
abbrev pub array_of : World → Kind → Option ℕ
array_of w kind = array_number (numbering_of w.program) kind

-- ---- array classes by type

abbrev pub same_base : Base → Base → Bool
same_base (bases.Class a) (bases.Class b) = a == b
same_base bases.Bool bases.Bool = true
same_base bases.Byte bases.Byte = true
same_base bases.Char bases.Char = true
same_base bases.Short bases.Short = true
same_base bases.Int bases.Int = true
same_base bases.Long bases.Long = true
same_base a b = false

abbrev pub same_type : ArrayType → ArrayType → Bool
same_type a b = (a.dimensions == b.dimensions) && same_base a.base b.base

-- the number of an array class
abbrev pub array_class : World → ArrayType → Option ℕ
array_class w t = option_map (λ place. length w.names + place) (position (λ other. same_type other t) w.arrays)
