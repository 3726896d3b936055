-- Fields, arrays, objects and classes at single values, beside JVMS 6.5 and the limits of a run.
use Rattle.std.proofs.Common.{◌≡◌, ℕ, ℤ, pos, negsuc, true, false, List, [], ◌∷◌, Option, Some, None, refl}
use Rattle.std.specs.Int.{int_wrap}
use Rattle.std.specs.Prelude.{codes}
use Rattle.opcodes.specs.declared.op.Element.TheVariants as elements
use Rattle.instruction_rows.specs.declared.value.Value.TheVariants.{Int, Long, Null, Ref}
use Rattle.instruction_rows.specs.declared.value.Slot.{Slot}
use Rattle.instruction_rows.specs.declared.value.Slot.TheVariants.{One, Second}
use Rattle.link_model.specs.declared.sites.Resolution.{Resolution}
use Rattle.link_model.specs.declared.sites.Site.TheVariants as sites
use Rattle.state_model.specs.Objects.{instance, text}
use Rattle.ref_model.specs.declared.exception.Exception.{Exception}
use Rattle.ref_model.specs.declared.exception.Exception.TheVariants as exceptions
use Rattle.ref_model.specs.Classes.{is_sub, class_name}
use Rattle.ref_model.specs.Members.{instance_fields, field_place, static_place, new_values}
use Rattle.ref_model.specs.Memory.{Memory}
use Rattle.ref_model.specs.Heap.{cells_of_values, cells_of_units}
use Rattle.ref_model.specs.Effects.{Effect, done, throws, throws_object}
use Rattle.ref_model.specs.Fields.{static_put, field_gotten, field_put}
use Rattle.ref_model.specs.Arrays.{array_loaded, array_stored, length_gotten, array_made, arrays_made, cells_of_lengths}
use Rattle.ref_model.specs.Instances.{object_made, object_cast, object_judged, object_thrown}
use Rattle.ref_model.proofs.WorkedWorld.{world}

-- ---- cells: an object one and one a field, a String one and one for each started eight of its units

cells_of_no_fields : cells_of_values 0 ≡ 1
cells_of_no_fields = refl

cells_of_nine : cells_of_values 9 ≡ 10
cells_of_nine = refl

cells_of_the_empty_text : cells_of_units 0 ≡ 1
cells_of_the_empty_text = refl

cells_of_eight_units : cells_of_units 8 ≡ 2
cells_of_eight_units = refl

cells_of_nine_units : cells_of_units 9 ≡ 3
cells_of_nine_units = refl

-- ---- classes: 0 is Object, 2 String, 7 A, 8 int[], 9 int[][], 10 byte[], 11 Object[], 12 String[]

a_class_is_its_own : is_sub world 7 7 ≡ true
a_class_is_its_own = refl

object_is_above : is_sub world 7 0 ≡ true
object_is_above = refl

string_is_not_above : is_sub world 7 2 ≡ false
string_is_not_above = refl

an_array_is_an_object : is_sub world 8 0 ≡ true
an_array_is_an_object = refl

ints_are_no_bytes : is_sub world 8 10 ≡ false
ints_are_no_bytes = refl

strings_are_objects : is_sub world 12 11 ≡ true
strings_are_objects = refl

objects_are_no_strings : is_sub world 11 12 ≡ false
objects_are_no_strings = refl

rows_of_ints_are_objects : is_sub world 9 11 ≡ true
rows_of_ints_are_objects = refl

ints_are_no_objects : is_sub world 8 11 ≡ false
ints_are_no_objects = refl

name_of_string : class_name world 2 ≡ codes "java.lang.String"
name_of_string = refl

name_of_rows : class_name world 9 ≡ codes "[[I"
name_of_rows = refl

name_of_strings : class_name world 12 ≡ codes "[Ljava.lang.String;"
name_of_strings = refl

-- ---- where fields lie

fields_of_a : instance_fields world 7 ≡ 0 ∷ 2 ∷ []
fields_of_a = refl

large_is_second : field_place world 2 ≡ Some 1
large_is_second = refl

shared_is_first : static_place world 1 ≡ 0
shared_is_first = refl

values_at_first : new_values world 7 ≡ Int (pos 0) ∷ Long (pos 0) ∷ []
values_at_first = refl

-- ---- a memory: 0 is an A, 1 an array of two ints, 2 an array of one Object, 3 a String, 4 an array of one String, 5 a byte[] of one

abbrev ready : Memory
ready = record {
  heap =
      instance 7 (Int (pos 1) ∷ Long (pos 2) ∷ [])
      ∷ instance 8 (Int (pos 5) ∷ Int (pos 6) ∷ [])
      ∷ instance 11 (Null ∷ [])
      ∷ text (codes "x")
      ∷ instance 12 (Null ∷ [])
      ∷ instance 10 (Int (pos 0) ∷ [])
      ∷ [];
  room = 10;
  statics = Int (pos 0) ∷ [];
  out = [];
  err = [];
  exited = None;
}

abbrev int : ℤ → Slot
int n = One (Int n)

abbrev ref : ℕ → Slot
ref o = One (Ref o)

abbrev null : Slot
null = One Null

abbrev of_field : ℕ → Resolution
of_field n = record { site = sites.Field n; class = Some 7; failure = None }

abbrev of_class : ℕ → Resolution
of_class n = record { site = sites.Class n; class = None; failure = None }

-- what an effect gives with everything as it is
abbrev Leaves : Option Effect → List Slot → Type 0
Leaves effect stack = effect ≡ Some (done ready stack)

abbrev Throws : Option Effect → Exception → Type 0
Throws effect e = effect ≡ Some (throws e)

-- ---- fields

second_field : Leaves (field_gotten world (of_field 2) ready (ref 0 ∷ [])) (Second ∷ One (Long (pos 2)) ∷ [])
second_field = refl

field_of_null : Throws (field_gotten world (of_field 2) ready (null ∷ [])) exceptions.NullPointerException
field_of_null = refl

-- an object that isn't an instance of the class named
field_of_a_string : Throws (field_gotten world (of_field 2) ready (ref 3 ∷ [])) exceptions.VerifyError
field_of_a_string = refl

-- a byte keeps eight bits of 200, a char sixteen bits of -1
narrowed : field_put world (of_field 0) ready (int (pos 200) ∷ ref 0 ∷ []) ≡ Some (done
    (record ready {
      heap =
          instance 7 (Int (negsuc 55) ∷ Long (pos 2) ∷ [])
          ∷ instance 8 (Int (pos 5) ∷ Int (pos 6) ∷ [])
          ∷ instance 11 (Null ∷ [])
          ∷ text (codes "x")
          ∷ instance 12 (Null ∷ [])
          ∷ instance 10 (Int (pos 0) ∷ [])
          ∷ [];
    }) [])
unfolding int_wrap
narrowed = refl

static_narrowed : static_put world (of_field 1) ready (int (negsuc 0) ∷ []) ≡ Some (done (record ready { statics = Int (pos 65535) ∷ [] }) [])
static_narrowed = refl

-- ---- arrays

loaded : Leaves (array_loaded world elements.Int ready (int (pos 1) ∷ ref 1 ∷ [])) (int (pos 6) ∷ [])
loaded = refl

past_the_end : Throws (array_loaded world elements.Int ready (int (pos 2) ∷ ref 1 ∷ [])) exceptions.ArrayIndexOutOfBoundsException
past_the_end = refl

before_the_start : Throws (array_loaded world elements.Int ready (int (negsuc 0) ∷ ref 1 ∷ [])) exceptions.ArrayIndexOutOfBoundsException
before_the_start = refl

-- null comes before the index
no_array : Throws (array_loaded world elements.Int ready (int (pos 9) ∷ null ∷ [])) exceptions.NullPointerException
no_array = refl

other_elements : Throws (array_loaded world elements.Long ready (int (pos 0) ∷ ref 1 ∷ [])) exceptions.VerifyError
other_elements = refl

two_elements : Leaves (length_gotten world ready (ref 1 ∷ [])) (int (pos 2) ∷ [])
two_elements = refl

-- an A is no String, and null is; the index comes before the class
no_string : Throws (array_stored world elements.Reference ready (ref 0 ∷ int (pos 0) ∷ ref 4 ∷ [])) exceptions.ArrayStoreException
no_string = refl

null_is_stored : Leaves (array_stored world elements.Reference ready (null ∷ int (pos 0) ∷ ref 4 ∷ [])) []
null_is_stored = refl

index_first : Throws (array_stored world elements.Reference ready (ref 0 ∷ int (pos 7) ∷ ref 4 ∷ [])) exceptions.ArrayIndexOutOfBoundsException
index_first = refl

-- ---- new arrays

three_ints : array_made world (of_class 8) ready (int (pos 3) ∷ []) ≡ Some (done
    (record ready {
      heap =
          instance 7 (Int (pos 1) ∷ Long (pos 2) ∷ [])
          ∷ instance 8 (Int (pos 5) ∷ Int (pos 6) ∷ [])
          ∷ instance 11 (Null ∷ [])
          ∷ text (codes "x")
          ∷ instance 12 (Null ∷ [])
          ∷ instance 10 (Int (pos 0) ∷ [])
          ∷ instance 8 (Int (pos 0) ∷ Int (pos 0) ∷ Int (pos 0) ∷ [])
          ∷ [];
      room = 6;
    }) (ref 6 ∷ []))
three_ints = refl

no_length : Throws (array_made world (of_class 8) ready (int (negsuc 0) ∷ [])) exceptions.NegativeArraySizeException
no_length = refl

-- ten elements take eleven cells
too_long : Throws (array_made world (of_class 8) ready (int (pos 10) ∷ [])) exceptions.OutOfMemoryError
too_long = refl

-- int[2][3]: the outer array, and its two elements after it
eleven_cells : cells_of_lengths (2 ∷ 3 ∷ []) ≡ 11
eleven_cells = refl

two_by_two : arrays_made world 2 (of_class 9) (record ready { heap = []; room = 9 }) (int (pos 2) ∷ int (pos 2) ∷ []) ≡ Some (done
    (record ready {
      heap =
          instance 9 (Ref 1 ∷ Ref 2 ∷ [])
          ∷ instance 8 (Int (pos 0) ∷ Int (pos 0) ∷ [])
          ∷ instance 8 (Int (pos 0) ∷ Int (pos 0) ∷ [])
          ∷ [];
      room = 0;
    }) (ref 0 ∷ []))
two_by_two = refl

-- one cell less, and no array is made
none_of_them : Throws (arrays_made world 2 (of_class 9) (record ready { heap = []; room = 8 }) (int (pos 2) ∷ int (pos 2) ∷ [])) exceptions.OutOfMemoryError
none_of_them = refl

-- int[0][5] has no arrays below it
none_below : arrays_made world 2 (of_class 9) (record ready { heap = []; room = 1 }) (int (pos 5) ∷ int (pos 0) ∷ []) ≡ Some (done
    (record ready { heap = instance 9 [] ∷ []; room = 0 }) (ref 0 ∷ []))
none_below = refl

-- int[2][] has no arrays below it either, and its elements are null
one_length : arrays_made world 1 (of_class 9) (record ready { heap = []; room = 3 }) (int (pos 2) ∷ []) ≡ Some (done
    (record ready { heap = instance 9 (Null ∷ Null ∷ []) ∷ []; room = 0 }) (ref 0 ∷ []))
one_length = refl

-- a negative length is told even below an array of length 0
below_nothing : Throws (arrays_made world 2 (of_class 9) ready (int (negsuc 0) ∷ int (pos 0) ∷ [])) exceptions.NegativeArraySizeException
below_nothing = refl

-- ---- objects

a_new_one : object_made world (of_class 7) (record ready { heap = []; room = 3 }) [] ≡ Some (done
    (record ready { heap = instance 7 (Int (pos 0) ∷ Long (pos 0) ∷ []) ∷ []; room = 0 }) (ref 0 ∷ []))
a_new_one = refl

no_room_for_it : Throws (object_made world (of_class 7) (record ready { room = 2 }) []) exceptions.OutOfMemoryError
no_room_for_it = refl

null_is_cast : Leaves (object_cast world (of_class 2) ready (null ∷ [])) (null ∷ [])
null_is_cast = refl

an_a_is_no_string : Throws (object_cast world (of_class 2) ready (ref 0 ∷ [])) exceptions.ClassCastException
an_a_is_no_string = refl

a_string_is_an_object : Leaves (object_cast world (of_class 0) ready (ref 3 ∷ [])) (ref 3 ∷ [])
a_string_is_an_object = refl

null_is_no_instance : Leaves (object_judged world (of_class 0) ready (null ∷ [])) (int (pos 0) ∷ [])
null_is_no_instance = refl

strings_are_an_instance : Leaves (object_judged world (of_class 11) ready (ref 4 ∷ [])) (int (pos 1) ∷ [])
strings_are_an_instance = refl

null_is_thrown : Throws (object_thrown (null ∷ [])) exceptions.NullPointerException
null_is_thrown = refl

an_object_is_thrown : object_thrown (ref 0 ∷ []) ≡ Some (throws_object 0)
an_object_is_thrown = refl
