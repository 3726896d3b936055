-- A constant by its numbers and its text.
use Rattle.std.specs.Prelude.{ℕ, ℤ, pos, List, []}
use Rattle.class_model.specs.declared.constant.Const.{Const}
use Rattle.class_model.specs.declared.constant.Const.TheVariants.{Unused, Utf8, Integer, Float, Long, Double, Class, Text, Fieldref, Methodref, InterfaceMethodref, NameAndType, MethodHandle, MethodType, Dynamic, InvokeDynamic, Module, Package}
use Rattle.class_equality.specs.declared.constant.Numbers.{Numbers}

abbrev pub tagged : ℕ → Numbers
tagged tag = record { tag = tag; int = pos 0; long = pos 0; bits = 0; first = 0; second = 0 }

abbrev pub with_bits : ℕ → ℕ → Numbers
with_bits tag bits = record { tag = tag; int = pos 0; long = pos 0; bits = bits; first = 0; second = 0 }

abbrev pub with_indexes : ℕ → ℕ → ℕ → Numbers
with_indexes tag first second = record { tag = tag; int = pos 0; long = pos 0; bits = 0; first = first; second = second }

abbrev pub with_int : ℤ → Numbers
with_int n = record { tag = 3; int = n; long = pos 0; bits = 0; first = 0; second = 0 }

abbrev pub with_long : ℤ → Numbers
with_long n = record { tag = 5; int = pos 0; long = n; bits = 0; first = 0; second = 0 }

abbrev pub numbers_of : Const → Numbers
numbers_of Unused = tagged 0
numbers_of (Utf8 units) = tagged 1
numbers_of (Integer n) = with_int n
numbers_of (Float bits) = with_bits 4 bits
numbers_of (Long n) = with_long n
numbers_of (Double bits) = with_bits 6 bits
numbers_of (Class name) = with_indexes 7 name 0
numbers_of (Text text) = with_indexes 8 text 0
numbers_of (Fieldref class member) = with_indexes 9 class member
numbers_of (Methodref class member) = with_indexes 10 class member
numbers_of (InterfaceMethodref class member) = with_indexes 11 class member
numbers_of (NameAndType name descriptor) = with_indexes 12 name descriptor
numbers_of (MethodHandle kind member) = with_indexes 15 kind member
numbers_of (MethodType descriptor) = with_indexes 16 descriptor 0
numbers_of (Dynamic method member) = with_indexes 17 method member
numbers_of (InvokeDynamic method member) = with_indexes 18 method member
numbers_of (Module name) = with_indexes 19 name 0
numbers_of (Package name) = with_indexes 20 name 0

abbrev pub units_of : Const → List ℕ
units_of (Utf8 units) = units
units_of other = []
