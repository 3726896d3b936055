-- A constant as a text of numbers, by which it is found: its tag, and what it holds.
use Rattle.std.specs.Prelude.{ℕ, List, [], ◌∷◌}
use Rattle.std.specs.Fmt.{signed_decimal}
use Rattle.class_model.specs.declared.constant.Const.{Const}
use Rattle.class_model.specs.declared.constant.Const.TheVariants.{Utf8, Integer, Long, Class, Text, Fieldref, Methodref, InterfaceMethodref, NameAndType}

-- an int and a long by their decimals; constants that no assembler text has share the empty key
abbrev pub key_of : Const → List ℕ
key_of (Utf8 units) = 1 ∷ units
key_of (Integer n) = 3 ∷ signed_decimal n
key_of (Long n) = 5 ∷ signed_decimal n
key_of (Class name) = 7 ∷ name ∷ []
key_of (Text text) = 8 ∷ text ∷ []
key_of (Fieldref class member) = 9 ∷ class ∷ member ∷ []
key_of (Methodref class member) = 10 ∷ class ∷ member ∷ []
key_of (InterfaceMethodref class member) = 11 ∷ class ∷ member ∷ []
key_of (NameAndType name descriptor) = 12 ∷ name ∷ descriptor ∷ []
key_of other = []
