-- A constant of assembler text is told by its key.
use Rattle.std.proofs.Common.{◌≡◌, ℕ, List, [], ◌∷◌}
use Rattle.class_model.specs.declared.constant.Const.{Const}
use Rattle.class_model.specs.declared.constant.Const.TheVariants.{Utf8, Class, NameAndType}
use Rattle.asm_pool.specs.Keys.{key_of}

-- a text is the only constant with its key
pub utf8_of_key : (c : Const) (units : List ℕ) → key_of c ≡ 1 ∷ units → c ≡ Utf8 units
utf8_of_key (Utf8 us) units e = cc
utf8_of_key other units e = absurd cc

pub class_of_key : (c : Const) (name : ℕ) → key_of c ≡ 7 ∷ name ∷ [] → c ≡ Class name
class_of_key (Class n) name e = cc
class_of_key other name e = absurd cc

pub names_of_key : (c : Const) (name descriptor : ℕ) → key_of c ≡ 12 ∷ name ∷ descriptor ∷ [] → c ≡ NameAndType name descriptor
names_of_key (NameAndType n d) name descriptor e = cc
names_of_key other name descriptor e = absurd cc
