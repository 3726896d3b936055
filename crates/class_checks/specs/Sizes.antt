-- How many bytes a text takes.
use Rattle.std.specs.Prelude.{ℕ, ◌-◌, List, [], ◌∷◌, length, Result, Ok, Err}
use Rattle.std.specs.List.{sum_by}
use Rattle.byte_reader.specs.declared.fault.Fault.{Fault}
use Rattle.class_model.specs.declared.constant.Const.{Const}
use Rattle.class_model.specs.declared.constant.Const.TheVariants.{Utf8}
use Rattle.class_grammar.specs.declared.class_why.ClassWhy.{ClassWhy}
use Rattle.class_grammar.specs.Checks.{Item, sound_bytes, constant_items}
use Rattle.jvm_utf8.specs.Text.{unit}

abbrev pub text_size : List ℕ → ℕ
text_size units = sum_by (λ u. length (unit u)) units

-- the units of a constant, if it is a text
abbrev pub const_size : Const → ℕ
const_size (Utf8 units) = text_size units
const_size c = 0

-- What is left or what is wrong, where so many bytes more were gone over at the end. A fault was found before them.
abbrev pub less_at_end : ℕ → Result ℕ (Fault ClassWhy) → Result ℕ (Fault ClassWhy)
less_at_end size (Ok left) = Ok (left - size)
less_at_end size (Err fault) = Err fault

-- the same where they were in front
abbrev pub less : ℕ → Result ℕ (Fault ClassWhy) → Result ℕ (Fault ClassWhy)
less size (Ok left) = Ok (left - size)
less size (Err fault) = Err (record { left = fault.left - size; why = fault.why })

-- the items of a constant without the units of a text
abbrev pub bare_items : List Const → Const → List Item
bare_items pool (Utf8 units) = sound_bytes 3 ∷ []
bare_items pool c = constant_items pool c
