-- Numbers by texts.
use Rattle.std.specs.Prelude.{◌≡◌, ℕ, ◌+◌, ◌*◌, ◌%◌, ◌^◌, List, ◌∷◌, Option, Some, None, slice_get, if◌then◌else◌}
use Rattle.std.specs.List.{fold}
use Rattle.std.specs.Option.{option_and_then, option_or}
use Rattle.std.specs.Ordering.{nat_cmp}
use Rattle.std.specs.BTreeMap.{get}
use Rattle.class_grammar.specs.Text.{same_text}
use Rattle.link_resolution.specs.Names.{at_text}
use Rattle.link_resolution.specs.declared.text_numbers.Numbered.{Numbered}
use Rattle.link_resolution.specs.declared.text_numbers.TextNumbers.{TextNumbers}

-- a hash with one word more
unfoldable pub mixed : ℕ → ℕ → ℕ
mixed hash word = ((hash * 11400714819323198485) % 2 ^ 64 + word) % 2 ^ 64

-- four units as one word
abbrev pub word_of : ℕ → ℕ → ℕ → ℕ → ℕ
word_of a b c d = a + b * 65536 + c * 4294967296 + d * 281474976710656

-- a hash with the units of a text, four at a time, and the last one by one
abbrev pub hash_from : ℕ → List ℕ → ℕ
hash_from hash (a ∷ b ∷ c ∷ d ∷ rest) = hash_from (mixed hash (word_of a b c d)) rest
hash_from hash last = fold mixed hash last

abbrev pub hash_of : List ℕ → ℕ
hash_of text = hash_from 0 text

abbrev pub number_if : List ℕ → Numbered → Option ℕ
number_if text n = if same_text n.text text then Some n.number else None

-- the number of the text that is texts at a place, if there is one, and it is this text
abbrev pub found : List Numbered → List ℕ → Option ℕ → Option ℕ
found texts text place = option_and_then (number_if text) (option_and_then (slice_get texts) place)

-- the number of a text
abbrev pub number_at : TextNumbers → List ℕ → Option ℕ
number_at t text = option_or (found t.texts.items text (get nat_cmp t.first (hash_of text))) (at_text t.others text)

-- the new table has this number at the text, unless the old one had some
abbrev pub AddsText : TextNumbers → List ℕ → ℕ → TextNumbers → Type 0
AddsText old name x new = (text : List ℕ) → number_at new text ≡ option_or (number_at old text) (if same_text name text then Some x else None)

-- all texts have the same numbers
abbrev pub IsAlike : TextNumbers → TextNumbers → Type 0
IsAlike old new = (text : List ℕ) → number_at new text ≡ number_at old text
