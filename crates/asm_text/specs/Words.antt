-- The words of a line: ASCII without spaces and line feeds, not empty, with single spaces between them.
use Rattle.std.specs.Prelude.{◌≡◌, ℕ, ◌+◌, Bool, true, not, ◌&&◌, ◌==◌, nat_lt, nat_eq, List, [], ◌∷◌, ◌++◌, length, take, drop, Option, if◌then◌else◌}
use Rattle.std.specs.Option.{option_map}
use Rattle.std.specs.List.{flat_map, list_all, slice_split, position}
use Rattle.std.specs.Cmp.Lexicographic.{pointwise}

abbrev pub same_word : List ℕ → List ℕ → Bool
same_word xs ys = pointwise nat_eq xs ys

-- ASCII, and neither a space nor a line feed
abbrev pub is_word_byte : ℕ → Bool
is_word_byte b = nat_lt b 128 && not (b == 32) && not (b == 10)

abbrev pub is_word : List ℕ → Bool
is_word w = not (length w == 0) && list_all is_word_byte w

abbrev pub IsWord : List ℕ → Type 0
IsWord w = is_word w ≡ true

-- each word with a space in front of it
abbrev pub spaced : List (List ℕ) → List ℕ
spaced ws = flat_map (λ w. 32 ∷ w) ws

-- the words with single spaces between them
abbrev pub join : List (List ℕ) → List ℕ
join [] = []
join (w ∷ ws) = w ++ spaced ws

-- ---- cutting a text into parts

-- what is in front of the first such byte, and what is behind it
abbrev pub cut_at : ℕ → List ℕ → Option (List ℕ × List ℕ)
cut_at c bytes = option_map (λ (at : ℕ). (take at bytes, drop (at + 1) bytes)) (position (λ b. b == c) bytes)

-- the parts between single spaces, which may be empty
abbrev pub parts_of : List ℕ → List (List ℕ)
parts_of bytes = slice_split (λ b. b == 32) bytes

-- the text from its first byte on that is no space
abbrev pub without_spaces : List ℕ → List ℕ
without_spaces [] = []
without_spaces (b ∷ bs) = if b == 32 then without_spaces bs else b ∷ bs
