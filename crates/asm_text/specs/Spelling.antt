-- What a line of the text says.
use Rattle.std.specs.Prelude.{◌≡◌, ℕ, Bool, true, not, ◌==◌, List, ◌∷◌, ◌++◌, replicate}
use Rattle.std.specs.List.{list_all}
use Rattle.asm_text.specs.declared.line.Line.{Line}
use Rattle.asm_text.specs.declared.line.Line.TheVariants.{Blank}
use Rattle.asm_text.specs.Words.{join}
use Rattle.asm_text.specs.LineText.{line_words, IsLine}

abbrev pub spaces : ℕ → List ℕ
spaces count = replicate count 32

-- The bytes say the line: after any spaces comes nothing, or a comment, or its words.
pub data Says (bytes : List ℕ) : Line → Type 0 where
  nothing : (count : ℕ) → bytes ≡ spaces count → Says bytes Blank
  comment : (count : ℕ) (text : List ℕ) → bytes ≡ spaces count ++ 35 ∷ text → Says bytes Blank
  words : (count : ℕ) (l : Line) → bytes ≡ spaces count ++ join (line_words l) → IsLine l → Says bytes l

-- the text has no line feed
abbrev pub is_one_line : List ℕ → Bool
is_one_line bytes = list_all (λ b. not (b == 10)) bytes

-- the text begins with a line feed and what says this line in front of it, and this is the rest
pub record BeginsWith (text : List ℕ) (l : Line) (rest : List ℕ) : Type 0 where
  pub bytes : List ℕ
  pub parts : text ≡ bytes ++ 10 ∷ rest
  pub one_line : is_one_line bytes ≡ true
  pub says : Says bytes l
