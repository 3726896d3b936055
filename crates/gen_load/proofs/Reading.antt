-- A text that is made of lines begins with each of them in turn.
use Rattle.std.proofs.Common.{◌≡◌, ℕ, ◌<◌, ◌^◌, List, [], ◌∷◌, ◌++◌, map, Option, Some, refl, ap, ◌∙◌, arith, lit<, append_assoc}
use Rattle.std.specs.Fmt.{digits}
use Rattle.std.specs.List.{AllByRecursion}
use Rattle.asm_text.specs.declared.line.Line.{Line}
use Rattle.asm_text.specs.LineText.{line_text}
use Rattle.asm_text.specs.Mnemonics.{mnemonics, mnemonic_of, opcode_named}
use Rattle.asm_text.specs.Parsing.{line_at}
use Rattle.asm_text.specs.Spelling.{BeginsWith}
use Rattle.asm_text.proofs.SpellingLaws.{begins, printed}
use Rattle.gen_load.specs.Words.{ldc_int}
use Rattle.gen_load.specs.Program.{load_front, load_back, load, turn}

-- what begins with the text of the line begins with the line
abbrev pub IsRead : Line → Type 0
IsRead l = (rest : List ℕ) → BeginsWith (line_text l ++ rest) l rest

read_alone : (l : Line) → line_at (line_text l) ≡ Some (l, []) → IsRead l
read_alone l e rest =
    let h = begins (line_text l) l [] e in
    record {
      bytes = h.bytes;
      parts = ap (λ t. t ++ rest) h.parts ∙ append_assoc h.bytes (10 ∷ []) rest;
      one_line = h.one_line;
      says = h.says;
    }

-- what is read of the text of each line
abbrev read : List Line → List (Option (Line × List ℕ))
read ls = map (λ l. line_at (line_text l)) ls

abbrev themselves : List Line → List (Option (Line × List ℕ))
themselves ls = map (λ l. Some (l, [])) ls

-- lines that are read as themselves, and others behind them
read_and : (ls more : List Line) → read ls ≡ themselves ls
    → AllByRecursion IsRead more → AllByRecursion IsRead (ls ++ more)
read_and [] more e h = h
read_and (l ∷ ls) more e h =
    let first : line_at (line_text l) ≡ Some (l, []) = cc in
    let others : read ls ≡ themselves ls = cc in
    (read_alone l first, read_and ls more others h)

-- ---- the lines of the program

front_read : read load_front ≡ themselves load_front
unfolding line_at mnemonics mnemonic_of opcode_named digits
front_read = refl

back_read : read load_back ≡ themselves load_back
unfolding line_at mnemonics mnemonic_of opcode_named digits
back_read = refl

turn_read : read turn ≡ themselves turn
unfolding line_at mnemonics mnemonic_of opcode_named digits turn
turn_read = refl

count_read : (n : ℕ) → n < 2 ^ 31 → IsRead (ldc_int n)
unfolding mnemonics mnemonic_of opcode_named
count_read n small rest =
    printed (ldc_int n) rest (record { named = lit< tt; kind = refl; fits = record { sfits = omega arith } })

pub load_lines : (n : ℕ) → n < 2 ^ 31 → AllByRecursion IsRead (load n)
unfolding load
load_lines n small =
    read_and load_front (ldc_int n ∷ load_back) front_read (count_read n small, read_and load_back [] back_read tt)

pub turn_lines : AllByRecursion IsRead turn
unfolding turn
turn_lines = read_and turn [] turn_read tt
