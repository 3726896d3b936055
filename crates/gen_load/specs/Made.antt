-- The class file that lines of assembler text make.
use Rattle.std.specs.Prelude.{ℕ, List, [], ◌∷◌, Result, Ok, Err}
use Rattle.class_model.specs.declared.class_file.ClassFile.{ClassFile}
use Rattle.asm_text.specs.declared.line.Line.{Line}
use Rattle.asm_body.specs.Bodies.{◌then◌, or_line}
use Rattle.asm_class.specs.States.{State}
use Rattle.asm_class.specs.Stages.{after_line}
use Rattle.asm_class.specs.Ends.{start, finished, file_with, no_class}
use Rattle.jasm.specs.Texts.{Assembles, next_line}

-- what the lines from this one on make of the state, or the number of the first that doesn't fit
abbrev pub made_from : State → ℕ → List Line → Result ClassFile ℕ
made_from s line [] = or_line line (finished s)
made_from s line (l ∷ ls) = after_line line l s then λ t. made_from t (next_line line) ls

abbrev pub made : List Line → Result ClassFile ℕ
made ls = made_from start 1 ls

-- the class file that is made, or one without parts where a line doesn't fit
abbrev pub file_or_none : Result ClassFile ℕ → ClassFile
file_or_none (Ok file) = file
file_or_none (Err line) = file_with [] no_class

unfoldable pub class_file : List Line → ClassFile
class_file ls = file_or_none (made ls)

-- the text makes some class file
abbrev pub IsAssembled : List ℕ → Type 0
IsAssembled text = (file : ClassFile) × Assembles text (Ok file)
