-- What lines make is what their text is assembled to.
use Rattle.std.proofs.Common.{◌≡◌, ℕ, ◌<◌, ◌^◌, true, List, [], ◌∷◌, Result, Ok, Err, is_ok, IfOk, refl, sym, subst}
use Rattle.std.specs.List.{AllByRecursion}
use Rattle.class_model.specs.declared.class_file.ClassFile.{ClassFile}
use Rattle.asm_text.specs.declared.line.Line.{Line}
use Rattle.asm_text.specs.Mnemonics.{mnemonics, mnemonic_of, opcode_named}
use Rattle.asm_pool.specs.Mentions.{mentioned, field, method, interface_method}
use Rattle.asm_body.specs.Bodies.{◌then◌}
use Rattle.asm_class.specs.States.{State}
use Rattle.asm_class.specs.Stages.{after_line}
use Rattle.asm_class.specs.Ends.{start}
use Rattle.jasm.specs.Texts.{Makes, Assembles, Answers, next_line}
use Rattle.jasm.specs.Texts.Makes.{ended, refused, goes_on}
use Rattle.jasm.specs.declared.error.TextError.{TextError}
use Rattle.jasm.specs.declared.error.TextError.TheVariants as errors
use Rattle.jasm.proofs.TextLaws.{one_made}
use Rattle.gen_load.specs.Words.{text_of}
use Rattle.gen_load.specs.Made.{made_from, made, file_or_none, class_file, IsAssembled}
use Rattle.gen_load.specs.Program.{load, turn, program}
use Rattle.gen_load.proofs.Reading.{IsRead, load_lines, turn_lines}

-- one line, and then those behind it
step : (s : State) (line : ℕ) (l : Line) (ls : List Line) (r : Result State ℕ)
    → after_line line l s ≡ r → IsRead l
    → ((t : State) → Makes t (next_line line) (text_of ls) (made_from t (next_line line) ls))
    → Makes s line (text_of (l ∷ ls)) (r then λ t. made_from t (next_line line) ls)
step s line l ls (Ok t) e read others =
    goes_on s line (text_of (l ∷ ls)) t (text_of ls) (made_from t (next_line line) ls)
    (record { said = l; begins = read (text_of ls); made = e }) (others t)
step s line l ls (Err bad) e read others =
    refused s line (text_of (l ∷ ls)) bad
    (record { said = l; rest = text_of ls; begins = read (text_of ls); made = e })

text_makes : (s : State) (line : ℕ) (ls : List Line)
    → AllByRecursion IsRead ls → Makes s line (text_of ls) (made_from s line ls)
text_makes s line [] read = ended s line [] (made_from s line []) refl refl
text_makes s line (l ∷ ls) read =
    step s line l ls (after_line line l s) refl read.0 (λ t. text_makes t (next_line line) ls read.1)

-- ---- no line of the program is refused

made_is : (r : Result ClassFile ℕ) → is_ok r ≡ true → r ≡ Ok (file_or_none r)
made_is (Ok file) e = refl
made_is (Err line) e = absurd cc

load_fits : (n : ℕ) → is_ok (made (load n)) ≡ true
unfolding mnemonics mnemonic_of opcode_named mentioned field method interface_method load
load_fits n = refl

turn_fits : is_ok (made turn) ≡ true
unfolding mnemonics mnemonic_of opcode_named mentioned field method interface_method turn
turn_fits = refl

pub load_made : (n : ℕ) → made (load n) ≡ Ok (class_file (load n))
unfolding class_file
load_made n = made_is (made (load n)) (load_fits n)

pub turn_made : made turn ≡ Ok (class_file turn)
unfolding class_file
turn_made = made_is (made turn) turn_fits

pub load_assembles : (n : ℕ) → n < 2 ^ 31 → Assembles (text_of (load n)) (Ok (class_file (load n)))
load_assembles n small =
    subst (λ r. Assembles (text_of (load n)) r) (load_made n) (text_makes start 1 (load n) (load_lines n small))

pub turn_assembles : Assembles (text_of turn) (Ok (class_file turn))
turn_assembles = subst (λ r. Assembles (text_of turn) r) turn_made (text_makes start 1 turn turn_lines)

-- ---- what the calls give

abbrev ok : ClassFile → Result ClassFile ℕ
ok file = Ok file

abbrev bad : ℕ → Result ClassFile ℕ
bad line = Err line

-- a text that makes a class file isn't refused
pub not_refused : (text : List ℕ) (r : Result ClassFile TextError) (e : TextError) (line : ℕ)
    → r ≡ Err e → e ≡ errors.Bad line → Answers r text → IsAssembled text → ⊥
not_refused text r e line is which answers made =
    let refused : Assembles text (bad line) = subst (λ x. Answers (Err x) text) which (subst (λ x. Answers x text) is answers) in
    let same : ok made.0 ≡ bad line = one_made start 1 text (ok made.0) (bad line) made.1 refused in
    cc

-- a text that is another makes what that makes
pub assembled_as : (text other : List ℕ) (f : ClassFile) → Assembles other (Ok f) → text ≡ other → IsAssembled text
assembled_as text other f made e = (f, subst (λ t. Assembles t (Ok f)) (sym e) made)

pub file_is : {E : Type 0} (r : Result ClassFile E) (text other : List ℕ) (f : ClassFile)
    → Assembles other (Ok f) → text ≡ other → IfOk r (λ file. Assembles text (Ok file)) → IfOk r (λ file. file ≡ f)
file_is (Ok file) text other f made e h =
    let same : ok file ≡ ok f = one_made start 1 text (ok file) (ok f) h (subst (λ t. Assembles t (Ok f)) (sym e) made) in
    cc
file_is (Err x) text other f made e h = tt

-- its two class files are the program
pub is_program : (n : ℕ) (files : List ClassFile) → files ≡ class_file (load n) ∷ class_file turn ∷ [] → files ≡ program n
unfolding program
is_program n files e = e
