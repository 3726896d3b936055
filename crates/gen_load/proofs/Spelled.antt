-- The classes of the program have bytes.
use Rattle.std.proofs.Common.{◌≡◌, ℕ, zero, suc, ◌<◌, ◌≤◌, ◌^◌, List, [], ◌∷◌, ◌++◌, Ok, All, sym, ap, ◌∙◌, subst, arith}
use Rattle.class_model.specs.declared.class_file.ClassFile.{ClassFile}
use Rattle.class_grammar.specs.Layout.{class_file as bytes_of}
use Rattle.jasm.specs.Texts.{Assembles}
use Rattle.asm_soundness.proofs.LineLaws.{assembled_is_spelled}
use Rattle.lib_table.specs.Spelled.{IsSpelled}
use Rattle.gen_load.specs.Words.{text_of}
use Rattle.gen_load.specs.Made.{class_file}
use Rattle.gen_load.specs.Program.{load, turn, program}
use Rattle.gen_load.proofs.Making.{load_assembles, turn_assembles}

spelled : (text : List ℕ) (f : ClassFile) → Assembles text (Ok f) → IsSpelled f
spelled text f made = (bytes_of f, assembled_is_spelled text f made)

pub program_spelled : (n : ℕ) → n < 2 ^ 31 → All IsSpelled (program n)
unfolding program
program_spelled n small zero d below = spelled (text_of (load n)) (class_file (load n)) (load_assembles n small)
program_spelled n small (suc zero) d below = spelled (text_of turn) (class_file turn) turn_assembles
program_spelled n small (suc (suc k)) d below = absurd (omega arith)

pub all_spelled : (n : ℕ) (files : List ClassFile)
    → n ≤ 50000 → files ≡ class_file (load n) ∷ class_file turn ∷ [] → All IsSpelled files
unfolding program
all_spelled n files limit e = subst (λ fs. All IsSpelled fs) (sym e) (program_spelled n (omega arith))

-- two class files that were put behind none
pub both_spelled : (n : ℕ) (none one two : List ClassFile) (a b : ClassFile)
    → n ≤ 50000 → none ≡ [] → one ≡ none ++ a ∷ [] → two ≡ one ++ b ∷ []
    → a ≡ class_file (load n) → b ≡ class_file turn → All IsSpelled two
both_spelled n none one two a b limit e f g first second =
    all_spelled n two limit
    (g
    ∙ ap (λ (fs : List ClassFile). fs ++ b ∷ []) (f ∙ ap (λ (fs : List ClassFile). fs ++ a ∷ []) e)
    ∙ ap (λ (x : ClassFile). x ∷ b ∷ []) first
    ∙ ap (λ (y : ClassFile). class_file (load n) ∷ y ∷ []) second)
