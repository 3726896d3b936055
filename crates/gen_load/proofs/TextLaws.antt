-- The text of the class Load, part by part.
use Rattle.std.proofs.Common.{◌≡◌, ℕ, List, [], ◌∷◌, ◌++◌, refl, sym, ap, ◌∙◌, append_assoc}
use Rattle.std.proofs.lemmas.List.{append-nil}
use Rattle.std.specs.Prelude.{codes, decimal}
use Rattle.asm_text.specs.declared.line.Line.{Line}
use Rattle.asm_text.specs.LineText.{line_text}
use Rattle.asm_text.specs.Mnemonics.{mnemonics, mnemonic_of, opcode_named}
use Rattle.gen_load.specs.Words.{text_of, ldc_int}
use Rattle.gen_load.specs.Program.{load_front, load_back, load}

texts_append : (ls ks : List Line) → text_of (ls ++ ks) ≡ text_of ls ++ text_of ks
texts_append [] ks = refl
texts_append (l ∷ ls) ks =
    ap (λ t. line_text l ++ t) (texts_append ls ks) ∙ sym (append_assoc (line_text l) (text_of ls) (text_of ks))

count_text : (n : ℕ) → line_text (ldc_int n) ≡ codes "ldc int " ++ (decimal n ++ codes "\n")
unfolding mnemonics mnemonic_of opcode_named
count_text n = ap (λ d. codes "ldc int " ++ (d ++ codes "\n")) (append-nil (decimal n))

regrouped : (a b c d e : List ℕ) → a ++ ((b ++ (c ++ d)) ++ e) ≡ ((a ++ b) ++ c) ++ (d ++ e)
regrouped a b c d e =
    ap (λ t. a ++ t) (append_assoc b (c ++ d) e ∙ ap (λ t. b ++ t) (append_assoc c d e))
    ∙ sym (append_assoc a b (c ++ (d ++ e)))
    ∙ sym (append_assoc (a ++ b) c (d ++ e))

-- the text in front of the number, the number, and the text behind it
pub load_parts : (n : ℕ)
    → text_of (load n) ≡ ((text_of load_front ++ codes "ldc int ") ++ decimal n) ++ (codes "\n" ++ text_of load_back)
unfolding load
load_parts n =
    texts_append load_front (ldc_int n ∷ load_back)
    ∙ ap (λ t. text_of load_front ++ (t ++ text_of load_back)) (count_text n)
    ∙ regrouped (text_of load_front) (codes "ldc int ") (decimal n) (codes "\n") (text_of load_back)

-- texts that are put together so
pub together : (n : ℕ) (front back text : List ℕ)
    → front ≡ text_of load_front ++ codes "ldc int " → back ≡ codes "\n" ++ text_of load_back
    → text ≡ (front ++ decimal n) ++ back → text ≡ text_of (load n)
together n front back text f b e =
    e
    ∙ ap (λ t. (t ++ decimal n) ++ back) f
    ∙ ap (λ t. ((text_of load_front ++ codes "ldc int ") ++ decimal n) ++ t) b
    ∙ sym (load_parts n)
