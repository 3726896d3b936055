-- Laws of assembler text: it makes one thing at most.
use Rattle.std.proofs.Common.{◌≡◌, ℕ, ◌+◌, ◌<◌, List, ◌∷◌, length, Result, Ok, Err, refl, sym, ◌∙◌, ap, subst, arith, length-append}
use Rattle.class_model.specs.declared.class_file.ClassFile.{ClassFile}
use Rattle.asm_text.specs.declared.line.Line.{Line}
use Rattle.asm_text.specs.Spelling.{BeginsWith}
use Rattle.asm_text.proofs.SpellingLaws.{one_at_most}
use Rattle.asm_class.specs.States.{State}
use Rattle.asm_class.specs.Stages.{after_line}
use Rattle.jasm.specs.Texts.{Makes, next_line}
use Rattle.jasm.specs.Texts.Makes.{ended, unread, refused, goes_on}

-- a text that begins with a line is longer than the rest
pub longer : (text : List ℕ) (l : Line) (rest : List ℕ) → BeginsWith text l rest → length rest < length text
longer text l rest h =
    let e = ap length h.parts ∙ length-append h.bytes (10 ∷ rest) in
    let one : length (10 ∷ rest) ≡ length rest + 1 = omega arith in
    omega (arith, e, one)

-- the first line is the same, and so is what comes of it
same_step : (s : State) (line : ℕ) (text : List ℕ) (l k : Line) (rest more : List ℕ) (r q : Result State ℕ)
    → BeginsWith text l rest → BeginsWith text k more → after_line line l s ≡ r → after_line line k s ≡ q → r ≡ q
same_step s line text l k rest more r q b c e f =
    sym e ∙ ap (λ x. after_line line x s) (one_at_most text l k rest more b c).0 ∙ f

pub one_made : (s : State) (line : ℕ) (text : List ℕ) (made other : Result ClassFile ℕ)
    → Makes s line text made → Makes s line text other → made ≡ other
one_made s line text made other (ended _ _ _ _ n e) (ended _ _ _ _ m f) = e ∙ sym f
one_made s line text made other (ended _ _ _ _ n e) (unread _ _ _ some none) = absurd (omega arith)
one_made s line text made other (ended _ _ _ _ n e) (refused _ _ _ bad m) = let h = longer text m.said m.rest m.begins in absurd (omega arith)
one_made s line text made other (ended _ _ _ _ n e) (goes_on _ _ _ t rest _ g _) = let h = longer text g.said rest g.begins in absurd (omega arith)
one_made s line text made other (unread _ _ _ some none) (ended _ _ _ _ m f) = absurd (omega arith)
one_made s line text made other (unread _ _ _ some none) (unread _ _ _ _ _) = refl
one_made s line text made other (unread _ _ _ some none) (refused _ _ _ bad m) = absurd (none m.said m.rest m.begins)
one_made s line text made other (unread _ _ _ some none) (goes_on _ _ _ t rest _ g _) = absurd (none g.said rest g.begins)
one_made s line text made other (refused _ _ _ bad m) (ended _ _ _ _ n e) = let h = longer text m.said m.rest m.begins in absurd (omega arith)
one_made s line text made other (refused _ _ _ bad m) (unread _ _ _ some none) = absurd (none m.said m.rest m.begins)
one_made s line text made other (refused _ _ _ bad m) (refused _ _ _ worse n) =
    let e : Err bad ≡ Err worse = same_step s line text m.said n.said m.rest n.rest _ _ m.begins n.begins m.made n.made in cc
one_made s line text made other (refused _ _ _ bad m) (goes_on _ _ _ t rest _ g _) =
    let e : Err bad ≡ Ok t = same_step s line text m.said g.said m.rest rest _ _ m.begins g.begins m.made g.made in cc
one_made s line text made other (goes_on _ _ _ t rest _ g _) (ended _ _ _ _ n e) = let h = longer text g.said rest g.begins in absurd (omega arith)
one_made s line text made other (goes_on _ _ _ t rest _ g _) (unread _ _ _ some none) = absurd (none g.said rest g.begins)
one_made s line text made other (goes_on _ _ _ t rest _ g _) (refused _ _ _ bad m) =
    let e : Ok t ≡ Err bad = same_step s line text g.said m.said rest m.rest _ _ g.begins m.begins g.made m.made in cc
one_made s line text made other (goes_on _ _ _ t rest _ g a) (goes_on _ _ _ u more _ k b) =
    let e : Ok t ≡ Ok u = same_step s line text g.said k.said rest more _ _ g.begins k.begins g.made k.made in
    let states : t ≡ u = cc in
    let rests : rest ≡ more = (one_at_most text g.said k.said rest more g.begins k.begins).1 in
    one_made u (next_line line) more made other (subst (λ (x : List ℕ). Makes u (next_line line) x made) rests (subst (λ (x : State). Makes x (next_line line) rest made) states a)) b
