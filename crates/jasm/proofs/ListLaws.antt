-- A text is assembled to one class file at most.
use Rattle.std.proofs.Common.{◌≡◌, ◌≢◌, ℕ, List, Ok, Err, subst}
use Rattle.class_model.specs.declared.class_file.ClassFile.{ClassFile}
use Rattle.asm_class.specs.Ends.{start}
use Rattle.jasm.specs.declared.error.TextError.{TextError}
use Rattle.jasm.specs.declared.error.TextError.TheVariants as errors
use Rattle.jasm.specs.Texts.{Assembles, Answers}
use Rattle.jasm.proofs.TextLaws.{one_made}

pub makes_same : (text : List ℕ) (made file : ClassFile) → Assembles text (Ok made) → made ≡ file → Assembles text (Ok file)
makes_same text made file h e = subst (λ (f : ClassFile). Assembles text (Ok f)) e h

pub makes_other : (text : List ℕ) (made file : ClassFile) → Assembles text (Ok made) → made ≢ file → Assembles text (Ok file) → ⊥
makes_other text made file h n m =
    let e : Ok made ≡ Ok file = one_made start 1 text _ _ h m in
    let same : made ≡ file = cc in
    n same

pub makes_none : (text : List ℕ) (line : ℕ) (file : ClassFile) → Assembles text (Err line) → Assembles text (Ok file) → ⊥
makes_none text line file h m =
    let e : Err line ≡ Ok file = one_made start 1 text _ _ h m in cc

-- the answer for a line that doesn't fit
pub bad_answer : (e : TextError) (line : ℕ) (text same : List ℕ) → Answers (Err e) text → e ≡ errors.Bad line → text ≡ same → Assembles same (Err line)
bad_answer e line text same h p q = subst (λ (t : List ℕ). Assembles t (Err line)) q (subst (λ (x : TextError). Answers (Err x) text) p h)
