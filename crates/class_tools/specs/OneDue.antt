-- At most one thing is due by the bytes of a file: the proofs that the trait `Conversion` asks for. They stand here
-- since an `impl` can't cite `proofs/`.
use Rattle.std.proofs.Common.{◌≡◌, ℕ, List, Result, Ok, Err, refl, sym, ap, subst, ◌∙◌}
use Rattle.std.specs.Prelude.{IfOk, IfErr}
use Rattle.std.proofs.lemmas.Option.{same_Some}
use Rattle.class_model.specs.declared.class_file.ClassFile.{ClassFile}
use Rattle.class_grammar.specs.Layout.{class_file}
use Rattle.class_file.proofs.OutcomeLaws.{one_value}
use Rattle.jasm.specs.Texts.{Assembles}
use Rattle.class_listing.specs.Listing.{listing}
use Rattle.jasm.specs.Lists.{IsUnlisted}
use Rattle.jasm.proofs.TextLaws.{one_made}
use Rattle.command_line.specs.declared.answer.Why.TheVariants.{BadClass, BadText, Unlisted}
use Rattle.input_files.specs.declared.error.LoadError.{LoadError}
use Rattle.input_files.specs.declared.error.LoadError.TheVariants as load
use Rattle.input_files.specs.Errors.{load_answer}
use Rattle.input_files.proofs.ReadLaws.{one_bad}
use Rattle.class_tools.specs.Due.{Due, writes, answered, IsAssembly, IsListing}

-- ---- what a text makes

one_answer : (text : List ℕ) (made other : Result ClassFile ℕ) → Assembles text made → Assembles text other → made ≡ other
one_answer text made other = one_made _ _ text made other

one_file : (text : List ℕ) (f g : ClassFile) → Assembles text (Ok f) → Assembles text (Ok g) → f ≡ g
one_file text f g x y = subst (λ (r : Result ClassFile ℕ). IfOk r (λ h. f ≡ h)) (one_answer text (Ok f) (Ok g) x y) refl

one_line : (text : List ℕ) (m n : ℕ) → Assembles text (Err m) → Assembles text (Err n) → m ≡ n
one_line text m n x y = subst (λ (r : Result ClassFile ℕ). IfErr r (λ k. m ≡ k)) (one_answer text (Err m) (Err n) x y) refl

file_or_line : (text : List ℕ) (f : ClassFile) (n : ℕ) → Assembles text (Ok f) → Assembles text (Err n) → ⊥
file_or_line text f n x y = subst (λ (r : Result ClassFile ℕ). IfErr r (λ k. ⊥)) (one_answer text (Ok f) (Err n) x y) tt

pub one_assembly : (text : List ℕ) (a b : Due) → IsAssembly text a → IsAssembly text b → a ≡ b
one_assembly text (writes p) (writes q) x y =
    ap writes (x.2.spelled.layout ∙ ap class_file (one_file text x.0 y.0 x.1 y.1) ∙ sym y.2.spelled.layout)
one_assembly text (writes p) (answered (BadText line)) x y = absurd (file_or_line text x.0 line x.1 y)
one_assembly text (writes p) (answered b) x y = absurd y
one_assembly text (answered (BadText line)) (writes q) x y = absurd (file_or_line text y.0 line y.1 x)
one_assembly text (answered (BadText line)) (answered (BadText other)) x y = ap (λ (n : ℕ). answered (BadText n)) (one_line text line other x y)
one_assembly text (answered (BadText line)) (answered b) x y = absurd y
one_assembly text (answered a) b x y = absurd x

-- ---- what bytes make

pub one_listing : (bytes : List ℕ) (a b : Due) → IsListing bytes a → IsListing bytes b → a ≡ b
one_listing bytes (writes p) (writes q) x y =
    ap writes (same_Some p q (sym x.2 ∙ ap listing (one_value bytes x.0 y.0 x.1 y.1) ∙ y.2))
one_listing bytes (writes p) (answered (BadClass file at why)) x y = absurd (y.none x.0 x.1)
one_listing bytes (writes p) (answered (Unlisted file)) x y =
    absurd (subst IsUnlisted (one_value bytes y.1.0 x.0 y.1.1 x.1) y.1.2 p x.2 x.3)
one_listing bytes (writes p) (answered b) x y = absurd y
one_listing bytes (answered (BadClass file at why)) (writes q) x y = absurd (x.none y.0 y.1)
one_listing bytes (answered (BadClass file at why)) (answered (BadClass other place reason)) x y =
    ap (λ (e : LoadError). answered (load_answer e)) (one_bad 0 bytes (load.BadClass file at why) (load.BadClass other place reason) x y)
one_listing bytes (answered (BadClass file at why)) (answered (Unlisted other)) x y = absurd (x.none y.1.0 y.1.1)
one_listing bytes (answered (BadClass file at why)) (answered b) x y = absurd y
one_listing bytes (answered (Unlisted file)) (writes q) x y =
    absurd (subst IsUnlisted (one_value bytes x.1.0 y.0 x.1.1 y.1) x.1.2 q y.2 y.3)
one_listing bytes (answered (Unlisted file)) (answered (BadClass other place reason)) x y = absurd (y.none x.1.0 x.1.1)
one_listing bytes (answered (Unlisted file)) (answered (Unlisted other)) x y = ap (λ (n : ℕ). answered (Unlisted n)) (x.0 ∙ sym y.0)
one_listing bytes (answered (Unlisted file)) (answered b) x y = absurd y
one_listing bytes (answered a) b x y = absurd x
