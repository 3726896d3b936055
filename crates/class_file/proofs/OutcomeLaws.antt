-- What the readers of a whole file give: the value that the bytes spell, or the first check that fails.
use Rattle.std.proofs.Common.{◌≡◌, ℕ, ◌<◌, List, length, get_or, Option, Some, None, Result, Ok, Err, refl, sym, ap, ◌∙◌}
use Rattle.byte_reader.specs.declared.fault.Fault.{Fault}
use Rattle.byte_reader.proofs.ReaderLaws.{ok_is, ok_of}
use Rattle.class_model.specs.declared.class_file.ClassFile.{ClassFile}
use Rattle.class_grammar.specs.declared.class_why.ClassWhy.{ClassWhy}
use Rattle.class_grammar.specs.Checks.{first_fault}
use Rattle.class_grammar.specs.Grammar.{Spells}
use Rattle.class_file.specs.File.{layout_of, unless_fault, file_of, refusal_of, first_bad}
use Rattle.class_file.proofs.SoundLaws.{first_fault-sound, is_sound}
use Rattle.class_file.proofs.FileLaws.{layout_takes, layout_again}

nothing_wrong : (f g : ClassFile) (fault : Option (Fault ClassWhy)) → unless_fault f fault ≡ Ok g → (f ≡ g) × (fault ≡ None)
nothing_wrong f g None e = (ok_is f g e, refl)
nothing_wrong f g (Some fault) e = absurd cc

pub is_spelled : (bytes : List ℕ) (f : ClassFile) → ((i : ℕ) → get_or bytes i 0 < 256) → file_of bytes ≡ Ok f → Spells bytes f
unfolding file_of
is_spelled bytes f fits e =
    let a = ok_of (layout_of bytes) (λ g. unless_fault g (first_fault (length bytes) g)) f e in
    let n = nothing_wrong a.0 f (first_fault (length bytes) a.0) a.2 in
    let q = layout_takes bytes f fits (a.1 ∙ ap (λ (g : ClassFile). Ok g) n.0) in
    record { layout = q.layout; range = q.range; by_name = q.by_name; sound = is_sound (length bytes) f (ap (first_fault (length bytes)) (sym n.0) ∙ n.1) }

pub is_read : (bytes : List ℕ) (f : ClassFile) → Spells bytes f → file_of bytes ≡ Ok f
unfolding file_of
is_read bytes f s =
    let read : layout_of bytes ≡ Ok f = layout_again bytes f (record { layout = s.layout; range = s.range; by_name = s.by_name }) in
    rw (read, first_fault-sound (length bytes) f s.sound) refl

-- ---- what the calls and the laws cite

pub same_value : (bytes : List ℕ) (g f : ClassFile) → file_of bytes ≡ Ok g → Spells bytes f → g ≡ f
same_value bytes g f e s = ok_is g f (sym e ∙ is_read bytes f s)

pub not_spelled : (bytes : List ℕ) (fault : Fault ClassWhy) (f : ClassFile) → file_of bytes ≡ Err fault → Spells bytes f → ⊥
not_spelled bytes fault f e s = let both : Err fault ≡ Ok f = sym e ∙ is_read bytes f s in absurd cc

pub one_value : (bytes : List ℕ) (f g : ClassFile) → Spells bytes f → Spells bytes g → f ≡ g
one_value bytes f g h k = same_value bytes f g (is_read bytes f h) k

pub none_bad : (bytes : List ℕ) (f : ClassFile) → Spells bytes f → first_bad bytes ≡ None
none_bad bytes f s = ap (refusal_of (length bytes)) (is_read bytes f s)

pub some_spelled : (bytes : List ℕ) → ((i : ℕ) → get_or bytes i 0 < 256) → first_bad bytes ≡ None → (f : ClassFile) × Spells bytes f
some_spelled bytes fits e = by (file_of bytes) refl e
  where
    by : (r : Result ClassFile (Fault ClassWhy)) → file_of bytes ≡ r → refusal_of (length bytes) r ≡ None → (f : ClassFile) × Spells bytes f
    by (Ok f) read none = (f, is_spelled bytes f fits read)
    by (Err fault) read none = absurd cc
