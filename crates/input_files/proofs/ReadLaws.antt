-- What was read of a file is its contents in the store.
use Rattle.std.proofs.Common.{◌≡◌, ℕ, ◌<◌, ◌≤◌, ◌⊎◌, inl, inr, List, length, take, Option, Some, None, Result, Ok, Err, refl, sym, ap, subst, ◌∙◌, arith}
use Rattle.std.specs.Prelude.{IfOk, IfErr, IfSome, min}
use Rattle.std.proofs.lemmas.List.{length-take, take_all}
use Rattle.std.proofs.lemmas.Option.{same_Some}
use Rattle.jvm_edges.specs.Files.{Files, file_named, first_bytes}
use Rattle.class_model.specs.declared.class_file.ClassFile.{ClassFile}
use Rattle.class_grammar.specs.Grammar.{SpellsOnly}
use Rattle.input_files.specs.declared.error.LoadError.{LoadError}
use Rattle.input_files.specs.declared.error.LoadError.TheVariants.{Missing, TooLarge, NoMemory}
use Rattle.input_files.specs.declared.error.LoadError.TheVariants as load
use Rattle.class_grammar.specs.declared.class_why.ClassWhy.{ClassWhy}
use Rattle.input_files.specs.Limits.{most_bytes}
use Rattle.input_files.specs.Errors.{load_answer, loaded_answer}
use Rattle.input_files.specs.Contents.{Contents, HasContents, IsBad, IsClass, IsWrong}
use Rattle.input_files.specs.LoadCauses.{IsRead, IsWrongFile, NotRead}
use Rattle.input_files.specs.StoreFaults.{StoreFaults}

abbrev no_file : Contents
no_file = None

pub missing_is : (known : Option Files) (n : ℕ) (name : List ℕ) → IfSome known (λ files. no_file ≡ first_bytes 4194305 (file_named name files)) → IsWrongFile known n name (Missing n)
missing_is known n name found = record { contents = None; holds = by_told known found; wrong = refl }
  where
    by_file : (file : Contents) → no_file ≡ first_bytes 4194305 file → no_file ≡ file
    by_file None e = refl
    by_file (Some file) e = absurd cc

    by_told : (known : Option Files) → IfSome known (λ files. no_file ≡ first_bytes 4194305 (file_named name files)) → HasContents known name None
    by_told None found = tt
    by_told (Some files) found = by_file (file_named name files) found

pub large_is : (known : Option Files) (n : ℕ) (name bytes : List ℕ) → IfSome known (λ files. Some bytes ≡ first_bytes 4194305 (file_named name files)) → most_bytes < length bytes
    → IsWrongFile known n name TooLarge
large_is None n name bytes found large = record { contents = Some bytes; holds = tt; wrong = inl (large, refl) }
large_is (Some files) n name bytes found large = by_file (file_named name files) refl found
  where
    by_file : (file : Contents) → file_named name files ≡ file → Some bytes ≡ first_bytes 4194305 file → IsWrongFile (Some files) n name TooLarge
    by_file None is e = absurd cc
    by_file (Some file) is e =
        let size : length bytes ≡ min 4194305 (length file) = ap length (same_Some bytes (take 4194305 file) e) ∙ length-take 4194305 file in
        record { contents = Some file; holds = sym is; wrong = inl (omega (arith, size), refl) }

-- a file of which fewer bytes were read than were asked for was read whole
pub whole_is : (known : Option Files) (name bytes : List ℕ) → IfSome known (λ files. Some bytes ≡ first_bytes 4194305 (file_named name files)) → length bytes ≤ most_bytes → HasContents known name (Some bytes)
whole_is None name bytes found small = tt
whole_is (Some files) name bytes found small = by_file (file_named name files) found
  where
    by_file : (file : Contents) → Some bytes ≡ first_bytes 4194305 file → Some bytes ≡ file
    by_file None e = absurd cc
    by_file (Some file) e =
        let front = same_Some bytes (take 4194305 file) e in
        let size : length bytes ≡ min 4194305 (length file) = ap length front ∙ length-take 4194305 file in
        ap (λ (b : List ℕ). Some b) (front ∙ take_all 4194305 file (omega (arith, size)))

pub read_is : (known : Option Files) (name bytes : List ℕ) (r : Result ClassFile LoadError) → length bytes ≤ most_bytes → HasContents known name (Some bytes) → IfOk r (SpellsOnly bytes) → IfOk r (IsRead known name)
read_is known name bytes (Ok f) small holds spells = record { contents = Some bytes; holds = holds; class = (small, spells.spelled); only = λ g is. spells.only g is.1 }
read_is known name bytes (Err why) small holds spells = tt

bad_is : (known : Option Files) (faulty : Type 0) (n : ℕ) (name bytes : List ℕ) (error : LoadError) → HasContents known name (Some bytes) → IsBad n bytes error → NotRead known faulty n name error
bad_is known faulty n name bytes error holds bad =
    subst (λ (e : LoadError). NotRead known faulty n name e) (sym bad.is_error)
    (record { contents = Some bytes; holds = holds; wrong = inr (record { at = bad.at; reason = bad.reason; small = bad.small; none = bad.none; first = bad.first; is_error = refl }) })

pub not_read_is : (known : Option Files) (faulty : Type 0) (n : ℕ) (name bytes : List ℕ) (r : Result ClassFile LoadError) → HasContents known name (Some bytes) → IfErr r (λ error. (error ≡ NoMemory) ⊎ IsBad n bytes error)
    → IfErr r (NotRead known faulty n name)
not_read_is known faulty n name bytes (Ok f) holds bad = tt
not_read_is known faulty n name bytes (Err error) holds bad = elim bad [
  | inl e ↦ subst (λ (e : LoadError). NotRead known faulty n name e) (sym e) tt
  | inr b ↦ bad_is known faulty n name bytes error holds b
]

-- an error of the bytes alone comes after no fault of the store
pub class_faults : (n : ℕ) (bytes : List ℕ) (r : Result ClassFile LoadError) (before now : ℕ) → now ≡ before → IfErr r (λ error. (error ≡ NoMemory) ⊎ IsBad n bytes error) → StoreFaults (loaded_answer r) before now
class_faults n bytes (Ok f) before now kept bad = kept
class_faults n bytes (Err error) before now kept bad = elim bad [
  | inl e ↦ subst (λ (e : LoadError). StoreFaults (load_answer e) before now) (sym e) tt
  | inr b ↦ subst (λ (e : LoadError). StoreFaults (load_answer e) before now) (sym b.is_error) kept
]

-- ---- a wrong file has one error, and is no class file

pub one_bad : (n : ℕ) (bytes : List ℕ) (a b : LoadError) → IsBad n bytes a → IsBad n bytes b → a ≡ b
one_bad n bytes a b x y =
    let same : Some (x.at, x.reason) ≡ Some (y.at, y.reason) = sym x.first ∙ y.first in
    x.is_error ∙ ap (λ (o : Option (ℕ × ClassWhy)). of o) same ∙ sym y.is_error
  where
    of : Option (ℕ × ClassWhy) → LoadError
    of None = load.NoMemory
    of (Some p) = load.BadClass n p.0 p.1

pub one_wrong_here : (n : ℕ) (contents : Contents) (a b : LoadError) → IsWrong n contents a → IsWrong n contents b → a ≡ b
one_wrong_here n None a b x y = x ∙ sym y
one_wrong_here n (Some bytes) a b (inl x) (inl y) = x.1 ∙ sym y.1
one_wrong_here n (Some bytes) a b (inl x) (inr y) = absurd (omega (arith, x.0, y.small))
one_wrong_here n (Some bytes) a b (inr x) (inl y) = absurd (omega (arith, x.small, y.0))
one_wrong_here n (Some bytes) a b (inr x) (inr y) = one_bad n bytes a b x y

pub wrong_or_class : (n : ℕ) (contents : Contents) (a : LoadError) (f : ClassFile) → IsWrong n contents a → IsClass contents f → ⊥
wrong_or_class n None a f x is = is
wrong_or_class n (Some bytes) a f (inl x) is = omega (arith, x.0, is.0)
wrong_or_class n (Some bytes) a f (inr x) is = x.none f is.1
