-- From what was read and what was made of it to the cause of the answer.
use Rattle.std.proofs.Common.{◌≡◌, ℕ, ◌≤◌, ◌⊎◌, inl, inr, List, length, Option, Some, None, Result, Ok, Err, refl, sym, ap, subst, ◌∙◌, arith}
use Rattle.std.specs.Prelude.{IfOk, IfErr, IsErrAnd}
use Rattle.std.specs.Global.{Vec}
use Rattle.jvm_edges.specs.Files.{Files, file_named}
use Rattle.command_line.specs.declared.answer.Which.TheVariants.{FileSize}
use Rattle.command_line.specs.declared.answer.Why.{Why}
use Rattle.command_line.specs.declared.answer.Why.TheVariants.{Limit, Missing, SourceFault, BadClass, BadText, Unlisted, NoMemory}
use Rattle.jasm.specs.Texts.{Answers}
use Rattle.jasm.specs.declared.error.TextError.{TextError}
use Rattle.jasm.specs.declared.error.TextError.TheVariants as errors
use Rattle.input_files.specs.declared.error.LoadError.{LoadError}
use Rattle.input_files.specs.declared.error.LoadError.TheVariants as load
use Rattle.input_files.specs.Limits.{most_bytes}
use Rattle.input_files.specs.Contents.{Contents, HasContents, IsBad, IsWrong}
use Rattle.input_files.specs.Errors.{IsOfStore, load_answer}
use Rattle.input_files.specs.LoadCauses.{IsWrongFile, NotRead}
use Rattle.input_files.specs.StoreFaults.{StoreFaults}
use Rattle.class_tools.specs.Due.{Due, writes, answered, IsAssembly, IsDue, IsListing}
use Rattle.class_tools.specs.Exact.{HasCause, IsCaused, IsDueOrFault, IsExact, IsRefusal}
use Rattle.class_tools.specs.Making.{IsOfBytes, Makes, text_answer}

-- ---- the answers that nothing is written with

pub load_refusal : (error : LoadError) → IsRefusal (load_answer error)
load_refusal (load.Missing file) = tt
load_refusal (load.SourceFault file) = tt
load_refusal load.TooLarge = tt
load_refusal (load.BadClass file at why) = tt
load_refusal load.NoMemory = tt

pub bytes_refusal : (why : Why) → IsOfBytes why → IsRefusal why
bytes_refusal (BadClass file at why) of = tt
bytes_refusal (BadText line) of = tt
bytes_refusal (Unlisted file) of = tt
bytes_refusal NoMemory of = tt
bytes_refusal why of = absurd of

pub bytes_faults : (why : Why) (before now : ℕ) → now ≡ before → IsOfBytes why → StoreFaults why before now
bytes_faults (BadClass file at why) before now kept of = kept
bytes_faults (BadText line) before now kept of = kept
bytes_faults (Unlisted file) before now kept of = kept
bytes_faults NoMemory before now kept of = tt
bytes_faults why before now kept of = absurd of

-- a fact of each error
pub each_err : {A : Type 0} (r : Result A Why) (P Q : Why → Type 0) → ((why : Why) → P why → Q why) → IfErr r P → IfErr r Q
each_err (Ok x) P Q by p = tt
each_err (Err why) P Q by p = by why p

-- what a `?` answers
pub answer_is : {A : Type 0} (r : Result A Why) (why : Why) (P : Why → Type 0) → IsErrAnd r (λ e. e ≡ why) → P why → IfErr r P
answer_is (Ok x) why P is p = absurd is
answer_is (Err e) why P is p = subst P (sym is) p

-- ---- a text that is not assembled

pub text_makes : (text : List ℕ) (error : TextError) → Answers (Err error) text → Makes IsAssembly text (Err (text_answer error))
text_makes text (errors.Bad line) x = x
text_makes text errors.NoMemory x = tt

pub text_kind : (error : TextError) → IsOfBytes (text_answer error)
text_kind (errors.Bad line) = tt
text_kind errors.NoMemory = tt

-- ---- bytes that are no class file

pub bad_makes : (bytes : List ℕ) (r : Result (Vec ℕ) Why) (error : LoadError) → IsErrAnd r (λ e. e ≡ load_answer error) → (error ≡ load.NoMemory) ⊎ IsBad 0 bytes error → Makes IsListing bytes r
bad_makes bytes (Ok v) error is bad = absurd is
bad_makes bytes (Err why) error is (inl e) = subst (λ (w : Why). Makes IsListing bytes (Err w)) (sym (is ∙ ap load_answer e)) tt
bad_makes bytes (Err why) error is (inr b) =
    subst (λ (w : Why). Makes IsListing bytes (Err w)) (sym (is ∙ ap load_answer b.is_error))
    (record { at = b.at; reason = b.reason; small = b.small; none = b.none; first = b.first; is_error = refl })

pub bad_kind : (bytes : List ℕ) (r : Result (Vec ℕ) Why) (error : LoadError) → IsErrAnd r (λ e. e ≡ load_answer error) → (error ≡ load.NoMemory) ⊎ IsBad 0 bytes error → IfErr r IsOfBytes
bad_kind bytes (Ok v) error is bad = absurd is
bad_kind bytes (Err why) error is (inl e) = subst IsOfBytes (sym (is ∙ ap load_answer e)) tt
bad_kind bytes (Err why) error is (inr b) = subst IsOfBytes (sym (is ∙ ap load_answer b.is_error)) tt

-- ---- at most one thing is due

pub one_due : (of : List ℕ → Due → Type 0) → ((bytes : List ℕ) (a b : Due) → of bytes a → of bytes b → a ≡ b)
    → (contents : Contents) (a b : Due) → IsDue of contents a → IsDue of contents b → a ≡ b
one_due of one None a b x y = x ∙ sym y
one_due of one (Some bytes) a b (inl x) (inl y) = x.1 ∙ sym y.1
one_due of one (Some bytes) a b (inl x) (inr y) = absurd (omega (arith, x.0, y.0))
one_due of one (Some bytes) a b (inr x) (inl y) = absurd (omega (arith, x.0, y.0))
one_due of one (Some bytes) a b (inr x) (inr y) = one bytes a b x.1 y.1

-- ---- causes

module _ (of : List ℕ → Due → Type 0) (one : (bytes : List ℕ) (a b : Due) → of bytes a → of bytes b → a ≡ b) where
  -- where the files are known, nothing else is due
  only_due : (known : Option Files) (name : List ℕ) (what other : Due) (files : Files) → HasCause of known name what → known ≡ Some files → IsDue of (file_named name files) other → other ≡ what
  only_due known name what other files x is it =
      let same : x.contents ≡ file_named name files = subst (λ (t : Option Files). HasContents t name x.contents) is x.holds in
      one_due of one (file_named name files) other what it (subst (λ (c : Contents). IsDue of c what) same x.due)

  pub exact_is : (known : Option Files) (faulty : Type 0) (name : List ℕ) (what : Due) (why : Why) → HasCause of known name what → IsDueOrFault what why → IsCaused of known faulty name why → IsExact of known faulty name why
  exact_is known faulty name what why x fits caused = record {
    cause = caused;
    due = λ files other is it. subst (λ (d : Due). IsDueOrFault d why) (sym (only_due known name what other files x is it)) fits;
  }

  pub memory_exact : (known : Option Files) (faulty : Type 0) (name : List ℕ) → IsExact of known faulty name NoMemory
  memory_exact known faulty name = record { cause = tt; due = λ files other is it. tt }

  -- ---- a file that was not read

  unread_due : (contents : Contents) (error : LoadError) → IsWrong 0 contents error → IsOfStore error → IsDue of contents (answered (load_answer error))
  unread_due None error wrong kind = ap (λ (e : LoadError). answered (load_answer e)) wrong
  unread_due (Some bytes) error (inl x) kind = inl (x.0, ap (λ (e : LoadError). answered (load_answer e)) x.1)
  unread_due (Some bytes) error (inr x) kind = absurd (subst IsOfStore x.is_error kind)

  unread_cause : (known : Option Files) (name : List ℕ) (error : LoadError) → IsWrongFile known 0 name error → IsOfStore error → HasCause of known name (answered (load_answer error))
  unread_cause known name error x kind = record { contents = x.contents; holds = x.holds; due = unread_due x.contents error x.wrong kind }

  pub unread_exact : (known : Option Files) (faulty : Type 0) (name : List ℕ) (error : LoadError) → NotRead known faulty 0 name error → IsOfStore error → IsExact of known faulty name (load_answer error)
  unread_exact known faulty name (load.Missing file) x kind =
      let cause = unread_cause known name (load.Missing file) x kind in exact_is known faulty name (answered (Missing file)) (Missing file) cause refl cause
  unread_exact known faulty name (load.SourceFault file) x kind = record { cause = x; due = λ files other is it. tt }
  unread_exact known faulty name load.TooLarge x kind =
      let cause = unread_cause known name load.TooLarge x kind in exact_is known faulty name (answered (Limit FileSize most_bytes)) (Limit FileSize most_bytes) cause refl cause
  unread_exact known faulty name (load.BadClass file at why) x kind = absurd kind
  unread_exact known faulty name load.NoMemory x kind = memory_exact known faulty name

-- ---- what was made of a file's bytes

module _ (of : List ℕ → Due → Type 0) (one : (bytes : List ℕ) (a b : Due) → of bytes a → of bytes b → a ≡ b)
    (known : Option Files) (faulty : Type 0) (name bytes : List ℕ) (small : length bytes ≤ most_bytes) (holds : HasContents known name (Some bytes)) where
  cause_is : (what : Due) → of bytes what → HasCause of known name what
  cause_is what x = record { contents = Some bytes; holds = holds; due = inr (small, x) }

  pub made_cause : (r : Result (Vec ℕ) Why) → Makes of bytes r → IfOk r (λ v. HasCause of known name (writes v.items))
  made_cause (Ok v) x = cause_is (writes v.items) x
  made_cause (Err why) x = tt

  refused_exact : (why : Why) → Makes of bytes (Err why) → IsOfBytes why → IsExact of known faulty name why
  refused_exact (BadClass file at why) x kind =
      let cause = cause_is (answered (BadClass file at why)) x in exact_is of one known faulty name (answered (BadClass file at why)) (BadClass file at why) cause refl cause
  refused_exact (BadText line) x kind = let cause = cause_is (answered (BadText line)) x in exact_is of one known faulty name (answered (BadText line)) (BadText line) cause refl cause
  refused_exact (Unlisted file) x kind = let cause = cause_is (answered (Unlisted file)) x in exact_is of one known faulty name (answered (Unlisted file)) (Unlisted file) cause refl cause
  refused_exact NoMemory x kind = memory_exact of one known faulty name
  refused_exact why x kind = absurd kind

  pub made_exact : (r : Result (Vec ℕ) Why) → Makes of bytes r → IfErr r IsOfBytes → IfErr r (IsExact of known faulty name)
  made_exact (Ok v) x kind = tt
  made_exact (Err why) x kind = refused_exact why x kind
