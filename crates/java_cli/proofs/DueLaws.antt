-- Exactly one answer is due.
use Rattle.std.proofs.Common.{◌≡◌, ℕ, ◌+◌, ◌<◌, ◌≤◌, ◌⊎◌, inl, inr, Bool, true, false, List, [], ◌∷◌, length, Option, Some, None, refl, sym, ap, subst, ◌∙◌, arith}
use Rattle.std.specs.List.{AllByRecursion}
use Rattle.std.specs.Prelude.{is_some}
use Rattle.std.proofs.lemmas.Bool.{cases_lt}
use Rattle.class_model.specs.declared.class_file.ClassFile.{ClassFile}
use Rattle.class_grammar.specs.declared.class_why.ClassWhy.{ClassWhy}
use Rattle.class_file.specs.File.{first_bad}
use Rattle.class_file.proofs.OutcomeLaws.{one_value, none_bad, some_spelled}
use Rattle.link_rules.specs.declared.fault.LinkFault as faults
use Rattle.link_rules.specs.Faults.{Links, link_fault}
use Rattle.link_model.specs.MainMethod.{main_of}
use Rattle.link_model.specs.Worlds.{world_of}
use Rattle.verify_types.specs.declared.fault.VerifyFault as typing
use Rattle.verify_types.specs.Faults.{first_fault}
use Rattle.input_files.specs.Limits.{most_bytes}
use Rattle.program_files.specs.Limits.{run_limits, most_files}
use Rattle.ref_model.specs.declared.limits.Limits.{Limits}
use Rattle.program_files.specs.Programs.{world_of_files}
use Rattle.input_files.specs.declared.error.LoadError.{LoadError}
use Rattle.input_files.specs.declared.error.LoadError.TheVariants as load
use Rattle.command_line.specs.declared.answer.Which.TheVariants.{Files}
use Rattle.command_line.specs.declared.answer.Why.TheVariants.{Limit, NoMain, LinkFault, VerifyFault}
use Rattle.input_files.specs.Errors.{load_answer}
use Rattle.arguments.specs.Commands.{Run}
use Rattle.program_files.specs.MainClass.{class_named}
use Rattle.program_files.specs.Linking.{program_of, class_text, method_text, IsTypingFault, AreAccepted}
use Rattle.input_files.specs.Contents.{Contents, IsClass, IsWrong}
use Rattle.program_files.specs.Contents.{AreClasses, FirstWrong}
use Rattle.java_cli.specs.Causes.{Due, answered, runs, IsProgramDue, IsDue, too_many, wrong, by_linking, AreBytes, OneIsDue}
use Rattle.java_cli.proofs.AnswerLaws.{one_wrong, wrong_or_classes, one_program_due}

-- ---- at most one

one_class : (contents : Contents) (f g : ClassFile) → IsClass contents f → IsClass contents g → f ≡ g
one_class None f g x y = absurd x
one_class (Some bytes) f g x y = one_value bytes f g x.1 y.1

one_list : (contents : List Contents) (a b : List ClassFile) → AreClasses contents a → AreClasses contents b → a ≡ b
one_list [] [] [] x y = refl
one_list [] [] (g ∷ b) x y = absurd y
one_list [] (f ∷ a) b x y = absurd x
one_list (h ∷ contents) [] b x y = absurd x
one_list (h ∷ contents) (f ∷ a) [] x y = absurd y
one_list (h ∷ contents) (f ∷ a) (g ∷ b) x y =
    let first : f ≡ g = one_class h f g x.0 y.0 in
    let others : a ≡ b = one_list contents a b x.1 y.1 in
    cc

one_program : (most : Limits) (name : List ℕ) (contents : List Contents) (cs ds : List ClassFile) (a b : Due) → AreClasses contents cs → AreClasses contents ds → IsProgramDue most name cs a → IsProgramDue most name ds b → a ≡ b
one_program most name contents cs ds a b are are_too x y =
    one_program_due most name ds a b (subst (λ (es : List ClassFile). IsProgramDue most name es a) (one_list contents cs ds are are_too) x) y

one_due : (c : Run) (contents : List Contents) (a b : Due) → IsDue c contents a → IsDue c contents b → a ≡ b
one_due c contents a b (too_many m e) (too_many n f) = e ∙ sym f
one_due c contents a b (too_many m e) (wrong few error x f) = absurd (omega (arith, m, few))
one_due c contents a b (too_many m e) (by_linking few classes are x) = absurd (omega (arith, m, few))
one_due c contents a b (wrong few error x e) (too_many n f) = absurd (omega (arith, n, few))
one_due c contents a b (wrong few error x e) (wrong few_too other y f) = e ∙ ap (λ (x : LoadError). answered (load_answer x)) (one_wrong 0 contents error other x y) ∙ sym f
one_due c contents a b (wrong few error x e) (by_linking few_too classes are y) = absurd (wrong_or_classes 0 contents error classes x are)
one_due c contents a b (by_linking few classes are x) (too_many n f) = absurd (omega (arith, n, few))
one_due c contents a b (by_linking few classes are x) (wrong few_too error y f) = absurd (wrong_or_classes 0 contents error classes y are)
one_due c contents a b (by_linking few classes are x) (by_linking few_too others are_too y) = one_program (run_limits c.events) (class_named c.main) contents classes others a b are are_too x y

-- ---- at least one

by_check : (n : ℕ) (bytes : List ℕ) → AreBytes (Some bytes) → length bytes ≤ most_bytes → (o : Option (ℕ × ClassWhy)) → first_bad bytes ≡ o
    → ((error : LoadError) × IsWrong n (Some bytes) error) ⊎ ((f : ClassFile) × IsClass (Some bytes) f)
by_check n bytes fits small None e = let found = some_spelled bytes fits e in inr (found.0, (small, found.1))
by_check n bytes fits small (Some x) e = inl (load.BadClass n x.0 x.1, inr (record { at = x.0; reason = x.1; small = small; none = λ f spelled. none (sym (none_bad bytes f spelled) ∙ e); first = e; is_error = refl }))
  where
    none : (let no : Option (ℕ × ClassWhy) = None in no ≡ Some x) → ⊥
    none e = absurd cc

wrong_or_read : (n : ℕ) (contents : Contents) → AreBytes contents → ((error : LoadError) × IsWrong n contents error) ⊎ ((f : ClassFile) × IsClass contents f)
wrong_or_read n None fits = inl (load.Missing n, refl)
wrong_or_read n (Some bytes) fits = by_size (cases_lt most_bytes (length bytes))
  where
    by_size : (most_bytes < length bytes) ⊎ (length bytes ≤ most_bytes) → ((error : LoadError) × IsWrong n (Some bytes) error) ⊎ ((f : ClassFile) × IsClass (Some bytes) f)
    by_size (inl large) = inl (load.TooLarge, inl (large, refl))
    by_size (inr small) = by_check n bytes fits small (first_bad bytes) refl

joined : (n : ℕ) (h : Contents) (contents : List Contents) → ((error : LoadError) × IsWrong n h error) ⊎ ((f : ClassFile) × IsClass h f) → ((error : LoadError) × FirstWrong (n + 1) contents error) ⊎ ((classes : List ClassFile) × AreClasses contents classes)
    → ((error : LoadError) × FirstWrong n (h ∷ contents) error) ⊎ ((classes : List ClassFile) × AreClasses (h ∷ contents) classes)
joined n h contents (inl x) others = inl (x.0, inl x.1)
joined n h contents (inr x) (inl y) = inl (y.0, inr (x.0, x.1, y.1))
joined n h contents (inr x) (inr y) = inr (x.0 ∷ y.0, (x.1, y.1))

first_wrong_or_read : (n : ℕ) (contents : List Contents) → AllByRecursion AreBytes contents → ((error : LoadError) × FirstWrong n contents error) ⊎ ((classes : List ClassFile) × AreClasses contents classes)
first_wrong_or_read n [] fits = inr ([], tt)
first_wrong_or_read n (h ∷ contents) fits = joined n h contents (wrong_or_read n h fits.0) (first_wrong_or_read (n + 1) contents fits.1)

by_main : (most : Limits) (name : List ℕ) (classes : List ClassFile) → AreAccepted classes → (n : Option ℕ) → main_of (world_of_files classes) name ≡ n → (a : Due) × IsProgramDue most name classes a
by_main most name classes accepted None e = (answered NoMain, (accepted, ap is_some e))
by_main most name classes accepted (Some n) e =
    (runs (record { world = world_of_files classes; main = n; limits = most }), record { accepted = accepted; main = e; world = refl; limits = refl })

by_typing : (most : Limits) (name : List ℕ) (classes : List ClassFile) → Links (program_of classes) → (o : Option typing.VerifyFault) → first_fault (world_of (program_of classes)) ≡ o
    → (a : Due) × IsProgramDue most name classes a
by_typing most name classes links None e = by_main most name classes (record { links = links; typed = e }) (main_of (world_of_files classes) name) refl
by_typing most name classes links (Some f) e =
    let p = program_of classes in
    let named : IsTypingFault p (class_text p f.class) (method_text p.classes f.method) f.pc f.why = record { fault = f; first = e; class_is = refl; method_is = refl; pc_is = refl; reason_is = refl } in
    (answered (VerifyFault (class_text p f.class) (method_text p.classes f.method) f.pc f.why), (links, named))

pub by_fault : (most : Limits) (name : List ℕ) (classes : List ClassFile) → (o : Option faults.LinkFault) → link_fault (program_of classes) ≡ o → (a : Due) × IsProgramDue most name classes a
by_fault most name classes None e = by_typing most name classes e (first_fault (world_of (program_of classes))) refl
by_fault most name classes (Some f) e = (answered (LinkFault f.class f.why), e)

by_files : (c : Run) (contents : List Contents) → length c.files ≤ most_files → ((error : LoadError) × FirstWrong 0 contents error) ⊎ ((classes : List ClassFile) × AreClasses contents classes) → (a : Due) × IsDue c contents a
by_files c contents few (inl x) = (answered (load_answer x.0), wrong few x.0 x.1 refl)
by_files c contents few (inr x) =
    let a = by_fault (run_limits c.events) (class_named c.main) x.0 (link_fault (program_of x.0)) refl in
    (a.0, by_linking few x.0 x.1 a.1)

some_due : (c : Run) (contents : List Contents) → AllByRecursion AreBytes contents → (a : Due) × IsDue c contents a
some_due c contents fits = by_count (cases_lt most_files (length c.files))
  where
    by_count : (most_files < length c.files) ⊎ (length c.files ≤ most_files) → (a : Due) × IsDue c contents a
    by_count (inl many) = (answered (Limit Files most_files), too_many many refl)
    by_count (inr few) = by_files c contents few (first_wrong_or_read 0 contents fits)

pub one_is_due : (c : Run) (contents : List Contents) → AllByRecursion AreBytes contents → OneIsDue c contents
one_is_due c contents fits =
    let some = some_due c contents fits in
    record { what = some.0; due = some.1; only = λ other due. one_due c contents other some.0 due some.1 }
