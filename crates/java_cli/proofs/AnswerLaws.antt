-- From what each part of the call did to what the call answers.
use Rattle.std.proofs.Common.{◌≡◌, ℕ, suc, ◌+◌, ◌<◌, ◌≤◌, inl, inr, true, false, List, [], ◌∷◌, ◌++◌, map, length, take, Option, Some, None, Result, Ok, Err, refl, sym, ap, subst, ◌∙◌, arith, add-zero}
use Rattle.std.specs.Prelude.{IfErr, IsErrAnd, is_some}
use Rattle.std.specs.List.{AllZip}
use Rattle.std.proofs.lemmas.Option.{same_Some}
use Rattle.std.proofs.lemmas.Slice.Zip.{AllZip-long, AllZip-map}
use Rattle.class_model.specs.declared.class_file.ClassFile.{ClassFile}
use Rattle.jvm_edges.specs.Files.{file_named}
use Rattle.jvm_edges.specs.Files as store
use Rattle.ref_model.specs.Setting.{Setting}
use Rattle.input_files.specs.declared.error.LoadError.{LoadError}
use Rattle.input_files.specs.declared.error.LoadError.TheVariants as load
use Rattle.link_rules.specs.declared.fault.LinkFault as faults
use Rattle.link_rules.specs.Faults.{Links}
use Rattle.link_rules.specs.declared.why.LinkWhy.{LinkWhy}
use Rattle.verify_types.specs.declared.why.VerifyWhy.{VerifyWhy}
use Rattle.verify_types.specs.declared.fault.VerifyFault as typing
use Rattle.program_files.specs.declared.errors.AcceptError.{AcceptError}
use Rattle.program_files.specs.declared.errors.AcceptError.TheVariants as accept
use Rattle.program_files.specs.declared.errors.StartError.{StartError}
use Rattle.program_files.specs.declared.errors.StartError.TheVariants as start
use Rattle.command_line.specs.declared.answer.Which.TheVariants.{Files, FileSize, Threads, Events}
use Rattle.command_line.specs.declared.answer.Why.{Why}
use Rattle.command_line.specs.declared.answer.Why.TheVariants.{Usage, Limit, Missing, SourceFault, BadClass, NoMain, LinkFault, VerifyFault, SinkFault, NoMemory}
use Rattle.program_files.specs.Limits.{most_files, run_limits}
use Rattle.ref_model.specs.declared.limits.Limits.{Limits}
use Rattle.program_files.specs.Programs.{has_main, world_of_files, IsStarted, IsProgram}
use Rattle.input_files.specs.Errors.{load_answer}
use Rattle.program_files.specs.Errors.{accept_answer, start_answer}
use Rattle.arguments.specs.Commands.{Run}
use Rattle.program_files.specs.MainClass.{class_named}
use Rattle.program_files.specs.Linking.{program_of, class_text, method_text, IsLinkFault, IsVerifyFault, AreAccepted}
use Rattle.input_files.specs.Contents.{Contents, HasContents, IsClass, IsWrong}
use Rattle.program_files.specs.Contents.{HaveContents, AreClasses, FirstWrong}
use Rattle.program_files.specs.LinkCauses.{NotAccepted, NotStarted}
use Rattle.java_cli.specs.Causes.{Due, answered, runs, IsProgramRefusal, IsProgramDue, IsDue, too_many, wrong, by_linking, HasCause, HasRun, IsReached, IsOfRun, IsDueOrFault, contents_of, IsExact, IsRefusal}
use Rattle.input_files.specs.LoadCauses.{IsRead, IsWrongFile, NotRead}
use Rattle.program_files.specs.LoadCauses.{IsStopped}
use Rattle.input_files.specs.StoreFaults.{StoreFaults}
use Rattle.input_files.proofs.ReadLaws.{one_wrong_here, wrong_or_class}
use Rattle.link_soundness.specs.Library.{HasLibrary}
use Rattle.step_soundness.specs.OpeningLaws.{IsMain}
use Rattle.java_cli.specs.declared.runnable.Runnable.{Runnable}
use Rattle.java_cli.specs.Runs.{IsRunDue, HasRead}
use Rattle.answers.specs.Taken.{OutFaults}
use Rattle.answers.specs.Reports.{IsSameOrNoMemory}
use Rattle.java_cli.specs.Headline.{OnRun}

-- ---- the contents of files

-- what the store knows of a file
abbrev known_file : Option store.Files → List ℕ → Contents
known_file None name = None
known_file (Some files) name = file_named name files

known_holds : (known : Option store.Files) (name : List ℕ) → HasContents known name (known_file known name)
known_holds None name = tt
known_holds (Some files) name = refl

all_held : (known : Option store.Files) (names : List (List ℕ)) → HaveContents known names (map (known_file known) names)
all_held known [] = tt
all_held known (name ∷ names) = (known_holds known name, all_held known names)

held_is : (files : store.Files) (names : List (List ℕ)) (contents : List Contents) → HaveContents (Some files) names contents → contents ≡ contents_of files names
held_is files names contents holds = AllZip-map (λ (name : List ℕ). file_named name files) names contents holds

-- ---- a wrong file has one error

pub one_wrong : (n : ℕ) (contents : List Contents) (a b : LoadError) → FirstWrong n contents a → FirstWrong n contents b → a ≡ b
one_wrong n [] a b x y = absurd x
one_wrong n (h ∷ contents) a b (inl x) (inl y) = one_wrong_here n h a b x y
one_wrong n (h ∷ contents) a b (inl x) (inr y) = absurd (wrong_or_class n h a y.0 x y.1)
one_wrong n (h ∷ contents) a b (inr x) (inl y) = absurd (wrong_or_class n h b x.0 y x.1)
one_wrong n (h ∷ contents) a b (inr x) (inr y) = one_wrong (n + 1) contents a b x.2 y.2

pub wrong_or_classes : (n : ℕ) (contents : List Contents) (a : LoadError) (classes : List ClassFile) → FirstWrong n contents a → AreClasses contents classes → ⊥
wrong_or_classes n [] a classes x are = x
wrong_or_classes n (h ∷ contents) a [] x are = are
wrong_or_classes n (h ∷ contents) a (f ∷ classes) (inl x) are = wrong_or_class n h a f x are.0
wrong_or_classes n (h ∷ contents) a (f ∷ classes) (inr x) are = wrong_or_classes (n + 1) contents a classes x.2 are.1

-- ---- classes have one answer

-- classes that link have no fault
linked_or_fault : (classes : List ClassFile) (class : List ℕ) (reason : LinkWhy) → Links (program_of classes) → IsLinkFault classes class reason → ⊥
linked_or_fault classes class reason links fault =
    let none : Option faults.LinkFault = None in
    let no : none ≡ Some (record { class = class; why = reason }) = sym links ∙ fault in
    absurd cc

-- classes that are accepted have no fault of typing
typed_or_fault : (classes : List ClassFile) (class method : List ℕ) (pc : ℕ) (reason : VerifyWhy) → AreAccepted classes → IsVerifyFault classes class method pc reason → ⊥
typed_or_fault classes class method pc reason accepted fault =
    let none : Option typing.VerifyFault = None in
    let no : none ≡ Some fault.1.fault = sym accepted.typed ∙ fault.1.first in
    absurd cc

-- there is one first fault of typing
one_verify_fault : (classes : List ClassFile) (class other method again : List ℕ) (pc next : ℕ) (reason because : VerifyWhy) → IsVerifyFault classes class method pc reason → IsVerifyFault classes other again next because
    → VerifyFault class method pc reason ≡ VerifyFault other again next because
one_verify_fault classes class other method again pc next reason because x y =
    let p = program_of classes in
    let same : x.1.fault ≡ y.1.fault = same_Some x.1.fault y.1.fault (sym x.1.first ∙ y.1.first) in
    let classes_are : class ≡ other = x.1.class_is ∙ ap (λ (f : typing.VerifyFault). class_text p f.class) same ∙ sym y.1.class_is in
    let methods_are : method ≡ again = x.1.method_is ∙ ap (λ (f : typing.VerifyFault). method_text p.classes f.method) same ∙ sym y.1.method_is in
    let pcs_are : pc ≡ next = x.1.pc_is ∙ ap (λ (f : typing.VerifyFault). f.pc) same ∙ sym y.1.pc_is in
    let reasons_are : reason ≡ because = x.1.reason_is ∙ ap (λ (f : typing.VerifyFault). f.why) same ∙ sym y.1.reason_is in
    cc

-- there is one first fault
one_fault : (classes : List ClassFile) (class other : List ℕ) (reason again : LinkWhy) → IsLinkFault classes class reason → IsLinkFault classes other again → LinkFault class reason ≡ LinkFault other again
one_fault classes class other reason again x y =
    ap (λ (f : faults.LinkFault). LinkFault f.class f.why) (same_Some (record { class = class; why = reason }) (record { class = other; why = again }) (sym x ∙ y))

main_or_none : (name : List ℕ) (classes : List ClassFile) → has_main name classes ≡ false → has_main name classes ≡ true → ⊥
main_or_none name classes x y = let no : false ≡ true = sym x ∙ y in absurd cc

one_refusal : (name : List ℕ) (classes : List ClassFile) (a b : Why) → IsProgramRefusal name classes a → IsProgramRefusal name classes b → a ≡ b
one_refusal name classes NoMain NoMain x y = refl
one_refusal name classes NoMain (LinkFault class reason) x y = absurd (linked_or_fault classes class reason x.0.links y)
one_refusal name classes NoMain (VerifyFault class method pc reason) x y = absurd (typed_or_fault classes class method pc reason x.0 y)
one_refusal name classes NoMain b x y = absurd y
one_refusal name classes (LinkFault class reason) NoMain x y = absurd (linked_or_fault classes class reason y.0.links x)
one_refusal name classes (LinkFault class reason) (LinkFault other again) x y = one_fault classes class other reason again x y
one_refusal name classes (LinkFault class reason) (VerifyFault other method pc why) x y = absurd (linked_or_fault classes class reason y.0 x)
one_refusal name classes (LinkFault class reason) b x y = absurd y
one_refusal name classes (VerifyFault class method pc reason) NoMain x y = absurd (typed_or_fault classes class method pc reason y.0 x)
one_refusal name classes (VerifyFault class method pc reason) (LinkFault other why) x y = absurd (linked_or_fault classes other why x.0 y)
one_refusal name classes (VerifyFault class method pc reason) (VerifyFault other again next because) x y = one_verify_fault classes class other method again pc next reason because x y
one_refusal name classes (VerifyFault class method pc reason) b x y = absurd y
one_refusal name classes a b x y = absurd x

-- a program that runs isn't refused
run_or_refusal : (most : Limits) (name : List ℕ) (classes : List ClassFile) (p : Setting) (a : Why) → IsProgram most name classes p → IsProgramRefusal name classes a → ⊥
run_or_refusal most name classes p NoMain x y = main_or_none name classes y.1 (ap is_some x.main)
run_or_refusal most name classes p (LinkFault class reason) x y = linked_or_fault classes class reason x.accepted.links y
run_or_refusal most name classes p (VerifyFault class method pc reason) x y = typed_or_fault classes class method pc reason x.accepted y
run_or_refusal most name classes p a x y = y

one_program : (most : Limits) (name : List ℕ) (classes : List ClassFile) (p q : Setting) → IsProgram most name classes p → IsProgram most name classes q → p ≡ q
one_program most name classes p q x y =
    let worlds : p.world ≡ q.world = x.world ∙ sym y.world in
    let mains : p.main ≡ q.main = same_Some p.main q.main (sym x.main ∙ y.main) in
    let limits : p.limits ≡ q.limits = x.limits ∙ sym y.limits in
    λ i. record { world = worlds i; main = mains i; limits = limits i }

pub one_program_due : (most : Limits) (name : List ℕ) (classes : List ClassFile) (a b : Due) → IsProgramDue most name classes a → IsProgramDue most name classes b → a ≡ b
one_program_due most name classes (answered a) (answered b) x y = ap answered (one_refusal name classes a b x y)
one_program_due most name classes (answered a) (runs p) x y = absurd (run_or_refusal most name classes p a y x)
one_program_due most name classes (runs p) (answered a) x y = absurd (run_or_refusal most name classes p a x y)
one_program_due most name classes (runs p) (runs q) x y = ap runs (one_program most name classes p q x y)

-- ---- too many files

pub too_many_exact : (known : Option store.Files) (faulty : Type 0) (c : Run) → most_files < length c.files → IsExact known faulty c (Limit Files most_files)
too_many_exact known faulty c many = record {
  cause = record { contents = map (known_file known) c.files; holds = all_held known c.files; due = too_many many refl };
  due = λ files due is it. subst (λ (d : Due). IsDueOrFault d (Limit Files most_files)) (sym (by it)) refl;
}
  where
    by : {contents : List Contents} {due : Due} → IsDue c contents due → due ≡ answered (Limit Files most_files)
    by (too_many lt e) = e
    by (wrong few error x is) = absurd (omega (arith, many, few))
    by (by_linking few classes are x) = absurd (omega (arith, many, few))

-- ---- a file that was not read

-- files that were read, and their contents
pub record AreRead (known : Option store.Files) (names : List (List ℕ)) (classes : List ClassFile) : Type 0 where
  pub contents : List Contents
  pub holds : HaveContents known names contents
  pub read : AreClasses contents classes
  pub only : (others : List ClassFile) → AreClasses contents others → others ≡ classes

pub all_read : (known : Option store.Files) (names : List (List ℕ)) (classes : List ClassFile) → AllZip (IsRead known) names classes → AreRead known names classes
all_read known [] [] read = record { contents = []; holds = tt; read = tt; only = none }
  where
    none : (others : List ClassFile) → AreClasses [] others → others ≡ []
    none [] are = refl
    none (f ∷ others) are = absurd are
all_read known [] (f ∷ classes) read = absurd read
all_read known (name ∷ names) [] read = absurd read
all_read known (name ∷ names) (f ∷ classes) read =
    let more = all_read known names classes read.1 in
    record {
      contents = read.0.contents ∷ more.contents;
      holds = (read.0.holds, more.holds);
      read = (read.0.class, more.read);
      only = one read.0.contents more.contents read.0.only more.only;
    }
  where
    one : (h : Contents) (contents : List Contents) → ((g : ClassFile) → IsClass h g → g ≡ f) → ((others : List ClassFile) → AreClasses contents others → others ≡ classes)
        → (others : List ClassFile) → AreClasses (h ∷ contents) others → others ≡ f ∷ classes
    one h contents first behind [] are = absurd are
    one h contents first behind (g ∷ others) are = let a : g ≡ f = first g are.0 in let b : others ≡ classes = behind others are.1 in cc

wrong_behind : (n : ℕ) (front : List Contents) (classes : List ClassFile) (x : Contents) (back : List Contents) (error : LoadError) → AreClasses front classes → IsWrong (n + length front) x error → FirstWrong n (front ++ x ∷ back) error
wrong_behind n [] [] x back error are is = inl (subst (λ (k : ℕ). IsWrong k x error) (add-zero n) is)
wrong_behind n [] (f ∷ classes) x back error are is = absurd are
wrong_behind n (h ∷ front) [] x back error are is = absurd are
wrong_behind n (h ∷ front) (f ∷ classes) x back error are is =
    let place : n + suc (length front) ≡ (n + 1) + length front = omega arith in
    inr (f, are.0, wrong_behind (n + 1) front classes x back error are.1 (subst (λ (k : ℕ). IsWrong k x error) place is))

held_with : (known : Option store.Files) (front : List (List ℕ)) (contents : List Contents) (name : List ℕ) (x : Contents) (back : List (List ℕ)) → HaveContents known front contents → HasContents known name x
    → HaveContents known (front ++ name ∷ back) (contents ++ x ∷ map (known_file known) back)
held_with known [] [] name x back are here = (here, all_held known back)
held_with known [] (h ∷ contents) name x back are here = absurd are
held_with known (n ∷ front) [] name x back are here = absurd are
held_with known (n ∷ front) (h ∷ contents) name x back are here = (are.0, held_with known front contents name x back are.1 here)

-- the first wrong file of a command
record FindsWrong (known : Option store.Files) (c : Run) (error : LoadError) : Type 0 where
  contents : List Contents
  holds : HaveContents known c.files contents
  first : FirstWrong 0 contents error

finds_wrong : (known : Option store.Files) (faulty : Type 0) (c : Run) (error : LoadError) (s : IsStopped known faulty c.files error) → IsWrongFile known (length s.front) s.name error → FindsWrong known c error
finds_wrong known faulty c error s here =
    let read = all_read known s.front s.classes s.read in
    let long : length read.contents ≡ length s.front = AllZip-long (HasContents known) s.front read.contents read.holds in
    let place : length s.front ≡ 0 + length read.contents = omega (arith, long) in
    record {
      contents = read.contents ++ here.contents ∷ map (known_file known) s.back;
      holds = subst (λ (names : List (List ℕ)). HaveContents known names (read.contents ++ here.contents ∷ map (known_file known) s.back)) (sym s.parts) (held_with known s.front read.contents s.name here.contents s.back read.holds here.holds);
      first = wrong_behind 0 read.contents s.classes here.contents (map (known_file known) s.back) error read.read (subst (λ (n : ℕ). IsWrong n here.contents error) place here.wrong);
    }

wrong_due : (known : Option store.Files) (c : Run) (error : LoadError) → length c.files ≤ most_files → FindsWrong known c error → (files : store.Files) (due : Due) → known ≡ Some files → IsDue c (contents_of files c.files) due
    → due ≡ answered (load_answer error)
wrong_due known c error few x files due is it = by it
  where
    same : x.contents ≡ contents_of files c.files
    same = held_is files c.files x.contents (subst (λ (t : Option store.Files). HaveContents t c.files x.contents) is x.holds)

    first : FirstWrong 0 (contents_of files c.files) error
    first = subst (λ (contents : List Contents). FirstWrong 0 contents error) same x.first

    by : IsDue c (contents_of files c.files) due → due ≡ answered (load_answer error)
    by (too_many many e) = absurd (omega (arith, few, many))
    by (wrong f other y is) = is ∙ ap (λ (e : LoadError). answered (load_answer e)) (one_wrong 0 (contents_of files c.files) other error y first)
    by (by_linking f classes are y) = absurd (wrong_or_classes 0 (contents_of files c.files) error classes first are)

wrong_cause : (known : Option store.Files) (c : Run) (error : LoadError) → length c.files ≤ most_files → FindsWrong known c error → HasCause known c (answered (load_answer error))
wrong_cause known c error few x = record { contents = x.contents; holds = x.holds; due = wrong few error x.first refl }

wrong_exact : (known : Option store.Files) (faulty : Type 0) (c : Run) (error : LoadError) → length c.files ≤ most_files → (s : IsStopped known faulty c.files error) → IsWrongFile known (length s.front) s.name error
    → HasCause known c (answered (load_answer error)) × ((files : store.Files) (due : Due) → known ≡ Some files → IsDue c (contents_of files c.files) due → due ≡ answered (load_answer error))
wrong_exact known faulty c error few s here = let x = finds_wrong known faulty c error s here in (wrong_cause known c error few x, wrong_due known c error few x)

take_front : (front back : List (List ℕ)) (name : List ℕ) → take (length front) (front ++ name ∷ back) ≡ front
take_front [] back name = refl
take_front (x ∷ front) back name = ap (λ (xs : List (List ℕ)). x ∷ xs) (take_front front back name)

front_within : (front back : List (List ℕ)) (name : List ℕ) → length front < length (front ++ name ∷ back)
front_within [] back name = omega arith
front_within (x ∷ front) back name = let more = front_within front back name in omega (arith, more)

reached : (known : Option store.Files) (faulty : Type 0) (c : Run) (error : LoadError) → length c.files ≤ most_files → (s : IsStopped known faulty c.files error) → IsReached known c (length s.front)
reached known faulty c error few s =
    let read = all_read known s.front s.classes s.read in
    record {
      contents = read.contents;
      classes = s.classes;
      few = few;
      within = subst (λ (names : List (List ℕ)). length s.front < length names) (sym s.parts) (front_within s.front s.back s.name);
      holds = subst (λ (names : List (List ℕ)). HaveContents known names read.contents) (sym (ap (take (length s.front)) s.parts ∙ take_front s.front s.back s.name)) read.holds;
      read = read.read;
    }

-- what is due is this answer
is_due : (due : Due) (why : Why) → due ≡ answered why → IsDueOrFault due why
is_due due why e = subst (λ (d : Due). IsDueOrFault d why) (sym e) (same why)
  where
    same : (why : Why) → IsDueOrFault (answered why) why
    same NoMemory = tt
    same (SourceFault file) = tt
    same why = refl

pub stopped_exact : (known : Option store.Files) (faulty : Type 0) (c : Run) (error : LoadError) → length c.files ≤ most_files → IsStopped known faulty c.files error → IsExact known faulty c (load_answer error)
stopped_exact known faulty c error few s = by error s s.cause
  where
    by : (error : LoadError) (s : IsStopped known faulty c.files error) → NotRead known faulty (length s.front) s.name error → IsExact known faulty c (load_answer error)
    by load.NoMemory s cause = record { cause = tt; due = λ files due is it. tt }
    by (load.SourceFault file) s cause =
        record { cause = (cause.1, subst (λ (n : ℕ). IsReached known c n) (sym cause.0) (reached known faulty c (load.SourceFault file) few s)); due = λ files due is it. tt }
    by error s cause = let x = wrong_exact known faulty c error few s cause in record { cause = x.0; due = λ files due is it. is_due due (load_answer error) (x.1 files due is it) }

-- an error of loading is no end and no fault of a sink
pub load_refusal : (error : LoadError) → IsRefusal (load_answer error)
load_refusal (load.Missing file) = tt
load_refusal (load.SourceFault file) = tt
load_refusal load.TooLarge = tt
load_refusal (load.BadClass file at why) = tt
load_refusal load.NoMemory = tt

-- ---- classes that were accepted and ran, or not

program_due : (known : Option store.Files) (c : Run) (classes : List ClassFile) (what : Due) → length c.files ≤ most_files → AreRead known c.files classes → IsProgramDue (run_limits c.events) (class_named c.main) classes what
    → (files : store.Files) (due : Due) → known ≡ Some files → IsDue c (contents_of files c.files) due → due ≡ what
program_due known c classes what few read program_due_is files due is it = by it
  where
    same : read.contents ≡ contents_of files c.files
    same = held_is files c.files read.contents (subst (λ (t : Option store.Files). HaveContents t c.files read.contents) is read.holds)

    are : AreClasses (contents_of files c.files) classes
    are = subst (λ (contents : List Contents). AreClasses contents classes) same read.read

    by : IsDue c (contents_of files c.files) due → due ≡ what
    by (too_many many e) = absurd (omega (arith, few, many))
    by (wrong f error y is) = absurd (wrong_or_classes 0 (contents_of files c.files) error classes y are)
    by (by_linking f others others_are y) =
        let one : others ≡ classes = read.only others (subst (λ (contents : List Contents). AreClasses contents others) (sym same) others_are) in
        one_program_due (run_limits c.events) (class_named c.main) classes due what (subst (λ (cs : List ClassFile). IsProgramDue (run_limits c.events) (class_named c.main) cs due) one y) program_due_is

program_cause : (known : Option store.Files) (c : Run) (classes : List ClassFile) (due : Due) → length c.files ≤ most_files → AreRead known c.files classes → IsProgramDue (run_limits c.events) (class_named c.main) classes due → HasCause known c due
program_cause known c classes due few read is = record { contents = read.contents; holds = read.holds; due = by_linking few classes read.read is }

-- an answer to classes that aren't run is exact
program_exact : (known : Option store.Files) (faulty : Type 0) (c : Run) (classes : List ClassFile) (why : Why) → length c.files ≤ most_files → AllZip (IsRead known) c.files classes
    → IsProgramRefusal (class_named c.main) classes why → IsExact known faulty c why
program_exact known faulty c classes why few all is = by why is
  where
    read : AreRead known c.files classes
    read = all_read known c.files classes all

    due_is : (why : Why) → IsProgramRefusal (class_named c.main) classes why → (files : store.Files) (due : Due) → known ≡ Some files → IsDue c (contents_of files c.files) due → IsDueOrFault due why
    due_is why is files due told it = is_due due why (program_due known c classes (answered why) few read is files due told it)

    by : (why : Why) → IsProgramRefusal (class_named c.main) classes why → IsExact known faulty c why
    by NoMain is = record { cause = program_cause known c classes (answered NoMain) few read is; due = due_is NoMain is }
    by (LinkFault class reason) is = record { cause = program_cause known c classes (answered (LinkFault class reason)) few read is; due = due_is (LinkFault class reason) is }
    by (VerifyFault class method pc reason) is =
        record { cause = program_cause known c classes (answered (VerifyFault class method pc reason)) few read is; due = due_is (VerifyFault class method pc reason) is }
    by why is = absurd is

pub memory_exact : (known : Option store.Files) (faulty : Type 0) (c : Run) → IsExact known faulty c NoMemory
memory_exact known faulty c = record { cause = tt; due = λ files due is it. tt }

-- classes that are not accepted
pub unaccepted_exact : (known : Option store.Files) (faulty : Type 0) (c : Run) (classes : List ClassFile) (error : AcceptError) → length c.files ≤ most_files → AllZip (IsRead known) c.files classes
    → NotAccepted classes error → IsExact known faulty c (accept_answer error)
unaccepted_exact known faulty c classes accept.NoMemory few all is = memory_exact known faulty c
unaccepted_exact known faulty c classes (accept.LinkFault class reason) few all is = program_exact known faulty c classes (LinkFault class reason) few all is
unaccepted_exact known faulty c classes (accept.VerifyFault class method pc reason) few all is = program_exact known faulty c classes (VerifyFault class method pc reason) few all is

-- classes that are accepted, and don't start
pub unstarted_exact : (known : Option store.Files) (faulty : Type 0) (c : Run) (classes : List ClassFile) (error : StartError) → length c.files ≤ most_files → AllZip (IsRead known) c.files classes
    → AreAccepted classes → NotStarted (class_named c.main) classes error → IsExact known faulty c (start_answer error)
unstarted_exact known faulty c classes start.NoMemory few all accepted is = memory_exact known faulty c
unstarted_exact known faulty c classes start.NoMain few all accepted is = program_exact known faulty c classes NoMain few all (accepted, is)

-- an error of linking, of typing or of the start is no end and no fault of a sink, and comes after no fault of the store
pub accept_refusal : (error : AcceptError) → IsRefusal (accept_answer error)
accept_refusal (accept.LinkFault class why) = tt
accept_refusal (accept.VerifyFault class method pc why) = tt
accept_refusal accept.NoMemory = tt

pub accept_faults : (error : AcceptError) (before now : ℕ) → now ≡ before → StoreFaults (accept_answer error) before now
accept_faults (accept.LinkFault class why) before now kept = kept
accept_faults (accept.VerifyFault class method pc why) before now kept = kept
accept_faults accept.NoMemory before now kept = tt

pub start_refusal : (error : StartError) → IsRefusal (start_answer error)
start_refusal start.NoMain = tt
start_refusal start.NoMemory = tt

pub start_faults : (error : StartError) (before now : ℕ) → now ≡ before → StoreFaults (start_answer error) before now
start_faults start.NoMain before now kept = kept
start_faults start.NoMemory before now kept = tt

-- a run is due to classes that are accepted, and of which main is started
pub run_due : (known : Option store.Files) (c : Run) (classes : List ClassFile) (p : Setting) → length c.files ≤ most_files → AllZip (IsRead known) c.files classes → IsProgram (run_limits c.events) (class_named c.main) classes p
    → IsRunDue known c
run_due known c classes p few all is files due told it = (p, program_due known c classes (runs p) few (all_read known c.files classes all) is files due told it)

-- and these are what was read
pub has_read : (known : Option store.Files) (c : Run) (classes : List ClassFile) (x : Runnable) → length c.files ≤ most_files → AllZip (IsRead known) c.files classes → AreAccepted classes → IsStarted (class_named c.main) classes x.main
    → x.checked ≡ world_of_files classes → HasLibrary x.checked.program → IsMain x.checked x.main → HasRead known c x
has_read known c classes x few all accepted started world library main =
    let read = all_read known c.files classes all in
    let p : Setting = record { world = x.checked; main = x.main; limits = run_limits c.events } in
    let is : IsProgram (run_limits c.events) (class_named c.main) classes p = record { accepted = accepted; main = started; world = world; limits = refl } in
    record {
      given = record { contents = read.contents; classes = classes; few = few; holds = read.holds; read = read.read; accepted = is };
      library = library;
      has_main = main;
    }

pub has_run : (known : Option store.Files) (c : Run) (x : Runnable) → HasRead known c x → HasRun known c
has_run known c x read =
    let given = read.given in
    record {
      program = record { world = x.checked; main = x.main; limits = run_limits c.events };
      cause = record { contents = given.contents; holds = given.holds; due = by_linking given.few given.classes given.read given.accepted };
    }

-- ---- the answer of the call

-- what a `?` answers
pub answer_is : {A : Type 0} (r : Result A Why) (why : Why) (P : Why → Type 0) → IsErrAnd r (λ e. e ≡ why) → P why → IfErr r P
answer_is (Ok x) why P is p = absurd is
answer_is (Err e) why P is p = subst P (sym is) p

pub refusal_is : {A : Type 0} (r : Result A Why) (why : Why) → IsErrAnd r (λ e. e ≡ why) → IsRefusal why → IfErr r IsRefusal
refusal_is r why is p = answer_is r why IsRefusal is p

-- an answer that stays, or that found no memory for its line
pub kept_exact : (known : Option store.Files) (faulty : Type 0) (c : Run) (before after : Why) → IsSameOrNoMemory before after → IsExact known faulty c before → IsExact known faulty c after
kept_exact known faulty c before after (inl e) exact = subst (λ (w : Why). IsExact known faulty c w) (sym e) exact
kept_exact known faulty c before after (inr e) exact = subst (λ (w : Why). IsExact known faulty c w) (sym e.1) (memory_exact known faulty c)

no_out_fault : (why : Why) (n : ℕ) → IsRefusal why → OutFaults why n n
no_out_fault (SinkFault which written) n is = absurd is
no_out_fault why n is = refl

pub kept_refusal : (before after : Why) → IsSameOrNoMemory before after → IsRefusal before → IsRefusal after
kept_refusal before after (inl e) is = subst IsRefusal (sym e) is
kept_refusal before after (inr e) is = subst IsRefusal (sym e.1) tt

-- a refusal is no answer to a run
pub refusal_or_run : (why : Why) → IsRefusal why → IsOfRun why → ⊥
refusal_or_run (Limit Files number) is run = run
refusal_or_run (Limit FileSize number) is run = run
refusal_or_run (Limit Threads number) is run = is
refusal_or_run (Limit Events number) is run = is
refusal_or_run (Missing file) is run = run
refusal_or_run (SourceFault file) is run = run
refusal_or_run (BadClass file at reason) is run = run
refusal_or_run NoMain is run = run
refusal_or_run (LinkFault class reason) is run = run
refusal_or_run (VerifyFault class method pc reason) is run = run
refusal_or_run NoMemory is run = run
refusal_or_run why is run = is

-- a refusal runs nothing, and leaves the out sink
pub refused_headline : (X : Type 0) (before after : Why) → IsSameOrNoMemory before after → IsRefusal before → OnRun after X
refused_headline X before after kept is run = absurd (refusal_or_run after (kept_refusal before after kept is) run)

pub refused_out : (before after : Why) (n : ℕ) → IsSameOrNoMemory before after → IsRefusal before → OutFaults after n n
refused_out before after n kept is = no_out_fault after n (kept_refusal before after kept is)

pub refused_store : (before after : Why) (m n : ℕ) → IsSameOrNoMemory before after → StoreFaults before m n → StoreFaults after m n
refused_store before after m n (inl e) faults = subst (λ (w : Why). StoreFaults w m n) (sym e) faults
refused_store before after m n (inr e) faults = subst (λ (w : Why). StoreFaults w m n) (sym e.1) tt

-- a refusal is no Usage
pub not_usage : (before after : Why) → IsSameOrNoMemory before after → IsRefusal before → after ≡ Usage → ⊥
not_usage before after kept is e = subst IsRefusal e (kept_refusal before after kept is)
