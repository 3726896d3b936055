use Rattle.std.proofs.Common.{rules, string_bytes, ◌≡◌, ℕ, ◌<◌, ◌≤◌, length, List, String, refl, ap, subst, ◌∙◌, arith}
use Rattle.std.specs.Global.{Global}
use Rattle.std.proofs.lemmas.List.{length-map}
use Rattle.std.specs.List.{AllZip}
use Rattle.jvm_edges.specs.Causes.{Rose}
use Rattle.link_model.specs.World.{World}
use Rattle.link_rules.specs.Program.{Program}
use Rattle.arguments.specs.Commands.{texts}
use Rattle.arguments.specs.Meanings.{run_meaning}
use Rattle.input_files.specs.Errors.{load_answer}
use Rattle.program_files.specs.Errors.{accept_answer, start_answer}
use Rattle.java_cli.specs.Causes.{IsExact}
use Rattle.program_files.specs.LinkCauses.{NotStarted}
use Rattle.input_files.specs.LoadCauses.{IsRead}
use Rattle.program_files.specs.LoadCauses.{IsStopped}
use Rattle.input_files.specs.StoreFaults.{StoreFaults}
use Rattle.ref_model.specs.Setting.{Setting}
use Rattle.step_soundness.specs.OpeningLaws.{IsMain}
use Rattle.program_files.specs.Limits.{run_limits}
use Rattle.program_files.specs.MainClass.{class_named}
use Rattle.program_files.specs.Programs.{world_of_files, IsProgram, IsStarted}
use Rattle.java_cli.proofs.AnswerLaws.{answer_is, refusal_is, too_many_exact, stopped_exact, load_refusal, unaccepted_exact, accept_refusal, accept_faults, unstarted_exact, start_refusal, start_faults, run_due, has_read}
use Rattle.java_cli.proofs.runnable.read_program.Goals as goal

-- the program of a world
abbrev program_in_world : World → Program
program_in_world w = w.program

size : (names : List (String Global)) → length (texts names) ≡ length names
size names = simp length-map

many_texts : (names : List (String Global)) → 256 < length names → 256 < length (texts names)
many_texts names lt = omega (arith, lt, size names)

few_texts : (names : List (String Global)) → length names ≤ 256 → length (texts names) ≤ 256
few_texts names le = omega (arith, le, size names)

pub returns-then-files-clause-exact : goal.returns-then-files-clause-exact
returns-then-files-clause-exact g c =
    let same : c.as_slice-files.result.now ≡ c.args.run.now.files.items = search rules in
    too_many_exact _ _ (run_meaning c.args.run.now) (many_texts c.args.run.now.files.items (subst (λ (fs : List (String Global)). 256 < length fs) same c.if-files.true))

pub returns-in_err-classes-clause-exact : goal.returns-in_err-classes-clause-exact
returns-in_err-classes-clause-exact g c =
    let known = g.S.Store.files c.args.store.now in
    let faulty = Rose (g.S.Store.faults c.args.store.now) (g.S.Store.faults c.read_files.new.store) in
    let same : c.as_slice-files.result.now ≡ c.args.run.now.files.items = search rules in
    let few = few_texts c.args.run.now.files.items (subst (λ (fs : List (String Global)). length fs ≤ 256) same c.if-files.false) in
    answer_is c.from_residual.result (load_answer c.in_err-classes.field-0.0) (IsExact known faulty (run_meaning c.args.run.now)) c.from_residual.ensures.1
    (stopped_exact known faulty (run_meaning c.args.run.now) c.in_err-classes.field-0.0 few (subst (λ (fs : List (String Global)). IsStopped known faulty (texts fs) c.in_err-classes.field-0.0) same c.in_err-classes.ensures.stopped))

pub returns-in_err-classes-clause-refusal : goal.returns-in_err-classes-clause-refusal
returns-in_err-classes-clause-refusal g c = refusal_is c.from_residual.result (load_answer c.in_err-classes.field-0.0) c.from_residual.ensures.1 (load_refusal c.in_err-classes.field-0.0)

pub returns-in_err-classes-clause-faults : goal.returns-in_err-classes-clause-faults
returns-in_err-classes-clause-faults g c =
    let before = g.S.Store.faults c.args.store.now in
    let after = g.S.Store.faults c.read_files.new.store in
    answer_is c.from_residual.result (load_answer c.in_err-classes.field-0.0) (λ why. StoreFaults why before after) c.from_residual.ensures.1 c.in_err-classes.ensures.faults

pub returns-in_err-checked-clause-exact : goal.returns-in_err-checked-clause-exact
returns-in_err-checked-clause-exact g c =
    let known = g.S.Store.files c.args.store.now in
    let faulty = Rose (g.S.Store.faults c.args.store.now) (g.S.Store.faults c.read_files.new.store) in
    let same : c.as_slice-files.result.now ≡ c.args.run.now.files.items = search rules in
    let few = few_texts c.args.run.now.files.items (subst (λ (fs : List (String Global)). length fs ≤ 256) same c.if-files.false) in
    let found = subst (λ (fs : List (String Global)). AllZip (IsRead known) (texts fs) c.in_ok-classes.classes.items) same c.in_ok-classes.ensures.found in
    answer_is c.from_residual-in_err-checked.result (accept_answer c.in_err-checked.field-0.0) (IsExact known faulty (run_meaning c.args.run.now)) c.from_residual-in_err-checked.ensures.1
    (unaccepted_exact known faulty (run_meaning c.args.run.now) c.in_ok-classes.classes.items c.in_err-checked.field-0.0 few found c.in_err-checked.ensures.refused)

pub returns-in_err-checked-clause-refusal : goal.returns-in_err-checked-clause-refusal
returns-in_err-checked-clause-refusal g c =
    refusal_is c.from_residual-in_err-checked.result (accept_answer c.in_err-checked.field-0.0) c.from_residual-in_err-checked.ensures.1 (accept_refusal c.in_err-checked.field-0.0)

pub returns-in_err-checked-clause-faults : goal.returns-in_err-checked-clause-faults
returns-in_err-checked-clause-faults g c =
    let before = g.S.Store.faults c.args.store.now in
    let after = g.S.Store.faults c.read_files.new.store in
    answer_is c.from_residual-in_err-checked.result (accept_answer c.in_err-checked.field-0.0) (λ why. StoreFaults why before after) c.from_residual-in_err-checked.ensures.1
    (accept_faults c.in_err-checked.field-0.0 before after c.in_ok-classes.ensures.faults)

pub returns-in_err-main-clause-exact : goal.returns-in_err-main-clause-exact
returns-in_err-main-clause-exact g c =
    let known = g.S.Store.files c.args.store.now in
    let faulty = Rose (g.S.Store.faults c.args.store.now) (g.S.Store.faults c.read_files.new.store) in
    let classes = c.in_ok-classes.classes.items in
    let same : c.as_slice-files.result.now ≡ c.args.run.now.files.items = search rules in
    let few = few_texts c.args.run.now.files.items (subst (λ (fs : List (String Global)). length fs ≤ 256) same c.if-files.false) in
    let found = subst (λ (fs : List (String Global)). AllZip (IsRead known) (texts fs) classes) same c.in_ok-classes.ensures.found in
    let name : c.as_str.result.now ≡ string_bytes c.args.run.now.main = search rules in
    let refused = c.in_err-main.ensures.refused classes (ap program_in_world c.world.ensures.world ∙ c.in_ok-checked.ensures.program) in
    answer_is c.from_residual-in_err-main.result (start_answer c.in_err-main.field-0.0) (IsExact known faulty (run_meaning c.args.run.now)) c.from_residual-in_err-main.ensures.1
    (unstarted_exact known faulty (run_meaning c.args.run.now) classes c.in_err-main.field-0.0 few found c.in_ok-checked.ensures.accepted
    (subst (λ (t : List ℕ). NotStarted (class_named t) classes c.in_err-main.field-0.0) name refused))

pub returns-in_err-main-clause-refusal : goal.returns-in_err-main-clause-refusal
returns-in_err-main-clause-refusal g c =
    refusal_is c.from_residual-in_err-main.result (start_answer c.in_err-main.field-0.0) c.from_residual-in_err-main.ensures.1 (start_refusal c.in_err-main.field-0.0)

pub returns-in_err-main-clause-faults : goal.returns-in_err-main-clause-faults
returns-in_err-main-clause-faults g c =
    let before = g.S.Store.faults c.args.store.now in
    let after = g.S.Store.faults c.read_files.new.store in
    answer_is c.from_residual-in_err-main.result (start_answer c.in_err-main.field-0.0) (λ why. StoreFaults why before after) c.from_residual-in_err-main.ensures.1
    (start_faults c.in_err-main.field-0.0 before after c.in_ok-classes.ensures.faults)

pub returns-clause-read : goal.returns-clause-read
returns-clause-read g c =
    let known = g.S.Store.files c.args.store.now in
    let classes = c.in_ok-classes.classes.items in
    let same : c.as_slice-files.result.now ≡ c.args.run.now.files.items = search rules in
    let few = few_texts c.args.run.now.files.items (subst (λ (fs : List (String Global)). length fs ≤ 256) same c.if-files.false) in
    let found = subst (λ (fs : List (String Global)). AllZip (IsRead known) (texts fs) classes) same c.in_ok-classes.ensures.found in
    let name : c.as_str.result.now ≡ string_bytes c.args.run.now.main = search rules in
    let started = c.in_ok-main.ensures.started classes (ap program_in_world c.world.ensures.world ∙ c.in_ok-checked.ensures.program) in
    has_read _ (run_meaning c.args.run.now) classes _ few found c.in_ok-checked.ensures.accepted (subst (λ (t : List ℕ). IsStarted (class_named t) classes c.in_ok-main.main) name started)
    c.in_ok-checked.ensures.world c.in_ok-checked.ensures.library
    (subst (λ (w : World). IsMain w c.in_ok-main.main) c.world.ensures.world c.in_ok-main.ensures.main)

pub returns-clause-due : goal.returns-clause-due
returns-clause-due g c =
    let known = g.S.Store.files c.args.store.now in
    let classes = c.in_ok-classes.classes.items in
    let same : c.as_slice-files.result.now ≡ c.args.run.now.files.items = search rules in
    let few = few_texts c.args.run.now.files.items (subst (λ (fs : List (String Global)). length fs ≤ 256) same c.if-files.false) in
    let found = subst (λ (fs : List (String Global)). AllZip (IsRead known) (texts fs) classes) same c.in_ok-classes.ensures.found in
    let name : c.as_str.result.now ≡ string_bytes c.args.run.now.main = search rules in
    let started = subst (λ (t : List ℕ). IsStarted (class_named t) classes c.in_ok-main.main) name (c.in_ok-main.ensures.started classes (ap program_in_world c.world.ensures.world ∙ c.in_ok-checked.ensures.program)) in
    let most = run_limits c.args.run.now.events in
    let p : Setting = record { world = world_of_files classes; main = c.in_ok-main.main; limits = most } in
    let is : IsProgram most (class_named (string_bytes c.args.run.now.main)) classes p = record { accepted = c.in_ok-checked.ensures.accepted; main = started; world = refl; limits = refl } in
    run_due _ (run_meaning c.args.run.now) classes p few found is
