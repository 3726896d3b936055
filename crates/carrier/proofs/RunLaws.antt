-- What a machine leaves is a run of its program.
use Rattle.std.proofs.Common.{◌≡◌, ◌≢◌, ℕ, ◌+◌, Bool, true, false, List, [], length, Option, Some, None, Result, Ok, Err, refl, ap, sym, ◌∙◌, subst}
use Rattle.std.specs.Prelude.{IfOk, nat_lt, if◌then◌else◌}
use Rattle.std.specs.Option.{option_map_or, option_or}
use Rattle.std.proofs.lemmas.Bool.{ltb-true}
use Rattle.history.specs.declared.entry.Entry.{Entry}
use Rattle.link_model.specs.World.{World}
use Rattle.schedule_model.specs.Run.{Scheduled}
use Rattle.ref_model.specs.declared.ending.Ending.{Ending}
use Rattle.ref_model.specs.declared.ending.Ending.TheVariants.{Halted, Limit, Stalled, Starved}
use Rattle.ref_model.specs.declared.ending.Which.TheVariants.{Events}
use Rattle.ref_model.specs.declared.limits.Limits.{Limits}
use Rattle.ref_model.specs.Setting.{Setting}
use Rattle.ref_model.specs.State.{State}
use Rattle.ref_model.specs.Ending.{ending}
use Rattle.schedule_soundness.proofs.Histories.{histories_run}
use Rattle.machine.specs.Insides as insides
use Rattle.machine.specs.Legal.{IsCause, IsLegal, Works}
use Rattle.machine.specs.Live.{ListsLive, ListsMounted}
use Rattle.machine.specs.Machines.{Known, at_first, entries_left, errors, limit_reached, machine_ending, output, scheduled}
use Rattle.carrier.specs.Shared.{machine_parts}
use Rattle.carrier.specs.Runs.{AreListed, IsEndingOf, IsRun, IsTimed, own, caused, limited}
use Rattle.carrier.proofs.AloneLaws.{complete}
use Rattle.carrier_turns.proofs.EndingLaws.{ending_at, is_scheduled}

same_ending : (x y : Ending) → ◌≡◌ {A = Option Ending} (Some x) (Some y) → x ≡ y
same_ending x y e = cc

-- how the run has ended
pub ends_so : (m : Known) (told : Ending) → (x : IsLegal m) → machine_ending m ≡ Some told → told ≢ Halted → IsEndingOf m.setting x.after (length m.history) told
ends_so m told x is works =
    by m.told refl (ending x.after.state) refl (sym (ending_at m x.after (is_scheduled m x)) ∙ is)
  where
    limit : (b : Bool) → nat_lt m.setting.limits.events (length m.history + entries_left) ≡ b → ending x.after.state ≡ None
        → (if b then Some (Limit Events m.setting.limits.events) else None) ≡ Some told → IsEndingOf m.setting x.after (length m.history) told
    limit true less none e =
        limited none (sym (same_ending (Limit Events m.setting.limits.events) told e)) (ltb-true m.setting.limits.events (length m.history + entries_left) less)
    limit false less none e = absurd cc

    by : (o : Option Ending) → m.told ≡ o → (own_ : Option Ending) → ending x.after.state ≡ own_
        → option_or o (option_or own_ (limit_reached m.setting.limits (length m.history))) ≡ Some told → IsEndingOf m.setting x.after (length m.history) told
    by (Some e) was own_ mine so =
        let here = same_ending e told so in
        caused (subst (IsCause m.setting x.after) here (x.cause e was)) works
    by None was (Some e) mine so = own (mine ∙ so)
    by None was None mine so = limit (nat_lt m.setting.limits.events (length m.history + entries_left)) refl mine so

-- so a state is there
pub works_so : (m : Known) (told : Ending) → (x : IsLegal m) → machine_ending m ≡ Some told → told ≢ Halted → Works m
works_so m told x is works halted =
    works (sym (same_ending Halted told (sym (ap (λ o. option_or o (option_or (ending x.after.state) (limit_reached m.setting.limits (length m.history)))) halted)
    ∙ sym (ending_at m x.after (is_scheduled m x)) ∙ is)))

-- the threads that the answer lists
listed_by : (m : Known) (told : Ending) (threads : List ℕ) (v : Scheduled State) → scheduled m ≡ Some v → (told ≡ Stalled → ListsLive m threads)
    → (told ≡ Starved → ListsMounted m threads) → AreListed v told threads
listed_by m Stalled threads v at stalled starved = stalled refl v at
listed_by m Starved threads v at stalled starved = starved refl v at
listed_by m told threads v at stalled starved = tt

pub is_run : (m : Known) (told : Ending) (history : List Entry) (out err live : List ℕ) → (x : IsLegal m) → machine_ending m ≡ Some told → told ≢ Halted
    → history ≡ m.history → out ≡ output m → err ≡ errors m → (told ≡ Stalled → ListsLive m live) → (told ≡ Starved → ListsMounted m live) → (gives : ℕ → Bool) → IsTimed gives m
    → IsRun m.setting gives m.carriers history out err live told
is_run m told history out err live x is works same prints tells stalled starved gives timed =
    let at = is_scheduled m x in
    let ends = ends_so m told x is works in
    let reasons = timed.reasons (works_so m told x is works) x.first x.begins in
    subst (λ (es : List Entry). IsRun m.setting gives m.carriers es out err live told) (sym same) (record {
      first = x.first;
      begins = x.begins;
      after = x.after;
      legal = x.runs;
      runs = histories_run m.setting x.first m.carriers m.history x.after x.begins x.runs;
      ended = ends;
      prints = sym (ap (λ o. option_map_or (λ (v : Scheduled State). v.state.memory.out) o []) at) ∙ sym prints;
      tells = sym (ap (λ o. option_map_or (λ (v : Scheduled State). v.state.memory.err) o []) at) ∙ sym tells;
      listed = listed_by m told live x.after at stalled starved;
      times = timed.times;
      reasons = reasons;
      few = x.few;
      complete = complete m.setting x.first m.carriers m.history x.after told x.accepted x.some x.begins x.runs reasons ends;
    })

-- a setting is told by its parts
pub setting_is : (p : Setting) (w : World) (main : ℕ) (limits : Limits) → p.world ≡ w → p.main ≡ main → p.limits ≡ limits → insides.setting w main limits ≡ p
setting_is p w main limits a b c =
    ap (λ (v : World). insides.setting v main limits) (sym a) ∙ ap (λ (n : ℕ). insides.setting p.world n limits) (sym b) ∙ ap (λ (l : Limits). insides.setting p.world p.main l) (sym c)

-- ---- what a machine was given

pub same_setting : (m n : Known) → machine_parts m ≡ machine_parts n → m.setting ≡ n.setting
same_setting m n e =
    sym (setting_is m.setting n.setting.world n.setting.main n.setting.limits (ap (λ (x : World × ℕ × Limits × ℕ). x.0) e) (ap (λ (x : World × ℕ × Limits × ℕ). x.1) e)
    (ap (λ (x : World × ℕ × Limits × ℕ). x.2) e))

pub same_carriers : (m n : Known) → machine_parts m ≡ machine_parts n → m.carriers ≡ n.carriers
same_carriers m n e = ap (λ (x : World × ℕ × Limits × ℕ). x.3) e

pub same_parts : (m n : Known) → m.setting ≡ n.setting → m.carriers ≡ n.carriers → machine_parts m ≡ machine_parts n
same_parts m n setting carriers = λ i. ((setting i).world, (setting i).main, (setting i).limits, carriers i)

-- of a machine that goes back to one that began so
pub of_setting : (m first : Known) (p : Setting) (gives : ℕ → Bool) (w : World) (main : ℕ) (limits : Limits) (carriers : ℕ) (history : List Entry) (out err live : List ℕ) (told : Ending)
    → machine_parts m ≡ machine_parts first → first ≡ at_first (insides.setting w main limits) carriers → p.world ≡ w → p.main ≡ main → p.limits ≡ limits
    → IsRun m.setting gives m.carriers history out err live told → IsRun p gives carriers history out err live told
of_setting m first p gives w main limits carriers history out err live told parts began a b c run =
    let mine : m.setting ≡ p = same_setting m first parts ∙ ap (λ (k : Known). k.setting) began ∙ setting_is p w main limits a b c in
    let all : m.carriers ≡ carriers = same_carriers m first parts ∙ ap (λ (k : Known). k.carriers) began in
    subst (λ n. IsRun p gives n history out err live told) all (subst (λ q. IsRun q gives m.carriers history out err live told) mine run)

pub if_ok : {A E : Type 0} (r : Result A E) (P Q : A → Type 0) → ((x : A) → P x → Q x) → IfOk r P → IfOk r Q
if_ok (Ok x) P Q f p = f x p
if_ok (Err e) P Q f p = p
