-- How the owner of a monitor leaves it once.
use Rattle.std.proofs.Common.{◌≡◌, ◌-◌, ◌==◌, ◌<◌, arith, ltb, ℕ, zero, suc, Bool, true, false, Option, Some, None, refl, ap, sym, subst, ◌∙◌}
use Rattle.std.specs.Prelude.{if◌then◌else◌, is_none, slice_get}
use Rattle.std.specs.Option.{option_map}
use Rattle.std.proofs.lemmas.Bool.{ltb-true, ltb-false}
use Rattle.monitors.specs.Monitors.{Monitor, Monitors, after_exit, monitor_of}
use Rattle.ref_model.specs.Monitors.{is_owner, left_once, owns, with_exit}
use Rattle.ref_model.specs.State.{Owner, State}
use Rattle.schedule_soundness.specs.PutLaws.{OthersStay, Stays}
use Rattle.monitor_soundness.specs.MonitorPuts.{MonitorStep}
use Rattle.program_state.specs.declared.state.ProgramState.{ProgramState}
use Rattle.program_state.specs.Monitors.{HaveSameLists, ListsMove, owner_in, stay}
use Rattle.program_state.specs.States.{IsState}
use Rattle.program_state.specs.Steps.{PutsNobody, keeps_monitor, leaves_others}
use Rattle.monitor_steps.specs.declared.outcome.MonitorOutcome.{MonitorOutcome}
use Rattle.monitor_steps.specs.declared.outcome.MonitorOutcome.TheVariants as outcomes
use Rattle.monitor_steps.specs.Outcomes.{Frees, StaysOrKeeps, others_stay, owner_stays}
use Rattle.monitor_steps.specs.Owners.{HasLeft, IsLeft, IsLeftAs, owns_in}
use Rattle.monitor_steps.specs.Replies.{LeavesOthers, TellsFirst}
use Rattle.program_state.proofs.SeatLaws.{eqb_other, eqb_same}
use Rattle.monitor_steps.proofs.MonitorMoves.{enters_of, holds_owner, lists_same, owner_at, owner_elsewhere, waits_of}
use Rattle.monitor_steps.proofs.StateMoves.{owners_put}

-- ---- the monitor

abbrev pub owner_with : ℕ → ℕ → Owner
owner_with t count = record { thread = t; count = count }

pub owner_is : (t : ℕ) (m : Monitor) → m.owner ≡ Some t → owner_in m ≡ Some (owner_with t m.count)
owner_is t m owner = ap (option_map (λ u. owner_with u m.count)) owner

not_one : (c : ℕ) → ltb 1 c ≡ true → (c == 1) ≡ false
not_one c e = eqb_other c 1 (λ same. let more = ltb-true 1 c e in omega arith)

is_one : (c : ℕ) → ltb 1 c ≡ false → (c == 0) ≡ false → c ≡ 1
is_one c e some = let few = ltb-false 1 c e in let more = not_zero c some in omega arith
  where
    not_zero : (c : ℕ) → (c == 0) ≡ false → 0 < c
    not_zero zero e = absurd cc
    not_zero (suc n) e = omega arith

left_owner : (t : ℕ) (m : Monitor) → m.owner ≡ Some t → (m.count == 0) ≡ false → owner_in (after_exit m) ≡ left_once (owner_in m)
left_owner t m owner some = by (ltb 1 m.count) refl ∙ ap left_once (sym (owner_is t m owner))
  where
    by : (b : Bool) → ltb 1 m.count ≡ b → owner_in (if b then record m { count = m.count - 1 } else record m { owner = None; count = 0 }) ≡ left_once (Some (owner_with t m.count))
    by true e =
        ap (option_map (λ u. owner_with u (m.count - 1))) owner
        ∙ ap (λ b. if b then None else Some (owner_with t (m.count - 1))) (sym (not_one m.count e))
    by false e =
        ap (λ b. if b then None else Some (owner_with t (m.count - 1))) (sym (ap (λ c. c == 1) (is_one m.count e some)))

exit_waits : (m : Monitor) → (after_exit m).wait_list ≡ m.wait_list
exit_waits m = by (ltb 1 m.count)
  where
    by : (b : Bool) → waits_of (if b then record m { count = m.count - 1 } else record m { owner = None; count = 0 }) ≡ m.wait_list
    by true = refl
    by false = refl

exit_enters : (m : Monitor) → (after_exit m).entry_list ≡ m.entry_list
exit_enters m = by (ltb 1 m.count)
  where
    by : (b : Bool) → enters_of (if b then record m { count = m.count - 1 } else record m { owner = None; count = 0 }) ≡ m.entry_list
    by true = refl
    by false = refl

pub exit_lists : (t o : ℕ) (old new : Monitors) → HasLeft t o old new → HaveSameLists old new
exit_lists t o old new left =
    lists_same old new o (after_exit (monitor_of old o)) left.becomes (exit_waits (monitor_of old o)) (exit_enters (monitor_of old o))

pub same_all : (m : Monitors) → HaveSameLists m m
same_all m = record { waits = λ o. refl; enters = λ o. refl }

pub as_left : (t o : ℕ) (outcome : MonitorOutcome) (old new : Monitors) → IsLeftAs t o outcome old new → HasLeft t o old new
as_left t o outcomes.Done old new left = left.0
as_left t o (outcomes.Frees first) old new left = left.0
as_left t o (outcomes.Notifies u) old new left = absurd left

pub left_lists : (t o : ℕ) (left : Option MonitorOutcome) (old new : Monitors) → IsLeft t o left old new → ListsMove old new
left_lists t o None old new left = stay (subst (HaveSameLists old) (sym left.1) (same_all old))
left_lists t o (Some outcome) old new left = stay (exit_lists t o old new (as_left t o outcome old new left))

-- ---- the state

pub left_state : (a : ProgramState) (m : Monitors) (t o : ℕ) (r : State) (out : ℕ → Bool) → IsState a r out → HasLeft t o a.monitors m → IsState (record a { monitors = m }) (with_exit r o) out
left_state a m t o r out is left =
    let old : Monitor = monitor_of a.monitors o in
    owners_put a m (λ p. if p == o then left_once (r.owners o) else r.owners p) r out is
    (holds_owner a.monitors m r.threads r.owners o (after_exit old) (left_once (r.owners o)) is.monitors left.becomes (exit_waits old) (exit_enters old)
    (left_owner t old left.owner left.entered ∙ ap left_once (is.monitors.owners_are o)))

owner_had : (a : ProgramState) (m : Monitors) (t o : ℕ) (r : State) (out : ℕ → Bool) → IsState a r out → HasLeft t o a.monitors m → r.owners o ≡ Some (owner_with t (monitor_of a.monitors o).count)
owner_had a m t o r out is left = sym (is.monitors.owners_are o) ∙ owner_is t (monitor_of a.monitors o) left.owner

pub left_owned : (a : ProgramState) (m : Monitors) (t o : ℕ) (r : State) (out : ℕ → Bool) → IsState a r out → HasLeft t o a.monitors m → owns r t o ≡ true
left_owned a m t o r out is left = ap (is_owner t) (owner_had a m t o r out is left) ∙ eqb_same t

pub not_owned : (a : ProgramState) (t o : ℕ) (b : Bool) (r : State) (out : ℕ → Bool) → IsState a r out → owns_in a.monitors t o ≡ b → owns r t o ≡ b
not_owned a t o b r out is e = ap (is_owner t) (sym (is.monitors.owners_are o)) ∙ e

-- the monitor alone has another owner, with what thread t does
pub monitor_step : (t o : ℕ) (owner : Option Owner) (r s q : State) → s.threads ≡ r.threads → s.owners ≡ (λ p. if p == o then owner else r.owners p) → s.now ≡ r.now → OthersStay t s q
    → MonitorStep t o r q
monitor_step t o owner r s q threads owners now others =
    record {
      threads = λ u ne. subst (λ ts. Stays (slice_get ts u) (slice_get q.threads u)) threads (others.threads u ne);
      owners = λ p ne. ap (λ (f : ℕ → Option Owner). f p) (others.owners ∙ owners) ∙ owner_elsewhere r.owners p o owner ne;
      now = others.now ∙ now;
    }

pub owner_now : (o : ℕ) (owner : Option Owner) (r s q : State) (t : ℕ) → s.owners ≡ (λ p. if p == o then owner else r.owners p) → OthersStay t s q → q.owners o ≡ owner
owner_now o owner r s q t owners others = ap (λ (f : ℕ → Option Owner). f o) (others.owners ∙ owners) ∙ owner_at r.owners o owner

-- what the step leaves of others
abbrev pub LeavesSo : ℕ → ℕ → MonitorOutcome → State → State → Type 0
LeavesSo t o outcomes.Done before after = StaysOrKeeps t before after
LeavesSo t o (outcomes.Frees first) before after = Frees t o before after
LeavesSo t o (outcomes.Notifies u) before after = ⊥

pub left_so : (a : ProgramState) (m : Monitors) (t o : ℕ) (outcome : MonitorOutcome) (r : State) (out : ℕ → Bool) → IsState a r out → IsLeftAs t o outcome a.monitors m
    → (q : State) → OthersStay t (with_exit r o) q → LeavesSo t o outcome r q
left_so a m t o outcomes.Done r out is left q others =
    owner_stays o (monitor_step t o (left_once (r.owners o)) r (with_exit r o) q refl refl refl others)
    (ap is_none (owner_now o (left_once (r.owners o)) r (with_exit r o) q t refl others ∙ ap left_once (owner_had a m t o r out is left.0))
    ∙ ap (λ b. is_none (if b then None else Some (owner_with t ((monitor_of a.monitors o).count - 1)))) (not_one (monitor_of a.monitors o).count left.1))
left_so a m t o (outcomes.Frees first) r out is left q others =
    record {
      step = monitor_step t o (left_once (r.owners o)) r (with_exit r o) q refl refl refl others;
      loses = record {
        was = ap is_none (owner_had a m t o r out is left.0);
        is = ap is_none (owner_now o (left_once (r.owners o)) r (with_exit r o) q t refl others ∙ ap left_once (owner_had a m t o r out is left.0))
            ∙ ap (λ c. is_none (if c == 1 then None else Some (owner_with t ((monitor_of a.monitors o).count - 1))))
            (is_one (monitor_of a.monitors o).count left.1 left.0.entered);
      };
    }
left_so a m t o (outcomes.Notifies u) r out is left q others = absurd left

puts_nobody : (t : ℕ) (before after : State) → StaysOrKeeps t before after → PutsNobody t before after
puts_nobody t before after (others_stay others) = leaves_others others
puts_nobody t before after (owner_stays o step owned) = keeps_monitor o step owned

leaves_so : (t o : ℕ) (outcome : MonitorOutcome) (before after : State) → LeavesSo t o outcome before after → LeavesOthers t o outcome before after
leaves_so t o outcomes.Done before after h = puts_nobody t before after h
leaves_so t o (outcomes.Frees first) before after h = h
leaves_so t o (outcomes.Notifies u) before after h = absurd h

pub left_others : (a : ProgramState) (m : Monitors) (t o : ℕ) (outcome : MonitorOutcome) (r : State) (out : ℕ → Bool) → IsState a r out → IsLeftAs t o outcome a.monitors m
    → (q : State) → OthersStay t (with_exit r o) q → LeavesOthers t o outcome r q
left_others a m t o outcome r out is left q others = leaves_so t o outcome r q (left_so a m t o outcome r out is left q others)

pub left_first : (t o : ℕ) (outcome : MonitorOutcome) (old new : Monitors) → IsLeftAs t o outcome old new → TellsFirst o outcome old new
left_first t o outcomes.Done old new left = tt
left_first t o (outcomes.Frees first) old new left = left.2 ∙ ap (λ xs. slice_get xs 0) (sym ((exit_lists t o old new left.0).enters o))
left_first t o (outcomes.Notifies u) old new left = absurd left
