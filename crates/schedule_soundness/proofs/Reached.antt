-- What holds of each state that a history of steps and ticks leads to.
use Rattle.std.proofs.Common.{◌≡◌, ℕ, zero, suc, Bool, true, false, List, [], ◌∷◌, Option, Some, None, refl, subst}
use Rattle.std.specs.Prelude.{if◌then◌else◌}
use Rattle.items.proofs.Binds.{some_is}
use Rattle.history.specs.declared.entry.Entry.{Entry}
use Rattle.history.specs.declared.entry.What.{What}
use Rattle.history.specs.declared.entry.What.TheVariants.{Mount, Unmount, Step, Clock}
use Rattle.schedule_model.specs.Run.{replay, state_after}
use Rattle.schedule_model.specs.Changes.{IsReached}
use Rattle.ref_model.specs.Setting.{Setting}
use Rattle.ref_model.specs.State.{State}
use Rattle.ref_model.specs.Step.{step}
use Rattle.ref_model.specs.Waiting.{at_time}
use Rattle.ref_model.specs.Run.{steps, after_steps}
use Rattle.ref_model.specs.Entries.{is_grouped}
use Rattle.ref_model.specs.Looks.{grouped_steps, machine_from}

pub inner_state : (r q : State) → ◌≡◌ {A = Option State} (Some r) (Some q) → r ≡ q
inner_state r q e = cc

pub grouped_is : (b : Bool) (o : Option State) (q : State) → (if b then o else None) ≡ Some q → (b ≡ true) × (o ≡ Some q)
grouped_is true o q e = (refl, e)
grouped_is false o q e = absurd cc

-- what holds of a state holds after so many steps
pub steps_hold : (p : Setting) (P : State → Type 0) → ((r q : State) (t : ℕ) (pick : Option ℕ) → P r → step p r t pick ≡ Some q → P q)
    → (n : ℕ) (r q : State) (t : ℕ) → P r → steps p n r t ≡ Some q → P q
steps_hold p P each zero r q t holds e = subst P (inner_state r q e) holds
steps_hold p P each (suc n) r q t holds e =
    let s = some_is (steps p n r t) (λ s. step p s t None) q e in
    each s.0 q t None (steps_hold p P each n r s.0 t holds s.1) s.2

pub entry_holds : (p : Setting) (P : State → Type 0) → ((r q : State) (t : ℕ) (pick : Option ℕ) → P r → step p r t pick ≡ Some q → P q)
    → (r q : State) (t n : ℕ) (pick : Option ℕ) → P r → grouped_steps p r t n pick ≡ Some q → P q
entry_holds p P each r q t n pick holds e = by n (grouped_is (is_grouped p.world r t n) (after_steps p r t n pick) q e).1
  where
    by : (n : ℕ) → after_steps p r t n pick ≡ Some q → P q
    by zero e = absurd cc
    by (suc n) e =
        let s = some_is (steps p n r t) (λ s. step p s t pick) q e in each s.0 q t pick (steps_hold p P each n r s.0 t holds s.1) s.2

what_holds : (p : Setting) (first : State) (P : State → Type 0)
    → ((r q : State) (t : ℕ) (pick : Option ℕ) → P r → step p r t pick ≡ Some q → P q)
    → ((r q : State) (now : ℕ) → P r → at_time r now ≡ Some q → P q) → (r q : State) (what : What) → P r
    → state_after (machine_from p first) r what ≡ Some q → P q
what_holds p first P each time r q (Mount t) holds e = subst P (inner_state r q e) holds
what_holds p first P each time r q (Unmount t) holds e = subst P (inner_state r q e) holds
what_holds p first P each time r q (Step t n pick) holds e = entry_holds p P each r q t n pick holds e
what_holds p first P each time r q (Clock now) holds e = time r q now holds e

replay_holds : (p : Setting) (first : State) (P : State → Type 0)
    → ((r q : State) (t : ℕ) (pick : Option ℕ) → P r → step p r t pick ≡ Some q → P q)
    → ((r q : State) (now : ℕ) → P r → at_time r now ≡ Some q → P q) → (es : List Entry) (r q : State) → P r
    → replay (machine_from p first) r es ≡ Some q → P q
replay_holds p first P each time [] r q holds e = subst P (inner_state r q e) holds
replay_holds p first P each time (a ∷ es) r q holds e =
    let s = some_is (state_after (machine_from p first) r a.what) (λ s. replay (machine_from p first) s es) q e in
    replay_holds p first P each time es s.0 q (what_holds p first P each time r s.0 a.what holds s.1) s.2

pub reached_holds : (p : Setting) (first : State) (P : State → Type 0)
    → ((r q : State) (t : ℕ) (pick : Option ℕ) → P r → step p r t pick ≡ Some q → P q)
    → ((r q : State) (now : ℕ) → P r → at_time r now ≡ Some q → P q) → P first → (r : State) → IsReached (machine_from p first) r → P r
reached_holds p first P each time opens r reached = replay_holds p first P each time reached.0 first r opens reached.1
