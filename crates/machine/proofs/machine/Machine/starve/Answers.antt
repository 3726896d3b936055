use Rattle.std.proofs.Common.{◌≡◌, ◌-◌, ℕ, Bool, List, Option, None, Some, ap, false, length, subst, sym, vec_capacity, ◌∙◌}
use Rattle.std.specs.Prelude.{IfNone, IfSome, is_some}
use Rattle.ref_model.specs.State.{State}
use Rattle.ref_model.specs.Looks.{is_stalled}
use Rattle.program_state.specs.States.{IsState}
use Rattle.machine.specs.Insides.{setting_in}
use Rattle.machine.specs.Legal.{HasNotStarved}
use Rattle.machine.specs.Machines.{Given, Known, machine_ending}
use Rattle.machine.specs.Stalls.{AreBelow, AreKeptBack, GoesOnHere}
use Rattle.machine.proofs.StallCallLaws.{by_first, kept_by_none, mounted_below_all, pins_match, starved_kept}
use Rattle.machine.proofs.machine.Machine.starve.Goals as goal

pub first_going-requires : goal.first_going-requires
first_going-requires c =
    let a = c.self.inside in
    let none = ap machine_ending c.self.view_is ∙ c.requires.going in
    record {
      below = subst (λ (ms : List (Option ℕ)). AreBelow ms (length a.state.threads.threads)) (sym c.as_slice.ensures.value)
          (mounted_below_all (setting_in a) a.carriers a.state a.deques a.mounted.items a.history.items a.told (vec_capacity a.history - length a.history.items) c.self.invariant.sound none);
      sizes = ap length c.as_slice-2.ensures.value
          ∙ pins_match (setting_in a) a.carriers a.state a.deques a.mounted.items a.history.items a.told (vec_capacity a.history - length a.history.items) c.self.invariant.sound none
          a.pins.items c.self.invariant.pins
          ∙ ap length (sym c.as_slice.ensures.value);
    }

pub returns-then-is_some : goal.returns-then-is_some
returns-then-is_some c =
    let a = c.self.inside in
    let none = ap machine_ending c.self.view_is ∙ c.requires.going in
    let goes : Option ℕ → List (Option ℕ) → List Bool → Type 0 =
    λ o ms ps. IfSome o (λ i. (r : State) (out : ℕ → Bool) → IsState a.state r out → GoesOnHere r ms ps i) in
    subst (λ (k : Known). HasNotStarved k k) c.self.view_is
    (by_first (setting_in a) a.carriers a.state a.deques a.mounted.items a.history.items a.told (vec_capacity a.history - length a.history.items) c.self.invariant.sound none
    a.pins.items c.self.invariant.pins c.first_going.result
    (subst (λ ps. goes c.first_going.result a.mounted.items ps) c.as_slice-2.ensures.value
    (subst (λ ms. goes c.first_going.result ms c.as_slice-2.result.now) c.as_slice.ensures.value c.first_going.ensures.some))
    (sym c.is_some.ensures ∙ c.if-is_some.true))

pub invariant_of-self : goal.invariant_of-self
invariant_of-self c =
    let a = c.self.inside in
    let none = ap machine_ending c.self.view_is ∙ c.requires.going in
    let known = c.self.invariant.pins in
    let kept : List (Option ℕ) → List Bool → Type 0 = λ ms ps. (r : State) (out : ℕ → Bool) → IsState a.state r out → AreKeptBack r ms ps in
    let all = kept_by_none (c.first_going.result) (kept c.as_slice.result.now c.as_slice-2.result.now) c.first_going.ensures.none (sym c.is_some.ensures ∙ c.if-is_some.false) in
    record {
      sound = starved_kept (setting_in a) a.carriers a.state a.deques a.mounted.items a.history.items a.told (vec_capacity a.history - length a.history.items) c.self.invariant.sound none
          a.pins.items known
          (subst (λ (k : Known). Given k (λ v. is_stalled k.setting.world v.state ≡ false)) (sym c.self.view_is) c.requires.some)
          (subst (λ ps. kept a.mounted.items ps) c.as_slice-2.ensures.value (subst (λ ms. kept ms c.as_slice-2.result.now) c.as_slice.ensures.value all));
      pins = record { sizes = known.sizes; known = known.known };
    }
