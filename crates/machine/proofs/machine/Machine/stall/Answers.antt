use Rattle.std.proofs.Common.{◌-◌, ℕ, List, Option, ap, length, subst, sym, vec_capacity, ◌∙◌}
use Rattle.std.specs.List.{list_any}
use Rattle.machine.specs.Insides.{setting_in}
use Rattle.machine.specs.Legal.{HasNotStalled}
use Rattle.machine.specs.Machines.{Known, machine_ending}
use Rattle.machine.specs.Stalls.{AreBelow, goes_on}
use Rattle.machine.proofs.StallCallLaws.{by_deque, by_mounted, by_time, carriers_all, deques_below_all, mounted_below_all, stalled_kept}
use Rattle.machine.proofs.machine.Machine.stall.Goals as goal

pub any_enabled-requires : goal.any_enabled-requires
any_enabled-requires c =
    let a = c.self.inside in
    subst (λ (ms : List (Option ℕ)). AreBelow ms (length a.state.threads.threads)) (sym c.as_slice.ensures.value)
    (mounted_below_all (setting_in a) a.carriers a.state a.deques a.mounted.items a.history.items a.told (vec_capacity a.history - length a.history.items) c.self.invariant.sound
    (ap machine_ending c.self.view_is ∙ c.requires))

pub any_deque_goes-requires : goal.any_deque_goes-requires
any_deque_goes-requires c =
    let a = c.self.inside in
    let none = ap machine_ending c.self.view_is ∙ c.requires in
    record {
      carriers = carriers_all (setting_in a) a.carriers a.state a.deques a.mounted.items a.history.items a.told (vec_capacity a.history - length a.history.items) c.self.invariant.sound none;
      below = deques_below_all (setting_in a) a.carriers a.state a.deques a.mounted.items a.history.items a.told (vec_capacity a.history - length a.history.items) c.self.invariant.sound none;
    }

pub returns-then-any_enabled : goal.returns-then-any_enabled
returns-then-any_enabled c =
    let a = c.self.inside in
    subst (λ (k : Known). HasNotStalled k k) c.self.view_is
    (by_mounted (setting_in a) a.carriers a.state a.deques a.mounted.items a.history.items a.told (vec_capacity a.history - length a.history.items) c.self.invariant.sound
    (ap machine_ending c.self.view_is ∙ c.requires)
    c.any_enabled.result (λ r out is. c.any_enabled.ensures r out is ∙ ap (list_any (goes_on r)) c.as_slice.ensures.value) c.if-any_enabled.true)

pub returns-then-is_some : goal.returns-then-is_some
returns-then-is_some c =
    let a = c.self.inside in
    subst (λ (k : Known). HasNotStalled k k) c.self.view_is
    (by_time (setting_in a) a.carriers a.state a.deques a.mounted.items a.history.items a.told (vec_capacity a.history - length a.history.items) c.self.invariant.sound
    (ap machine_ending c.self.view_is ∙ c.requires)
    c.earliest.result c.earliest.ensures.least (sym c.is_some.ensures ∙ c.if-is_some.true))

pub returns-then-any_deque_goes : goal.returns-then-any_deque_goes
returns-then-any_deque_goes c =
    let a = c.self.inside in
    subst (λ (k : Known). HasNotStalled k k) c.self.view_is
    (by_deque (setting_in a) a.carriers a.state a.deques a.mounted.items a.history.items a.told (vec_capacity a.history - length a.history.items) c.self.invariant.sound
    (ap machine_ending c.self.view_is ∙ c.requires)
    c.any_deque_goes.result c.any_deque_goes.ensures c.if-any_deque_goes.true)

pub invariant_of-self : goal.invariant_of-self
invariant_of-self c =
    let a = c.self.inside in
    let known = c.self.invariant.pins in
    record {
      sound = stalled_kept (setting_in a) a.carriers a.state a.deques a.mounted.items a.history.items a.told (vec_capacity a.history - length a.history.items) c.self.invariant.sound
          (ap machine_ending c.self.view_is ∙ c.requires)
          c.any_deque_goes.result c.any_enabled.result c.earliest.result c.any_deque_goes.ensures c.if-any_deque_goes.false
          (λ r out is. c.any_enabled.ensures r out is ∙ ap (list_any (goes_on r)) c.as_slice.ensures.value) c.if-any_enabled.false
          c.earliest.ensures.none (sym c.is_some.ensures ∙ c.if-is_some.false);
      pins = record { sizes = known.sizes; known = known.known };
    }
