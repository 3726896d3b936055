use Rattle.std.proofs.Common.{◌-◌, ◌<◌, ℕ, List, ap, arith, get_or, length, length-set, refl, subst, sym, vec_capacity, ◌∙◌, false}
use Rattle.history.specs.declared.entry.Entry.{Entry}
use Rattle.machine.specs.Hands.{Holds, Idle, IsLoose, Lives, OwesNothing}
use Rattle.machine.specs.Insides.{IsConsistent, setting_in}
use Rattle.machine.specs.Legal.{GoesOn}
use Rattle.machine.specs.Machines.{Known, machine_ending}
use Rattle.machine.proofs.NextLaws.{frozen_there, idle_inside, known_of, next_free, next_going, next_holds, next_kept, next_lives, next_loose, number}
use Rattle.history.specs.declared.entry.What.TheVariants as whats
use Rattle.machine.proofs.PinLaws.{knows_after, set_noted, set_rest}
use Rattle.machine.proofs.machine.Machine.next.Goals as goal

pub take_frozen-frozen-requires : goal.take_frozen-frozen-requires
take_frozen-frozen-requires c =
    let a = c.self.inside in
    frozen_there (setting_in a) a.carriers a.state a.deques a.mounted.items a.history.items a.told (vec_capacity a.history - length a.history.items) c.self.invariant.sound
    c.args.c c.in_ok-t.field-0-0 c.in_ok-t.t (ap machine_ending c.self.view_is ∙ c.requires.going)
    (subst (λ (m : Known). Idle m c.args.c) (sym c.self.view_is) c.requires.idle) (sym c.in_ok-t.ensures.value)

pub set_mounted-requires : goal.set_mounted-requires
set_mounted-requires c =
    let a = c.self.inside in
    idle_inside (setting_in a) a.carriers a.state a.deques a.mounted.items a.history.items a.told (vec_capacity a.history - length a.history.items) c.self.invariant.sound
    c.args.c (ap machine_ending c.self.view_is ∙ c.requires.going) (subst (λ (m : Known). Idle m c.args.c) (sym c.self.view_is) c.requires.idle)

pub set_pin-requires : goal.set_pin-requires
set_pin-requires c =
    let sizes = c.self.invariant.pins.sizes in
    let carriers = ap (λ (m : Known). m.carriers) c.self.view_is in
    let within = c.requires.carrier in
    omega arith

pub invariant_of-self-2 : goal.invariant_of-self-2
invariant_of-self-2 c =
    let a = c.self.inside in
    let new = record a.state { frozen = c.take_frozen-frozen.new.frozen } in
    let sizes = c.self.invariant.pins.sizes in
    let carriers = ap (λ (m : Known). m.carriers) c.self.view_is in
    let carrier = c.requires.carrier in
    let within : c.args.c < length a.pins.items = omega arith in
    let sound =
    subst (λ (es : List Entry). IsConsistent (setting_in a) a.carriers new c.take.new.self c.set_mounted.new.mounted.items es a.told)
    (sym c.push_reserved.ensures.items)
    (next_kept (setting_in a) a.carriers a.state a.deques a.mounted.items a.history.items a.told (vec_capacity a.history - length a.history.items) c.self.invariant.sound
    c.args.c c.in_ok-t.field-0-0 c.in_ok-t.t (ap machine_ending c.self.view_is ∙ c.requires.going)
    (subst (λ (m : Known). Idle m c.args.c) (sym c.self.view_is) c.requires.idle) (sym c.in_ok-t.ensures.value)
    new c.take.new.self c.set_mounted.new.mounted.items c.take.result (c.take.ensures.value ∙ sym c.in_ok-t.ensures.value)
    (record { memory = refl; threads = refl; wakes = refl; monitors = refl; wheel = refl; keys = refl; now = refl; unnamed = refl; most_threads = refl }) c.take_frozen-frozen.ensures.after c.take.ensures.leaves c.set_mounted.ensures) in
    record {
      sound = sound;
      pins = knows_after (setting_in a) a.carriers a.state a.deques a.mounted.items a.history.items a.told c.self.invariant.sound
          new c.take.new.self c.set_mounted.new.mounted.items c.push_reserved.new.self.items a.told sound c.args.c (whats.Mount c.in_ok-t.t) c.push_reserved.ensures.items (vec_capacity a.history - length a.history.items) _
          a.pins.items c.set_pin.new.pins.items c.self.invariant.pins (ap length c.set_pin.ensures ∙ length-set a.pins.items c.args.c false)
          (λ k ne. ap (λ ps. get_or ps k false) c.set_pin.ensures ∙ set_rest a.pins.items c.args.c false k ne)
          (ap (λ ps. get_or ps c.args.c false) c.set_pin.ensures ∙ set_noted a.pins.items c.args.c false within);
    }

pub returns-clause-hand : goal.returns-clause-hand
returns-clause-hand c =
    let a = c.self.inside in
    let k = c.take_frozen-frozen.result in
    let room = vec_capacity c.push_reserved.new.self - length c.push_reserved.new.self.items in
    subst (λ (es : List Entry). Holds (known_of (setting_in a) a.carriers es room a.told) c.args.c k.thread 0 k.stack.frames) (sym c.push_reserved.ensures.items)
    (next_holds (setting_in a) a.carriers a.state a.deques a.mounted.items a.history.items a.told (vec_capacity a.history - length a.history.items) c.self.invariant.sound
    c.args.c c.in_ok-t.field-0-0 c.in_ok-t.t (ap machine_ending c.self.view_is ∙ c.requires.going)
    (subst (λ (m : Known). Idle m c.args.c) (sym c.self.view_is) c.requires.idle) (sym c.in_ok-t.ensures.value) room k c.take_frozen-frozen.ensures.taken)

pub returns-clause-live : goal.returns-clause-live
returns-clause-live c =
    let a = c.self.inside in
    let k = c.take_frozen-frozen.result in
    let room = vec_capacity c.push_reserved.new.self - length c.push_reserved.new.self.items in
    let spare = vec_capacity a.history - length a.history.items in
    let none = ap machine_ending c.self.view_is ∙ c.requires.going in
    let idle = subst (λ (m : Known). Idle m c.args.c) (sym c.self.view_is) c.requires.idle in
    let found = sym c.in_ok-t.ensures.value in
    subst (λ (u : ℕ). Lives (known_of (setting_in a) a.carriers c.push_reserved.new.self.items room a.told) u)
    (sym (number (setting_in a) a.carriers a.state a.deques a.mounted.items a.history.items a.told spare c.self.invariant.sound c.args.c c.in_ok-t.field-0-0 c.in_ok-t.t none idle found
    k c.take_frozen-frozen.ensures.taken))
    (subst (λ (es : List Entry). Lives (known_of (setting_in a) a.carriers es room a.told) c.in_ok-t.t) (sym c.push_reserved.ensures.items)
    (next_lives (setting_in a) a.carriers a.state a.deques a.mounted.items a.history.items a.told spare c.self.invariant.sound c.args.c c.in_ok-t.field-0-0 c.in_ok-t.t none idle found room))

pub returns-clause-free : goal.returns-clause-free
returns-clause-free c =
    let a = c.self.inside in
    let k = c.take_frozen-frozen.result in
    let room = vec_capacity c.push_reserved.new.self - length c.push_reserved.new.self.items in
    let spare = vec_capacity a.history - length a.history.items in
    let none = ap machine_ending c.self.view_is ∙ c.requires.going in
    let idle = subst (λ (m : Known). Idle m c.args.c) (sym c.self.view_is) c.requires.idle in
    let found = sym c.in_ok-t.ensures.value in
    subst (λ (u : ℕ). OwesNothing (known_of (setting_in a) a.carriers c.push_reserved.new.self.items room a.told) u)
    (sym (number (setting_in a) a.carriers a.state a.deques a.mounted.items a.history.items a.told spare c.self.invariant.sound c.args.c c.in_ok-t.field-0-0 c.in_ok-t.t none idle found
    k c.take_frozen-frozen.ensures.taken))
    (subst (λ (es : List Entry). OwesNothing (known_of (setting_in a) a.carriers es room a.told) c.in_ok-t.t) (sym c.push_reserved.ensures.items)
    (next_free (setting_in a) a.carriers a.state a.deques a.mounted.items a.history.items a.told spare c.self.invariant.sound c.args.c c.in_ok-t.field-0-0 c.in_ok-t.t none idle found room))

pub returns-clause-goes_on : goal.returns-clause-goes_on
returns-clause-goes_on c =
    let a = c.self.inside in
    let room = vec_capacity c.push_reserved.new.self - length c.push_reserved.new.self.items in
    subst (λ (es : List Entry). GoesOn (known_of (setting_in a) a.carriers es room a.told)) (sym c.push_reserved.ensures.items)
    (next_going (setting_in a) a.carriers a.state a.deques a.mounted.items a.history.items a.told (vec_capacity a.history - length a.history.items) c.self.invariant.sound
    c.args.c c.in_ok-t.field-0-0 c.in_ok-t.t (ap machine_ending c.self.view_is ∙ c.requires.going)
    (subst (λ (m : Known). Idle m c.args.c) (sym c.self.view_is) c.requires.idle) (sym c.in_ok-t.ensures.value) room)

pub returns-clause-loose : goal.returns-clause-loose
returns-clause-loose c =
    let a = c.self.inside in
    let k = c.take_frozen-frozen.result in
    let room = vec_capacity c.push_reserved.new.self - length c.push_reserved.new.self.items in
    let spare = vec_capacity a.history - length a.history.items in
    let none = ap machine_ending c.self.view_is ∙ c.requires.going in
    let idle = subst (λ (m : Known). Idle m c.args.c) (sym c.self.view_is) c.requires.idle in
    let found = sym c.in_ok-t.ensures.value in
    subst (λ (u : ℕ). IsLoose (known_of (setting_in a) a.carriers c.push_reserved.new.self.items room a.told) u)
    (sym (number (setting_in a) a.carriers a.state a.deques a.mounted.items a.history.items a.told spare c.self.invariant.sound c.args.c c.in_ok-t.field-0-0 c.in_ok-t.t none idle found
    k c.take_frozen-frozen.ensures.taken))
    (subst (λ (es : List Entry). IsLoose (known_of (setting_in a) a.carriers es room a.told) c.in_ok-t.t) (sym c.push_reserved.ensures.items)
    (next_loose (setting_in a) a.carriers a.state a.deques a.mounted.items a.history.items a.told spare c.self.invariant.sound c.args.c c.in_ok-t.field-0-0 c.in_ok-t.t none idle found room))
