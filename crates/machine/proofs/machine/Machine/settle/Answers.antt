use Rattle.std.proofs.Common.{◌≡◌, ◌-◌, ◌<◌, ℕ, List, ap, length, refl, subst, sym, vec_capacity, ◌∙◌}
use Rattle.history.specs.declared.entry.Entry.{Entry}
use Rattle.thread_lists.specs.Lists.{count, total}
use Rattle.machine.specs.Hands.{Holds, Idle, MayUnmount}
use Rattle.machine.specs.Insides.{IsConsistent, setting_in}
use Rattle.machine.specs.Machines.{Known}
use Rattle.machine.proofs.NextLaws.{known_of}
use Rattle.machine.proofs.SettleLaws.{carrier_inside, deque_inside, frozen_inside, in_room, in_table, loose, settle_kept, unmount_idle}
use Rattle.history.specs.declared.entry.What.TheVariants as whats
use Rattle.machine.proofs.PinLaws.{knows_after}
use Rattle.machine.proofs.machine.Machine.settle.Goals as goal

pub may_step-goes_on-requires : goal.may_step-goes_on-requires
may_step-goes_on-requires c =
    let a = c.self.inside in
    let k = c.args.frozen in
    let none = ap (λ (m : Known). m.told) c.self.view_is ∙ c.requires.going.told in
    let may = subst (λ (m : Known). MayUnmount m c.args.c k.thread) (sym c.self.view_is) c.requires.may in
    let hand = subst (λ (m : Known). Holds m c.args.c k.thread 0 k.stack.frames) (sym c.self.view_is) c.requires.hand in
    subst (λ (u : ℕ). u < length a.state.threads.threads) (sym c.thread-t.ensures)
    (in_table (setting_in a) a.carriers a.state a.deques a.mounted.items a.history.items a.told (vec_capacity a.history - length a.history.items) c.self.invariant.sound
    c.args.c k.thread none may k refl hand)

pub is_alive-live-requires : goal.is_alive-live-requires
is_alive-live-requires c =
    let a = c.self.inside in
    let k = c.args.frozen in
    let none = ap (λ (m : Known). m.told) c.self.view_is ∙ c.requires.going.told in
    let may = subst (λ (m : Known). MayUnmount m c.args.c k.thread) (sym c.self.view_is) c.requires.may in
    let hand = subst (λ (m : Known). Holds m c.args.c k.thread 0 k.stack.frames) (sym c.self.view_is) c.requires.hand in
    subst (λ (u : ℕ). u < length a.state.threads.threads) (sym c.thread-t.ensures)
    (in_table (setting_in a) a.carriers a.state a.deques a.mounted.items a.history.items a.told (vec_capacity a.history - length a.history.items) c.self.invariant.sound
    c.args.c k.thread none may k refl hand)

pub put_frozen-requires : goal.put_frozen-requires
put_frozen-requires c =
    let a = c.self.inside in
    let k = c.args.frozen in
    let none = ap (λ (m : Known). m.told) c.self.view_is ∙ c.requires.going.told in
    let may = subst (λ (m : Known). MayUnmount m c.args.c k.thread) (sym c.self.view_is) c.requires.may in
    let hand = subst (λ (m : Known). Holds m c.args.c k.thread 0 k.stack.frames) (sym c.self.view_is) c.requires.hand in
    subst (λ (u : ℕ). u < length a.state.frozen.items) (sym c.thread-t.ensures)
    (frozen_inside (setting_in a) a.carriers a.state a.deques a.mounted.items a.history.items a.told (vec_capacity a.history - length a.history.items) c.self.invariant.sound
    c.args.c k.thread none may)

pub set_mounted-requires : goal.set_mounted-requires
set_mounted-requires c =
    let a = c.self.inside in
    let k = c.args.frozen in
    let none = ap (λ (m : Known). m.told) c.self.view_is ∙ c.requires.going.told in
    let may = subst (λ (m : Known). MayUnmount m c.args.c k.thread) (sym c.self.view_is) c.requires.may in
    let hand = subst (λ (m : Known). Holds m c.args.c k.thread 0 k.stack.frames) (sym c.self.view_is) c.requires.hand in
    carrier_inside (setting_in a) a.carriers a.state a.deques a.mounted.items a.history.items a.told (vec_capacity a.history - length a.history.items) c.self.invariant.sound
    c.args.c k.thread none may

pub put_if-requires-clause-carrier : goal.put_if-requires-clause-carrier
put_if-requires-clause-carrier c =
    let a = c.self.inside in
    let k = c.args.frozen in
    let none = ap (λ (m : Known). m.told) c.self.view_is ∙ c.requires.going.told in
    let may = subst (λ (m : Known). MayUnmount m c.args.c k.thread) (sym c.self.view_is) c.requires.may in
    let hand = subst (λ (m : Known). Holds m c.args.c k.thread 0 k.stack.frames) (sym c.self.view_is) c.requires.hand in
    deque_inside (setting_in a) a.carriers a.state a.deques a.mounted.items a.history.items a.told (vec_capacity a.history - length a.history.items) c.self.invariant.sound
    c.args.c k.thread none may

pub put_if-requires-clause-room : goal.put_if-requires-clause-room
put_if-requires-clause-room c =
    let a = c.self.inside in
    let k = c.args.frozen in
    let none = ap (λ (m : Known). m.told) c.self.view_is ∙ c.requires.going.told in
    let may = subst (λ (m : Known). MayUnmount m c.args.c k.thread) (sym c.self.view_is) c.requires.may in
    let hand = subst (λ (m : Known). Holds m c.args.c k.thread 0 k.stack.frames) (sym c.self.view_is) c.requires.hand in
    subst (λ (u : ℕ). u < a.deques.threads) (sym c.thread-t.ensures)
    (in_room (setting_in a) a.carriers a.state a.deques a.mounted.items a.history.items a.told (vec_capacity a.history - length a.history.items) c.self.invariant.sound
    c.args.c k.thread none may k refl hand)

pub put_if-requires-clause-free : goal.put_if-requires-clause-free
put_if-requires-clause-free c = λ wanted.
    let a = c.self.inside in
    let k = c.args.frozen in
    let none = ap (λ (m : Known). m.told) c.self.view_is ∙ c.requires.going.told in
    let may = subst (λ (m : Known). MayUnmount m c.args.c k.thread) (sym c.self.view_is) c.requires.may in
    let hand = subst (λ (m : Known). Holds m c.args.c k.thread 0 k.stack.frames) (sym c.self.view_is) c.requires.hand in
    subst (λ (u : ℕ). total (count u) a.deques.lists ≡ 0) (sym c.thread-t.ensures)
    (loose (setting_in a) a.carriers a.state a.deques a.mounted.items a.history.items a.told (vec_capacity a.history - length a.history.items) c.self.invariant.sound
    c.args.c k.thread none may)

pub invariant_of-self : goal.invariant_of-self
invariant_of-self c =
    let a = c.self.inside in
    let k = c.args.frozen in
    let none = ap (λ (m : Known). m.told) c.self.view_is ∙ c.requires.going.told in
    let may = subst (λ (m : Known). MayUnmount m c.args.c k.thread) (sym c.self.view_is) c.requires.may in
    let hand = subst (λ (m : Known). Holds m c.args.c k.thread 0 k.stack.frames) (sym c.self.view_is) c.requires.hand in
    let t = c.thread-t.result in
    let number : k.thread ≡ t = sym c.thread-t.ensures in
    let mayt = subst (λ (m : Known). MayUnmount m c.args.c t) (sym c.self.view_is) (subst (λ (u : ℕ). MayUnmount c.args.self.now c.args.c u) number c.requires.may) in
    let handt = subst (λ (m : Known). Holds m c.args.c t 0 k.stack.frames) (sym c.self.view_is) (subst (λ (u : ℕ). Holds c.args.self.now c.args.c u 0 k.stack.frames) number c.requires.hand) in
    let left = subst (λ (m : Known). length m.history < m.setting.limits.events) (sym c.self.view_is) c.requires.left in
    let new = record a.state { frozen = c.put_frozen.new.frozen } in
    let sound =
    subst (λ (es : List Entry). IsConsistent (setting_in a) a.carriers new c.put_if.new.deques c.set_mounted.new.mounted.items es a.told)
    (sym c.push_reserved.ensures.items)
    (settle_kept (setting_in a) a.carriers a.state a.deques a.mounted.items a.history.items a.told (vec_capacity a.history - length a.history.items) c.self.invariant.sound
    c.args.c t none mayt k number handt new c.put_if.new.deques c.set_mounted.new.mounted.items c.may_step-goes_on.result c.is_alive-live.result left c.is_alive-live.ensures
    (record { memory = refl; threads = refl; wakes = refl; monitors = refl; wheel = refl; keys = refl; now = refl; unnamed = refl; most_threads = refl }) c.put_frozen.ensures c.may_step-goes_on.ensures c.put_if.ensures.lists c.put_if.ensures.room
    c.set_mounted.ensures) in
    record {
      sound = sound;
      pins = knows_after (setting_in a) a.carriers a.state a.deques a.mounted.items a.history.items a.told c.self.invariant.sound
          new c.put_if.new.deques c.set_mounted.new.mounted.items c.push_reserved.new.self.items a.told sound c.args.c (whats.Unmount t) c.push_reserved.ensures.items (vec_capacity a.history - length a.history.items) _
          a.pins.items a.pins.items c.self.invariant.pins refl (λ k ne. refl) tt;
    }

pub returns-clause-idle : goal.returns-clause-idle
returns-clause-idle c =
    let a = c.self.inside in
    let k = c.args.frozen in
    let none = ap (λ (m : Known). m.told) c.self.view_is ∙ c.requires.going.told in
    let may = subst (λ (m : Known). MayUnmount m c.args.c k.thread) (sym c.self.view_is) c.requires.may in
    let hand = subst (λ (m : Known). Holds m c.args.c k.thread 0 k.stack.frames) (sym c.self.view_is) c.requires.hand in
    let room = vec_capacity c.push_reserved.new.self - length c.push_reserved.new.self.items in
    let t = c.thread-t.result in
    let mayt = subst (λ (m : Known). MayUnmount m c.args.c t) (sym c.self.view_is) (subst (λ (u : ℕ). MayUnmount c.args.self.now c.args.c u) (sym c.thread-t.ensures) c.requires.may) in
    subst (λ (es : List Entry). Idle (known_of (setting_in a) a.carriers es room a.told) c.args.c) (sym c.push_reserved.ensures.items)
    (unmount_idle (setting_in a) a.carriers a.state a.deques a.mounted.items a.history.items a.told (vec_capacity a.history - length a.history.items) c.self.invariant.sound
    c.args.c t none mayt room)
