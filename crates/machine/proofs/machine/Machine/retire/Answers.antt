use Rattle.std.proofs.Common.{◌-◌, ◌<◌, List, ap, length, subst, sym, vec_capacity, ◌∙◌, refl}
use Rattle.history.specs.declared.entry.Entry.{Entry}
use Rattle.machine.specs.Hands.{HasEnded, Idle, MayUnmount}
use Rattle.machine.specs.Insides.{IsConsistent, setting_in}
use Rattle.machine.specs.Machines.{Known}
use Rattle.machine.proofs.NextLaws.{known_of}
use Rattle.machine.proofs.SettleLaws.{carrier_inside, retire_kept, unmount_idle}
use Rattle.history.specs.declared.entry.What.TheVariants as whats
use Rattle.machine.proofs.PinLaws.{knows_after}
use Rattle.machine.proofs.machine.Machine.retire.Goals as goal

pub set_mounted-requires : goal.set_mounted-requires
set_mounted-requires c =
    let a = c.self.inside in
    let none = ap (λ (m : Known). m.told) c.self.view_is ∙ c.requires.told in
    let may = subst (λ (m : Known). MayUnmount m c.args.c c.args.t) (sym c.self.view_is) c.requires.may in
    carrier_inside (setting_in a) a.carriers a.state a.deques a.mounted.items a.history.items a.told (vec_capacity a.history - length a.history.items) c.self.invariant.sound
    c.args.c c.args.t none may

pub invariant_of-self : goal.invariant_of-self
invariant_of-self c =
    let a = c.self.inside in
    let none = ap (λ (m : Known). m.told) c.self.view_is ∙ c.requires.told in
    let may = subst (λ (m : Known). MayUnmount m c.args.c c.args.t) (sym c.self.view_is) c.requires.may in
    let left = subst (λ (m : Known). length m.history < m.setting.limits.events) (sym c.self.view_is) c.requires.left in
    let ended = subst (λ (m : Known). HasEnded m c.args.t) (sym c.self.view_is) c.requires.ended in
    let sound =
    subst (λ (es : List Entry). IsConsistent (setting_in a) a.carriers a.state a.deques c.set_mounted.new.mounted.items es a.told)
    (sym c.push_reserved.ensures.items)
    (retire_kept (setting_in a) a.carriers a.state a.deques a.mounted.items a.history.items a.told (vec_capacity a.history - length a.history.items) c.self.invariant.sound
    c.args.c c.args.t none may c.set_mounted.new.mounted.items left ended c.set_mounted.ensures) in
    record {
      sound = sound;
      pins = knows_after (setting_in a) a.carriers a.state a.deques a.mounted.items a.history.items a.told c.self.invariant.sound
          a.state a.deques c.set_mounted.new.mounted.items c.push_reserved.new.self.items a.told sound c.args.c (whats.Unmount c.args.t) c.push_reserved.ensures.items (vec_capacity a.history - length a.history.items) _
          a.pins.items a.pins.items c.self.invariant.pins refl (λ k ne. refl) tt;
    }

pub returns-clause-idle : goal.returns-clause-idle
returns-clause-idle c =
    let a = c.self.inside in
    let none = ap (λ (m : Known). m.told) c.self.view_is ∙ c.requires.told in
    let may = subst (λ (m : Known). MayUnmount m c.args.c c.args.t) (sym c.self.view_is) c.requires.may in
    let room = vec_capacity c.push_reserved.new.self - length c.push_reserved.new.self.items in
    subst (λ (es : List Entry). Idle (known_of (setting_in a) a.carriers es room a.told) c.args.c) (sym c.push_reserved.ensures.items)
    (unmount_idle (setting_in a) a.carriers a.state a.deques a.mounted.items a.history.items a.told (vec_capacity a.history - length a.history.items) c.self.invariant.sound
    c.args.c c.args.t none may room)
