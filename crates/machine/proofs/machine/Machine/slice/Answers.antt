use Rattle.std.proofs.Common.{◌-◌, ◌<◌, ◌++◌, ◌∷◌, [], ℕ, List, None, ap, length, refl, subst, sym, vec_capacity, ◌∙◌}
use Rattle.history.specs.declared.entry.Entry.{Entry}
use Rattle.machine.specs.declared.after.After.TheVariants.{Goes}
use Rattle.machine.specs.Hands.{Holds, OwesNothing}
use Rattle.machine.specs.Insides.{IsConsistent, setting_in}
use Rattle.machine.specs.Legal.{GoesOn}
use Rattle.machine.specs.Machines.{Known}
use Rattle.machine.specs.Turns.{HasStepped}
use Rattle.history.specs.declared.entry.What.TheVariants as whats
use Rattle.machine.proofs.EntryLaws.{entry_of, room_less}
use Rattle.machine.proofs.NextLaws.{known_of}
use Rattle.machine.proofs.SliceLaws.{slice_knows, slice_kept, slice_stepped}
use Rattle.machine.proofs.machine.Machine.slice.Goals as goal

pub invariant_of-self : goal.invariant_of-self
invariant_of-self c =
    let a = c.self.inside in
    let m = c.args.mounted.now in
    let items = c.push_reserved.ensures.items ∙ ap (λ (k : ℕ). a.history.items ++ entry_of c.args.c (whats.Step k 10001 None) ∷ []) c.thread.ensures in
    let going = subst GoesOn (sym c.self.view_is) c.requires.going in
    let holds = subst (λ (k : Known). Holds k c.args.c m.thread 10001 m.stack.frames) (sym c.self.view_is) c.requires.hand in
    let free = subst (λ (k : Known). OwesNothing k m.thread) (sym c.self.view_is) c.requires.free in
    let sound =
    subst (λ (es : List Entry). IsConsistent (setting_in a) a.carriers a.state a.deques a.mounted.items es a.told) (sym items)
    (slice_kept (setting_in a) a.carriers a.state a.deques a.mounted.items a.history.items a.told (vec_capacity a.history - length a.history.items) c.self.invariant.sound
    c.args.c m.thread 10000 m.stack.frames refl going holds free
    (subst (λ (k : Known). length k.history < k.setting.limits.events) (sym c.self.view_is) c.requires.left)) in
    record {
      sound = sound;
      pins = slice_knows (setting_in a) a.carriers a.state a.deques a.mounted.items a.history.items a.told (vec_capacity a.history - length a.history.items) c.self.invariant.sound
          c.args.c m.thread 10000 m.stack.frames refl going holds free c.push_reserved.new.self.items items sound _ a.pins.items c.self.invariant.pins;
    }

pub returns : goal.returns
returns c =
    let a = c.self.inside in
    let m = c.args.mounted.now in
    let spare = vec_capacity a.history - length a.history.items in
    let room = vec_capacity c.push_reserved.new.self - length c.push_reserved.new.self.items in
    let items = c.push_reserved.ensures.items ∙ ap (λ (k : ℕ). a.history.items ++ entry_of c.args.c (whats.Step k 10001 None) ∷ []) c.thread.ensures in
    subst (λ (k : Known). HasStepped Goes k (known_of (setting_in a) a.carriers c.push_reserved.new.self.items room a.told) c.args.c m.thread 10000 m.stack.frames m.stack.frames) c.self.view_is
    (subst (λ (es : List Entry). HasStepped Goes (known_of (setting_in a) a.carriers a.history.items spare a.told) (known_of (setting_in a) a.carriers es room a.told) c.args.c m.thread
    10000 m.stack.frames m.stack.frames) (sym items)
    (slice_stepped (setting_in a) a.carriers a.state a.deques a.mounted.items a.history.items a.told spare c.self.invariant.sound
    c.args.c m.thread 10000 m.stack.frames refl (subst GoesOn (sym c.self.view_is) c.requires.going)
    (subst (λ (k : Known). Holds k c.args.c m.thread 10001 m.stack.frames) (sym c.self.view_is) c.requires.hand)
    (subst (λ (k : Known). OwesNothing k m.thread) (sym c.self.view_is) c.requires.free) room
    (room_less (vec_capacity a.history) (vec_capacity c.push_reserved.new.self) a.history.items c.push_reserved.new.self.items
    (entry_of c.args.c (whats.Step m.thread 10001 None)) c.push_reserved.ensures.capacity items)))
