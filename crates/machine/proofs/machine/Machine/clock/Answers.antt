use Rattle.std.proofs.Common.{◌-◌, ◌<◌, ◌≤◌, Fits, ℕ, List, ap, arith, length, subst, sym, vec_capacity, w64, ◌∙◌, refl}
use Rattle.std.specs.Prelude.{Contains, filter}
use Rattle.history.specs.declared.entry.Entry.{Entry}
use Rattle.ref_model.specs.Waiting.{latest}
use Rattle.thread_lists.specs.Lists.{count, push}
use Rattle.machine.specs.Clocks.{IsBefore}
use Rattle.machine.specs.Insides.{IsConsistent, setting_in}
use Rattle.machine.specs.Legal.{GoesOn}
use Rattle.machine.specs.Machines.{Known}
use Rattle.machine.specs.Puts.{is_to_go}
use Rattle.machine.proofs.NextLaws.{known_of}
use Rattle.machine.proofs.ClockLaws.{carrier_below, clock_goes, clock_kept, in_room, in_table, once, seated_there, time_later}
use Rattle.history.specs.declared.entry.What.TheVariants as whats
use Rattle.machine.proofs.PinLaws.{knows_after}
use Rattle.machine.proofs.machine.Machine.clock.Goals as goal

-- a number of 64 bits
most : (n : ℕ) → Fits w64 n → n ≤ latest
most n fits = omega (arith, fits.fits)

pub pass_time-requires-clause-later : goal.pass_time-requires-clause-later
pass_time-requires-clause-later c =
    let a = c.self.inside in
    time_later (setting_in a) a.carriers a.state a.deques a.mounted.items a.history.items a.told (vec_capacity a.history - length a.history.items) c.self.invariant.sound
    c.args.c c.args.now (subst (λ (k : Known). c.args.c < k.carriers) (sym c.self.view_is) c.requires.carrier) (subst GoesOn (sym c.self.view_is) c.requires.going) (subst (λ (k : Known). IsBefore k c.args.now) (sym c.self.view_is) c.requires.later)

pub pass_time-requires-clause-seated : goal.pass_time-requires-clause-seated
pass_time-requires-clause-seated c =
    let a = c.self.inside in
    seated_there (setting_in a) a.carriers a.state a.deques a.mounted.items a.history.items a.told (vec_capacity a.history - length a.history.items) c.self.invariant.sound
    c.args.c c.args.now (subst (λ (k : Known). c.args.c < k.carriers) (sym c.self.view_is) c.requires.carrier) (subst GoesOn (sym c.self.view_is) c.requires.going)

pub put_due-requires-clause-carrier : goal.put_due-requires-clause-carrier
put_due-requires-clause-carrier c =
    let a = c.self.inside in
    carrier_below (setting_in a) a.carriers a.state a.deques a.mounted.items a.history.items a.told (vec_capacity a.history - length a.history.items) c.self.invariant.sound
    c.args.c c.args.now (subst (λ (k : Known). c.args.c < k.carriers) (sym c.self.view_is) c.requires.carrier) (subst GoesOn (sym c.self.view_is) c.requires.going)

pub put_due-requires-clause-below : goal.put_due-requires-clause-below
put_due-requires-clause-below c = λ u here.
    let a = c.self.inside in
    in_table (setting_in a) a.carriers a.state a.deques a.mounted.items a.history.items a.told (vec_capacity a.history - length a.history.items) c.self.invariant.sound
    c.args.c c.args.now (subst (λ (k : Known). c.args.c < k.carriers) (sym c.self.view_is) c.requires.carrier) (subst GoesOn (sym c.self.view_is) c.requires.going)
    (most c.args.now c.ranges.now) (subst (λ (k : Known). IsBefore k c.args.now) (sym c.self.view_is) c.requires.later)
    c.pass_time.new.state c.in_ok-due.due.items c.in_ok-due.ensures.passes c.in_ok-due.ensures.due c.in_ok-due.ensures.moves u
    (subst (λ (us : List ℕ). Contains us u) c.as_slice.ensures.value here)

pub put_due-requires-clause-room : goal.put_due-requires-clause-room
put_due-requires-clause-room c = λ u here.
    let a = c.self.inside in
    in_room (setting_in a) a.carriers a.state a.deques a.mounted.items a.history.items a.told (vec_capacity a.history - length a.history.items) c.self.invariant.sound
    c.args.c c.args.now (subst (λ (k : Known). c.args.c < k.carriers) (sym c.self.view_is) c.requires.carrier) (subst GoesOn (sym c.self.view_is) c.requires.going)
    (most c.args.now c.ranges.now) (subst (λ (k : Known). IsBefore k c.args.now) (sym c.self.view_is) c.requires.later)
    c.pass_time.new.state c.in_ok-due.due.items c.in_ok-due.ensures.passes c.in_ok-due.ensures.due c.in_ok-due.ensures.moves u
    (subst (λ (us : List ℕ). Contains us u) c.as_slice.ensures.value here)

pub put_due-requires-clause-once : goal.put_due-requires-clause-once
put_due-requires-clause-once c = λ u.
    let a = c.self.inside in
    subst (λ (us : List ℕ). count u us ≤ 1) (sym c.as_slice.ensures.value)
    (once (setting_in a) a.carriers a.state a.deques a.mounted.items a.history.items a.told (vec_capacity a.history - length a.history.items) c.self.invariant.sound
    c.args.c c.args.now (subst (λ (k : Known). c.args.c < k.carriers) (sym c.self.view_is) c.requires.carrier) (subst GoesOn (sym c.self.view_is) c.requires.going)
    (most c.args.now c.ranges.now) (subst (λ (k : Known). IsBefore k c.args.now) (sym c.self.view_is) c.requires.later)
    c.pass_time.new.state c.in_ok-due.due.items c.in_ok-due.ensures.passes c.in_ok-due.ensures.due c.in_ok-due.ensures.moves u)

pub invariant_of-self-2 : goal.invariant_of-self-2
invariant_of-self-2 c =
    let a = c.self.inside in
    let sound =
    subst (λ (es : List Entry). IsConsistent (setting_in a) a.carriers c.pass_time.new.state c.put_due.new.deques a.mounted.items es a.told)
    (sym c.push_reserved.ensures.items)
    (clock_kept (setting_in a) a.carriers a.state a.deques a.mounted.items a.history.items a.told (vec_capacity a.history - length a.history.items) c.self.invariant.sound
    c.args.c c.args.now (subst (λ (k : Known). c.args.c < k.carriers) (sym c.self.view_is) c.requires.carrier) (subst GoesOn (sym c.self.view_is) c.requires.going)
    (most c.args.now c.ranges.now) (subst (λ (k : Known). IsBefore k c.args.now) (sym c.self.view_is) c.requires.later)
    c.pass_time.new.state c.in_ok-due.due.items c.in_ok-due.ensures.passes c.in_ok-due.ensures.due c.in_ok-due.ensures.moves c.put_due.new.deques
    (λ r out is. c.put_due.ensures.lists r out is ∙ ap (λ (us : List ℕ). push a.deques.lists c.args.c (filter (is_to_go c.pass_time.new.state r a.deques.lists) us)) c.as_slice.ensures.value)
    c.put_due.ensures.room
    (subst (λ (k : Known). length k.history < k.setting.limits.events) (sym c.self.view_is) c.requires.left)) in
    record {
      sound = sound;
      pins = knows_after (setting_in a) a.carriers a.state a.deques a.mounted.items a.history.items a.told c.self.invariant.sound
          c.pass_time.new.state c.put_due.new.deques a.mounted.items c.push_reserved.new.self.items a.told sound c.args.c (whats.Clock c.args.now) c.push_reserved.ensures.items (vec_capacity a.history - length a.history.items) _
          a.pins.items a.pins.items c.self.invariant.pins refl (λ k ne. refl) refl;
    }

pub returns-clause-goes_on : goal.returns-clause-goes_on
returns-clause-goes_on c =
    let a = c.self.inside in
    let room = vec_capacity c.push_reserved.new.self - length c.push_reserved.new.self.items in
    subst (λ (es : List Entry). GoesOn (known_of (setting_in a) a.carriers es room a.told)) (sym c.push_reserved.ensures.items)
    (clock_goes (setting_in a) a.carriers a.state a.deques a.mounted.items a.history.items a.told (vec_capacity a.history - length a.history.items) c.self.invariant.sound
    c.args.c c.args.now (subst (λ (k : Known). c.args.c < k.carriers) (sym c.self.view_is) c.requires.carrier) (subst GoesOn (sym c.self.view_is) c.requires.going)
    (most c.args.now c.ranges.now) (subst (λ (k : Known). IsBefore k c.args.now) (sym c.self.view_is) c.requires.later)
    c.pass_time.new.state c.in_ok-due.due.items c.in_ok-due.ensures.passes c.in_ok-due.ensures.due c.in_ok-due.ensures.moves c.put_due.new.deques
    (λ r out is. c.put_due.ensures.lists r out is ∙ ap (λ (us : List ℕ). push a.deques.lists c.args.c (filter (is_to_go c.pass_time.new.state r a.deques.lists) us)) c.as_slice.ensures.value)
    c.put_due.ensures.room room)
