use Rattle.std.proofs.Common.{◌-◌, length, refl, subst, sym, vec_capacity}
use Rattle.std.proofs.lemmas.Bool.{leb-false, leb-true}
use Rattle.machine.specs.Clocks.{Awaits, AwaitsNothing}
use Rattle.machine.specs.Insides.{setting_in}
use Rattle.machine.specs.Legal.{Works}
use Rattle.machine.specs.Machines.{Known}
use Rattle.machine.proofs.ClockLaws.{awaits, awaits_later, awaits_none}
use Rattle.machine.proofs.machine.Machine.is_awaited.Goals as goal

pub returns-in-Some-clause-yes : goal.returns-in-Some-clause-yes
returns-in-Some-clause-yes c = λ reached.
    let a = c.self.inside in
    subst (λ (k : Known). Awaits k c.args.now) c.self.view_is
    (awaits (setting_in a) a.carriers a.state a.deques a.mounted.items a.history.items a.told (vec_capacity a.history - length a.history.items) c.self.invariant.sound
    (subst Works (sym c.self.view_is) c.requires.works) c.in-Some.deadline c.args.now c.in-Some.ensures.least (leb-true c.in-Some.deadline c.args.now reached))

pub returns-in-Some-clause-no : goal.returns-in-Some-clause-no
returns-in-Some-clause-no c = λ later.
    let a = c.self.inside in
    subst (λ (k : Known). AwaitsNothing k c.args.now) c.self.view_is
    (awaits_later (setting_in a) a.carriers a.state a.deques a.mounted.items a.history.items a.told (vec_capacity a.history - length a.history.items) c.self.invariant.sound
    (subst Works (sym c.self.view_is) c.requires.works) c.in-Some.deadline c.args.now c.in-Some.ensures.least (leb-false c.in-Some.deadline c.args.now later))

pub returns-in-None-clause-no : goal.returns-in-None-clause-no
returns-in-None-clause-no c = λ none.
    let a = c.self.inside in
    subst (λ (k : Known). AwaitsNothing k c.args.now) c.self.view_is
    (awaits_none (setting_in a) a.carriers a.state a.deques a.mounted.items a.history.items a.told (vec_capacity a.history - length a.history.items) c.self.invariant.sound
    (subst Works (sym c.self.view_is) c.requires.works) c.args.now (λ r out is. (c.in-None.ensures.none r out is).0 refl))
