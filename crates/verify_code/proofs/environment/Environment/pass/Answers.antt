use Rattle.std.proofs.Common.{Option, Some, subst, sym}
use Rattle.std.specs.Option.{option_map}
use Rattle.verify_types.specs.TypeStates.{TypeState}
use Rattle.verify_frames.specs.declared.known_state.KnownState.{KnownState}
use Rattle.verify_code.specs.declared.walk.Verdict.{Verdict}
use Rattle.verify_frames.specs.KnownStates.{type_state}
use Rattle.verify_code.specs.Walks.{IsPassage, IsPassed, IsVerdict, place}
use Rattle.verify_code.specs.declared.walk.Passage.TheVariants as passages
use Rattle.verify_code.proofs.WalkLaws.{passed_on}
use Rattle.verify_code.proofs.environment.Environment.pass.Goals as goal

pub returns-in_default-clause-passage : goal.returns-in_default-clause-passage
returns-in_default-clause-passage g c = λ entry arrived.
    subst (λ (o : Option KnownState). IsPassage c.args.self.now (place c.args.i.now c.args.resolution (option_map type_state o) entry c.args.is_last) c.pass_unknown.result)
    (sym c.in_default.is) (c.pass_unknown.ensures c.args.resolution entry c.args.is_last)

pub returns-in-Typed-clause-passage : goal.returns-in-Typed-clause-passage
returns-in-Typed-clause-passage g c = λ entry arrived.
    let env = c.args.self.now in
    let i = c.args.i.now in
    let s = type_state c.in-Some.s in
    let At : TypeState → Verdict → Type 0 = λ t v. IsVerdict env (place i c.args.resolution (Some t) entry c.args.is_last) t v in
    let on = subst (At s) c.in-Typed.is (subst (λ t. At t c.in_ok-why.field-0) c.in_ok-s.ensures.same (c.in_ok-why.ensures entry arrived)) in
    subst (λ (o : Option KnownState). IsPassed env (place i c.args.resolution (option_map type_state o) entry c.args.is_last) c.new.result) (sym c.in-Some.is)
    (passed_on env i c.args.resolution entry c.args.is_last s c.in-Typed.after c.goes_on.result c.new.result on c.goes_on.ensures c.new.ensures)

pub returns-in-Broken-clause-passage : goal.returns-in-Broken-clause-passage
returns-in-Broken-clause-passage g c = λ entry arrived.
    let env = c.args.self.now in
    let i = c.args.i.now in
    let s = type_state c.in-Some.s in
    let At : TypeState → Verdict → Type 0 = λ t v. IsVerdict env (place i c.args.resolution (Some t) entry c.args.is_last) t v in
    let broken = subst (At s) c.in-Broken.is (subst (λ t. At t c.in_ok-why.field-0) c.in_ok-s.ensures.same (c.in_ok-why.ensures entry arrived)) in
    subst (λ (o : Option KnownState). IsPassage env (place i c.args.resolution (option_map type_state o) entry c.args.is_last) (passages.Broken c.in-Broken.why)) (sym c.in-Some.is) broken

pub judged-requires-clause-holds : goal.judged-requires-clause-holds
judged-requires-clause-holds g c = c.requires.holds c.in-Some.s c.in-Some.is
