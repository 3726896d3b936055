use Rattle.std.proofs.Common.{Some, sym, List, ap, ◌∙◌}
use Rattle.stack_maps.specs.declared.types.VType.{VType}
use Rattle.verify_frames.specs.KnownStates.{type_state}
use Rattle.verify_frames.specs.Overwrites.{around}
use Rattle.verify_code.proofs.BetweenLaws.{judged_by_store, judged_itself}
use Rattle.verify_code.proofs.environment.Environment.judged_twice.Goals as goal

pub returns-in-Some : goal.returns-in-Some
returns-in-Some g c = judged_itself c.args.self.now (type_state c.args.s.now) c.args.s.now.judged c.in-Some.judged c.requires.holds.judged c.in-Some.is

pub returns-in-Some-taken : goal.returns-in-Some-taken
returns-in-Some-taken g c =
    let env = c.args.self.now in
    let stored = c.get-stored.result.now in
    judged_by_store env (type_state c.args.s.now) c.args.s.now.stored stored c.in-Store.local c.types_around-around.result c.taken.result c.in-Some-taken.other c.requires.holds.stored (c.in-Some-stored.is ∙ ap Some (sym c.get-stored.ensures)) c.in-Store.is
    (c.types_around-around.ensures ∙ ap (λ (ls : List VType). around ls c.in-Store.local) c.locals.ensures) (c.taken.ensures env c.requires.taken) c.in-Some-taken.is
