use Rattle.std.proofs.Common.{List, Option, ap, subst, sym, ◌∙◌}
use Rattle.std.specs.Prelude.{IfSome}
use Rattle.stack_maps.specs.declared.types.VType.{VType}
use Rattle.verify_frames.specs.declared.known_state.Judged.{Judged}
use Rattle.verify_frames.specs.KnownStates.{IsJudged, type_state}
use Rattle.verify_frames.specs.Overwrites.{around}
use Rattle.verify_code.proofs.BetweenLaws.{kept_store}
use Rattle.verify_code.proofs.environment.Environment.keep_store.Goals as goal

pub returns : goal.returns
returns g c =
    let env = c.args.self.now in
    let s = type_state c.args.s.now in
    kept_store _ _ _ env c.put.result c.put.ensures c.requires.taken (record {
      state = s;
      judged = subst (λ (o : Option Judged). IfSome o (IsJudged env s)) c.in-Some-judged.is c.requires.judged;
      around = sym (c.types_around-around.ensures ∙ ap (λ (ls : List VType). around ls c.in-Store.local) c.locals.ensures);
    })
