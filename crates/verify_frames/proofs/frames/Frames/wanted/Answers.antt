use Rattle.std.proofs.Common.{List, IfOk, IfSome, subst}
use Rattle.verify_frames.specs.declared.frame_paths.Entry.{Entry}
use Rattle.verify_frames.specs.Wanted.{IsGathered}
use Rattle.verify_frames.proofs.WantedLaws.{asked_all}
use Rattle.verify_frames.proofs.frames.Frames.wanted.Goals as goal

pub returns : goal.returns
returns c =
    let x = c.self.inside in
    asked_all x.paths x.is_constructor x.max_locals x.entries.items c.args.self.now c.args.rows.now c.self.view_is c.gathered.result
    (subst (λ (es : List Entry). IfOk c.gathered.result (λ o. IfSome o (IsGathered x.paths es c.args.rows.now))) c.deref.ensures.value c.gathered.ensures)
