use Rattle.std.proofs.Common.{◌≡◌, Bool, true, false, List, ap, refl, subst, sym, ◌∙◌}
use Rattle.std.specs.Prelude.{MatchBool}
use Rattle.verify_frames.specs.Flags.{AreFlagged, HaveSameFlag}
use Rattle.type_paths.specs.Paths.{path}
use Rattle.verify_frames.specs.Entries.{entry_at}
use Rattle.verify_frames.specs.declared.overwritten.Overwritten.{Overwritten}
use Rattle.verify_frames.specs.Frames.{frame_at}
use Rattle.verify_frames.specs.Near.{Moves}
use Rattle.verify_frames.proofs.FrameLaws.{one_found}
use Rattle.verify_frames.proofs.NearLaws.{near_frame, some_of}
use Rattle.verify_frames.proofs.frames.Frames.near.Goals as goal

alike_of : (b : Bool) (P : Type 0) → b ≡ true → MatchBool b P (Unit {0}) → P
alike_of true P e h = h
alike_of false P e h = absurd cc

pub returns-in-Some-moved : goal.returns-in-Some-moved
returns-in-Some-moved c =
    let x = c.self.inside in
    let es = x.entries.items in
    let e = c.in-Some-entry_at.entry in
    let other = c.in-Some.other in
    near_frame x.paths x.is_constructor x.max_locals c.args.pc c.args.self.now c.args.like.now _ other e
    (alike_of c.have_same_flag.result _ c.if-not-have_same_flag.false (subst (λ (bs : List Bool). AreFlagged x.paths bs → MatchBool c.have_same_flag.result (HaveSameFlag x.is_constructor (path x.paths other.locals) (path x.paths e.locals)) (Unit {0})) c.deref-3.ensures.value (c.have_same_flag.ensures x.paths) c.self.invariant.flagged))
    (ap (frame_at c.args.like.now.pc) (sym c.self.view_is) ∙ one_found x.paths x.is_constructor x.max_locals c.args.like.now.pc es c.entry_at.result other (c.entry_at.ensures ∙ ap (entry_at c.args.like.now.pc) c.deref.ensures.value) c.in-Some.is)
    (ap (frame_at c.args.pc) (sym c.self.view_is) ∙ one_found x.paths x.is_constructor x.max_locals c.args.pc es c.entry_at-2.result e (c.entry_at-2.ensures ∙ ap (entry_at c.args.pc) c.deref-2.ensures.value) c.in-Some-entry_at.is)
    (sym c.is_known.ensures ∙ c.if-not-is_known.false) refl
    (subst (λ (os : List Overwritten). Moves x.max_locals (path x.paths other.locals) (path x.paths e.locals) os c.in-Some-moved.overwritten.items) c.deref-4.ensures.value
    (some_of c.in_ok-moved.moved c.in-Some-moved.overwritten _ c.in-Some-moved.is c.in_ok-moved.ensures))
