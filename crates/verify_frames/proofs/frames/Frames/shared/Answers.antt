use Rattle.std.proofs.Common.{◌≡◌, ap, sym, ◌∙◌}
use Rattle.verify_frames.specs.FramePaths.{entry_in}
use Rattle.verify_frames.specs.Entries.{entry_at}
use Rattle.verify_frames.specs.Frames.{frame_at}
use Rattle.verify_frames.proofs.FrameLaws.{one_found}
use Rattle.verify_frames.proofs.KnownStateLaws.{entry_over, state_found}
use Rattle.verify_frames.proofs.frames.Frames.shared.Goals as goal

pub returns : goal.returns
returns c =
    let x = c.self.inside in
    let es = x.entries.items in
    let e = c.in-Some-entry_at.entry in
    let other = c.in-Some.other in
    let same : e.locals ≡ other.locals = c.if-entry-other.false in
    record {
      at =
          ap (frame_at c.args.pc) (sym c.self.view_is)
          ∙ one_found x.paths x.is_constructor x.max_locals c.args.pc es c.entry_at-2.result e (c.entry_at-2.ensures ∙ ap (entry_at c.args.pc) c.deref-2.ensures.value) c.in-Some-entry_at.is;
      over = λ g t at is.
          let there = one_found x.paths x.is_constructor x.max_locals c.args.like es c.entry_at.result other (c.entry_at.ensures ∙ ap (entry_at c.args.like) c.deref.ensures.value) c.in-Some.is in
          entry_over x.paths x.is_constructor x.max_locals other e t same
          (state_found (entry_in x.paths x.is_constructor x.max_locals other) g (frame_at c.args.like c.args.self.now) t (ap (frame_at c.args.like) (sym c.self.view_is) ∙ there) at is);
    }
