use Rattle.std.proofs.Common.{ap, sym, ◌∙◌}
use Rattle.std.specs.Option.{option_map}
use Rattle.verify_frames.specs.FramePaths.{entry_in}
use Rattle.verify_frames.specs.Entries.{entry_at}
use Rattle.verify_frames.specs.Frames.{frame_at}
use Rattle.verify_frames.proofs.FrameLaws.{frame_found}
use Rattle.verify_frames.proofs.frames.Frames.at.Goals as goal

pub returns-in-Some : goal.returns-in-Some
returns-in-Some c =
    let x = c.self.inside in
    ap (λ o. option_map (entry_in x.paths x.is_constructor x.max_locals) o) (sym c.in-Some.is ∙ c.entry_at.ensures ∙ ap (entry_at c.args.pc) c.deref.ensures.value)
    ∙ sym (frame_found x.paths x.is_constructor x.max_locals c.args.pc x.entries.items)
    ∙ ap (frame_at c.args.pc) c.self.view_is

pub returns-in-None : goal.returns-in-None
returns-in-None c =
    let x = c.self.inside in
    ap (λ o. option_map (entry_in x.paths x.is_constructor x.max_locals) o) (sym c.in-None.is ∙ c.entry_at.ensures ∙ ap (entry_at c.args.pc) c.deref.ensures.value)
    ∙ sym (frame_found x.paths x.is_constructor x.max_locals c.args.pc x.entries.items)
    ∙ ap (frame_at c.args.pc) c.self.view_is
