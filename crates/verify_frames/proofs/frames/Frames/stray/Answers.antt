use Rattle.std.proofs.Common.{ap, sym, ◌∙◌}
use Rattle.std.specs.Option.{option_map}
use Rattle.verify_types.specs.Environment.{MapFrame}
use Rattle.verify_frames.specs.Entries.{stray_entry, pc_of}
use Rattle.verify_frames.specs.Frames.{stray_frame}
use Rattle.verify_frames.proofs.FrameLaws.{stray_pc}
use Rattle.verify_frames.proofs.frames.Frames.stray.Goals as goal

pub returns-in-Some : goal.returns-in-Some
returns-in-Some c =
    let x = c.self.inside in
    ap (λ o. option_map pc_of o) (sym c.in-Some.is ∙ c.stray_entry.ensures ∙ ap (stray_entry c.args.pc c.args.next c.args.is_last) c.deref.ensures.value)
    ∙ stray_pc x.paths x.is_constructor x.max_locals c.args.pc c.args.next c.args.is_last x.entries.items
    ∙ ap (λ fs. option_map (λ (f : MapFrame). f.pc) (stray_frame c.args.pc c.args.next c.args.is_last fs)) c.self.view_is

pub returns-in-None : goal.returns-in-None
returns-in-None c =
    let x = c.self.inside in
    ap (λ o. option_map pc_of o) (sym c.in-None.is ∙ c.stray_entry.ensures ∙ ap (stray_entry c.args.pc c.args.next c.args.is_last) c.deref.ensures.value)
    ∙ stray_pc x.paths x.is_constructor x.max_locals c.args.pc c.args.next c.args.is_last x.entries.items
    ∙ ap (λ fs. option_map (λ (f : MapFrame). f.pc) (stray_frame c.args.pc c.args.next c.args.is_last fs)) c.self.view_is
