use Rattle.std.proofs.Common.{◌≡◌, ◌<◌, ℕ, List, [], Option, Some, ap, subst, sym, ◌∙◌}
use Rattle.continuation.specs.Continuation.{Continuation}
use Rattle.frames.specs.Frames.{entered}
use Rattle.link_model.specs.declared.members.MethodCode.{MethodCode}
use Rattle.link_model.specs.Decoded.{code_at}
use Rattle.startup.specs.FirstFrames.{count_with, holding}
use Rattle.startup.proofs.FrameLaws.{main_pushed}
use Rattle.startup.proofs.first_frames.push_main.Goals as goal

pub returns-in-Ok-clause-frames : goal.returns-in-Ok-clause-frames
returns-in-Ok-clause-frames c =
    let w = c.args.program.now in
    let code = c.in-Some.code.now in
    let is : code_at w c.args.main ≡ Some code = sym c.in-Some.ensures.code in
    let same : ◌≡◌ {A = Option MethodCode} (Some (c.requires.code).0) (Some code) = sym (c.requires.code).1 ∙ is in
    let one : (c.requires.code).0 ≡ code = cc in
    main_pushed w c.args.main c.args.words c.args.monitor code c.push_frame.new.self.stack.frames c.hold_monitor.new.mounted.stack.frames is
    (subst (λ (x : MethodCode). 0 < x.max_locals) one (c.requires.code).2)
    (c.in-Ok.ensures.ok ∙ ap (λ n. entered c.args.main n code.max_stack 0 c.args.mounted.now.stack.frames) c.local_count-locals.ensures
    ∙ ap (entered c.args.main (count_with code.max_locals c.args.monitor) code.max_stack 0) c.requires.none)
    (c.hold_monitor.ensures.frames ∙ ap (λ (m : Continuation). holding code.max_locals c.args.monitor m.stack.frames) c.set_local.ensures)
