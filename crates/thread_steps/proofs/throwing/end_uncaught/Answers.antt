use Rattle.std.proofs.Common.{ℕ, List, ◌++◌, ap, sym, subst, ◌∙◌}
use Rattle.state_model.specs.Frames.{Frame}
use Rattle.ref_model.specs.Texts.{text_bytes}
use Rattle.ref_model.specs.Throwing.{uncaught_line}
use Rattle.thread_steps.specs.Returning.{EndsUncaught}
use Rattle.thread_steps.proofs.ReturnLaws.{ended, ends_uncaught}
use Rattle.thread_steps.proofs.throwing.end_uncaught.Goals as goal

pub returns : goal.returns
returns g c =
    let w = g.W.EventWorld.world c.args.world.now in
    let a = c.args.parts.now in
    let b = ended a c.args.thread c.push_text.new.out in
    let line =
    c.deref-2.ensures.value ∙ c.in_ok-line.ensures
    ∙ ap (uncaught_line c.in-Some.thread_name.now) (c.deref.ensures.value ∙ c.in_ok-class_name.ensures) in
    subst (λ (fs : List Frame). EndsUncaught w c.args.thread c.args.name c.args.class a b fs) (sym c.new.ensures.frames)
    (ends_uncaught w a c.args.thread c.args.name c.args.class c.in-Some.thread_name.now c.push_text.new.out c.in-Some.ensures
    (c.in_ok-push_text.ensures ∙ ap (λ (units : List ℕ). a.natives.err.items ++ text_bytes units) line))
