use Rattle.std.proofs.Common.{List, subst, sym, ◌∙◌, arith}
use Rattle.type_paths.specs.Paths.{path}
use Rattle.verify_frames.specs.declared.overwritten.Overwritten.{Overwritten}
use Rattle.verify_frames.specs.Near.{Moves}
use Rattle.verify_frames.proofs.NearLaws.{moves_to, some_of}
use Rattle.verify_frames.proofs.near.moved.Goals as goal

pub returns : goal.returns
returns c =
    let ps = c.args.paths.now in
    let from = path ps c.args.from in
    let to = path ps c.args.to in
    subst (λ (os : List Overwritten). Moves c.args.max_locals from to c.args.overwritten.now os) (sym c.in_ok-add_others.ensures)
    (moves_to c.args.max_locals c.in-Some-slots.had c.in-Some-slots-2.has from to (path ps c.in-Some.until) c.in-Some.ensures.0.more c.in-Some.ensures.1.more c.in-Some-2.types.items c.add_unset.new.types.items c.args.overwritten.now
    c.in-Some.ensures.0.is c.in-Some.ensures.1.is (sym c.in-Some-slots.is ∙ c.slots.ensures) (sym c.in-Some-slots-2.is ∙ c.slots-2.ensures)
    (omega (arith, c.if-had-from.false, c.from.ensures)) (omega (arith, c.if-has-from.false, c.from-2.ensures))
    (some_of c.in_ok-types.field-0 c.in-Some-2.types _ c.in-Some-2.is c.in_ok-types.ensures) c.in_ok-add_unset.ensures)
