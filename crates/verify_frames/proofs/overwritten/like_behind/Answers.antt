use Rattle.std.proofs.Common.{List, subst, sym, ◌∙◌}
use Rattle.std.specs.Prelude.{IfOk, IfSome}
use Rattle.stack_maps.specs.declared.types.VType.{VType}
use Rattle.verify_frames.specs.Overwrites.{NotedBehind}
use Rattle.verify_frames.specs.Overwrites.NotedBehind.{leaves}
use Rattle.verify_frames.proofs.StoreLaws.{noted_behind, objects_behind}
use Rattle.verify_frames.proofs.overwritten.like_behind.Goals as goal

pub returns-in-Store : goal.returns-in-Store
returns-in-Store c =
    subst (λ (ls : List VType). IfOk c.behind_store.result (λ o. IfSome o (NotedBehind c.args.op.now ls c.args.like))) c.locals.ensures
    (noted_behind c.args.op.now c.locals.result.now c.args.like c.in-Some.like c.in-Store.field-0 c.in-Store.n c.behind_store.result c.in-Store.is c.in-Some.is c.behind_store.ensures)

pub returns-then-finishes : goal.returns-then-finishes
returns-then-finishes c =
    objects_behind c.args.op.now c.args.types.now.locals c.args.like c.in-Some.like c.behind_object.result (sym c.finishes.ensures ∙ c.if-finishes.true) c.in-Some.is c.behind_object.ensures

pub returns-then-keeps_locals : goal.returns-then-keeps_locals
returns-then-keeps_locals c = leaves (sym c.keeps_locals.ensures ∙ c.if-keeps_locals.true) c.in-Some.is
