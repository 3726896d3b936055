use Rattle.std.proofs.Common.{◌≡◌, ◌+◌, Bool, cond, drop, get_or, refl, List, [], Some, sym, ap, ◌∙◌, arith}
use Rattle.std.specs.Prelude.{find}
use Rattle.std.specs.Option.{option_map}
use Rattle.std.proofs.lemmas.Grind.{common_steps}
use Rattle.class_model.specs.declared.attribute.Row.{Row}
use Rattle.link_model.specs.Worlds.{world_of}
use Rattle.verify_types.specs.Environment.{Handler, with_catches}
use Rattle.ref_model.specs.Throwing.{catches}
use Rattle.runtime_program.specs.Handlers.{handler_pc, handler_with}
use Rattle.runtime_program.proofs.HandlerLaws.{one_row}
use Rattle.runtime_program.proofs.handlers.handler_in.Goals as goal

pub loop-i-preserved : goal.loop-i-preserved
loop-i-preserved c =
    let f = catches (world_of c.args.world.now) c.args.pc c.args.class in
    let rows = c.args.rows.now in
    let i = c.loop-i.i in
    let none : Row = record { start = 0; end = 0; handler = 0; catch_type = 0 } in
    let row : Row = get_or rows i none in
    let h : Handler = handler_with row c.catch_at.result in
    let behind = find f (with_catches (drop (i + 1) rows) (drop (i + 1) c.args.caught.now)) in
    c.loop-i.invariant ∙ one_row f rows c.args.caught.now i row none c.catch_at.result c.loop-i-test.true refl c.catch_at.ensures
    ∙ ap (λ (b : Bool). cond b (Some h) behind) (sym c.catches.ensures ∙ c.if-catches.false)

pub returns-then-catches : goal.returns-then-catches
returns-then-catches c =
    let f = catches (world_of c.args.world.now) c.args.pc c.args.class in
    let rows = c.args.rows.now in
    let i = c.loop-i.i in
    let none : Row = record { start = 0; end = 0; handler = 0; catch_type = 0 } in
    let row : Row = get_or rows i none in
    let h : Handler = handler_with row c.catch_at.result in
    let behind = find f (with_catches (drop (i + 1) rows) (drop (i + 1) c.args.caught.now)) in
    ap (option_map handler_pc) (sym (
    c.loop-i.invariant ∙ one_row f rows c.args.caught.now i row none c.catch_at.result c.loop-i-test.true refl c.catch_at.ensures
    ∙ ap (λ (b : Bool). cond b (Some h) behind) (sym c.catches.ensures ∙ c.if-catches.true)))

pub returns : goal.returns
returns c =
    let f = catches (world_of c.args.world.now) c.args.pc c.args.class in
    let none : drop c.loop-i.i c.args.rows.now ≡ [] = grind (arith, common_steps) in
    ap (option_map handler_pc) (sym (c.loop-i.invariant ∙ ap (λ (rs : List Row). find f (with_catches rs (drop c.loop-i.i c.args.caught.now))) none))
