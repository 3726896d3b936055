use Rattle.std.proofs.Common.{List, [], map, ap, ◌∙◌}
use Rattle.std.specs.List.{fold}
use Rattle.class_model.specs.declared.attribute.Row.{Row}
use Rattle.lib_table.specs.Instructions.{meaning}
use Rattle.lib_table.specs.Pool.{◌then◌}
use Rattle.lib_table.specs.Build as spec
use Rattle.lib_table.proofs.Steps.{after_step}
use Rattle.lib_table.proofs.code.code_body.Goals as goal

pub returns : goal.returns
unfolding spec.code
returns c =
    let m = c.args.code.now in
    ap (λ (rows : List Row). (record { max_stack = m.max_stack; max_locals = m.max_locals; code = c.in_ok-bytes.bytes; rows = rows; attributes = c.in_ok-attributes.attributes }, c.frames.new.pool)) c.new.ensures
    ∙ after_step (spec.frames m.frame c.bytes_of.new.pool) (λ attributes pool. (record { max_stack = m.max_stack; max_locals = m.max_locals; code = c.in_ok-bytes.bytes; rows = []; attributes = attributes }, pool)) _ _ c.in_ok-attributes.ensures
    ∙ after_step (fold spec.with_instruction ([], c.args.pool.now) (map meaning m.instructions.now)) (λ bytes pool. spec.frames m.frame pool then λ attributes pool. (record { max_stack = m.max_stack; max_locals = m.max_locals; code = bytes; rows = []; attributes = attributes }, pool)) _ _ c.in_ok-bytes.ensures
