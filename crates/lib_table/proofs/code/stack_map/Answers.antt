use Rattle.std.proofs.Common.{[], ◌∷◌, List, ℕ, codes, ap, ◌∙◌}
use Rattle.class_model.specs.declared.attribute.CodeAttribute.{CodeAttribute}
use Rattle.class_model.specs.declared.attribute.CodeExtra.TheVariants.{StackMap}
use Rattle.lib_table.specs.Pool as pools
use Rattle.lib_table.specs.Build as spec
use Rattle.lib_table.proofs.Steps.{after_step, beside}
use Rattle.lib_table.proofs.code.stack_map.Goals as goal

attributes_of : ℕ → List ℕ → List CodeAttribute
attributes_of name bytes = record { name = name; body = StackMap bytes } ∷ []

pub returns : goal.returns
unfolding spec.stack_map attributes_of
returns c =
    beside c.single.result (attributes_of c.in_ok-name.name c.in_ok-same_frame.field-0) c.text.new.self _ c.single.ensures
    (ap (λ bytes. (attributes_of c.in_ok-name.name bytes, c.text.new.self)) c.in_ok-same_frame.ensures
    ∙ after_step (pools.text (codes "StackMapTable") c.args.pool.now) (λ name pool. (attributes_of name (spec.same_frame c.args.pc), pool)) _ _ c.in_ok-name.ensures)
