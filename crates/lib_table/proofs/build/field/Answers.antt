use Rattle.std.proofs.Common.{List, [], ap, ◌∙◌}
use Rattle.class_model.specs.declared.attribute.Attribute.{Attribute}
use Rattle.lib_table.specs.Pool as pools
use Rattle.lib_table.specs.Pool.{◌then◌}
use Rattle.lib_table.specs.Build as spec
use Rattle.lib_table.proofs.Steps.{after_step}
use Rattle.lib_table.proofs.build.field.Goals as goal

pub returns : goal.returns
unfolding spec.field
returns c =
    let f = c.args.field.now in
    ap (λ (attributes : List Attribute). (spec.member f.flags c.in_ok-name.name c.in_ok-descriptor.descriptor attributes, c.text-2.new.self)) c.new.ensures
    ∙ after_step (pools.text f.descriptor.now c.text.new.self) (λ descriptor pool. (spec.member f.flags c.in_ok-name.name descriptor [], pool)) _ _ c.in_ok-descriptor.ensures
    ∙ after_step (pools.text f.name.now c.args.pool.now) (λ name pool. pools.text f.descriptor.now pool then λ descriptor pool. (spec.member f.flags name descriptor [], pool)) _ _ c.in_ok-name.ensures
