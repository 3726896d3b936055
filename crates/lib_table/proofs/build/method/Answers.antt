use Rattle.std.proofs.Common.{◌∙◌}
use Rattle.lib_table.specs.Declarations.{body_of}
use Rattle.lib_table.specs.Pool as pools
use Rattle.lib_table.specs.Pool.{◌then◌}
use Rattle.lib_table.specs.Build as spec
use Rattle.lib_table.proofs.Steps.{after_step}
use Rattle.lib_table.proofs.build.method.Goals as goal

pub returns : goal.returns
unfolding spec.method
returns c =
    let m = c.args.method.now in
    after_step (spec.attributes (body_of m.body) c.text-2.new.self) (λ attributes pool. (spec.member m.flags c.in_ok-name.name c.in_ok-descriptor.descriptor attributes, pool)) _ _ c.in_ok-attributes.ensures
    ∙ after_step (pools.text m.descriptor.now c.text.new.self) (λ descriptor pool. spec.attributes (body_of m.body) pool then λ attributes pool. (spec.member m.flags c.in_ok-name.name descriptor attributes, pool)) _ _ c.in_ok-descriptor.ensures
    ∙ after_step (pools.text m.name.now c.args.pool.now) (λ name pool. pools.text m.descriptor.now pool then λ descriptor pool. spec.attributes (body_of m.body) pool then λ attributes pool. (spec.member m.flags name descriptor attributes, pool)) _ _ c.in_ok-name.ensures
