use Rattle.std.proofs.Common.{[], ◌∷◌, List, ℕ, codes, ◌∙◌}
use Rattle.class_model.specs.declared.attribute.Attribute.{Attribute}
use Rattle.class_model.specs.declared.attribute.Body.TheVariants.{Code}
use Rattle.class_model.specs.declared.attribute.CodeBody.{CodeBody}
use Rattle.lib_table.specs.Declarations.{code_of}
use Rattle.lib_table.specs.Pool as pools
use Rattle.lib_table.specs.Pool.{◌then◌}
use Rattle.lib_table.specs.Build as spec
use Rattle.lib_table.proofs.Steps.{after_step, beside}
use Rattle.lib_table.proofs.build.code_attribute.Goals as goal

attributes_of : ℕ → CodeBody → List Attribute
attributes_of name body = record { name = name; body = Code body } ∷ []

pub returns : goal.returns
unfolding spec.code_attribute attributes_of
returns c =
    beside c.single.result (attributes_of c.in_ok-name.name c.in_ok-code.code) c.code_body.new.pool _ c.single.ensures
    (rw c.in_ok-code.ensures (after_step (spec.code (code_of c.args.code.now) c.text.new.self) (λ body pool. (attributes_of c.in_ok-name.name body, pool)) _ _ c.in_ok-code_body.ensures
    ∙ after_step (pools.text (codes "Code") c.args.pool.now) (λ name pool. spec.code (code_of c.args.code.now) pool then λ body pool. (attributes_of name body, pool)) _ _ c.in_ok-name.ensures))
