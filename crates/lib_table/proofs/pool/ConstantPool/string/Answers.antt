use Rattle.class_model.specs.declared.constant.Const.TheVariants.{Text}
use Rattle.lib_table.specs.Pool as spec
use Rattle.lib_table.specs.Pool.{placed, text}
use Rattle.lib_table.proofs.Steps.{ends_with}
use Rattle.lib_table.proofs.pool.ConstantPool.string.Goals as goal

pub returns : goal.returns
unfolding spec.string
returns c =
    ends_with (text c.args.text.now c.args.self.now) (λ text. placed (Text text)) _ _ c.place.result c.place.new.self c.in_ok-text.ensures c.place.ensures
