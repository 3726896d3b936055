use Rattle.lib_table.specs.Pool as pools
use Rattle.lib_table.specs.Build.{u2}
use Rattle.lib_table.proofs.Steps.{bytes_behind}
use Rattle.lib_table.proofs.code.push_operand.Goals as goal

pub returns-in_ok-index-in-Text : goal.returns-in_ok-index-in-Text
returns-in_ok-index-in-Text c =
    rw c.in-Text.is (bytes_behind c.push_u2.result u2 c.args.code.now.items _ (pools.string c.in-Text.text.now c.args.pool.now) _ _ c.in_ok-index-in-Text.ensures c.push_u2.ensures)

pub returns-in_ok-index-in-Class : goal.returns-in_ok-index-in-Class
returns-in_ok-index-in-Class c =
    rw c.in-Class.is (bytes_behind c.push_u2-in-Class.result u2 c.args.code.now.items _ (pools.class c.in-Class.name.now c.args.pool.now) _ _ c.in_ok-index-in-Class.ensures c.push_u2-in-Class.ensures)

pub returns-in_ok-index-in-Field : goal.returns-in_ok-index-in-Field
returns-in_ok-index-in-Field c =
    rw c.in-Field.is (bytes_behind c.push_u2-in-Field.result u2 c.args.code.now.items _ (pools.field c.in-Field.class.now c.in-Field.name.now c.in-Field.descriptor.now c.args.pool.now) _ _ c.in_ok-index-in-Field.ensures c.push_u2-in-Field.ensures)

pub returns-in_ok-index-in-Method : goal.returns-in_ok-index-in-Method
returns-in_ok-index-in-Method c =
    rw c.in-Method.is (bytes_behind c.push_u2-in-Method.result u2 c.args.code.now.items _ (pools.method c.in-Method.class.now c.in-Method.name.now c.in-Method.descriptor.now c.args.pool.now) _ _ c.in_ok-index-in-Method.ensures c.push_u2-in-Method.ensures)
