use Rattle.native_methods.proofs.StateLaws.{set_in}
use Rattle.native_methods.proofs.state.set_value.Goals as goal

pub returns : goal.returns
returns c = set_in c.args.o c.args.place c.args.value c.args.state.now c.set_value.new.heap c.set_value.result c.set_value.ensures
