use Rattle.ref_model.specs.Heap.{with_text}
use Rattle.native_methods.proofs.StateLaws.{made}
use Rattle.native_methods.proofs.state.make_text.Goals as goal

pub returns : goal.returns
returns c = made (λ r. with_text r c.args.units.now) c.args.state.now c.make_text.new.heap c.make_text.result c.make_text.ensures.made
