use Rattle.native_methods.proofs.LineLaws.{line_written}
use Rattle.native_methods.proofs.printing.push_line.Goals as goal

pub returns : goal.returns
returns c = line_written c.args.out.now.items c.push_text.new.out.items c.push.new.self.items c.args.units.now c.in_ok-push_text.ensures c.in_ok-push.ensures.items
