use Rattle.std.proofs.Common.{sym, ◌∙◌}
use Rattle.link_resolution.proofs.TextMap.{adds_new}
use Rattle.link_resolution.proofs.member_index.add_text.Goals as goal

pub returns : goal.returns
returns c = adds_new c.args.map.now c.insert.new.self c.in_ok-key.key c.args.text.now c.args.index c.in_ok-key.ensures.items (sym c.contains_key.ensures ∙ c.if-contains_key.false) c.in_ok-insert.ensures.updates
