use Rattle.std.proofs.Common.{sym, ◌∙◌}
use Rattle.link_resolution.proofs.KeyTextLaws.{adds_member}
use Rattle.link_resolution.proofs.member_index.add_member.Goals as goal

pub returns : goal.returns
returns c =
    adds_member c.args.map.now c.add_text.new.map c.args.pool.now c.args.member.now c.args.index c.deref.result.now c.in-Some.name.now c.in-Some-text_at.descriptor.now
    (sym c.in-Some.ensures) (sym c.in-Some-text_at.ensures) (c.deref.ensures.value ∙ c.in_ok-text.ensures) c.in_ok-add_text.ensures
