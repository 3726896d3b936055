-- A key in the code: the name and the descriptor of a member, each lent.
use Rattle.link_rules.specs.Members.{Key}
use Rattle.link_resolution.specs.declared.members.MemberKey.{MemberKey}

abbrev pub key_of : MemberKey → Key
key_of k = record { name = k.name.now; descriptor = k.descriptor.now }
