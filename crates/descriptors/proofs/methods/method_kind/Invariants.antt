use Rattle.descriptors.proofs.methods.method_kind.Given as goal

abbrev pub ghosts-method_kind_on : goal.ghosts-method_kind_on
ghosts-method_kind_on a = record { name = a.blank.name; parts = a.blank.parts }
