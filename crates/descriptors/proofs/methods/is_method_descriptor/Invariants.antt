use Rattle.descriptors.proofs.methods.is_method_descriptor.Given as goal

abbrev pub ghosts-is_method_on : goal.ghosts-is_method_on
ghosts-is_method_on a = record { name = a.blank.name; parts = a.blank.parts }
