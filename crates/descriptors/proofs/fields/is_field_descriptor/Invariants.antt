use Rattle.descriptors.proofs.fields.is_field_descriptor.Given as goal

abbrev pub ghosts-is_field_on : goal.ghosts-is_field_on
ghosts-is_field_on a = record { name = a.blank.name; parts = a.blank.parts }
