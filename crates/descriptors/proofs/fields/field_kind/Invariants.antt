use Rattle.descriptors.proofs.fields.field_kind.Given as goal

abbrev pub ghosts-field_kind_on : goal.ghosts-field_kind_on
ghosts-field_kind_on a = record { name = a.blank.name; parts = a.blank.parts }
