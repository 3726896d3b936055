use Rattle.class_grammar.proofs.text.is_same.Given as goal

abbrev pub ghosts-is_same_on : goal.ghosts-is_same_on
ghosts-is_same_on a = record { name = a.blank.name; parts = a.blank.parts }
