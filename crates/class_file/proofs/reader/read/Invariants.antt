use Rattle.class_file.proofs.reader.read.Given as goal

abbrev pub ghosts-read_on : goal.ghosts-read_on
ghosts-read_on a = record { name = a.blank.name; parts = a.blank.parts }
