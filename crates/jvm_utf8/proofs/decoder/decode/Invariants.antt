use Rattle.jvm_utf8.proofs.decoder.decode.Given as goal

abbrev pub ghosts-decode_on : goal.ghosts-decode_on
ghosts-decode_on a = record { name = a.blank.name; parts = a.blank.parts }
