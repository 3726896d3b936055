use Rattle.conformance.proofs.counted.counted_calls_answer_alike.Given as goal

abbrev pub ghosts-all_agree : goal.ghosts-all_agree
ghosts-all_agree g a = record { name = a.blank.name; parts = a.blank.parts }
