use Rattle.native_methods.proofs.answers.on_two_references.Goals as goal

pub returns-in-PrintStreamPrintlnString-clause-answer : goal.returns-in-PrintStreamPrintlnString-clause-answer
returns-in-PrintStreamPrintlnString-clause-answer g c = rw c.in-PrintStreamPrintlnString.is c.print_string.ensures.answer

pub returns-in-PrintStreamPrintString-clause-answer : goal.returns-in-PrintStreamPrintString-clause-answer
returns-in-PrintStreamPrintString-clause-answer g c = rw c.in-PrintStreamPrintString.is c.print_string-in-PrintStreamPrintString.ensures.answer
