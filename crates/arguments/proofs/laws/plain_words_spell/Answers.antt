use Rattle.arguments.proofs.PlainFile.{plain_asm_is_spelled, plain_list_is_spelled}
use Rattle.arguments.proofs.PlainGen.{plain_gen_is_spelled}
use Rattle.arguments.proofs.PlainLaws.{plain_run_is_spelled}
use Rattle.arguments.proofs.laws.plain_words_spell.Goals as goal

pub returns-clause-run : goal.returns-clause-run
returns-clause-run c program options main file files range different plain few = plain_run_is_spelled program options main file files range different plain.0 plain.1.0 plain.1.1 few

pub returns-clause-asm : goal.returns-clause-asm
returns-clause-asm c = plain_asm_is_spelled

pub returns-clause-list : goal.returns-clause-list
returns-clause-list c = plain_list_is_spelled

pub returns-clause-generated : goal.returns-clause-generated
returns-clause-generated c = plain_gen_is_spelled
