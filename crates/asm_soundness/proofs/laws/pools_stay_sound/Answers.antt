use Rattle.asm_soundness.proofs.PoolLaws.{text_keeps, class_keeps, string_keeps, numbers_keep, members_keep}
use Rattle.asm_soundness.proofs.laws.pools_stay_sound.Goals as goal

pub returns-clause-text : goal.returns-clause-text
returns-clause-text c = text_keeps

pub returns-clause-class : goal.returns-clause-class
returns-clause-class c = class_keeps

pub returns-clause-string : goal.returns-clause-string
returns-clause-string c = string_keeps

pub returns-clause-numbers : goal.returns-clause-numbers
returns-clause-numbers c = numbers_keep

pub returns-clause-members : goal.returns-clause-members
returns-clause-members c = members_keep
