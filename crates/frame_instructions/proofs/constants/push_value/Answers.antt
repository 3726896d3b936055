use Rattle.frame_instructions.proofs.constants.push_value.Goals as goal

pub returns-in-Null : goal.returns-in-Null
returns-in-Null c = λ t. rw c.in-Null.is (c.push_null.ensures t)

pub returns-in-Ref : goal.returns-in-Ref
returns-in-Ref c = λ t. rw c.in-Ref.is (c.push_reference.ensures t)
