use Rattle.frame_soundness.proofs.CallerLaws.{callers_wait}
use Rattle.frame_soundness.proofs.InstanceCalls.{begins}
use Rattle.frame_soundness.proofs.callees_begin.Goals as goal

pub returns-clause-begin : goal.returns-clause-begin
returns-clause-begin c = λ w m code ts rest x xs g typed at code_is flag of taken popped made.
    begins w m code ts rest x xs g typed at code_is flag of taken popped made

pub returns-clause-wait : goal.returns-clause-wait
returns-clause-wait c = λ w f invocation index m typed s known receiver named.
    callers_wait w f invocation index m typed s known receiver named
