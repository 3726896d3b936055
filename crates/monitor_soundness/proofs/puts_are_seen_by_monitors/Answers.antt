use Rattle.monitor_soundness.proofs.MonitorPuts.{enters_put_nobody, exits_put_the_first}
use Rattle.monitor_soundness.proofs.EndPuts.{ends_put_joiners_alone, ends_put_joiners_and_the_first}
use Rattle.monitor_soundness.proofs.puts_are_seen_by_monitors.Goals as goal

pub returns-clause-enters : goal.returns-clause-enters
returns-clause-enters c = λ p v q k t o lists mounts goes step ends owned. enters_put_nobody p v q k t o lists mounts goes step ends owned

pub returns-clause-exits : goal.returns-clause-exits
returns-clause-exits c = λ p v q k t o lists mounts goes step ends lost line.
    exits_put_the_first p v q k t o lists mounts goes step ends lost line

pub returns-clause-ends : goal.returns-clause-ends
returns-clause-ends c = λ p first v q k t o lists woken a mounts goes on step ended lost line rising just.
    ends_put_joiners_and_the_first p first v q k t o lists woken a mounts goes on step ended lost line rising just

pub returns-clause-keeps : goal.returns-clause-keeps
returns-clause-keeps c = λ p first v q k t o lists joiners a mounts goes on step ended owned rising just.
    ends_put_joiners_alone p first v q k t o lists joiners a mounts goes on step ended owned rising just
