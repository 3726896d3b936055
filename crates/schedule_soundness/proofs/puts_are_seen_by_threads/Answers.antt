use Rattle.schedule_soundness.proofs.PutLaws.{quiet_steps_put_nobody, ends_put_joiners, starts_put_the_started, wakes_put_the_woken}
use Rattle.schedule_soundness.proofs.puts_are_seen_by_threads.Goals as goal

pub returns-clause-nobody : goal.returns-clause-nobody
returns-clause-nobody c = λ p v q k t lists mounts goes others ends. quiet_steps_put_nobody p v q k t lists mounts goes others ends

pub returns-clause-joiners : goal.returns-clause-joiners
returns-clause-joiners c = λ p first v q k t lists joiners a mounts goes on others ended rising just.
    ends_put_joiners p first v q k t lists joiners a mounts goes on others ended rising just

pub returns-clause-started : goal.returns-clause-started
returns-clause-started c = λ p first v q k t u lists a mounts goes others ends fresh live.
    starts_put_the_started p first v q k t u lists a mounts goes others ends fresh live

pub returns-clause-woken : goal.returns-clause-woken
returns-clause-woken c = λ p first v q k t u lists a mounts goes others ends woken free.
    wakes_put_the_woken p first v q k t u lists a mounts goes others ends woken free
