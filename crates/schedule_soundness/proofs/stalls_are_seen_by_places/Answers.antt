use Rattle.schedule_soundness.proofs.Stalls.{places_tell, stalls_by_places, mounts_starve_nobody}
use Rattle.schedule_soundness.proofs.stalls_are_seen_by_places.Goals as goal

pub returns-clause-places : goal.returns-clause-places
returns-clause-places c = λ p first v a goes off t. places_tell p first v a goes off t

pub returns-clause-stalled : goal.returns-clause-stalled
returns-clause-stalled c = λ p first v a goes off timeless. stalls_by_places p first v a goes off timeless

pub returns-clause-mounts : goal.returns-clause-mounts
returns-clause-mounts c = λ p first v a k t s e. mounts_starve_nobody p first v a k t s e
