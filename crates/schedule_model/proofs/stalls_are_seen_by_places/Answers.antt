use Rattle.schedule_model.proofs.PlaceLaws.{places_tell, stalls_by_places}
use Rattle.schedule_model.proofs.stalls_are_seen_by_places.Goals as goal

pub returns-clause-places : goal.returns-clause-places
returns-clause-places g c = λ m. places_tell m

pub returns-clause-stalled : goal.returns-clause-stalled
returns-clause-stalled g c = λ m. stalls_by_places m
