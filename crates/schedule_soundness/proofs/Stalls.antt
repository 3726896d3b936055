-- Stalls and puts, for the reference machine.
use Rattle.schedule_model.proofs.PlaceLaws.{places_tell as model_places_tell, stalls_by_places as model_stalls, steps_put as model_steps_put, ticks_put as model_ticks_put}
use Rattle.schedule_model.proofs.StarveLaws.{mounts_starve_nobody as model_mounts}
use Rattle.ref_model.specs.Looks.{machine_from}
use Rattle.schedule_soundness.specs.StallLaws.{PlacesTell, StallsByPlaces, MountsStarveNobody, StepsPutWhoIsEnabled, TicksPutWhoIsEnabled}
use Rattle.schedule_soundness.proofs.Histories.{is_after}

pub places_tell : PlacesTell
places_tell p first v a goes off = model_places_tell (machine_from p first) v (is_after p first v a) goes off

pub stalls_by_places : StallsByPlaces
stalls_by_places p first v a goes off timeless = model_stalls (machine_from p first) v (is_after p first v a) goes off timeless

pub mounts_starve_nobody : MountsStarveNobody
mounts_starve_nobody p first v a c t s e = model_mounts (machine_from p first) v (is_after p first v a) c t s e

pub steps_put : StepsPutWhoIsEnabled
steps_put p first q v a c t n pick may e goes = model_steps_put (machine_from p first) v (is_after p first v a) q c t n pick may e goes

pub ticks_put : TicksPutWhoIsEnabled
ticks_put p first q v a c now may e goes = model_ticks_put (machine_from p first) v (is_after p first v a) q c now may e goes
