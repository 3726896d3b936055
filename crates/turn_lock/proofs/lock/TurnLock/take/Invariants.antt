use Rattle.std.proofs.Common.{◌≡◌}
use Rattle.turn_lock.proofs.lock.TurnLock.take.Given as goal

abbrev pub ghosts-take_value : goal.ghosts-take_value
ghosts-take_value g a = record { admits = λ v. g.V.Kept.setting v ≡ g.V.Kept.setting a.table.now.key.initial.value }
