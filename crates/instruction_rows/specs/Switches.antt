-- The target of a switch for an int, and all its targets (JVMS 6.5: tableswitch, lookupswitch).
use Rattle.std.specs.Prelude.{ℤ, ◌-ℤ◌, unsigned_abs, int_lt, List, ◌∷◌, map, get_or, find, option_map, unwrap_or, if◌then◌else◌}
use Rattle.std.specs.Ordering.{int_eq}
use Rattle.opcodes.specs.declared.switch.TableSwitch.{TableSwitch}
use Rattle.opcodes.specs.declared.switch.LookupSwitch.{LookupSwitch}
use Rattle.opcodes.specs.declared.switch.Match.{Match}

-- the first target is that of the lowest int, and the default that of each int below it or past the last target
abbrev pub table_target : TableSwitch → ℤ → ℤ
table_target s n = if int_lt n s.low then s.default else get_or s.targets (unsigned_abs (n -ℤ s.low)) s.default

abbrev pub table_targets : TableSwitch → List ℤ
table_targets s = s.default ∷ s.targets

abbrev pub match_target : Match → ℤ
match_target m = m.target

-- the target of the match with this int, or the default
abbrev pub lookup_target : LookupSwitch → ℤ → ℤ
lookup_target s n = unwrap_or (option_map match_target (find (λ (m : Match). int_eq m.value n) s.matches)) s.default

abbrev pub lookup_targets : LookupSwitch → List ℤ
lookup_targets s = s.default ∷ map match_target s.matches
