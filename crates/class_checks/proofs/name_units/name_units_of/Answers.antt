use Rattle.std.proofs.Common.{◌≡◌, Bool, bit_and, bit_or, refl}
use Rattle.class_checks.specs.declared.name_units.NameUnits.{NameUnits}
use Rattle.class_checks.proofs.LaneLaws.{any_lane, joined, hits_first, hits_second, slash_decides, stop_decides, angle_decides, empty_part_decides}
use Rattle.class_checks.proofs.name_units.name_units_of.Goals as goal

same_record : (a b c d p q r s : Bool) → a ≡ p → b ≡ q → c ≡ r → d ≡ s
    → ◌≡◌ {A = NameUnits} (record { stop = a; slash = b; angle = c; empty_part = d }) (record { stop = p; slash = q; angle = r; empty_part = s })
same_record a b c d p q r s e f g h = rw (e, f, g, h) refl

pub returns : goal.returns
returns c =
    let us = c.args.before in
    let vs = c.args.units in
    let long = c.fits-before.0 in
    let same = c.fits-units.0 in
    same_record _ _ _ _ _ _ _ _
    (any_lane _ _ stop_decides us vs _ long same (joined bit_or _ _ us vs (joined bit_or _ _ us vs (hits_second 46 us vs long same) (hits_second 59 us vs long same)) (hits_second 91 us vs long same)))
    (any_lane _ _ slash_decides us vs _ long same (hits_second 47 us vs long same))
    (any_lane _ _ angle_decides us vs _ long same (joined bit_or _ _ us vs (hits_second 60 us vs long same) (hits_second 62 us vs long same)))
    (any_lane _ _ empty_part_decides us vs _ long same (joined bit_and _ _ us vs (hits_first 47 us vs long same) (hits_second 47 us vs long same)))
