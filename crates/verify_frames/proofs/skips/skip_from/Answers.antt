use Rattle.type_paths.proofs.PathLaws.{above_twice}
use Rattle.verify_frames.proofs.skips.skip_from.Goals as goal

pub returns-then-is_even : goal.returns-then-is_even
returns-then-is_even c = λ ps h. above_twice ps c.args.below c.in-Some.one c.in-Some-skip_at.two (c.in-Some.ensures ps h) (c.in-Some-skip_at.ensures ps h)
