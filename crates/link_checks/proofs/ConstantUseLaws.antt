-- Uses of constants that are noted because nothing is wrong with them.
use Rattle.std.proofs.Common.{◌≡◌, ℕ, List, Option, Some, None, sym}
use Rattle.items.specs.First.{first_some}
use Rattle.class_model.specs.declared.constant.Const.{Const}
use Rattle.link_rules.specs.declared.why.LinkWhy.{LinkWhy}
use Rattle.link_rules.specs.Program.{Program}
use Rattle.link_resolution.proofs.EntryLaws.{all_set}
use Rattle.link_checks.specs.declared.constant_uses.Use.{Use}
use Rattle.link_checks.specs.ConstantUses.{AreFine, use_faults, with_use}

pub noted : (p : Program) (c : ℕ) (pool : List Const) (fine : List (Option Use)) (fault : Option LinkWhy) (u : Use) (i : ℕ) → AreFine p c pool fine → fault ≡ first_some (use_faults p c pool u i) → AreFine p c pool (with_use fine fault u i)
noted p c pool fine None u i old e = all_set (λ j v. first_some (use_faults p c pool v j) ≡ None) fine i u (sym e) old
noted p c pool fine (Some why) u i old e = old
