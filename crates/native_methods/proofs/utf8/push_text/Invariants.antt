use Rattle.std.proofs.Common.{ℕ, ◌≡◌, ◌++◌, true, List, Option, drop}
use Rattle.std.specs.Prelude.{IfSome}
use Rattle.ref_model.specs.Texts.{bytes_behind, is_high, text_bytes}
use Rattle.native_methods.proofs.utf8.push_text.Given as goal

-- what was appended so far, with what follows, is the text
pub record IsPushed (old new : List ℕ) (before : Option ℕ) (rest units : List ℕ) : Type 0 where
  pub high : IfSome before (λ high. is_high high ≡ true)
  pub bytes : new ++ bytes_behind before rest ≡ old ++ text_bytes units

abbrev pub invariant-loop-unit : goal.invariant-loop-unit
invariant-loop-unit l = IsPushed l.initial.out.items l.out.items l.before (drop l.unit-index l.units) l.units
