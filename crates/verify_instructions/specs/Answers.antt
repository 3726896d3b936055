-- What a result of the verifier says of a definition that may refuse.
use Rattle.std.specs.Prelude.{◌≡◌, Result, Ok, Err}
use Rattle.instruction_rows.specs.declared.row_why.RowWhy.{RowWhy}
use Rattle.verify_instructions.specs.declared.stop.Stop.{Stop}
use Rattle.verify_instructions.specs.declared.stop.Stop.TheVariants as stops

-- The answer is what the definition gives, `left` of what is returned, or the rule that it breaks, unless memory ran out.
abbrev pub Gives : {X A : Type 0} → Result X Stop → (X → A) → Result A RowWhy → Type 0
Gives (Ok x) left wanted = wanted ≡ Ok (left x)
Gives (Err (stops.Broken why)) left wanted = wanted ≡ Err why
Gives (Err stops.NoMemory) left wanted = Unit {0}

-- The call leaves this, as the definition gives it.
abbrev pub Leaves : {X A : Type 0} → Result X Stop → A → Result A RowWhy → Type 0
Leaves result left wanted = Gives result (λ _. left) wanted

-- The call takes a value off the stack and leaves this of it, as the definition gives both.
abbrev pub Takes : {X A : Type 0} → Result X Stop → A → Result (X × A) RowWhy → Type 0
Takes result left wanted = Gives result (λ x. (x, left)) wanted
