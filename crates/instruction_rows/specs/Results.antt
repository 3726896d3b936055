-- Steps that may be refused, one after the other: the first refusal is the answer.
use Rattle.std.specs.Prelude.{Result, Ok, Err}

infixl 10 ◌then◌
abbrev pub ◌then◌ : {A B E : Type 0} → Result A E → (A → Result B E) → Result B E
(Err e) then f = Err e
(Ok x) then f = f x
