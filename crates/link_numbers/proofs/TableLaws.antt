-- What is read of a table is the function's value.
use Rattle.std.proofs.Common.{◌≡◌, ℕ, ◌<◌, ◌≤◌, Some, sym, ◌∙◌, ⊎_elim}
use Rattle.std.specs.Prelude.{slice_get}
use Rattle.std.proofs.lemmas.Bool.{cases_lt}
use Rattle.std.proofs.lemmas.Option.{same_Some}
use Rattle.link_resolution.specs.Tables.{tabulate}
use Rattle.link_resolution.proofs.TableLaws.{get_tabulate, past_tabulate}

pub value_read : (f : ℕ → ℕ) (n i x : ℕ) → slice_get (tabulate f n) i ≡ Some x → x ≡ f i
value_read f n i x e =
    ⊎_elim
    (λ (h : i < n). same_Some x (f i) (sym e ∙ get_tabulate f n i h))
    (λ (h : n ≤ i). let none = sym e ∙ past_tabulate f n i h in absurd cc)
    (cases_lt i n)
