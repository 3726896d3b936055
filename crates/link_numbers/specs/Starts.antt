-- Where each of several groups begins that lie one after the other.
use Rattle.std.specs.Prelude.{◌≡◌, ℕ, ◌+◌, ◌<◌, ◌^◌, List, [], ◌∷◌, length}
use Rattle.std.specs.List.{sum}
use Rattle.link_model.specs.Numbering.{Numbering}
use Rattle.link_numbers.specs.declared.array_numbers.ArrayNumbers.TheInside.{Inside}

-- groups of these sizes, from a number on
abbrev pub starts_of : ℕ → List ℕ → List ℕ
starts_of start [] = []
starts_of start (size ∷ sizes) = start ∷ starts_of (start + size) sizes

abbrev pub numbering_in : Inside → Numbering
numbering_in a = a.numbering

pub record IsCounted (a : Inside) : Type 0 where
  pub starts : a.starts.items ≡ starts_of (length a.numbering.names) a.numbering.depths
  pub few : length a.numbering.names + sum a.numbering.depths < 2 ^ 32
