-- The invariant of numbered texts.
use Rattle.std.specs.Prelude.{◌≡◌, ℕ, ◌<◌, ◌^◌, List, length}
use Rattle.link_resolution.specs.TextNumbers.{number_at}
use Rattle.link_model.specs.Numbering.{number_of}
use Rattle.link_numbers.specs.declared.names.Names.TheInside.{Inside}

abbrev pub texts_of : Inside → List (List ℕ)
texts_of a = a.texts.items

pub record IsNumbered (a : Inside) : Type 0 where
  pub few : length a.texts.items < 2 ^ 32
  pub numbers : (text : List ℕ) → number_at a.numbers text ≡ number_of a.texts.items text
