-- One text more among numbered texts.
use Rattle.std.proofs.Common.{◌≡◌, ℕ, cond, List, [], ◌∷◌, ◌++◌, length, Some, None, sym, ap, ◌∙◌}
use Rattle.std.specs.Option.{option_or}
use Rattle.class_grammar.specs.Text.{same_text}
use Rattle.link_resolution.specs.declared.text_numbers.TextNumbers.{TextNumbers}
use Rattle.link_resolution.specs.TextNumbers.{AddsText, number_at}
use Rattle.link_resolution.proofs.Positions.{position_push}
use Rattle.link_model.specs.Numbering.{number_of}

pub one_more : (old new : TextNumbers) (names : List (List ℕ)) (name : List ℕ) → ((text : List ℕ) → number_at old text ≡ number_of names text) → AddsText old name (length names) new
    → (text : List ℕ) → number_at new text ≡ number_of (names ++ name ∷ []) text
one_more old new names name are adds text =
    adds text ∙ ap (λ o. option_or o (cond (same_text name text) (Some (length names)) None)) (are text)
    ∙ sym (position_push (λ other. same_text other text) names name)
