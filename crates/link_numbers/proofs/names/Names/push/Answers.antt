use Rattle.std.proofs.Common.{◌≡◌, ◌+◌, ℕ, List, [], ◌∷◌, ◌++◌, length, true, is_some, sym, ap, ◌∙◌, arith, length-append}
use Rattle.std.specs.Prelude.{not}
use Rattle.link_resolution.proofs.TextNumberLaws.{adds_known}
use Rattle.link_model.specs.Numbering.{number_of}
use Rattle.link_numbers.proofs.NameLaws.{one_more}
use Rattle.link_numbers.proofs.names.Names.push.Goals as goal

pub invariant_of-self-2 : goal.invariant_of-self-2
invariant_of-self-2 c =
    let texts = c.self.inside.texts.items in
    let name = c.args.text.now in
    let map = c.self.inside.numbers in
    let new : c.push.new.self.items ≡ texts ++ name ∷ [] = c.in_ok-push.ensures.items ∙ ap (λ (x : List ℕ). texts ++ x ∷ []) (c.from.ensures ∙ c.in_ok-copy.ensures.items) in
    let known : is_some (number_of texts name) ≡ true = ap (λ (ns : List (List ℕ)). is_some (number_of ns name)) c.self.view_is ∙ ap is_some (sym c.number.ensures) ∙ c.is_none.ensures ∙ ap not c.if-is_none.false in
    record {
      few = (let size : length c.push.new.self.items ≡ length texts + 1 = ap length new ∙ length-append texts (name ∷ []) in omega arith);
      numbers = λ text. one_more map map texts name c.self.invariant.numbers (adds_known map name (length texts) (ap is_some (c.self.invariant.numbers name) ∙ known)) text ∙ ap (λ (ns : List (List ℕ)). number_of ns text) (sym new);
    }
