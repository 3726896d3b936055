use Rattle.std.proofs.Common.{◌≡◌, ◌+◌, ℕ, List, [], ◌∷◌, ◌++◌, length, sym, ap, subst, ◌∙◌, arith, rules, length-append}
use Rattle.link_resolution.specs.TextNumbers.{AddsText}
use Rattle.link_model.specs.Numbering.{number_of}
use Rattle.link_numbers.proofs.NameLaws.{one_more}
use Rattle.link_numbers.proofs.names.Names.add_new.Goals as goal

pub invariant_of-self-in-Ok : goal.invariant_of-self-in-Ok
invariant_of-self-in-Ok c =
    let texts = c.self.inside.texts.items in
    let name = c.args.text.now in
    let new : c.push.new.self.items ≡ texts ++ name ∷ [] = c.in_ok-push.ensures.items ∙ ap (λ (x : List ℕ). texts ++ x ∷ []) (c.from.ensures ∙ c.in_ok-copy.ensures.items) in
    let number : c.len-number.result ≡ length texts = search rules in
    record {
      few = (let size : length c.push.new.self.items ≡ length texts + 1 = ap length new ∙ length-append texts (name ∷ []) in omega (arith, number));
      numbers = λ text. one_more c.self.inside.numbers c.add_new.new.self texts name c.self.invariant.numbers (subst (λ (n : ℕ). AddsText c.self.inside.numbers name n c.add_new.new.self) number c.in-Ok.ensures.ok) text ∙ ap (λ (ns : List (List ℕ)). number_of ns text) (sym new);
    }
