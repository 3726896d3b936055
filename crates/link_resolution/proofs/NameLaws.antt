-- One class more in the map of names.
use Rattle.std.proofs.Common.{◌≡◌, ℕ, ◌+◌, ◌<◌, cond, List, [], ◌∷◌, ◌++◌, length, take, get_or, Some, None, ap, ◌∙◌, arith}
use Rattle.std.specs.Option.{option_or}
use Rattle.std.proofs.lemmas.Grind.{common_steps}
use Rattle.class_model.specs.declared.class_file.ClassFile.{ClassFile}
use Rattle.class_grammar.specs.Text.{same_text}
use Rattle.link_rules.specs.Program.{own_name}
use Rattle.link_resolution.specs.Names.{first_named}
use Rattle.link_resolution.proofs.Positions.{position_push}

pub one_more : (files : List ClassFile) (i : ℕ) (f : ClassFile) (name : List ℕ) → i < length files → f ≡ get_or files i f
    → first_named (take (i + 1) files) name ≡ option_or (first_named (take i files) name) (cond (same_text (own_name f) name) (Some i) None)
one_more files i f name h e =
    let t : take (i + 1) files ≡ take i files ++ f ∷ [] = grind (arith, common_steps) in
    let l : length (take i files) ≡ i = grind (arith, common_steps) in
    ap (λ fs. first_named fs name) t ∙ position_push (λ g. same_text (own_name g) name) (take i files) f
    ∙ ap (λ n. option_or (first_named (take i files) name) (cond (same_text (own_name f) name) (Some n) None)) l
