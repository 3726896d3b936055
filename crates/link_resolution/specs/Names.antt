-- A map from the names of classes to their indices.
use Rattle.std.specs.Prelude.{◌≡◌, ℕ, List, Option, Some, None, position, if◌then◌else◌}
use Rattle.std.specs.Option.{option_or}
use Rattle.std.specs.Ordering.{nat_cmp}
use Rattle.std.specs.BTreeMap.{BTreeMap, get_by}
use Rattle.std.specs.Cmp.Lexicographic.{slice_cmp}
use Rattle.std.specs.Global.{Vec}
use Rattle.class_model.specs.declared.class_file.ClassFile.{ClassFile}
use Rattle.class_grammar.specs.Text.{same_text}
use Rattle.link_rules.specs.Program.{own_name}

-- the value at a text
abbrev pub at_text : {X : Type 0} → BTreeMap (Vec ℕ) X → List ℕ → Option X
at_text m text = get_by (λ k. slice_cmp nat_cmp text k.items) m

-- the new map has this value at the name, unless the old one had some
abbrev pub Adds : {X : Type 0} → BTreeMap (Vec ℕ) X → List ℕ → X → BTreeMap (Vec ℕ) X → Type 0
Adds old name x new = (text : List ℕ) → at_text new text ≡ option_or (at_text old text) (if same_text name text then Some x else None)

-- the first of the files that has this name
abbrev pub first_named : List ClassFile → List ℕ → Option ℕ
first_named files name = position (λ f. same_text (own_name f) name) files
