use Rattle.std.proofs.Common.{◌≡◌, List, ℕ, Result, Ok, Err}
use Rattle.std.specs.Prelude.{IfOk}
use Rattle.std.specs.Global.{Vec}
use Rattle.class_model.specs.declared.class_file.ClassFile.{ClassFile}
use Rattle.class_grammar.specs.Layout.{class_file}
use Rattle.class_grammar.specs.Grammar.{Spells, SpellsOnly}
use Rattle.class_file.proofs.OutcomeLaws.{one_value}
use Rattle.class_write.proofs.writer.write.Goals as goal

pub whole-requires : goal.whole-requires
whole-requires c = c.requires.1.range

-- what has the layout of a value that has a spelling spells it
spells : (bytes : List ℕ) (f : ClassFile) → (other : List ℕ) × Spells other f → bytes ≡ class_file f → Spells bytes f
spells bytes f some e = record { layout = e; range = some.1.range; by_name = some.1.by_name; sound = some.1.sound }

spells_only : {E : Type 0} (f : ClassFile) (r : Result (Vec ℕ) E) → (other : List ℕ) × Spells other f → IfOk r (λ v. v.items ≡ class_file f) → IfOk r (λ v. SpellsOnly v.items f)
spells_only f (Ok v) some e =
    let s = spells v.items f some e in
    record { spelled = s; only = λ g t. one_value v.items g f t s }
spells_only f (Err x) some e = tt

pub returns : goal.returns
returns c = record { read_back = spells_only c.args.file.now c.whole.result c.requires c.whole.ensures }
