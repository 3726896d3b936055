use Rattle.std.proofs.Common.{List, ℕ, [], ◌++◌, sym, ap, ◌∙◌}
use Rattle.std.specs.List.{flat_map}
use Rattle.std.proofs.lemmas.List.{map-id, flat_map_more}
use Rattle.std.proofs.lemmas.Iterator.{YieldsList-from_chars}
use Rattle.std.proofs.lemmas.Iterator.Consumers.{YieldsList-end}
use Rattle.program_files.specs.MainClass.{name_units}
use Rattle.program_files.proofs.main_class.class_named.Goals as goal

pub loop-c-preserved : goal.loop-c-preserved
loop-c-preserved c =
    c.in_ok-extend_from_slice.ensures.items
    ∙ ap (λ (units : List ℕ). units ++ c.encode_utf16.result.now) c.loop-c.invariant
    ∙ ap (λ (units : List ℕ). flat_map name_units c.loop-c.yielded ++ units) (c.encode_utf16.ensures.value ∙ sym c.with_slash.ensures)
    ∙ flat_map_more name_units [] c.loop-c.yielded c.in-Some.c

pub returns : goal.returns
returns c =
    let t = YieldsList-end (YieldsList-from_chars c.args.text.now c.utf8.text cc) c.loop-c.yielded _ c.loop-c.yielded_by _ _ c.in-None.is c.next.ensures.steps in
    c.loop-c.invariant ∙ ap (flat_map name_units) (sym (map-id c.loop-c.yielded) ∙ t.0)
