use Rattle.std.proofs.Common.{◌≡◌, ℕ, List, length, sym, ap, ◌∙◌}
use Rattle.std.specs.Prelude.{slice_get}
use Rattle.link_rules.specs.Program.{Program}
use Rattle.link_rules.specs.Members.{fields_before}
use Rattle.link_resolution.specs.Tables.{tabulate}
use Rattle.link_numbers.proofs.TableLaws.{value_read}
use Rattle.link_numbers.proofs.member_numbers.MemberNumbers.first_field.Goals as goal

pub returns : goal.returns
returns c =
    let p = c.args.self.now in
    let table : c.deref.result.now ≡ tabulate (fields_before p.classes) (length p.classes) =
    c.deref.ensures.value ∙ c.self.invariant.fields ∙ ap (λ (q : Program). tabulate (fields_before q.classes) (length q.classes)) c.self.view_is in
    value_read (fields_before p.classes) (length p.classes) c.args.class c.in_ok-first.first (ap (λ (xs : List ℕ). slice_get xs c.args.class) (sym table) ∙ c.in_ok-first.ensures)
