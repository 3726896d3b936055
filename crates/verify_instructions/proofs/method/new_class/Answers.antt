use Rattle.std.proofs.Common.{◌≡◌, Some, List, ap, length, refl, sym, ◌∙◌}
use Rattle.std.specs.Prelude.{position, slice_get}
use Rattle.std.proofs.lemmas.Bool.{ltb-true}
use Rattle.std.proofs.lemmas.Option.{slice_get_read}
use Rattle.link_model.specs.Resolutions.{meanings}
use Rattle.opcodes.specs.declared.op.Instr.{Instr}
use Rattle.verify_types.specs.Calls.{made_by}
use Rattle.verify_types.specs.Environment.{with_resolutions}
use Rattle.verify_instructions.specs.Tables.{new_at}
use Rattle.verify_instructions.proofs.NewLaws.{At, new_found, new_none}
use Rattle.verify_instructions.proofs.method.new_class.Goals as goal

pub returns-in_default : goal.returns-in_default
returns-in_default c =
    let code = c.deref-code.result.now in
    let ns = meanings c.args.m.now.resolutions in
    sym (new_none c.args.pc code ns (sym (c.index_at.ensures ∙ ap (λ p. position (At p) code) c.from.ensures) ∙ c.in_default.is))
    ∙ ap (λ (is : List Instr). new_at c.args.pc (with_resolutions is ns)) c.deref-code.ensures

pub returns : goal.returns
returns c =
    let code = c.deref-code.result.now in
    let ns = meanings c.args.m.now.resolutions in
    let n = c.in-Some.n in
    let i = c.in-Some-get.i.now in
    let got : slice_get code n ≡ Some i = slice_get_read code (length code) n i refl (ltb-true n (length code) (sym c.in-Some-get.ensures.lookup.0)) c.in-Some-get.ensures.lookup.1 in
    c.made_by.ensures
    ∙ ap (λ m. made_by i.op m.site) c.at.ensures
    ∙ sym (new_found c.args.pc code ns n i (sym (c.index_at.ensures ∙ ap (λ p. position (At p) code) c.from.ensures) ∙ c.in-Some.is) got)
    ∙ ap (λ (is : List Instr). new_at c.args.pc (with_resolutions is ns)) c.deref-code.ensures
