use Rattle.std.proofs.Common.{◌≡◌, ◌++◌, ◌+◌, ℕ, List, [], ◌∷◌, map, take, ap, subst, sym, ◌∙◌}
use Rattle.std.proofs.lemmas.List.{map_more}
use Rattle.opcodes.specs.declared.op.Instr.{Instr}
use Rattle.link_model.specs.declared.sites.Resolution.{Resolution}
use Rattle.link_model.specs.Sites.{instr_resolution}
use Rattle.link_tables.specs.Linkings.{linking_in}
use Rattle.link_tables.specs.ResolutionTables.{AreNumbersOf}
use Rattle.link_tables.proofs.NumberLaws.{extends_twice, number_more}
use Rattle.link_tables.proofs.resolutions.instr_numbers.Goals as goal

pub loop-instr-preserved : goal.loop-instr-preserved
loop-instr-preserved c =
    let resolution = instr_resolution (linking_in c.args.l) c.args.class c.args.pool.now in
    let old = c.loop-instr.table.items in
    let new = c.number_of.new.table.items in
    let done = map resolution (take c.loop-instr.instr-index c.args.instrs.now) in
    let x = resolution c.instr-item.result in
    let more : map resolution (take (c.loop-instr.instr-index + 1) c.args.instrs.now) ≡ done ++ x ∷ [] =
    map_more resolution c.args.instrs.now c.loop-instr.instr-index c.instr-item.result c.loop-instr-test.true ∙ ap (λ (i : Instr). done ++ resolution i ∷ []) (sym c.instr-item.is) in
    let extends = c.in_ok-number_of.ensures.extends in
    let numbers = number_more old new c.loop-instr.numbers.items c.in_ok-number_of.field-0 done x extends c.loop-instr.invariant.2 c.in_ok-number_of.ensures.number in (
      c.in_ok-number_of.ensures.known,
      extends_twice c.args.table.now.items old new c.loop-instr.invariant.1 extends,
      subst (λ (ns : List ℕ). AreNumbersOf new ns (map resolution (take (c.loop-instr.instr-index + 1) c.args.instrs.now))) (sym {A = List ℕ} c.in_ok-push.ensures.items)
          (subst (λ (xs : List Resolution). AreNumbersOf new (c.loop-instr.numbers.items ++ c.in_ok-number_of.field-0 ∷ []) xs) (sym more) numbers),
    )
