use Rattle.std.proofs.Common.{◌≡◌, ◌++◌, ◌+◌, ℕ, List, [], ◌∷◌, map, Option, take, ap, subst, sym, ◌∙◌}
use Rattle.std.proofs.lemmas.List.{append_assoc, map_more}
use Rattle.link_model.specs.declared.members.MethodCode.{MethodCode}
use Rattle.opcodes.specs.declared.op.Instr.{Instr}
use Rattle.link_model.specs.declared.sites.Resolution.{Resolution}
use Rattle.link_model.specs.Sites.{instr_resolution}
use Rattle.link_tables.specs.Linkings.{linking_in}
use Rattle.link_tables.specs.Resolutions.{resolutions_in}
use Rattle.link_tables.specs.ResolutionTables.{AreListsOf, AreNumbersOf}
use Rattle.link_tables.proofs.NumberLaws.{list_more}
use Rattle.link_tables.proofs.resolutions.code_numbers.Goals as goal

pub loop-code-preserved : goal.loop-code-preserved
loop-code-preserved c =
    let l = linking_in c.args.l in
    let pool = c.args.pool.now in
    let named = resolutions_in l c.args.class pool in
    let old = c.loop-code.resolutions.table.items in
    let new = c.instr_numbers.new.table.items in
    let done = map named (take c.loop-code.code-index c.args.codes.now) in
    let x = named c.code-item.result in
    let more : map named (take (c.loop-code.code-index + 1) c.args.codes.now) ≡ done ++ x ∷ [] =
    map_more named c.args.codes.now c.loop-code.code-index c.code-item.result c.loop-code-test.true ∙ ap (λ (o : Option MethodCode). done ++ named o ∷ []) (sym c.code-item.is) in
    let here : AreNumbersOf new c.in_ok-numbers.numbers x =
    subst (λ (is : List Instr). AreNumbersOf new c.in_ok-numbers.numbers (map (instr_resolution l c.args.class pool) is)) c.instrs_in-instrs.ensures c.in_ok-numbers.ensures.numbers in (
      c.in_ok-numbers.ensures.known,
      λ xss e.
          let lists = list_more old new c.loop-code.resolutions.numbers.items c.in_ok-numbers.numbers (xss ++ done) x c.in_ok-numbers.ensures.extends (c.loop-code.invariant.1 xss e) here in
          subst (λ (nss : List (List ℕ)). AreListsOf new nss (xss ++ map named (take (c.loop-code.code-index + 1) c.args.codes.now))) (sym c.in_ok-push.ensures.items)
          (subst (λ (yss : List (List Resolution)). AreListsOf new (c.loop-code.resolutions.numbers.items ++ c.in_ok-numbers.numbers ∷ []) yss)
          (append_assoc xss done (x ∷ []) ∙ ap (λ (yss : List (List Resolution)). xss ++ yss) (sym more)) lists),
    )
