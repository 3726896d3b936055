use Rattle.std.proofs.Common.{◌≡◌, List, Option, sym, ap, ◌∙◌}
use Rattle.std.specs.Option.{option_or}
use Rattle.class_model.specs.declared.attribute.Row.{Row}
use Rattle.opcodes.specs.declared.op.Instr.{Instr}
use Rattle.link_rules.specs.declared.why.LinkWhy.{LinkWhy}
use Rattle.items.specs.First.{first_in}
use Rattle.link_rules.specs.Faults.{Decoded, decoded}
use Rattle.link_checks.specs.Firsts.{instr_why, row_why}
use Rattle.link_checks.proofs.FaultLaws.{bad_why, code_is}
use Rattle.link_checks.proofs.code.code_fault.Goals as goal

pub returns-clause-fault : goal.returns-clause-fault
returns-clause-fault c =
    let n = c.args.namer in
    let front = c.in_ok-front.front in
    let instrs = first_in (instr_why n.world.now n.class n.pool.now) front.instrs.items in
    let d : Decoded = record { instrs = front.instrs.items; is_bad = front.is_bad } in
    let code : decoded c.args.body.now.code ≡ d = sym (ap decoded c.deref.ensures) ∙ c.in_ok-front.ensures.front in
    let first : c.in_ok-instrs.instrs ≡ instrs = c.in_ok-instrs.ensures.fault ∙ ap (λ (xs : List Instr). first_in (instr_why n.world.now n.class n.pool.now) xs) c.deref-2.ensures.value in
    let last : c.rows_fault-rows.result ≡ first_in (row_why n.world.now n.class n.pool.now) c.args.body.now.rows =
    c.rows_fault-rows.ensures ∙ ap (λ (xs : List Row). first_in (row_why n.world.now n.class n.pool.now) xs) c.deref-3.ensures in
    c.or-2.ensures ∙ ap (λ (o : Option LinkWhy). option_or o c.rows_fault-rows.result) c.or.ensures
    ∙ ap (λ (o : Option LinkWhy). option_or (option_or o c.unless-end.result) c.rows_fault-rows.result) first
    ∙ ap (λ (o : Option LinkWhy). option_or (option_or instrs o) c.rows_fault-rows.result) c.unless-end.ensures
    ∙ ap (λ (o : Option LinkWhy). option_or (option_or instrs (bad_why front.is_bad)) o) last
    ∙ sym (code_is n.world.now n.class n.pool.now c.args.body.now d code)
