use Rattle.std.proofs.Common.{◌≡◌, length, Some, None, rules}
use Rattle.asm_class.specs.States.{state_of}
use Rattle.jasm.proofs.AddLaws.{next_makes, end_makes}
use Rattle.jasm.proofs.assembler.assemble.Goals as goal

pub loop-rest-preserved : goal.loop-rest-preserved
loop-rest-preserved c = record {
  pool = c.in_ok-rest.ensures.1;
  makes = λ made m. c.loop-rest.invariant.makes made (next_makes (state_of c.loop-rest.assembly) (state_of c.add_line.new.assembly) c.loop-rest.line c.saturating_add-line.result c.loop-rest.rest.now c.in_ok-rest.rest.now made c.in_ok-rest.ensures.0 c.saturating_add-line.ensures m);
}

pub returns-in-Some : goal.returns-in-Some
returns-in-Some c =
    let none : length c.loop-rest.rest.now ≡ 0 = search rules in
    c.loop-rest.invariant.makes _ (end_makes (state_of c.loop-rest.assembly) c.loop-rest.line c.loop-rest.rest.now (Some c.in-Some.file) none c.in-Some.ensures)

pub returns-in-None : goal.returns-in-None
returns-in-None c =
    let none : length c.loop-rest.rest.now ≡ 0 = search rules in
    c.loop-rest.invariant.makes _ (end_makes (state_of c.loop-rest.assembly) c.loop-rest.line c.loop-rest.rest.now None none c.in-None.ensures)
