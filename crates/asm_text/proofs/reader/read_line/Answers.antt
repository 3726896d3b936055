use Rattle.asm_text.proofs.ReadLaws.{read_found, read_only, read_bad}
use Rattle.asm_text.proofs.reader.read_line.Goals as goal

pub returns-clause-found : goal.returns-clause-found
returns-clause-found c = read_found c.args.text.now _ c.line_at.ensures

pub returns-clause-only : goal.returns-clause-only
returns-clause-only c l rest h = read_only c.args.text.now _ c.line_at.ensures l rest h

pub returns-clause-bad : goal.returns-clause-bad
returns-clause-bad c e l rest h = read_bad c.args.text.now _ c.line_at.ensures e l rest h
