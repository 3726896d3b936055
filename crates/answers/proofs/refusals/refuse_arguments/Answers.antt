use Rattle.std.proofs.Common.{[], refl, sym, subst}
use Rattle.std.proofs.lemmas.List.{append-nil}
use Rattle.command_line.specs.Answers.{memory_line}
use Rattle.answers.specs.Taken.{TakesLine}
use Rattle.answers.proofs.refusals.refuse_arguments.Goals as goal

pub returns-in-Usage-clause-line : goal.returns-in-Usage-clause-line
returns-in-Usage-clause-line g c = rw c.in-Usage.is (record { more = _; is_more = tt; takes = c.put_both.ensures })

pub returns-in-NoMemory-clause-line : goal.returns-in-NoMemory-clause-line
returns-in-NoMemory-clause-line g c =
    rw c.in-NoMemory.is
    (record { more = []; is_more = refl; takes = subst (λ l. TakesLine g.E.Sink.contents g.E.Sink.faults c.args.err.now c.no_memory.new.err l [] 0) (sym (append-nil memory_line)) c.no_memory.ensures.line })
