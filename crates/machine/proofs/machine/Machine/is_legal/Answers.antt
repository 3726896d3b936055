use Rattle.std.proofs.Common.{subst}
use Rattle.machine.specs.Legal.{IsLegal}
use Rattle.machine.proofs.machine.Machine.is_legal.Goals as goal

pub returns : goal.returns
returns c =
    let x = c.self.invariant.sound in
    subst IsLegal c.self.view_is (record {
      accepted = x.accepted;
      some = x.some;
      first = x.first;
      begins = x.begins;
      after = x.after;
      runs = x.runs;
      few = x.few;
      cause = x.cause;
    })
