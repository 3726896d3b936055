use Rattle.std.proofs.Common.{sym, ◌∙◌}
use Rattle.ref_run.specs.States.{state_of}
use Rattle.ref_run.proofs.PhaseLaws.{finishes, on_ok}
use Rattle.ref_run.proofs.phases.finish_request.Goals as goal

pub returns : goal.returns
returns c =
    on_ok c.resume.result c.resume.ensures (λ leads.
    finishes (state_of c.args.state.now) (state_of c.set_status.new.state) (state_of c.resume.new.state) c.args.t c.args.pending (sym c.gives_back.ensures ∙ c.if-gives_back.false)
    c.set_status.ensures leads)
