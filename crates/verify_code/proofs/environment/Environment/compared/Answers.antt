use Rattle.std.proofs.Common.{◌≡◌, ap, sym, ◌∙◌}
use Rattle.std.specs.Prelude.{◌&&◌, ◌||◌}
use Rattle.std.specs.List.{list_all}
use Rattle.instruction_rows.specs.Rows.{targets_of_row}
use Rattle.instruction_rows.specs.Table.{row}
use Rattle.verify_types.specs.Faults.{fits_next, fits_target}
use Rattle.verify_types.specs.TypeStates.{TypeState}
use Rattle.verify_frames.specs.KnownStates.{type_state}
use Rattle.verify_code.proofs.environment.Environment.compared.Goals as goal

pub fitted_after-requires-clause-fits : goal.fitted_after-requires-clause-fits
fitted_after-requires-clause-fits g c = λ is. sym c.fits_targets-fits_targets.ensures ∙ is

pub returns-clause-fits : goal.returns-clause-fits
returns-clause-fits g c =
    let env = c.args.self.now in
    let i = c.args.i.now in
    let near : type_state c.in_ok-near.near ≡ type_state c.args.s = c.in_ok-near.ensures.same in
    let fitted : type_state c.in_ok-fitted.fitted ≡ type_state c.args.s = c.in_ok-fitted.ensures.same ∙ near in
    let known : type_state c.in_ok-known.known ≡ type_state c.args.s = c.in_ok-known.ensures.same ∙ fitted in
    c.fits_on-fits.ensures
    ∙ ap (λ b. b && (c.args.is_last || fits_next env (row i.op) i.next (type_state c.in_ok-known.known))) (c.fits_targets-fits_targets.ensures ∙ ap (λ (t : TypeState). list_all (fits_target env t) (targets_of_row (row i.op))) near)
    ∙ ap (λ (t : TypeState). list_all (fits_target env (type_state c.args.s)) (targets_of_row (row i.op)) && (c.args.is_last || fits_next env (row i.op) i.next t)) known

pub returns-clause-same : goal.returns-clause-same
returns-clause-same g c = c.in_ok-known.ensures.same ∙ c.in_ok-fitted.ensures.same ∙ c.in_ok-near.ensures.same
