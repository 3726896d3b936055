use Rattle.std.proofs.Common.{◌≡◌, true, false, sym, ◌∙◌}
use Rattle.type_paths.specs.Paths.{path}
use Rattle.verify_frames.proofs.FrameFitLaws.{stack_differs, flag_left}
use Rattle.verify_frames.proofs.frame.Frame.fits_slots.Goals as goal

pub returns-then-not-fit_path : goal.returns-then-not-fit_path
returns-then-not-fit_path g c =
    let f = c.args.self.now in
    let known : c.is_known.result ≡ true = cc in
    let differs : c.fit_path.result ≡ false = cc in
    stack_differs (g.L.Lookups.world c.args.w.now) f.is_constructor f.max_locals c.args.locals.now c.args.stack.now c.args.this_uninit (path f.paths.now f.entry.locals) (path f.paths.now f.entry.stack)
    (sym c.is_known.ensures ∙ known) (sym c.fit_path.ensures ∙ differs)

pub returns : goal.returns
returns g c =
    let f = c.args.self.now in
    let known : c.is_known.result ≡ true = cc in
    let locals : c.fit_locals.result ≡ true = cc in
    let stack : c.fit_path.result ≡ true = cc in
    c.takes_flag.ensures
    ∙ flag_left (g.L.Lookups.world c.args.w.now) f.is_constructor f.max_locals c.args.locals.now c.args.stack.now c.args.this_uninit (path f.paths.now f.entry.locals) (path f.paths.now f.entry.stack)
    (sym c.is_known.ensures ∙ known) (sym c.fit_locals.ensures ∙ locals) (sym c.fit_path.ensures ∙ stack)
