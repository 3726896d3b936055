use Rattle.std.proofs.Common.{List, Option, ap, ◌∙◌}
use Rattle.std.specs.Prelude.{slice_get}
use Rattle.std.specs.Option.{option_and_then}
use Rattle.lib_table.specs.declared.native.Native.{Native}
use Rattle.link_model.specs.World.{World}
use Rattle.ref_model.specs.Members.{native_at}
use Rattle.runtime_program.proofs.TableLaws.{natives_are}
use Rattle.runtime_program.proofs.program.ReadyProgram.native.Goals as goal

pub returns : goal.returns
returns c =
    c.native_entry.ensures
    ∙ ap (λ (xs : List (Option Native)). option_and_then (λ o. o) (slice_get xs c.args.n)) (c.deref.ensures.value ∙ c.self.invariant.natives)
    ∙ natives_are c.self.inside.prepared c.args.n
    ∙ ap (λ (w : World). native_at w c.args.n) c.self.view_is
