-- No thread of a linked program begins pinned, where its main method isn't jvt.Native.hold.
use Rattle.std.proofs.Common.{◌≡◌, ℕ, false, List, [], ◌∷◌, Some, refl, ap, sym, ◌∙◌, ◌&&◌}
use Rattle.std.specs.Prelude.{codes, slice_get}
use Rattle.std.proofs.lemmas.Bool.{and_right}
use Rattle.items.specs.First.{Each}
use Rattle.class_grammar.specs.Text.{same_text}
use Rattle.link_model.specs.declared.members.MethodInfo.{MethodInfo}
use Rattle.link_model.specs.Initializers.{is_of_initializer, is_static_method}
use Rattle.link_model.specs.World.{World}
use Rattle.verify_types.proofs.ListLaws.{and_true}
use Rattle.ref_model.specs.Members.{is_hold}
use Rattle.ref_model.specs.Opening.{initializers}
use Rattle.step_soundness.specs.OpeningLaws.{IsClassInitializer}
use Rattle.step_soundness.proofs.LinkedWorlds.{initializers_are_such}
use Rattle.step_soundness.proofs.Selections.{text_same}
use Rattle.step_soundness.proofs.Starts.{named_run}
use Rattle.schedule_soundness.specs.PromiseLaws.{BeginsUnpinned, IsPlain}
use Rattle.schedule_soundness.proofs.ThreadLists.{same_some}
use Rattle.link_model.specs.Infos.{methods_of}
use Rattle.ref_model.specs.Setting.{Setting}

-- a method of another name
other_name : (w : World) (m : MethodInfo) (name : List ℕ) → m.name ≡ name → same_text name (codes "hold") ≡ false → is_hold w m ≡ false
other_name w m name is other = and_right _ (same_text m.name (codes "hold")) (ap (λ s. same_text s (codes "hold")) is ∙ other)

plain_by : (w : World) (n : ℕ) (m : MethodInfo) (name : List ℕ) → slice_get w.methods n ≡ Some m → m.name ≡ name
    → same_text name (codes "hold") ≡ false → IsPlain w n
plain_by w n m name at is other x there =
    other_name w x name (ap (λ (y : MethodInfo). y.name) (sym (same_some (slice_get w.methods n) m x at there)) ∙ is) other

initializer_plain : (w : World) (n : ℕ) → IsClassInitializer w n → IsPlain w n
initializer_plain w n i =
    let m = i.method in
    let named = and_true (is_static_method m && same_text m.name (codes "<clinit>")) (is_of_initializer m.signature) i.is in
    let name = and_true (is_static_method m) (same_text m.name (codes "<clinit>")) named.0 in
    plain_by w n m (codes "<clinit>") i.at (text_same m.name (codes "<clinit>") name.1) refl

each_plain : (w : World) (ns : List ℕ) → Each (IsClassInitializer w) ns → Each (IsPlain w) ns
each_plain w [] each = tt
each_plain w (n ∷ ns) each = (initializer_plain w n each.0, each_plain w ns each.1)

pub begins_unpinned : (p : Setting) → p.world.methods ≡ methods_of p.world.program → IsPlain p.world p.main → BeginsUnpinned p
begins_unpinned p methods main =
    let w = p.world in
    record {
      main = main;
      initializers = each_plain w (initializers w.program) (initializers_are_such w methods);
      runs = λ class run at run_is chosen m there.
          let is = named_run w methods class run at m run_is chosen there in other_name w m (codes "run") is.name refl;
    }
