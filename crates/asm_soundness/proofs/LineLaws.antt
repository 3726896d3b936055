-- Each line keeps what is sound, and so does a whole text.
use Rattle.std.proofs.Common.{◌≡◌, ℕ, ◌⊎◌, inl, inr, true, false, List, [], Some, Result, Ok, refl, sym, ◌∙◌, ap, subst, arith, lit<}
use Rattle.class_model.specs.declared.class_file.ClassFile.{ClassFile}
use Rattle.class_grammar.specs.Layout.{class_file}
use Rattle.class_grammar.specs.Grammar.{Spells}
use Rattle.asm_text.specs.declared.line.Line.{Line}
use Rattle.asm_text.specs.declared.line.Line.TheVariants as lines
use Rattle.asm_text.specs.LineText.{IsLine}
use Rattle.asm_text.specs.Spelling.{Says}
use Rattle.asm_text.specs.Spelling.Says.{nothing, comment, words}
use Rattle.asm_class.specs.declared.assembly.Stage.{Stage}
use Rattle.asm_class.specs.declared.assembly.Stage.TheVariants as stages
use Rattle.asm_class.specs.States.{State}
use Rattle.asm_class.specs.Ends.{is_whole, file_with, finished, start}
use Rattle.asm_class.specs.Stages.{first, second, method, field, interface, no_code, sizes, code, rows, other_line, end_line, after_line}
use Rattle.jasm.specs.Texts.{Makes, Assembles}
use Rattle.jasm.specs.Texts.Makes.{ended, unread, refused, goes_on}
use Rattle.asm_soundness.specs.SoundStates.{IsSoundClass, IsSoundFile}
use Rattle.asm_soundness.specs.SoundLines.{IsOpen, IsSoundBody, IsAt, IsSoundState}
use Rattle.asm_soundness.proofs.FileLaws.{file_is_spelled}
use Rattle.asm_soundness.proofs.ClassLaws.{some_same, chosen, class_line_keeps, super_line_keeps, implements_line_keeps, field_line_keeps, method_line_keeps}
use Rattle.asm_soundness.proofs.BodyLaws.{instruction_line_keeps, opcode_small, frame_line_keeps, catch_line_keeps, label_line_keeps, stack_line_keeps, method_end_keeps}
use Rattle.asm_soundness.proofs.CodeLaws.{or_line_ok, ok_same}
use Rattle.asm_soundness.proofs.EndLaws.{code_end_keeps}

-- ---- by stage

first_keeps : (l : Line) (s t : State) → s.class.parent ≡ 0 → IsSoundState s → IsLine l → first l s ≡ Some t → IsSoundState t
first_keeps (lines.Class fs name) s t a h k e = class_line_keeps fs name s t a h k.1 e
first_keeps other s t a h k e = absurd cc

second_keeps : (l : Line) (s t : State) → IsAt stages.Super s → IsSoundState s → IsLine l → second l s ≡ Some t → IsSoundState t
second_keeps (lines.Super name) s t a h k e = super_line_keeps name s t a h k e
second_keeps other s t a h k e = absurd cc

method_keeps : (l : Line) (s t : State) → IsSoundClass s.pool s.class.own s.class.parent → IsSoundState s → IsLine l → method l s ≡ Some t → IsSoundState t
method_keeps (lines.Method fs name descriptor) s t a h k e = method_line_keeps fs name descriptor s t a h k.1 k.2 e
method_keeps other s t a h k e = absurd cc

field_keeps : (l : Line) (s t : State) → IsSoundClass s.pool s.class.own s.class.parent → IsSoundState s → IsLine l → field l s ≡ Some t → IsSoundState t
field_keeps (lines.Field fs name descriptor) s t a h k e = field_line_keeps fs name descriptor s t a h k.1 k.2 e
field_keeps other s t a h k e = method_keeps other s t a h k e

interface_keeps : (l : Line) (s t : State) → s.stage ≡ stages.Interfaces → IsSoundClass s.pool s.class.own s.class.parent → IsSoundState s → IsLine l → interface l s ≡ Some t → IsSoundState t
interface_keeps (lines.Implements name) s t g a h k e = implements_line_keeps name s t a g h k e
interface_keeps other s t g a h k e = field_keeps other s t a h k e

no_code_keeps : (l : Line) (s t : State) → IsOpen s false → IsSoundState s → no_code l s ≡ Some t → IsSoundState t
no_code_keeps lines.End s t o h e = subst IsSoundState (some_same _ t e) (method_end_keeps [] s false o h o.1.none)
no_code_keeps other s t o h e = absurd cc

sizes_keep : (l : Line) (s t : State) → IsOpen s true → IsSoundState s → IsLine l → sizes l s ≡ Some t → IsSoundState t
sizes_keep (lines.Stack stack locals) s t o h k e = subst IsSoundState (some_same _ t e) (stack_line_keeps stack locals s o h k.0 k.1)
sizes_keep other s t o h k e = absurd cc

code_keeps : (line : ℕ) (l : Line) (s t : State) → s.stage ≡ stages.Code → IsOpen s true → IsSoundBody s.pool s.body → IsSoundState s → IsLine l → code line l s ≡ Some t → IsSoundState t
code_keeps line (lines.Label label) s t g o b h k e = label_line_keeps label s t g o b h e
code_keeps line (lines.Frame locals stack) s t g o b h k e = frame_line_keeps line locals stack s t g o b h k.0 k.1 e
code_keeps line (lines.Instruction opcode ops) s t g o b h k e = instruction_line_keeps line opcode ops s t g o b h (opcode_small opcode k.named) k.fits e
code_keeps line (lines.Catch caught from to using) s t g o b h k e = catch_line_keeps line caught from to using s t o b h k.0 e
code_keeps line other s t g o b h k e = absurd cc

rows_keep : (line : ℕ) (l : Line) (s t : State) → IsOpen s true → IsSoundBody s.pool s.body → IsSoundState s → IsLine l → rows line l s ≡ Some t → IsSoundState t
rows_keep line (lines.Catch caught from to using) s t o b h k e = catch_line_keeps line caught from to using s t o b h k.0 e
rows_keep line other s t o b h k e = absurd cc

other_keeps : (g : Stage) (line : ℕ) (l : Line) (s t : State) → s.stage ≡ g → IsAt g s → IsSoundState s → IsLine l → other_line g line l s ≡ Some t → IsSoundState t
other_keeps stages.Class line l s t g a h k e = first_keeps l s t a h k e
other_keeps stages.Super line l s t g a h k e = second_keeps l s t a h k e
other_keeps stages.Interfaces line l s t g a h k e = interface_keeps l s t g a h k e
other_keeps stages.Fields line l s t g a h k e = field_keeps l s t a h k e
other_keeps stages.Methods line l s t g a h k e = method_keeps l s t a h k e
other_keeps stages.NoCode line l s t g a h k e = no_code_keeps l s t a h e
other_keeps stages.Stack line l s t g a h k e = sizes_keep l s t a h k e
other_keeps stages.Code line l s t g a h k e = code_keeps line l s t g a.0 a.1 h k e
other_keeps stages.Rows line l s t g a h k e = rows_keep line l s t a.0 a.1 h k e

end_keeps : (g : Stage) (line : ℕ) (s t : State) → s.stage ≡ g → IsAt g s → IsSoundState s → end_line g line s ≡ Ok t → IsSoundState t
end_keeps stages.Code line s t g a h e = code_end_keeps line s t a.0 a.1 h e
end_keeps stages.Rows line s t g a h e = code_end_keeps line s t a.0 a.1 h e
end_keeps other line s t g a h e = other_keeps other line lines.End s t g a h tt (or_line_ok line (other_line other line lines.End s) t e)

-- ---- a line

Heard : Line → Type 0
Heard l = (l ≡ lines.Blank) ⊎ IsLine l

heard : (bytes : List ℕ) (l : Line) → Says bytes l → Heard l
unfolding Heard
heard bytes l (nothing count e) = inl refl
heard bytes l (comment count text e) = inl refl
heard bytes l (words count k e is) = inr is

said_keeps : (line : ℕ) (l : Line) (s t : State) → IsSoundState s → IsLine l → after_line line l s ≡ Ok t → IsSoundState t
said_keeps line lines.Blank s t h k e = absurd k
said_keeps line lines.End s t h k e = end_keeps s.stage line s t refl h.at h e
said_keeps line other s t h k e = other_keeps s.stage line other s t refl h.at h k (or_line_ok line (other_line s.stage line other s) t e)

line_keeps : (line : ℕ) (l : Line) (s t : State) → IsSoundState s → Heard l → after_line line l s ≡ Ok t → IsSoundState t
unfolding Heard
line_keeps line l s t h (inl blank) e = subst IsSoundState (ok_same s t (ap (λ (k : Line). after_line line k s) (sym blank) ∙ e)) h
line_keeps line l s t h (inr k) e = said_keeps line l s t h k e

-- ---- a text

class_at : (g : Stage) (s : State) → is_whole g ≡ true → IsAt g s → IsSoundClass s.pool s.class.own s.class.parent
class_at stages.Interfaces s w a = a
class_at stages.Fields s w a = a
class_at stages.Methods s w a = a
class_at other s w a = absurd cc

finished_is_sound : (s : State) (f : ClassFile) → IsSoundState s → finished s ≡ Some f → IsSoundFile f
finished_is_sound s f h e =
    let t = chosen (is_whole s.stage) (Some (file_with s.pool s.class)) f e in
    subst IsSoundFile (some_same _ f t.1) (record {
      minor = refl;
      major = refl;
      pool = h.pool;
      flags = h.flags;
      no_module = h.no_module;
      class = class_at s.stage s t.0 h.at;
      interfaces = h.interfaces;
      fields = h.fields;
      methods = h.methods;
      attributes = refl;
    })

start_is_sound : IsSoundState start
start_is_sound = record {
  pool = record { behind = []; first = refl; entries = refl; few = omega arith; known = (tt, tt) };
  flags = lit< tt;
  no_module = refl;
  interfaces = record { few = omega arith; each = tt };
  fields = record { few = omega arith; each = tt };
  methods = record { few = omega arith; each = tt };
  at = refl;
}

makes_sound : (s : State) (line : ℕ) (text : List ℕ) (made : Result ClassFile ℕ) (f : ClassFile) → Makes s line text made → IsSoundState s → made ≡ Ok f → IsSoundFile f
makes_sound s line text made f (ended _ _ _ _ n e) h is = finished_is_sound s f h (or_line_ok line (finished s) f (sym e ∙ is))
makes_sound s line text made f (unread _ _ _ some none) h is = absurd cc
makes_sound s line text made f (refused _ _ _ bad m) h is = absurd cc
makes_sound s line text made f (goes_on _ _ _ t rest _ g m) h is =
    makes_sound t _ rest made f m (line_keeps line g.said s t h (heard g.begins.bytes g.said g.begins.says) g.made) is

pub assembled_is_spelled : (text : List ℕ) (f : ClassFile) → Assembles text (Ok f) → Spells (class_file f) f
assembled_is_spelled text f h = file_is_spelled f (makes_sound start 1 text (Ok f) f h start_is_sound refl)
