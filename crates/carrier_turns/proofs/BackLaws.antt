-- Returns to callers, as local instructions, and where a run of them ends instead.
use Rattle.std.proofs.Common.{◌≡◌, ℕ, ◌+◌, ◌-◌, Bool, true, false, List, [], ◌∷◌, Option, Some, None, refl, ap, sym, subst, ◌∙◌, ◌≤◌, arith}
use Rattle.std.specs.Prelude.{IsTrue}
use Rattle.items.proofs.Binds.{bind_is}
use Rattle.opcodes.specs.declared.op.ValueKind.{ValueKind}
use Rattle.instruction_rows.specs.Rows.{Row, returns, invoke, static}
use Rattle.instruction_rows.specs.Table.{row as row_of}
use Rattle.link_model.specs.World.{World}
use Rattle.verify_types.specs.Environment.{Instruction}
use Rattle.verify_types.specs.Typing.{AreTyped}
use Rattle.state_model.specs.Frames.{Frame}
use Rattle.ref_model.specs.Fetch.{fetched}
use Rattle.ref_model.specs.LocalRows.{row, rows, local_act}
use Rattle.frame_soundness.specs.LocalLaws.{NamesStatic}
use Rattle.frame_soundness.specs.Typed.{Typed}
use Rattle.frame_soundness.proofs.KeepLaws.{row_keeps}
use Rattle.interp_local.specs.Runs.{stays_on}
use Rattle.invocation.specs.FrameSteps.{top_is_root, top_returned}
use Rattle.interp_local.specs.declared.fetched.Fetched.{Fetched}
use Rattle.interp_local.specs.Fetched.{IsTopAt, instruction_of}
use Rattle.thread_steps.specs.Returning.{returned_kind}
use Rattle.thread_steps.proofs.ReturnLaws.{kind_row}
use Rattle.carrier_turns.specs.LocalRuns.{GoesOver, IsLongRun}
use Rattle.carrier_turns.proofs.LocalLaws.{not_back, root_ends, rows_join, row_behind}

inside : {A : Type 0} (a b : A) → ◌≡◌ {A = Option A} (Some a) (Some b) → a ≡ b
inside a b e = cc

no_call : (a : Row) (kind : Option ValueKind) (index : ℕ) → a ≡ returns kind → a ≡ invoke static index → ⊥
no_call a kind index x y = let e = sym x ∙ y in cc

-- a return names no method
names_none : (w : World) (f : Frame) (i : Instruction) (kind : Option ValueKind) → fetched w f ≡ Some i → row_of i.instr.op ≡ returns kind → NamesStatic w f
names_none w f i kind at is = λ j index m found called named.
    absurd (no_call (row_of i.instr.op) kind index is (ap (λ (x : Instruction). row_of x.instr.op) (inside i j (sym at ∙ found)) ∙ called))

-- the return to the caller was made
pub back_made : (w : World) (frames after : List Frame) (f : Fetched) (kind : Option ValueKind) → AreTyped w → Typed w frames → IsTopAt w frames f
    → returned_kind (row_of f.instr.now.op) ≡ Some kind → top_returned w kind frames ≡ Some after → GoesOver w frames after true
back_made w [] after f kind typed fits top is made = absurd fits
back_made w (g ∷ below) after f kind typed fits top is made =
    let i = instruction_of f in
    let act = kind_row (row_of i.instr.op) kind is in
    let result : Option (List Frame) = Some after in
    let step : row w (g ∷ below) ≡ result =
    bind_is (fetched w g) (λ j. local_act w j (row_of j.instr.op) g below) i result top.at (ap (λ (a : Row). local_act w i a g below) act ∙ made) in
    (step, row_keeps w g below after typed (names_none w g i kind top.at act) fits step)

-- the return is from a root frame
pub root_back : (w : World) (frames after : List Frame) (f : Fetched) (kind : Option ValueKind) → Typed w frames → IsTopAt w frames f
    → returned_kind (row_of f.instr.now.op) ≡ Some kind → top_is_root w frames ≡ true → after ≡ frames → GoesOver w frames after false
root_back w [] after f kind fits top is root same = absurd fits
root_back w (g ∷ below) after f kind fits top is root same =
    (same, root_ends w g below (instruction_of f) kind top.at (kind_row (row_of f.instr.now.op) kind is) root)

-- the instruction is no return
pub none_back : (w : World) (frames : List Frame) (f : Fetched) → Typed w frames → IsTopAt w frames f → stays_on w frames ≡ false
    → returned_kind (row_of f.instr.now.op) ≡ None → GoesOver w frames frames false
none_back w [] f fits top leaves none = absurd fits
none_back w (g ∷ below) f fits top leaves none =
    (refl, not_back w g below (instruction_of f) top.at leaves none)

-- ---- a run goes on in another frame

turned : (a b : ℕ) → a + b ≡ b + a
turned a b = omega arith

one_behind : (n : ℕ) → n + 1 ≡ 1 + n
one_behind n = omega arith

-- more of them were made
pub ran_more : (w : World) (a b : ℕ) (first mid last : List Frame) → rows w a first ≡ Some mid → rows w b mid ≡ Some last → rows w (a + b) first ≡ Some last
ran_more w a b first mid last made more = rows_join w a b (a + b) first mid last (turned a b) made more

-- and then the one that leads to another frame
pub goes_again : (w : World) (n : ℕ) (first mid last : List Frame) → rows w n first ≡ Some mid → GoesOver w mid last true → rows w (n + 1) first ≡ Some last
goes_again w n first mid last made over = row_behind w n (n + 1) first mid last (one_behind n) made over.0

-- a run of the top frame that made fewer instructions than it might is at none that stays in its frame
pub stopped : (found stays : Bool) (steps more : ℕ) → found ≡ stays → (IsTrue found → more ≡ 10001 - steps) → steps ≤ 10001 → (steps + more ≡ 10001 → ⊥) → stays ≡ false
stopped true stays steps more is all few less = let whole = all refl in absurd (less (omega arith))
stopped false stays steps more is all few less = sym is

pub long_run : (w : World) (n : ℕ) (first mid last : List Frame) → rows w n first ≡ Some mid → Typed w mid → n ≤ 10001 → GoesOver w mid last false → IsLongRun w n first last
long_run w n first mid last made typed few over = subst (λ (fs : List Frame). IsLongRun w n first fs) (sym over.0) (record {
  rows = made;
  typed = typed;
  few = few;
  ends = λ less. over.1;
})

pub whole_run : (w : World) (n : ℕ) (first last : List Frame) → rows w n first ≡ Some last → Typed w last → n ≡ 10001 → IsLongRun w n first last
whole_run w n first last made typed whole = record {
  rows = made;
  typed = typed;
  few = omega (arith, whole);
  ends = λ less. absurd (omega (arith, whole, less));
}
