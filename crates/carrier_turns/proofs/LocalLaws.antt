-- Runs of local instructions, and where they end.
use Rattle.std.proofs.Common.{◌≡◌, ℕ, zero, suc, ◌+◌, Bool, true, false, not, List, [], ◌∷◌, Option, Some, None, refl, ap, sym, ◌∙◌, arith}
use Rattle.std.specs.Prelude.{is_some, ◌==◌, ◌||◌, if◌then◌else◌}
use Rattle.std.specs.Option.{option_map_or}
use Rattle.items.specs.Options.{◌>>=◌}
use Rattle.items.proofs.Binds.{some_is, bind_is}
use Rattle.opcodes.specs.declared.op.ValueKind.{ValueKind}
use Rattle.instruction_rows.specs.Marks.{has_zero_divisor}
use Rattle.instruction_rows.specs.Rows.{Row, LocalRow, local, constant, wide_constant, returns, invoke, event, refused, virtual, special, static, interface, dynamic}
use Rattle.instruction_rows.specs.Table.{row as row_of}
use Rattle.instruction_rows.proofs.DivisionLaws.{undefined_by_zero, zero_divisors}
use Rattle.link_model.specs.World.{World}
use Rattle.verify_types.specs.Environment.{Instruction}
use Rattle.state_model.specs.Frames.{Frame}
use Rattle.ref_model.specs.Fetch.{fetched}
use Rattle.ref_model.specs.Frames.{contents, moved, is_guarded_frame, is_root, returned}
use Rattle.ref_model.specs.LocalRows.{row, rows, local_act}
use Rattle.ref_model.specs.Entries.{is_static_call, may_be_last, most_local_steps, stands_at_static_call}
use Rattle.interp_local.specs.FrameRows.{stays, stays_by}
use Rattle.interp_local.specs.Runs.{stays_on}
use Rattle.thread_steps.specs.Returning.{returned_kind}
use Rattle.carrier_turns.specs.LocalRuns.{ends_run}

-- ---- rows after rows

pub rows_join : (w : World) (a b c : ℕ) (x y z : List Frame) → c ≡ b + a → rows w a x ≡ Some y → rows w b y ≡ Some z → rows w c x ≡ Some z
rows_join w a zero c x y z e first behind =
    let same : y ≡ z = cc in
    ap (λ n. rows w n x) (e ∙ none_more a) ∙ first ∙ ap Some same
  where
    none_more : (n : ℕ) → 0 + n ≡ n
    none_more n = omega arith
rows_join w a (suc b) c x y z e first behind =
    let parts = some_is (rows w b y) (row w) z behind in
    let mid = rows_join w a b (b + a) x y parts.0 refl first parts.1 in
    ap (λ n. rows w n x) (e ∙ one_more b a) ∙ bind_is (rows w (b + a) x) (row w) parts.0 (Some z) mid parts.2
  where
    one_more : (b a : ℕ) → suc b + a ≡ suc (b + a)
    one_more b a = omega arith

-- with one more, which was made
pub row_behind : (w : World) (a c : ℕ) (x y z : List Frame) → c ≡ 1 + a → rows w a x ≡ Some y → row w y ≡ Some z → rows w c x ≡ Some z
row_behind w a c x y z e first one = rows_join w a 1 c x y z e first one

-- ---- where a run ends

or_left : (a b : Bool) → a ≡ true → (a || b) ≡ true
or_left true b e = refl
or_left false b e = absurd cc

or_right : (a b : Bool) → b ≡ true → (a || b) ≡ true
or_right true b e = refl
or_right false b e = e

not_none : {A : Type 0} (o : Option A) → o ≡ None → not (is_some o) ≡ true
not_none None e = refl
not_none (Some x) e = absurd cc

not_false : (b : Bool) → not b ≡ false → b ≡ true
not_false true e = refl
not_false false e = absurd cc

-- no instruction is local
pub no_row_ends : (w : World) (frames : List Frame) → row w frames ≡ None → ends_run w frames ≡ true
no_row_ends w frames e = or_left (not (is_some (row w frames))) (stands_at_static_call w frames) (not_none (row w frames) e)

-- after a run that ends, an entry may end with the next step
pub ends_may : (w : World) (n : ℕ) (frames : List Frame) → ends_run w frames ≡ true → may_be_last w n frames ≡ true
ends_may w n frames ends = or_left (ends_run w frames) (n == most_local_steps) ends

pub most_may : (w : World) (frames : List Frame) → may_be_last w 10000 frames ≡ true
most_may w frames = or_right (ends_run w frames) true refl

-- the row of the instruction that is fetched
fetched_row : (w : World) (f : Frame) (below : List Frame) (i : Instruction) (act : Row) → fetched w f ≡ Some i → row_of i.instr.op ≡ act
    → local_act w i act f below ≡ None → ends_run w (f ∷ below) ≡ true
fetched_row w f below i act at is none =
    let nothing : Option (List Frame) = None in
    no_row_ends w (f ∷ below) (bind_is (fetched w f) (λ j. local_act w j (row_of j.instr.op) f below) i nothing at
    (ap (λ (a : Row). local_act w i a f below) is ∙ none))

pub static_ends : (w : World) (f : Frame) (below : List Frame) (i : Instruction) → fetched w f ≡ Some i → is_static_call (row_of i.instr.op) ≡ true
    → ends_run w (f ∷ below) ≡ true
static_ends w f below i at is =
    or_right (not (is_some (row w (f ∷ below)))) (stands_at_static_call w (f ∷ below))
    (ap (λ o. option_map_or (λ (j : Instruction). is_static_call (row_of j.instr.op)) o false) at ∙ is)

-- it doesn't stay in its frame
leaves_frame : (w : World) (f : Frame) (i : Instruction) → fetched w f ≡ Some i → stays_on w (f ∷ []) ≡ false → stays i.instr.op f.stack ≡ false
leaves_frame w f i at leaves = sym (ap (λ o. option_map_or (λ (j : Instruction). stays j.instr.op f.stack) o false) at) ∙ leaves

-- An instruction that doesn't stay in its frame, and is no return, ends a run.
pub not_back : (w : World) (f : Frame) (below : List Frame) (i : Instruction) → fetched w f ≡ Some i → stays_on w (f ∷ below) ≡ false
    → returned_kind (row_of i.instr.op) ≡ None → ends_run w (f ∷ below) ≡ true
not_back w f below i at leaves none = by (row_of i.instr.op) refl none
  where
    away : stays i.instr.op f.stack ≡ false
    away = leaves_frame w f i at leaves

    divides : (r : LocalRow) → row_of i.instr.op ≡ local r → has_zero_divisor i.instr.op f.stack ≡ true
    divides r is =
        not_false (has_zero_divisor i.instr.op f.stack) (sym (ap (λ (a : Row). stays_by a (has_zero_divisor i.instr.op f.stack)) is) ∙ away)

    undefined : (r : LocalRow) → row_of i.instr.op ≡ local r → local_act w i (local r) f below ≡ None
    undefined r is =
        ap (λ o. o >>= λ m. moved f i.instr.next m >>= λ g. Some (g ∷ below))
        (undefined_by_zero r (contents f) (zero_divisors i.instr.op r (contents f) is ∙ divides r is))

    by : (act : Row) → row_of i.instr.op ≡ act → returned_kind act ≡ None → ends_run w (f ∷ below) ≡ true
    by (local r) is none = fetched_row w f below i (local r) at is (undefined r is)
    by (constant index) is none =
        absurd (let x = ap (λ (a : Row). stays_by a (has_zero_divisor i.instr.op f.stack)) (sym is) ∙ away in cc)
    by (wide_constant index) is none =
        absurd (let x = ap (λ (a : Row). stays_by a (has_zero_divisor i.instr.op f.stack)) (sym is) ∙ away in cc)
    by (returns kind) is none = absurd cc
    by (invoke static index) is none = static_ends w f below i at (ap is_static_call is)
    by (invoke virtual index) is none = fetched_row w f below i (invoke virtual index) at is refl
    by (invoke special index) is none = fetched_row w f below i (invoke special index) at is refl
    by (invoke (interface count) index) is none = fetched_row w f below i (invoke (interface count) index) at is refl
    by (invoke dynamic index) is none = fetched_row w f below i (invoke dynamic index) at is refl
    by (event e) is none = fetched_row w f below i (event e) at is refl
    by refused is none = fetched_row w f below i refused at is refl

-- A return from a root frame ends a run.
pub root_ends : (w : World) (f : Frame) (below : List Frame) (i : Instruction) (kind : Option ValueKind) → fetched w f ≡ Some i
    → row_of i.instr.op ≡ returns kind → is_root w f below ≡ true → ends_run w (f ∷ below) ≡ true
root_ends w f below i kind at is root =
    fetched_row w f below i (returns kind) at is
    (ap (λ (b : Bool). if b || is_guarded_frame w f then None else returned w kind f below) root)
