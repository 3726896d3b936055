-- The end of a method makes sound code.
use Rattle.std.proofs.Common.{◌≡◌, ℕ, zero, suc, ◌+◌, ◌*◌, ◌<◌, ◌≤◌, ◌^◌, ◌==◌, ◌⊎◌, inl, inr, Bool, true, false, not, ◌&&◌, cond, List, [], ◌∷◌, ◌++◌, length, codes, Some, None, Result, Ok, Err, refl, sym, ◌∙◌, ap, subst, arith, ltb, leb, length-append}
use Rattle.std.specs.List.{AllByRecursion, flat_map}
use Rattle.std.proofs.lemmas.Bool.{ltb-true, leb-true}
use Rattle.std.proofs.lemmas.List.{append-nil}
use Rattle.std.proofs.lemmas.List.Concat.{flat_map-cons}
use Rattle.items.proofs.Binds.{some_is}
use Rattle.class_model.specs.declared.constant.Const.{Const}
use Rattle.class_model.specs.declared.attribute.Row.{Row}
use Rattle.class_model.specs.declared.attribute.CodeBody.{CodeBody}
use Rattle.class_grammar.specs.Layout as layout
use Rattle.class_grammar.specs.Pool.{text_at}
use Rattle.class_grammar.specs.Checks.{has_no_code}
use Rattle.asm_code.specs.Encoding.{Targets, u2}
use Rattle.asm_body.specs.declared.placed.PlacedFrame.{PlacedFrame}
use Rattle.asm_body.specs.declared.placed.PlacedRow.{PlacedRow}
use Rattle.asm_body.specs.Bodies.{or_line, put_all, put_frames, is_range, row_at, row_of, put_rows}
use Rattle.asm_class.specs.declared.assembly.BodyParts.{BodyParts}
use Rattle.asm_class.specs.States.{State}
use Rattle.asm_class.specs.ClassLines.{with_method}
use Rattle.asm_class.specs.Ends.{both, maps_of, attribute_size, is_code, code_body, code_of, body_of, code_attribute, code_end}
use Rattle.asm_soundness.specs.SoundStates.{IsCaughtAt, IsSoundRow, AreSoundMaps, IsSoundCode}
use Rattle.asm_soundness.specs.SoundLines.{IsSoundBody, IsOpen, IsSoundState}
use Rattle.asm_soundness.proofs.ClassLaws.{some_same, both_true, chosen}
use Rattle.asm_soundness.proofs.BodyLaws.{method_end_keeps}
use Rattle.asm_soundness.proofs.CodeLaws.{AreBytes, bytes_append, u2_bytes, then_ok, or_line_ok, made, ok_same, code_bytes, frames_bytes}

-- ---- rows

range_is_sound : (pool : List Const) (size : ℕ) (row : Row) → is_range size row ≡ true → IsCaughtAt pool row.catch_type → IsSoundRow pool size row
range_is_sound pool size row e k =
    let a = both_true (ltb row.start row.end && leb row.end size) (ltb row.handler size) e in
    let b = both_true (ltb row.start row.end) (leb row.end size) a.0 in
    record { start = ltb-true row.start row.end b.0; end = leb-true row.end size b.1; handler = ltb-true row.handler size a.1; caught = k }

row_is_sound : (target : Targets) (pool : List Const) (size : ℕ) (r : PlacedRow) (row : Row) → IsCaughtAt pool r.catch_type → row_of target size r ≡ Some row → IsSoundRow pool size row
row_is_sound target pool size r row k e =
    let a = some_is (target r.from) _ row e in
    let b = some_is (target r.to) _ row a.2 in
    let c = some_is (target r.handler) _ row b.2 in
    let found = row_at a.0 b.0 c.0 r.catch_type in
    let t = chosen (is_range size found) (Some found) row c.2 in
    subst (IsSoundRow pool size) (some_same found row t.1) (range_is_sound pool size found t.0 k)

one_row : (P : Row → Type 0) (rows : List Row) (row : Row) → AllByRecursion P rows → P row → AllByRecursion P (rows ++ row ∷ [])
one_row P [] row h k = (k, tt)
one_row P (r ∷ rows) row h k = (h.0, one_row P rows row h.1 k)

rows_are_sound : (target : Targets) (pool : List Const) (size : ℕ) (rs : List PlacedRow) (rows new : List Row) → AllByRecursion (λ (r : PlacedRow). IsCaughtAt pool r.catch_type) rs → AllByRecursion (IsSoundRow pool size) rows
    → put_rows target size rs rows ≡ Ok new → AllByRecursion (IsSoundRow pool size) new × (length new ≡ length rows + length rs)
rows_are_sound target pool size [] rows new k h e =
    let same = ok_same rows new e in
    let n : length rows ≡ length rows + 0 = omega arith in
    (subst (AllByRecursion (IsSoundRow pool size)) same h, sym (ap length same) ∙ n)
rows_are_sound target pool size (r ∷ rs) rows new k h e =
    let t = then_ok (or_line r.line (row_of target size r)) (λ row. put_rows target size rs (rows ++ row ∷ [])) new e in
    let one = or_line_ok r.line (row_of target size r) t.0 t.1 in
    let rest = rows_are_sound target pool size rs (rows ++ t.0 ∷ []) new k.1 (one_row (IsSoundRow pool size) rows t.0 h (row_is_sound target pool size r t.0 k.0 one)) t.2 in
    let more : length (rows ++ t.0 ∷ []) ≡ length rows + 1 = length-append rows (t.0 ∷ []) in
    let n : length (r ∷ rs) ≡ length rs + 1 = omega arith in
    (rest.0, rest.1 ∙ omega (arith, more, n))

-- ---- the attribute

rows_size : (rows : List Row) → length (flat_map layout.row rows) ≡ 8 * length rows
rows_size [] = refl
rows_size (r ∷ rows) =
    let here : length (layout.row r) ≡ 8 = refl in
    let whole : length (flat_map layout.row (r ∷ rows)) ≡ length (layout.row r) + length (flat_map layout.row rows) = ap length (flat_map-cons layout.row r rows) ∙ length-append (layout.row r) (flat_map layout.row rows) in
    let n : length (r ∷ rows) ≡ length rows + 1 = omega arith in
    omega (arith, here, whole, n, rows_size rows)

maps_size : (name : ℕ) (frames : List PlacedFrame) (map : List ℕ) → length (flat_map layout.code_attribute (maps_of name frames map)) ≤ length map + 8
maps_size name [] map = omega arith
maps_size name (f ∷ fs) map =
    let bytes = u2 (length (f ∷ fs)) ++ map in
    let all : length bytes ≡ 2 + length map = length-append (u2 (length (f ∷ fs))) map in
    let nil : length (map ++ []) ≡ length map = ap length (append-nil map) in
    let one : length (flat_map layout.code_attribute (maps_of name (f ∷ fs) map)) ≡ 6 + length bytes = omega (arith, nil) in
    omega (arith, all, one)

add_eight : (n : ℕ) → suc (suc (suc (suc (suc (suc (suc (suc n))))))) ≡ n + 8
add_eight n = omega arith

code_size : (body : BodyParts) (code map : List ℕ) (rows : List Row) → length (layout.code (code_body body code map rows)) ≤ attribute_size (length code) rows map
code_size body code map rows =
    let maps = maps_of body.map_name body.frames map in
    let rs = flat_map layout.row rows in
    let attributes = flat_map layout.code_attribute maps in
    let first = u2 (length rows) ++ rs in
    let last = u2 (length maps) ++ attributes in
    let a : length ((code ++ first) ++ last) ≡ length (code ++ first) + length last = length-append (code ++ first) last in
    let b : length last ≡ length attributes + 2 = omega arith in
    let c : length (code ++ first) ≡ length code + length first = length-append code first in
    let d : length first ≡ length rs + 2 = omega arith in
    let whole : length (layout.code (code_body body code map rows)) ≡ length ((code ++ first) ++ last) + 8 = add_eight (length ((code ++ first) ++ last)) in
    omega (arith, a, b, c, d, whole, rows_size rows, maps_size body.map_name body.frames map)

maps_are_sound : (pool : List Const) (name : ℕ) (frames : List PlacedFrame) (map : List ℕ) → (frames ≡ []) ⊎ (text_at pool name ≡ Some (codes "StackMapTable")) → AreBytes map → length map + 2 < 2 ^ 32
    → AreSoundMaps pool (maps_of name frames map)
maps_are_sound pool name [] map n b few = tt
maps_are_sound pool name (f ∷ fs) map (inl e) b few = absurd cc
maps_are_sound pool name (f ∷ fs) map (inr e) b few =
    let bytes = u2 (length (f ∷ fs)) ++ map in
    let all : length bytes ≡ 2 + length map = length-append (u2 (length (f ∷ fs))) map in
    record { bytes = bytes; body = refl; sized = (omega (arith, all, few), bytes_append (u2 (length (f ∷ fs))) map (u2_bytes (length (f ∷ fs))) b); name = e }

-- ---- the body and the end

both_ok : {A B : Type 0} (a : Result A ℕ) (b : Result B ℕ) (y : A × B) → both a b ≡ Ok y → (a ≡ Ok y.0) × (b ≡ Ok y.1)
both_ok {A = A} {B = B} (Ok a) (Ok b) y e =
    let same : (λ (x : A × B). made x) (a, b) ≡ made y = e in
    let t = ok_same (a, b) y same in
    (ap (λ (x : A × B). made x.0) t, ap (λ (x : A × B). made x.1) t)
both_ok (Ok a) (Err l) y e = absurd cc
both_ok (Err l) (Ok b) y e = absurd cc
both_ok (Err l) (Err k) y e = absurd cc

not_none : (n : ℕ) → not (n == 0) ≡ true → 0 < n
not_none zero e = absurd cc
not_none (suc n) e = omega arith

body_is_sound : (pool : List Const) (target : Targets) (line : ℕ) (body : BodyParts) (c : CodeBody) → IsSoundBody pool body → body_of line body target ≡ Ok c → IsSoundCode pool c
body_is_sound pool target line body c h e =
    let size = body.instructions.size in
    let t = then_ok (both (put_all target body.instructions.placed []) (put_frames target None body.frames [])) _ c e in
    let b = both_ok (put_all target body.instructions.placed []) (put_frames target None body.frames []) t.0 t.1 in
    let code = t.0.0 in
    let map = t.0.1 in
    let code_is = code_bytes target body.instructions.placed [] code size tt h.spans h.placed b.0 in
    let map_is = frames_bytes target None body.frames [] map tt b.1 in
    let r = then_ok (put_rows target size body.rows []) _ c t.2 in
    let rows_are = rows_are_sound target pool size body.rows [] r.0 h.rows.each tt r.1 in
    let o = or_line_ok line (code_of body code map r.0) c r.2 in
    let f = chosen (is_code size body.frames r.0 map) (Some (code_body body code map r.0)) c o in
    let u = both_true (not (size == 0) && leb (length body.frames) 65535) (leb (attribute_size size r.0 map) 0xffffffff) f.0 in
    let v = both_true (not (size == 0)) (leb (length body.frames) 65535) u.0 in
    let some = not_none size v.0 in
    let few = leb-true (attribute_size size r.0 map) 0xffffffff u.1 in
    let many = h.rows.few in
    let whole = code_size body code map r.0 in
    let sized : attribute_size (length code) r.0 map ≡ attribute_size size r.0 map = ap (λ (n : ℕ). attribute_size n r.0 map) code_is.1 in
    subst (IsSoundCode pool) (some_same _ c f.1) (record {
      max_stack = h.max_stack;
      max_locals = h.max_locals;
      some = omega (arith, some, code_is.1);
      few = omega (arith, code_is.1, h.small);
      bytes = code_is.0;
      few_rows = omega (arith, rows_are.1, many);
      rows = subst (λ (n : ℕ). AllByRecursion (IsSoundRow pool n) r.0) (sym code_is.1) rows_are.0;
      maps = maps_are_sound pool body.map_name body.frames map h.map_name map_is (omega (arith, few));
      size = omega (arith, whole, sized, few);
    })

pub code_end_keeps : (line : ℕ) (s t : State) → IsOpen s true → IsSoundBody s.pool s.body → IsSoundState s → code_end line s ≡ Ok t → IsSoundState t
code_end_keeps line s t o b h e =
    let r = not_waiting s.body.frame_waits _ t e in
    let p = then_ok (body_of line s.body s.targets) (λ body. Ok (with_method (code_attribute s.method.code body ∷ []) s)) t r in
    let sound = body_is_sound s.pool s.targets line s.body p.0 b p.1 in
    let none : has_no_code s.method.flags ≡ false = o.1.none in
    subst IsSoundState (ok_same _ t p.2) (method_end_keeps (code_attribute s.method.code p.0 ∷ []) s true o h
    (none, record { code = p.0; body = refl; name = o.1.named refl; sound = sound }))
  where
    not_waiting : (w : Bool) (q : Result State ℕ) (y : State) → cond w (Err line) q ≡ Ok y → q ≡ Ok y
    not_waiting true q y f = absurd cc
    not_waiting false q y f = f
