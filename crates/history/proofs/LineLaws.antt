-- Each part of a trace text is read from just its bytes.
use Rattle.std.proofs.Common.{◌≡◌, ◌≢◌, ℕ, ◌^◌, ◌<◌, ◌≤◌, true, false, cond, List, [], ◌∷◌, ◌++◌, length, take, drop, Option, Some, None, refl, sym, ap, subst, ◌∙◌, append_assoc, arith, inl, inr, eqb}
use Rattle.std.specs.Prelude.{decimal, codes, nat_eq}
use Rattle.std.specs.Cmp.Lexicographic.{pointwise, same_text}
use Rattle.std.proofs.lemmas.Bool.{eqb-true, eqb-false, eq-eqb}
use Rattle.std.proofs.lemmas.Bool.Decides.{nat_tests}
use Rattle.std.proofs.lemmas.List.{take_at, drop_at, take-append-drop}
use Rattle.items.specs.Options.{◌>>=◌}
use Rattle.history.specs.declared.entry.Entry.{Entry}
use Rattle.history.specs.declared.entry.What.{What}
use Rattle.history.specs.declared.entry.What.TheVariants.{Mount, Unmount, Step, Clock}
use Rattle.history.specs.TraceText.{field, newline, letter, pick_field, fields, line, first_line, last_line, IsPick, IsWhat, IsEntry}
use Rattle.history.specs.Parsing.{after, number_at, most32, most64, field_at, pick_by, pick_at, step_at, what_at, entry_at, first_line_at, last_line_at}
use Rattle.items.proofs.Binds.{some_is, bind_is}
use Rattle.history.proofs.Tests.{bool_cases, cond_some, cond_none, some_same}
use Rattle.history.proofs.NumberLaws.{Stops, number_takes, number_again}

three_parts : (a b c rest : List ℕ) → (a ++ (b ++ c)) ++ rest ≡ a ++ (b ++ (c ++ rest))
three_parts a b c rest = simp append_assoc

four_parts : (a b c d rest : List ℕ) → (a ++ (b ++ (c ++ d))) ++ rest ≡ a ++ (b ++ (c ++ (d ++ rest)))
four_parts a b c d rest = simp append_assoc

-- ---- given bytes

pointwise_same : (xs : List ℕ) → pointwise nat_eq xs xs ≡ true
pointwise_same [] = refl
pointwise_same (x ∷ xs) = let here : eqb x x ≡ true = eq-eqb x x refl in rw (here, pointwise_same xs) refl

after_takes : (front bytes rest : List ℕ) → after front bytes ≡ Some rest → bytes ≡ front ++ rest
after_takes front bytes rest e =
    let t = cond_some (pointwise nat_eq (take (length front) bytes) front) (Some (drop (length front) bytes)) rest e in
    let same : take (length front) bytes ≡ front = same_text _ _ (sym t.0) in
    let behind : drop (length front) bytes ≡ rest = some_same _ _ t.1 in
    sym (take-append-drop (length front) bytes) ∙ (λ i. same i ++ behind i)

after_again : (front rest : List ℕ) → after front (front ++ rest) ≡ Some rest
after_again front rest = rw (take_at front rest (length front) refl, drop_at front rest (length front) refl, pointwise_same front) refl

-- ---- fields

field_takes : (most : ℕ) (bytes : List ℕ) (x : ℕ × List ℕ) → most < 2 ^ 64 → field_at most bytes ≡ Some x → (bytes ≡ field x.0 ++ x.1) × (x.0 ≤ most)
field_takes most bytes x big e =
    let s = some_is (after (codes " ") bytes) (number_at most) x e in
    let n = number_takes most s.0 x big s.2 in
    (after_takes (codes " ") bytes s.0 s.1 ∙ ap (λ (t : List ℕ). codes " " ++ t) n.0, n.1)

field_again : (most n : ℕ) (rest : List ℕ) → most < 2 ^ 64 → n ≤ most → Stops rest → field_at most (field n ++ rest) ≡ Some (n, rest)
field_again most n rest big low stop =
    bind_is (after (codes " ") (field n ++ rest)) (number_at most) (decimal n ++ rest) (Some (n, rest)) (after_again (codes " ") (decimal n ++ rest)) (number_again most n rest big low stop)

short_takes : (bytes : List ℕ) (x : ℕ × List ℕ) → field_at most32 bytes ≡ Some x → (bytes ≡ field x.0 ++ x.1) × (x.0 < 2 ^ 32)
short_takes bytes x e = let t = field_takes most32 bytes x (omega arith) e in (t.0, omega (arith, t.1))

short_again : (n : ℕ) (rest : List ℕ) → n < 2 ^ 32 → Stops rest → field_at most32 (field n ++ rest) ≡ Some (n, rest)
short_again n rest small stop = field_again most32 n rest (omega arith) (omega arith) stop

long_takes : (bytes : List ℕ) (x : ℕ × List ℕ) → field_at most64 bytes ≡ Some x → (bytes ≡ field x.0 ++ x.1) × (x.0 < 2 ^ 64)
long_takes bytes x e = let t = field_takes most64 bytes x (omega arith) e in (t.0, omega (arith, t.1))

long_again : (n : ℕ) (rest : List ℕ) → n < 2 ^ 64 → Stops rest → field_at most64 (field n ++ rest) ≡ Some (n, rest)
long_again n rest small stop = field_again most64 n rest (omega arith) (omega arith) stop

abbrev pub TakesPick : List ℕ → Option ℕ × List ℕ → Type 0
TakesPick bytes y = (bytes ≡ pick_field y.0 ++ y.1) × IsPick y.0

pick_by_takes : (o : Option (List ℕ)) (bytes : List ℕ) (x : Option ℕ × List ℕ) → after (codes " -") bytes ≡ o → pick_by o bytes ≡ Some x → TakesPick bytes x
pick_by_takes (Some rest) bytes x h e = subst (TakesPick bytes) (some_same (None, rest) x e) (after_takes (codes " -") bytes rest h, tt)
pick_by_takes None bytes x h e =
    let s = some_is (field_at most32 bytes) (λ t. Some (Some t.0, t.1)) x e in
    subst (TakesPick bytes) (some_same (Some s.0.0, s.0.1) x s.2) (short_takes bytes s.0 s.1)

pick_takes : (bytes : List ℕ) (x : Option ℕ × List ℕ) → pick_at bytes ≡ Some x → TakesPick bytes x
pick_takes bytes x e = pick_by_takes (after (codes " -") bytes) bytes x refl e

-- a thread's number begins with no minus sign
no_mark : (t : ℕ) (rest : List ℕ) (o : Option (List ℕ)) → t < 2 ^ 32 → Stops rest → after (codes " -") (field t ++ rest) ≡ o → o ≡ None
no_mark t rest None small stop e = refl
no_mark t rest (Some behind) small stop e =
    let same : field t ++ rest ≡ codes " -" ++ behind = after_takes (codes " -") (field t ++ rest) behind e in
    let read : field_at most32 (codes " -" ++ behind) ≡ Some (t, rest) = ap (field_at most32) (sym same) ∙ short_again t rest small stop in
    let refused : field_at most32 (codes " -" ++ behind) ≡ None = refl in
    absurd cc

pick_again : (pick : Option ℕ) (rest : List ℕ) → IsPick pick → Stops rest → pick_at (pick_field pick ++ rest) ≡ Some (pick, rest)
pick_again None rest is stop = ap (λ (o : Option (List ℕ)). pick_by o (codes " -" ++ rest)) (after_again (codes " -") rest)
pick_again (Some t) rest is stop =
    let unmarked = no_mark t rest (after (codes " -") (field t ++ rest)) is stop refl in
    ap (λ (o : Option (List ℕ)). pick_by o (field t ++ rest)) unmarked
    ∙ bind_is (field_at most32 (field t ++ rest)) (λ x. Some (Some x.0, x.1)) (t, rest) (Some (Some t, rest)) (short_again t rest is stop) refl

pick_stops : (pick : Option ℕ) (rest : List ℕ) → Stops (pick_field pick ++ rest)
pick_stops None rest = refl
pick_stops (Some t) rest = refl

-- ---- what an entry did

-- the letter's code
abbrev pub code_of : What → ℕ
code_of (Mount t) = 77
code_of (Unmount t) = 85
code_of (Step t n pick) = 83
code_of (Clock now) = 67

pub letter_is : (w : What) → letter w ≡ code_of w ∷ []
letter_is (Mount t) = refl
letter_is (Unmount t) = refl
letter_is (Step t n pick) = refl
letter_is (Clock now) = refl

pub record TakesWhat (code : ℕ) (bytes : List ℕ) (x : What × List ℕ) : Type 0 where
  pub code_is : code ≡ code_of x.0
  pub parts : bytes ≡ fields x.0 ++ x.1
  pub is_what : IsWhat x.0

-- a step whose fields were taken one after the other
step_made : (bytes : List ℕ) (t : ℕ) (behind : List ℕ) (n : ℕ) (after_steps : List ℕ) (pick : Option ℕ) (rest : List ℕ) → (bytes ≡ field t ++ behind) × (t < 2 ^ 32)
    → (behind ≡ field n ++ after_steps) × (n < 2 ^ 32) → TakesPick after_steps (pick, rest) → eqb n 0 ≡ false → TakesWhat 83 bytes (Step t n pick, rest)
step_made bytes t behind n after_steps pick rest one two three some_steps =
    let more : n ≢ 0 = eqb-false _ _ some_steps in
    record {
      code_is = refl;
      parts = one.0 ∙ ap (λ (s : List ℕ). field t ++ s) (two.0 ∙ ap (λ (s : List ℕ). field n ++ s) three.0) ∙ sym (three_parts (field t) (field n) (pick_field pick) rest);
      is_what = (one.1, omega arith, two.1, three.1);
    }

step_takes : (bytes : List ℕ) (x : What × List ℕ) → step_at bytes ≡ Some x → TakesWhat 83 bytes x
step_takes bytes x e =
    let thread = some_is (field_at most32 bytes) (λ t. field_at most32 t.1 >>= λ n. pick_at n.1 >>= λ p. cond (eqb n.0 0) None (Some (Step t.0 n.0 p.0, p.1))) x e in
    let steps = some_is (field_at most32 thread.0.1) (λ n. pick_at n.1 >>= λ p. cond (eqb n.0 0) None (Some (Step thread.0.0 n.0 p.0, p.1))) x thread.2 in
    let pick = some_is (pick_at steps.0.1) (λ p. cond (eqb steps.0.0 0) None (Some (Step thread.0.0 steps.0.0 p.0, p.1))) x steps.2 in
    let some_steps = cond_none (eqb steps.0.0 0) (Some (Step thread.0.0 steps.0.0 pick.0.0, pick.0.1)) x pick.2 in
    subst (TakesWhat 83 bytes) (some_same _ x some_steps.1)
    (step_made bytes thread.0.0 thread.0.1 steps.0.0 steps.0.1 pick.0.0 pick.0.1 (short_takes bytes thread.0 thread.1) (short_takes thread.0.1 steps.0 steps.1) (pick_takes steps.0.1 pick.0 pick.1) some_steps.0)

step_again : (t n : ℕ) (pick : Option ℕ) (rest : List ℕ) → IsWhat (Step t n pick) → Stops rest → step_at (fields (Step t n pick) ++ rest) ≡ Some (Step t n pick, rest)
step_again t n pick rest is stop =
    let regroup = three_parts (field t) (field n) (pick_field pick) rest in
    let more : eqb n 0 ≡ false = grind (arith, nat_tests, is.1) in
    let end : Option (What × List ℕ) = Some (Step t n pick, rest) in
    ap step_at regroup
    ∙ bind_is (field_at most32 (field t ++ (field n ++ (pick_field pick ++ rest)))) (λ x. field_at most32 x.1 >>= λ y. pick_at y.1 >>= λ p. cond (eqb y.0 0) None (Some (Step x.0 y.0 p.0, p.1))) (t, field n ++ (pick_field pick ++ rest)) end
    (short_again t (field n ++ (pick_field pick ++ rest)) is.0 refl)
    (bind_is (field_at most32 (field n ++ (pick_field pick ++ rest))) (λ y. pick_at y.1 >>= λ p. cond (eqb y.0 0) None (Some (Step t y.0 p.0, p.1))) (n, pick_field pick ++ rest) end
    (short_again n (pick_field pick ++ rest) is.2 (pick_stops pick rest))
    (bind_is (pick_at (pick_field pick ++ rest)) (λ p. cond (eqb n 0) None (Some (Step t n p.0, p.1))) (pick, rest) end (pick_again pick rest is.3 stop) (rw more refl)))

what_takes : (code : ℕ) (bytes : List ℕ) (x : What × List ℕ) → what_at code bytes ≡ Some x → TakesWhat code bytes x
what_takes code bytes x e =
    elim (bool_cases (eqb code 77)) [
      | inl mount ↦
          let f : (field_at most32 bytes >>= λ t. Some (Mount t.0, t.1)) ≡ Some x = rw mount at e in
          let s = some_is (field_at most32 bytes) (λ t. Some (Mount t.0, t.1)) x f in
          let n = short_takes bytes s.0 s.1 in
          subst (TakesWhat code bytes) (some_same (Mount s.0.0, s.0.1) x s.2) (record { code_is = eqb-true _ _ mount; parts = n.0; is_what = n.1 })
      | inr no_mount ↦ elim (bool_cases (eqb code 85)) [
        | inl unmount ↦
            let f : (field_at most32 bytes >>= λ t. Some (Unmount t.0, t.1)) ≡ Some x = rw (no_mount, unmount) at e in
            let s = some_is (field_at most32 bytes) (λ t. Some (Unmount t.0, t.1)) x f in
            let n = short_takes bytes s.0 s.1 in
            subst (TakesWhat code bytes) (some_same (Unmount s.0.0, s.0.1) x s.2) (record { code_is = eqb-true _ _ unmount; parts = n.0; is_what = n.1 })
        | inr no_unmount ↦ elim (bool_cases (eqb code 83)) [
          | inl step ↦
              let f : step_at bytes ≡ Some x = rw (no_mount, no_unmount, step) at e in
              let t = step_takes bytes x f in
              record { code_is = eqb-true _ _ step ∙ t.code_is; parts = t.parts; is_what = t.is_what }
          | inr no_step ↦
              let g : cond (eqb code 67) (field_at most64 bytes >>= λ now. Some (Clock now.0, now.1)) None ≡ Some x = rw (no_mount, no_unmount, no_step) at e in
              let clock = cond_some (eqb code 67) (field_at most64 bytes >>= λ now. Some (Clock now.0, now.1)) x g in
              let s = some_is (field_at most64 bytes) (λ now. Some (Clock now.0, now.1)) x clock.1 in
              let n = long_takes bytes s.0 s.1 in
              subst (TakesWhat code bytes) (some_same (Clock s.0.0, s.0.1) x s.2) (record { code_is = eqb-true _ _ clock.0; parts = n.0; is_what = n.1 })
        ]
      ]
    ]

what_again : (w : What) (rest : List ℕ) → IsWhat w → Stops rest → what_at (code_of w) (fields w ++ rest) ≡ Some (w, rest)
what_again (Mount t) rest is stop = bind_is (field_at most32 (field t ++ rest)) (λ x. Some (Mount x.0, x.1)) (t, rest) (Some (Mount t, rest)) (short_again t rest is stop) refl
what_again (Unmount t) rest is stop = bind_is (field_at most32 (field t ++ rest)) (λ x. Some (Unmount x.0, x.1)) (t, rest) (Some (Unmount t, rest)) (short_again t rest is stop) refl
what_again (Step t n pick) rest is stop = step_again t n pick rest is stop
what_again (Clock now) rest is stop = bind_is (field_at most64 (field now ++ rest)) (λ x. Some (Clock x.0, x.1)) (now, rest) (Some (Clock now, rest)) (long_again now rest is stop) refl

what_stops : (w : What) (rest : List ℕ) → Stops (fields w ++ rest)
what_stops (Mount t) rest = refl
what_stops (Unmount t) rest = refl
what_stops (Step t n pick) rest = refl
what_stops (Clock now) rest = refl

-- ---- lines

pub entry_takes : (bytes : List ℕ) (x : Entry × List ℕ) → entry_at bytes ≡ Some x → (bytes ≡ line x.0 ++ x.1) × IsEntry x.0
entry_takes [] x e = absurd cc
entry_takes (code ∷ bytes) x e =
    let carrier = some_is (field_at most32 bytes) (λ c. what_at code c.1 >>= λ w. after (codes "\n") w.1 >>= λ rest. Some (record { carrier = c.0; what = w.0 }, rest)) x e in
    let what = some_is (what_at code carrier.0.1) (λ w. after (codes "\n") w.1 >>= λ rest. Some (record { carrier = carrier.0.0; what = w.0 }, rest)) x carrier.2 in
    let end = some_is (after (codes "\n") what.0.1) (λ rest. Some (record { carrier = carrier.0.0; what = what.0.0 }, rest)) x what.2 in
    let one = short_takes bytes carrier.0 carrier.1 in
    let two = what_takes code carrier.0.1 what.0 what.1 in
    let three = after_takes (codes "\n") what.0.1 end.0 end.1 in
    let made : Entry × List ℕ = (record { carrier = carrier.0.0; what = what.0.0 }, end.0) in
    let first : letter what.0.0 ≡ code ∷ [] = letter_is what.0.0 ∙ ap (λ (k : ℕ). k ∷ []) (sym two.code_is) in
    let rest_is = one.0 ∙ ap (λ (t : List ℕ). field carrier.0.0 ++ t) (two.parts ∙ ap (λ (t : List ℕ). fields what.0.0 ++ t) three) in
    let parts : (code ∷ bytes) ≡ line made.0 ++ made.1 =
    (λ i. code ∷ rest_is i) ∙ ap (λ (t : List ℕ). t ++ (field carrier.0.0 ++ (fields what.0.0 ++ (newline ++ end.0)))) (sym first)
    ∙ sym (four_parts (letter what.0.0) (field carrier.0.0) (fields what.0.0) newline end.0) in
    subst (λ (y : Entry × List ℕ). ((code ∷ bytes) ≡ line y.0 ++ y.1) × IsEntry y.0) (some_same made x end.2) (parts, record { carrier = one.1; what = two.is_what })

pub entry_again : (e : Entry) (rest : List ℕ) → IsEntry e → entry_at (line e ++ rest) ≡ Some (e, rest)
entry_again e rest is =
    let c = e.carrier in
    let w = e.what in
    let code = code_of w in
    let end : Option (Entry × List ℕ) = Some (e, rest) in
    let parts : line e ++ rest ≡ code ∷ (field c ++ (fields w ++ (newline ++ rest))) =
    four_parts (letter w) (field c) (fields w) newline rest ∙ ap (λ (t : List ℕ). t ++ (field c ++ (fields w ++ (newline ++ rest)))) (letter_is w) in
    ap entry_at parts
    ∙ bind_is (field_at most32 (field c ++ (fields w ++ (newline ++ rest)))) (λ x. what_at code x.1 >>= λ y. after (codes "\n") y.1 >>= λ behind. Some (record { carrier = x.0; what = y.0 }, behind)) (c, fields w ++ (newline ++ rest)) end
    (short_again c (fields w ++ (newline ++ rest)) is.carrier (what_stops w (newline ++ rest)))
    (bind_is (what_at code (fields w ++ (newline ++ rest))) (λ y. after (codes "\n") y.1 >>= λ behind. Some (record { carrier = c; what = y.0 }, behind)) (w, newline ++ rest) end
    (what_again w (newline ++ rest) is.what refl)
    (bind_is (after (codes "\n") (newline ++ rest)) (λ behind. Some (record { carrier = c; what = w }, behind)) rest end (after_again (codes "\n") rest) refl))

pub first_line_takes : (text : List ℕ) (x : ℕ × List ℕ) → first_line_at text ≡ Some x → (text ≡ first_line x.0 ++ x.1) × (x.0 < 2 ^ 32)
first_line_takes text x e =
    let behind = some_is (after (codes "jvt-trace carriers") text) (λ b. field_at most32 b >>= λ c. after (codes "\n") c.1 >>= λ rest. Some (c.0, rest)) x e in
    let carriers = some_is (field_at most32 behind.0) (λ c. after (codes "\n") c.1 >>= λ rest. Some (c.0, rest)) x behind.2 in
    let end = some_is (after (codes "\n") carriers.0.1) (λ rest. Some (carriers.0.0, rest)) x carriers.2 in
    let one = after_takes (codes "jvt-trace carriers") text behind.0 behind.1 in
    let two = short_takes behind.0 carriers.0 carriers.1 in
    let three = after_takes (codes "\n") carriers.0.1 end.0 end.1 in
    let parts = one ∙ ap (λ (t : List ℕ). codes "jvt-trace carriers" ++ t) (two.0 ∙ ap (λ (t : List ℕ). field carriers.0.0 ++ t) three)
    ∙ sym (three_parts (codes "jvt-trace carriers") (field carriers.0.0) newline end.0) in
    subst (λ (y : ℕ × List ℕ). (text ≡ first_line y.0 ++ y.1) × (y.0 < 2 ^ 32)) (some_same (carriers.0.0, end.0) x end.2) (parts, two.1)

pub first_line_again : (c : ℕ) (rest : List ℕ) → c < 2 ^ 32 → first_line_at (first_line c ++ rest) ≡ Some (c, rest)
first_line_again c rest small =
    let end : Option (ℕ × List ℕ) = Some (c, rest) in
    ap first_line_at (three_parts (codes "jvt-trace carriers") (field c) newline rest)
    ∙ bind_is (after (codes "jvt-trace carriers") (codes "jvt-trace carriers" ++ (field c ++ (newline ++ rest)))) (λ b. field_at most32 b >>= λ x. after (codes "\n") x.1 >>= λ behind. Some (x.0, behind)) (field c ++ (newline ++ rest)) end
    (after_again (codes "jvt-trace carriers") (field c ++ (newline ++ rest)))
    (bind_is (field_at most32 (field c ++ (newline ++ rest))) (λ x. after (codes "\n") x.1 >>= λ behind. Some (x.0, behind)) (c, newline ++ rest) end
    (short_again c (newline ++ rest) small refl)
    (bind_is (after (codes "\n") (newline ++ rest)) (λ behind. Some (c, behind)) rest end (after_again (codes "\n") rest) refl))

pub last_line_takes : (count : ℕ) (bytes rest : List ℕ) → last_line_at count bytes ≡ Some rest → bytes ≡ last_line count ++ rest
last_line_takes count bytes rest e =
    let behind = some_is (after (codes "end") bytes) (λ b. field_at most64 b >>= λ n. cond (eqb n.0 count) (after (codes "\n") n.1) None) rest e in
    let number = some_is (field_at most64 behind.0) (λ n. cond (eqb n.0 count) (after (codes "\n") n.1) None) rest behind.2 in
    let end = cond_some (eqb number.0.0 count) (after (codes "\n") number.0.1) rest number.2 in
    let one = after_takes (codes "end") bytes behind.0 behind.1 in
    let two = long_takes behind.0 number.0 number.1 in
    let three = after_takes (codes "\n") number.0.1 rest end.1 in
    let same : number.0.0 ≡ count = eqb-true _ _ end.0 in
    one ∙ ap (λ (t : List ℕ). codes "end" ++ t) (two.0 ∙ ap (λ (t : List ℕ). field number.0.0 ++ t) three ∙ ap (λ (k : ℕ). field k ++ (newline ++ rest)) same)
    ∙ sym (three_parts (codes "end") (field count) newline rest)

pub last_line_again : (count : ℕ) (rest : List ℕ) → count < 2 ^ 64 → last_line_at count (last_line count ++ rest) ≡ Some rest
last_line_again count rest small =
    let end : Option (List ℕ) = Some rest in
    let same : eqb count count ≡ true = eq-eqb count count refl in
    ap (last_line_at count) (three_parts (codes "end") (field count) newline rest)
    ∙ bind_is (after (codes "end") (codes "end" ++ (field count ++ (newline ++ rest)))) (λ b. field_at most64 b >>= λ n. cond (eqb n.0 count) (after (codes "\n") n.1) None) (field count ++ (newline ++ rest)) end
    (after_again (codes "end") (field count ++ (newline ++ rest)))
    (bind_is (field_at most64 (field count ++ (newline ++ rest))) (λ n. cond (eqb n.0 count) (after (codes "\n") n.1) None) (count, newline ++ rest) end
    (long_again count (newline ++ rest) small refl)
    (rw same (after_again (codes "\n") rest)))

-- the last line is no entry's
pub last_is_no_entry : (count : ℕ) (rest : List ℕ) → entry_at (last_line count ++ rest) ≡ None
last_is_no_entry count rest = refl
