-- Tables of instructions by their pcs.
use Rattle.std.proofs.Common.{◌≡◌, ℕ, ◌+◌, ◌<◌, ◌≤◌, ◌≢◌, Bool, true, false, cond, List, [], ◌∷◌, ◌++◌, length, take, get_or, Option, Some, None, is_some, refl, sym, ap, subst, ◌∙◌, ⊎_elim, nat_eq, arith, length-append}
use Rattle.std.specs.Prelude.{slice_get, slice_set, position, ◌==◌}
use Rattle.std.specs.Option.{option_or, option_and_then}
use Rattle.std.proofs.lemmas.Option.{slice_get_past, slice_get-get_or}
use Rattle.std.proofs.lemmas.List.{get_or-set_same, get_or-set_other, get_or_past}
use Rattle.std.proofs.Math.ListN.{get_or-append}
use Rattle.std.proofs.Math.Seq.{get_or-append_seam}
use Rattle.std.proofs.lemmas.Bool.{cases_lt, cases_eq}
use Rattle.std.proofs.lemmas.Bool.Decides.{nat_tests}
use Rattle.std.proofs.lemmas.Grind.{common_steps}
use Rattle.opcodes.specs.declared.op.Instr.{Instr}
use Rattle.link_model.specs.declared.members.MethodCode.{MethodCode}
use Rattle.link_model.specs.LookUps.{index_at, index_in}
use Rattle.link_resolution.proofs.Positions.{position_push}
use Rattle.link_numbers.specs.Decodings.{instrs_in}
use Rattle.link_tables.specs.PcTables.{IsByPc, AreByPc, stored_index, some_index}

or_here : (o : Option ℕ) (b : Bool) (k : ℕ) → is_some o ≡ true → o ≡ option_or o (cond b (Some k) None)
or_here None b k s = absurd cc
or_here (Some x) b k s = refl

or_off : (o : Option ℕ) (b : Bool) (k : ℕ) → b ≡ false → o ≡ option_or o (cond b (Some k) None)
or_off None b k e = sym (ap (λ c. cond c (Some k) None) e)
or_off (Some x) b k e = refl

or_new : (o : Option ℕ) (b : Bool) (k : ℕ) → is_some o ≡ false → b ≡ true → Some k ≡ option_or o (cond b (Some k) None)
or_new None b k s e = sym (ap (λ c. cond c (Some k) None) e)
or_new (Some x) b k s e = absurd cc

-- where the table has an instruction at the pc
pub has_entry : (table : List (Option ℕ)) (pc k : ℕ) → is_some (get_or table pc None) ≡ true → (q : ℕ) → get_or table q None ≡ option_or (get_or table q None) (cond (nat_eq pc q) (Some k) None)
has_entry table pc k s q =
    ⊎_elim
    (λ (e : q ≡ pc). or_here (get_or table q None) (nat_eq pc q) k (ap (λ n. is_some (get_or table n None)) e ∙ s))
    (λ (ne : q ≢ pc). or_off (get_or table q None) (nat_eq pc q) k (grind (arith, nat_tests)))
    (cases_eq q pc)

-- where it has none
pub added : (table : List (Option ℕ)) (pc k : ℕ) → pc < length table → is_some (get_or table pc None) ≡ false
    → (q : ℕ) → get_or (slice_set table pc (Some k)) q None ≡ option_or (get_or table q None) (cond (nat_eq pc q) (Some k) None)
added table pc k h s q =
    ⊎_elim
    (λ (e : q ≡ pc). ap (λ n. get_or (slice_set table pc (Some k)) n None) e ∙ get_or-set_same table pc (Some k) None h
    ∙ or_new (get_or table q None) (nat_eq pc q) k (ap (λ n. is_some (get_or table n None)) e ∙ s) (grind (arith, nat_tests)))
    (λ (ne : q ≢ pc). get_or-set_other table pc q (Some k) None ne ∙ or_off (get_or table q None) (nat_eq pc q) k (grind (arith, nat_tests)))
    (cases_eq q pc)

-- ---- two bytes an entry

-- where the table has an instruction at the pc
pub has_index : (table : List ℕ) (pc k : ℕ) → is_some (stored_index table pc) ≡ true → (q : ℕ) → stored_index table q ≡ option_or (stored_index table q) (cond (nat_eq pc q) (Some k) None)
has_index table pc k s q =
    ⊎_elim
    (λ (e : q ≡ pc). or_here (stored_index table q) (nat_eq pc q) k (ap (λ n. is_some (stored_index table n)) e ∙ s))
    (λ (ne : q ≢ pc). or_off (stored_index table q) (nat_eq pc q) k (grind (arith, nat_tests)))
    (cases_eq q pc)

-- where it has none
pub added_index : (table : List ℕ) (pc k : ℕ) → pc < length table → some_index k ≡ Some k → is_some (stored_index table pc) ≡ false
    → (q : ℕ) → stored_index (slice_set table pc k) q ≡ option_or (stored_index table q) (cond (nat_eq pc q) (Some k) None)
added_index table pc k h t s q =
    ⊎_elim
    (λ (e : q ≡ pc). ap (λ n. stored_index (slice_set table pc k) n) e ∙ ap some_index (get_or-set_same table pc k 65535 h) ∙ t
    ∙ or_new (stored_index table q) (nat_eq pc q) k (ap (λ n. is_some (stored_index table n)) e ∙ s) (grind (arith, nat_tests)))
    (λ (ne : q ≢ pc). ap some_index (get_or-set_other table pc q k 65535 ne) ∙ or_off (stored_index table q) (nat_eq pc q) k (grind (arith, nat_tests)))
    (cases_eq q pc)

-- one instruction more
pub one_more : (instrs : List Instr) (i : ℕ) (x : Instr) (old new : List ℕ) → i < length instrs → x ≡ get_or instrs i x → IsByPc (take i instrs) old
    → ((q : ℕ) → stored_index new q ≡ option_or (stored_index old q) (cond (nat_eq x.pc q) (Some i) None)) → IsByPc (take (i + 1) instrs) new
one_more instrs i x old new h e before step q =
    let t : take (i + 1) instrs ≡ take i instrs ++ x ∷ [] = grind (arith, common_steps) in
    let l : length (take i instrs) ≡ i = grind (arith, common_steps) in
    step q ∙ ap (λ o. option_or o (cond (nat_eq x.pc q) (Some i) None)) (before q)
    ∙ ap (λ n. option_or (position (λ (y : Instr). y.pc == q) (take i instrs)) (cond (nat_eq x.pc q) (Some n) None)) (sym l)
    ∙ sym (position_push (λ (y : Instr). y.pc == q) (take i instrs) x) ∙ ap (λ xs. position (λ (y : Instr). y.pc == q) xs) (sym t)

-- ---- all methods

none_at : (pc : ℕ) → None ≡ position (λ (y : Instr). y.pc == pc) []
none_at pc = refl

of_code : (code : Option MethodCode) (pc : ℕ) → position (λ (y : Instr). y.pc == pc) (instrs_in code) ≡ option_and_then (index_at pc) code
of_code None pc = sym (none_at pc)
of_code (Some code) pc = refl

get_front : {X : Type 0} (xs : List X) (y : X) (n : ℕ) → n < length xs → slice_get (xs ++ y ∷ []) n ≡ slice_get xs n
get_front xs y n h =
    let wide : n < length (xs ++ y ∷ []) = simp length-append (omega arith) in
    slice_get-get_or (xs ++ y ∷ []) n y wide ∙ ap Some (get_or-append xs (y ∷ []) y n h) ∙ sym (slice_get-get_or xs n y h)

get_last : {X : Type 0} (xs : List X) (y : X) → slice_get (xs ++ y ∷ []) (length xs) ≡ Some y
get_last xs y =
    let wide : length xs < length (xs ++ y ∷ []) = simp length-append (omega arith) in
    slice_get-get_or (xs ++ y ∷ []) (length xs) y wide ∙ ap Some (get_or-append_seam xs y [] y)

pub one_method : (codes : List (Option MethodCode)) (tables : List (List ℕ)) (code : Option MethodCode) (table : List ℕ) → length tables ≡ length codes
    → AreByPc codes tables → IsByPc (instrs_in code) table → AreByPc (codes ++ code ∷ []) (tables ++ table ∷ [])
one_method codes tables code table l before new n pc =
    ⊎_elim
    (λ (lt : n < length codes).
    let inside : n < length tables = omega arith in
    ap (λ (t : List ℕ). stored_index t pc) (get_or-append tables (table ∷ []) [] n inside) ∙ before n pc
    ∙ ap (option_and_then (option_and_then (index_at pc))) (sym (get_front codes code n lt)))
    (λ (ge : length codes ≤ n).
    ⊎_elim
    (λ (e : n ≡ length codes).
    ap (λ k. stored_index (get_or (tables ++ table ∷ []) k []) pc) (e ∙ sym l) ∙ ap (λ (t : List ℕ). stored_index t pc) (get_or-append_seam tables table [] [])
    ∙ new pc ∙ of_code code pc
    ∙ ap (option_and_then (option_and_then (index_at pc))) (sym (get_last codes code))
    ∙ ap (λ k. index_in (codes ++ code ∷ []) k pc) (sym e))
    (λ (ne : n ≢ length codes).
    let past : length (tables ++ table ∷ []) ≤ n = simp length-append (omega arith) in
    let past' : length (codes ++ code ∷ []) ≤ n = simp length-append (omega arith) in
    ap (λ (t : List ℕ). stored_index t pc) (get_or_past (tables ++ table ∷ []) n [] past) ∙ nothing pc
    ∙ ap (option_and_then (option_and_then (index_at pc))) (sym (slice_get_past (codes ++ code ∷ []) n past')))
    (cases_eq n (length codes)))
    (cases_lt n (length codes))
  where
    nothing : (q : ℕ) → stored_index [] q ≡ option_and_then (option_and_then (index_at q)) None
    nothing q = ap some_index (get_or_past [] q 65535 (omega arith))

-- one method more of these
pub next_method : (codes : List (Option MethodCode)) (i : ℕ) (code : Option MethodCode) (tables new : List (List ℕ)) (table : List ℕ) → i < length codes → code ≡ get_or codes i code
    → length tables ≡ i → AreByPc (take i codes) tables → IsByPc (instrs_in code) table → new ≡ tables ++ table ∷ [] → AreByPc (take (i + 1) codes) new
next_method codes i code tables new table h e l before one n =
    let t : take (i + 1) codes ≡ take i codes ++ code ∷ [] = grind (arith, common_steps) in
    let k : length (take i codes) ≡ i = grind (arith, common_steps) in
    let all : AreByPc (take i codes ++ code ∷ []) (tables ++ table ∷ []) = one_method (take i codes) tables code table (l ∙ sym k) before one in
    let first : AreByPc (take i codes ++ code ∷ []) new = subst (λ ts. AreByPc (take i codes ++ code ∷ []) ts) (sym n) all in
    subst (λ cs. AreByPc cs new) (sym t) first

pub no_method : AreByPc [] []
no_method n pc = ap some_index (get_or_past [] pc 65535 (omega arith))
