-- One step of the walk, and the first fault at the instructions from there on.
use Rattle.std.proofs.Common.{◌≡◌, Bool, true, false, cond, List, [], ◌∷◌, ◌++◌, length, Option, Some, None, Result, Ok, Err, refl, ap, sym, subst, ◌∙◌, arith}
use Rattle.std.specs.Prelude.{map, filter, find, not, is_some, is_none, nat_eq, get_or, drop}
use Rattle.std.specs.Option.{option_map}
use Rattle.std.specs.List.{flat_map}
use Rattle.std.specs.Result.{result_ok}
use Rattle.std.proofs.lemmas.Bool.{ne_eqb}
use Rattle.opcodes.specs.declared.op.Instr.{Instr}
use Rattle.instruction_rows.specs.declared.row_why.RowWhy.{RowWhy}
use Rattle.instruction_rows.specs.Rows.{row_goes_on}
use Rattle.instruction_rows.specs.Table.{row}
use Rattle.link_model.specs.declared.sites.Resolution.{Resolution}
use Rattle.link_model.specs.declared.sites.Site.TheVariants.{Plain}
use Rattle.verify_types.specs.declared.why.VerifyWhy.{VerifyWhy}
use Rattle.verify_types.specs.declared.why.VerifyWhy.TheVariants as whys
use Rattle.verify_types.specs.declared.fault.PcFault.{PcFault}
use Rattle.verify_types.specs.TypeStates.{TypeState}
use Rattle.verify_types.specs.Environment.{MapFrame, Environment, map_at, with_resolutions}
use Rattle.verify_types.specs.Effects.{state_after}
use Rattle.verify_types.specs.Walk.{Placed, is_end, placed, behind, standing}
use Rattle.items.specs.First.{unless, first_some}
use Rattle.verify_types.specs.Faults.{is_why, is_shallow, whys_after, state_whys, whys_at, pc_fault, is_inside, stray_frames, placed_faults}
use Rattle.verify_instructions.specs.declared.stop.Stop.{Stop}
use Rattle.verify_instructions.specs.declared.stop.Stop.TheVariants as stops
use Rattle.verify_instructions.specs.Answers.{Leaves}
use Rattle.verify_code.specs.Findings.{instruction_of, findings_at, findings_whys}
use Rattle.verify_frames.specs.Frames.{stray_frame}
use Rattle.verify_frames.specs.declared.known_state.StateAfter.{StateAfter}
use Rattle.verify_frames.specs.declared.known_state.KnownState.{KnownState}
use Rattle.verify_frames.specs.KnownStates.{going, type_state}
use Rattle.verify_frames.proofs.KnownStateLaws.{new_going, none_hold, one_holds}
use Rattle.verify_code.specs.Walks.{GoesOn, IsTyped, IsPassed, arrives, place, goes_to, fault_from}

-- ---- one instruction

-- an answer that names a rule says that it is broken
pub gives_broken : {X : Type 0} (result : Result X Stop) (left : TypeState) (wanted : Result TypeState RowWhy) (stop : Stop) (why : RowWhy)
    → Leaves result left wanted → result ≡ Err stop → stop ≡ stops.Broken why → wanted ≡ Err why
gives_broken result left wanted stop why h is named = subst (λ r. Leaves r left wanted) (is ∙ ap (λ x. Err x) named) h

-- one that names none says what is left
pub gives_state : {X : Type 0} (result : Result X Stop) (left : TypeState) (wanted : Result TypeState RowWhy) (x : X) → Leaves result left wanted → result ≡ Ok x → wanted ≡ Ok left
gives_state result left wanted x h is = subst (λ r. Leaves r left wanted) is h

-- the first broken rule, where the instruction breaks one of its own
pub broken : (env : Environment) (i : Instr) (resolution : Resolution) (entry : Option TypeState) (is_last fits : Bool) (s : TypeState) (why : RowWhy) (answer : VerifyWhy)
    → state_after env (instruction_of i resolution) s ≡ Err why → fits ≡ arrives env i.pc entry
    → Some answer ≡ first_some (findings_whys (findings_at env fits (instruction_of i resolution) is_last s) (λ rule. not (is_why rule why)) true true)
    → first_some (state_whys env (place i resolution (Some s) entry is_last) s) ≡ Some answer
broken env i resolution entry is_last fits s why answer after arrived answered =
    let p = place i resolution (Some s) entry is_last in
    ap (λ r. first_some (whys_after env p s r)) after
    ∙ ap (λ b. first_some (findings_whys (findings_at env b (instruction_of i resolution) is_last s) (λ rule. not (is_why rule why)) true true)) (sym arrived)
    ∙ sym answered

-- the first broken rule, where it keeps its own
pub typed : (env : Environment) (i : Instr) (resolution : Resolution) (entry : Option TypeState) (is_last fits : Bool) (s after : TypeState) (answer : Option VerifyWhy)
    → state_after env (instruction_of i resolution) s ≡ Ok after → fits ≡ arrives env i.pc entry
    → answer ≡ first_some (findings_whys (findings_at env fits (instruction_of i resolution) is_last s) (λ rule. true) (goes_to env (row i.op) i.next is_last after) (is_shallow env after))
    → first_some (state_whys env (place i resolution (Some s) entry is_last) s) ≡ answer
typed env i resolution entry is_last fits s after answer is arrived answered =
    let p = place i resolution (Some s) entry is_last in
    ap (λ r. first_some (whys_after env p s r)) is
    ∙ ap (λ b. first_some (findings_whys (findings_at env b (instruction_of i resolution) is_last s) (λ rule. true) (goes_to env (row i.op) i.next is_last after) (is_shallow env after))) (sym arrived)
    ∙ sym answered

-- an instruction without a state before it
pub unknown_there : (env : Environment) (i : Instr) (resolution : Resolution) (entry : Option TypeState) (is_last : Bool) → is_some (map_at env i.pc) ≡ true
    → first_some (whys_at env (place i resolution None entry is_last)) ≡ Some whys.Map
unknown_there env i resolution entry is_last h = there (map_at env i.pc) h
  where
    there : (o : Option MapFrame) → is_some o ≡ true → first_some (unless (is_none o) whys.Map ∷ []) ≡ Some whys.Map
    there None h = absurd cc
    there (Some f) h = refl

pub unknown_missing : (env : Environment) (i : Instr) (resolution : Resolution) (entry : Option TypeState) (is_last : Bool) → is_some (map_at env i.pc) ≡ false
    → first_some (whys_at env (place i resolution None entry is_last)) ≡ None
unknown_missing env i resolution entry is_last h = missing (map_at env i.pc) h
  where
    missing : (o : Option MapFrame) → is_some o ≡ false → first_some (unless (is_none o) whys.Map ∷ []) ≡ None
    missing None h = refl
    missing (Some f) h = absurd cc

-- what goes on after it, where no rule is broken
pub passed_unknown : (env : Environment) (p : Placed) (b : StateAfter) → b ≡ record { known = None; goes_on = false } → first_some (whys_at env p) ≡ None → behind env p.instruction p.state ≡ None → IsPassed env p b
passed_unknown env p b e none at = subst (IsPassed env p) (sym e) (record { none = none; is = sym at; holds = none_hold env })

pub passed_on : (env : Environment) (i : Instr) (resolution : Resolution) (entry : Option TypeState) (is_last : Bool) (s : TypeState) (after : KnownState) (on : Bool) (b : StateAfter)
    → IsTyped env (place i resolution (Some s) entry is_last) s after → on ≡ row_goes_on (row i.op) → b ≡ record { known = Some after; goes_on = on } → IsPassed env (place i resolution (Some s) entry is_last) b
passed_on env i resolution entry is_last s after on b h goes e = subst (IsPassed env (place i resolution (Some s) entry is_last)) (sym e) (record {
  none = h.none;
  is =
      new_going after on
      ∙ ap (λ t. cond t (Some (type_state after)) None) goes
      ∙ ap (λ r. cond (row_goes_on (row i.op)) (result_ok r) None) (sym h.is);
  holds = one_holds env after h.holds;
})

-- ---- faults in a list

pub found_in_front : {A : Type 0} (xs ys : List (Option A)) (x : A) → first_some xs ≡ Some x → first_some (xs ++ ys) ≡ Some x
found_in_front [] ys x h = absurd cc
found_in_front (None ∷ xs) ys x h = found_in_front xs ys x h
found_in_front (Some y ∷ xs) ys x h = h

pub none_in_front : {A : Type 0} (xs ys : List (Option A)) → first_some xs ≡ None → first_some (xs ++ ys) ≡ first_some ys
none_in_front [] ys h = refl
none_in_front (None ∷ xs) ys h = none_in_front xs ys h
none_in_front (Some y ∷ xs) ys h = absurd cc

pub first_mapped : {A B : Type 0} (f : A → B) (xs : List (Option A)) → first_some (map (option_map f) xs) ≡ option_map f (first_some xs)
first_mapped f [] = refl
first_mapped f (None ∷ xs) = first_mapped f xs
first_mapped f (Some x ∷ xs) = refl

filter_step : {A B : Type 0} (g : A → B) (x : A) (xs : List A) (o : Option A) (b : Bool) → first_some (map (λ y. Some (g y)) xs) ≡ option_map g o
    → first_some (map (λ y. Some (g y)) (cond b (x ∷ xs) xs)) ≡ option_map g (cond b (Some x) o)
filter_step g x xs o true e = refl
filter_step g x xs o false e = e

first_filtered : {A B : Type 0} (g : A → B) (p : A → Bool) (xs : List A) → first_some (map (λ y. Some (g y)) (filter p xs)) ≡ option_map g (find p xs)
first_filtered g p [] = refl
first_filtered g p (x ∷ xs) = filter_step g x (filter p xs) (find p xs) (p x) (first_filtered g p xs)

-- ---- an instruction and what lies after it

pub broken_there : (env : Environment) (p : Placed) (why : VerifyWhy) → first_some (whys_at env p) ≡ Some why
    → first_some (placed_faults env p) ≡ Some (pc_fault p.instruction.instr.pc why)
broken_there env p why h =
    let pc = p.instruction.instr.pc in
    found_in_front (map (option_map (pc_fault pc)) (whys_at env p)) (map (λ (f : MapFrame). Some (pc_fault f.pc whys.Map)) (stray_frames env p)) (pc_fault pc why)
    (first_mapped (pc_fault pc) (whys_at env p) ∙ ap (λ o. option_map (pc_fault pc) o) h)

pub stray_there : (env : Environment) (p : Placed) → first_some (whys_at env p) ≡ None
    → first_some (placed_faults env p) ≡ option_map (λ (f : MapFrame). pc_fault f.pc whys.Map) (stray_frame p.instruction.instr.pc p.instruction.instr.next p.is_last env.map)
stray_there env p h =
    let pc = p.instruction.instr.pc in
    none_in_front (map (option_map (pc_fault pc)) (whys_at env p)) (map (λ (f : MapFrame). Some (pc_fault f.pc whys.Map)) (stray_frames env p))
    (first_mapped (pc_fault pc) (whys_at env p) ∙ ap (λ o. option_map (pc_fault pc) o) h)
    ∙ first_filtered (λ (f : MapFrame). pc_fault f.pc whys.Map) (λ (f : MapFrame). is_inside p f.pc) env.map

-- ---- the walk

pub last_is : (is : List Instr) (ns : List Resolution) → is_end (with_resolutions is ns) ≡ nat_eq (length is) 0
last_is [] ns = refl
last_is (i ∷ is) ns = sym (ne_eqb (length (i ∷ is)) 0 (λ e. omega arith))

abbrev Resolution_at : List Resolution → Resolution
Resolution_at ns = get_or ns 0 (record { site = Plain; class = None; failure = None })

-- the first of what is left, as the walk has it
head_is : (env : Environment) (entry before : Option TypeState) (i : Instr) (is : List Instr) (ns : List Resolution) (resolution : Resolution) (is_last : Bool)
    → resolution ≡ Resolution_at ns → is_last ≡ nat_eq (length is) 0
    → place i resolution (standing env i.pc before) entry is_last ≡ place i (Resolution_at ns) (standing env i.pc before) entry (is_end (with_resolutions is (drop 1 ns)))
head_is env entry before i is ns resolution is_last named last =
    ap (λ n. place i n (standing env i.pc before) entry is_last) named
    ∙ ap (λ b. place i (Resolution_at ns) (standing env i.pc before) entry b) (last ∙ sym (last_is is (drop 1 ns)))

-- a fault at the first of what is left is the first there
pub fault_at_first : (env : Environment) (entry before : Option TypeState) (i : Instr) (is : List Instr) (ns : List Resolution) (resolution : Resolution) (is_last : Bool) (fault : PcFault)
    → resolution ≡ Resolution_at ns → is_last ≡ nat_eq (length is) 0
    → first_some (placed_faults env (place i resolution (standing env i.pc before) entry is_last)) ≡ Some fault
    → fault_from env entry before (with_resolutions (i ∷ is) ns) ≡ Some fault
fault_at_first env entry before i is ns resolution is_last fault named last h =
    let here = standing env i.pc before in
    let head = place i (Resolution_at ns) here entry (is_end (with_resolutions is (drop 1 ns))) in
    found_in_front (placed_faults env head) (flat_map (placed_faults env) (placed env None (behind env head.instruction here) (with_resolutions is (drop 1 ns)))) fault
    (ap (λ p. first_some (placed_faults env p)) (sym (head_is env entry before i is ns resolution is_last named last)) ∙ h)

-- without one there, it is the first of those after it
pub fault_behind_first : (env : Environment) (entry before : Option TypeState) (after : StateAfter) (i : Instr) (is : List Instr) (ns : List Resolution) (resolution : Resolution) (is_last : Bool)
    → resolution ≡ Resolution_at ns → is_last ≡ nat_eq (length is) 0
    → GoesOn env (place i resolution (standing env i.pc before) entry is_last) after
    → fault_from env entry before (with_resolutions (i ∷ is) ns) ≡ fault_from env None (going after) (with_resolutions is (drop 1 ns))
fault_behind_first env entry before after i is ns resolution is_last named last h =
    let here = standing env i.pc before in
    let head = place i (Resolution_at ns) here entry (is_end (with_resolutions is (drop 1 ns))) in
    let same = head_is env entry before i is ns resolution is_last named last in
    let on = subst (λ p. GoesOn env p after) same h in
    none_in_front (placed_faults env head) (flat_map (placed_faults env) (placed env None (behind env head.instruction here) (with_resolutions is (drop 1 ns)))) on.none
    ∙ ap (λ s. fault_from env None s (with_resolutions is (drop 1 ns))) (sym on.is)
