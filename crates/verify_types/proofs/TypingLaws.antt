-- A method without a fault is typed: what each instruction leaves is known wherever it goes.
use Rattle.std.proofs.Common.{◌≡◌, ℕ, ℤ, ◌<◌, ◌≤◌, inl, inr, Bool, true, false, cond, List, [], ◌∷◌, length, Option, Some, None, eq-eqb, refl, ap, sym, ◌∙◌, subst, arith}
use Rattle.std.specs.Prelude.{◌&&◌, ◌||◌, ◌==◌, not, find, is_some, slice_get, nat_lt}
use Rattle.std.specs.Option.{option_map_or, option_and_then}
use Rattle.std.specs.List.{list_all}
use Rattle.std.specs.Result.{result_ok}
use Rattle.verify_types.specs.declared.why.VerifyWhy.TheVariants as whys
use Rattle.std.proofs.lemmas.Bool.{ne_eqb, eqb-true, lt-ltb, leb-true, cases_lt}
use Rattle.items.specs.First.{Each, AllNone}
use Rattle.items.proofs.FirstLaws.{passed}
use Rattle.instruction_rows.specs.Pcs.{pc_of}
use Rattle.instruction_rows.specs.Rows.{targets_of_row, row_goes_on}
use Rattle.link_model.specs.World.{World}
use Rattle.verify_types.specs.ClassTypes.{throwable_type}
use Rattle.verify_types.specs.Assignability.{assignable}
use Rattle.verify_types.specs.TypeStates.{TypeState, fits}
use Rattle.verify_types.specs.Environment.{Instruction, Handler, Environment, MapFrame, map_at, instruction_at}
use Rattle.verify_types.specs.Effects.{row_of, state_after}
use Rattle.verify_types.specs.Calls.{covers}
use Rattle.verify_types.specs.Handlers.{fits_frame, caught_type, caught, is_satisfied, are_satisfied}
use Rattle.verify_types.specs.Walk.{Placed, standing, behind, is_end, placed, walk, placed_at}
use Rattle.verify_types.specs.Faults.{is_target, fits_target, fits_next, is_inside, pc_fault, placed_faults, method_faults, IsWellTyped}
use Rattle.verify_types.specs.Acceptance.{KeepsRules, IsAccepted, AreAccepted}
use Rattle.link_model.specs.Decoded.{AreDecoded}
use Rattle.verify_types.proofs.CodeLaws.{InOrder, IsLinkedCode, are_linked}
use Rattle.verify_types.specs.Typing.{Leads, LeadsTo, IsFine, IsTypedMethod, AreTyped}
use Rattle.verify_types.proofs.KindLaws.{fits_kept}
use Rattle.verify_types.proofs.ListLaws.{and_true, each_flat, each_found, found_passes, none_left, among_all, at_all, option_true, some_is_some, option_case}
use Rattle.verify_types.proofs.FaultLaws.{none_in_method}
use Rattle.verify_types.proofs.WalkLaws.{head_of, walked, IsReached}

abbrev pub stands_at : ℕ → Placed → Bool
stands_at pc p = p.instruction.instr.pc == pc

-- what is left of the walk from a pc on
pub record Suffix (env : Environment) (entry before : Option TypeState) (pc : ℕ) (is : List Instruction) : Type 0 where
  pub ordered : InOrder pc is
  pub good : Each (KeepsRules env) (placed env entry before is)
  pub same : (n : ℕ) → pc ≤ n → placed_at env n ≡ find (stands_at n) (placed env entry before is)

-- what comes after the first is found after it
skipped : {A : Type 0} (a b : ℕ) (x : A) (below : Option A) → a < b → cond (a == b) (Some x) below ≡ below
skipped a b x below less =
    let other : a ≡ b → ⊥ = λ e. omega arith in
    ap (λ t. cond t (Some x) below) (ne_eqb a b other)

pub next_suffix : (env : Environment) (entry before : Option TypeState) (pc : ℕ) (i : Instruction) (is : List Instruction)
    → Suffix env entry before pc (i ∷ is) → Suffix env None (behind env i (standing env i.instr.pc before)) i.instr.next is
next_suffix env entry before pc i is s =
    let at : i.instr.pc ≡ pc = s.ordered.0 in
    let below : pc < i.instr.next = s.ordered.1 in
    record {
      ordered = s.ordered.2;
      good = s.good.1;
      same = λ n high.
          let low : pc ≤ n = omega arith in
          let less : i.instr.pc < n = omega arith in
          s.same n low ∙ skipped i.instr.pc n (head_of env entry before i is) (find (stands_at n) (placed env None (behind env i (standing env i.instr.pc before)) is)) less;
    }

-- the first instruction is found at its pc
found_first : (env : Environment) (entry before : Option TypeState) (pc n : ℕ) (i : Instruction) (is : List Instruction)
    → Suffix env entry before pc (i ∷ is) → i.instr.pc ≡ n → placed_at env n ≡ Some (head_of env entry before i is)
found_first env entry before pc n i is s same =
    let here : i.instr.pc ≡ pc = s.ordered.0 in
    let low : pc ≤ n = omega arith in
    let p = head_of env entry before i is in
    let below = find (stands_at n) (placed env None (behind env i (standing env i.instr.pc before)) is) in
    s.same n low ∙ ap (λ t. cond t (Some p) below) (eq-eqb i.instr.pc n same)

-- ---- an instruction lies at each frame of the map

-- at a pc there is an instruction, with the state of the frame of the map
pub record Lands (env : Environment) (pc : ℕ) (f : MapFrame) : Type 0 where
  pub place : Placed
  pub there : placed_at env pc ≡ Some place
  pub state : place.state ≡ f.state

lands_first : (env : Environment) (entry before : Option TypeState) (pc n : ℕ) (i : Instruction) (is : List Instruction) (f : MapFrame)
    → Suffix env entry before pc (i ∷ is) → i.instr.pc ≡ n → map_at env n ≡ Some f → Lands env n f
lands_first env entry before pc n i is f s same at =
    let State : Option MapFrame → Option TypeState = λ o. option_map_or (λ (g : MapFrame). g.state) o before in
    record {
      place = head_of env entry before i is;
      there = found_first env entry before pc n i is s same;
      state = ap (λ m. State (map_at env m)) same ∙ ap State at;
    }

inside : (a b : Bool) → a ≡ true → b ≡ true → (a && b) ≡ false → ⊥
inside true true x y e = cc
inside true false x y e = cc
inside false b x y e = cc

-- a frame lies at no pc between the first instruction and the next
no_stray : (env : Environment) (entry before : Option TypeState) (pc n : ℕ) (i : Instruction) (is : List Instruction) (f : MapFrame)
    → Suffix env entry before pc (i ∷ is) → map_at env n ≡ Some f → i.instr.pc < n → (is_end is || nat_lt n i.instr.next) ≡ true → ⊥
no_stray env entry before pc n i is f s at behind near =
    let p = head_of env entry before i is in
    let out = none_left (λ (g : MapFrame). is_inside p g.pc) (λ (g : MapFrame). g.pc == n) env.map f s.good.0.stray at in
    let pc_is = eqb-true f.pc n (found_passes (λ (g : MapFrame). g.pc == n) env.map f at) in
    let Out : ℕ → Type 0 = λ m. is_inside p m ≡ false in
    inside (nat_lt i.instr.pc n) (is_end is || nat_lt n i.instr.next) (lt-ltb i.instr.pc n behind) near (subst Out pc_is out)

pub lands : (env : Environment) (entry before : Option TypeState) (pc n : ℕ) (i : Instruction) (is : List Instruction) (f : MapFrame)
    → Suffix env entry before pc (i ∷ is) → pc ≤ n → map_at env n ≡ Some f → Lands env n f
lands env entry before pc n i [] f s low at =
    let here : i.instr.pc ≡ pc = s.ordered.0 in
    elim (cases_lt i.instr.pc n) [
      | inl later ↦ absurd (no_stray env entry before pc n i [] f s at later refl)
      | inr near ↦ let same : i.instr.pc ≡ n = omega arith in lands_first env entry before pc n i [] f s same at
    ]
lands env entry before pc n i (j ∷ js) f s low at =
    let here : i.instr.pc ≡ pc = s.ordered.0 in
    elim (cases_lt i.instr.pc n) [
      | inl later ↦
          elim (cases_lt n i.instr.next) [
            | inl near ↦ absurd (no_stray env entry before pc n i (j ∷ js) f s at later (lt-ltb n i.instr.next near))
            | inr far ↦ lands env None (behind env i (standing env i.instr.pc before)) i.instr.next n j js f (next_suffix env entry before pc i (j ∷ js) s) far at
          ]
      | inr near ↦ let same : i.instr.pc ≡ n = omega arith in lands_first env entry before pc n i (j ∷ js) f s same at
    ]

-- ---- where a state leads

-- whoever fits a frame of the map leads to it
abbrev pub Arrives : Environment → Type 0
Arrives env = (s : TypeState) (n : ℕ) (f : MapFrame) → map_at env n ≡ Some f → fits_frame env s f ≡ true → Leads env s n

pub arrives : (env : Environment) → Each (KeepsRules env) (walk env) → ((n : ℕ) (f : MapFrame) → map_at env n ≡ Some f → Lands env n f) → Arrives env
arrives env good land s n f at fine =
    let to = land n f at in
    let rules = each_found (KeepsRules env) (stands_at n) (walk env) to.place good to.there in
    let Fits : Option TypeState → Type 0 = λ o. option_map_or (fits env.world s) o true ≡ true in
    record {
      place = to.place;
      there = to.there;
      state = rules.state;
      has = rules.has;
      keeps = fits_kept env.world s rules.state (subst Fits (sym to.state ∙ rules.has) fine);
    }

-- a state that goes on to an instruction without a frame of the map is that before it
falls : (env : Environment) (entry before : Option TypeState) (pc : ℕ) (i : Instruction) (is : List Instruction) (s : TypeState)
    → Suffix env entry before pc (i ∷ is) → before ≡ Some s → map_at env pc ≡ None → Leads env s pc
falls env entry before pc i is s suffix e none =
    let here : i.instr.pc ≡ pc = suffix.ordered.0 in
    let State : Option MapFrame → Option TypeState = λ o. option_map_or (λ (g : MapFrame). g.state) o before in
    record {
      place = head_of env entry before i is;
      there = found_first env entry before pc pc i is suffix here;
      state = s;
      has = ap (λ m. State (map_at env m)) here ∙ ap State none ∙ e;
      keeps = λ c h. h;
    }

-- ---- an instruction that keeps to the rules is fine

chosen : (b one other : Bool) → (false || cond b one other) ≡ true → b ≡ true → one ≡ true
chosen true one other e is = e
chosen false one other e is = absurd cc

never : (b : Bool) → (b && true) ≡ false → b ≡ true → ⊥
never true e is = cc
never false e is = cc

implied : (a b : Bool) → (not a || b) ≡ true → a ≡ true → b ≡ true
implied true b e is = e
implied false b e is = absurd cc

goes_on_to : (env : Environment) (entry before : Option TypeState) (pc : ℕ) (i : Instruction) (is : List Instruction)
    → Arrives env → (s : Suffix env entry before pc (i ∷ is)) → row_goes_on (row_of i) ≡ true → Leads env s.good.0.after i.instr.next
goes_on_to env entry before pc i [] arrive s on = absurd (never (row_goes_on (row_of i)) s.good.0.ended on)
goes_on_to env entry before pc i (j ∷ js) arrive s on =
    let rules = s.good.0 in
    let frames = and_true (list_all (fits_target env rules.after) (targets_of_row (row_of i))) (fits_next env (row_of i) i.instr.next rules.after) rules.frames in
    let G = Leads env rules.after i.instr.next in
    let Fits : Option MapFrame → Type 0 = λ o. option_map_or (fits_frame env rules.after) o true ≡ true in
    let fits_there = chosen (row_goes_on (row_of i)) (option_map_or (fits_frame env rules.after) (map_at env i.instr.next) true) (is_some (map_at env i.instr.next)) frames.1 on in
    let After : Option TypeState → Option TypeState = λ o. behind env i o in
    let result : behind env i (standing env i.instr.pc before) ≡ Some rules.after =
    ap After rules.has ∙ ap (λ b. cond b (result_ok (state_after env i rules.state)) None) on ∙ ap (λ r. result_ok r) rules.is in
    option_case G (map_at env i.instr.next)
    (λ f at. arrive rules.after i.instr.next f at (subst Fits at fits_there))
    (λ none. falls env None (behind env i (standing env i.instr.pc before)) i.instr.next j js rules.after (next_suffix env entry before pc i (j ∷ js) s) result none)

leads_to : (env : Environment) (s : TypeState) (target : ℤ) → Arrives env → is_target env target ≡ true → fits_target env s target ≡ true → LeadsTo env s target
leads_to env s target arrive there fine =
    let pc = option_true (λ (n : ℕ). is_some (instruction_at env n) && is_some (map_at env n)) (pc_of target) there in
    let both = and_true (is_some (instruction_at env pc.0)) (is_some (map_at env pc.0)) pc.2 in
    let f = some_is_some (map_at env pc.0) both.1 in
    let Fits : Option MapFrame → Type 0 = λ o. option_map_or (fits_frame env s) o true ≡ true in
    let At : Option ℕ → Type 0 = λ o. Fits (option_and_then (map_at env) o) in
    record { pc = pc.0; is = pc.1; leads = arrive s pc.0 f.0 f.1 (subst Fits f.1 (subst At pc.1 fine)) }

handled : (env : Environment) (pc : ℕ) (s : TypeState) (k : ℕ) (h : Handler) → Arrives env → are_satisfied env pc s ≡ true
    → slice_get env.handlers k ≡ Some h → covers pc h ≡ true → Leads env (caught env.world h s) h.row.handler
handled env pc s k h arrive all e covered =
    let fine = implied (covers pc h) (is_satisfied env s h) (at_all (λ h. not (covers pc h) || is_satisfied env s h) env.handlers k h all e) covered in
    let both = and_true (assignable env.world (caught_type env.world h.catch) (throwable_type env.world)) (option_map_or (fits_frame env (caught env.world h s)) (map_at env h.row.handler) false) fine in
    let f = option_true (fits_frame env (caught env.world h s)) (map_at env h.row.handler) both.1 in
    arrive (caught env.world h s) h.row.handler f.0 f.1 f.2

fine : (env : Environment) (entry before : Option TypeState) (pc : ℕ) (i : Instruction) (is : List Instruction)
    → Arrives env → (s : Suffix env entry before pc (i ∷ is)) → IsFine env i s.good.0.state
fine env entry before pc i is arrive s =
    let rules = s.good.0 in
    let p = head_of env entry before i is in
    let frames = and_true (list_all (fits_target env rules.after) (targets_of_row (row_of i))) (p.is_last || fits_next env (row_of i) i.instr.next rules.after) rules.frames in
    record {
      after = rules.after;
      is = rules.is;
      on = goes_on_to env entry before pc i is arrive s;
      to = λ target among. leads_to env rules.after target arrive
          (among_all (is_target env) (targets_of_row (row_of i)) target rules.targets among)
          (among_all (fits_target env rules.after) (targets_of_row (row_of i)) target frames.0 among);
      before_shallow = leb-true (length rules.state.types.stack) env.max_stack rules.before_shallow;
      after_shallow = leb-true (length rules.after.types.stack) env.max_stack rules.after_shallow;
      locals = leb-true (length rules.state.types.locals) env.max_locals rules.locals;
      handled = λ k h e covered. handled env i.instr.pc rules.state k h arrive rules.handlers e covered;
      returned = rules.returned;
      finished = rules.finished;
    }

-- ---- a method

abbrev pub IsPlacedWell : Environment → Placed → Type 0
IsPlacedWell env p = (s : TypeState) × (p.state ≡ Some s) × IsFine env p.instruction s

all_fine : (env : Environment) (entry before : Option TypeState) (pc : ℕ) (is : List Instruction) → Arrives env
    → Suffix env entry before pc is → Each (IsPlacedWell env) (placed env entry before is)
all_fine env entry before pc [] arrive s = tt
all_fine env entry before pc (i ∷ is) arrive s = (
  (s.good.0.state, s.good.0.has, fine env entry before pc i is arrive s),
  all_fine env None (behind env i (standing env i.instr.pc before)) i.instr.next is arrive (next_suffix env entry before pc i is s),
)

-- the walk from the first instruction on
whole : (env : Environment) (code : IsLinkedCode env) → Each (KeepsRules env) (walk env) → Suffix env (Some env.first) (Some env.first) 0 (code.first ∷ code.rest)
whole env code good =
    let Walk : List Instruction → List Placed = λ is. placed env (Some env.first) (Some env.first) is in
    let Ordered : List Instruction → Type 0 = λ is. InOrder 0 is in
    let Good : List Instruction → Type 0 = λ is. Each (KeepsRules env) (Walk is) in
    record {
      ordered = subst Ordered code.parts code.ordered;
      good = subst Good code.parts good;
      same = λ n low. ap (λ is. find (stands_at n) (Walk is)) code.parts;
    }

starts : (env : Environment) (i : Instruction) (is : List Instruction) → Arrives env
    → Suffix env (Some env.first) (Some env.first) 0 (i ∷ is) → Leads env env.first 0
starts env i is arrive s =
    let Fits : Option MapFrame → Type 0 = λ o. option_map_or (fits_frame env env.first) o true ≡ true in
    let At : ℕ → Type 0 = λ n. Fits (map_at env n) in
    let here : Fits (map_at env 0) = subst At s.ordered.0 s.good.0.entry in
    option_case (Leads env env.first 0) (map_at env 0)
    (λ f at. arrive env.first 0 f at (subst Fits at here))
    (λ none. falls env (Some env.first) (Some env.first) 0 i is env.first s refl none)

pub accepted_typed : (env : Environment) → IsLinkedCode env → IsAccepted env → IsTypedMethod env
accepted_typed env code accepted =
    let s = whole env code accepted.each in
    let land : (n : ℕ) (f : MapFrame) → map_at env n ≡ Some f → Lands env n f = λ n f at.
    let low : 0 ≤ n = omega arith in
    lands env (Some env.first) (Some env.first) 0 n code.first code.rest f s low at in
    let arrive = arrives env accepted.each land in
    let Good : List Instruction → Type 0 = λ is. Each (IsPlacedWell env) (placed env (Some env.first) (Some env.first) is) in
    let each = subst Good (sym code.parts) (all_fine env (Some env.first) (Some env.first) 0 (code.first ∷ code.rest) arrive s) in
    record {
      start = starts env code.first code.rest arrive s;
      each = λ pc place there. each_found (IsPlacedWell env) (stands_at pc) (walk env) place each there;
    }

-- a method without a fault is accepted
pub faultless_accepted : (env : Environment) → IsLinkedCode env → AllNone (method_faults env) → IsAccepted env
faultless_accepted env code none =
    let Reached : List Instruction → Type 0 = λ is. IsReached env (Some env.first) is in
    let reached : IsReached env (Some env.first) (code.first ∷ code.rest) = λ e. absurd cc in
    record {
      mapped = passed env.is_mapped (pc_fault 0 whys.Map) none.0;
      each = walked env (Some env.first) (Some env.first) 0 env.instructions code.ordered (subst Reached (sym code.parts) reached)
          (each_flat (λ x. x ≡ None) (placed_faults env) (walk env) none.1);
    }

pub world_accepted : (w : World) → AreDecoded w → IsWellTyped w → AreAccepted w
world_accepted w decoded typed = λ n env is. faultless_accepted env (are_linked w decoded n env is) (none_in_method w n env typed is)

pub world_typed : (w : World) → AreDecoded w → IsWellTyped w → AreTyped w
world_typed w decoded typed = λ n env is. accepted_typed env (are_linked w decoded n env is) (world_accepted w decoded typed n env is)
