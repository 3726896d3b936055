-- The instruction of a frame, as the machine and as the typing find it.
use Rattle.std.proofs.Common.{◌≡◌, ℕ, Bool, true, false, cond, List, [], ◌∷◌, Option, Some, None, refl, ap, sym, subst, ◌∙◌}
use Rattle.std.specs.Prelude.{find, get_or, slice_get, ◌==◌}
use Rattle.items.specs.Options.{◌>>=◌}
use Rattle.items.proofs.Binds.{some_is, bind_is}
use Rattle.link_model.specs.declared.members.MethodInfo.{MethodInfo}
use Rattle.link_model.specs.declared.members.MethodCode.{MethodCode}
use Rattle.link_model.specs.World.{World}
use Rattle.link_model.specs.Decoded.{code_at}
use Rattle.verify_types.specs.TypeStates.{TypeState}
use Rattle.verify_types.specs.Environment.{Instruction, Environment, environment_of, environment}
use Rattle.verify_types.specs.Walk.{Placed, placed, standing, behind, is_end}
use Rattle.verify_types.specs.Typing.{IsFine, IsTypedMethod, AreTyped}
use Rattle.state_model.specs.Frames.{Frame}
use Rattle.ref_model.specs.Fetch.{instruction_in, fetched}
use Rattle.frame_soundness.specs.Typed.{IsAt}

-- ---- a method's environment

pub record Parts (w : World) (n : ℕ) (env : Environment) : Type 0 where
  pub info : MethodInfo
  pub info_is : slice_get w.methods n ≡ Some info
  pub code : MethodCode
  pub code_is : code_at w n ≡ Some code
  pub is : environment_of w info code (get_or w.resolutions n []) (get_or w.catches n []) ≡ env

pub parts : (w : World) (n : ℕ) (env : Environment) → environment w n ≡ Some env → Parts w n env
parts w n env e =
    let m = some_is (slice_get w.methods n)
    (λ m. code_at w n >>= λ code. Some (environment_of w m code (get_or w.resolutions n []) (get_or w.catches n []))) env e in
    let c = some_is (code_at w n) (λ code. Some (environment_of w m.0 code (get_or w.resolutions n []) (get_or w.catches n []))) env m.2 in
    record { info = m.0; info_is = m.1; code = c.0; code_is = c.1; is = inside _ env c.2 }
  where
    inside : (a b : Environment) → ◌≡◌ {A = Option Environment} (Some a) (Some b) → a ≡ b
    inside a b same = cc

-- ---- the instruction at a pc

found_by : (b : Bool) (x p : Placed) (i : Instruction) (below : Option Placed) (others : Option Instruction) → x.instruction ≡ i
    → cond b (Some x) below ≡ Some p → (below ≡ Some p → others ≡ Some p.instruction) → cond b (Some i) others ≡ Some p.instruction
found_by true x p i below others same e rest =
    let is : x ≡ p = cc in ap Some (sym same ∙ ap (λ (q : Placed). q.instruction) is)
found_by false x p i below others same e rest = rest e

placed_found : (env : Environment) (entry before : Option TypeState) (pc : ℕ) (is : List Instruction) (p : Placed)
    → find (λ (q : Placed). q.instruction.instr.pc == pc) (placed env entry before is) ≡ Some p
    → find (λ (i : Instruction). i.instr.pc == pc) is ≡ Some p.instruction
placed_found env entry before pc [] p e = absurd cc
placed_found env entry before pc (i ∷ is) p e =
    let here = standing env i.instr.pc before in
    found_by (i.instr.pc == pc) (record { instruction = i; state = here; entry = entry; is_last = is_end is }) p i
    (find (λ (q : Placed). q.instruction.instr.pc == pc) (placed env None (behind env i here) is))
    (find (λ (j : Instruction). j.instr.pc == pc) is) refl e
    (placed_found env None (behind env i here) pc is p)

-- the machine fetches the instruction that the typing has at the frame's pc
pub fetched_is : (w : World) (f : Frame) (at : IsAt w f) → fetched w f ≡ Some at.place.instruction
fetched_is w f at =
    let p = parts w f.method at.env at.method in
    let found = placed_found at.env (Some at.env.first) (Some at.env.first) f.pc at.env.instructions at.place at.there in
    let here : instruction_in w f.method f.pc p.code ≡ Some at.place.instruction =
    ap (λ (env : Environment). find (λ (i : Instruction). i.instr.pc == f.pc) env.instructions) p.is ∙ found in
    bind_is (code_at w f.method) (instruction_in w f.method f.pc) p.code (Some at.place.instruction) p.code_is here

-- ---- the instruction keeps to the rules

pub typed_method : (w : World) (f : Frame) → AreTyped w → (at : IsAt w f) → IsTypedMethod at.env
typed_method w f typed at = typed f.method at.env at.method

pub fine : (w : World) (f : Frame) → AreTyped w → (at : IsAt w f) → IsFine at.env at.place.instruction at.state
fine w f typed at =
    let each = (typed_method w f typed at).each f.pc at.place at.there in
    let same : each.0 ≡ at.state = inside at.place.state each.0 at.state each.1 at.has in
    subst (λ (s : TypeState). IsFine at.env at.place.instruction s) same each.2
  where
    inside : (o : Option TypeState) (a b : TypeState) → o ≡ Some a → o ≡ Some b → a ≡ b
    inside o a b x y = cc
