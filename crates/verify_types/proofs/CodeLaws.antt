-- The instructions of a linked method follow one another.
use Rattle.std.proofs.Common.{◌≡◌, ℕ, ◌<◌, List, [], ◌∷◌, length, Option, Some, None, refl, ap, sym, ◌∙◌, subst, arith}
use Rattle.std.proofs.lemmas.List.{length-append}
use Rattle.std.specs.Prelude.{get_or, drop, slice_get}
use Rattle.std.specs.Option.{option_and_then}
use Rattle.opcodes.specs.declared.op.Instr.{Instr}
use Rattle.opcodes.specs.Code.{BeginsWith, BeginsWithAll, IsCode}
use Rattle.opcodes.proofs.CodeLaws.{some_bytes}
use Rattle.instruction_rows.proofs.Steps.{some_is}
use Rattle.link_model.specs.declared.members.MethodInfo.{MethodInfo}
use Rattle.link_model.specs.declared.members.MethodCode.{MethodCode}
use Rattle.link_model.specs.declared.sites.Resolution.{Resolution}
use Rattle.link_model.specs.declared.sites.Site.TheVariants.{Plain}
use Rattle.link_model.specs.World.{World}
use Rattle.link_model.specs.Decoded.{code_at, AreDecoded}
use Rattle.verify_types.specs.Environment.{Instruction, Environment, with_resolutions, environment_of, environment}

-- the instructions follow one another, the first at this pc
abbrev pub InOrder : ℕ → List Instruction → Type 0
InOrder pc [] = Unit {0}
InOrder pc (i ∷ is) = (i.instr.pc ≡ pc) × (pc < i.instr.next) × InOrder i.instr.next is

-- there is an instruction, and they are in order
pub record IsLinkedCode (env : Environment) : Type 0 where
  pub first : Instruction
  pub rest : List Instruction
  pub parts : env.instructions ≡ first ∷ rest
  pub ordered : InOrder 0 env.instructions

rises : (pc : ℕ) (code : List ℕ) (i : Instr) (rest : List ℕ) → BeginsWith pc code i rest → pc < i.next
rises pc code i rest b = omega (arith, some_bytes pc code i rest b, ap length b.parts ∙ length-append b.bytes rest, b.next)

in_order : (pc : ℕ) (code : List ℕ) (is : List Instr) (ns : List Resolution) → BeginsWithAll pc code is [] → InOrder pc (with_resolutions is ns)
in_order pc code [] ns b = tt
in_order pc code (i ∷ is) ns b = (b.1.here, rises pc code i b.0 b.1, in_order i.next b.0 is (drop 1 ns) b.2)

pub linked_code : (w : World) (m : MethodInfo) (code : MethodCode) (ns : List Resolution) (cs : List (Option ℕ)) (is : List Instr) → is ≡ code.code
    → (bytes : List ℕ) → IsCode bytes is → 0 < length bytes → IsLinkedCode (environment_of w m code ns cs)
linked_code w m code ns cs [] e bytes b some = let none : length bytes ≡ 0 = ap length b in absurd (omega arith)
linked_code w m code ns cs (i ∷ is) e bytes b some =
    let Ordered : List Instr → Type 0 = λ js. InOrder 0 (with_resolutions js ns) in
    record {
      first = record { instr = i; resolution = get_or ns 0 (record { site = Plain; class = None; failure = None }) };
      rest = with_resolutions is (drop 1 ns);
      parts = ap (λ js. with_resolutions js ns) (sym e);
      ordered = subst Ordered e (in_order 0 bytes (i ∷ is) ns b);
    }

pub are_linked : (w : World) → AreDecoded w → (n : ℕ) (env : Environment) → environment w n ≡ Some env → IsLinkedCode env
are_linked w decoded n env is =
    let m = some_is (slice_get w.methods n) _ env is in
    let code = some_is (code_at w n) _ env m.2 in
    let bytes = decoded n code.0 code.1 in
    let made : environment_of w m.0 code.0 (get_or w.resolutions n []) (get_or w.catches n []) ≡ env = cc in
    subst IsLinkedCode made (linked_code w m.0 code.0 (get_or w.resolutions n []) (get_or w.catches n []) code.0.code refl bytes.bytes bytes.is_code bytes.some)
