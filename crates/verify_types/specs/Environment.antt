-- A method with code as the typing sees it (JVMS 4.10.1.6: the environment): its instructions with what their constants mean, its
-- exception handlers, the state in which it begins, and the frames of its stack map.
use Rattle.std.specs.Prelude.{ℕ, Bool, List, [], ◌∷◌, ◌++◌, Option, Some, None, Result, Ok, Err, codes, drop, find, get_or, is_ok, map, reverse, slice_get, ◌==◌, ◌&&◌, if◌then◌else◌}
use Rattle.std.specs.Option.{option_map}
use Rattle.std.specs.List.{list_any}
use Rattle.class_model.specs.declared.access_flags.TheConstants.{ACC_STATIC}
use Rattle.class_model.specs.declared.attribute.Row.{Row}
use Rattle.class_grammar.specs.Text.{same_text}
use Rattle.opcodes.specs.declared.op.Instr.{Instr}
use Rattle.stack_maps.specs.declared.types.VType.{VType}
use Rattle.stack_maps.specs.declared.types.VType.TheVariants as types
use Rattle.stack_maps.specs.declared.types.FrameTypes.{FrameTypes}
use Rattle.stack_maps.specs.declared.error.MapWhy.{MapWhy}
use Rattle.stack_maps.specs.Expansion.{expansion}
use Rattle.items.specs.Options.{◌>>=◌}
use Rattle.instruction_rows.specs.Contents.{slot_types}
use Rattle.link_rules.specs.Program.{has_flag}
use Rattle.link_model.specs.declared.members.MethodInfo.{MethodInfo}
use Rattle.link_model.specs.declared.members.MethodCode.{MethodCode}
use Rattle.link_model.specs.declared.sites.Resolution.{Resolution}
use Rattle.link_model.specs.declared.sites.Site.TheVariants.{Plain}
use Rattle.link_model.specs.World.{World, class_type}
use Rattle.link_model.specs.Decoded.{code_at}
use Rattle.verify_types.specs.ClassTypes.{resolve, type_of_kind}
use Rattle.verify_types.specs.Assignability.{is_object}
use Rattle.verify_types.specs.TypeStates.{TypeState, is_this, padded}

-- an instruction, and what its constant means
pub record Instruction : Type 0 where
  pub instr : Instr
  pub resolution : Resolution

-- a row of the exception table, and the number of the class that it catches, None for every throwable
pub record Handler : Type 0 where
  pub row : Row
  pub catch : Option ℕ

-- a frame of the stack map; its state is None where it names a constant that is no class
pub record MapFrame : Type 0 where
  pub pc : ℕ
  pub state : Option TypeState

pub record Environment : Type 0 where
  pub world : World
  pub method : MethodInfo
  pub max_stack : ℕ
  pub max_locals : ℕ
  pub instructions : List Instruction
  pub handlers : List Handler
  pub first : TypeState
  -- whether the bytes of the stack map are a map; if not it counts as without frames
  pub is_mapped : Bool
  pub map : List MapFrame

-- ---- the first state (JVMS 4.10.1.6: methodInitialStackFrame)

abbrev pub is_constructor : MethodInfo → Bool
is_constructor m = same_text m.name (codes "<init>")

-- the receiver of a method of instances: in a constructor it isn't initialized, but for that of Object
abbrev pub receiver_type : World → MethodInfo → VType
receiver_type w m =
    if is_constructor m then (if is_object w m.class then class_type w m.class else types.UninitThis)
    else class_type w m.class

abbrev pub receiver_types : World → MethodInfo → List VType
receiver_types w m = if has_flag ACC_STATIC m.flags then [] else receiver_type w m ∷ []

-- the receiver and the arguments, one type each, as a stack map counts them
abbrev pub first_frame : World → MethodInfo → FrameTypes
first_frame w m = record { locals = receiver_types w m ++ map (type_of_kind w) m.signature.args; stack = [] }

-- ---- frames of the map

-- In a constructor the flag is set where a local variable is the object that isn't initialized.
abbrev pub has_uninit_this : MethodInfo → List VType → Bool
has_uninit_this m locals = is_constructor m && list_any is_this locals

-- the state that the types of a frame mean
abbrev pub state_of : MethodInfo → ℕ → FrameTypes → TypeState
state_of m max_locals f = record {
  types = record { locals = padded max_locals (slot_types f.locals); stack = reverse (slot_types f.stack) };
  this_uninit = has_uninit_this m f.locals;
}

-- all types resolved, undefined where one of them isn't
abbrev pub all_resolved : World → ℕ → List VType → Option (List VType)
all_resolved w class [] = Some []
all_resolved w class (t ∷ ts) = resolve w class t >>= λ u. all_resolved w class ts >>= λ us. Some (u ∷ us)

abbrev pub resolved_frame : World → ℕ → FrameTypes → Option FrameTypes
resolved_frame w class f =
    all_resolved w class f.locals >>= λ locals.
    all_resolved w class f.stack >>= λ stack.
    Some (record { locals = locals; stack = stack })

abbrev pub map_frame : World → MethodInfo → ℕ → ℕ × FrameTypes → MapFrame
map_frame w m max_locals f =
    record { pc = f.0; state = option_map (state_of m max_locals) (resolved_frame w m.class f.1) }

abbrev pub map_frames : World → MethodInfo → ℕ → Result (List (ℕ × FrameTypes)) (ℕ × MapWhy) → List MapFrame
map_frames w m max_locals (Ok frames) = map (map_frame w m max_locals) frames
map_frames w m max_locals (Err fault) = []

-- ---- the tables of a method

-- the instructions, each with its entry of the table, or with none where the table is short
abbrev pub with_resolutions : List Instr → List Resolution → List Instruction
with_resolutions [] resolutions = []
with_resolutions (i ∷ is) resolutions =
    record { instr = i; resolution = get_or resolutions 0 (record { site = Plain; class = None; failure = None }) } ∷ with_resolutions is (drop 1 resolutions)

-- the rows of an exception table, each with its entry of the table of classes
abbrev pub with_catches : List Row → List (Option ℕ) → List Handler
with_catches [] catches = []
with_catches (r ∷ rs) catches = record { row = r; catch = get_or catches 0 None } ∷ with_catches rs (drop 1 catches)

abbrev pub environment_of : World → MethodInfo → MethodCode → List Resolution → List (Option ℕ) → Environment
environment_of w m code resolutions catches =
    let expanded = expansion (first_frame w m) code.map in
    record {
      world = w;
      method = m;
      max_stack = code.max_stack;
      max_locals = code.max_locals;
      instructions = with_resolutions code.code resolutions;
      handlers = with_catches code.rows catches;
      first = state_of m code.max_locals (first_frame w m);
      is_mapped = is_ok expanded;
      map = map_frames w m code.max_locals expanded;
    }

-- the method of a number, where it has code
abbrev pub environment : World → ℕ → Option Environment
environment w n =
    slice_get w.methods n >>= λ m.
    code_at w n >>= λ code.
    Some (environment_of w m code (get_or w.resolutions n []) (get_or w.catches n []))

-- ---- what is at a pc

abbrev pub map_at : Environment → ℕ → Option MapFrame
map_at env pc = find (λ (f : MapFrame). f.pc == pc) env.map

abbrev pub instruction_at : Environment → ℕ → Option Instruction
instruction_at env pc = find (λ (i : Instruction). i.instr.pc == pc) env.instructions
