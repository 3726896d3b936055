-- The local variables of a frame of the map are assignable to themselves.
use Rattle.std.proofs.Common.{◌≡◌, ℕ, zero, suc, ◌-◌, Bool, true, false, cond, eqb, List, [], ◌∷◌, ◌++◌, length, Option, Some, None, Result, Ok, Err, refl, ap, ◌∙◌}
use Rattle.std.specs.Prelude.{◌&&◌, ◌||◌, find, map, nat_le, nat_lt, replicate, slice_get, IfSome}
use Rattle.std.specs.Option.{option_map, option_and_then}
use Rattle.std.proofs.lemmas.Bool.{eq-eqb}
use Rattle.items.specs.Options.{◌>>=◌}
use Rattle.class_model.specs.declared.class_file.ClassFile.{ClassFile}
use Rattle.class_grammar.specs.Pool.{class_name_at}
use Rattle.stack_maps.specs.declared.error.MapWhy.{MapWhy}
use Rattle.stack_maps.specs.declared.types.Base.{Base}
use Rattle.stack_maps.specs.declared.types.Base.TheVariants as bases
use Rattle.stack_maps.specs.declared.types.FrameTypes.{FrameTypes}
use Rattle.stack_maps.specs.declared.types.VType.{VType}
use Rattle.stack_maps.specs.declared.types.VType.TheVariants as types
use Rattle.stack_maps.specs.Expansion.{expansion}
use Rattle.instruction_rows.specs.Contents.{is_wide, slot_types, types_of}
use Rattle.link_rules.specs.Constants.{dimensions_of, last_element}
use Rattle.link_rules.specs.Hierarchy.{is_below}
use Rattle.link_rules.specs.Program.{is_array_name, is_interface}
use Rattle.link_model.specs.declared.members.MethodCode.{MethodCode}
use Rattle.link_model.specs.declared.members.MethodInfo.{MethodInfo}
use Rattle.link_model.specs.declared.sites.Resolution.{Resolution}
use Rattle.link_model.specs.Pools.{type_in}
use Rattle.link_model.specs.World.{World, array_named, array_of, base_of, class_count, name_number, named_type}
use Rattle.verify_types.specs.Assignability.{assignable, base_assignable, is_array_super, is_object}
use Rattle.verify_types.specs.ClassTypes.{resolve}
use Rattle.verify_types.specs.Environment.{MapFrame, all_resolved, environment_of, first_frame, map_at, map_frame, map_frames, state_of}
use Rattle.verify_types.specs.TypeStates.{TypeState, all_assignable}
use Rattle.verify_frames.proofs.PathFitLaws.{fit_parts}

abbrev Itself : World → VType → Type 0
Itself w t = assignable w t t ≡ true

-- ---- one type

class_itself : (a : ℕ) (b c d : Bool) → (b || (eqb a a || c || d)) ≡ true
class_itself a true c d = refl
class_itself a false c d = ap (λ t. t || c || d) (eq-eqb a a refl)

base_itself : (w : World) (b : Base) → base_assignable w b b ≡ true
base_itself w (bases.Class a) = class_itself a (is_interface w.program a) (is_below w.program a a) (nat_le (class_count w) a && is_object w a)
base_itself w bases.Bool = refl
base_itself w bases.Byte = refl
base_itself w bases.Char = refl
base_itself w bases.Short = refl
base_itself w bases.Int = refl
base_itself w bases.Long = refl
base_itself w bases.Float = refl
base_itself w bases.Double = refl

named_itself : (w : World) (n : ℕ) (b : Base) → Itself w (types.Named n b)
named_itself w n b = ap (λ t. cond t (base_assignable w b b) (nat_lt n n && is_array_super w b)) (eq-eqb n n refl) ∙ base_itself w b

either : {A : Type 0} (P : A → Type 0) (b : Bool) (o p : Option A) → IfSome o P → IfSome p P → IfSome (cond b o p) P
either P true o p h k = h
either P false o p h k = k

array_itself : (w : World) (n : ℕ) (o : Option Base) → IfSome (option_and_then (array_of n) o) (Itself w)
array_itself w n None = tt
array_itself w n (Some b) = either (Itself w) (nat_le n 255) (Some (types.Named n b)) None (named_itself w n b) tt

numbered_itself : (w : World) (o : Option ℕ) → IfSome (option_map (λ n. types.Named 0 (bases.Class n)) o) (Itself w)
numbered_itself w None = tt
numbered_itself w (Some n) = named_itself w 0 (bases.Class n)

name_itself : (w : World) (o : Option (List ℕ)) → IfSome (option_and_then (named_type w) o) (Itself w)
name_itself w None = tt
name_itself w (Some name) = either (Itself w) (is_array_name name) (array_named w name) (option_map (λ n. types.Named 0 (bases.Class n)) (name_number w name)) (array_itself w (dimensions_of name) (base_of w (last_element name))) (numbered_itself w (name_number w name))

constant_itself : (w : World) (index : ℕ) (o : Option ClassFile) → IfSome (option_and_then (type_in w index) o) (Itself w)
constant_itself w index None = tt
constant_itself w index (Some f) = name_itself w (class_name_at f.pool index)

resolved_itself : (w : World) (class : ℕ) (t : VType) → IfSome (resolve w class t) (Itself w)
resolved_itself w class types.Top = refl
resolved_itself w class types.Int = refl
resolved_itself w class types.Float = refl
resolved_itself w class types.Double = refl
resolved_itself w class types.Long = refl
resolved_itself w class types.Null = refl
resolved_itself w class types.UninitThis = refl
resolved_itself w class (types.Object index) = constant_itself w index (slice_get w.program.classes class)
resolved_itself w class (types.Uninit pc) = eq-eqb pc pc refl
resolved_itself w class (types.Named n b) = named_itself w n b

-- ---- slots

abbrev AllThemselves : World → List VType → Type 0
AllThemselves w ts = all_assignable w ts ts ≡ true

joined : (w : World) (xs ys : List VType) → AllThemselves w xs → AllThemselves w ys → AllThemselves w (xs ++ ys)
joined w xs ys h k = fit_parts w xs ys xs ys refl ∙ ap (λ a. a && all_assignable w ys ys) h ∙ k

one_type : (w : World) (t : VType) → Itself w t → AllThemselves w (types_of t)
one_type w t h = of_width (is_wide t)
  where
    one : AllThemselves w (t ∷ [])
    one = ap (λ b. b && true) h

    of_width : (b : Bool) → AllThemselves w (cond b (t ∷ types.Top ∷ []) (t ∷ []))
    of_width true = joined w (t ∷ []) (types.Top ∷ []) one refl
    of_width false = one

tops : (w : World) (n : ℕ) → AllThemselves w (replicate n types.Top)
tops w zero = refl
tops w (suc n) = tops w n

all_types : (w : World) (class : ℕ) (ts : List VType) → IfSome (all_resolved w class ts) (λ us. AllThemselves w (slot_types us))
all_types w class [] = refl
all_types w class (t ∷ ts) = both (resolve w class t) (all_resolved w class ts) (resolved_itself w class t) (all_types w class ts)
  where
    both : (o : Option VType) (p : Option (List VType)) → IfSome o (Itself w) → IfSome p (λ us. AllThemselves w (slot_types us))
        → IfSome (o >>= λ u. p >>= λ us. Some (u ∷ us)) (λ us. AllThemselves w (slot_types us))
    both None p h k = tt
    both (Some u) None h k = tt
    both (Some u) (Some us) h k = joined w (types_of u) (slot_types us) (one_type w u h) k

-- ---- frames

abbrev pub LocalsThemselves : World → MapFrame → Type 0
LocalsThemselves w f = IfSome f.state (λ (t : TypeState). AllThemselves w t.types.locals)

frame_itself : (w : World) (m : MethodInfo) (max : ℕ) (f : ℕ × FrameTypes) → LocalsThemselves w (map_frame w m max f)
frame_itself w m max f = both (all_resolved w m.class f.1.locals) (all_resolved w m.class f.1.stack) (all_types w m.class f.1.locals)
  where
    both : (o p : Option (List VType)) → IfSome o (λ us. AllThemselves w (slot_types us))
        → IfSome (option_map (state_of m max) (o >>= λ ls. p >>= λ ss. Some (record { locals = ls; stack = ss }))) (λ (t : TypeState). AllThemselves w t.types.locals)
    both None p h = tt
    both (Some ls) None h = tt
    both (Some ls) (Some ss) h = joined w (slot_types ls) (replicate (max - length (slot_types ls)) types.Top) h (tops w (max - length (slot_types ls)))

frames_themselves : (w : World) (m : MethodInfo) (max : ℕ) (p : MapFrame → Bool) (fs : List (ℕ × FrameTypes)) → IfSome (find p (map (map_frame w m max) fs)) (LocalsThemselves w)
frames_themselves w m max p [] = tt
frames_themselves w m max p (f ∷ fs) = either (LocalsThemselves w) (p (map_frame w m max f)) (Some (map_frame w m max f)) _ (frame_itself w m max f) (frames_themselves w m max p fs)

expanded : (w : World) (m : MethodInfo) (max : ℕ) (p : MapFrame → Bool) (r : Result (List (ℕ × FrameTypes)) (ℕ × MapWhy)) → IfSome (find p (map_frames w m max r)) (LocalsThemselves w)
expanded w m max p (Ok fs) = frames_themselves w m max p fs
expanded w m max p (Err why) = tt

pub map_itself : (w : World) (m : MethodInfo) (code : MethodCode) (ns : List Resolution) (cs : List (Option ℕ)) (pc : ℕ) → IfSome (map_at (environment_of w m code ns cs) pc) (LocalsThemselves w)
map_itself w m code ns cs pc = expanded w m code.max_locals (λ (f : MapFrame). eqb f.pc pc) (expansion (first_frame w m) code.map)
