-- The state in which a program begins (JVMS 5.2, 5.5, 2.9.2; the order and the numbers of objects: own).
use Rattle.std.specs.Prelude.{ℕ, ◌+◌, pos, false, List, [], ◌∷◌, ◌++◌, Option, Some, None, codes, filter, filter_map, flat_map, fold, length, map, position, reverse, slice_get, ◌==◌, if◌then◌else◌}
use Rattle.std.specs.Option.{option_map}
use Rattle.std.specs.List.{range_with_len}
use Rattle.items.specs.Options.{◌>>=◌}
use Rattle.items.specs.First.{first_in}
use Rattle.class_model.specs.declared.attribute.Attribute.{Attribute}
use Rattle.class_model.specs.declared.attribute.Body.{Body}
use Rattle.class_model.specs.declared.attribute.Body.TheVariants as bodies
use Rattle.class_model.specs.declared.constant.Const.{Const}
use Rattle.class_model.specs.declared.constant.Const.TheVariants.{Integer, Long, Text}
use Rattle.class_model.specs.declared.class_file.ClassFile.{ClassFile}
use Rattle.class_model.specs.declared.member.Member.{Member}
use Rattle.class_grammar.specs.Pool.{text_at}
use Rattle.class_grammar.specs.Text.{same_text}
use Rattle.descriptors.specs.declared.kind.Kind.{Kind as FieldType}
use Rattle.descriptors.specs.Meaning.{kind_of}
use Rattle.link_rules.specs.declared.place.MemberPlace.{MemberPlace}
use Rattle.link_rules.specs.Program.{Program, own_name}
use Rattle.link_rules.specs.Hierarchy.{is_among, superclasses}
use Rattle.link_rules.specs.Members.{Key, is_static, declared_method, has_method, method_number}
use Rattle.link_rules.specs.Selection.{key_in}
use Rattle.stack_maps.specs.declared.types.Base.TheVariants as bases
use Rattle.instruction_rows.specs.declared.value.Value.{Value}
use Rattle.instruction_rows.specs.declared.value.Value.TheVariants as values
use Rattle.instruction_rows.specs.declared.value.Slot.{Slot}
use Rattle.instruction_rows.specs.declared.value.Slot.TheVariants.{One}
use Rattle.vthread_state.specs.declared.phase.Phase.TheVariants.{Run}
use Rattle.vthread_state.specs.declared.thread.Status.TheVariants.{Live}
use Rattle.vthread_state.specs.declared.thread.ThreadKind.TheVariants.{Platform}
use Rattle.link_model.specs.Strings.{objects_before, strings_of, string_number}
use Rattle.link_model.specs.World.{World, name_number}
use Rattle.link_model.specs.Decoded.{code_at}
use Rattle.state_model.specs.Frames.{Frame}
use Rattle.state_model.specs.Objects.{Object, instance, text}
use Rattle.ref_model.specs.Setting.{Setting}
use Rattle.ref_model.specs.Classes.{array_class}
use Rattle.ref_model.specs.Kinds.{zero_of, kept}
use Rattle.ref_model.specs.Members.{new_values, is_synchronized}
use Rattle.ref_model.specs.State.{JavaThread, Owner, State}
use Rattle.ref_model.specs.Monitors.{class_monitor, with_monitor}
use Rattle.ref_model.specs.Frames.{first_frame}
use Rattle.ref_model.specs.Printing.{out_stream, err_stream}

-- ---- objects, by number: 0 is the OutOfMemoryError, 1 and 2 the streams out and err, 3 main's Thread, 4 to 9 the states of a thread; then
-- come the Strings, first the names of main and of the states, then each String constant once; then the array for main

abbrev pub main_thread : ℕ
main_thread = 3

-- the first state of a thread, and the first of the Strings after main's name
abbrev pub first_state : ℕ
first_state = 4

abbrev pub main_name : ℕ
main_name = objects_before

abbrev pub first_state_name : ℕ
first_state_name = objects_before + 1

-- an object of the class of this name, with first values in its fields
abbrev pub new_of : World → List ℕ → Option Object
new_of w name = name_number w name >>= λ class. Some (instance class (new_values w class))

-- the state at an index: its fields are its name and its ordinal (java.lang.Enum)
abbrev pub thread_state : ℕ → ℕ → Object
thread_state class index = instance class (values.Ref (first_state_name + index) ∷ values.Int (pos index) ∷ [])

abbrev pub thread_states : World → Option (List Object)
thread_states w = name_number w (codes "java/lang/Thread$State") >>= λ class. Some (map (thread_state class) (range_with_len 0 6))

-- String[], which main takes
abbrev pub words_class : World → Option ℕ
words_class w =
    name_number w (codes "java/lang/String") >>= λ class.
    array_class w (record { dimensions = 1; base = bases.Class class })

abbrev pub opening_heap : World → Option (List Object)
opening_heap w = do
  error ← new_of w (codes "java/lang/OutOfMemoryError")
  stream ← new_of w (codes "java/io/PrintStream")
  thread ← new_of w (codes "java/lang/Thread")
  states ← thread_states w
  words ← words_class w
  Some (error ∷ stream ∷ stream ∷ thread ∷ states ++ map text (strings_of w.program) ++ instance words [] ∷ [])

-- the number of the array for main, the last object
abbrev pub main_words : World → ℕ
main_words w = objects_before + length (strings_of w.program)

-- ---- static fields: the streams and the states; else the constant of a ConstantValue attribute (JVMS 4.7.2), as a store keeps it; else zero

abbrev pub state_names : List (List ℕ)
state_names =
    codes "NEW" ∷ codes "RUNNABLE" ∷ codes "BLOCKED" ∷ codes "WAITING" ∷ codes "TIMED_WAITING" ∷ codes "TERMINATED" ∷ []

-- the number of the object with which a field of a built-in class begins
abbrev pub opening_object : List ℕ → List ℕ → Option ℕ
opening_object class name =
    if same_text class (codes "java/lang/System") then stream name
    else if same_text class (codes "java/lang/Thread$State") then option_map (λ index. first_state + index) (state name)
    else None
  where
    stream : List ℕ → Option ℕ
    stream name =
        if same_text name (codes "out") then Some out_stream
        else if same_text name (codes "err") then Some err_stream
        else None

    state : List ℕ → Option ℕ
    state name = position (same_text name) state_names

abbrev pub constant_in : Attribute → Option ℕ
constant_in a = by a.body
  where
    by : Body → Option ℕ
    by (bodies.Constant index) = Some index
    by (bodies.Code body) = None
    by (bodies.Other bytes) = None

abbrev pub constant_value : Program → List Const → Const → Option Value
constant_value p pool (Integer n) = Some (values.Int n)
constant_value p pool (Long n) = Some (values.Long n)
constant_value p pool (Text index) =
    text_at pool index >>= λ units. string_number (strings_of p) units >>= λ n. Some (values.Ref n)
constant_value p pool c = None

-- the value of the ConstantValue attribute
abbrev pub attribute_value : Program → List Const → Member → Option Value
attribute_value p pool m = first_in constant_in m.attributes >>= λ index. slice_get pool index >>= constant_value p pool

abbrev pub constant_or_zero : FieldType → Option Value → Value
constant_or_zero t None = zero_of t
constant_or_zero t (Some v) = kept t v

abbrev pub object_or : Option ℕ → Value → Value
object_or None v = v
object_or (Some o) v = values.Ref o

abbrev pub static_opening : Program → ClassFile → Member → Value
static_opening p f m =
    let key = key_in f.pool m in
    object_or (opening_object (own_name f) key.name)
    (constant_or_zero (kind_of key.descriptor) (attribute_value p f.pool m))

abbrev pub statics_in : Program → ClassFile → List Value
statics_in p f = map (static_opening p f) (filter is_static f.fields)

abbrev pub opening_statics : Program → List Value
opening_statics p = flat_map (statics_in p) p.classes

-- ---- class initializers (JVMS 2.9.2, 5.5): in the order of the classes, each after that of its superclass

abbrev pub with_class : List ℕ → ℕ → List ℕ
with_class order class = if is_among order class then order else order ++ class ∷ []

abbrev pub with_superclasses : Program → List ℕ → ℕ → List ℕ
with_superclasses p order class = fold with_class order (reverse (superclasses p class))

-- the order in which the classes are initialized
abbrev pub class_order : Program → List ℕ
class_order p = fold (with_superclasses p) [] (range_with_len 0 (length p.classes))

abbrev pub initializer_key : Key
initializer_key = record { name = codes "<clinit>"; descriptor = codes "()V" }

-- the number of the initializer of a class
abbrev pub static_at : Program → MemberPlace → Option ℕ
static_at p at = if has_method is_static p at then Some (method_number p at) else None

abbrev pub initializer_of : Program → ℕ → Option ℕ
initializer_of p class = declared_method p initializer_key class >>= static_at p

abbrev pub initializers : Program → List ℕ
initializers p = filter_map (initializer_of p) (class_order p)

-- ---- frames: main's at the bottom, and above it those of the initializers, the first to run on top

abbrev pub frame_of : World → ℕ → List Slot → Option Frame
frame_of w method slots = code_at w method >>= λ code. first_frame method code slots

-- the frames of these methods, undefined where one of them has none
abbrev pub frames_of : World → List ℕ → List Frame → Option (List Frame)
frames_of w [] below = Some below
frames_of w (n ∷ ns) below = frame_of w n [] >>= λ f. frames_of w ns below >>= λ frames. Some (f ∷ frames)

-- the monitor that main holds, where it is synchronized
abbrev pub opening_monitor : Setting → Option ℕ
opening_monitor p =
    slice_get p.world.methods p.main >>= λ m. if is_synchronized m then Some (class_monitor m.class) else None

abbrev pub guarded_by : Option ℕ → Frame → Frame
guarded_by None f = f
guarded_by (Some o) f = with_monitor f o

abbrev pub main_frame : Setting → Option Frame
main_frame p =
    frame_of p.world p.main (One (values.Ref (main_words p.world)) ∷ []) >>= λ f. Some (guarded_by (opening_monitor p) f)

abbrev pub opening_frames : Setting → Option (List Frame)
opening_frames p = main_frame p >>= λ f. frames_of p.world (initializers p.world.program) (f ∷ [])

-- ---- the state

abbrev pub opening_thread : List Frame → JavaThread
opening_thread frames = record {
  thread = record { kind = Platform; daemon = false; object = main_thread; name = main_name; status = Live Run };
  permit = false;
  interrupted = false;
  frames = frames;
}

-- thread 0 owns the monitor that main holds, and every other monitor has no owner
abbrev pub opening_owners : Option ℕ → ℕ → Option Owner
opening_owners None p = None
opening_owners (Some o) p = if p == o then Some (record { thread = 0; count = 1 }) else None

abbrev pub opening : Setting → Option State
opening p = do
  heap ← opening_heap p.world
  frames ← opening_frames p
  Some (record {
    memory = record {
      heap = heap;
      room = p.limits.heap_cells;
      statics = opening_statics p.world.program;
      out = [];
      err = [];
      exited = None;
    };
    threads = opening_thread frames ∷ [];
    most_threads = p.limits.threads;
    unnamed = 0;
    owners = opening_owners (opening_monitor p);
    now = 0;
    main_threw = false;
  })
