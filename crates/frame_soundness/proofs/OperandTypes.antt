-- The types that an instruction takes, the topmost first: those of its operands.
use Rattle.std.proofs.Common.{◌≡◌, ℕ, true, List, [], ◌∷◌, ◌++◌, Option, Some, None, Ok, refl, ap, sym, subst, ◌∙◌}
use Rattle.std.specs.Prelude.{replicate, slice_get, ◌||◌}
use Rattle.std.specs.Option.{option_map_or}
use Rattle.items.specs.Options.{◌>>=◌}
use Rattle.opcodes.specs.declared.op.Element.{Element}
use Rattle.opcodes.specs.declared.op.Element.TheVariants as elements
use Rattle.opcodes.specs.declared.op.ValueKind.{ValueKind}
use Rattle.opcodes.specs.declared.op.ValueKind.TheVariants as kinds
use Rattle.stack_maps.specs.declared.types.VType.{VType}
use Rattle.stack_maps.specs.declared.types.VType.TheVariants as types
use Rattle.instruction_rows.specs.declared.row_why.RowWhy.TheVariants as whys
use Rattle.instruction_rows.specs.Results.{◌then◌}
use Rattle.instruction_rows.specs.Contents.{Contents}
use Rattle.instruction_rows.specs.Kinds.{kind_of_type, kind_of_element}
use Rattle.instruction_rows.specs.Rows.{Row, LocalRow, Event, Invocation, static, dynamic, virtual, special, interface, int, long, local, returns, invoke, event, refused, constant, wide_constant, get_static, put_static, get_field, put_field, new, new_array, new_array_of, new_arrays, array_length, array_load, array_store, check_cast, instance_of, throw, monitor_enter, monitor_exit}
use Rattle.instruction_rows.specs.TypeEffect.{type_popped, types_popped, type_pushed, types_on, typed}
use Rattle.instruction_rows.proofs.Steps.{ok_is, found}
use Rattle.link_model.specs.declared.members.FieldInfo.{FieldInfo}
use Rattle.link_model.specs.declared.sites.Resolution.{Resolution}
use Rattle.link_model.specs.declared.sites.Site.{Site}
use Rattle.link_model.specs.declared.sites.Site.TheVariants as sites
use Rattle.link_model.specs.World.{World, class_type}
use Rattle.verify_types.specs.Assignability.{assignable}
use Rattle.verify_types.specs.ClassTypes.{object_type, throwable_type, type_of_kind, base_of_primitive}
use Rattle.verify_types.specs.TypeStates.{TypeState, with_stack, with_types}
use Rattle.verify_types.specs.Environment.{Instruction, Environment}
use Rattle.verify_types.specs.Operands.{only_if, wanted, is_array, serves, array_popped}
use Rattle.verify_types.specs.Objects.{field_of as typed_field, class_of as typed_class, named_class, may_set_early, set_in, element_type, stored_popped, array_made, object_taken, stack_after, event_state}
use Rattle.verify_types.specs.Calls.{method_of, called}
use Rattle.verify_types.specs.Effects.{returned_from, row_of, row_state, state_after}
use Rattle.ref_model.specs.Kinds.{value_kind}
use Rattle.ref_model.specs.Fetch.{field_of, Named, named_method}
use Rattle.ref_model.specs.Operands.{stored_above, event_takes, argument_kinds, called_takes, invocation_takes, local_takes, row_takes}
use Rattle.frame_soundness.specs.CallLaws.{takes_receiver}
use Rattle.frame_soundness.proofs.Exceptions.{class_kind}
use Rattle.frame_soundness.proofs.ValueLaws.{wanted_is}
use Rattle.frame_soundness.proofs.CallLaws.{called_types}
use Rattle.frame_soundness.proofs.CallerLaws.{invocation_took}
use Rattle.frame_soundness.proofs.NativeKinds.{kind_popped, arguments_popped, popped_join}

-- types of these kinds lie on top
pub record Takes (ks : List ValueKind) (ts : List VType) : Type 0 where
  pub left : List VType
  pub is : types_popped ks ts ≡ Ok left

nothing : (ts : List VType) → Takes [] ts
nothing ts = record { left = ts; is = refl }

-- ---- one type, and more below it

pub one_popped : (k : ValueKind) (ts rest : List VType) (x : VType × List VType) → type_popped k ts ≡ Ok x → x.1 ≡ rest
    → types_popped (k ∷ []) ts ≡ Ok rest
one_popped k ts rest x e same = ap (λ r. r then λ (y : VType × List VType). Ok y.1) e ∙ ap Ok same

one : (k : ValueKind) (ts : List VType) (x : VType × List VType) → type_popped k ts ≡ Ok x → Takes (k ∷ []) ts
one k ts x e = record { left = x.1; is = one_popped k ts x.1 x e refl }

above : (k : ValueKind) (ks : List ValueKind) (ts rest : List VType) → types_popped (k ∷ []) ts ≡ Ok rest → Takes ks rest → Takes (k ∷ ks) ts
above k ks ts rest e more = record { left = more.left; is = popped_join (k ∷ []) ks ts rest more.left e more.is }

wanted_one : (w : World) (t : VType) (k : ValueKind) (ts rest : List VType) → kind_of_type t ≡ Some k → wanted w t ts ≡ Ok rest
    → types_popped (k ∷ []) ts ≡ Ok rest
wanted_one w t k ts rest kind e = let x = wanted_is w t k ts rest kind e in one_popped k ts rest x.0 x.1 x.2

-- a reference of a class or of an array
reference : (w : World) (t : VType) (ts rest : List VType) → kind_of_type t ≡ Some kinds.Reference → wanted w t ts ≡ Ok rest
    → Takes (kinds.Reference ∷ []) ts
reference w t ts rest kind e = record { left = rest; is = wanted_one w t kinds.Reference ts rest kind e }

-- ---- fields

field_found : (w : World) (site : Site) (f : FieldInfo) → typed_field w site ≡ Ok f → (field_of site >>= λ n. slice_get w.fields n) ≡ Some f
field_found w (sites.Field n) f e = found (slice_get w.fields n) f whys.Kind e
field_found w sites.Plain f e = absurd cc
field_found w (sites.Method n) f e = absurd cc
field_found w (sites.Class n) f e = absurd cc
field_found w (sites.Value v) f e = absurd cc

-- a value for the field, above these
stored : (w : World) (resolution : Resolution) (f : FieldInfo) (below : List ValueKind) (ts rest : List VType) → typed_field w resolution.site ≡ Ok f
    → wanted w (type_of_kind w f.kind) ts ≡ Ok rest → Takes below rest → Takes (stored_above below w resolution) ts
stored w resolution f below ts rest at e more =
    let x = kind_popped w f.kind ts rest e in
    let first = one_popped (value_kind f.kind) ts rest x.0 x.1 x.2 in
    subst (λ (o : Option FieldInfo). Takes (option_map_or (λ (g : FieldInfo). value_kind g.kind ∷ below) o below) ts)
    (sym (field_found w resolution.site f at)) (above (value_kind f.kind) below ts rest first more)

object_below : (w : World) (own class : ℕ) (f : FieldInfo) (ts rest : List VType) → set_in w own class f ts ≡ Ok rest
    → Takes (kinds.Reference ∷ []) ts
object_below w own class f ts rest e =
    let x = ok_is (type_popped kinds.Reference ts) (λ (x : VType × List VType).
    only_if (assignable w x.0 (class_type w class) || may_set_early own class f x.0) whys.Kind x.1) rest e in
    one kinds.Reference ts x.0 x.1

field_put : (w : World) (own : ℕ) (resolution : Resolution) (ts rest : List VType)
    → (typed_field w resolution.site then λ f. named_class resolution then λ class. wanted w (type_of_kind w f.kind) ts then λ below.
    set_in w own class f below) ≡ Ok rest → Takes (stored_above (kinds.Reference ∷ []) w resolution) ts
field_put w own resolution ts rest e =
    let f = ok_is (typed_field w resolution.site) (λ (f : FieldInfo). named_class resolution then λ class.
    wanted w (type_of_kind w f.kind) ts then λ below. set_in w own class f below) rest e in
    let c = ok_is (named_class resolution) (λ class. wanted w (type_of_kind w f.0.kind) ts then λ below. set_in w own class f.0 below) rest f.2 in
    let below = ok_is (wanted w (type_of_kind w f.0.kind) ts) (λ below. set_in w own c.0 f.0 below) rest c.2 in
    stored w resolution f.0 (kinds.Reference ∷ []) ts below.0 f.1 below.1 (object_below w own c.0 f.0 below.0 rest below.2)

field_gotten : (w : World) (resolution : Resolution) (ts rest : List VType)
    → (typed_field w resolution.site then λ f. named_class resolution then λ class. wanted w (class_type w class) ts then λ below.
    Ok (type_pushed (type_of_kind w f.kind) below)) ≡ Ok rest → Takes (kinds.Reference ∷ []) ts
field_gotten w resolution ts rest e =
    let f = ok_is (typed_field w resolution.site) (λ (f : FieldInfo). named_class resolution then λ class. wanted w (class_type w class) ts then λ below.
    Ok (type_pushed (type_of_kind w f.kind) below)) rest e in
    let c = ok_is (named_class resolution)
    (λ class. wanted w (class_type w class) ts then λ below. Ok (type_pushed (type_of_kind w f.0.kind) below)) rest f.2 in
    let below = ok_is (wanted w (class_type w c.0) ts) (λ below. Ok (type_pushed (type_of_kind w f.0.kind) below)) rest c.2 in
    reference w (class_type w c.0) ts below.0 (class_kind w c.0) below.1

-- ---- arrays and casts

lengths : (w : World) (resolution : Resolution) (n : ℕ) (ts rest : List VType) → array_made w resolution n ts ≡ Ok rest
    → Takes (replicate n kinds.Int) ts
lengths w resolution n ts rest e =
    let class = ok_is (typed_class resolution.site) (λ class. types_popped (replicate n kinds.Int) ts then λ (below : List VType).
    Ok (class_type w class ∷ below)) rest e in
    let below = ok_is (types_popped (replicate n kinds.Int) ts) (λ (below : List VType). Ok (class_type w class.0 ∷ below)) rest class.2 in
    record { left = below.0; is = below.1 }

array_below : (element : Element) (ts : List VType) (x : VType × List VType) → array_popped element ts ≡ Ok x
    → Takes (kinds.Reference ∷ []) ts
array_below element ts x e =
    let y = ok_is (type_popped kinds.Reference ts) (λ (y : VType × List VType). only_if (serves element y.0) whys.Kind y) x e in
    one kinds.Reference ts y.0 y.1

-- an index, and the array below it
indexed : (element : Element) (g : VType × List VType → List VType) (ts rest : List VType)
    → (type_popped kinds.Int ts then λ x. array_popped element x.1 then λ y. Ok (g y)) ≡ Ok rest → Takes (kinds.Int ∷ kinds.Reference ∷ []) ts
indexed element g ts rest e =
    let x = ok_is (type_popped kinds.Int ts) (λ (x : VType × List VType). array_popped element x.1 then λ y. Ok (g y)) rest e in
    let y = ok_is (array_popped element x.0.1) (λ (y : VType × List VType). Ok (g y)) rest x.2 in
    above kinds.Int (kinds.Reference ∷ []) ts x.0.1 (one_popped kinds.Int ts x.0.1 x.0 x.1 refl) (array_below element x.0.1 y.0 y.1)

stored_element : (w : World) (element : Element) (ts rest : List VType) → stored_popped w element ts ≡ Ok rest
    → types_popped (kind_of_element element ∷ []) ts ≡ Ok rest
stored_element w elements.Reference ts rest e = wanted_one w (object_type w) kinds.Reference ts rest refl e
stored_element w element ts rest e = e

array_stored : (w : World) (element : Element) (ts rest : List VType)
    → (stored_popped w element ts then λ below. type_popped kinds.Int below then λ x. array_popped element x.1 then λ y. Ok y.1) ≡ Ok rest
    → Takes (kind_of_element element ∷ kinds.Int ∷ kinds.Reference ∷ []) ts
array_stored w element ts rest e =
    let below = ok_is (stored_popped w element ts)
    (λ below. type_popped kinds.Int below then λ x. array_popped element x.1 then λ y. Ok y.1) rest e in
    above (kind_of_element element) (kinds.Int ∷ kinds.Reference ∷ []) ts below.0 (stored_element w element ts below.0 below.1)
    (indexed element (λ (y : VType × List VType). y.1) below.0 rest below.2)

object : (w : World) (resolution : Resolution) (ts : List VType) (x : ℕ × List VType) → object_taken w resolution ts ≡ Ok x
    → Takes (kinds.Reference ∷ []) ts
object w resolution ts x e =
    let c = ok_is (typed_class resolution.site) (λ class. wanted w (object_type w) ts then λ (rest : List VType). Ok (class, rest)) x e in
    let below = ok_is (wanted w (object_type w) ts) (λ (rest : List VType). Ok (c.0, rest)) x c.2 in
    reference w (object_type w) ts below.0 refl below.1

-- ---- events

stack_takes : (w : World) (own pc : ℕ) (resolution : Resolution) (e : Event) (ts rest : List VType) → stack_after w own pc resolution e ts ≡ Ok rest
    → Takes (event_takes w resolution e) ts
stack_takes w own pc resolution (get_static index) ts rest e = nothing ts
stack_takes w own pc resolution (put_static index) ts rest e =
    let f = ok_is (typed_field w resolution.site) (λ (f : FieldInfo). wanted w (type_of_kind w f.kind) ts) rest e in
    stored w resolution f.0 [] ts rest f.1 f.2 (nothing rest)
stack_takes w own pc resolution (get_field index) ts rest e = field_gotten w resolution ts rest e
stack_takes w own pc resolution (put_field index) ts rest e = field_put w own resolution ts rest e
stack_takes w own pc resolution (new index) ts rest e = nothing ts
stack_takes w own pc resolution (new_array primitive) ts rest e =
    let x = ok_is (type_popped kinds.Int ts) (λ (x : VType × List VType). Ok (types.Named 1 (base_of_primitive primitive) ∷ x.1)) rest e in
    one kinds.Int ts x.0 x.1
stack_takes w own pc resolution (new_array_of index) ts rest e = lengths w resolution 1 ts rest e
stack_takes w own pc resolution (new_arrays index n) ts rest e = lengths w resolution n ts rest e
stack_takes w own pc resolution array_length ts rest e =
    let x = ok_is (type_popped kinds.Reference ts) (λ (x : VType × List VType). only_if (is_array x.0) whys.Kind (types.Int ∷ x.1)) rest e in
    one kinds.Reference ts x.0 x.1
stack_takes w own pc resolution (array_load element) ts rest e =
    indexed element (λ (y : VType × List VType). type_pushed (element_type element y.0) y.1) ts rest e
stack_takes w own pc resolution (array_store element) ts rest e = array_stored w element ts rest e
stack_takes w own pc resolution (check_cast index) ts rest e =
    let x = ok_is (object_taken w resolution ts) (λ (x : ℕ × List VType). Ok (class_type w x.0 ∷ x.1)) rest e in object w resolution ts x.0 x.1
stack_takes w own pc resolution (instance_of index) ts rest e =
    let x = ok_is (object_taken w resolution ts) (λ (x : ℕ × List VType). Ok (types.Int ∷ x.1)) rest e in object w resolution ts x.0 x.1
stack_takes w own pc resolution throw ts rest e = reference w (throwable_type w) ts rest refl e
stack_takes w own pc resolution monitor_enter ts rest e = record { left = rest; is = e }
stack_takes w own pc resolution monitor_exit ts rest e = record { left = rest; is = e }

state_takes : (w : World) (own pc : ℕ) (resolution : Resolution) (e : Event) (s after : TypeState) → event_state w own pc resolution e s ≡ Ok after
    → Takes (event_takes w resolution e) s.types.stack
state_takes w own pc resolution (new index) s after is = nothing s.types.stack
state_takes w own pc resolution e s after is =
    let x = ok_is (stack_after w own pc resolution e s.types.stack) (λ stack. Ok (with_stack s stack)) after is in
    stack_takes w own pc resolution e s.types.stack x.0 x.1

-- ---- invocations

with_receiver : (w : World) (env : Environment) (i : Instruction) (s after : TypeState) (invocation : Invocation) (index : ℕ) (m : Named)
    → w ≡ env.world → row_of i ≡ invoke invocation index → takes_receiver invocation ≡ true → named_method w i.resolution ≡ Some m
    → state_after env i s ≡ Ok after → Takes (argument_kinds m.method.signature ++ kinds.Reference ∷ []) s.types.stack
with_receiver w env i s after invocation index m world known receiver named e =
    let k = invocation_took w env i s after invocation index m world known receiver named e in
    record {
      left = k.receiver.1;
      is = popped_join (argument_kinds m.method.signature) (kinds.Reference ∷ []) s.types.stack k.rest k.receiver.1
          (arguments_popped w m.method.signature s.types.stack k.rest k.taken)
          (one_popped kinds.Reference k.rest k.receiver.1 k.receiver k.popped refl);
    }

never_dynamic : (env : Environment) (i : Instruction) (s after : TypeState) (index : ℕ)
    → row_state env i.instr.pc i.resolution (invoke dynamic index) s ≡ Ok after → ⊥
never_dynamic env i s after index e =
    let m = ok_is (method_of env.world i.resolution.site)
    (λ x. named_class i.resolution then λ class. called env i.instr.pc dynamic x class s) after e in
    let class = ok_is (named_class i.resolution) (λ class. called env i.instr.pc dynamic m.0 class s) after m.2 in
    let none = class.2 in cc

named_takes : (w : World) (env : Environment) (i : Instruction) (s after : TypeState) (invocation : Invocation) (index : ℕ) (m : Named)
    → w ≡ env.world → row_of i ≡ invoke invocation index → named_method w i.resolution ≡ Some m → state_after env i s ≡ Ok after
    → Takes (called_takes invocation m.method.signature) s.types.stack
named_takes w env i s after static index m world known named e =
    let c = called_types w env i s after index m world known named e in
    record { left = c.rest; is = arguments_popped w m.method.signature s.types.stack c.rest c.taken }
named_takes w env i s after dynamic index m world known named e =
    absurd (never_dynamic env i s after index (ap (λ x. row_state env i.instr.pc i.resolution x s) (sym known) ∙ e))
named_takes w env i s after virtual index m world known named e = with_receiver w env i s after virtual index m world known refl named e
named_takes w env i s after special index m world known named e = with_receiver w env i s after special index m world known refl named e
named_takes w env i s after (interface count) index m world known named e =
    with_receiver w env i s after (interface count) index m world known refl named e

invoke_takes : (w : World) (env : Environment) (i : Instruction) (s after : TypeState) (invocation : Invocation) (index : ℕ) → w ≡ env.world
    → row_of i ≡ invoke invocation index → state_after env i s ≡ Ok after → Takes (invocation_takes w i.resolution invocation) s.types.stack
invoke_takes w env i s after invocation index world known e = by (named_method w i.resolution) refl
  where
    by : (o : Option Named) → named_method w i.resolution ≡ o
        → Takes (option_map_or (λ (m : Named). called_takes invocation m.method.signature) o []) s.types.stack
    by None named = nothing s.types.stack
    by (Some m) named = named_takes w env i s after invocation index m world known named e

-- ---- rows

local_row_takes : (r : LocalRow) (before after : Contents VType) → typed r before ≡ Ok after → Takes (local_takes r) before.stack
local_row_takes (int takes f) before after e =
    let x = ok_is (types_popped takes before.stack) (λ stack. types_on before.locals (type_pushed types.Int stack)) after e in
    record { left = x.0; is = x.1 }
local_row_takes (long takes f) before after e =
    let x = ok_is (types_popped takes before.stack) (λ stack. types_on before.locals (type_pushed types.Long stack)) after e in
    record { left = x.0; is = x.1 }
local_row_takes r before after e = nothing before.stack

pub instruction_takes : (w : World) (env : Environment) (i : Instruction) (s after : TypeState) (r : Row) → w ≡ env.world → row_of i ≡ r
    → state_after env i s ≡ Ok after → Takes (row_takes w i.resolution r) s.types.stack
instruction_takes w env i s after r world known e = by r known (ap (λ x. row_state env i.instr.pc i.resolution x s) (sym known) ∙ e)
  where
    by : (r : Row) → row_of i ≡ r → row_state env i.instr.pc i.resolution r s ≡ Ok after → Takes (row_takes w i.resolution r) s.types.stack
    by (local r) known here =
        let x = ok_is (typed r s.types) (λ types. Ok (with_types s types)) after here in local_row_takes r s.types x.0 x.1
    by (returns None) known here = nothing s.types.stack
    by (returns (Some k)) known here =
        let x = ok_is (returned_from (Some k) s.types.stack) (λ stack. Ok (with_stack s stack)) after here in
        record { left = x.0; is = x.1 }
    by (invoke invocation index) known here = invoke_takes w env i s after invocation index world known e
    by (event x) known here =
        state_takes w env.method.class i.instr.pc i.resolution x s after
        (subst (λ (v : World). event_state v env.method.class i.instr.pc i.resolution x s ≡ Ok after) (sym world) here)
    by (constant index) known here = nothing s.types.stack
    by (wide_constant index) known here = nothing s.types.stack
    by refused known here = nothing s.types.stack
