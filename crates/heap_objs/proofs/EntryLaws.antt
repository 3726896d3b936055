-- Objects looked up by number in the heap as it lies in memory: that they have entries, and what the entry that was read says.
use Rattle.std.proofs.Common.{ℕ, ◌≡◌, ◌+◌, ◌<◌, ◌≤◌, length, Some, arith, get_or}
use Rattle.std.specs.Prelude.{slice_get, IsSome, vec_len}
use Rattle.heap_objs.specs.Heap.{class_at, units_at, values_at, values_in}
use Rattle.heap_objs.specs.Layout.{IsHeap, object_of, seen}
use Rattle.heap_objs.specs.declared.table.Entry.{Entry}
use Rattle.heap_objs.specs.declared.heap.Heap.TheInside.{Inside}
use Rattle.heap_objs.proofs.StretchLaws.{get_read}
use Rattle.heap_objs.proofs.HeapLaws.{class_there, units_there, units_within, value_here, value_read, value_there}

-- the entry of an object that has a value, a class or units
pub value_entry : (s : Inside) (o i : ℕ) → i < length (values_at (seen s).objects o) → o < length s.table.items
value_entry s o i h = value_there s.table.items o i s.values.items s.units.items h

pub class_entry : (s : Inside) (o : ℕ) → IsSome (class_at (seen s).objects o) → o < length s.table.items
class_entry s o h = class_there s.table.items o s.values.items s.units.items h

pub units_entry : (s : Inside) (o : ℕ) → IsSome (units_at (seen s).objects o) → o < length s.table.items
units_entry s o h = units_there s.table.items o s.values.items s.units.items h

-- the entry of an object with a value at an index, and where that value lies
pub record HasValue (s : Inside) (o i : ℕ) (e : Entry) : Type 0 where
  pub is : slice_get s.table.items o ≡ Some e
  pub here : i < length (values_in (Some (object_of s.values.items s.units.items e)))
  pub place : e.start + i < vec_len s.values
  pub value : slice_get (values_in (Some (object_of s.values.items s.units.items e))) i ≡ slice_get s.values.items (e.start + i)

pub has_value : (s : Inside) (o i : ℕ) (e : Entry) → i < length (values_at (seen s).objects o) → e ≡ get_or s.table.items o e → HasValue s o i e
has_value s o i e h found =
    let es = s.table.items in
    let vs = s.values.items in
    let us = s.units.items in
    let is = get_read es o e (value_entry s o i h) found in
    let here = value_here es o i e vs us h is in
    let read = value_read e.class e.start e.len i vs us here in
    let row = s.values.ok.0 in
    record { is = is; here = here; place = omega arith; value = read.1 }

-- the entry of an object with a class
pub class_found : (s : Inside) (o : ℕ) (e : Entry) → IsSome (class_at (seen s).objects o) → e ≡ get_or s.table.items o e → slice_get s.table.items o ≡ Some e
class_found s o e h found = get_read s.table.items o e (class_entry s o h) found

-- the entry of a String, and where its units end
pub record HasUnits (s : Inside) (o : ℕ) (e : Entry) : Type 0 where
  pub is : slice_get s.table.items o ≡ Some e
  pub within : e.start + e.len ≤ vec_len s.units

pub has_units : (s : Inside) (o : ℕ) (e : Entry) → IsHeap s → IsSome (units_at (seen s).objects o) → e ≡ get_or s.table.items o e → HasUnits s o e
has_units s o e heap h found =
    let es = s.table.items in
    let is = get_read es o e (units_entry s o h) found in
    record { is = is; within = units_within es o (vec_len s.values) (vec_len s.units) e s.values.items s.units.items heap.laid is h }
