use Rattle.std.proofs.Common.{◌≡◌, ℕ, ◌+◌, ◌-◌, List, Some, length, sym, ap, ◌∙◌, arith}
use Rattle.std.specs.List.{flat_map}
use Rattle.link_model.specs.World.{World}
use Rattle.link_model.specs.Strings.{strings_of}
use Rattle.heap_objs.specs.Heap.{Heap}
use Rattle.ref_model.specs.Opening.{opening_statics, main_words}
use Rattle.startup.specs.FirstFrames.{frames_with}
use Rattle.startup.specs.FirstObjects.{library, first_objects}
use Rattle.startup.specs.FirstStatics.{static_values}
use Rattle.startup.specs.Openings.{setting}
use Rattle.startup.proofs.FirstObjects.{heap_is}
use Rattle.startup.proofs.FirstStatics.{statics_are}
use Rattle.startup.proofs.Openings.{opening_is}
use Rattle.startup.proofs.begin.open.Goals as goal

pub returns-clause-statics : goal.returns-clause-statics
returns-clause-statics c =
    let w : World = c.args.program.now in
    let strings : List (List ℕ) = c.strings-strings.result.now in
    let texts : strings ≡ strings_of w.program =
    c.strings-strings.ensures ∙ ap (λ (v : World). strings_of v.program) c.tables-2.ensures in
    c.in_ok-statics.ensures ∙ ap (λ (v : World). flat_map (static_values strings) v.program.classes) c.tables-3.ensures
    ∙ ap (λ (ts : List (List ℕ)). flat_map (static_values ts) w.program.classes) texts ∙ statics_are w.program

pub returns-clause-state : goal.returns-clause-state
returns-clause-state c =
    let w : World = c.args.program.now in
    let l = c.in_ok-library.library in
    let heap : Heap = c.in_ok-heap.heap in
    let strings : List (List ℕ) = c.strings-strings.result.now in
    let frames = c.in_ok-mounted.mounted.stack.frames in
    let statics = c.in_ok-statics.statics.items in
    let has : library w ≡ Some l = ap library (sym c.tables.ensures) ∙ c.in_ok-library.ensures in
    let texts : strings ≡ strings_of w.program =
    c.strings-strings.ensures ∙ ap (λ (v : World). strings_of v.program) c.tables-2.ensures in
    let objects : heap.objects ≡ first_objects w l = ap (λ (h : Heap). h.objects) c.in_ok-heap.ensures in
    let words : c.in_ok-words_number.field-0 ≡ main_words w = c.in_ok-words_number.ensures ∙ ap (λ (ts : List (List ℕ)). 10 + length ts) texts in
    let monitor = c.in_ok-monitor.monitor in
    let all : frames_with w c.args.main (main_words w) monitor ≡ Some frames =
    ap (λ (n : ℕ). frames_with w c.args.main n monitor) (sym words) ∙ c.in_ok-mounted.ensures.frames in
    let none : c.args.limits.heap_cells - 0 ≡ c.args.limits.heap_cells = omega arith in
    let room : heap.cells - heap.used ≡ c.args.limits.heap_cells = ap (λ (h : Heap). h.cells - h.used) c.in_ok-heap.ensures ∙ none in
    let values : statics ≡ opening_statics w.program =
    c.in_ok-statics.ensures ∙ ap (λ (v : World). flat_map (static_values strings) v.program.classes) c.tables-3.ensures
    ∙ ap (λ (ts : List (List ℕ)). flat_map (static_values ts) w.program.classes) texts ∙ statics_are w.program in
    opening_is (setting w c.args.main c.args.limits) heap.objects (heap.cells - heap.used) statics frames monitor
    (heap_is w l has ∙ ap Some (sym objects)) (c.in_ok-monitor.ensures c.args.limits) all room values
