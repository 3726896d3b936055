use Rattle.std.proofs.Common.{◌≡◌, [], ◌∷◌, ◌++◌, length, take, drop, false, refl, arith, rules}
use Rattle.std.proofs.lemmas.Result.{err_from_is_err_and}
use Rattle.std.proofs.lemmas.List.Sums.{sum_by_push}
use Rattle.class_checks.specs.Costs.{judging, adding}
use Rattle.class_file.specs.Constants.{entry_at, next_entry, entries_at}
use Rattle.class_file.specs.Texts.{constant_of, appended, with_texts}
use Rattle.class_model.specs.declared.constant.Const.TheVariants.{Unused}
use Rattle.byte_reader.proofs.LoopLaws.{begins_behind, goes_on, stops_at, is_done}
use Rattle.class_file.proofs.TextPlaces.{wide_entry, front_of}
use Rattle.class_file.proofs.constants.entries_of.Goals as goal

pub loop-index-init : goal.loop-index-init
unfolding entries_at
loop-index-init g c = record {
  reads = rw (c.in_ok-marks.ensures.items, c.in_ok-push.ensures.items, c.in_ok-constants.ensures.items) (begins_behind (Unused ∷ []) entry_at next_entry false c.args.count c.args.bytes.now);
  spent = rw (c.in_ok-marks.ensures.items, c.in_ok-push.ensures.items, c.in_ok-constants.ensures.items) (omega arith);
  divides = rw (c.in_ok-marks.ensures.items, c.in_ok-units.ensures.items) (record { total = refl; within = tt });
  count = rw (c.in_ok-push.ensures.items, c.in_ok-constants.ensures.items) refl;
}

pub returns-in_err-entry-clause-read : goal.returns-in_err-entry-clause-read
returns-in_err-entry-clause-read g c =
    let p = err_from_is_err_and c.from_residual-in_err-entry.result c.from_residual-in_err-entry.ensures.1 in
    rw (p.1, p.2) (stops_at c.args.count c.loop-index.index c.in_err-entry.field-0.0 c.loop-index-test.true c.loop-index.invariant.reads c.in_err-entry.ensures.read)

pub loop-index-preserved : goal.loop-index-preserved
loop-index-preserved g c =
    let old = c.loop-index.units.items in
    let new = c.entry_of.new.units.items in
    let x = constant_of (appended old new) c.in_ok-entry.entry in
    let before = with_texts c.loop-index.marks.items old c.loop-index.constants.items in
    let front : take (length old) new ≡ old = front_of old new c.in_ok-entry.ensures.units.0 in
    let marks = c.push_entry.new.marks.items in
    let constants = c.push_entry.new.constants.items in
    let index : c.len-before.result ≡ length old = search rules in
    let pushed : with_texts marks c.deref.result.now constants ≡ with_texts c.loop-index.marks.items (take c.len-before.result c.deref.result.now) c.loop-index.constants.items ++ constant_of (drop c.len-before.result c.deref.result.now) c.in_ok-entry.entry ∷ [] =
    c.in_ok-push_entry.ensures.constants in
    let grown : with_texts marks new constants ≡ before ++ x ∷ [] = rw (c.deref.ensures.value, index, front) at pushed in
    record {
      reads = rw (c.is_wide-behind.ensures, wide_entry (appended old new) c.in_ok-entry.entry, grown) (goes_on c.args.count c.loop-index.index x c.in_ok-entry.after.now c.loop-index-test.true c.loop-index.invariant.reads c.in_ok-entry.ensures.read);
      spent = rw grown (omega (arith, c.in_ok-entry.ensures.rest, c.loop-index.invariant.spent, sum_by_push judging before x, sum_by_push adding before x));
      divides = rw c.deref.ensures.value at c.in_ok-push_entry.ensures.divides;
      count = omega (arith, c.in_ok-push_entry.ensures.count, c.loop-index.invariant.count);
    }

pub returns-clause-read : goal.returns-clause-read
returns-clause-read g c = rw (c.from-2.ensures, c.in_ok-place_texts.ensures, c.deref-2.ensures.value, c.shrink_to_fit.ensures.items) (is_done c.args.count c.loop-index.index c.loop-index-test.false c.loop-index.invariant.reads)

pub returns-clause-rest : goal.returns-clause-rest
returns-clause-rest g c = rw (c.from-2.ensures, c.in_ok-place_texts.ensures, c.deref-2.ensures.value, c.shrink_to_fit.ensures.items) c.loop-index.invariant.spent
