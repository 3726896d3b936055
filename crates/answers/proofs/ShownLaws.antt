-- A text that was written.
use Rattle.std.proofs.Common.{◌≡◌, ℕ, List, [], length, take, Option, Some, None, refl, sym, ap, subst, arith}
use Rattle.std.proofs.lemmas.List.{append-nil, take_all}
use Rattle.jvm_edges.specs.Bytes.{Appends}
use Rattle.command_line.specs.Answers.{fault_line}
use Rattle.command_line.specs.declared.answer.SinkName.TheVariants.{Out}
use Rattle.command_line.specs.declared.answer.Why.TheVariants.{Ended, SinkFault}
use Rattle.answers.specs.declared.report.Report.{Report}
use Rattle.answers.specs.Taken.{Takes, TakesLine}
use Rattle.answers.specs.Reports.{Shown, TakesText}
use Rattle.answers.proofs.TakenLaws.{line_told}

-- nothing is put
nothing_told : {E : Type 0} (contents : E → Option (List ℕ)) (faults : E → ℕ) (old : E) → TakesLine contents faults old old [] [] 0
nothing_told contents faults old = record {
  taken = 0;
  takes = appends_nothing (contents old);
  part = λ lt. absurd (omega (arith, lt));
  whole = λ all lt. absurd (omega (arith, lt));
  kept = λ all le. refl;
}
  where
    appends_nothing : (o : Option (List ℕ)) → Appends o [] o
    appends_nothing None = refl
    appends_nothing (Some bytes) = ap (λ (bs : List ℕ). Some bs) (sym (append-nil bytes))

module _ {O E : Type 0} (bytes : O → Option (List ℕ)) (counts : O → ℕ) (old_out new_out : O) (contents : E → Option (List ℕ)) (faults : E → ℕ) (old new : E) (text : List ℕ) (r : Report) where
  pub text_whole : Takes bytes counts old_out new_out text None → r.why ≡ Ended → r.out_written ≡ length text → TakesText (bytes old_out) (bytes new_out) text r
  text_whole takes why out_written = record {
    out = subst (λ (n : ℕ). Appends (bytes old_out) (take n text) (bytes new_out)) (sym out_written)
        (subst (λ (piece : List ℕ). Appends (bytes old_out) piece (bytes new_out)) (sym (take_all (length text) text (omega arith))) takes.0);
    out_taken = rw (why, out_written) refl;
  }

  pub text_part : (n : ℕ) → Takes bytes counts old_out new_out text (Some n) → r.why ≡ SinkFault Out n → r.out_written ≡ n → TakesText (bytes old_out) (bytes new_out) text r
  text_part n takes why out_written = record {
    out = subst (λ (n : ℕ). Appends (bytes old_out) (take n text) (bytes new_out)) (sym out_written) takes.0;
    out_taken = rw (why, out_written) (refl, takes.1);
  }

  pub shown_whole : Takes bytes counts old_out new_out text None → r.why ≡ Ended → r.history.items ≡ [] → r.out_written ≡ length text → r.err_written ≡ 0 → Shown bytes old_out new_out contents faults old old r
  shown_whole takes why history out_written err_written = record {
    answer = rw why tt;
    history = history;
    text = text;
    taken = text_whole takes why out_written;
    err_written = err_written;
    line = rw why (nothing_told contents faults old);
  }

  pub shown_part : (n : ℕ) (last : Option ℕ) → Takes bytes counts old_out new_out text (Some n) → Takes contents faults old new fault_line last → r.why ≡ SinkFault Out n → r.history.items ≡ [] → r.out_written ≡ n → r.err_written ≡ 0
      → Shown bytes old_out new_out contents faults old new r
  shown_part n last takes put why history out_written err_written = record {
    answer = rw why tt;
    history = history;
    text = text;
    taken = text_part n takes why out_written;
    err_written = err_written;
    line = rw why (line_told contents faults old new fault_line last put);
  }
