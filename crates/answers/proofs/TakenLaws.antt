-- What sinks took.
use Rattle.std.proofs.Common.{◌≡◌, ℕ, ◌+◌, ◌<◌, List, [], ◌++◌, length, take, Option, Some, None, Result, Ok, Err, true, false, refl, sym, ap, subst, ◌∙◌, arith}
use Rattle.std.specs.Prelude.{Bool, IfErr, OnOk, OnErr, is_some, not}
use Rattle.std.specs.Option.{option_map}
use Rattle.std.proofs.lemmas.List.{append-nil, append_assoc, length-append, take_all, take-append-le}
use Rattle.std.proofs.Math.Seq.{take-append-add}
use Rattle.jvm_edges.specs.Bytes.{Appends}
use Rattle.jvm_edges.specs.Causes.{Rose}
use Rattle.jvm_edges.specs.declared.output.PartWritten.{PartWritten}
use Rattle.answers.specs.Taken.{Takes, TakesLine}

-- a line that was put, or its front, where there is no fault output
pub takes : {E : Type 0} (contents : E → Option (List ℕ)) (faults : E → ℕ) (old new : E) (line : List ℕ) (r : Result (Unit {0}) PartWritten) → OnOk r (Appends (contents old) line (contents new))
    → IfErr r (λ e. Appends (contents old) (take e.taken line) (contents new)) → IfErr r (λ e. e.taken < length line) → OnErr r (Rose (faults old) (faults new)) → OnOk r (faults new ≡ faults old)
    → TakesLine contents faults old new line [] 0
takes contents faults old new line (Ok x) ok part short cause kept = record {
  taken = length line;
  takes = rw (take_all (length line) line (omega arith)) ok;
  part = λ lt. absurd (omega (arith, lt));
  whole = λ all lt. absurd (omega (arith, lt));
  kept = λ all le. kept;
}
takes contents faults old new line (Err e) ok part short cause kept = record {
  taken = e.taken;
  takes = part;
  part = λ lt. absurd (omega (arith, lt));
  whole = λ all lt. cause;
  kept = λ all le. absurd (omega (arith, short, le));
}

-- all the bytes, or their front
pub takes_part : {S : Type 0} (contents : S → Option (List ℕ)) (faults : S → ℕ) (old new : S) (bytes : List ℕ) (n : ℕ) → Appends (contents old) (take n bytes) (contents new) → n < length bytes → Rose (faults old) (faults new)
    → Takes contents faults old new bytes (Some n)
takes_part contents faults old new bytes n part short rose = (part, short, rose)

-- ---- the fault output, and the line after it

appends_both : (a b c : Option (List ℕ)) (xs ys : List ℕ) → Appends a xs b → Appends b ys c → Appends a (xs ++ ys) c
appends_both a b c xs ys first second = second ∙ ap (option_map (λ (bytes : List ℕ). bytes ++ ys)) first ∙ both a
  where
    both : (a : Option (List ℕ)) → option_map (λ (bytes : List ℕ). bytes ++ ys) (option_map (λ (bytes : List ℕ). bytes ++ xs) a) ≡ option_map (λ (bytes : List ℕ). bytes ++ (xs ++ ys)) a
    both None = refl
    both (Some bytes) = ap (λ (zs : List ℕ). Some zs) (append_assoc bytes xs ys)

-- the sink failed in the fault output
pub front_told : {E : Type 0} (contents : E → Option (List ℕ)) (faults : E → ℕ) (old new : E) (line text : List ℕ) (n : ℕ) → Takes contents faults old new text (Some n) → TakesLine contents faults old new line text n
front_told contents faults old new line text n part = record {
  taken = 0;
  takes = subst (λ (piece : List ℕ). Appends (contents old) piece (contents new)) (sym (append-nil (take n text))) part.0;
  part = λ lt. (refl, part.2);
  whole = λ all lt. absurd (omega (arith, all, part.1));
  kept = λ all le. absurd (omega (arith, all, part.1));
}

-- the sink took all the fault output, and then what follows it, or its front
pub all_told : {E : Type 0} (contents : E → Option (List ℕ)) (faults : E → ℕ) (old mid new : E) (line text : List ℕ) → Takes contents faults old mid text None → TakesLine contents faults mid new line [] 0
    → TakesLine contents faults old new line text (length text)
all_told contents faults old mid new line text first second = record {
  taken = second.taken;
  takes = rw (take_all (length text) text (omega arith)) (appends_both (contents old) (contents mid) (contents new) text (take second.taken line) first.0 second.takes);
  part = λ lt. absurd (omega (arith, lt));
  whole = λ all lt. subst (λ (m : ℕ). Rose m (faults new)) first.1 (second.whole (omega arith) lt);
  kept = λ all le. second.kept (omega arith) le ∙ first.1;
}

-- one piece, or its front
pub line_told : {E : Type 0} (contents : E → Option (List ℕ)) (faults : E → ℕ) (old new : E) (line : List ℕ) (r : Option ℕ) → Takes contents faults old new line r → TakesLine contents faults old new line [] 0
line_told contents faults old new line None takes = record {
  taken = length line;
  takes = rw (take_all (length line) line (omega arith)) takes.0;
  part = λ lt. absurd (omega (arith, lt));
  whole = λ all lt. absurd (omega (arith, lt));
  kept = λ all le. takes.1;
}
line_told contents faults old new line (Some n) takes = record {
  taken = n;
  takes = takes.0;
  part = λ lt. absurd (omega (arith, lt));
  whole = λ all lt. takes.2;
  kept = λ all le. absurd (omega (arith, takes.1, le));
}

-- ---- two pieces, one after the other

-- the sink failed in the first of them
pub first_told : {E : Type 0} (contents : E → Option (List ℕ)) (faults : E → ℕ) (old new : E) (line others : List ℕ) (n : ℕ) → Takes contents faults old new line (Some n) → TakesLine contents faults old new (line ++ others) [] 0
first_told contents faults old new line others n first = record {
  taken = n;
  takes = subst (λ (piece : List ℕ). Appends (contents old) piece (contents new)) (sym (take-append-le n line others (omega (arith, first.1)))) first.0;
  part = λ lt. absurd (omega (arith, lt));
  whole = λ all lt. first.2;
  kept = λ all le. absurd (omega (arith, first.1, le, length-append line others));
}

-- the sink took all of the first, and then the others, or their front
pub both_told : {E : Type 0} (contents : E → Option (List ℕ)) (faults : E → ℕ) (old mid new : E) (line others : List ℕ) (r : Option ℕ) → Takes contents faults old mid line None → Takes contents faults mid new others r
    → TakesLine contents faults old new (line ++ others) [] 0
both_told contents faults old mid new line others None first second = record {
  taken = length (line ++ others);
  takes = subst (λ (piece : List ℕ). Appends (contents old) piece (contents new)) (sym (take_all (length (line ++ others)) (line ++ others) (omega arith)))
      (appends_both (contents old) (contents mid) (contents new) line others first.0 second.0);
  part = λ lt. absurd (omega (arith, lt));
  whole = λ all lt. absurd (omega (arith, lt));
  kept = λ all le. second.1 ∙ first.1;
}
both_told contents faults old mid new line others (Some n) first second = record {
  taken = length line + n;
  takes = subst (λ (piece : List ℕ). Appends (contents old) piece (contents new)) (sym (take-append-add line others n))
      (appends_both (contents old) (contents mid) (contents new) line (take n others) first.0 second.0);
  part = λ lt. absurd (omega (arith, lt));
  whole = λ all lt. subst (λ (m : ℕ). Rose m (faults new)) first.1 second.2;
  kept = λ all le. absurd (omega (arith, second.1, le, length-append line others));
}

-- the sink failed in the first of two pieces, or took all of it
pub some_is : (r : Option ℕ) (b : Bool) → is_some r ≡ not b → b ≡ false → is_some r ≡ true
some_is r b is e = is ∙ ap not e

pub none_is : (r : Option ℕ) (b : Bool) → is_some r ≡ not b → b ≡ true → is_some r ≡ false
none_is r b is e = is ∙ ap not e

pub stopped_told : {E : Type 0} (contents : E → Option (List ℕ)) (faults : E → ℕ) (old new : E) (line others : List ℕ) (r : Option ℕ) → is_some r ≡ true → Takes contents faults old new line r
    → TakesLine contents faults old new (line ++ others) [] 0
stopped_told contents faults old new line others None is takes = absurd cc
stopped_told contents faults old new line others (Some n) is takes = first_told contents faults old new line others n takes

pub went_on_told : {E : Type 0} (contents : E → Option (List ℕ)) (faults : E → ℕ) (old mid new : E) (line others : List ℕ) (r last : Option ℕ) → is_some r ≡ false → Takes contents faults old mid line r
    → Takes contents faults mid new others last → TakesLine contents faults old new (line ++ others) [] 0
went_on_told contents faults old mid new line others None last is takes then_takes = both_told contents faults old mid new line others last takes then_takes
went_on_told contents faults old mid new line others (Some n) last is takes then_takes = absurd cc
