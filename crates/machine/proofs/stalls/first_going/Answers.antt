use Rattle.std.proofs.Common.{◌≡◌, ◌⊎◌, inl, inr, ◌<◌, ℕ, Bool, true, false, None, Some, arith, get_or, length, subst, sym, ap, ◌∙◌}
use Rattle.std.proofs.lemmas.Bool.{cases_lt}
use Rattle.machine.specs.Stalls.{is_kept_back}
use Rattle.machine.proofs.stalls.first_going.Goals as goal

pub returns-then-not-is_kept_back-clause-some : goal.returns-then-not-is_kept_back-clause-some
returns-then-not-is_kept_back-clause-some c = λ r out is. record {
  there = c.loop-c-test.true;
  goes = sym (c.is_kept_back.ensures r out is) ∙ c.if-not-is_kept_back.true;
}

pub loop-c-preserved : goal.loop-c-preserved
loop-c-preserved c = λ r out is j below.
    elim (cases_lt j c.loop-c.c) [
      | inl before ↦ c.loop-c.invariant r out is j before
      | inr here ↦
          let same : c.loop-c.c ≡ j = omega arith in
          subst (λ k. is_kept_back r (get_or c.args.mounted.now k None) (get_or c.args.pins.now k false) ≡ true) same
          (sym (c.is_kept_back.ensures r out is) ∙ c.if-not-is_kept_back.false)
    ]

pub returns-clause-none : goal.returns-clause-none
returns-clause-none c = λ r out is j within. c.loop-c.invariant r out is j (let done = c.loop-c-test.false in omega arith)
