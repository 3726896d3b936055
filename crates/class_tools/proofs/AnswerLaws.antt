-- From what was made of a file to what the call answers.
use Rattle.std.proofs.Common.{◌≡◌, ℕ, List, [], Option, Result, Ok, Err, inl, inr, refl, sym, subst}
use Rattle.std.specs.Prelude.{IfOk, IfErr}
use Rattle.std.specs.Global.{Vec}
use Rattle.jvm_edges.specs.Files.{Files}
use Rattle.command_line.specs.declared.answer.SinkName.TheVariants.{Out}
use Rattle.command_line.specs.declared.answer.Which.TheVariants.{FileSize}
use Rattle.command_line.specs.declared.answer.Why.{Why}
use Rattle.command_line.specs.declared.answer.Why.TheVariants.{Ended, Limit, Missing, SourceFault, BadClass, BadText, Unlisted, SinkFault, NoMemory}
use Rattle.command_line.specs.Answers.{line_of}
use Rattle.command_line.specs.Commands.{Names}
use Rattle.answers.specs.declared.report.Report.{Report}
use Rattle.answers.specs.Reports.{IsIdle, IsOfText, IsSameOrNoMemory}
use Rattle.answers.specs.Taken.{OutFaults, TakesLine}
use Rattle.input_files.specs.StoreFaults.{StoreFaults}
use Rattle.class_tools.specs.Due.{Due, writes}
use Rattle.class_tools.specs.Exact.{HasCause, HasText, IsCaused, IsDueOrFault, IsExact, IsRefusal, IsWritten, OnNoText, OnText}
use Rattle.class_tools.specs.Making.{Answers}
use Rattle.class_tools.proofs.ExactLaws.{exact_is, memory_exact}

-- ---- the kinds of answers

refusal_or_text : (why : Why) → IsRefusal why → IsOfText why → ⊥
refusal_or_text (Missing file) is of = of
refusal_or_text (SourceFault file) is of = of
refusal_or_text (Limit FileSize number) is of = of
refusal_or_text (BadClass file at reason) is of = of
refusal_or_text (BadText line) is of = of
refusal_or_text (Unlisted file) is of = of
refusal_or_text NoMemory is of = of
refusal_or_text why is of = is

kept_refusal : (before after : Why) → IsSameOrNoMemory before after → IsRefusal before → IsRefusal after
kept_refusal before after (inl e) is = subst IsRefusal (sym e) is
kept_refusal before after (inr e) is = subst IsRefusal (sym e.1) tt

text_is_due : (text : List ℕ) (why : Why) → IsOfText why → IsDueOrFault (writes text) why
text_is_due text Ended of = tt
text_is_due text (SinkFault Out written) of = tt
text_is_due text why of = absurd of

text_caused : (by : List ℕ → Due → Type 0) (known : Option Files) (faulty : Type 0) (name : List ℕ) (why : Why) → IsOfText why → HasText by known name → IsCaused by known faulty name why
text_caused by known faulty name Ended of x = x
text_caused by known faulty name (SinkFault Out written) of x = x
text_caused by known faulty name why of x = absurd of

text_faults : (why : Why) (before now : ℕ) → IsOfText why → now ≡ before → StoreFaults why before now
text_faults Ended before now of kept = kept
text_faults (SinkFault Out written) before now of kept = kept
text_faults why before now of kept = absurd of

refusal_out : (why : Why) (n : ℕ) → IsRefusal why → OutFaults why n n
refusal_out (SinkFault which written) n is = absurd is
refusal_out why n is = refl

-- the out sink has no fault where nothing is written
pub refused_out : (before after : Why) (n : ℕ) → IsSameOrNoMemory before after → IsRefusal before → OutFaults after n n
refused_out before after n kept is = refusal_out after n (kept_refusal before after kept is)

-- the line where a text is written names nothing
text_line : (a b : Names) (why : Why) → IsOfText why → line_of a why ≡ line_of b why
text_line a b Ended of = refl
text_line a b (SinkFault Out written) of = refl
text_line a b why of = absurd of

pub line_is : {E : Type 0} (contents : E → Option (List ℕ)) (faults : E → ℕ) (old new : E) (a b : Names) (why : Why) → IsOfText why
    → TakesLine contents faults old new (line_of a why) [] 0 → TakesLine contents faults old new (line_of b why) [] 0
line_is contents faults old new a b why of = subst (λ (l : List ℕ). TakesLine contents faults old new l [] 0) (text_line a b why of)

-- ---- the call

module _ (by : List ℕ → Due → Type 0) (one : (bytes : List ℕ) (a b : Due) → by bytes a → by bytes b → a ≡ b) (known : Option Files) (faulty : Type 0) (name : List ℕ) where
  pub written_is : (before after : Option (List ℕ)) (made : Result (Vec ℕ) Why) (r : Report) → IfOk made (λ v. HasCause by known name (writes v.items)) → IfErr made IsRefusal → Answers before after made r
      → OnText r.why (IsWritten by known name before after r)
  written_is before after (Ok v) r cause refusal answers of = record { text = v.items; cause = cause; taken = answers.1 }
  written_is before after (Err why) r cause refusal answers of = absurd (refusal_or_text r.why (kept_refusal why r.why answers.0 refusal) of)

  kept_exact : (before after : Why) → IsSameOrNoMemory before after → IsExact by known faulty name before → IsExact by known faulty name after
  kept_exact before after (inl e) exact = subst (λ (w : Why). IsExact by known faulty name w) (sym e) exact
  kept_exact before after (inr e) exact = subst (λ (w : Why). IsExact by known faulty name w) (sym e.1) (memory_exact by one known faulty name)

  pub answer_exact : (before after : Option (List ℕ)) (made : Result (Vec ℕ) Why) (r : Report) → IfOk made (λ v. HasCause by known name (writes v.items)) → IfErr made (IsExact by known faulty name) → Answers before after made r
      → IsExact by known faulty name r.why
  answer_exact before after (Ok v) r cause exact answers =
      exact_is by one known faulty name (writes v.items) r.why cause (text_is_due v.items r.why answers.0) (text_caused by known faulty name r.why answers.0 (record { text = v.items; cause = cause }))
  answer_exact before after (Err why) r cause exact answers = kept_exact why r.why answers.0 exact

pub idle_is : (before after : Option (List ℕ)) (made : Result (Vec ℕ) Why) (r : Report) → Answers before after made r → r.history.items ≡ [] → r.err_written ≡ 0 → OnNoText r.why (IsIdle before after r)
idle_is before after (Ok v) r answers history err_written idle = absurd (idle answers.0)
idle_is before after (Err why) r answers history err_written idle = record { history = history; out_written = answers.1; err_written = err_written; same = answers.2 }

kept_store : (before after : Why) (m n : ℕ) → IsSameOrNoMemory before after → StoreFaults before m n → StoreFaults after m n
kept_store before after m n (inl e) faults = subst (λ (w : Why). StoreFaults w m n) (sym e) faults
kept_store before after m n (inr e) faults = subst (λ (w : Why). StoreFaults w m n) (sym e.1) tt

pub answer_store : (before after : Option (List ℕ)) (made : Result (Vec ℕ) Why) (r : Report) (m n : ℕ) → IfOk made (λ v. n ≡ m) → IfErr made (λ why. StoreFaults why m n) → Answers before after made r → StoreFaults r.why m n
answer_store before after (Ok v) r m n kept faults answers = text_faults r.why m n answers.0 kept
answer_store before after (Err why) r m n kept faults answers = kept_store why r.why m n answers.0 faults
