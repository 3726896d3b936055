-- The answers to nanoTime and currentTimeMillis.
use Rattle.std.proofs.Common.{◌≡◌, ℕ, ◌/◌, ℤ, pos, ap, sym, ◌∙◌}
use Rattle.std.specs.Int.{w64, int_wrap}
use Rattle.instruction_rows.specs.declared.value.Value.TheVariants as values
use Rattle.link_model.specs.World.{World}
use Rattle.ref_model.specs.Asking.{gives_back}
use Rattle.ref_model.specs.Waiting.{nanos_in_milli}
use Rattle.ref_model.specs.declared.request.ThreadRequest.TheVariants as requests
use Rattle.schedule_soundness.specs.PutLaws.{OthersStay}
use Rattle.program_state.specs.declared.reply.Reply.TheVariants as replies
use Rattle.program_state.specs.declared.state.ProgramState.{ProgramState}
use Rattle.program_state.specs.Replies.{Answers}
use Rattle.program_state.proofs.RowLaws.{answers_same}

pub nanos_told : (w : World) (t : ℕ) (a : ProgramState) (n : ℤ) → n ≡ int_wrap w64 (pos a.time) → Answers w requests.TellsNanos (OthersStay t) t a a (replies.Gives (values.Long n))
nanos_told w t a n is_time =
    answers_same w requests.TellsNanos t a (replies.Gives (values.Long n))
    (λ r out x k is at. ap (λ z. gives_back r t k (values.Long z)) (ap (λ now. int_wrap w64 (pos now)) (sym is.now) ∙ sym is_time))

pub millis_told : (w : World) (t : ℕ) (a : ProgramState) (n : ℤ) → n ≡ pos (a.time / nanos_in_milli) → Answers w requests.TellsMillis (OthersStay t) t a a (replies.Gives (values.Long n))
millis_told w t a n is_time =
    answers_same w requests.TellsMillis t a (replies.Gives (values.Long n))
    (λ r out x k is at. ap (λ z. gives_back r t k (values.Long z)) (ap (λ now. pos (now / nanos_in_milli)) (sym is.now) ∙ sym is_time))
