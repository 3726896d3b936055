-- The seats and posts of all carriers.
use Rattle.std.proofs.Common.{◌≡◌, ◌≤◌, ◌+◌, ℕ, zero, suc, List, [], ◌∷◌, ◌++◌, None, Some, refl, ap, sym, ◌∙◌, subst, arith, length, length-append, map}
use Rattle.std.specs.Prelude.{All, take}
use Rattle.std.specs.List.{range_with_len}
use Rattle.std.proofs.Math.Seq.{take-append_seam}
use Rattle.std.proofs.lemmas.List.Elements.{All-cons, All-nil, All-pop, All-push, All-same, All-weaker}
use Rattle.std.proofs.lemmas.List.FromFn.{length-map-range_with_len}
use Rattle.atomic_table.specs.Seated.{TableId}
use Rattle.turn_lock.specs.Seats.{IsIdle, SeatState, new_seat, new_seats}
use Rattle.ref_model.specs.Setting.{Setting}
use Rattle.machine.specs.Legal.{IsLegal}
use Rattle.machine.specs.Machines.{Known, at_first, machine_ending}
use Rattle.carrier_turns.specs.Plays.{AreCarriersIdle}
use Rattle.carrier_turns.proofs.NewHandLaws.{idle_at_first}
use Rattle.carrier.specs.Posts.{HasLeft, IsBeginning, IsNewSeat}
use Rattle.carrier.specs.Shared.{MachineAndClock, SharedRun}

new_from : (lock : TableId) (n k rest : ℕ) → k + rest ≤ n → All (IsNewSeat lock n) (map (new_seat lock) (range_with_len k rest))
new_from lock n k zero few = All-nil (IsNewSeat lock n)
new_from lock n k (suc rest) few =
    All-cons (IsNewSeat lock n) (new_seat lock k) (map (new_seat lock) (range_with_len (k + 1) rest))
    (record { idle = record { this = refl; idle = refl }; unseen = refl; below = omega arith }) (new_from lock n (k + 1) rest (omega arith))

-- the seats of a new lock have seen nothing, and there is one for each carrier
are_new : (lock : TableId) (n : ℕ) (seats : List SeatState) → seats ≡ new_seats lock n → All (IsNewSeat lock n) seats
are_new lock n seats is = All-same (IsNewSeat lock n) seats (new_seats lock n) is (new_from lock n 0 n (omega arith))

pub are_idle : (run : SharedRun) (seats : List SeatState) → All (HasLeft run) seats → All (IsIdle run.lock) seats
are_idle run seats all = All-weaker (HasLeft run) (IsIdle run.lock) (λ s left. left.idle) seats all

-- ---- a lock for a machine that begins

module _ {C : Type 0} (initial t : MachineAndClock C) (m : Known) (clock : C) (made : initial ≡ t) (begins : t ≡ record { machine = m; clock = clock }) where
  machine_is : initial.machine ≡ m
  machine_is = ap (λ (x : MachineAndClock C). x.machine) made ∙ ap (λ (x : MachineAndClock C). x.machine) begins

  pub clock_is : initial.clock ≡ clock
  clock_is = ap (λ (x : MachineAndClock C). x.clock) made ∙ ap (λ (x : MachineAndClock C). x.clock) begins

  pub all_new : (lock : TableId) (n : ℕ) (seats : List SeatState) → seats ≡ new_seats lock n → n ≡ m.carriers → All (IsNewSeat lock initial.machine.carriers) seats
  all_new lock n seats is all =
      subst (λ k. All (IsNewSeat lock k) seats) (all ∙ sym (ap (λ (x : Known). x.carriers) machine_is)) (are_new lock n seats is)

pub as_many : (lock : TableId) (n : ℕ) (seats : List SeatState) → seats ≡ new_seats lock n → length seats ≡ n
as_many lock n seats is = ap length is ∙ length-map-range_with_len (new_seat lock) 0 n

pub begins_at_first : (m : Known) (p : Setting) (carriers : ℕ) → m ≡ at_first p carriers → IsLegal m → machine_ending m ≡ None → IsBeginning m
begins_at_first m p carriers first legal going = record {
  history = ap (λ (x : Known). x.history) first;
  legal = legal;
  going = going;
  carriers_idle = subst AreCarriersIdle (sym first) (idle_at_first p carriers);
}

-- one of a list is made into one of another
pub one_moved : {A B : Type 0} (made after : List A) (x : A) (left fewer : List B) (y : B) (n : ℕ) → after ≡ made ++ x ∷ [] → left ≡ fewer ++ y ∷ []
    → length made + length left ≡ n → length after + length fewer ≡ n
one_moved made after x left fewer y n more less so_far =
    let a = ap length more ∙ length-append made (x ∷ []) in
    let b = ap length less ∙ length-append fewer (y ∷ []) in
    omega arith

-- the same beside a third list
pub first_grows : {A B C : Type 0} (made after : List A) (x : A) (beside : List B) (left fewer : List C) (y : C) (n : ℕ) → after ≡ made ++ x ∷ [] → left ≡ fewer ++ y ∷ []
    → length made + (length beside + length left) ≡ n → length after + (length beside + length fewer) ≡ n
first_grows made after x beside left fewer y n more less so_far =
    let a = ap length more ∙ length-append made (x ∷ []) in
    let b = ap length less ∙ length-append fewer (y ∷ []) in
    omega arith

pub second_grows : {A B C : Type 0} (beside : List A) (made after : List B) (x : B) (left fewer : List C) (y : C) (n : ℕ) → after ≡ made ++ x ∷ [] → left ≡ fewer ++ y ∷ []
    → length beside + (length made + length left) ≡ n → length beside + (length after + length fewer) ≡ n
second_grows beside made after x left fewer y n more less so_far =
    let a = ap length more ∙ length-append made (x ∷ []) in
    let b = ap length less ∙ length-append fewer (y ∷ []) in
    omega arith

-- the last of a list, and those before it
pub popped : {A : Type 0} (P : A → Type 0) (xs ys : List A) (x : A) → xs ≡ ys ++ x ∷ [] → All P xs → All P ys × P x
popped P xs ys x is all = All-pop P xs ys (Some x) is all

pub pushed : {A : Type 0} (P : A → Type 0) (xs ys : List A) (x : A) → ys ≡ xs ++ x ∷ [] → All P xs → P x → All P ys
pushed P xs ys x is all here = All-same P ys (xs ++ x ∷ []) is (All-push P xs x all here)

-- what holds of all that was written through a slice of a whole vector holds of the vector
pub written : {A : Type 0} (P : A → Type 0) (new rest : List A) (n : ℕ) → length new ≡ n → All P new → All P (take n (new ++ rest))
written P new rest n is all = subst (All P) (sym (subst (λ k. take k (new ++ rest) ≡ new) is (take-append_seam new rest))) all
