-- Machines for worked examples: each shows looks that are written down, one after the other.
use Rattle.std.proofs.Common.{ℕ, suc, Bool, true, false, List, [], Option, None, Some, length, ◌==◌, not}
use Rattle.std.specs.Prelude.{slice_index_or}
use Rattle.items.specs.Options.{◌>>=◌}
use Rattle.history.specs.declared.entry.Entry.{Entry}
use Rattle.history.specs.declared.entry.What.TheVariants.{Mount, Unmount, Step, Clock}
use Rattle.thread_lists.specs.Lists.{count}
use Rattle.schedule_model.specs.Look.{Look, Spot, absent, unstarted, in_no_list, done}
use Rattle.schedule_model.specs.Run.{Machine, schedule_of}

-- what is seen of a thread
pub record Row : Type 0 where
  pub spot : Spot
  pub enabled : Bool
  pub pinned : Bool
  pub deadline : Option ℕ

abbrev pub row : Spot → Bool → Row
row spot enabled = record { spot = spot; enabled = enabled; pinned = false; deadline = None }

abbrev pub runs : Row
runs = row in_no_list true

abbrev pub parked : Row
parked = row in_no_list false

abbrev pub fresh : Row
fresh = row unstarted false

abbrev pub ended : Row
ended = row done false

abbrev pub until : ℕ → Row → Row
until deadline r = record r { deadline = Some deadline }

abbrev pub under_native : Row → Row
under_native r = record r { pinned = true }

abbrev pub at : List Row → ℕ → Row
at rows t = slice_index_or rows t (row absent false)

-- these threads, at this time, and these monitors owned
abbrev pub seen : ℕ → List ℕ → List Row → Look
seen now owned rows =
    record {
      ended = false;
      now = now;
      threads = length rows;
      spot = λ t. (at rows t).spot;
      enabled = λ t. (at rows t).enabled;
      pinned = λ t. (at rows t).pinned;
      deadline = λ t. (at rows t).deadline;
      owned = λ o. not (count o owned == 0);
    }

-- the program has ended, and these threads are as they are
abbrev pub at_end : List Row → Look
at_end rows = record (seen 0 [] rows) { ended = true; enabled = λ t. false }

-- a machine that shows these looks; the steps after looks with these numbers are yields
abbrev pub showing : List Look → List ℕ → Machine ℕ
showing looks yields =
    record {
      opening = 0;
      look = λ r. slice_index_or looks r (seen 0 [] []);
      steps = λ r t n pick. Some (suc r);
      yields = λ r t n. not (count r yields == 0);
      tick = λ r now. Some (suc r);
    }

-- entries of carrier c
abbrev pub mounts : ℕ → ℕ → Entry
mounts c t = record { carrier = c; what = Mount t }

abbrev pub unmounts : ℕ → ℕ → Entry
unmounts c t = record { carrier = c; what = Unmount t }

abbrev pub steps : ℕ → ℕ → Entry
steps c t = record { carrier = c; what = Step t 1 None }

abbrev pub picks : ℕ → ℕ → ℕ → Entry
picks c t u = record { carrier = c; what = Step t 1 (Some u) }

abbrev pub ticks : ℕ → ℕ → Entry
ticks c now = record { carrier = c; what = Clock now }

-- what is mounted and what is in the deques after a history
abbrev pub places_after : Machine ℕ → ℕ → List Entry → Option (List (Option ℕ) × List (List ℕ))
places_after m carriers history =
    schedule_of m carriers history >>= λ v. Some (v.schedule.mounted, v.schedule.deques)

-- the wait list and the entry list of a monitor after a history
abbrev pub lists_after : Machine ℕ → ℕ → ℕ → List Entry → Option (List ℕ × List ℕ)
lists_after m carriers o history =
    schedule_of m carriers history >>= λ v. Some (v.schedule.wait_list o, v.schedule.entry_list o)
