-- How a call ends.
use Rattle.std.specs.Prelude.{Bool, [], Option, Some, None, Result, Ok, Err, true, false, MatchBool, ◌≡◌, if◌then◌else◌}
use Rattle.std.specs.declared.alloc.AllocError.{AllocError}
use Rattle.raft_command.specs.Queue.{Queue, emptied}
use Rattle.raft_progress_entry.specs.raft_error.declared.error.EngineError.{EngineError}
use Rattle.raft_progress_entry.specs.raft_error.declared.error.EngineError.TheVariants.{OutOfMemory, Spent}

-- the queue after out of memory
pub record IsSpent {B : Type 0} (q : Queue B) : Type 0 where
  pub empty : q.items ≡ []
  pub spent : q.spent ≡ true

-- the refusal is that of memory
abbrev pub is_memory : {NID N : Type 0} → EngineError NID N → Bool
is_memory OutOfMemory = true
is_memory _ = false

-- how a call ends whose refusals are `asks`: done, with `P` of its answer; out of memory, with an empty and spent
-- queue; or refused, with nothing changed
abbrev pub Ends : {A NID N B M : Type 0} → Option (EngineError NID N) → Result A (EngineError NID N) → Queue B → (A → Type 0) → M → M → Type 0
Ends asks (Ok x) queue P old new = (asks ≡ None) × P x
Ends asks (Err e) queue P old new = MatchBool (is_memory e) ((asks ≡ None) × IsSpent queue) ((asks ≡ Some e) × (new ≡ old))

-- the refusal of a call on a spent queue
abbrev pub refusals_of_spent : {NID N B : Type 0} → Queue B → Option (EngineError NID N)
refusals_of_spent q = if q.spent then Some Spent else None

-- how a step that allocates is settled: its answer stands, or the queue is empty and spent
abbrev pub Settles : {A NID N B : Type 0} → Result A AllocError → Queue B → Result A (EngineError NID N) → Queue B → Type 0
Settles (Ok x) old result new = (result ≡ Ok x) × (new ≡ old)
Settles (Err _) old result new = (result ≡ Err OutOfMemory) × (new ≡ emptied old)
