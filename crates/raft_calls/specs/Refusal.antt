-- What a call says of its refusal.
use Rattle.std.specs.Prelude.{ℕ, Option, None, Some, Result, Ok, Err, if◌then◌else◌}
use Rattle.std.specs.declared.alloc.AllocError.{AllocError}
use Rattle.raft_error.specs.declared.error.EngineError.{EngineError}
use Rattle.raft_error.specs.Number.{number_of}
use Rattle.raft_command.specs.Ends.{is_memory}

-- the number of a call's refusal, if any; out of memory there is none to tell
abbrev pub refusal_of : {A : Type 0} → Result A (EngineError ℕ (Unit {0})) → Result (Option ℕ) AllocError
refusal_of (Ok x) = Ok None
refusal_of (Err r) = if is_memory r then Err (record {}) else Ok (Some (number_of r))
