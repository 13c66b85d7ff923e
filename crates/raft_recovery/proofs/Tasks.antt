-- What is answered for the words of a command line.
use Rattle.std.proofs.Common.{ℕ, ◌≡◌, inr, List, refl, subst, sym, Option, None, Some, Err}
use Rattle.raft_store.specs.declared.entry.Value.{Value}
use Rattle.raft_store.specs.declared.entry.Value.TheVariants.{Number}
use Rattle.raft_world.specs.declared.error.WorldError.TheVariants.{OutOfMemory}
use Rattle.raft_world.specs.declared.streams.Failure.TheVariants as failure
use Rattle.raft_recovery.specs.declared.simulation.Refusal.TheVariants as refusal
use Rattle.raft_recovery.specs.declared.words.Task.{Task}
use Rattle.raft_recovery.specs.declared.words.WordsError.{WordsError}
use Rattle.raft_recovery.specs.declared.words.WordsError.TheVariants as errors
use Rattle.raft_recovery.specs.Simulated.{StatusOf}
use Rattle.raft_recovery.specs.Tasks.{Gives, StatusOfTask, StatusOfWords, asked}

-- out of memory the status is 1
out_of_memory : (known : Option (List ℕ)) (up : List ℕ) (value : Value) → StatusOf known up value 1
out_of_memory known up value = inr (refusal.Run (failure.World OutOfMemory), refl, inr tt)

-- so it is if the words ask for nothing
pub refused : (known : Option (List ℕ)) (words : List (List ℕ)) (e : WordsError)
    → Gives (λ (task : Task). (task.number, task.up.items)) (Err e) (asked words) → StatusOfWords known words 1
refused known words e h = go (asked words) e h
  where
    go : (o : Option (ℕ × List ℕ)) (e : WordsError) → Gives (λ (task : Task). (task.number, task.up.items)) (Err e) o → StatusOfTask known o 1
    go None e h = refl
    go (Some task) errors.NoWords h = let z : Some task ≡ None = h in cc
    go (Some task) (errors.NoNumber word) h = let z : Some task ≡ None = h in cc
    go (Some task) errors.OutOfMemory h = out_of_memory known task.1 (Number task.0)
