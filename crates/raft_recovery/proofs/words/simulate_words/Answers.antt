use Rattle.std.proofs.Common.{ℕ, List, Option, map, subst, sym}
use Rattle.std.specs.String.{string_bytes}
use Rattle.raft_store.specs.declared.entry.Value.TheVariants.{Number}
use Rattle.raft_recovery.specs.Simulated.{StatusOf}
use Rattle.raft_recovery.specs.Tasks.{StatusOfTask}
use Rattle.raft_recovery.proofs.Tasks.{refused}
use Rattle.raft_recovery.proofs.words.simulate_words.Goals as goal

pub returns-in-Ok : goal.returns-in-Ok
returns-in-Ok g c =
    subst (λ (o : Option (ℕ × List ℕ)). StatusOfTask (g.R.Read.remaining c.args.input) o c.simulate_recovery.result) (sym c.in-Ok.ensures)
    (subst (λ (up : List ℕ). StatusOf (g.R.Read.remaining c.args.input) up (Number c.in-Ok.task.number) c.simulate_recovery.result)
    c.deref.ensures.value c.simulate_recovery.ensures)

pub returns-in-Err : goal.returns-in-Err
returns-in-Err g c = refused (g.R.Read.remaining c.args.input) (map string_bytes c.args.words.now) c.in-Err.error c.in-Err.ensures
