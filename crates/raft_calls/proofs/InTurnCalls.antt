-- No call but an install queues a reply that waits.
use Rattle.std.specs.Prelude.{◌≡◌, None, refl}
use Rattle.raft_command.specs.Kind.{condition_of}
use Rattle.raft_steps.specs.Laws.{QueuesOnly}
use Rattle.raft_store.specs.Types.{WorldCommand}
use Rattle.raft_calls.proofs.Falls.{WorldCore}
use Rattle.raft_calls.proofs.Queues.{AllowsCalls}

-- a command that waits for nothing
abbrev pub Unwaiting : WorldCommand → Type 0
Unwaiting c = condition_of c ≡ None

-- a step queues such commands alone
abbrev pub Only : WorldCore → WorldCore → Type 0
Only old new = QueuesOnly Unwaiting old new

pub unwaiting : AllowsCalls Unwaiting
unwaiting = record {
  leading = record {
    becomes = refl;
    quits = refl;
    saves = λ v. refl;
    rebuilds = λ targets. refl;
    replicates = λ target f. refl;
    tells = λ x. refl;
    commits = λ seq a b. refl;
    builds = λ seq. refl;
  };
  appends = λ v es. refl;
  asks = λ req. refl;
  replies = λ reply. refl;
  cuts = λ x. refl;
  purges = λ x. refl;
}
