-- No call but an install queues a command that installs a snapshot.
use Rattle.std.specs.Prelude.{◌≡◌, false, refl}
use Rattle.raft_node.specs.raft_store.Types.{WorldCommand}
use Rattle.raft_node.proofs.raft_calls_proofs.Queues.{AllowsCalls}
use Rattle.proof_packed.specs.Data.{installs_snapshot}

-- a command that installs no snapshot
abbrev pub IsNoInstall : WorldCommand → Type 0
IsNoInstall c = installs_snapshot c ≡ false

pub none_installs : AllowsCalls IsNoInstall
none_installs = record {
  leading = record {
    becomes = refl;
    quits = refl;
    saves = λ v. refl;
    rebuilds = λ targets. refl;
    replicates = λ target f. refl;
    tells = λ x. refl;
    commits = λ seq a b. refl;
    builds = λ seq. refl;
  };
  appends = λ v es. refl;
  asks = λ req. refl;
  replies = λ reply. refl;
  cuts = λ x. refl;
  purges = λ x. refl;
}
