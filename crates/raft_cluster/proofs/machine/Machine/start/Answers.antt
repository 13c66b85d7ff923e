use Rattle.std.proofs.Common.{List, refl, rules, subst, ℕ}
use Rattle.raft_frames.specs.declared.header.LogId.{LogId}
use Rattle.proof_requests.specs.raft_core.Calls.{Begins}
use Rattle.raft_cluster.specs.Servers.{log_on}
use Rattle.raft_cluster.proofs.machine.Machine.start.Goals as goal

pub returns-in-Ok-clause-starts : goal.returns-in-Ok-clause-starts
returns-in-Ok-clause-starts g c =
    let o = c.in-Ok.field-0 in
    record {
      was_closed = search rules;
      opened = o;
      begins =
          subst (λ (bytes : List ℕ). Begins g.M.Machine.application g.M.Machine.codec c.args.given (log_on c.args.self.now) bytes o) c.deref.ensures.value
          (subst (λ (name : LogId). Begins g.M.Machine.application g.M.Machine.codec c.args.given name c.deref.result.now o) c.log-name.ensures c.in-Ok.ensures);
      id = refl;
      now = search rules;
      written = refl;
      disk = search rules;
    }
