use Rattle.std.proofs.Common.{Option, inr, refl, subst}
use Rattle.raft_frames.specs.declared.header.LogId.{LogId}
use Rattle.proof_requests.specs.raft_core.Calls.{BeginsNewLog, MayBeginLog}
use Rattle.proof_requests.specs.raft_packed_server.declared.batch.NewLog.{NewLog}
use Rattle.raft_cluster.proofs.machine.Machine.begin_log.Goals as goal

pub returns-in_ok-self-in-Ok-Some-clause-does : goal.returns-in_ok-self-in-Ok-Some-clause-does
returns-in_ok-self-in-Ok-Some-clause-does g c =
    inr (inr (record {
      none = refl;
      core = c.in-Some.core;
      is_open = c.in-Some.is;
      next = c.begin.new.core;
      log = c.in-Ok-Some.log;
      does = subst (λ (name : LogId). BeginsNewLog g.M.Machine.codec name c.in-Some.core c.in-Ok-Some.log c.begin.new.core) c.log-name.ensures
          (subst (λ (o : Option NewLog). MayBeginLog g.M.Machine.codec c.log-name.result c.in-Some.core o c.begin.new.core) c.in-Ok-Some.field-0-is
          c.in-Ok-Some.ensures);
      beside = c.in_ok-self-in-Ok-Some.ensures;
      becomes = refl;
    }))
