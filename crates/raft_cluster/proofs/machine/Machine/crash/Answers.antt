use Rattle.std.proofs.Common.{ap, refl, ◌∙◌}
use Rattle.raft_cluster.specs.declared.machine.Machine.{Machine}
use Rattle.raft_cluster.proofs.machine.Machine.crash.Goals as goal

pub returns-then-not-was_open-clause-stops : goal.returns-then-not-was_open-clause-stops
returns-then-not-was_open-clause-stops g c =
    let e = c.close.ensures in
    record {
      none = refl;
      id = ap (λ (m : Machine g.row.M.Denot). m.id) e;
      closed = ap (λ (m : Machine g.row.M.Denot). m.core) e;
      written = ap (λ (m : Machine g.row.M.Denot). m.written) e;
      bytes = c.args.bytes;
      disk = ap (λ (m : Machine g.row.M.Denot). m.disk.items) e ∙ c.in_ok-spill.ensures;
    }

pub returns-clause-stops : goal.returns-clause-stops
returns-clause-stops g c =
    let e = c.close.ensures in
    record {
      none = refl;
      id = ap (λ (m : Machine g.row.M.Denot). m.id) e;
      closed = ap (λ (m : Machine g.row.M.Denot). m.core) e;
      written = ap (λ (m : Machine g.row.M.Denot). m.written) e;
      bytes = c.args.bytes;
      disk = ap (λ (m : Machine g.row.M.Denot). m.disk.items) e ∙ c.in_ok-spill.ensures;
    }
