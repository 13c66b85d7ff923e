use Rattle.std.proofs.Common.{inr, refl, rules}
use Rattle.raft_cluster.proofs.machine.Machine.take_over.Goals as goal

pub returns-clause-does : goal.returns-clause-does
returns-clause-does g c =
    inr (inr (record {
      none = refl;
      core = c.in-Some.core;
      is_open = c.in-Some.is;
      next = c.take_over.new.self;
      end = c.in-Some-take_over.field-0;
      does = c.in-Some-take_over.ensures;
      id = refl;
      now = refl;
      written = refl;
      disk = search rules;
    }))
