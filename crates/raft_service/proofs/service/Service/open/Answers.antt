use Rattle.std.proofs.Common.{refl}
use Rattle.raft_service.proofs.service.Service.open.Goals as goal

pub returns : goal.returns
returns c = record {
  server = c.in_ok-core.field-0;
  begins = c.in_ok-core.ensures;
  end = refl;
  intake = c.new.ensures;
  named = refl;
  executed = c.install.ensures;
  clients = c.new-2.ensures;
}
