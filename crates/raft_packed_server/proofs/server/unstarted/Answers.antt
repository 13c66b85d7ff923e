use Rattle.std.proofs.Common.{None, ap, ◌∙◌}
use Rattle.proof_packed_servers.specs.Servers.{PackedDisk, packed_stopped_node}
use Rattle.raft_packed_server.proofs.server.unstarted.Goals as goal

pub returns : goal.returns
returns g c = λ i. record {
  node =
      (c.stopped.ensures ∙ ap (λ (d : PackedDisk g.row.M.Denot). packed_stopped_node c.args.id.now.node d) c.disk.view_is) i;
  reserved = ap (λ (d : PackedDisk g.row.M.Denot). d.moment) c.disk.view_is i;
  written = None;
  steps = 0;
  records = c.new.ensures i;
  outputs = c.new-2.ensures i;
  header = c.missing_header.ensures i;
  tail = c.args.recovery.tail;
  next = None;
}
