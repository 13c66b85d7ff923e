use Rattle.std.proofs.Common.{ap, ◌∙◌}
use Rattle.std.proofs.lemmas.Result.{on_ok_weaker}
use Rattle.proof_packed_servers.specs.Servers.{PackedDisk}
use Rattle.raft_packed_server.specs.Logs.{kept_on_disk, with_named}
use Rattle.raft_packed_server.proofs.Opening.{replayed_named}
use Rattle.raft_packed_server.proofs.recovery.replay.Goals as goal

pub returns : goal.returns
returns g c =
    let app = g.M.Machine.application in
    let inside : PackedDisk g.row.M.Denot = record { store = c.disk.inside.store.store; moment = c.disk.inside.moment } in
    on_ok_weaker c.replay.result (λ made. replayed_named app c.args.next inside c.replay.new.store.store made
    ∙ ap (λ (d : PackedDisk g.row.M.Denot). with_named app c.args.next (kept_on_disk app d)) c.disk.view_is) c.replay.ensures
