use Rattle.std.proofs.Common.{ap, ◌≡◌, ◌∙◌}
use Rattle.std.specs.Prelude.{fold}
use Rattle.std.proofs.lemmas.Result.{on_ok_weaker}
use Rattle.raft_packed_node.specs.raft_packed.Kept.{NotedStore}
use Rattle.raft_packed_wire.specs.Named.{whole_began}
use Rattle.raft_packed_wire.specs.Records.{packed_begun, packed_changed, packed_on_disk}
use Rattle.raft_packed_wire.proofs.Replays.{all_same}
use Rattle.raft_packed_wire.proofs.record.NamedRecord.replay.Goals as goal

pub returns : goal.returns
returns g c =
    let app = g.M.Machine.application in
    let r = c.args.self in
    let old = c.args.store.now.store in
    let begun = c.begin.new.store.store in
    let all : c.into_vec.result.items ≡ r.changes = c.into_vec.ensures in
    on_ok_weaker c.apply_all.result (λ done.
    ap (λ (s : NotedStore g.row.M.Denot). packed_on_disk app s.store) done
    ∙ (ap (λ cs. packed_on_disk app (fold (packed_changed app) begun cs)) all
    ∙ all_same app r.changes begun (packed_begun app (whole_began app old r.began) old) c.in_ok-begin.ensures)) c.apply_all.ensures
