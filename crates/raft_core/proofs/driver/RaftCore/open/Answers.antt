use Rattle.std.proofs.Common.{◌≡◌, refl}
use Rattle.std.specs.Prelude.{IfSome, None, Some, if◌then◌else◌, nat_eq}
use Rattle.raft_peers.specs.proof_packed.Stores.{Packed}
use Rattle.raft_core.proofs.Begun.{has_snapshot}
use Rattle.raft_core.proofs.Copied.{given_by}
use Rattle.raft_core.proofs.driver.RaftCore.open.Goals as goal

pub returns : goal.returns
returns g c =
    let opened = c.in_ok-opened.opened in
    let opens = c.in_ok-opened.ensures.opens in
    let applied = c.in_ok-applied.applied in
    let missing = if nat_eq opened.end 0 then Some c.args.id.now else None in
    let copied : IfSome opened.server.serving (λ v. applied ≡ v.node.store.snap) =
    given_by (λ (p : Packed g.row.M.Denot). IfSome opened.server.serving (λ v. p ≡ v.node.store.snap)) _ c.snapshot_of.result c.map_err.result applied
    c.snapshot_of.ensures c.map_err.ensures.cases c.map_err.ensures.variant c.in_ok-applied.was in
    record {
      opens = opens;
      is_given = c.in_ok-opened.ensures.given;
      node = refl;
      applied = has_snapshot opened.server.serving missing opens.contents.tail applied opens.tail copied;
      requests = c.new-2.ensures;
      executed = refl;
      reads = c.new-3.ensures;
      preparing = c.new-5.ensures.items;
      outgoing = c.new-6.ensures.items;
      incoming = c.new-7.ensures;
    }
