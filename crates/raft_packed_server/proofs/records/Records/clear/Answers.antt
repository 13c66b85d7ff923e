use Rattle.raft_packed_server.specs.Logs.{logged_by}
use Rattle.raft_packed_server.proofs.Coded.{logged_by_is}
use Rattle.raft_packed_server.proofs.Kept.{none_kept, none_seen}
use Rattle.raft_packed_server.proofs.records.Records.clear.Goals as goal

pub invariant_of-self : goal.invariant_of-self
invariant_of-self g c =
    let codec = logged_by g.M.Machine.codec in
    let inverse = logged_by_is g.M.Machine.codec g.met.M.Machine.is_codec in
    none_kept codec inverse c.clear.new.self.items c.clear.ensures.items

pub returns : goal.returns
returns g c =
    let codec = logged_by g.M.Machine.codec in
    let inverse = logged_by_is g.M.Machine.codec g.met.M.Machine.is_codec in
    none_seen codec inverse c.clear.new.self.items c.clear.ensures.items
