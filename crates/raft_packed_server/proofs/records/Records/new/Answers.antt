use Rattle.raft_packed_server.specs.Logs.{logged_by}
use Rattle.raft_packed_server.proofs.Coded.{logged_by_is}
use Rattle.raft_packed_server.proofs.Kept.{none_kept, none_seen}
use Rattle.raft_packed_server.proofs.records.Records.new.Goals as goal

pub invariant_of-result : goal.invariant_of-result
invariant_of-result g c =
    let codec = logged_by g.M.Machine.codec in
    let inverse = logged_by_is g.M.Machine.codec g.met.M.Machine.is_codec in
    none_kept codec inverse c.new.result.items c.new.ensures.items

pub returns : goal.returns
returns g c =
    let codec = logged_by g.M.Machine.codec in
    let inverse = logged_by_is g.M.Machine.codec g.met.M.Machine.is_codec in
    none_seen codec inverse c.new.result.items c.new.ensures.items
