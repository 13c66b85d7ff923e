use Rattle.std.proofs.Common.{◌≡◌, ◌++◌, drop, length, IfSome}
use Rattle.std.proofs.lemmas.Option.{IfSome_then}
use Rattle.std.proofs.lemmas.Result.{IfOk-weaker}
use Rattle.raft_node.specs.Runs.{events_of}
use Rattle.raft_recovery.specs.declared.recovery.Recovery.{Recovery}
use Rattle.raft_recovery.specs.Recoveries.{GoesBy, RecoversBehind, Recovers}
use Rattle.raft_recovery.specs.Ways.{way_of}
use Rattle.raft_recovery.proofs.Trying.{goes_again, goes_on_by}
use Rattle.raft_recovery.proofs.recovery.go_on_again.Goals as goal

pub returns : goal.returns
returns c =
    let old = c.args.old.now in
    let mid = c.args.new.now in
    let new = c.go_on.new.world in
    let up = c.args.up.now in
    let value = c.args.value.now in
    let way = way_of mid.given mid.history.net up value c.args.id c.in-Some.found in
    let Found : Recovery → Type 0 =
    λ (r : Recovery). (r.events ≡ events_of (drop (length old.history.past) new.history.past))
    × Recovers old.given old.history.net new.history.net up r.log_id value (length r.events) in
    let goes : GoesBy old (c.requires.0 ++ way) new = goes_again old mid new way c.requires c.in_ok-go_on.ensures in
    IfOk-weaker c.judged.result (λ o. IfSome o Found) (λ o. IfSome o (λ r. RecoversBehind old up value r new))
    (λ o h. IfSome_then o h (λ r k. goes_on_by old new up value r (c.requires.0 ++ way) goes k.0 k.1))
    c.judged.ensures.ok
