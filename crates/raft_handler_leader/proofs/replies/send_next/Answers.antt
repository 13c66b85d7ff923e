use Rattle.std.proofs.Common.{◌≡◌, ◌∙◌, ap, sym, is_some, Result, Some}
use Rattle.raft_progress.specs.Table.{get}
use Rattle.raft_progress_entry.specs.Entry.{sent}
use Rattle.raft_progress_entry.specs.declared.entry.Inflight.{Inflight}
use Rattle.raft_progress_entry.specs.declared.entry.ProgressEntry.{ProgressEntry}
use Rattle.raft_steps.proofs.Replied.{same_rises, sent_matching}
use Rattle.raft_handler_leader.proofs.replies.send_next.Goals as goal

-- what is sent leaves what matches
same_matching : {NID : Type 0} (e v : ProgressEntry NID) (r : Result (Inflight NID) (Inflight NID)) → v ≡ sent e r → v.matching ≡ e.matching
same_matching e v r h = rw h (sent_matching e r)

pub acknowledge-requires-clause-known : goal.acknowledge-requires-clause-known
acknowledge-requires-clause-known g c = ap is_some (sym c.entry_of.ensures ∙ c.in-Some.is)

pub acknowledge-requires-clause-rises : goal.acknowledge-requires-clause-rises
acknowledge-requires-clause-rises g c =
    let cmp = g.C.NodeId.Ord.cmp in
    let held : get cmp c.args.leader.now.progress c.args.target.now ≡ Some c.in-Some.entry = sym c.entry_of.ensures ∙ c.in-Some.is in
    same_rises cmp g.met.C.NodeId.Ord.total c.args.leader.now.progress c.args.target.now c.in-Some.entry c.next_send-sent.new.self held
    (same_matching c.in-Some.entry c.next_send-sent.new.self _ c.next_send-sent.ensures.entry)
