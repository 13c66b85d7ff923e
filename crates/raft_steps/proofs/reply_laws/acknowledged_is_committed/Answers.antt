use Rattle.raft_steps.proofs.LawsReply.{else_stays, matching_law, progress_law, success_law}
use Rattle.raft_steps.proofs.reply_laws.acknowledged_is_committed.Goals as goal

pub returns : goal.returns
returns g c =
    let cmp = g.C.NodeId.Ord.cmp in
    let total = g.met.C.NodeId.Ord.total in
    let same = g.met.C.NodeId.NodeId.equal_is_same in
    record {
      by_matching = λ config target number x l a h. matching_law cmp total same config target number x l a h;
      by_success = λ config target id answer l t a h. success_law cmp total same config target id answer l t a h;
      by_progress = λ config target id reply l t a h. progress_law cmp total same config target id reply l t a h;
      else_stays = λ config target id reply l t. else_stays cmp total config target id reply l t;
    }
