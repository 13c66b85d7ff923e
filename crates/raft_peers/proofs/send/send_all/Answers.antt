use Rattle.std.proofs.Common.{[], ◌++◌, ◌∙◌, ap, sym, append_assoc}
use Rattle.std.proofs.lemmas.List.{append-nil}
use Rattle.raft_peers.proofs.Sent.{sends_more, sends_none}
use Rattle.raft_peers.proofs.send.send_all.Goals as goal

pub loop-message-init : goal.loop-message-init
loop-message-init g c = (
  [],
  sends_none g.M.Machine.application g.M.Machine.codec c.args.sender.start c.args.preparing.now.items,
  sym (append-nil c.args.outputs.now.items),
)

pub loop-message-preserved : goal.loop-message-preserved
loop-message-preserved g c =
    let before = c.loop-message.invariant in
    let one = c.in_ok-send_one.ensures.leaves in (
      before.0 ++ one.0,
      sends_more g.M.Machine.application g.M.Machine.codec c.args.sender.start c.loop-message.yielded c.in-Some.message c.args.preparing.now.items
          c.loop-message.preparing.items c.send_one.new.preparing.items before.0 one.0 before.1 one.2 c.in_ok-send_one.ensures.preparing,
      one.1 ∙ (ap (λ out. out ++ one.0) before.2 ∙ append_assoc c.args.outputs.now.items before.0 one.0),
    )
