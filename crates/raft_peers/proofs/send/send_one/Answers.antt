use Rattle.raft_peers.proofs.Sent.{prepared, prepared_leaves, sent_leaves, sent_prepared}
use Rattle.raft_peers.proofs.send.send_one.Goals as goal

pub returns-in-Whole-clause-leaves : goal.returns-in-Whole-clause-leaves
returns-in-Whole-clause-leaves g c =
    let same = rw c.in-Whole.is at c.in_ok-leaving.ensures in
    sent_leaves g.M.Machine.application g.M.Machine.codec c.args.sender.start c.send.result c.args.message c.in-Whole.message c.new.result
    c.args.outputs.now.items c.send.new.outputs.items same c.new.ensures c.send.ensures.sent c.send.ensures.fits

pub returns-in-Whole-clause-preparing : goal.returns-in-Whole-clause-preparing
returns-in-Whole-clause-preparing g c =
    sent_prepared g.M.Machine.application g.M.Machine.codec c.args.sender.start c.send.result c.args.message c.args.preparing.now.items

pub returns-in-InParts-clause-leaves : goal.returns-in-InParts-clause-leaves
returns-in-InParts-clause-leaves g c =
    let found = rw c.in-InParts.is at c.in_ok-leaving.ensures in
    prepared_leaves g.M.Machine.application g.M.Machine.codec c.args.sender.start c.prepare.result c.args.message c.args.outputs.now.items found.1

pub returns-in-InParts-clause-preparing : goal.returns-in-InParts-clause-preparing
returns-in-InParts-clause-preparing g c =
    let found = rw c.in-InParts.is at c.in_ok-leaving.ensures in
    prepared g.M.Machine.application g.M.Machine.codec c.args.sender.start c.prepare.result c.args.message c.in-InParts.one
    c.args.preparing.now.items c.prepare.new.preparing.items found.0 c.prepare.ensures
