use Rattle.std.proofs.Common.{rules, ◌∙◌, ◌<◌, ◌≤◌, sym, ap, subst, length, map}
use Rattle.std.proofs.lemmas.List.{take_all}
use Rattle.std.proofs.lemmas.List.Elements.{All-get_or}
use Rattle.raft_steps.specs.ReplicationHandler.{sent_row}
use Rattle.raft_steps.specs.Sending.{CanSend}
use Rattle.raft_steps.proofs.Walks.{written_more}
use Rattle.raft_handler_leader.proofs.replication_handler.sent_rows.Goals as goal

pub send_row-requires-clause-row : goal.send_row-requires-clause-row
send_row-requires-clause-row g c =
    let lt : c.loop-row.row-index < length c.args.rows.now = search rules in
    subst (CanSend 1) (sym c.row-item.is) (All-get_or (CanSend 1) c.args.rows.now c.loop-row.row-index c.row-item.result lt c.requires.rows)

pub loop-row-preserved : goal.loop-row-preserved
loop-row-preserved g c =
    let lt : c.loop-row.row-index < length c.args.rows.now = search rules in
    written_more (sent_row g.NID.Ord.cmp c.args.config.now c.args.state.now) c.args.rows.now c.loop-row.row-index c.row-item.result c.send_row.result c.loop-row.sent.items c.push.new.self.items
    lt c.loop-row.invariant c.in_ok-push.ensures.items c.send_row.ensures c.row-item.is

pub returns : goal.returns
returns g c =
    let ge : length c.args.rows.now ≤ c.loop-row.row-index = search rules in
    c.loop-row.invariant ∙ ap (map (sent_row g.NID.Ord.cmp c.args.config.now c.args.state.now)) (take_all c.loop-row.row-index c.args.rows.now ge)
