use Rattle.std.proofs.Common.{rules, ◌∙◌, ◌<◌, ◌≤◌, sym, ap, subst, length}
use Rattle.std.specs.List.{flat_map}
use Rattle.std.proofs.lemmas.List.{take_all}
use Rattle.std.proofs.lemmas.List.Elements.{All-get_or}
use Rattle.raft_command.specs.Queue.{queued}
use Rattle.raft_steps.specs.ReplicationHandler.{sends_of}
use Rattle.raft_steps.specs.Sending.{CanSend}
use Rattle.raft_steps.proofs.Walks.{queued_more}
use Rattle.raft_handler_leader.proofs.replication_handler.push_sends.Goals as goal

pub push_send-requires-clause-row : goal.push_send-requires-clause-row
push_send-requires-clause-row g c =
    let lt : c.loop-row.row-index < length c.args.rows.now = search rules in
    subst (CanSend 1) (sym c.row-item.is) (All-get_or (CanSend 1) c.args.rows.now c.loop-row.row-index c.row-item.result lt c.requires.rows)

pub loop-row-preserved : goal.loop-row-preserved
loop-row-preserved g c =
    let lt : c.loop-row.row-index < length c.args.rows.now = search rules in
    queued_more (sends_of g.C.NodeId.Ord.cmp c.args.config.now c.args.force c.args.state.now) c.args.output.now c.loop-row.output c.push_send.new.output c.args.rows.now c.loop-row.row-index c.row-item.result
    lt c.loop-row.invariant c.in_ok-push_send.ensures c.row-item.is

pub returns : goal.returns
returns g c =
    let ge : length c.args.rows.now ≤ c.loop-row.row-index = search rules in
    c.loop-row.invariant
    ∙ ap (λ rows. queued c.args.output.now (flat_map (sends_of g.C.NodeId.Ord.cmp c.args.config.now c.args.force c.args.state.now) rows)) (take_all c.loop-row.row-index c.args.rows.now ge)
