use Rattle.std.proofs.Common.{rules, ◌≡◌, true}
use Rattle.raft_state.specs.State.{is_leader}
use Rattle.raft_steps.specs.Parts.{machine_of}
use Rattle.raft_steps.proofs.Started.{can_lead_on}
use Rattle.raft_engine.proofs.starts.startup.Goals as goal

pub lead_on_where_leading-requires-clause-send : goal.lead_on_where_leading-requires-clause-send
lead_on_where_leading-requires-clause-send g c =
    let leads : is_leader g.C.NodeId.Ord.cmp c.args.state.now c.args.config.now.id ≡ true = search rules in
    (can_lead_on g.C.NodeId.Ord.cmp g.C.Entry.RaftEntry g.met.C.Entry.RaftEntry.with_id_has c.args.config.now
    (machine_of c.args.state.now c.args.output.now c.args.leader.now c.args.candidate.now) _ c.in_ok-update_internal_server_state.ensures leads c.requires.room c.requires.counters c.requires.sound).0

pub lead_on_where_leading-requires-clause-number : goal.lead_on_where_leading-requires-clause-number
lead_on_where_leading-requires-clause-number g c =
    let leads : is_leader g.C.NodeId.Ord.cmp c.args.state.now c.args.config.now.id ≡ true = search rules in
    (can_lead_on g.C.NodeId.Ord.cmp g.C.Entry.RaftEntry g.met.C.Entry.RaftEntry.with_id_has c.args.config.now
    (machine_of c.args.state.now c.args.output.now c.args.leader.now c.args.candidate.now) _ c.in_ok-update_internal_server_state.ensures leads c.requires.room c.requires.counters c.requires.sound).1
