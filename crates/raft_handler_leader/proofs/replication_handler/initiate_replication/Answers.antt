use Rattle.std.proofs.Common.{rules, ◌≡◌, ◌∙◌, ap, refl, map, length}
use Rattle.std.proofs.lemmas.List.{length-map}
use Rattle.std.specs.List.{flat_map}
use Rattle.raft_progress.specs.Table.{measures}
use Rattle.raft_command.specs.Queue.{queued}
use Rattle.raft_steps.specs.Parts.{led_of}
use Rattle.raft_steps.specs.ReplicationHandler.{sent_row, sends_of}
use Rattle.raft_steps.proofs.Sending.{sent_measures, initiated_is}
use Rattle.raft_handler_leader.proofs.replication_handler.initiate_replication.Goals as goal

pub push_sends-requires-clause-rows : goal.push_sends-requires-clause-rows
push_sends-requires-clause-rows g c = rw (c.deref.ensures.value, c.in_ok-rows.ensures) c.requires.rows

pub push_sends-requires-clause-log : goal.push_sends-requires-clause-log
push_sends-requires-clause-log g c = c.requires.log

pub sent_rows-requires-clause-rows : goal.sent_rows-requires-clause-rows
sent_rows-requires-clause-rows g c = rw (c.deref-2.ensures.value, c.in_ok-rows.ensures) c.requires.rows

pub sent_rows-requires-clause-log : goal.sent_rows-requires-clause-log
sent_rows-requires-clause-log g c = c.requires.log

pub replace_rows-requires-clause-count : goal.replace_rows-requires-clause-count
replace_rows-requires-clause-count g c =
    let e : c.in_ok-sent.sent.items ≡ map (sent_row g.C.NodeId.Ord.cmp c.args.config.now c.args.state.now) c.args.leader.now.progress.rows = rw (c.in_ok-sent.ensures, c.deref-2.ensures.value, c.in_ok-rows.ensures) refl in
    ap length e ∙ length-map c.args.leader.now.progress.rows (sent_row g.C.NodeId.Ord.cmp c.args.config.now c.args.state.now)

pub replace_rows-requires-clause-same : goal.replace_rows-requires-clause-same
replace_rows-requires-clause-same g c =
    let e : c.in_ok-sent.sent.items ≡ map (sent_row g.C.NodeId.Ord.cmp c.args.config.now c.args.state.now) c.args.leader.now.progress.rows = rw (c.in_ok-sent.ensures, c.deref-2.ensures.value, c.in_ok-rows.ensures) refl in
    ap (measures (λ e. e.matching)) e ∙ sent_measures g.C.NodeId.Ord.cmp c.args.config.now c.args.state.now c.args.leader.now.progress.rows

pub returns : goal.returns
returns g c =
    let e : c.in_ok-sent.sent.items ≡ map (sent_row g.C.NodeId.Ord.cmp c.args.config.now c.args.state.now) c.args.leader.now.progress.rows = rw (c.in_ok-sent.ensures, c.deref-2.ensures.value, c.in_ok-rows.ensures) refl in
    let f : c.push_sends.new.output ≡ queued c.args.output.now (flat_map (sends_of g.C.NodeId.Ord.cmp c.args.config.now c.args.force c.args.state.now) c.args.leader.now.progress.rows) = rw (c.in_ok-push_sends.ensures, c.deref.ensures.value, c.in_ok-rows.ensures) refl in
    initiated_is g.C.NodeId.Ord.cmp c.args.config.now c.args.force (led_of c.args.leader.now c.args.state.now c.args.output.now) _ c.in_ok-sent.sent.items c.push_sends.new.output e f (search rules)
