use Rattle.std.proofs.Common.{rules, ◌≡◌, ◌∙◌, ap, refl, map, length}
use Rattle.std.proofs.lemmas.List.{length-map}
use Rattle.std.specs.Prelude.{filter}
use Rattle.raft_progress.specs.Table.{measures}
use Rattle.raft_steps.specs.Parts.{led_of}
use Rattle.raft_steps.specs.ReplicationHandler.{silenced_row, is_other}
use Rattle.raft_steps.proofs.Sending.{silenced_measures, rebuilt_is}
use Rattle.raft_handler_leader.proofs.replication_handler.rebuild_replication_streams.Goals as goal

pub replace_rows-requires-clause-count : goal.replace_rows-requires-clause-count
replace_rows-requires-clause-count g c =
    let e : c.in_ok-silenced.silenced.items ≡ map (silenced_row g.C.NodeId.Ord.cmp c.args.config.now) c.args.leader.now.progress.rows = rw (c.in_ok-silenced.ensures, c.deref.ensures.value, c.in_ok-rows.ensures) refl in
    ap length e ∙ length-map c.args.leader.now.progress.rows (silenced_row g.C.NodeId.Ord.cmp c.args.config.now)

pub replace_rows-requires-clause-same : goal.replace_rows-requires-clause-same
replace_rows-requires-clause-same g c =
    let e : c.in_ok-silenced.silenced.items ≡ map (silenced_row g.C.NodeId.Ord.cmp c.args.config.now) c.args.leader.now.progress.rows = rw (c.in_ok-silenced.ensures, c.deref.ensures.value, c.in_ok-rows.ensures) refl in
    ap (measures (λ e. e.matching)) e ∙ silenced_measures g.C.NodeId.Ord.cmp c.args.config.now c.args.leader.now.progress.rows

pub returns-clause-step : goal.returns-clause-step
returns-clause-step g c =
    let e : c.in_ok-silenced.silenced.items ≡ map (silenced_row g.C.NodeId.Ord.cmp c.args.config.now) c.args.leader.now.progress.rows = rw (c.in_ok-silenced.ensures, c.deref.ensures.value, c.in_ok-rows.ensures) refl in
    let f : c.in_ok-targets.targets.items ≡ filter (is_other g.C.NodeId.Ord.cmp c.args.config.now) c.in_ok-silenced.silenced.items = rw (c.in_ok-targets.ensures, c.deref-2.ensures.value) refl in
    rebuilt_is g.C.NodeId.Ord.cmp c.args.config.now (led_of c.args.leader.now c.args.state.now c.args.output.now) _ c.in_ok-silenced.silenced.items c.in_ok-targets.targets.items e f (search rules)
