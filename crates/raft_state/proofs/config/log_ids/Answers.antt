use Rattle.std.proofs.Common.{refl}
use Rattle.std.proofs.lemmas.List.{map_more}
use Rattle.raft_state.proofs.config.log_ids.Goals as goal

pub loop-entry-preserved : goal.loop-entry-preserved
loop-entry-preserved g c =
    rw (c.in_ok-push.ensures.items, c.loop-entry.invariant, c.get_log_id.ensures, map_more g.E.RaftEntry.id_of c.args.entries.now c.loop-entry.entry-index c.entry-item.result c.loop-entry-test.true, ← c.entry-item.is)
    refl
