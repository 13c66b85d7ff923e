use Rattle.std.proofs.lemmas.Result.{on_ok_weaker}
use Rattle.raft_wire.proofs.Replays.{all_replayed}
use Rattle.raft_wire.proofs.record.Record.replay.Goals as goal

pub returns : goal.returns
returns c =
    on_ok_weaker c.apply_all.result (λ h. all_replayed c.args.self.began c.args.self.changes c.into_vec.result.items c.args.store.now c.begin.new.store c.apply_all.new.store c.in_ok-begin.ensures c.into_vec.ensures h) c.apply_all.ensures
