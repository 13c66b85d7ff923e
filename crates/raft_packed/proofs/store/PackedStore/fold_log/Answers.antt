use Rattle.raft_packed.specs.Kept.{folded}
use Rattle.raft_packed.proofs.Folded.{folds}
use Rattle.raft_packed.proofs.store.PackedStore.fold_log.Goals as goal

pub returns : goal.returns
returns g c =
    let app = g.M.Machine.application in
    let old = c.args.self.now in
    folds app old.store (folded app old.store c.args.end) c.apply_from_snapshot.new.self c.note.new.self c.keep_noted.new.self
    c.in_ok-apply_from_snapshot.ensures c.in_ok-note.ensures c.in_ok-keep_noted.ensures
