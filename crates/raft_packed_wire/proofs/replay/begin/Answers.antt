use Rattle.std.proofs.Common.{ap, sym, ◌≡◌, ◌∙◌}
use Rattle.std.proofs.lemmas.Result.{on_ok_weaker}
use Rattle.raft_packed_node.specs.proof_packed.Stores.{Application, PackedStore}
use Rattle.raft_packed_node.specs.raft_packed.Kept.{NotedStore}
use Rattle.raft_packed_wire.specs.declared.named.Named.{Named}
use Rattle.raft_packed_wire.specs.declared.named.Named.TheVariants.{Folded, Whole}
use Rattle.raft_packed_wire.specs.declared.record.PackedBegan.{PackedBegan}
use Rattle.raft_packed_wire.specs.declared.record.PackedBegan.TheVariants.{Built}
use Rattle.raft_packed_wire.specs.Named.{whole_began}
use Rattle.raft_packed_wire.specs.Records.{packed_begun, packed_on_disk}
use Rattle.raft_packed_wire.proofs.replay.begin.Goals as goal

-- what is made of a store, on disk, by what was begun
abbrev made_by : {S : Type 0} → Application S → PackedStore S → PackedBegan (Named S) → PackedStore S
made_by app t b = packed_on_disk app (packed_begun app (whole_began app t b) t)

pub returns-in-Unchanged : goal.returns-in-Unchanged
returns-in-Unchanged g c = ap (made_by g.M.Machine.application c.args.store.now.store) (sym c.in-Unchanged.is)

pub returns-in-Settled : goal.returns-in-Settled
returns-in-Settled g c =
    let app = g.M.Machine.application in
    ap (λ (s : NotedStore g.row.M.Denot). packed_on_disk app s.store) c.settle.ensures
    ∙ ap (made_by app c.args.store.now.store) (sym c.in-Settled.is)

pub returns-in_ok-keep_snapshot-in-Built-Whole : goal.returns-in_ok-keep_snapshot-in-Built-Whole
returns-in_ok-keep_snapshot-in-Built-Whole g c =
    let app = g.M.Machine.application in
    let whole : c.args.began ≡ Built (Whole c.in-Built-Whole.snapshot) = cc in
    ap (λ (s : NotedStore g.row.M.Denot). packed_on_disk app s.store) c.in_ok-keep_snapshot-in-Built-Whole.ensures
    ∙ ap (made_by app c.args.store.now.store) (sym whole)

pub returns-in-Built-Folded : goal.returns-in-Built-Folded
returns-in-Built-Folded g c =
    let app = g.M.Machine.application in
    let named : c.args.began ≡ Built (Folded c.in-Built-Folded.end) = cc in
    on_ok_weaker c.fold_log.result (λ made. ap (packed_on_disk app) made ∙ ap (made_by app c.args.store.now.store) (sym named)) c.fold_log.ensures
