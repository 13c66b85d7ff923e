use Rattle.std.proofs.Common.{ap, ◌∙◌}
use Rattle.std.proofs.lemmas.Result.{on_ok_weaker}
use Rattle.proof_packed_stores.specs.Stores.{PackedStore}
use Rattle.raft_packed.specs.Kept.{NotedStore, StatesView, folded}
use Rattle.raft_packed.proofs.Folded.{applied_none, applied_upto, none_upto, upto_end}
use Rattle.raft_packed.proofs.store.PackedStore.apply_from_snapshot.Goals as goal

pub returns-in-Some : goal.returns-in-Some
returns-in-Some g c =
    let app = g.M.Machine.application in
    let old = c.self.inside in
    let end = c.args.end in
    let last = c.in-Some.last in
    let stored : StatesView g.row.M.Denot → PackedStore g.row.M.Denot =
    λ states. record {
      vote = old.vote;
      log = old.log.entries;
      front = old.front;
      meta = old.meta;
      snap = states.snap;
      saved = old.saved;
      applied = states.applied;
    } in
    on_ok_weaker c.apply_due.result (λ more.
    ap stored
    (applied_upto app old.states c.restart.new.self c.apply_due.new.states c.new.result.items old.log.entries last end c.new.ensures.items
    c.in_ok-restart.ensures (upto_end last end c.in-Some.ensures) more)
    ∙ ap (λ (s : NotedStore g.row.M.Denot). record s.store { applied = folded app s.store end }) c.self.view_is)
    c.apply_due.ensures

pub returns-in-None : goal.returns-in-None
returns-in-None g c =
    let app = g.M.Machine.application in
    let old = c.self.inside in
    let end = c.args.end in
    let stored : StatesView g.row.M.Denot → PackedStore g.row.M.Denot =
    λ states. record {
      vote = old.vote;
      log = old.log.entries;
      front = old.front;
      meta = old.meta;
      snap = states.snap;
      saved = old.saved;
      applied = states.applied;
    } in
    ap stored
    (applied_none app old.states c.restart.new.self c.new.result.items old.log.entries end c.new.ensures.items c.in_ok-restart.ensures
    (none_upto end c.in-None.ensures))
    ∙ ap (λ (s : NotedStore g.row.M.Denot). record s.store { applied = folded app s.store end }) c.self.view_is
