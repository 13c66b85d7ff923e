use Rattle.std.proofs.Common.{refl}
use Rattle.std.proofs.lemmas.List.Sums.{fold_more}
use Rattle.raft_state.specs.Members.{with_voter}
use Rattle.raft_state.proofs.membership.place_voters.Goals as goal

pub loop-id-preserved : goal.loop-id-preserved
loop-id-preserved g c = record {
  placed =
      rw (c.in_ok-place_voter.ensures.placed, c.loop-id.invariant.placed, fold_more (with_voter g.NID.Ord.cmp g.N.Node.default_node) c.args.placed.now.entries c.args.voters.now c.loop-id.id-index c.id-item.result c.loop-id-test.true, ← c.id-item.is)
      refl;
  ordered = λ h. c.place_voter.ensures.ordered (c.loop-id.invariant.ordered h);
}
