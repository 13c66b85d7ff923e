use Rattle.std.proofs.Common.{rules, ◌≡◌, ◌<◌, ◌^◌, false, sym, subst}
use Rattle.raft_state.specs.Order.{next, vote_cmp}
use Rattle.raft_state.proofs.Orders.{and_both}
use Rattle.raft_handler_common.specs.Handlers.{view_of_establish}
use Rattle.std.specs.Ordering.{is_eq}
use Rattle.raft_steps.specs.EstablishHandler.{outvotes}
use Rattle.raft_steps.specs.Parts.{unboxed}
use Rattle.raft_steps.proofs.Established.{established_fits}
use Rattle.raft_steps.proofs.Room.{log_end}
use Rattle.raft_handler_common.proofs.establish_handler.EstablishHandler.establish.Goals as goal

-- a candidate that may lead is current: its last id is the log's, which leaves an index after it
pub establish-done-requires : goal.establish-done-requires
establish-done-requires g c may_lead =
    let cmp = g.C.NodeId.Ord.cmp in
    let candidate = c.args.candidate in
    let state = c.args.self.state.now in
    let unspent : c.args.self.output.now.spent ≡ false = search rules in
    let sound = c.requires unspent in
    let votes = (and_both (is_eq (vote_cmp cmp candidate.vote state.vote)) (outvotes cmp (unboxed c.args.self.leader.now) candidate) may_lead).0 in
    let last = (sound.lead.candidate_fits.current votes).last_id in
    subst (λ o. next o < 2 ^ 64) (sym last) (log_end cmp state sound.sound)

pub returns-then-branch-clause-fits : goal.returns-then-branch-clause-fits
returns-then-branch-clause-fits g c =
    let unspent : c.args.self.output.now.spent ≡ false = search rules in
    established_fits g.C.NodeId.Ord.cmp g.met.C.NodeId.Ord.total g.met.C.NodeId.NodeId.equal_is_same c.args.self.config.now (λ l. l.now)
    (view_of_establish c.args.self) c.args.candidate c.as_deref_mut.result (search rules) (c.requires unspent)
