use Rattle.std.proofs.Common.{◌≡◌, ◌∙◌, ap, subst, sym}
use Rattle.raft_store.specs.declared.entry.Entry.{Entry}
use Rattle.raft_store.specs.Types.{EngineView}
use Rattle.raft_calls.specs.Engines.{view_of}
use Rattle.raft_calls.specs.Memberships.{members_with, membership_entry}
use Rattle.raft_calls.proofs.LeaderReady.{MayProposeIn, change_may}
use Rattle.raft_calls.proofs.membership.change_membership.Goals as goal

pub propose_entry-requires-clause-may : goal.propose_entry-requires-clause-may
propose_entry-requires-clause-may c =
    let e : EngineView = view_of c.args.engine.now in
    let made : c.membership_entry.result ≡ membership_entry (members_with c.args.groups.now c.args.learners.now) = c.membership_entry.ensures ∙ ap membership_entry c.in_ok-membership.ensures in
    subst (λ (entry : Entry). MayProposeIn entry e) (sym made) (change_may c.args.groups.now c.args.learners.now e c.requires.taken)
