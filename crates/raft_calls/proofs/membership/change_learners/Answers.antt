use Rattle.std.proofs.Common.{◌≡◌, ◌∙◌, IfOk, List, Option, ap, subst, sym, ℕ}
use Rattle.raft_store.specs.declared.entry.Entry.{Entry}
use Rattle.raft_store.specs.Types.{EngineView}
use Rattle.raft_calls.specs.Engines.{view_of}
use Rattle.raft_calls.specs.LeaderCalls.{entry_proposed}
use Rattle.raft_calls.specs.Memberships.{groups_in, members_with, membership_entry}
use Rattle.raft_calls.proofs.LeaderReady.{MayProposeIn, change_may}
use Rattle.raft_calls.proofs.membership.change_learners.Goals as goal

pub propose_entry-requires-clause-may : goal.propose_entry-requires-clause-may
propose_entry-requires-clause-may c =
    let e : EngineView = view_of c.args.engine.now in
    let made : c.membership_entry.result ≡ membership_entry (members_with (groups_in e) c.args.learners.now) =
    c.membership_entry.ensures ∙ ap membership_entry (c.in_ok-membership.ensures ∙ ap (λ (groups : List (List ℕ)). members_with groups c.args.learners.now) c.groups.ensures.groups) in
    subst (λ (entry : Entry). MayProposeIn entry e) (sym made) (change_may (groups_in e) c.args.learners.now e c.requires.taken)

pub returns : goal.returns
returns c =
    let e : EngineView = view_of c.args.engine.now in
    let made : c.membership_entry.result ≡ membership_entry (members_with (groups_in e) c.args.learners.now) =
    c.membership_entry.ensures ∙ ap membership_entry (c.in_ok-membership.ensures ∙ ap (λ (groups : List (List ℕ)). members_with groups c.args.learners.now) c.groups.ensures.groups) in
    subst (λ (entry : Entry). IfOk c.propose_entry.result (λ refusal. ◌≡◌ {A = Option ℕ × EngineView} (refusal, view_of c.propose_entry.new.engine) (entry_proposed entry e))) made c.propose_entry.ensures
