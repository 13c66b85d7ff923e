-- A leader that is a quorum alone commits what it proposes at once.
use Rattle.std.proofs.Common.{ℕ, suc, arith, ◌+◌, ◌≤◌, ◌≡◌, true, List, [], ◌∷◌, ◌++◌, length, map, sym, ap, ◌∙◌, subst, Option, Some}
use Rattle.std.specs.Ordering.{nat_cmp}
use Rattle.std.proofs.lemmas.Cmp.{nat_cmp_total}
use Rattle.proof_deeds.specs.raft_state.declared.ids.LogId.{LogId}
use Rattle.proof_deeds.specs.raft_state.Order.{next}
use Rattle.proof_deeds.specs.raft_state.Same.{nat_same}
use Rattle.proof_deeds.specs.raft_progress.Quorum.{is_quorum}
use Rattle.proof_deeds.specs.raft_proposer.Joint.{u64_max}
use Rattle.proof_deeds.specs.raft_store.Entries.{entry_meaning}
use Rattle.proof_deeds.specs.raft_store.declared.entry.Value.{Value}
use Rattle.proof_deeds.specs.raft_schedule.declared.event.Event.{Event}
use Rattle.proof_deeds.specs.raft_calls.LeaderCalls.{value_entry}
use Rattle.proof_deeds.specs.raft_node.declared.given.Given.{Given}
use Rattle.proof_deeds.specs.raft_node.Runs.{world_after}
use Rattle.proof_deeds.specs.raft_node.WellFormed.{IsWellFormed}
use Rattle.proof_deeds.proofs.Drains.{takes}
use Rattle.proof_progress.specs.CatchUps.{CanServe, log_len}
use Rattle.proof_progress.specs.Commits.{ExecutesAfter, ProposedAfter, WorldsCommitAlone}
use Rattle.proof_progress.specs.Continuations.{propose}
use Rattle.proof_progress.specs.Exchanges.{HasNumbers, LeadsAt, led}
use Rattle.proof_progress.specs.Plans.{world_then}
use Rattle.proof_progress.specs.Proposals.{IsVoter, id_past}
use Rattle.proof_progress.proofs.Applies.{applied_is}
use Rattle.proof_progress.proofs.Campaigns.{at_id}
use Rattle.proof_progress.proofs.LeadersKnow.{follows, sound_led}
use Rattle.proof_progress.proofs.Planned.{none_told}
use Rattle.proof_progress.proofs.ProposalEvents.{plain, same_length, worlds_propose}
use Rattle.proof_progress.proofs.Proposed.{alone_commits, ends}
use Rattle.proof_progress.proofs.Values.{executed_values}

module _ (given : Given) (wf : IsWellFormed given) (past : List Event) (now n k : ℕ) (l : LeadsAt (world_after given past) now n) (v : Value) (vs : List Value) (voter : IsVoter (led l) n) (quorum : is_quorum nat_cmp l.leader.progress.set (n ∷ []) ≡ true) (keeps : CanServe l)
    (room : log_len l + length (v ∷ vs) ≤ u64_max) (numbers : HasNumbers (k + 2) l.engine.machine) where
  abbrev all : List Event
  all = past ++ propose n (v ∷ vs) now ∷ []

  made : ProposedAfter given past now n k l v vs all
  made = worlds_propose given wf past now n k l v vs keeps numbers room

  own_id : l.engine.config.id ≡ n
  own_id = (follows given wf past now n l).id ∙ at_id (world_after given past).nodes n l.node l.at

  committed : made.leads.engine.machine.core.state.committed ≡ Some (id_past (length vs) (led l))
  committed =
      alone_commits nat_cmp nat_cmp_total nat_same entry_meaning takes l.engine.config keeps.payload (value_entry v) (map value_entry vs) (led l) (sound_led given wf past now n l) (plain (v ∷ vs)) (led made.leads) made.proposes
      (subst (IsVoter (led l)) (sym own_id) voter) (subst (λ i. is_quorum nat_cmp l.leader.progress.set (i ∷ []) ≡ true) (sym own_id) quorum)
      ∙ ap (λ i. let o : Option (LogId ℕ) = Some (id_past i (led l)) in o) (same_length vs)

  pub commits_alone : ExecutesAfter given past now n k l v vs [] all
  commits_alone = record {
    planned = ap (λ (es : List Event). past ++ propose n (v ∷ vs) now ∷ es) (sym (none_told given now n (world_then given now (propose n (v ∷ vs) now) (world_after given past))));
    leads = made.leads;
    numbers = made.numbers;
    end = ends nat_cmp nat_cmp_total nat_same entry_meaning takes l.engine.config keeps.payload (value_entry v) (map value_entry vs) (led l) (sound_led given wf past now n l) (plain (v ∷ vs)) (led made.leads) made.proposes
        ∙ ap (λ i. let o : Option (LogId ℕ) = Some (id_past i (led l)) in o) (same_length vs);
    committed = committed;
    applied = applied_is given wf all n made.leads.node made.leads.at made.leads.engine made.leads.runs ∙ ap next committed;
    values = executed_values given wf all n made.leads.node made.leads.at (log_len l) (v ∷ vs) made.stored
        (let q : length made.leads.node.store.applied ≡ next (Some (id_past (length vs) (led l))) = applied_is given wf all n made.leads.node made.leads.at made.leads.engine made.leads.runs ∙ ap next committed in fits (log_len l) (length vs) (length made.leads.node.store.applied) q);
    each = tt;
  }
    where
      fits : (a j m : ℕ) → m ≡ (a + j) + 1 → a + suc j ≤ m
      fits a j m q = omega (arith, q)

pub worlds_commit_alone : WorldsCommitAlone
worlds_commit_alone given wf past now n k l v vs voter quorum keeps room numbers = commits_alone given wf past now n k l v vs voter quorum keeps room numbers
