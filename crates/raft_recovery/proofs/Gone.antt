-- Where no event proposed other voter groups, nodes that recover have gone on.
use Rattle.std.proofs.Common.{ℕ, ◌+◌, ◌≡◌, inl, inr, true, List, [], ◌∷◌, ◌++◌, length, arith, refl, subst}
use Rattle.std.specs.List.{AllByRecursion}
use Rattle.std.specs.Ordering.{nat_cmp}
use Rattle.raft_state.specs.declared.ids.LogId.{LogId}
use Rattle.raft_state.specs.declared.membership.Members.{Members}
use Rattle.raft_state.specs.Members.{learner_ids, no_members, voter_ids}
use Rattle.raft_state.specs.Sorted.{IsSound}
use Rattle.raft_store.specs.declared.entry.Value.{Value}
use Rattle.raft_store.specs.Types.{EngineView}
use Rattle.raft_schedule.specs.declared.event.Event.{Event}
use Rattle.raft_node.specs.declared.given.Given.{Given}
use Rattle.raft_node.specs.Runs.{world_after}
use Rattle.raft_node.specs.WellFormed.{IsWellFormed}
use Rattle.proof_progress.specs.Choices.{is_among}
use Rattle.proof_progress.specs.Elections.{Listed, members}
use Rattle.proof_progress.specs.GoesOn.{HasExecuted, first_new, found}
use Rattle.proof_progress.specs.Groups.{HasVoters, LeavesVoters}
use Rattle.proof_progress.specs.Majorities.{HaveGoneOn}
use Rattle.proof_progress.proofs.Choosing.{group_voter}
use Rattle.proof_progress.proofs.Finding.{FindsGroups, finds}
use Rattle.proof_progress.proofs.Voters.{voter_votes}
use Rattle.proof_progress.proofs.WaysOn.{left_of_both}
use Rattle.raft_recovery.specs.Recoveries.{RecoveriesGoOn, Recovers}

module _ (given : Given) (wf : IsWellFormed given) (sound : IsSound nat_cmp given.membership.groups given.membership.nodes) (past es : List Event)
    (kept : AllByRecursion (λ (e : Event). LeavesVoters e.kind) past) (up : List ℕ) (id : LogId ℕ) (value : Value)
    (r : Recovers given (world_after given past) (world_after given (past ++ es)) up id value (length es))
    (first : id.index ≡ first_new (found given r.node)) where
  abbrev n : ℕ
  n = id.leader_id.node_id

  abbrev e0 : EngineView
  e0 = found given r.node

  known : HasVoters given.membership.groups (members e0)
  known = go (finds given wf sound past kept n r.node r.at)
    where
      go : FindsGroups given given.membership.groups r.node → HasVoters given.membership.groups (members e0)
      go (inl z) =
          let w : Listed (voter_ids {N = Unit {0}} nat_cmp no_members) n =
          subst (λ (m : Members ℕ (Unit {0})). Listed (voter_ids nat_cmp m) n) z.members_are r.votes in absurd w
      go (inr h) = h

  pub gone_on : HaveGoneOn given given.membership.groups past up (value ∷ [])
  gone_on = record {
    n = n;
    one = r.one;
    among = subst (λ gs. is_among gs n ≡ true) known.same (voter_votes (members e0) n r.votes);
    node = r.node;
    at = r.at;
    others = r.others;
    voters = λ t l a.
        r.all t l
        (left_of_both (voter_ids nat_cmp (members e0)) (learner_ids nat_cmp (members e0)) t
        (group_voter given.membership.groups (members e0) known t a));
    learners = λ _ t l m. r.all t l m;
    more = es;
    few = r.few;
    gone = record {
      id = id;
      own = refl;
      new = omega (arith, first);
      each = subst (λ i. AllByRecursion (HasExecuted (world_after given (past ++ es)) id i (value ∷ [])) (n ∷ r.others)) first r.each;
    };
  }

pub recoveries_go_on : RecoveriesGoOn
recoveries_go_on given wf sound past es kept up id value r first = gone_on given wf sound past es kept up id value r first
