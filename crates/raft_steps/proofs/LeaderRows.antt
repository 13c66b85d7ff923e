-- Computed examples of leaders, their no-op entries, ids and clocks.
use Rattle.std.specs.Prelude.{◌≡◌, ℕ, true, false, List, [], ◌∷◌, Option, None, Some, map, refl}
use Rattle.std.specs.Ordering.{nat_cmp}
use Rattle.raft_state.specs.declared.ids.LogId.{LogId}
use Rattle.raft_state.specs.declared.membership.Members.{Members}
use Rattle.raft_proposer.specs.raft_progress.Quorum.{is_quorum}
use Rattle.raft_steps.specs.Conditions.{may_change_membership}
use Rattle.raft_proposer.specs.Leader.{leader_of, assigned, last_assigned, with_clock, last_quorum_acked, granted_time}
use Rattle.raft_steps.proofs.Example.{PlainLeader, PlainLed, plain, lid, committed, blank, blanks, core, nodes_of, state, stored, three}

abbrev leads : ℕ → ℕ → List ℕ → List (LogId ℕ) → PlainLeader
leads t n learners ids = leader_of nat_cmp (committed t n) ((1 ∷ 2 ∷ 3 ∷ []) ∷ []) (1 ∷ 2 ∷ 3 ∷ []) learners ids

-- the blank id comes behind another leader's log
blank_id_behind_another_leaders_log : (leads 2 2 [] (lid 1 2 1 ∷ lid 1 2 3 ∷ [])).noop_log_id ≡ lid 2 2 4
blank_id_behind_another_leaders_log = refl

behind_another_leaders_log_the_last_id_stays : (leads 2 2 [] (lid 1 2 1 ∷ lid 1 2 3 ∷ [])).last_log_id ≡ Some (lid 1 2 3)
behind_another_leaders_log_the_last_id_stays = refl

-- and is the first of this leader's
blank_id_is_this_leaders_first : (leads 1 2 [] (lid 1 2 1 ∷ lid 1 2 3 ∷ [])).noop_log_id ≡ lid 1 2 1
blank_id_is_this_leaders_first = refl

blank_id_of_the_one_id : (leads 1 2 [] (lid 1 2 3 ∷ [])).noop_log_id ≡ lid 1 2 3
blank_id_of_the_one_id = refl

blank_id_of_an_empty_log : (leads 1 2 [] []).noop_log_id ≡ lid 1 2 0
blank_id_of_an_empty_log = refl

one_id_after_an_empty_log : map plain.id_of (assigned plain (leads 0 0 [] []) (blank (lid 1 1 1) ∷ [])) ≡ lid 0 0 0 ∷ []
one_id_after_an_empty_log = refl

the_last_id_of_an_empty_log : last_assigned (leads 0 0 [] []) (blank (lid 1 1 1) ∷ []) ≡ Some (lid 0 0 0)
the_last_id_of_an_empty_log = refl

three_ids_follow_on : map plain.id_of (assigned plain (leads 2 2 [] (lid 1 1 8 ∷ [])) (blanks (lid 0 0 0 ∷ lid 0 0 0 ∷ lid 0 0 0 ∷ []))) ≡ lid 2 2 9 ∷ lid 2 2 10 ∷ lid 2 2 11 ∷ []
three_ids_follow_on = refl

the_last_of_three_ids : last_assigned (leads 2 2 [] (lid 1 1 8 ∷ [])) (blanks (lid 0 0 0 ∷ lid 0 0 0 ∷ lid 0 0 0 ∷ [])) ≡ Some (lid 2 2 11)
the_last_of_three_ids = refl

no_entries_leave_the_last_id : last_assigned (leads 2 2 [] (lid 1 1 8 ∷ [])) [] ≡ Some (lid 1 1 8)
no_entries_leave_the_last_id = refl

-- a learner's own clock does not count
a_learners_clock_does_not_count : granted_time nat_cmp (is_quorum nat_cmp) (last_quorum_acked nat_cmp (with_clock nat_cmp (leads 1 4 (4 ∷ []) []) 2 100) 150) ≡ None
a_learners_clock_does_not_count = refl

a_learner_leads_by_two_clocks : granted_time nat_cmp (is_quorum nat_cmp) (last_quorum_acked nat_cmp (with_clock nat_cmp (with_clock nat_cmp (leads 1 4 (4 ∷ []) []) 2 100) 3 200) 250) ≡ Some 100
a_learner_leads_by_two_clocks = refl

a_strangers_clock_does_not_count : granted_time nat_cmp (is_quorum nat_cmp) (last_quorum_acked nat_cmp (with_clock nat_cmp (leads 1 5 (4 ∷ []) []) 2 100) 150) ≡ None
a_strangers_clock_does_not_count = refl

a_stranger_leads_by_two_clocks : granted_time nat_cmp (is_quorum nat_cmp) (last_quorum_acked nat_cmp (with_clock nat_cmp (with_clock nat_cmp (leads 1 5 (4 ∷ []) []) 2 100) 3 200) 250) ≡ Some 100
a_stranger_leads_by_two_clocks = refl

a_voters_own_clock_counts : granted_time nat_cmp (is_quorum nat_cmp) (last_quorum_acked nat_cmp (with_clock nat_cmp (leads 1 1 [] []) 2 100) 150) ≡ Some 100
a_voters_own_clock_counts = refl

-- a membership follows the effective one
abbrev changing : Option (LogId ℕ) → Option (LogId ℕ) → PlainLed
changing effective committed_id = record {
  leader = leads 2 2 [] (lid 1 1 1 ∷ []);
  core = core (record (state (committed 2 2) (lid 0 0 0 ∷ lid 1 1 1 ∷ lid 2 2 2 ∷ [])) { em = stored effective three; committed = committed_id });
}

abbrev of_groups : List (List ℕ) → Members ℕ (Unit {0})
of_groups groups = record { groups = groups; nodes = nodes_of (1 ∷ 2 ∷ 3 ∷ 4 ∷ []) }

a_group_is_shared : may_change_membership nat_cmp (changing (Some (lid 0 0 0)) (Some (lid 2 2 2))) (of_groups ((1 ∷ 2 ∷ 3 ∷ []) ∷ (2 ∷ 3 ∷ 4 ∷ []) ∷ [])) ≡ true
a_group_is_shared = refl

no_group_is_shared : may_change_membership nat_cmp (changing (Some (lid 0 0 0)) (Some (lid 2 2 2))) (of_groups ((2 ∷ 3 ∷ 4 ∷ []) ∷ (1 ∷ 2 ∷ []) ∷ [])) ≡ false
no_group_is_shared = refl

the_blank_entry_is_not_committed : may_change_membership nat_cmp (changing (Some (lid 0 0 0)) (Some (lid 1 1 1))) (of_groups ((1 ∷ 2 ∷ 3 ∷ []) ∷ [])) ≡ false
the_blank_entry_is_not_committed = refl

the_effective_membership_is_not_committed : may_change_membership nat_cmp (changing (Some (lid 2 2 3)) (Some (lid 2 2 2))) (of_groups ((1 ∷ 2 ∷ 3 ∷ []) ∷ [])) ≡ false
the_effective_membership_is_not_committed = refl
