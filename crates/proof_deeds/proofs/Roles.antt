-- A change of role.
use Rattle.std.proofs.Common.{ℕ, ◌≡◌, Bool, true, false, cond, List, [], ◌∷◌, ◌++◌, refl, sym, ap, ◌∙◌, subst, append-nil}
use Rattle.std.specs.Ordering.{is_eq, nat_cmp}
use Rattle.std.proofs.lemmas.Bool.{and_parts, both_ways}
use Rattle.raft_node.specs.raft_state.declared.ids.LeaderId.{LeaderId}
use Rattle.raft_node.specs.raft_state.declared.membership.Members.{Members}
use Rattle.raft_node.specs.raft_state.declared.state.RaftState.{RaftState}
use Rattle.raft_node.specs.raft_state.declared.state.ServerState.{ServerState}
use Rattle.raft_node.specs.raft_state.declared.state.ServerState.TheVariants as role
use Rattle.raft_node.specs.raft_state.Members.{contains, is_voter}
use Rattle.raft_node.specs.raft_state.Same.{nat_same}
use Rattle.raft_node.specs.raft_state.State.{is_leader, is_leading, server_state}
use Rattle.raft_node.proofs.raft_state_proofs.Orders.{is_equal}
use Rattle.raft_node.specs.raft_command.declared.command.Command.TheVariants as command
use Rattle.raft_node.specs.raft_command.declared.config.EngineConfig.{EngineConfig}
use Rattle.raft_node.specs.raft_steps.Parts.{Core}
use Rattle.raft_node.specs.raft_steps.ServerStateHandler.{role_commands, update_role}
use Rattle.proof_agreement.specs.Deeds.{EndStreams, Leads, RecordEstablished, does}
use Rattle.raft_node.specs.raft_store.declared.config.WorldConfig.{WorldConfig}
use Rattle.raft_node.specs.raft_store.declared.entry.Entry.{Entry}
use Rattle.raft_node.specs.raft_store.Entries.{entry_meaning}
use Rattle.raft_node.specs.raft_store.Types.{WorldStore, WorldCommand}
use Rattle.proof_mirror.specs.Ready.{InStep}
use Rattle.raft_node.specs.declared.node.Turn.{Turn}
use Rattle.proof_deeds.specs.Chains.{left_by, Carried}
use Rattle.proof_deeds.specs.Follows.{StoreIs}
use Rattle.proof_deeds.specs.Images.{Ideal, IdealStore, setup_of}
use Rattle.proof_deeds.proofs.Keeps.{Ends, Stable}
use Rattle.proof_deeds.proofs.Numbers.{number_node}
use Rattle.proof_deeds.proofs.Pushes.{push}
use Rattle.proof_deeds.proofs.Tails.{tail_vote, tail_vote_committed, tail_named, tail_whole}
use Rattle.proof_deeds.proofs.VotePushes.{done_quit, done_lead}
use Rattle.proof_deeds.proofs.Worlds.{does_one}

abbrev pub WorldCore : Type 0
WorldCore = Core WorldConfig ℕ (Unit {0}) Entry ℕ ℕ (List Entry)

abbrev pub WorldState : Type 0
WorldState = RaftState ℕ (Unit {0})

-- a vote that names the node
pub names_node : (st : WorldState) (id : ℕ) → is_leading nat_cmp st id ≡ true → st.vote.leader_id.node_id ≡ id
names_node st id e = nat_same st.vote.leader_id.node_id id (is_equal _ (and_parts (is_eq (nat_cmp st.vote.leader_id.node_id id)) (contains nat_cmp st.em.membership id) e).0)

-- only a leader has the role
pub leads_by_role : (st : WorldState) (id : ℕ) → server_state nat_cmp st id ≡ role.Leader → is_leader nat_cmp st id ≡ true
leads_by_role st id e = go (is_leader nat_cmp st id) (is_leading nat_cmp st id) (is_voter nat_cmp st.em.membership id) e where
  go : (a b c : Bool) → cond a role.Leader (cond b role.Candidate (cond c role.Follower role.Learner)) ≡ role.Leader → a ≡ true
  go true b c e = refl
  go false true c e = cc
  go false false true e = cc
  go false false false e = cc

-- and a leader has it
pub role_of_leader : (st : WorldState) (id : ℕ) → is_leader nat_cmp st id ≡ true → server_state nat_cmp st id ≡ role.Leader
role_of_leader st id e = ap (λ a. cond a role.Leader (cond (is_leading nat_cmp st id) role.Candidate (cond (is_voter nat_cmp st.em.membership id) role.Follower role.Learner))) e

module _ (first : Members ℕ (Unit {0})) (t : Turn) where
  -- a leader by its vote leads in the ideal world
  pub tail_leads : (u : WorldStore) (S : IdealStore) (st : WorldState) → StoreIs (setup_of first) u S → InStep entry_meaning u st → is_leader nat_cmp st t.id ≡ true → Leads (setup_of first) S t.id
  tail_leads u S st h j e =
      let p = and_parts (is_leading nat_cmp st t.id) st.vote.committed e in
      record {
        own = ap (setup_of first).owner (tail_vote (setup_of first) u S st h j) ∙ (number_node st.vote.leader_id (tail_named (setup_of first) u S st h j) ∙ names_node st t.id p.0);
        vote_committed = tail_vote_committed (setup_of first) u S st h j ∙ p.1;
      }

  role_pushed : (v : LeaderId ℕ) (u : WorldStore) (W : Ideal) (cs : List WorldCommand) (K : Ideal → Type 0) → Carried (setup_of first) t v u W cs K
      → (a b : ServerState) → ((b ≡ role.Leader → ⊥) → Ends (setup_of first) t.id K) → (b ≡ role.Leader → Carried (setup_of first) t v u W (cs ++ command.BecomeLeader ∷ []) K) → Carried (setup_of first) t v u W (cs ++ role_commands a b) K
  role_pushed v u W cs K h = go where
    quit : Ends (setup_of first) t.id K → Carried (setup_of first) t v u W (cs ++ command.QuitLeader ∷ []) K
    quit e = push (setup_of first) t v u W cs command.QuitLeader K K h (λ V x y. (does (setup_of first) V (EndStreams t.id), done_quit (setup_of first) t v (left_by u cs) V x.store, e V y))

    none : Carried (setup_of first) t v u W (cs ++ []) K
    none = subst (λ ds. Carried (setup_of first) t v u W ds K) (sym (append-nil cs)) h

    go : (a b : ServerState) → ((b ≡ role.Leader → ⊥) → Ends (setup_of first) t.id K) → (b ≡ role.Leader → Carried (setup_of first) t v u W (cs ++ command.BecomeLeader ∷ []) K) → Carried (setup_of first) t v u W (cs ++ role_commands a b) K
    go role.Learner role.Learner e f = none
    go role.Learner role.Follower e f = none
    go role.Learner role.Candidate e f = none
    go role.Learner role.Leader e f = f refl
    go role.Follower role.Learner e f = none
    go role.Follower role.Follower e f = none
    go role.Follower role.Candidate e f = none
    go role.Follower role.Leader e f = f refl
    go role.Candidate role.Learner e f = none
    go role.Candidate role.Follower e f = none
    go role.Candidate role.Candidate e f = none
    go role.Candidate role.Leader e f = f refl
    go role.Leader role.Learner e f = quit (e (λ q. cc))
    go role.Leader role.Follower e f = quit (e (λ q. cc))
    go role.Leader role.Candidate e f = quit (e (λ q. cc))
    go role.Leader role.Leader e f = none

  -- the role follows the vote
  pub carried_role : (config : EngineConfig ℕ) (u : WorldStore) (W : Ideal) (c : WorldCore) (K : Ideal → Type 0) → config.id ≡ t.id → InStep entry_meaning (left_by u c.output.items) c.state → Stable (setup_of first) t.id K → ((server_state nat_cmp c.state config.id ≡ role.Leader → ⊥) → Ends (setup_of first) t.id K)
      → Carried (setup_of first) t c.state.vote.leader_id u W c.output.items K → Carried (setup_of first) t c.state.vote.leader_id u W (update_role nat_cmp config c).output.items K
  unfolding update_role
  carried_role config u W c K i j k o h =
      role_pushed c.state.vote.leader_id u W c.output.items K h c.state.role (server_state nat_cmp c.state config.id) o
      (λ e. let l : is_leader nat_cmp c.state t.id ≡ true = subst (λ id. is_leader nat_cmp c.state id ≡ true) i (leads_by_role c.state config.id e) in
      push (setup_of first) t c.state.vote.leader_id u W c.output.items command.BecomeLeader K K h
      (λ V x y.
      let m : Leads (setup_of first) (V.store t.id) t.id = tail_leads (left_by u c.output.items) (V.store t.id) c.state x.store j l in (
        does (setup_of first) V (RecordEstablished t.id),
        done_lead (setup_of first) t c.state.vote.leader_id (left_by u c.output.items) V x.store (tail_vote (setup_of first) (left_by u c.output.items) (V.store t.id) c.state x.store j) m (tail_whole (setup_of first) (left_by u c.output.items) (V.store t.id) c.state x.store j),
        k V (does (setup_of first) V (RecordEstablished t.id)) (does_one (setup_of first) V (RecordEstablished t.id) m tt) refl y,
      )))

  -- of a vote that isn't committed it is no leader's
  pub carried_role_waiting : (config : EngineConfig ℕ) (u : WorldStore) (W : Ideal) (c : WorldCore) (K : Ideal → Type 0) → c.state.vote.committed ≡ false → Ends (setup_of first) t.id K
      → Carried (setup_of first) t c.state.vote.leader_id u W c.output.items K → Carried (setup_of first) t c.state.vote.leader_id u W (update_role nat_cmp config c).output.items K
  unfolding update_role
  carried_role_waiting config u W c K e o h =
      role_pushed c.state.vote.leader_id u W c.output.items K h c.state.role (server_state nat_cmp c.state config.id) (λ _. o)
      (λ q. absurd (both_ways c.state.vote.committed e (and_parts (is_leading nat_cmp c.state config.id) c.state.vote.committed (leads_by_role c.state config.id q)).1))
