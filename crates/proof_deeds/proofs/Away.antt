-- A change of role away from leadership.
use Rattle.std.proofs.Common.{ℕ, ◌≡◌, true, false, List, [], ◌∷◌, ◌++◌, refl, sym, subst, append-nil}
use Rattle.std.specs.Ordering.{is_eq, nat_cmp}
use Rattle.std.proofs.lemmas.Bool.{and_parts, both_ways}
use Rattle.raft_node.specs.raft_state.declared.ids.LeaderId.{LeaderId}
use Rattle.raft_node.specs.raft_state.declared.state.ServerState.{ServerState}
use Rattle.raft_node.specs.raft_state.declared.state.ServerState.TheVariants as role
use Rattle.raft_node.specs.raft_state.Members.{contains}
use Rattle.raft_node.specs.raft_state.State.{is_leading, server_state}
use Rattle.raft_node.specs.raft_command.declared.command.Command.TheVariants as command
use Rattle.raft_node.specs.raft_command.declared.config.EngineConfig.{EngineConfig}
use Rattle.raft_node.specs.raft_steps.ServerStateHandler.{role_commands, update_role}
use Rattle.proof_agreement.specs.Machine.{Setup}
use Rattle.proof_agreement.specs.Deeds.{EndStreams, does}
use Rattle.raft_node.specs.raft_store.declared.entry.Entry.{Entry}
use Rattle.raft_node.specs.raft_store.Types.{WorldStore, WorldCommand}
use Rattle.raft_node.specs.declared.node.Turn.{Turn}
use Rattle.proof_deeds.specs.Chains.{left_by, Carried}
use Rattle.proof_deeds.specs.Images.{Ideal}
use Rattle.proof_deeds.proofs.Keeps.{Ends}
use Rattle.proof_deeds.proofs.Pushes.{push}
use Rattle.proof_deeds.proofs.Roles.{WorldCore, WorldState, leads_by_role}
use Rattle.proof_deeds.proofs.VotePushes.{done_quit}

pub no_leader : (st : WorldState) (id : ℕ) → is_eq (nat_cmp st.vote.leader_id.node_id id) ≡ false → server_state nat_cmp st id ≡ role.Leader → ⊥
no_leader st id e f =
    let p : is_leading nat_cmp st id ≡ true = (and_parts (is_leading nat_cmp st id) st.vote.committed (leads_by_role st id f)).0 in
    both_ways (is_eq (nat_cmp st.vote.leader_id.node_id id)) e (and_parts (is_eq (nat_cmp st.vote.leader_id.node_id id)) (contains nat_cmp st.em.membership id) p).0

module _ (s : Setup Entry) (t : Turn) (u : WorldStore) (W : Ideal) (v : LeaderId ℕ) where
  -- a role without leadership
  role_away : (cs : List WorldCommand) (K : Ideal → Type 0) (a b : ServerState) → (b ≡ role.Leader → ⊥) → Ends s t.id K → Carried s t v u W cs K → Carried s t v u W (cs ++ role_commands a b) K
  role_away cs K a b f o h = go a b f where
    quit : Carried s t v u W (cs ++ command.QuitLeader ∷ []) K
    quit = push s t v u W cs command.QuitLeader K K h (λ V x y. (does s V (EndStreams t.id), done_quit s t v (left_by u cs) V x.store, o V y))

    none : Carried s t v u W (cs ++ []) K
    none = subst (λ ds. Carried s t v u W ds K) (sym (append-nil cs)) h

    go : (a b : ServerState) → (b ≡ role.Leader → ⊥) → Carried s t v u W (cs ++ role_commands a b) K
    go a role.Leader f = absurd (f refl)
    go role.Leader role.Learner f = quit
    go role.Leader role.Follower f = quit
    go role.Leader role.Candidate f = quit
    go role.Learner role.Learner f = none
    go role.Learner role.Follower f = none
    go role.Learner role.Candidate f = none
    go role.Follower role.Learner f = none
    go role.Follower role.Follower f = none
    go role.Follower role.Candidate f = none
    go role.Candidate role.Learner f = none
    go role.Candidate role.Follower f = none
    go role.Candidate role.Candidate f = none

  pub carried_away : (config : EngineConfig ℕ) (c : WorldCore) (K : Ideal → Type 0) → is_eq (nat_cmp c.state.vote.leader_id.node_id config.id) ≡ false → Ends s t.id K → Carried s t v u W c.output.items K → Carried s t v u W (update_role nat_cmp config c).output.items K
  unfolding update_role
  carried_away config c K e o h = role_away c.output.items K c.state.role (server_state nat_cmp c.state config.id) (no_leader c.state config.id e) o h
