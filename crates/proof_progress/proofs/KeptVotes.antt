-- What a leader's acknowledgement of its own log leaves as it is: its vote, its log, and the moment of its lease.
use Rattle.std.proofs.Common.{ℕ, ◌+◌, ◌≡◌, Bool, true, false, List, [], ◌∷◌, ◌++◌, refl, sym, ap, ◌∙◌, append-nil, append_assoc, Option, None, Some}
use Rattle.std.specs.Prelude.{if◌then◌else◌}
use Rattle.std.specs.List.{AllByRecursion}
use Rattle.std.specs.Ordering.{is_eq, is_ge, is_le, nat_cmp}
use Rattle.proof_deeds.specs.raft_state.declared.ids.LogId.{LogId}
use Rattle.proof_deeds.specs.raft_state.declared.state.RaftState.{RaftState}
use Rattle.proof_deeds.specs.raft_state.Order.{last_id_cmp, leader_id_cmp}
use Rattle.proof_deeds.specs.raft_state.Policy.{should_snapshot}
use Rattle.proof_deeds.specs.raft_state.State.{commit, commits, settle}
use Rattle.proof_deeds.proofs.raft_state_proofs.LogLists.{each_append}
use Rattle.proof_deeds.specs.raft_progress.Table.{get}
use Rattle.proof_deeds.specs.raft_progress.Quorum.{is_quorum}
use Rattle.proof_deeds.specs.raft_progress_entry.declared.entry.ProgressEntry.{ProgressEntry}
use Rattle.proof_deeds.specs.raft_proposer.Leader.{granted_id}
use Rattle.proof_deeds.specs.raft_command.declared.config.EngineConfig.{EngineConfig}
use Rattle.proof_deeds.specs.raft_command.declared.command.Command.TheVariants.{Commit, QuitLeader, ReplicateCommitted}
use Rattle.proof_deeds.specs.raft_command.declared.sm.CommandPayload.TheVariants.{BuildSnapshot}
use Rattle.proof_deeds.specs.raft_command.Push.{committed_upto, ordered}
use Rattle.proof_deeds.specs.raft_command.Queue.{queued}
use Rattle.proof_deeds.specs.raft_steps.Commit.{commit_by}
use Rattle.proof_deeds.specs.raft_steps.Parts.{Core}
use Rattle.proof_deeds.specs.raft_steps.ReplicationHandler.{commit_granted, own_matched, try_commit_quorum_accepted, update_local_progress, with_entry}
use Rattle.proof_deeds.specs.raft_steps.SnapshotHandler.{snapshot_where_due, trigger_snapshot}
use Rattle.proof_deeds.specs.raft_store.declared.config.WorldConfig.{WorldConfig}
use Rattle.proof_deeds.specs.raft_store.declared.entry.Entry.{Entry}
use Rattle.proof_deeds.specs.raft_store.Types.{WorldCommand}
use Rattle.proof_deeds.specs.raft_calls.Feeds.{WorldLed}

abbrev pub WorldState : Type 0
WorldState = RaftState ℕ (Unit {0})

abbrev pub WorldCore : Type 0
WorldCore = Core WorldConfig ℕ (Unit {0}) Entry ℕ ℕ (List Entry)

-- the vote, the log, what of it is to be purged, the effective membership and the moment of the lease stay
pub record KeepsState (s t : WorldState) : Type 0 where
  pub vote : t.vote ≡ s.vote
  pub ids : t.ids ≡ s.ids
  pub em : t.em ≡ s.em
  pub time : t.time ≡ s.time
  pub purge_to : t.purge_to ≡ s.purge_to

pub same_state : (s : WorldState) → KeepsState s s
same_state s = record { vote = refl; ids = refl; em = refl; time = refl; purge_to = refl }

-- a command that leaves the streams
abbrev pub Stays : WorldCommand → Type 0
Stays QuitLeader = ⊥
Stays _ = Unit {0}

-- the same, and commands that leave the streams are at most queued behind the others
pub record KeepsCore (c d : WorldCore) : Type 0 where
  pub state : KeepsState c.state d.state
  pub spent : d.output.spent ≡ c.output.spent
  pub more : List WorldCommand
  pub items : d.output.items ≡ c.output.items ++ more
  pub stays : AllByRecursion Stays more

pub same_core : (c : WorldCore) → KeepsCore c c
same_core c = record { state = same_state c.state; spent = refl; more = []; items = sym (append-nil c.output.items); stays = tt }

pub state_then : (s t u : WorldState) → KeepsState s t → KeepsState t u → KeepsState s u
state_then s t u h k = record { vote = k.vote ∙ h.vote; ids = k.ids ∙ h.ids; em = k.em ∙ h.em; time = k.time ∙ h.time; purge_to = k.purge_to ∙ h.purge_to }

pub core_then : (b c d : WorldCore) → KeepsCore b c → KeepsCore c d → KeepsCore b d
core_then b c d h k = record {
  state = state_then b.state c.state d.state h.state k.state;
  spent = k.spent ∙ h.spent;
  more = h.more ++ k.more;
  items = k.items ∙ (ap (λ xs. xs ++ k.more) h.items ∙ append_assoc b.output.items h.more k.more);
  stays = each_append Stays h.more k.more h.stays k.stays;
}

settles : (s : WorldState) (x : Option (LogId ℕ)) → KeepsState s (settle nat_cmp s x)
settles s x = go (is_le (last_id_cmp nat_cmp s.em.log_id x))
  where
    go : (b : Bool) → KeepsState s (if b then record s { cm = s.em } else s)
    go true = record { vote = refl; ids = refl; em = refl; time = refl; purge_to = refl }
    go false = same_state s

commits_keeps : (s : WorldState) (x : Option (LogId ℕ)) → KeepsState s (commit nat_cmp s x)
commits_keeps s x = go (commits nat_cmp s x)
  where
    go : (b : Bool) → KeepsState s (if b then record (settle nat_cmp s x) { committed = x } else s)
    go true = let h : KeepsState s (settle nat_cmp s x) = settles s x in record { vote = h.vote; ids = h.ids; em = h.em; time = h.time; purge_to = h.purge_to }
    go false = same_state s

due_keeps : (config : EngineConfig ℕ) (c : WorldCore) → KeepsCore c (snapshot_where_due config c)
unfolding snapshot_where_due trigger_snapshot
due_keeps config c = go (should_snapshot config.snapshot_policy c.state) c.state.building
  where
    triggered : Bool → WorldCore
    triggered b = if b then c else record { state = record c.state { building = true }; output = ordered c.output BuildSnapshot }

    go : (a b : Bool) → KeepsCore c (if a then triggered b else c)
    go true true = same_core c
    go true false = record { state = record { vote = refl; ids = refl; em = refl; time = refl; purge_to = refl }; spent = refl; more = _; items = refl; stays = (tt, tt) }
    go false b = same_core c

pub committed_keeps : (config : EngineConfig ℕ) (first : List WorldCommand) → AllByRecursion Stays first → (x : Option (LogId ℕ)) (c : WorldCore) → KeepsCore c (commit_by nat_cmp config first x c)
unfolding commit_by
committed_keeps config first f None c = same_core c
committed_keeps config first f (Some x) c = go (commits nat_cmp c.state (Some x))
  where
    tells : KeepsCore c (record { state = commit nat_cmp c.state (Some x); output = committed_upto (queued c.output first) c.state.committed x })
    tells = record { state = commits_keeps c.state (Some x); spent = refl; more = first ++ Commit (c.output.seq + 1) c.state.committed x ∷ []; items = append_assoc c.output.items first (Commit (c.output.seq + 1) c.state.committed x ∷ []); stays = each_append Stays first (Commit (c.output.seq + 1) c.state.committed x ∷ []) f (tt, tt) }

    go : (b : Bool) → KeepsCore c (if b then snapshot_where_due config (record { state = commit nat_cmp c.state (Some x); output = committed_upto (queued c.output first) c.state.committed x }) else c)
    go true = core_then c (record { state = commit nat_cmp c.state (Some x); output = committed_upto (queued c.output first) c.state.committed x }) _ tells (due_keeps config (record { state = commit nat_cmp c.state (Some x); output = committed_upto (queued c.output first) c.state.committed x }))
    go false = same_core c

accepted_keeps : (config : EngineConfig ℕ) (o : Option (LogId ℕ)) (c : WorldCore) → KeepsCore c (try_commit_quorum_accepted nat_cmp config o c)
unfolding try_commit_quorum_accepted
accepted_keeps config None c = same_core c
accepted_keeps config (Some x) c = go (is_eq (leader_id_cmp nat_cmp x.leader_id c.state.vote.leader_id))
  where
    go : (b : Bool) → KeepsCore c (if b then commit_by nat_cmp config (ReplicateCommitted (Some x) ∷ []) (Some x) c else c)
    go true = committed_keeps config (ReplicateCommitted (Some x) ∷ []) (tt, tt) (Some x) c
    go false = same_core c

-- a leader acknowledges its own log
pub local_keeps : (config : EngineConfig ℕ) (x : Option (LogId ℕ)) (l : WorldLed) → KeepsCore l.core (update_local_progress nat_cmp config x l).core
unfolding update_local_progress
local_keeps config None l = same_core l.core
local_keeps config (Some x) l = go (get nat_cmp l.leader.progress config.id)
  where
    core_in : WorldLed → WorldCore
    core_in k = k.core

    of : (b : Bool) (e : ProgressEntry ℕ) → KeepsCore l.core (core_in (if b then l else commit_granted nat_cmp config (with_entry nat_cmp l config.id (own_matched nat_cmp (Some x) e))))
    of true e = same_core l.core
    of false e = accepted_keeps config (granted_id nat_cmp (is_quorum nat_cmp) (with_entry nat_cmp l config.id (own_matched nat_cmp (Some x) e)).leader) l.core

    go : (o : Option (ProgressEntry ℕ)) → KeepsCore l.core (core_in (elim o [ None ↦ l | Some e ↦ (if is_ge (last_id_cmp nat_cmp e.matching (Some x)) then l else commit_granted nat_cmp config (with_entry nat_cmp l config.id (own_matched nat_cmp (Some x) e))) ]))
    go None = same_core l.core
    go (Some e) = of (is_ge (last_id_cmp nat_cmp e.matching (Some x))) e
