-- Worked rows, computed, on the run of `proof_answers`: one server takes a value by its third action and puts it on disk by the fourth.
use Rattle.std.specs.Prelude.{◌≡◌, ◌≤◌, ℕ, [], ◌∷◌, Contains, Option, None, Some, map, refl}
use Rattle.std.proofs.Common.{⊎_elim, sym, ap, subst, arith}
use Rattle.raft_steps.specs.Commit.{commit_by}
use Rattle.raft_steps.specs.Engine.{elect, handle_vote_resp, initialize, lead_by_votes, take_grant}
use Rattle.raft_steps.specs.FollowingHandler.{do_append_entries}
use Rattle.raft_steps.specs.LeaderHandler.{leader_append_entries, proposed}
use Rattle.raft_steps.specs.ReplicationHandler.{initiate_replication, rebuild_replication_streams, try_commit_quorum_accepted, update_local_progress}
use Rattle.raft_steps.specs.ServerStateHandler.{update_role}
use Rattle.raft_steps.specs.SnapshotHandler.{snapshot_where_due, trigger_snapshot}
use Rattle.raft_steps.specs.VoteHandler.{become_following, become_leader, begin_lead, lead_anew, update_internal_server_state, update_vote}
use Rattle.raft_steps.proofs.Example.{lid}
use Rattle.raft_store.specs.declared.entry.Value.TheVariants.{Bytes, Number}
use Rattle.raft_answers.specs.declared.request.Operation.{Operation}
use Rattle.raft_answers.specs.declared.request.Operation.TheVariants.{Read, Write}
use Rattle.raft_answers.specs.declared.request.Request.{Request}
use Rattle.raft_answers.specs.Requests.{batch_of}
use Rattle.raft_calls.specs.Elections.{first_entry}
use Rattle.raft_node.specs.Events.{finish, place_of, played}
use Rattle.raft_node.specs.Work.{worked}
use Rattle.proof_deeds.proofs.RunRows.{alone, blank}
use Rattle.proof_clients.proofs.Sequences.{first_or}
use Rattle.proof_clients.proofs.Slots.{here}
use Rattle.proof_answers.specs.Answers.{Executes}
use Rattle.proof_answers.proofs.Rows.{answers, asked, is_executed, no_early_answer, one, value}
use Rattle.proof_requests.specs.Answered.{IsDone, entries_left}
use Rattle.proof_requests.specs.Entries.{entries_at}
use Rattle.proof_requests.specs.Requests.{Asked, Placed}
use Rattle.proof_requests.proofs.Batches.{placed_from}
use Rattle.proof_requests.proofs.Lists.{none_in}

-- the value that was proposed, no request's own
abbrev row : Placed
row = record { call = 2; value = Number 7; entry = value; by = None }

-- a read that came when there were so many actions
abbrev read : ℕ → Asked
read came = record { number = 0; token = record { 0 = 9 }; operation = Read; came = came }

only_row : (w : Placed) → Contains (row ∷ []) w → row ≡ w
only_row w c = ⊎_elim (λ e. e) (λ d. absurd (none_in w d)) (first_or row [] w c)

-- what has left then, of which its entry is the last
has_left : entries_left one answers ≡ first_entry alone ∷ blank 1 1 1 ∷ value ∷ []
unfolding finish played worked place_of initialize elect do_append_entries update_vote update_internal_server_state become_following become_leader begin_lead lead_anew update_role handle_vote_resp take_grant lead_by_votes rebuild_replication_streams initiate_replication leader_append_entries proposed update_local_progress try_commit_quorum_accepted commit_by snapshot_where_due trigger_snapshot
has_left = refl

-- it waits for that entry, and is answered once it is executed and on disk
is_done : IsDone one answers (row ∷ []) 1 (read 2) 2
is_done = record {
  awaits = row;
  there = here row [];
  own = tt;
  only = λ w c e. sym (only_row w c);
  here = refl;
  later = omega arith;
  index_is = refl;
  flush = 3;
  commands = 9;
  executes = is_executed;
  left = subst (λ es. Contains es value) (sym has_left) (2, omega arith, refl);
}

-- before it is on disk it isn't
not_early : IsDone one asked (row ∷ []) 1 (read 2) 2 → ⊥
not_early d = no_early_answer d.flush d.commands (subst (λ (w : Placed). Executes one asked w.call w.entry d.flush d.commands) (sym (only_row d.awaits d.there)) d.executes)

-- nor at another index
not_there : IsDone one answers (row ∷ []) 1 (read 2) 3 → ⊥
not_there d =
    let i : d.awaits.entry.log_id.index ≡ 3 = d.index_is in
    let z : 2 ≡ d.awaits.entry.log_id.index = ap (λ (w : Placed). w.entry.log_id.index) (only_row d.awaits d.there) in
    omega (arith, i, z)

-- nor is a read that came after the proposal
not_late : IsDone one answers (row ∷ []) 1 (read 3) 2 → ⊥
not_late d =
    let l : 3 ≤ d.awaits.call = d.later in
    let z : 2 ≡ d.awaits.call = ap (λ (w : Placed). w.call) (only_row d.awaits d.there) in
    omega (arith, l, z)

-- nor a write that isn't the value's own
not_own : IsDone one answers (row ∷ []) 1 (record (read 2) { operation = Write (7 ∷ []) }) 2 → ⊥
not_own d =
    let z : ◌≡◌ {A = Option (ℕ × ℕ)} None (Some (1, 0)) = subst (λ (w : Placed). w.by ≡ Some (1, 0)) (sym (only_row d.awaits d.there)) d.own.0 in
    cc

-- A batch: a read in front of all writes gets a marker without bytes, and one behind a write waits for that
abbrev request : ℕ → Operation → Request
request n operation = record { token = record { 0 = n }; since = 4; operation = operation }

batch_is : batch_of (request 1 Read ∷ request 2 (Write (8 ∷ 9 ∷ [])) ∷ request 3 Read ∷ [])
    ≡ record {
      places = record { token = record { 0 = 1 }; since = 4; value = 0 } ∷ record { token = record { 0 = 2 }; since = 4; value = 1 } ∷ record { token = record { 0 = 3 }; since = 4; value = 1 } ∷ [];
      values = [] ∷ (8 ∷ 9 ∷ []) ∷ [];
    }
batch_is = refl

-- and their entries, and of which requests they are
entries_are : map (λ (w : Placed). w.entry) (placed_from 7 (lid 2 1 5) 0 (([], None) ∷ (8 ∷ 9 ∷ [], Some (1, 4)) ∷ [])) ≡ entries_at (lid 2 1 5).leader_id 5 (Bytes [] ∷ Bytes (8 ∷ 9 ∷ []) ∷ [])
entries_are = refl
