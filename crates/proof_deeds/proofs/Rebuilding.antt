-- A leader builds its streams anew.
use Rattle.std.proofs.Common.{ℕ, ◌≡◌, ◌≢◌, List, [], ◌∷◌, map, arith, refl, sym, subst}
use Rattle.std.specs.Prelude.{filter}
use Rattle.std.specs.List.{AllByRecursion}
use Rattle.std.specs.Ordering.{nat_cmp}
use Rattle.std.proofs.lemmas.Bool.{cond_both}
use Rattle.raft_node.specs.raft_progress_entry.declared.entry.ProgressEntry.{ProgressEntry}
use Rattle.raft_node.specs.raft_progress_entry.Entry.{empty, silenced}
use Rattle.raft_node.specs.raft_command.declared.command.Command.TheVariants as command
use Rattle.raft_node.specs.raft_command.declared.config.EngineConfig.{EngineConfig}
use Rattle.raft_node.specs.raft_steps.ReplicationHandler.{is_other, silenced_row, rebuild_replication_streams}
use Rattle.proof_agreement.specs.Machine.{Setup}
use Rattle.proof_agreement.specs.Deeds.{BuildStreams, does}
use Rattle.raft_node.specs.raft_store.declared.entry.Entry.{Entry}
use Rattle.raft_node.specs.raft_store.Entries.{entry_meaning}
use Rattle.raft_node.specs.raft_store.Types.{WorldStore}
use Rattle.proof_mirror.specs.Ready.{InStep}
use Rattle.raft_node.specs.declared.node.Turn.{Turn}
use Rattle.raft_node.specs.raft_calls.Feeds.{WorldLed}
use Rattle.proof_deeds.specs.Chains.{left_by, Carried}
use Rattle.proof_deeds.specs.Images.{Ideal, IdealStore}
use Rattle.proof_deeds.specs.Knows.{KnowsMatch}
use Rattle.proof_deeds.proofs.Keeps.{Keeps}
use Rattle.proof_deeds.proofs.LeaderSends.{other_apart}
use Rattle.proof_deeds.proofs.Pushes.{push}
use Rattle.proof_deeds.proofs.Tails.{tail_named, tail_vote}
use Rattle.proof_deeds.proofs.VotePushes.{done_rebuild}
use Rattle.proof_deeds.proofs.Worlds.{at_put}

module _ (s : Setup Entry) (n : ℕ) where
  -- the session of the node's streams is of its vote
  abbrev pub Built : Ideal → Type 0
  Built V = (V.store n).session.leader ≡ (V.store n).vote

  pub built_keeps : (V : Ideal) → Keeps s (V.store n) ((does s V (BuildStreams n)).store n)
  built_keeps V = subst (Keeps s (V.store n)) (sym (at_put V n _)) (record { vote = refl; vote_committed = refl; committed = omega arith; holds = λ k x h. h })

  pub built_session : (V : Ideal) → Built (does s V (BuildStreams n))
  built_session V = subst (λ (S : IdealStore). S.session.leader ≡ S.vote) (sym (at_put V n _)) refl

module _ (s : Setup Entry) (t : Turn) (config : EngineConfig ℕ) (own : config.id ≡ t.id) (u : WorldStore) (W : Ideal) where
  others_apart : (rows : List (ℕ × ProgressEntry ℕ)) → AllByRecursion (λ x. x.0 ≢ t.id) (filter (is_other nat_cmp config) rows)
  others_apart [] = tt
  others_apart (row ∷ rows) = cond_both (is_other nat_cmp config row) (row ∷ filter (is_other nat_cmp config) rows) (filter (is_other nat_cmp config) rows) (AllByRecursion (λ x. x.0 ≢ t.id))
      (λ e. (other_apart s t config own row e, others_apart rows)) (λ _. others_apart rows)

  -- what is known of a new leader's targets is nothing
  pub fresh_rows : (d : ℕ) (V : Ideal) (n : ℕ) (ids : List ℕ) → AllByRecursion (KnowsMatch t.id d V) (map (silenced_row nat_cmp config) (map (λ id. let row : ℕ × ProgressEntry ℕ = (id, empty n) in row) ids))
  fresh_rows d V n [] = tt
  fresh_rows d V n (x ∷ xs) = (cond_both (is_other nat_cmp config (x, empty n)) (x, silenced (empty n)) (x, empty n) (KnowsMatch t.id d V) (λ _. tt) (λ _. tt), fresh_rows d V n xs)

  -- a node under its own vote builds its streams anew
  pub carried_rebuilt : (l : WorldLed) (K L : Ideal → Type 0) → InStep entry_meaning (left_by u l.core.output.items) l.core.state → ((V : Ideal) → K V → l.core.state.vote.leader_id.node_id ≡ t.id) → ((V : Ideal) → K V → L (does s V (BuildStreams t.id)))
      → Carried s t l.core.state.vote.leader_id u W l.core.output.items K → Carried s t l.core.state.vote.leader_id u W (rebuild_replication_streams nat_cmp config l).core.output.items L
  unfolding rebuild_replication_streams
  carried_rebuilt l K L j mine f h =
      push s t l.core.state.vote.leader_id u W l.core.output.items (command.RebuildReplicationStreams (filter (is_other nat_cmp config) (map (silenced_row nat_cmp config) l.leader.progress.rows))) K L h
      (λ V x k.
      let T : WorldStore = left_by u l.core.output.items in (
        does s V (BuildStreams t.id),
        done_rebuild s t l.core.state.vote.leader_id T (filter (is_other nat_cmp config) (map (silenced_row nat_cmp config) l.leader.progress.rows)) V x.store (tail_vote s T (V.store t.id) l.core.state x.store j) (mine V k) (tail_named s T (V.store t.id) l.core.state x.store j)
            (others_apart (map (silenced_row nat_cmp config) l.leader.progress.rows)),
        f V k,
      ))
