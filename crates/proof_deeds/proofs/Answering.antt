-- What a leader makes of a reply to what it sent.
use Rattle.std.proofs.Common.{ℕ, ◌≡◌, ◌≢◌, false, ◌++◌, Option, None, Some, Result, Ok, Err}
use Rattle.std.specs.Prelude.{IfSome}
use Rattle.std.specs.Ordering.{nat_cmp}
use Rattle.std.proofs.lemmas.Cmp.{nat_cmp_total}
use Rattle.raft_node.specs.raft_state.declared.ids.LogId.{LogId}
use Rattle.raft_node.specs.raft_state.Same.{nat_same}
use Rattle.raft_node.specs.raft_progress_entry.declared.entry.Inflight.{Inflight}
use Rattle.raft_node.specs.raft_progress_entry.declared.entry.ProgressEntry.{ProgressEntry}
use Rattle.raft_node.specs.raft_progress_entry.Entry.{refusals_of_conflicted, next_send, sent}
use Rattle.raft_node.specs.raft_progress.Table.{get}
use Rattle.raft_node.specs.raft_command.Queue.{queued}
use Rattle.raft_node.specs.raft_command.Replication.{number_of}
use Rattle.raft_node.specs.raft_command.declared.config.EngineConfig.{EngineConfig}
use Rattle.raft_node.specs.raft_command.declared.replication.ReplicationResult.{ReplicationResult}
use Rattle.raft_node.specs.raft_command.declared.replication.RequestId.{RequestId}
use Rattle.raft_node.specs.raft_steps.Invariants.{EntryFits, IsSoundLed}
use Rattle.raft_node.specs.raft_steps.Parts.{under}
use Rattle.raft_node.specs.raft_steps.ReplicationHandler.{send_commands, with_entry}
use Rattle.raft_node.specs.raft_steps.Replies.{update_leader_clock, update_conflicting, update_matching, update_success_progress, send_next, take_reply}
use Rattle.raft_node.specs.raft_steps.ReplyRefusals.{refusals_of_entry, refusals_of_acknowledged, refusals_of_answer, refusals_of_result}
use Rattle.raft_node.proofs.raft_steps_proofs.KeptCommit.{row_each}
use Rattle.raft_node.proofs.raft_steps_proofs.KeptReplies.{clock_kept}
use Rattle.proof_agreement.specs.Machine.{Setup}
use Rattle.raft_node.specs.raft_store.Entries.{entry_meaning}
use Rattle.raft_node.specs.raft_store.declared.entry.Entry as world
use Rattle.raft_node.specs.raft_store.Types.{WorldStore}
use Rattle.proof_mirror.specs.Ready.{Ordered, Pending, PendingLed}
use Rattle.proof_mirror.proofs.Sends.{next_there}
use Rattle.raft_node.specs.declared.node.Turn.{Turn}
use Rattle.raft_node.specs.raft_calls.Feeds.{WorldLed}
use Rattle.proof_deeds.specs.Chains.{Reached, left_by}
use Rattle.proof_deeds.specs.Images.{Ideal, number}
use Rattle.proof_deeds.specs.Knows.{KnowsMatch}
use Rattle.proof_deeds.proofs.Acknowledging.{Acknowledged, row_known, match_rows, carried_matching, carried_conflicting, carried_failed, carried_clock}
use Rattle.proof_deeds.proofs.LeaderSends.{KnowsIn, CarriedLed, Owns, owns_of, sends_there, carried_sends}
use Rattle.proof_deeds.proofs.Pushes.{carry}
use Rattle.proof_deeds.proofs.Quorums.{Means}

module _ (s : Setup world.Entry) (means : Means s) (t : Turn) (config : EngineConfig ℕ) (own : config.id ≡ t.id) (u : WorldStore) (W : Ideal) where
  -- what an answer acknowledges was accepted
  abbrev pub AnswerIs : ℕ → WorldLed → Result (Option (LogId ℕ)) (LogId ℕ) → Type 0
  AnswerIs target l (Ok x) = Acknowledged s means t config own u W target l x
  AnswerIs target l (Err x) = Unit {0}

  -- the same of a reply, or the failure of a request
  abbrev pub ReplyIs : {T : Type 0} → ℕ → WorldLed → Result (ReplicationResult ℕ) T → Type 0
  ReplyIs target l (Ok answer) = AnswerIs target l answer.result
  ReplyIs target l (Err e) = Unit {0}

  -- an answer is taken
  pub carried_success : (target : ℕ) (id : RequestId) (answer : ReplicationResult ℕ) (l : WorldLed) → Pending nat_cmp entry_meaning (λ es. es) u l.core → IsSoundLed nat_cmp config l
      → refusals_of_entry nat_cmp target (λ e. refusals_of_answer nat_cmp l.core.state e id answer) l.leader ≡ None → AnswerIs target l answer.result → CarriedLed s t u W l → CarriedLed s t u W (update_success_progress nat_cmp config target id answer l)
  unfolding update_success_progress update_leader_clock
  carried_success target id answer l p sound a acc h = go answer.result (number_of id) a acc where
    clocked : WorldLed
    clocked = update_leader_clock nat_cmp target answer.sending_time l

    kept : IsSoundLed nat_cmp config clocked
    kept = clock_kept nat_cmp nat_cmp_total nat_same config target answer.sending_time l sound

    carried : CarriedLed s t u W clocked
    carried = carried_clock s means t config own u W target answer.sending_time l h

    go : (r : Result (Option (LogId ℕ)) (LogId ℕ)) (number_ : Option ℕ)
        → refusals_of_entry nat_cmp target (λ e. elim r [
          | Ok x ↦ elim number_ [ None ↦ None | Some number_ ↦ refusals_of_acknowledged nat_cmp l.core.state e number_ x ]
          | Err x ↦ refusals_of_conflicted e number_ x.index
        ]) l.leader ≡ None → AnswerIs target l r
        → (let n = (elim r as (λ _. WorldLed) [
          | Ok x ↦ elim number_ [ None ↦ clocked | Some _ ↦ update_matching nat_cmp config target x clocked ]
          | Err x ↦ update_conflicting nat_cmp target number_ x clocked
        ]) in CarriedLed s t u W n)
    go (Ok x) None a acc = carried
    go (Ok x) (Some k) a acc = carried_matching s means t config own u W target k x clocked p.in_step kept (owns_of s t config clocked own kept) a acc carried
    go (Err x) number_ a acc = carried_conflicting s means t config own u W target number_ x clocked carried

  pub carried_reply : {T : Type 0} (target : ℕ) (id : RequestId) (reply : Result (ReplicationResult ℕ) T) (l : WorldLed) → Pending nat_cmp entry_meaning (λ es. es) u l.core → IsSoundLed nat_cmp config l
      → refusals_of_entry nat_cmp target (λ e. refusals_of_result nat_cmp l.core.state e id reply) l.leader ≡ None → ReplyIs target l reply → CarriedLed s t u W l → CarriedLed s t u W (take_reply nat_cmp config target id reply l)
  carried_reply target id (Ok answer) l p sound a acc h = carried_success target id answer l p sound a acc h
  carried_reply target id (Err e) l p sound a acc h = carried_failed s means t config own u W target id l h

  module _ (reached : Reached s W) (ordered : Ordered nat_cmp entry_meaning u) where
    -- another node is sent what comes next
    pub carried_send_next : (target : ℕ) (l : WorldLed) → target ≢ t.id → PendingLed nat_cmp entry_meaning (λ es. es) u l → IsSoundLed nat_cmp config l → CarriedLed s t u W l → CarriedLed s t u W (send_next nat_cmp config target l)
    unfolding send_next
    carried_send_next target l other p sound h =
        go (get nat_cmp l.leader.progress target) (row_each nat_cmp (EntryFits nat_cmp l.core.state.ids l.core.state.purged) target l.leader.progress.rows sound.leader_fits.entries)
        (λ V k. row_known (KnowsMatch t.id (number l.leader.vote.leader_id) V) target l.leader.progress.rows k.1.rows) where
          o : Owns s t l
          o = owns_of s t config l own sound

          sent_same : (V : Ideal) (e : ProgressEntry ℕ) (r : Result (Inflight ℕ) (Inflight ℕ)) → KnowsMatch t.id (number l.leader.vote.leader_id) V (target, e) → KnowsMatch t.id (number l.leader.vote.leader_id) V (target, sent e r)
          sent_same V e (Ok f) k = k
          sent_same V e (Err f) k = k

          go : (r : Option (ProgressEntry ℕ)) → IfSome r (EntryFits nat_cmp l.core.state.ids l.core.state.purged) → ((V : Ideal) → KnowsIn s t l V → IfSome r (λ e. KnowsMatch t.id (number l.leader.vote.leader_id) V (target, e)))
              → (let n = (elim r as (λ _. WorldLed) [
                | None ↦ l
                | Some e ↦
                    let r = next_send l.core.state config.max_payload_entries e in
                    under (λ c. record c { output = queued c.output (send_commands false target r) }) (with_entry nat_cmp l target (sent e r))
              ]) in CarriedLed s t u W n)
          go None k a = h
          go (Some e) k a =
              let r : Result (Inflight ℕ) (Inflight ℕ) = next_send l.core.state config.max_payload_entries e in
              let n : WorldLed = under (λ c. record c { output = queued c.output (send_commands false target (next_send l.core.state config.max_payload_entries e)) }) (with_entry nat_cmp l target (sent e (next_send l.core.state config.max_payload_entries e))) in
              carry s t l.core.state.vote.leader_id u W (l.core.output.items ++ send_commands false target (next_send l.core.state config.max_payload_entries e)) (KnowsIn s t l)
              (KnowsIn s t (under (λ c. record c { output = queued c.output (send_commands false target (next_send l.core.state config.max_payload_entries e)) }) (with_entry nat_cmp l target (sent e (next_send l.core.state config.max_payload_entries e)))))
              (carried_sends s means.owner t config own u W reached ordered l (send_commands false target (next_send l.core.state config.max_payload_entries e)) p o
              (sends_there s t (left_by u l.core.output.items) false target (next_send l.core.state config.max_payload_entries e) other
              (next_there entry_meaning (left_by u l.core.output.items) l.core.state config.max_payload_entries e p.core.in_step (record { above = k.above; below = k.below }))) h)
              (λ V _ y. (y.0, record { vote = y.1.vote; session = y.1.session; rows = match_rows t (number l.leader.vote.leader_id) V target (sent e (next_send l.core.state config.max_payload_entries e)) l.leader.progress.rows (sent_same V e (next_send l.core.state config.max_payload_entries e) (a V y)) y.1.rows; above = y.1.above }))
