-- The numbers that are left, of commands and of requests to each node, as a leader takes answers and a node takes requests.
use Rattle.std.proofs.Common.{ℕ, ◌+◌, ◌-◌, ◌≤◌, ◌≡◌, Bool, true, false, List, [], ◌∷◌, map, arith, refl, subst, Option, None, Some, Result, Ok, Err}
use Rattle.std.specs.Prelude.{◌||◌, if◌then◌else◌, nat_lt}
use Rattle.std.specs.List.{AllByRecursion, list_any}
use Rattle.std.specs.Ordering.{nat_cmp}
use Rattle.std.proofs.lemmas.Bool.Decides.{nat_tests}
use Rattle.proof_deeds.specs.raft_state.declared.ids.LogId.{LogId}
use Rattle.proof_deeds.specs.raft_progress_entry.declared.entry.Inflight.{Inflight}
use Rattle.proof_deeds.specs.raft_progress_entry.declared.entry.ProgressEntry.{ProgressEntry}
use Rattle.proof_deeds.specs.raft_progress_entry.Entry.{conflicted, matched, next_send, sent, silenced}
use Rattle.proof_deeds.specs.raft_progress.Table.{get, is_row_of, row_of, with_value}
use Rattle.proof_deeds.specs.raft_command.declared.config.EngineConfig.{EngineConfig}
use Rattle.proof_deeds.specs.raft_command.declared.replication.ReplicationResult.{ReplicationResult}
use Rattle.proof_deeds.specs.raft_command.declared.replication.RequestId.{RequestId}
use Rattle.proof_deeds.specs.raft_command.Queue.{queued}
use Rattle.proof_deeds.specs.raft_command.Replication.{number_of}
use Rattle.proof_deeds.specs.raft_proposer.Joint.{u64_max}
use Rattle.proof_deeds.specs.raft_steps.Parts.{under}
use Rattle.proof_deeds.specs.raft_steps.Refusals.{is_counter_end, rows_in}
use Rattle.proof_deeds.specs.raft_steps.Replies.{on_entry, purge_unless_inflight, send_next, take_reply, update_conflicting, update_failed_progress, update_leader_clock, update_matching, update_progress, update_success_progress}
use Rattle.proof_deeds.specs.raft_steps.ReplicationHandler.{send_commands, with_entry}
use Rattle.proof_deeds.specs.raft_store.Types.{WorldLeader, WorldMachine}
use Rattle.proof_deeds.specs.raft_calls.Feeds.{WorldLed}
use Rattle.proof_progress.specs.Exchanges.{HasNumbers}
use Rattle.proof_progress.proofs.HeldMatches.{row_known}

pub near : (b x k : ℕ) → x + k ≤ b → nat_lt b x ≡ false
near b x k l = grind (arith, nat_tests)

pub rows_far : (b k : ℕ) (rs : List (ℕ × ProgressEntry ℕ)) → AllByRecursion (λ (row : ℕ × ProgressEntry ℕ). row.1.last_inflight_id + k ≤ b) rs → list_any (λ (row : ℕ × ProgressEntry ℕ). nat_lt b row.1.last_inflight_id) rs ≡ false
rows_far b k [] h = refl
rows_far b k (r ∷ rs) h = rw (near b r.1.last_inflight_id k h.0) (rows_far b k rs h.1)

pub neither_near : (a b : Bool) → a ≡ false → b ≡ false → (a || b) ≡ false
neither_near a b p q = rw (p, q) refl

-- no counter is at its end
pub far_off : (k : ℕ) (m : WorldMachine) → HasNumbers k m → is_counter_end m ≡ false
far_off k m h = neither_near _ _ (near (u64_max - 8) m.core.output.seq k h.0) (rows_far (u64_max - 8) k (rows_in m) h.1)

-- of a node that doesn't lead only its commands are numbered
pub unled_left : (k : ℕ) (m : WorldMachine) → m.leader ≡ None → m.core.output.seq + k ≤ u64_max - 8 → HasNumbers k m
unled_left k m q l = (l, go m.leader q)
  where
    go : (o : Option WorldLeader) → o ≡ None → AllByRecursion (λ (row : ℕ × ProgressEntry ℕ). row.1.last_inflight_id + k ≤ u64_max - 8) (elim o [ None ↦ [] | Some l ↦ l.progress.rows ])
    go None e = tt
    go (Some l) e = cc

pub drawn : (x y k j b : ℕ) → x + (k + j) ≤ b → y ≤ x + j → y + k ≤ b
drawn x y k j b l h = omega (arith, l, h)

module _ (b : ℕ) where
  -- so many requests to each node are left
  abbrev pub Left : ℕ → List (ℕ × ProgressEntry ℕ) → Type 0
  Left k rows = AllByRecursion (λ (row : ℕ × ProgressEntry ℕ). row.1.last_inflight_id + k ≤ b) rows

  pub fewer : (k j : ℕ) (rows : List (ℕ × ProgressEntry ℕ)) → Left (k + j) rows → Left k rows
  fewer k j [] a = tt
  fewer k j (row ∷ rows) a = (drawn row.1.last_inflight_id row.1.last_inflight_id k j b a.0 (omega arith), fewer k j rows a.1)

  pub put_left : (k j t : ℕ) (w e : ProgressEntry ℕ) → w.last_inflight_id ≤ e.last_inflight_id + j → (rows : List (ℕ × ProgressEntry ℕ)) → row_of nat_cmp t rows ≡ Some e → Left (k + j) rows → Left k (map (with_value nat_cmp t w) rows)
  put_left k j t w e l rows h a = each rows a
    where
      bound : w.last_inflight_id + k ≤ b
      bound = drawn e.last_inflight_id w.last_inflight_id k j b (row_known (λ (row : ℕ × ProgressEntry ℕ). row.1.last_inflight_id + (k + j) ≤ b) t e rows a h) l

      each : (rows : List (ℕ × ProgressEntry ℕ)) → Left (k + j) rows → Left k (map (with_value nat_cmp t w) rows)
      each [] a = tt
      each (row ∷ rows) a = (go (is_row_of nat_cmp t row), each rows a.1)
        where
          go : (c : Bool) → (let r : ℕ × ProgressEntry ℕ = if c then (row.0, w) else row in r.1.last_inflight_id + k ≤ b)
          go true = bound
          go false = drawn row.1.last_inflight_id row.1.last_inflight_id k j b a.0 (omega arith)

  entry_left : (k t : ℕ) (f : ProgressEntry ℕ → ProgressEntry ℕ) → ((e : ProgressEntry ℕ) → (f e).last_inflight_id ≡ e.last_inflight_id) → (l : WorldLed) → Left k l.leader.progress.rows → Left k (on_entry nat_cmp t f l).leader.progress.rows
  entry_left k t f s l a = go (get nat_cmp l.leader.progress t) refl
    where
      same : (x y : ℕ) → x ≡ y → x ≤ y + 0
      same x y q = omega (arith, q)

      none : (k : ℕ) → k ≡ k + 0
      none k = omega arith

      go : (o : Option (ProgressEntry ℕ)) → get nat_cmp l.leader.progress t ≡ o → (let n = (elim o as (λ _. WorldLed) [ None ↦ l | Some e ↦ with_entry nat_cmp l t (f e) ]) in Left k n.leader.progress.rows)
      go None q = a
      go (Some e) q = put_left k 0 t (f e) e (same (f e).last_inflight_id e.last_inflight_id (s e)) l.leader.progress.rows q (subst (λ j. Left j l.leader.progress.rows) (none k) a)

  module _ (config : EngineConfig ℕ) (k t : ℕ) where
    matching_left : (x : Option (LogId ℕ)) (l : WorldLed) → Left k l.leader.progress.rows → Left k (update_matching nat_cmp config t x l).leader.progress.rows
    unfolding update_matching
    matching_left x l a = entry_left k t (λ e. matched nat_cmp e x) (λ e. refl) l a

    conflicting_left : (number : Option ℕ) (x : LogId ℕ) (l : WorldLed) → Left k l.leader.progress.rows → Left k (update_conflicting nat_cmp t number x l).leader.progress.rows
    unfolding update_conflicting
    conflicting_left number x l a = entry_left k t (λ e. conflicted e number x.index) (λ e. by e number) l a
      where
        by : (e : ProgressEntry ℕ) (number : Option ℕ) → (conflicted e number x.index).last_inflight_id ≡ e.last_inflight_id
        by e None = refl
        by e (Some id) = refl

    success_left : (id : RequestId) (answer : ReplicationResult ℕ) (l : WorldLed) → Left k l.leader.progress.rows → Left k (update_success_progress nat_cmp config t id answer l).leader.progress.rows
    unfolding update_success_progress update_leader_clock
    success_left id answer l a = go answer.result (number_of id)
      where
        clocked : WorldLed
        clocked = update_leader_clock nat_cmp t answer.sending_time l

        go : (r : Result (Option (LogId ℕ)) (LogId ℕ)) (number : Option ℕ) → (let n = (elim r as (λ _. WorldLed) [
          | Ok x ↦ elim number [ None ↦ clocked | Some _ ↦ update_matching nat_cmp config t x clocked ]
          | Err x ↦ update_conflicting nat_cmp t number x clocked
        ]) in Left k n.leader.progress.rows)
        go (Ok x) None = a
        go (Ok x) (Some number) = matching_left x clocked a
        go (Err x) number = conflicting_left number x clocked a

    reply_left : {T : Type 0} (id : RequestId) (reply : Result (ReplicationResult ℕ) T) (l : WorldLed) → Left k l.leader.progress.rows → Left k (take_reply nat_cmp config t id reply l).leader.progress.rows
    unfolding update_failed_progress
    reply_left id (Ok answer) l a = success_left id answer l a
    reply_left id (Err _) l a = go (number_of id)
      where
        go : (o : Option ℕ) → (let n = (elim o as (λ _. WorldLed) [ None ↦ l | Some _ ↦ on_entry nat_cmp t silenced l ]) in Left k n.leader.progress.rows)
        go None = a
        go (Some number) = entry_left k t silenced (λ e. refl) l a

    purge_left : (l : WorldLed) → Left k l.leader.progress.rows → Left k (purge_unless_inflight nat_cmp l).leader.progress.rows
    unfolding purge_unless_inflight
    purge_left l a = a

  send_left : (config : EngineConfig ℕ) (k t : ℕ) (l : WorldLed) → Left (k + 1) l.leader.progress.rows → Left k (send_next nat_cmp config t l).leader.progress.rows
  unfolding send_next
  send_left config k t l a = go (get nat_cmp l.leader.progress t) refl
    where
      one : (e : ProgressEntry ℕ) (r : Result (Inflight ℕ) (Inflight ℕ)) → (sent e r).last_inflight_id ≤ e.last_inflight_id + 1
      one e (Ok f) = omega arith
      one e (Err f) = omega arith

      go : (o : Option (ProgressEntry ℕ)) → get nat_cmp l.leader.progress t ≡ o → (let n = (elim o as (λ _. WorldLed) [
        | None ↦ l
        | Some e ↦
            let r = next_send l.core.state config.max_payload_entries e in
            under (λ c. record c { output = queued c.output (send_commands false t r) }) (with_entry nat_cmp l t (sent e r))
      ]) in Left k n.leader.progress.rows)
      go None q = fewer k 1 l.leader.progress.rows a
      go (Some e) q = put_left k 1 t (sent e (next_send l.core.state config.max_payload_entries e)) e (one e (next_send l.core.state config.max_payload_entries e)) l.leader.progress.rows q a

  -- a leader that handles an answer, or a failure, draws one number for a request at most
  pub progress_left : {T : Type 0} (config : EngineConfig ℕ) (k t : ℕ) (id : RequestId) (reply : Result (ReplicationResult ℕ) T) (l : WorldLed) → Left (k + 1) l.leader.progress.rows
      → Left k (update_progress nat_cmp config t id reply l).leader.progress.rows
  unfolding update_progress
  progress_left config k t id reply l a =
      send_left config k t (purge_unless_inflight nat_cmp (take_reply nat_cmp config t id reply l)) (purge_left config (k + 1) t (take_reply nat_cmp config t id reply l) (reply_left config (k + 1) t id reply l a))

-- so what is left of a leader's numbers
pub led_left : (k : ℕ) (m n : WorldMachine) (l g : WorldLeader) → m.leader ≡ Some l → n.leader ≡ Some g → HasNumbers (k + 2) m → n.core.output.seq ≤ m.core.output.seq + 2
    → (Left (u64_max - 8) (k + 1) l.progress.rows → Left (u64_max - 8) k g.progress.rows) → HasNumbers k n
led_left k m n l g q r h s f = (drawn m.core.output.seq n.core.output.seq k 2 (u64_max - 8) h.0 s, into n.leader r (f (fewer (u64_max - 8) (k + 1) 1 l.progress.rows (one_more (of m.leader q h.1)))))
  where
    of : (o : Option WorldLeader) → o ≡ Some l → Left (u64_max - 8) (k + 2) (elim o [ None ↦ [] | Some l ↦ l.progress.rows ]) → Left (u64_max - 8) (k + 2) l.progress.rows
    of None e a = cc
    of (Some x) e a = let z : x ≡ l = cc in subst (λ (x : WorldLeader). Left (u64_max - 8) (k + 2) x.progress.rows) z a

    into : (o : Option WorldLeader) → o ≡ Some g → Left (u64_max - 8) k g.progress.rows → Left (u64_max - 8) k (elim o [ None ↦ [] | Some l ↦ l.progress.rows ])
    into None e a = cc
    into (Some x) e a = let z : g ≡ x = cc in subst (λ (x : WorldLeader). Left (u64_max - 8) k x.progress.rows) z a

    two : (k : ℕ) → k + 2 ≡ (k + 1) + 1
    two k = omega arith

    one_more : Left (u64_max - 8) (k + 2) l.progress.rows → Left (u64_max - 8) ((k + 1) + 1) l.progress.rows
    one_more a = subst (λ j. Left (u64_max - 8) j l.progress.rows) (two k) a
