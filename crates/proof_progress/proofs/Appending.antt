-- What a leader's proposal makes of its engine: its log and its table, and what it queues.
use Rattle.std.proofs.Common.{ℕ, suc, ◌+◌, ◌≤◌, ◌<◌, ◌≡◌, ◌≢◌, inl, inr, Bool, true, false, not, cond, List, [], ◌∷◌, length, map, arith, refl, sym, ap, ◌∙◌, subst, Option, None, Some, Result, Ok, Err}
use Rattle.std.specs.Prelude.{◌==◌, find, is_none, flat_map, if◌then◌else◌, nat_lt}
use Rattle.std.specs.List.{AllByRecursion}
use Rattle.std.specs.Option.{option_map}
use Rattle.std.specs.Ordering.{is_eq, is_ge, nat_cmp}
use Rattle.std.proofs.lemmas.Cmp.{nat_cmp_total}
use Rattle.proof_deeds.specs.raft_state.declared.ids.LeaderId.{LeaderId}
use Rattle.proof_deeds.specs.raft_state.declared.ids.LogId.{LogId}
use Rattle.proof_deeds.specs.raft_state.Log.{last}
use Rattle.proof_deeds.specs.raft_state.Order.{last_id_cmp, leader_id_cmp, next}
use Rattle.proof_deeds.specs.raft_state.Policy.{should_snapshot}
use Rattle.proof_deeds.specs.raft_state.Same.{nat_same}
use Rattle.proof_deeds.specs.raft_state.State.{commit, commits}
use Rattle.proof_deeds.proofs.raft_state_proofs.LogLists.{each_append}
use Rattle.proof_deeds.proofs.raft_state_proofs.Orders.{is_equal}
use Rattle.proof_deeds.specs.raft_progress_entry.declared.entry.Inflight.{Inflight}
use Rattle.proof_deeds.specs.raft_progress_entry.declared.entry.Inflight.TheVariants as inflight
use Rattle.proof_deeds.specs.raft_progress_entry.declared.entry.ProgressEntry.{ProgressEntry}
use Rattle.proof_deeds.specs.raft_progress_entry.Entry.{before, inflight_id, next_send, send_end, send_start, sent}
use Rattle.proof_deeds.specs.raft_progress.Quorum.{is_quorum}
use Rattle.proof_deeds.specs.raft_progress.Table.{get, is_row_of, row_of}
use Rattle.proof_deeds.specs.raft_command.Queue.{Queue, queued}
use Rattle.proof_deeds.specs.raft_command.Push.{committed_upto}
use Rattle.proof_deeds.specs.raft_command.declared.config.EngineConfig.{EngineConfig}
use Rattle.proof_deeds.specs.raft_proposer.Leader.{granted_id, numbered}
use Rattle.proof_deeds.specs.raft_steps.Commit.{commit_by}
use Rattle.proof_deeds.specs.raft_steps.Invariants.{EntryFits}
use Rattle.proof_deeds.specs.raft_state.Invariants.{IsSoundState}
use Rattle.proof_deeds.specs.raft_steps.Parts.{led_of}
use Rattle.proof_deeds.specs.raft_steps.ReplicationHandler.{commit_granted, is_other, own_matched, send_commands, sends_of, sent_row, try_commit_quorum_accepted, update_local_progress, with_entry}
use Rattle.proof_deeds.specs.raft_steps.SnapshotHandler.{snapshot_where_due, trigger_snapshot}
use Rattle.proof_deeds.proofs.raft_steps_proofs.Kept.{either, either_option}
use Rattle.proof_deeds.specs.raft_store.declared.entry.Entry.{Entry}
use Rattle.proof_deeds.specs.raft_store.Entries.{entry_meaning}
use Rattle.proof_deeds.specs.raft_store.Types.{WorldCommand, WorldLeader}
use Rattle.proof_deeds.specs.raft_calls.Feeds.{WorldLed, last_sent}
use Rattle.proof_progress.proofs.Carried.{last_then}
use Rattle.proof_progress.proofs.KeptVotes.{WorldState}
use Rattle.proof_progress.proofs.LedQueue.{IsLedCommand, LedQueues, granted_queues, queues_here, queues_more}
use Rattle.proof_progress.proofs.Nearing.{IsServed, serves}
use Rattle.proof_progress.proofs.Numbers.{Left, drawn, put_left}
use Rattle.proof_progress.proofs.Rounds.{sent_matching}
use Rattle.proof_progress.proofs.Taking.{WorldCore}

-- Queues

-- what is sent to the other nodes feeds nothing back
sends_led : (target : ℕ) (r : Result (Inflight ℕ) (Inflight ℕ)) → AllByRecursion (λ (c : WorldCommand). IsLedCommand c) (send_commands false target r)
sends_led target (Ok f) = (tt, tt)
sends_led target (Err inflight.None) = tt
sends_led target (Err (inflight.Logs i range)) = tt
sends_led target (Err (inflight.Snapshot i x)) = tt

pub all_led : (config : EngineConfig ℕ) (s : WorldState) (rows : List (ℕ × ProgressEntry ℕ)) → AllByRecursion (λ (c : WorldCommand). IsLedCommand c) (flat_map (sends_of nat_cmp config false s) rows)
all_led config s [] = tt
all_led config s (row ∷ rows) =
    each_append (λ (c : WorldCommand). IsLedCommand c) (sends_of nat_cmp config false s row) (flat_map (sends_of nat_cmp config false s) rows) (one (is_other nat_cmp config row)) (all_led config s rows)
  where
    one : (b : Bool) → AllByRecursion (λ (c : WorldCommand). IsLedCommand c) (if b then send_commands false row.0 (next_send s config.max_payload_entries row.1) else [])
    one true = sends_led row.0 (next_send s config.max_payload_entries row.1)
    one false = tt

-- nor is what a leader queues as it acknowledges its own log
pub local_queues : (config : EngineConfig ℕ) (o : Option (LogId ℕ)) (l : WorldLed) → LedQueues 2 l.core (update_local_progress nat_cmp config o l).core
unfolding update_local_progress
local_queues config None l = queues_more 0 2 l.core l.core (omega arith) (queues_here l.core l.core refl refl refl)
local_queues config (Some x) l =
    either_option (λ (n : WorldLed). LedQueues 2 l.core n.core) (get nat_cmp l.leader.progress config.id) l _ here
    (λ e. either (λ (n : WorldLed). LedQueues 2 l.core n.core) (is_ge (last_id_cmp nat_cmp e.matching (Some x))) l _ here
    (granted_queues nat_cmp config (granted_id nat_cmp (is_quorum nat_cmp) (with_entry nat_cmp l config.id (own_matched nat_cmp (Some x) e)).leader) l.core))
  where
    here : LedQueues 2 l.core l.core
    here = queues_more 0 2 l.core l.core (omega arith) (queues_here l.core l.core refl refl refl)

-- What a leader is doesn't depend on its queue

two_states : (b : Bool) (x y u v : WorldCore) → x.state ≡ u.state → y.state ≡ v.state → (let c : WorldCore = if b then x else y in c.state) ≡ (let c : WorldCore = if b then u else v in c.state)
two_states true x y u v p q = p
two_states false x y u v p q = q

module _ (config : EngineConfig ℕ) where
  with_due : (s : WorldState) (q r : Queue WorldCommand) → (snapshot_where_due config (let c : WorldCore = record { state = s; output = q } in c)).state ≡ (snapshot_where_due config (let c : WorldCore = record { state = s; output = r } in c)).state
  unfolding snapshot_where_due trigger_snapshot
  with_due s q r = two_states (should_snapshot config.snapshot_policy s) _ _ _ _ (two_states s.building _ _ _ _ refl refl) refl

  with_commit : (first : List WorldCommand) (o : Option (LogId ℕ)) (s : WorldState) (q r : Queue WorldCommand)
      → (commit_by nat_cmp config first o (let c : WorldCore = record { state = s; output = q } in c)).state ≡ (commit_by nat_cmp config first o (let c : WorldCore = record { state = s; output = r } in c)).state
  unfolding commit_by
  with_commit first None s q r = refl
  with_commit first (Some y) s q r =
      two_states (commits nat_cmp s (Some y)) _ _ _ _ (with_due (commit nat_cmp s (Some y)) (committed_upto (queued q first) s.committed y) (committed_upto (queued r first) s.committed y)) refl

  with_granted : (o : Option (LogId ℕ)) (s : WorldState) (q r : Queue WorldCommand)
      → (try_commit_quorum_accepted nat_cmp config o (let c : WorldCore = record { state = s; output = q } in c)).state ≡ (try_commit_quorum_accepted nat_cmp config o (let c : WorldCore = record { state = s; output = r } in c)).state
  unfolding try_commit_quorum_accepted
  with_granted None s q r = refl
  with_granted (Some y) s q r = two_states (is_eq (leader_id_cmp nat_cmp y.leader_id s.vote.leader_id)) _ _ _ _ (with_commit _ (Some y) s q r) refl

  -- so it is after its own log is acknowledged
  module _ (g : WorldLeader) (s : WorldState) (q r : Queue WorldCommand) where
    pub local_leader : (o : Option (LogId ℕ)) → (update_local_progress nat_cmp config o (led_of g s q)).leader ≡ (update_local_progress nat_cmp config o (led_of g s r)).leader
    unfolding update_local_progress
    local_leader None = refl
    local_leader (Some x) = go (get nat_cmp g.progress config.id)
      where
        by : (b : Bool) (e : ProgressEntry ℕ) → (let n : WorldLed = if b then led_of g s q else commit_granted nat_cmp config (with_entry nat_cmp (led_of g s q) config.id e) in n.leader)
            ≡ (let n : WorldLed = if b then led_of g s r else commit_granted nat_cmp config (with_entry nat_cmp (led_of g s r) config.id e) in n.leader)
        by true e = refl
        by false e = refl

        go : (o : Option (ProgressEntry ℕ)) → (let n : WorldLed = elim o as (λ _. WorldLed) [
          | None ↦ led_of g s q
          | Some e ↦ (if is_ge (last_id_cmp nat_cmp e.matching (Some x)) then led_of g s q else commit_granted nat_cmp config (with_entry nat_cmp (led_of g s q) config.id (own_matched nat_cmp (Some x) e)))
        ] in n.leader) ≡ (let n : WorldLed = elim o as (λ _. WorldLed) [
          | None ↦ led_of g s r
          | Some e ↦ (if is_ge (last_id_cmp nat_cmp e.matching (Some x)) then led_of g s r else commit_granted nat_cmp config (with_entry nat_cmp (led_of g s r) config.id (own_matched nat_cmp (Some x) e)))
        ] in n.leader)
        go None = refl
        go (Some e) = by (is_ge (last_id_cmp nat_cmp e.matching (Some x))) (own_matched nat_cmp (Some x) e)

    pub local_state : (o : Option (LogId ℕ)) → (update_local_progress nat_cmp config o (led_of g s q)).core.state ≡ (update_local_progress nat_cmp config o (led_of g s r)).core.state
    unfolding update_local_progress
    local_state None = refl
    local_state (Some x) = go (get nat_cmp g.progress config.id)
      where
        by : (b : Bool) (e : ProgressEntry ℕ) → (let n : WorldLed = if b then led_of g s q else commit_granted nat_cmp config (with_entry nat_cmp (led_of g s q) config.id e) in n.core.state)
            ≡ (let n : WorldLed = if b then led_of g s r else commit_granted nat_cmp config (with_entry nat_cmp (led_of g s r) config.id e) in n.core.state)
        by true e = refl
        by false e = with_granted (granted_id nat_cmp (is_quorum nat_cmp) (with_entry nat_cmp (led_of g s q) config.id e).leader) s q r

        go : (o : Option (ProgressEntry ℕ)) → (let n : WorldLed = elim o as (λ _. WorldLed) [
          | None ↦ led_of g s q
          | Some e ↦ (if is_ge (last_id_cmp nat_cmp e.matching (Some x)) then led_of g s q else commit_granted nat_cmp config (with_entry nat_cmp (led_of g s q) config.id (own_matched nat_cmp (Some x) e)))
        ] in n.core.state) ≡ (let n : WorldLed = elim o as (λ _. WorldLed) [
          | None ↦ led_of g s r
          | Some e ↦ (if is_ge (last_id_cmp nat_cmp e.matching (Some x)) then led_of g s r else commit_granted nat_cmp config (with_entry nat_cmp (led_of g s r) config.id (own_matched nat_cmp (Some x) e)))
        ] in n.core.state)
        go None = refl
        go (Some e) = by (is_ge (last_id_cmp nat_cmp e.matching (Some x))) (own_matched nat_cmp (Some x) e)

-- Rows

module _ (config : EngineConfig ℕ) (s : WorldState) where
  same_id : (row : ℕ × ProgressEntry ℕ) → (sent_row nat_cmp config s row).0 ≡ row.0
  same_id row = either (λ (r : ℕ × ProgressEntry ℕ). r.0 ≡ row.0) (is_other nat_cmp config row) (row.0, sent row.1 (next_send s config.max_payload_entries row.1)) row refl refl

  other_image : (row : ℕ × ProgressEntry ℕ) → is_eq (nat_cmp config.id row.0) ≡ false → ◌≡◌ {A = ℕ × ProgressEntry ℕ} (sent_row nat_cmp config s row) (row.0, sent row.1 (next_send s config.max_payload_entries row.1))
  other_image row h = ap (λ b. let r : ℕ × ProgressEntry ℕ = if not b then (row.0, sent row.1 (next_send s config.max_payload_entries row.1)) else row in r) h

  -- another node's row once it was sent what it lacks
  pub mapped_get : (t : ℕ) (p : ProgressEntry ℕ) → is_eq (nat_cmp config.id t) ≡ false → (rows : List (ℕ × ProgressEntry ℕ)) → row_of nat_cmp t rows ≡ Some p
      → row_of nat_cmp t (map (sent_row nat_cmp config s) rows) ≡ Some (sent p (next_send s config.max_payload_entries p))
  mapped_get t p other [] h = cc
  mapped_get t p other (row ∷ rows) h = go (is_row_of nat_cmp t row) refl h (mapped_get t p other rows)
    where
      Found : ℕ × ProgressEntry ℕ → Type 0
      Found z = option_map (λ (r : ℕ × ProgressEntry ℕ). r.1) (cond (is_row_of nat_cmp t z) (Some z) (find (is_row_of nat_cmp t) (map (sent_row nat_cmp config s) rows))) ≡ Some (sent p (next_send s config.max_payload_entries p))

      here : is_row_of nat_cmp t row ≡ true → row.1 ≡ p → Found (row.0, sent row.1 (next_send s config.max_payload_entries row.1))
      here q e = rw q (ap (λ (y : ProgressEntry ℕ). let o : Option (ProgressEntry ℕ) = Some (sent y (next_send s config.max_payload_entries y)) in o) e)

      apart : is_row_of nat_cmp t row ≡ true → is_eq (nat_cmp config.id row.0) ≡ false
      apart q = subst (λ i. is_eq (nat_cmp config.id i) ≡ false) (nat_same t row.0 (is_equal _ q)) other

      by : (c : Bool) → row_of nat_cmp t (map (sent_row nat_cmp config s) rows) ≡ Some (sent p (next_send s config.max_payload_entries p)) → c ≡ false
          → option_map (λ (r : ℕ × ProgressEntry ℕ). r.1) (cond c (Some (sent_row nat_cmp config s row)) (find (is_row_of nat_cmp t) (map (sent_row nat_cmp config s) rows))) ≡ Some (sent p (next_send s config.max_payload_entries p))
      by true r e = cc
      by false r e = r

      go : (b : Bool) → is_row_of nat_cmp t row ≡ b → option_map (λ (r : ℕ × ProgressEntry ℕ). r.1) (cond b (Some row) (find (is_row_of nat_cmp t) rows)) ≡ Some p
          → (row_of nat_cmp t rows ≡ Some p → row_of nat_cmp t (map (sent_row nat_cmp config s) rows) ≡ Some (sent p (next_send s config.max_payload_entries p))) → Found (sent_row nat_cmp config s row)
      go true q k f = let e : row.1 ≡ p = cc in subst Found (sym (other_image row (apart q))) (here q e)
      go false q k f = by (is_row_of nat_cmp t (sent_row nat_cmp config s row)) (f k) (subst (λ i. is_eq (nat_cmp t i) ≡ false) (sym (same_id row)) q)

  -- one request more at most is numbered for each
  pub sent_left : (b k : ℕ) (rows : List (ℕ × ProgressEntry ℕ)) → Left b (k + 1) rows → Left b k (map (sent_row nat_cmp config s) rows)
  sent_left b k [] a = tt
  sent_left b k (row ∷ rows) a = (go (is_other nat_cmp config row), sent_left b k rows a.1)
    where
      one : (r : Result (Inflight ℕ) (Inflight ℕ)) → (sent row.1 r).last_inflight_id ≤ row.1.last_inflight_id + 1
      one (Ok f) = omega arith
      one (Err f) = omega arith

      go : (c : Bool) → (let r : ℕ × ProgressEntry ℕ = if c then (row.0, sent row.1 (next_send s config.max_payload_entries row.1)) else row in r.1.last_inflight_id + k ≤ b)
      go true = drawn row.1.last_inflight_id (sent row.1 (next_send s config.max_payload_entries row.1)).last_inflight_id k 1 b a.0 (one (next_send s config.max_payload_entries row.1))
      go false = drawn row.1.last_inflight_id row.1.last_inflight_id k 1 b a.0 (omega arith)

-- acknowledging its own log draws none
pub local_left : (b : ℕ) (config : EngineConfig ℕ) (k : ℕ) (o : Option (LogId ℕ)) (l : WorldLed) → Left b k l.leader.progress.rows → Left b k (update_local_progress nat_cmp config o l).leader.progress.rows
unfolding update_local_progress
local_left b config k None l a = a
local_left b config k (Some x) l a = go (get nat_cmp l.leader.progress config.id) refl
  where
    none : (k : ℕ) → k ≡ k + 0
    none k = omega arith

    by : (c : Bool) (e : ProgressEntry ℕ) → get nat_cmp l.leader.progress config.id ≡ Some e → (let n : WorldLed = if c then l else commit_granted nat_cmp config (with_entry nat_cmp l config.id (own_matched nat_cmp (Some x) e)) in Left b k n.leader.progress.rows)
    by true e q = a
    by false e q = put_left b k 0 config.id (own_matched nat_cmp (Some x) e) e (omega arith) l.leader.progress.rows q (subst (λ j. Left b j l.leader.progress.rows) (none k) a)

    go : (o : Option (ProgressEntry ℕ)) → get nat_cmp l.leader.progress config.id ≡ o → (let n : WorldLed = elim o as (λ _. WorldLed) [
      | None ↦ l
      | Some e ↦ (if is_ge (last_id_cmp nat_cmp e.matching (Some x)) then l else commit_granted nat_cmp config (with_entry nat_cmp l config.id (own_matched nat_cmp (Some x) e)))
    ] in Left b k n.leader.progress.rows)
    go None q = a
    go (Some e) q = by (is_ge (last_id_cmp nat_cmp e.matching (Some x))) e q

module _ (config : EngineConfig ℕ) (s : WorldState) where
  -- where a node's log isn't known to match, something is in flight to it then
  pub sent_busy : IsSoundState nat_cmp s → 1 ≤ config.max_payload_entries → next s.purge_to < next (last s.ids) → (p : ProgressEntry ℕ) → EntryFits nat_cmp s.ids s.purged p → next p.matching < next (last s.ids)
      → (sent p (next_send s config.max_payload_entries p)).inflight ≢ inflight.None
  sent_busy sound payload unpurged p f short = go p.inflight refl
    where
      made : Bool → ProgressEntry ℕ
      made busy = sent p (
          if busy then Err p.inflight
          else if nat_lt p.searching_end (next s.purge_to) then Ok (inflight.Snapshot (p.last_inflight_id + 1) s.snap.last_log_id)
          else if send_start s p == send_end s config.max_payload_entries (send_start s p) then Err inflight.None
          else Ok (inflight.Logs (p.last_inflight_id + 1) (record { prev = before s.ids (send_start s p); last = before s.ids (send_end s config.max_payload_entries (send_start s p)) })))

      kept : (i : Inflight ℕ) → i ≢ inflight.None → p.inflight ≡ i → not (is_none (inflight_id i)) ≡ true → (sent p (next_send s config.max_payload_entries p)).inflight ≢ inflight.None
      kept i d q b =
          subst (λ (c : Bool). (made c).inflight ≢ inflight.None) (sym (ap (λ (j : Inflight ℕ). not (is_none (inflight_id j))) q ∙ b)) (λ z. d (sym q ∙ z))

      by : IsServed (last s.ids) (sent p (next_send s config.max_payload_entries p)) → (sent p (next_send s config.max_payload_entries p)).inflight ≢ inflight.None
      by (inl (inl i)) z = let w : inflight.None ≡ inflight.Logs i.number (record { prev = i.prev; last = i.upto }) = sym z ∙ i.is in cc
      by (inl (inr i)) z = let w : inflight.None ≡ inflight.Snapshot i.number i.upto = sym z ∙ i.is in cc
      by (inr d) z =
          let m : next p.matching ≡ next (last s.ids) = ap next (sym (sent_matching p (next_send s config.max_payload_entries p)) ∙ d.matching) in
          absurd (omega (arith, m, short))

      go : (i : Inflight ℕ) → p.inflight ≡ i → (sent p (next_send s config.max_payload_entries p)).inflight ≢ inflight.None
      go inflight.None q = by (serves nat_cmp nat_cmp_total nat_same s sound config.max_payload_entries payload unpurged p f q)
      go (inflight.Logs number range) q = kept (inflight.Logs number range) (λ z. cc) q refl
      go (inflight.Snapshot number end) q = kept (inflight.Snapshot number end) (λ z. cc) q refl

-- The ids of proposed entries

pub last_numbered : (d : LeaderId ℕ) (n : ℕ) (prev : Option (LogId ℕ)) (e : Entry) (es : List Entry) → last_sent prev (numbered entry_meaning d n (e ∷ es)) ≡ Some (record { leader_id = d; index = n + length es })
last_numbered d n prev e [] = ap (λ i. let o : Option (LogId ℕ) = Some (record { leader_id = d; index = i }) in o) (plus n)
  where
    plus : (n : ℕ) → n ≡ n + 0
    plus n = omega arith
last_numbered d n prev e (y ∷ ys) =
    last_then prev (entry_meaning.with_id e (record { leader_id = d; index = n })) (numbered entry_meaning d (n + 1) (y ∷ ys))
    ∙ (last_numbered d (n + 1) (Some (record { leader_id = d; index = n })) y ys ∙ ap (λ i. let o : Option (LogId ℕ) = Some (record { leader_id = d; index = i }) in o) (plus n (length ys)))
  where
    plus : (n k : ℕ) → (n + 1) + k ≡ n + suc k
    plus n k = omega arith
