-- What a leader's sends and upgrades leave of its numbers.
use Rattle.std.proofs.Common.{◌≡◌, ◌∙◌, refl, ap, ℕ, suc, ◌+◌, ◌^◌, ◌<◌, Bool, true, false, List, [], ◌∷◌, ◌++◌, map, lit<, Option, None, Some, Result, Ok, Err, arith}
use Rattle.std.specs.List.{flat_map}
use Rattle.std.specs.Prelude.{filter, All, IfSome, find, unwrap_or, if◌then◌else◌}
use Rattle.std.specs.Option.{option_map}
use Rattle.std.proofs.lemmas.List.Elements.{All-nil, All-cons, All-head, All-tail}
use Rattle.std.specs.declared.cmp.Ordering.{Ordering}
use Rattle.raft_state.specs.declared.ids.LogId.{LogId}
use Rattle.raft_state.specs.declared.state.RaftState.{RaftState}
use Rattle.raft_state.specs.Order.{next}
use Rattle.raft_state.specs.Log.{last}
use Rattle.raft_state.specs.Members.{voter_ids, learner_ids}
use Rattle.raft_progress_entry.specs.declared.entry.ProgressEntry.{ProgressEntry}
use Rattle.raft_progress_entry.specs.declared.entry.Inflight.{Inflight}
use Rattle.raft_progress_entry.specs.Entry.{empty, sent, silenced, next_send}
use Rattle.raft_proposer.specs.raft_progress.Table.{measures, kept_row, rows_of, is_row_of}
use Rattle.raft_command.specs.declared.config.EngineConfig.{EngineConfig}
use Rattle.raft_command.specs.declared.command.Command.{Command}
use Rattle.raft_command.specs.declared.command.Command.TheVariants.{RebuildReplicationStreams}
use Rattle.raft_command.specs.Queue.{Queue, queued}
use Rattle.raft_steps.specs.Parts.{Led, under, then_command}
use Rattle.raft_steps.specs.Sending.{CanSend, MaySend}
use Rattle.raft_steps.specs.ReplicationHandler.{is_other, silenced_row, sent_row, sends_of, with_rows, rebuild_replication_streams, rebuild_progresses, initiate_replication}

each : {X Y : Type 0} (P : X → Type 0) (Q : Y → Type 0) (f : X → Y) → ((x : X) → P x → Q (f x)) → (xs : List X) → All P xs → All Q (map f xs)
each P Q f h [] a = All-nil Q
each P Q f h (x ∷ xs) a = All-cons Q (f x) (map f xs) (h x (All-head P x xs a)) (each P Q f h xs (All-tail P x xs a))

choose : {X : Type 0} (P : X → Type 0) (b : Bool) (x y : X) → P x → P y → P (if b then x else y)
choose P true x y p q = p
choose P false x y p q = q

module _ {NID : Type 0} (cmp : NID → NID → Ordering) (config : EngineConfig NID) where
  row_measure : NID × ProgressEntry NID → NID × Option (LogId NID)
  row_measure row = (row.0, row.1.matching)

  silenced_same : (row : NID × ProgressEntry NID) → row_measure (silenced_row cmp config row) ≡ row_measure row
  unfolding row_measure
  silenced_same row = choose (λ r. row_measure r ≡ row_measure row) (is_other cmp config row) (row.0, silenced row.1) row refl refl

  -- a row with nothing in flight keeps its id and its matching id
  pub silenced_measures : (rows : List (NID × ProgressEntry NID)) → measures (λ (e : ProgressEntry NID). e.matching) (map (silenced_row cmp config) rows) ≡ measures (λ e. e.matching) rows
  unfolding row_measure
  silenced_measures [] = refl
  silenced_measures (row ∷ rows) = λ i. silenced_same row i ∷ silenced_measures rows i

  sent_matching : (e : ProgressEntry NID) (r : Result (Inflight NID) (Inflight NID)) → (sent e r).matching ≡ e.matching
  sent_matching e (Ok f) = refl
  sent_matching e (Err f) = refl

  module _ {N : Type 0} (s : RaftState NID N) where
    sent_same : (row : NID × ProgressEntry NID) → row_measure (sent_row cmp config s row) ≡ row_measure row
    unfolding row_measure
    sent_same row = choose (λ r. row_measure r ≡ row_measure row) (is_other cmp config row) (row.0, sent row.1 (next_send s config.max_payload_entries row.1)) row
        (λ i. (row.0, sent_matching row.1 (next_send s config.max_payload_entries row.1) i)) refl

    -- and so does a row to which something was sent
    pub sent_measures : (rows : List (NID × ProgressEntry NID)) → measures (λ (e : ProgressEntry NID). e.matching) (map (sent_row cmp config s) rows) ≡ measures (λ e. e.matching) rows
    unfolding row_measure
    sent_measures [] = refl
    sent_measures (row ∷ rows) = λ i. sent_same row i ∷ sent_measures rows i

less : (a k : ℕ) → a + suc k < 2 ^ 64 → a + k < 2 ^ 64
less a k h = omega (arith, h)

one_more : (a k : ℕ) → a + suc k < 2 ^ 64 → (a + 1) + k < 2 ^ 64
one_more a k h = omega (arith, h)

module _ {NID : Type 0} (cmp : NID → NID → Ordering) (config : EngineConfig NID) where
  silenced_can : (k : ℕ) (row : NID × ProgressEntry NID) → CanSend k row → CanSend k (silenced_row cmp config row)
  silenced_can k row h = choose (CanSend k) (is_other cmp config row) (row.0, silenced row.1) row h h

  sent_can_of : (k : ℕ) (e : ProgressEntry NID) (id : NID) (r : Result (Inflight NID) (Inflight NID)) → CanSend (suc k) (id, e) → CanSend k (id, sent e r)
  sent_can_of k e id (Ok f) h = (one_more e.last_inflight_id k h.0, h.1)
  sent_can_of k e id (Err f) h = (less e.last_inflight_id k h.0, h.1)

  sent_can : {N : Type 0} (s : RaftState NID N) (k : ℕ) (row : NID × ProgressEntry NID) → CanSend (suc k) row → CanSend k (sent_row cmp config s row)
  sent_can s k row h =
      choose (CanSend k) (is_other cmp config row) (row.0, sent row.1 (next_send s config.max_payload_entries row.1)) row
      (sent_can_of k row.1 row.0 (next_send s config.max_payload_entries row.1) h) (less row.1.last_inflight_id k h.0, h.1)

from_none : (k : ℕ) → k < 2 ^ 64 → 0 + k < 2 ^ 64
from_none k h = omega (arith, h)

module _ {C NID N E D R S : Type 0} (cmp : NID → NID → Ordering) (config : EngineConfig NID) where
  -- what is left after streams began anew
  pub rebuilt_may : (k : ℕ) (l n : Led C NID N E D R S) → n ≡ rebuild_replication_streams cmp config l → MaySend k l → MaySend k n
  unfolding rebuild_replication_streams
  rebuilt_may k l n e h = rw e (record { rows = each (CanSend k) (CanSend k) (silenced_row cmp config) (silenced_can cmp config k) l.leader.progress.rows h.rows; log = h.log })

  -- and after each other node was sent something
  pub initiated_may : (force : Bool) (k : ℕ) (l n : Led C NID N E D R S) → n ≡ initiate_replication cmp config force l → MaySend (suc k) l → MaySend k n
  unfolding initiate_replication
  initiated_may force k l n e h = rw e (record { rows = each (CanSend (suc k)) (CanSend k) (sent_row cmp config l.core.state) (sent_can cmp config l.core.state k) l.leader.progress.rows h.rows; log = h.log })

module _ {NID : Type 0} (cmp : NID → NID → Ordering) where
  find_can : (k : ℕ) (p : NID × ProgressEntry NID → Bool) (rows : List (NID × ProgressEntry NID)) → All (CanSend k) rows → IfSome (find p rows) (CanSend k)
  find_can k p [] h = tt
  find_can k p (row ∷ rows) h =
      choose (λ o. IfSome o (CanSend k)) (p row) (Some row) (find p rows) (All-head (CanSend k) row rows h) (find_can k p rows (All-tail (CanSend k) row rows h))

  kept_can_of : (k : ℕ) (id : NID) (e : ProgressEntry NID) (o : Option (NID × ProgressEntry NID)) → IfSome o (CanSend k) → CanSend k (id, e) → CanSend k (id, unwrap_or (option_map (λ (row : NID × ProgressEntry NID). row.1) o) e)
  kept_can_of k id e None h j = j
  kept_can_of k id e (Some row) h j = h

  kept_can : (k : ℕ) (end : ℕ) (old : List (NID × ProgressEntry NID)) → k < 2 ^ 64 → All (CanSend k) old → (ids : List NID) → All (CanSend k) (map (kept_row cmp old) (rows_of (empty end) ids))
  kept_can k end old b h [] = All-nil (CanSend k)
  kept_can k end old b h (id ∷ ids) =
      All-cons (CanSend k) (kept_row cmp old (id, empty end)) (map (kept_row cmp old) (rows_of (empty end) ids))
      (kept_can_of k id (empty end) (find (is_row_of cmp id) old) (find_can k (is_row_of cmp id) old h) (from_none k b, lit< tt)) (kept_can k end old b h ids)

module _ {C NID N E D R S : Type 0} (cmp : NID → NID → Ordering) where
  -- and after the tables were made anew
  pub progresses_may : (k : ℕ) (l n : Led C NID N E D R S) → n ≡ rebuild_progresses cmp l → k < 2 ^ 64 → MaySend k l → MaySend k n
  unfolding rebuild_progresses
  progresses_may k l n e b h =
      let m = l.core.state.em.membership in
      rw e (record { rows = kept_can cmp k (next (last l.core.state.ids)) l.leader.progress.rows b h.rows (voter_ids cmp m ++ learner_ids cmp m); log = h.log })

-- and where neither the table nor the log has changed
pub same_may : {C NID N E D R S : Type 0} (k : ℕ) (l n : Led C NID N E D R S) → n.leader.progress.rows ≡ l.leader.progress.rows → n.core.state.ids ≡ l.core.state.ids → MaySend k l → MaySend k n
same_may k l n e f h = record { rows = rw e h.rows; log = rw f h.log }

module _ {C NID N E D R S : Type 0} (cmp : NID → NID → Ordering) (config : EngineConfig NID) where
  -- the streams begin anew, by the rows and the targets that were told
  pub rebuilt_is : (l n : Led C NID N E D R S) (rows targets : List (NID × ProgressEntry NID)) → rows ≡ map (silenced_row cmp config) l.leader.progress.rows → targets ≡ filter (is_other cmp config) rows
      → n ≡ under (λ c. then_command c (RebuildReplicationStreams targets)) (with_rows l rows) → n ≡ rebuild_replication_streams cmp config l
  unfolding rebuild_replication_streams
  rebuilt_is l n rows targets e f h =
      h ∙ ap (λ ts. under (λ c. then_command c (RebuildReplicationStreams ts)) (with_rows l rows)) f
      ∙ ap (λ rs. under (λ c. then_command c (RebuildReplicationStreams (filter (is_other cmp config) rs))) (with_rows l rs)) e

  -- each other node is sent something, by the rows and the queue
  pub initiated_is : (force : Bool) (l n : Led C NID N E D R S) (rows : List (NID × ProgressEntry NID)) (output : Queue (Command C NID N E D R S)) → rows ≡ map (sent_row cmp config l.core.state) l.leader.progress.rows
      → output ≡ queued l.core.output (flat_map (sends_of cmp config force l.core.state) l.leader.progress.rows)
      → n ≡ under (λ c. record c { output = output }) (with_rows l rows) → n ≡ initiate_replication cmp config force l
  unfolding initiate_replication
  initiated_is force l n rows output e f h =
      h ∙ ap (λ o. under (λ c. record c { output = o }) (with_rows l rows)) f
      ∙ ap (λ rs. under (λ c. record c { output = queued l.core.output (flat_map (sends_of cmp config force l.core.state) l.leader.progress.rows) }) (with_rows l rs)) e
