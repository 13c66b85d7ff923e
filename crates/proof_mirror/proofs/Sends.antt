-- What a leader sends is there.
use Rattle.std.proofs.Common.{ℕ, zero, suc, ◌+◌, ◌-◌, ◌*◌, ◌/◌, ◌≤◌, ◌≡◌, Bool, true, false, not, List, [], ◌∷◌, max, arith, refl, sym, ap, ◌∙◌, subst, Option, Some, None, Result, Ok, Err}
use Rattle.std.specs.Prelude.{nat_lt, ◌==◌, map, if◌then◌else◌, IfSome, flat_map}
use Rattle.std.specs.List.{AllByRecursion}
use Rattle.std.specs.declared.cmp.Ordering.{Ordering}
use Rattle.std.proofs.lemmas.Bool.{cond_both}
use Rattle.std.proofs.lemmas.Bool.Decides.{nat_tests}
use Rattle.raft_state.specs.declared.config.RaftEntry
use Rattle.raft_state.specs.declared.ids.LogId.{LogId}
use Rattle.raft_state.specs.declared.state.RaftState.{RaftState}
use Rattle.raft_state.specs.Invariants.{first_index}
use Rattle.raft_state.specs.Log.{last, at}
use Rattle.raft_state.specs.Order.{next}
use Rattle.raft_progress_entry.specs.Entry.{next_send, send_start, send_end, before, is_idle, sent}
use Rattle.raft_progress_entry.specs.declared.entry.Inflight.{Inflight}
use Rattle.raft_progress_entry.specs.declared.entry.Inflight.TheVariants as inflight
use Rattle.raft_progress_entry.specs.declared.entry.ProgressEntry.{ProgressEntry}
use Rattle.raft_command.specs.declared.command.Command.TheVariants as command
use Rattle.raft_command.specs.declared.config.EngineConfig.{EngineConfig}
use Rattle.raft_steps.specs.Parts.{Led}
use Rattle.raft_steps.specs.ReplicationHandler.{is_other, silenced_row, sent_row, send_commands, sends_of, rebuild_replication_streams, initiate_replication}
use Rattle.raft_steps.proofs.KeptLead.{each_image}
use Rattle.raft_store.specs.Store.{Store}
use Rattle.raft_store.specs.Mirror.{Mirrors}
use Rattle.proof_mirror.specs.Ready.{IsStored, HasWhatIsSent, Marks, InStep, SearchFits, PendingLed}
use Rattle.proof_mirror.proofs.Places.{at_index, found_below}
use Rattle.proof_mirror.proofs.Queued.{Idle, idle_append, awaits_idle, after}

max_left : (m d p : ℕ) → p ≤ max (m + d / 16 * 8) p
max_left m d p = omega arith

max_bound : (m e p n : ℕ) → m ≤ e → e ≤ n → p ≤ n → max (m + (e - m) / 16 * 8) p ≤ n
max_bound m e p n a b c = omega (arith, a, b, c)

before_is : {NID : Type 0} (ids : List (LogId NID)) (k : ℕ) → before ids (suc k) ≡ at ids k
before_is ids k = let q : (suc k == 0) ≡ false = grind (arith, nat_tests) in let r : suc k - 1 ≡ k = omega arith in rw (q, r) refl

module _ {NID N E : Type 0} (entry : RaftEntry.Ghosts E NID N) where
  -- the id before an index is stored, where there is one
  before_stored : (t : Store NID N E) (s : RaftState NID N) (i : ℕ) → Mirrors entry t s → IfSome (before s.ids i) (IsStored entry t)
  before_stored t s i m =
      cond_both (i == 0) None (at s.ids (i - 1)) (λ (o : Option (LogId NID)). IfSome o (IsStored entry t)) (λ _. tt) (λ _. go (at s.ids (i - 1)) refl) where
        go : (o : Option (LogId NID)) → at s.ids (i - 1) ≡ o → IfSome o (IsStored entry t)
        go None e = tt
        go (Some x) e = let q : x.index ≡ i - 1 = at_index (i - 1) s.ids x e in ap (λ ids. at ids x.index) (sym m.log.ids_are) ∙ (ap (at s.ids) q ∙ e)

  -- and there is one, at or past what is purged
  before_past : (s : RaftState NID N) (i : ℕ) → Marks s → next s.purged ≤ i → i ≤ next (last s.ids) → next s.purged ≤ next (before s.ids i)
  before_past s zero k l u = omega (arith, l)
  before_past s (suc j) k l u =
      subst (λ o. next s.purged ≤ next o) (sym (before_is s.ids j))
      (found_below (λ o. next s.purged ≤ next o) (first_index s.purged) j s.ids k.run (first_low s.purged l) (omega (arith, u))
      (λ y e. let q : y.index ≡ j = at_index j s.ids y e in omega (arith, q, l)))
    where
      first_low : (p : Option (LogId NID)) → next p ≤ suc j → first_index p ≤ j
      first_low None l = omega arith
      first_low (Some y) l = omega (arith, l)

  -- what is sent next is there
  abbrev pub IsThere : Store NID N E → Result (Inflight NID) (Inflight NID) → Type 0
  IsThere t (Ok f) = HasWhatIsSent entry t f
  IsThere t (Err f) = Unit {0}

  pub next_there : (t : Store NID N E) (s : RaftState NID N) (payload : ℕ) (e : ProgressEntry NID) → InStep entry t s → SearchFits s.ids e → IsThere t (next_send s payload e)
  next_there t s payload e j f =
      let k : Marks s = j.marks in
      let m : Mirrors entry t s = j.mirrors in
      let start : ℕ = send_start s e in
      let end : ℕ = send_end s payload start in
      let id : ℕ = e.last_inflight_id + 1 in
      let low : next s.purge_to ≤ start = max_left (next e.matching) (e.searching_end - next e.matching) (next s.purge_to) in
      let high : start ≤ next (last s.ids) = max_bound (next e.matching) e.searching_end (next s.purge_to) (next (last s.ids)) f.above f.below (omega (arith, k.target, k.snapshot, k.committed)) in
      let n : next s.purged ≡ next t.front = ap next m.log.purged_is in
      let p : next s.purged ≤ next (before s.ids start) = before_past s start k (omega (arith, low, k.purged)) high in
      cond_both (not (is_idle e)) (Err e.inflight)
      (if nat_lt e.searching_end (next s.purge_to) then Ok (inflight.Snapshot id s.snap.last_log_id)
      else if start == end then Err inflight.None
      else Ok (inflight.Logs id (record { prev = before s.ids start; last = before s.ids end })))
      (IsThere t) (λ _. tt)
      (λ _. cond_both (nat_lt e.searching_end (next s.purge_to)) (Ok (inflight.Snapshot id s.snap.last_log_id))
      (if start == end then Err inflight.None else Ok (inflight.Logs id (record { prev = before s.ids start; last = before s.ids end })))
      (IsThere t) (λ _. ap (λ w. w.last_log_id) m.meta)
      (λ _. cond_both (start == end) (Err inflight.None) (Ok (inflight.Logs id (record { prev = before s.ids start; last = before s.ids end })))
      (IsThere t) (λ _. tt)
      (λ _. (before_stored t s start m, before_stored t s end m, omega (arith, n, p)))))

module _ (C D R : Type 0) {NID N E S : Type 0} (cmp : NID → NID → Ordering) (entry : RaftEntry.Ghosts E NID N) (entries_in : S → List E) (config : EngineConfig NID) where
  pub sends_idle : (t : Store NID N E) (force : Bool) (target : NID) (r : Result (Inflight NID) (Inflight NID)) → IsThere entry t r → Idle {C = C} {D = D} {R = R} cmp entry entries_in t (send_commands force target r)
  sends_idle t force target (Ok f) h = (refl, h, tt)
  sends_idle t true target (Err inflight.None) h = (refl, tt, tt)
  sends_idle t false target (Err inflight.None) h = tt
  sends_idle t force target (Err (inflight.Logs _ _)) h = tt
  sends_idle t force target (Err (inflight.Snapshot _ _)) h = tt

  row_idle : (t : Store NID N E) (force : Bool) (s : RaftState NID N) (row : NID × ProgressEntry NID) → InStep entry t s → SearchFits s.ids row.1 → Idle {C = C} {D = D} {R = R} cmp entry entries_in t (sends_of cmp config force s row)
  row_idle t force s row j f =
      cond_both (is_other cmp config row) (send_commands force row.0 (next_send s config.max_payload_entries row.1)) [] (Idle {C = C} {D = D} {R = R} cmp entry entries_in t)
      (λ _. sends_idle t force row.0 (next_send s config.max_payload_entries row.1) (next_there entry t s config.max_payload_entries row.1 j f)) (λ _. tt)

  rows_idle : (t : Store NID N E) (force : Bool) (s : RaftState NID N) (rows : List (NID × ProgressEntry NID)) → InStep entry t s → AllByRecursion (λ row. SearchFits s.ids row.1) rows → Idle {C = C} {D = D} {R = R} cmp entry entries_in t (flat_map (sends_of cmp config force s) rows)
  rows_idle t force s [] j f = tt
  rows_idle t force s (row ∷ rows) j f = idle_append cmp entry entries_in t (sends_of cmp config force s row) (flat_map (sends_of cmp config force s) rows) (row_idle t force s row j f.0) (rows_idle t force s rows j f.1)

module _ {NID : Type 0} where
  sent_search : (ids : List (LogId NID)) (e : ProgressEntry NID) (r : Result (Inflight NID) (Inflight NID)) → SearchFits ids e → SearchFits ids (sent e r)
  sent_search ids e (Ok f) h = record { above = h.above; below = h.below }
  sent_search ids e (Err f) h = h

module _ {NID : Type 0} (cmp : NID → NID → Ordering) (config : EngineConfig NID) where
  pub silenced_rows : (ids : List (LogId NID)) (rows : List (NID × ProgressEntry NID)) → AllByRecursion (λ row. SearchFits ids row.1) rows → AllByRecursion (λ row. SearchFits ids row.1) (map (silenced_row cmp config) rows)
  silenced_rows ids rows h =
      each_image (λ row. SearchFits ids row.1) (λ row. SearchFits ids row.1) (silenced_row cmp config)
      (λ row f. cond_both (is_other cmp config row) (row.0, record row.1 { inflight = inflight.None }) row (λ r. SearchFits ids r.1) (λ _. record { above = f.above; below = f.below }) (λ _. f))
      rows h

module _ {NID N : Type 0} (cmp : NID → NID → Ordering) (config : EngineConfig NID) where
  -- rows to which something was sent, or to which nothing is in flight
  pub sent_rows : (s : RaftState NID N) (ids : List (LogId NID)) (rows : List (NID × ProgressEntry NID)) → AllByRecursion (λ row. SearchFits ids row.1) rows → AllByRecursion (λ row. SearchFits ids row.1) (map (sent_row cmp config s) rows)
  sent_rows s ids rows h =
      each_image (λ row. SearchFits ids row.1) (λ row. SearchFits ids row.1) (sent_row cmp config s)
      (λ row f. cond_both (is_other cmp config row) (row.0, sent row.1 (next_send s config.max_payload_entries row.1)) row (λ r. SearchFits ids r.1) (λ _. sent_search ids row.1 (next_send s config.max_payload_entries row.1) f) (λ _. f))
      rows h

module _ {C NID N E D R S : Type 0} (cmp : NID → NID → Ordering) (entry : RaftEntry.Ghosts E NID N) (entries_in : S → List E) (config : EngineConfig NID) where
  pub pending_rebuild : (t : Store NID N E) (l : Led C NID N E D R S) → PendingLed cmp entry entries_in t l → PendingLed cmp entry entries_in t (rebuild_replication_streams cmp config l)
  unfolding rebuild_replication_streams
  pending_rebuild t l p = record {
    core = awaits_idle cmp entry entries_in t l.core.output.items (command.RebuildReplicationStreams _ ∷ []) l.core.state l.core.state p.core (refl, tt, tt) p.core.in_step;
    knows = record { end = p.knows.end; rows = silenced_rows cmp config l.core.state.ids l.leader.progress.rows p.knows.rows };
  }

  pub pending_initiate : (t : Store NID N E) (force : Bool) (l : Led C NID N E D R S) → PendingLed cmp entry entries_in t l → PendingLed cmp entry entries_in t (initiate_replication cmp config force l)
  unfolding initiate_replication
  pending_initiate t force l p = record {
    core = awaits_idle cmp entry entries_in t l.core.output.items (flat_map (sends_of cmp config force l.core.state) l.leader.progress.rows) l.core.state l.core.state p.core
        (rows_idle C D R cmp entry entries_in config (after cmp entry entries_in t l.core) force l.core.state l.leader.progress.rows p.core.in_step p.knows.rows) p.core.in_step;
    knows = record { end = p.knows.end; rows = sent_rows cmp config l.core.state l.core.state.ids l.leader.progress.rows p.knows.rows };
  }
