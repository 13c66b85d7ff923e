-- What a leader knows of one target's log, and what is in flight to it: openraft's `ProgressEntry` and `Inflight` (Raft
-- paper, section 5.3: what matches is `matchIndex`, and the search goes on between it and `nextIndex`).
use Rattle.std.specs.Prelude.{ℕ, ◌+◌, ◌-◌, ◌*◌, ◌/◌, ◌==◌, nat_lt, min, max, not, Bool, false, ◌&&◌, [], ◌∷◌, Option, None, Some, Result, Ok, Err, List, is_none, if◌then◌else◌}
use Rattle.std.specs.declared.cmp.Ordering.{Ordering}
use Rattle.std.specs.Ordering.{is_eq, is_lt, is_le, nat_cmp}
use Rattle.std.specs.Option.{option_cmp}
use Rattle.raft_error.specs.raft_state.declared.ids.LogId.{LogId}
use Rattle.raft_error.specs.raft_state.declared.state.RaftState.{RaftState}
use Rattle.raft_error.specs.raft_state.Order.{last_id_cmp, next}
use Rattle.raft_error.specs.raft_state.Policy.{saturating_add}
use Rattle.raft_error.specs.raft_state.Log.{last, at}
use Rattle.raft_error.specs.raft_state.Fits.{is_within}
use Rattle.raft_progress_entry.specs.declared.entry.ProgressEntry.{ProgressEntry}
use Rattle.raft_progress_entry.specs.declared.entry.Inflight.{Inflight}
use Rattle.raft_progress_entry.specs.declared.entry.Inflight.TheVariants as inflight
use Rattle.raft_error.specs.declared.error.EngineError.{EngineError}
use Rattle.raft_error.specs.declared.error.EngineError.TheVariants.{ForeignInflight, OutsideInflight, LogReverted}
use Rattle.raft_error.specs.Number.{first_refusal}

module _ {NID : Type 0} where
  -- the entry of a target of which nothing is known, to be searched below an index (`ProgressEntry::empty`)
  abbrev pub empty : ℕ → ProgressEntry NID
  empty end = record { matching = None; searching_end = end; inflight = inflight.None; last_inflight_id = 0 }

  -- the number of what is in flight (`Inflight::get_id`)
  abbrev pub inflight_id : Inflight NID → Option ℕ
  inflight_id inflight.None = None
  inflight_id (inflight.Logs id _) = Some id
  inflight_id (inflight.Snapshot id _) = Some id

  -- the same with another number (`Inflight::with_id`)
  abbrev pub with_id : Inflight NID → ℕ → Inflight NID
  with_id inflight.None id = inflight.None
  with_id (inflight.Logs _ range) id = inflight.Logs id range
  with_id (inflight.Snapshot _ last) id = inflight.Snapshot id last

  -- something is in flight under this number (`Inflight::is_my_id`)
  abbrev pub is_my_id : Inflight NID → ℕ → Bool
  is_my_id f id = is_eq (option_cmp nat_cmp (inflight_id f) (Some id))

  -- the number is that of what is in flight to the target
  abbrev pub carries : ProgressEntry NID → ℕ → Bool
  carries e id = is_my_id e.inflight id

  -- index c is that of the id before the range in flight
  abbrev pub begins_at : Inflight NID → ℕ → Bool
  begins_at (inflight.Logs _ range) c = next range.prev == c + 1
  begins_at inflight.None c = false
  begins_at (inflight.Snapshot _ _) c = false

  -- a conflict at c ends the search there; with a number also what is in flight (`ProgressEntry::update_conflicting`)
  abbrev pub conflicted : ProgressEntry NID → Option ℕ → ℕ → ProgressEntry NID
  conflicted e None c = record e { searching_end = min e.searching_end c }
  conflicted e (Some id) c = record e { inflight = inflight.None; searching_end = min e.searching_end c }

  -- nothing is in flight
  abbrev pub is_idle : ProgressEntry NID → Bool
  is_idle e = is_none (inflight_id e.inflight)

  -- what was in flight has failed
  abbrev pub silenced : ProgressEntry NID → ProgressEntry NID
  silenced e = record e { inflight = inflight.None }

  -- the entry after this was sent under the next number, or after nothing was
  abbrev pub sent : ProgressEntry NID → Result (Inflight NID) (Inflight NID) → ProgressEntry NID
  sent e (Ok f) = record e { inflight = f; last_inflight_id = e.last_inflight_id + 1 }
  sent e (Err _) = e

  -- the index where the search goes on: halfway between what matches and its end, in steps of eight
  abbrev pub search_start : ProgressEntry NID → ℕ
  search_start e = next e.matching + (e.searching_end - next e.matching) / 16 * 8

  -- the id before an index
  abbrev pub before : List (LogId NID) → ℕ → Option (LogId NID)
  before ids i = if i == 0 then None else at ids (i - 1)

module _ {NID N : Type 0} where
  -- the index where the next range begins: not below one that is to be purged
  abbrev pub send_start : RaftState NID N → ProgressEntry NID → ℕ
  send_start s e = max (search_start e) (next s.purge_to)

  -- the index before which it ends: after so many entries, or with the log
  abbrev pub send_end : RaftState NID N → ℕ → ℕ → ℕ
  send_end s payload start = min (saturating_add start payload) (next (last s.ids))

  -- what a target is sent next: the snapshot if the search ends below the purge target, else a range of entries;
  -- nothing while something is in flight or if the log has no more (`ProgressEntry::next_send`; Raft paper, sections
  -- 5.3 and 7)
  abbrev pub next_send : RaftState NID N → ℕ → ProgressEntry NID → Result (Inflight NID) (Inflight NID)
  next_send s payload e =
      let start = send_start s e in
      let end = send_end s payload start in
      let id = e.last_inflight_id + 1 in
      if not (is_idle e) then Err e.inflight
      else if nat_lt e.searching_end (next s.purge_to) then Ok (inflight.Snapshot id s.snap.last_log_id)
      else if start == end then Err inflight.None
      else Ok (inflight.Logs id (record { prev = before s.ids start; last = before s.ids end }))

module _ {NID : Type 0} (cmp : NID → NID → Ordering) where
  -- the entries of a range under the number 0, if there are any (`Inflight::logs`)
  abbrev pub logs : Option (LogId NID) → Option (LogId NID) → Inflight NID
  logs prev last = if is_lt (last_id_cmp cmp prev last) then inflight.Logs 0 (record { prev = prev; last = last }) else inflight.None

  -- an id that may be acknowledged: in the range in flight, the id before it included, or the snapshot's last
  abbrev pub acknowledges : Inflight NID → Option (LogId NID) → Bool
  acknowledges inflight.None x = false
  acknowledges (inflight.Logs _ range) None = false
  acknowledges (inflight.Logs _ range) (Some x) = is_within cmp range.prev (Some x) && is_within cmp (Some x) range.last
  acknowledges (inflight.Snapshot _ last) x = is_eq (last_id_cmp cmp x last)

  -- what is still in flight after x is acknowledged
  abbrev pub remaining : Inflight NID → Option (LogId NID) → Inflight NID
  remaining inflight.None x = inflight.None
  remaining (inflight.Logs id range) x = if is_eq (last_id_cmp cmp x range.last) then inflight.None else inflight.Logs id (record range { prev = x })
  remaining (inflight.Snapshot _ _) x = inflight.None

  -- the target's log matches up to x (`ProgressEntry::update_matching`)
  abbrev pub matched : ProgressEntry NID → Option (LogId NID) → ProgressEntry NID
  matched e x = record e { matching = x; searching_end = max e.searching_end (next x); inflight = remaining e.inflight x }

  -- x is in the range in flight (`ProgressEntry::is_log_range_inflight`)
  abbrev pub is_log_range_inflight : ProgressEntry NID → Option (LogId NID) → Bool
  is_log_range_inflight e x = holds e.inflight where
    holds : Inflight NID → Bool
    holds inflight.None = false
    holds (inflight.Logs _ range) = is_lt (last_id_cmp cmp range.prev x) && is_le (last_id_cmp cmp x range.last)
    holds (inflight.Snapshot _ _) = false

module _ {NID N : Type 0} where
  -- the refusals of an acknowledgement, in their order
  abbrev pub refusals_of_matched : (NID → NID → Ordering) → ProgressEntry NID → ℕ → Option (LogId NID) → Option (EngineError NID N)
  refusals_of_matched cmp e id x = first_refusal ((not (carries e id), ForeignInflight) ∷ (not (acknowledges cmp e.inflight x), OutsideInflight) ∷ [])

  -- the refusals of a conflict, in their order
  abbrev pub refusals_of_conflicted : ProgressEntry NID → Option ℕ → ℕ → Option (EngineError NID N)
  refusals_of_conflicted e None c = first_refusal ((not (nat_lt c e.searching_end), OutsideInflight) ∷ (nat_lt c (next e.matching), LogReverted) ∷ [])
  refusals_of_conflicted e (Some id) c =
      first_refusal ((not (carries e id), ForeignInflight) ∷ (not (begins_at e.inflight c), OutsideInflight) ∷ (nat_lt c (next e.matching), LogReverted) ∷ [])
