-- The values of numbers that aren't near their end.
use Rattle.std.proofs.Common.{◌≡◌, refl, ℕ, ◌+◌, ◌^◌, ◌<◌, ◌≤◌, Bool, true, false, List, [], ◌∷◌, Option, lit≤, arith}
use Rattle.std.specs.Prelude.{All, ◌||◌, nat_lt}
use Rattle.std.specs.List.{AllByRecursion, list_any}
use Rattle.std.proofs.lemmas.Bool.Decides.{nat_tests}
use Rattle.std.proofs.lemmas.List.Elements.{All-nil, All-cons}
use Rattle.std.specs.declared.cmp.Ordering.{Ordering}
use Rattle.raft_state.specs.declared.ids.LogId.{LogId}
use Rattle.raft_state.specs.Order.{next}
use Rattle.raft_state.specs.Log.{last}
use Rattle.raft_progress_entry.specs.declared.entry.ProgressEntry.{ProgressEntry}
use Rattle.raft_command.specs.declared.config.EngineConfig.{EngineConfig}
use Rattle.raft_steps.specs.Refusals.{is_near_end, is_counter_end_among}
use Rattle.raft_proposer.specs.Joint.{u64_max}
use Rattle.raft_steps.specs.Invariants.{EntryFits, IsSoundLed}
use Rattle.raft_steps.specs.Parts.{Core, Led}
use Rattle.raft_steps.specs.Sending.{CanSend, MaySend}
use Rattle.raft_steps.proofs.Room.{log_end}

neither : (a b : Bool) → (a || b) ≡ false → (a ≡ false) × (b ≡ false)
neither true b e = cc
neither false b e = (refl, e)

pub far : (n : ℕ) → is_near_end n ≡ false → n + 8 < 2 ^ 64
far n e = grind (arith, nat_tests, e)

pub nearer : (n k : ℕ) → k ≤ 8 → n + 8 < 2 ^ 64 → n + k < 2 ^ 64
nearer n k b h = omega (arith, b, h)

pub low : (a b c : ℕ) → a ≤ b → b ≤ c → c < 2 ^ 64 → a < 2 ^ 64
low a b c h k l = omega (arith, h, k, l)

module _ {NID : Type 0} (cmp : NID → NID → Ordering) (ids : List (LogId NID)) (purged : Option (LogId NID)) where
  counted_rows : (k : ℕ) → k ≤ 8 → (rows : List (NID × ProgressEntry NID)) → next (last ids) < 2 ^ 64 → list_any (λ row. is_near_end row.1.last_inflight_id) rows ≡ false
      → AllByRecursion (λ (row : NID × ProgressEntry NID). EntryFits cmp ids purged row.1) rows → All (CanSend k) rows
  counted_rows k b [] h e f = All-nil (CanSend k)
  counted_rows k b (row ∷ rows) h e f =
      let n = neither (is_near_end row.1.last_inflight_id) (list_any (λ row. is_near_end row.1.last_inflight_id) rows) e in
      All-cons (CanSend k) row rows (nearer row.1.last_inflight_id k b (far row.1.last_inflight_id n.0), low (next row.1.matching) row.1.searching_end (next (last ids)) f.0.above f.0.below h) (counted_rows k b rows h n.1 f.1)

module _ {C NID N E D R S : Type 0} (cmp : NID → NID → Ordering) (config : EngineConfig NID) where
  -- a leader whose counters are far from their end may send
  counted_may : (k : ℕ) → k ≤ 8 → (l : Led C NID N E D R S) → IsSoundLed cmp config l → is_counter_end_among l.core l.leader.progress.rows ≡ false → MaySend k l
  counted_may k b l h e =
      let n = neither (is_near_end l.core.output.seq) (list_any (λ row. is_near_end row.1.last_inflight_id) l.leader.progress.rows) e in
      let end : next (last l.core.state.ids) < 2 ^ 64 = log_end cmp l.core.state h.sound in
      record { rows = counted_rows cmp l.core.state.ids l.core.state.purged k b l.leader.progress.rows end n.1 h.leader_fits.entries; log = end }

  pub counted_once : (l : Led C NID N E D R S) → IsSoundLed cmp config l → is_counter_end_among l.core l.leader.progress.rows ≡ false → MaySend 1 l
  counted_once l h e = counted_may 1 (lit≤ tt) l h e

  pub counted_twice : (l : Led C NID N E D R S) → IsSoundLed cmp config l → is_counter_end_among l.core l.leader.progress.rows ≡ false → MaySend 2 l
  counted_twice l h e = counted_may 2 (lit≤ tt) l h e

-- and there are numbers left
pub counted_seq : {C NID N E D R S : Type 0} (c : Core C NID N E D R S) (rows : List (NID × ProgressEntry NID)) → is_counter_end_among c rows ≡ false → c.output.seq + 8 < 2 ^ 64
counted_seq c rows e = far c.output.seq (neither (is_near_end c.output.seq) (list_any (λ row. is_near_end row.1.last_inflight_id) rows) e).0

-- indexes for entries that are not refused
pub counted_room : (n : ℕ) → nat_lt u64_max n ≡ false → n < 2 ^ 64
counted_room n e = grind (arith, nat_tests, e)
