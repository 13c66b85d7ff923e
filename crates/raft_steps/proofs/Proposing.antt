-- What a leader's numbers are after it has proposed.
use Rattle.std.proofs.Common.{◌≡◌, ◌∙◌, sym, refl, subst, ℕ, suc, ◌+◌, ◌^◌, ◌<◌, false, List, [], ◌∷◌, ◌++◌, map, length, Option, None, Some, arith}
use Rattle.std.specs.Prelude.{All}
use Rattle.std.specs.List.{last_or}
use Rattle.std.proofs.lemmas.List.Elements.{All-weaker}
use Rattle.raft_progress_entry.specs.declared.entry.ProgressEntry.{ProgressEntry}
use Rattle.std.specs.declared.cmp.Ordering.{Ordering}
use Rattle.raft_state.specs.declared.config.RaftEntry
use Rattle.raft_state.specs.declared.ids.LogId.{LogId}
use Rattle.raft_state.specs.declared.ids.LeaderId.{LeaderId}
use Rattle.raft_state.specs.declared.membership.StoredMembership.{StoredMembership}
use Rattle.raft_state.specs.State.{append_membership}
use Rattle.raft_state.specs.Order.{next}
use Rattle.raft_state.specs.Log.{last}
use Rattle.raft_state.proofs.LogLists.{last_is, last_append}
use Rattle.raft_command.specs.declared.config.EngineConfig.{EngineConfig}
use Rattle.raft_proposer.specs.Leader.{numbered, assigned}
use Rattle.raft_steps.specs.LeaderHandler.{proposed, joined}
use Rattle.raft_steps.specs.Parts.{Led, under, with_state}
use Rattle.raft_steps.specs.ReplicationHandler.{append_membership_led}
use Rattle.raft_steps.specs.Sending.{CanSend, MaySend}
use Rattle.raft_steps.proofs.Sending.{rebuilt_may, initiated_may, progresses_may, same_may}

fewer : (a k : ℕ) → a + suc k < 2 ^ 64 → a + 1 < 2 ^ 64
fewer a k h = omega (arith, h)

moved : (a k : ℕ) → a + suc k < 2 ^ 64 → (a + 1) + k < 2 ^ 64
moved a k h = omega (arith, h)

none_left : (a : ℕ) → a + 0 < 2 ^ 64 → a < 2 ^ 64
none_left a h = omega (arith, h)

module _ {NID N E : Type 0} (entry : RaftEntry.Ghosts E NID N) (named : (e : E) (id : LogId NID) → entry.id_of (entry.with_id e id) ≡ id) (leader : LeaderId NID) where
  -- the index after the last of numbered entries
  numbered_end : (d : Option (LogId NID)) (n : ℕ) (es : List E) → next d < 2 ^ 64 → n + length es < 2 ^ 64 → next (last_or d (map entry.id_of (numbered entry leader n es))) < 2 ^ 64
  numbered_end d n [] h b = h
  numbered_end d n (e ∷ es) h b =
      let id : LogId NID = record { leader_id = leader; index = n } in
      numbered_end (Some (entry.id_of (entry.with_id e id))) (n + 1) es (rw (named e id) (fewer n (length es) b)) (moved n (length es) b)

module _ {C NID N E D R S : Type 0} (entry : RaftEntry.Ghosts E NID N) (named : (e : E) (id : LogId NID) → entry.id_of (entry.with_id e id) ≡ id) where
  -- a leader that has proposed may send as often as before
  pub proposed_may : (k : ℕ) (es : List E) (l n : Led C NID N E D R S) → n ≡ proposed entry es l → next l.leader.last_log_id + length es < 2 ^ 64 → MaySend k l → MaySend k n
  unfolding proposed
  proposed_may k es l n e b h =
      let ids = l.core.state.ids in
      let new = map entry.id_of (assigned entry l.leader es) in
      let ends : last (ids ++ new) ≡ last_or (last_or None ids) new = last_is (ids ++ new) ∙ last_append None ids new in
      let before : next (last_or None ids) < 2 ^ 64 = subst (λ d. next d < 2 ^ 64) (last_is ids) h.log in
      rw e (record {
        rows = h.rows;
        log = subst (λ d. next d < 2 ^ 64) (sym ends) (numbered_end entry named l.leader.vote.leader_id (last_or None ids) (next l.leader.last_log_id) es before b);
      })

spared : (a k : ℕ) → a + suc k < 2 ^ 64 → a + k < 2 ^ 64
spared a k h = omega (arith, h)

spare : {NID : Type 0} (k : ℕ) (rows : List (NID × ProgressEntry NID)) → All (CanSend (suc k)) rows → All (CanSend k) rows
spare k rows h = All-weaker (CanSend (suc k)) (CanSend k) (λ row c. (spared row.1.last_inflight_id k c.0, c.1)) rows h

module _ {C NID N E D R S : Type 0} (cmp : NID → NID → Ordering) (config : EngineConfig NID) where
  joined_one : (k : ℕ) (m : StoredMembership NID N) (l : Led C NID N E D R S) → suc k < 2 ^ 64 → MaySend (suc k) l → MaySend k (append_membership_led cmp config m l)
  unfolding append_membership_led
  joined_one k m l b h =
      initiated_may cmp config false k _ _ refl
      (rebuilt_may cmp config (suc k) _ _ refl
      (progresses_may cmp (suc k) _ _ refl b
      (same_may (suc k) l (under (λ c. with_state c (append_membership c.state m)) l) refl refl h)))

  -- after a membership took effect, where there is one, it may send once less
  pub joined_may : (k : ℕ) (m : Option (StoredMembership NID N)) (l n : Led C NID N E D R S) → n ≡ joined cmp config m l → suc k < 2 ^ 64 → MaySend (suc k) l → MaySend k n
  joined_may k None l n e b h = rw e (record { rows = spare k l.leader.progress.rows h.rows; log = h.log })
  joined_may k (Some m) l n e b h = rw e (joined_one k m l b h)

-- the same numbers, where less is asked
pub fewer_may : {C NID N E D R S : Type 0} (k : ℕ) (l : Led C NID N E D R S) → MaySend (suc k) l → MaySend k l
fewer_may k l h = record { rows = spare k l.leader.progress.rows h.rows; log = h.log }

-- the index after the first entry's
pub first_end : {NID N E : Type 0} (entry : RaftEntry.Ghosts E NID N) (named : (e : E) (id : LogId NID) → entry.id_of (entry.with_id e id) ≡ id) (ids old : List (LogId NID)) (e : E) (id : LogId NID)
    → ids ≡ old ++ map entry.id_of (entry.with_id e id ∷ []) → old ≡ [] → id.index + 1 < 2 ^ 64 → next (last ids) < 2 ^ 64
first_end entry named ids old e id h none b = rw (h, none, named e id) b
