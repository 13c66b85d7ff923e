-- What a leader is after a vote of its own was adopted.
use Rattle.std.proofs.Common.{◌≡◌, sym, refl, subst, ℕ, ◌+◌, ◌^◌, ◌<◌, Bool, true, false, Option, None, Some}
use Rattle.std.specs.Prelude.{All, IfSome, if◌then◌else◌}
use Rattle.std.specs.Ordering.{is_eq, is_gt}
use Rattle.std.specs.declared.cmp.Ordering.{Ordering}
use Rattle.std.specs.declared.cmp.Ordering.TheVariants.{Equal}
use Rattle.raft_state.specs.declared.config.RaftEntry
use Rattle.raft_state.specs.declared.ids.Vote.{Vote}
use Rattle.raft_state.specs.Order.{leader_id_cmp, vote_cmp, next}
use Rattle.raft_state.specs.State.{is_leader, is_leading}
use Rattle.raft_state.specs.Log.{last}
use Rattle.raft_state.specs.declared.state.RaftState.{RaftState}
use Rattle.raft_command.specs.declared.command.Command.{Command}
use Rattle.raft_command.specs.Queue.{Queue}
use Rattle.raft_steps.specs.Sending.{CanSend, MaySend}
use Rattle.raft_command.specs.declared.config.EngineConfig.{EngineConfig}
use Rattle.raft_command.specs.declared.command.Command.TheVariants.{SaveVote}
use Rattle.raft_steps.specs.Parts.{Core, Machine, then_command, with_state, led_of}
use Rattle.raft_proposer.specs.Joint.{JointLeader}
use Rattle.raft_steps.specs.ServerStateHandler.{update_role}
use Rattle.raft_steps.specs.VoteHandler.{rejects_vote, become_following, lead_anew, become_leader, update_internal_server_state, update_vote}
use Rattle.raft_steps.proofs.Leads.{vote_is}

both : {X : Type 0} (P : X → Type 0) (b : Bool) (x y : X) → (b ≡ true → P x) → (b ≡ false → P y) → P (if b then x else y)
both P true x y p q = p refl
both P false x y p q = q refl

module _ {C NID N E D R S : Type 0} (cmp : NID → NID → Ordering) (same : (a b : NID) → cmp a b ≡ Equal → a ≡ b) (entry : RaftEntry.Ghosts E NID N) (config : EngineConfig NID) where
  -- the leader, where there still is one, has its table and last id, and the log is the same
  pub record KeepsLead (l : JointLeader C NID N E D R S) (m n : Machine C NID N E D R S) : Type 0 where
    pub leader : IfSome n.leader (λ k. (k.progress.rows ≡ l.progress.rows) × (k.last_log_id ≡ l.last_log_id))
    pub log : n.core.state.ids ≡ m.core.state.ids

  module _ (m : Machine C NID N E D R S) (l : JointLeader C NID N E D R S) (led : m.leader ≡ Some l) where
    leads_on : (o : Option (JointLeader C NID N E D R S)) → o ≡ Some l → (n : Machine C NID N E D R S) → n.core.state.ids ≡ m.core.state.ids
        → is_eq (leader_id_cmp cmp l.vote.leader_id n.core.state.vote.leader_id) ≡ true
        → KeepsLead l m (elim o [
          | None ↦ lead_anew cmp entry config n
          | Some k ↦
              (if is_eq (leader_id_cmp cmp k.vote.leader_id n.core.state.vote.leader_id)
              then record n { leader = Some (record k { vote = n.core.state.vote }); core = update_role cmp config n.core }
              else lead_anew cmp entry config n)
        ])
    unfolding update_role
    leads_on o e n i t = rw (e, t) (record { leader = (refl, refl); log = i })

    internal : (c : Core C NID N E D R S) → c.state.ids ≡ m.core.state.ids → is_eq (leader_id_cmp cmp l.vote.leader_id c.state.vote.leader_id) ≡ true
        → KeepsLead l m (update_internal_server_state cmp entry config (record m { core = c }))
    unfolding update_internal_server_state become_leader become_following update_role
    internal c i t =
        both (KeepsLead l m) (is_leader cmp c.state config.id) _ _
        (λ _. leads_on m.leader led (record m { core = c }) i t)
        (λ _. both (KeepsLead l m) (is_leading cmp c.state config.id) _ _
        (λ _. record { leader = subst (λ o. IfSome o (λ k. (k.progress.rows ≡ l.progress.rows) × (k.last_log_id ≡ l.last_log_id))) (sym led) (refl, refl); log = i })
        (λ _. record { leader = tt; log = i }))

    -- a vote of the leader's own leader id leaves its table, its last id and the log
    pub after_vote : (v : Vote NID) (now : ℕ) (n : Machine C NID N E D R S) → n ≡ update_vote cmp entry config v now m → is_eq (leader_id_cmp cmp l.vote.leader_id v.leader_id) ≡ true → KeepsLead l m n
    unfolding update_vote
    after_vote v now n e t =
        rw e (both (KeepsLead l m) (rejects_vote cmp m.core.state v) _ _
        (λ _. record { leader = subst (λ o. IfSome o (λ k. (k.progress.rows ≡ l.progress.rows) × (k.last_log_id ≡ l.last_log_id))) (sym led) (refl, refl); log = refl })
        (λ low. both (λ (c : Core C NID N E D R S). KeepsLead l m (update_internal_server_state cmp entry config (record m { core = c })))
        (is_gt (vote_cmp cmp v m.core.state.vote))
        (then_command (with_state m.core (record m.core.state { vote = v; time = Some now })) (SaveVote v))
        (with_state m.core (record m.core.state { time = Some now }))
        (λ _. internal _ refl t)
        (λ high. internal _ refl (subst (λ w. is_eq (leader_id_cmp cmp l.vote.leader_id w.leader_id) ≡ true) (sym (vote_is cmp same v m.core.state.vote low high)) t))))

module _ {C NID N E D R S : Type 0} (cmp : NID → NID → Ordering) (same : (a b : NID) → cmp a b ≡ Equal → a ≡ b) (entry : RaftEntry.Ghosts E NID N) (config : EngineConfig NID) where
  each_leader : (k : ℕ) (l : JointLeader C NID N E D R S) (o : Option (JointLeader C NID N E D R S)) (s : RaftState NID N) (q : Queue (Command C NID N E D R S))
      → IfSome o (λ j. (j.progress.rows ≡ l.progress.rows) × (j.last_log_id ≡ l.last_log_id)) → All (CanSend k) l.progress.rows → next (last s.ids) < 2 ^ 64 → next l.last_log_id + 1 < 2 ^ 64
      → IfSome o (λ j. MaySend k (led_of j s q) × (next j.last_log_id + 1 < 2 ^ 64))
  each_leader k l None s q h c e r = tt
  each_leader k l (Some j) s q h c e r = (record { rows = subst (All (CanSend k)) (sym h.0) c; log = e }, subst (λ d. next d + 1 < 2 ^ 64) (sym h.1) r)

  -- a leader made by votes may still propose its blank entry once its vote was taken
  pub may_propose : (k : ℕ) (l : JointLeader C NID N E D R S) (m n : Machine C NID N E D R S) (v : Vote NID) (now : ℕ) → m.leader ≡ Some l → n ≡ update_vote cmp entry config v now m
      → is_eq (leader_id_cmp cmp l.vote.leader_id v.leader_id) ≡ true → MaySend k (led_of l m.core.state m.core.output) → next l.last_log_id + 1 < 2 ^ 64
      → IfSome n.leader (λ j. MaySend k (led_of j n.core.state n.core.output) × (next j.last_log_id + 1 < 2 ^ 64))
  may_propose k l m n v now led e t h r =
      let kept = after_vote cmp same entry config m l led v now n e t in
      each_leader k l n.leader n.core.state n.core.output kept.leader h.rows (subst (λ ids. next (last ids) < 2 ^ 64) (sym kept.log) h.log) r
