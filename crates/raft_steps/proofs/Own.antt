-- This node's own acknowledgement.
use Rattle.std.proofs.Common.{◌≡◌, ◌∙◌, sym, refl, ap, subst, ◌+◌, Bool, true, false, Option, None, Some}
use Rattle.std.specs.Prelude.{IfSome, max, if◌then◌else◌}
use Rattle.std.specs.Ordering.{is_eq, is_ge, ordering_reverse}
use Rattle.std.specs.Cmp.{IsTotalOrder, tied_itself}
use Rattle.std.specs.declared.cmp.Ordering.{Ordering}
use Rattle.std.specs.declared.cmp.Ordering.TheVariants.{Less, Equal, Greater}
use Rattle.raft_state.specs.declared.ids.LogId.{LogId}
use Rattle.raft_state.specs.Order.{last_id_cmp}
use Rattle.raft_state.proofs.Orders.{last_total}
use Rattle.raft_progress_entry.specs.declared.entry.ProgressEntry.{ProgressEntry}
use Rattle.raft_progress_entry.specs.declared.entry.Inflight.TheVariants as inflight
use Rattle.raft_proposer.specs.raft_progress.Table.{Table, get, updated}
use Rattle.raft_proposer.specs.raft_progress.Updates.{Rises}
use Rattle.raft_proposer.specs.raft_progress.Quorum.{is_quorum}
use Rattle.raft_command.specs.declared.config.EngineConfig.{EngineConfig}
use Rattle.raft_proposer.specs.Leader.{granted_id}
use Rattle.raft_steps.specs.Parts.{Core, Led}
use Rattle.raft_proposer.specs.Joint.{JointLeader}
use Rattle.raft_steps.specs.ReplicationHandler.{commit_granted, with_entry, own_matched, try_commit_quorum_accepted, update_local_progress}

above : (r : Ordering) → is_ge r ≡ false → is_ge (ordering_reverse r) ≡ true
above Less e = refl
above Equal e = cc
above Greater e = cc

module _ {NID : Type 0} (cmp : NID → NID → Ordering) (total : IsTotalOrder cmp) where
  -- once all of the range is acknowledged, nothing is in flight
  pub own_remaining : (x : LogId NID) (e : ProgressEntry NID)
      → own_matched cmp (Some x) e ≡ record e { matching = Some x; searching_end = max e.searching_end (x.index + 1); inflight = inflight.None }
  own_remaining x e = rw (ap is_eq (tied_itself (last_total cmp total) (Some x))) refl

  -- an acknowledgement above the matching id raises it
  pub own_rises : {Q : Type 0} (t : Table NID (ProgressEntry NID) (Option (LogId NID)) Q) (id : NID) (e : ProgressEntry NID) (x : LogId NID)
      → get cmp t id ≡ Some e → is_ge (last_id_cmp cmp e.matching (Some x)) ≡ false
      → Rises cmp (last_id_cmp cmp) (λ (e : ProgressEntry NID). e.matching) t id (own_matched cmp (Some x) e)
  own_rises t id e x g h = λ was f.
      let up : is_ge (last_id_cmp cmp (Some x) e.matching) ≡ true =
      ap is_ge ((last_total cmp total).antisymm (Some x) e.matching) ∙ above (last_id_cmp cmp e.matching (Some x)) h in
      subst (λ o. IfSome o (λ w. is_ge (last_id_cmp cmp (Some x) w.matching) ≡ true)) (sym g ∙ f) up

taken : {X Y : Type 0} (o : Option X) (e : X) (test : X → Bool) (y : Y) (f : X → Y) → o ≡ Some e → test e ≡ false → f e ≡ elim o [ None ↦ y | Some x ↦ (if test x then y else f x) ]
taken o e test y f g h = rw (g, h) refl

module _ {C NID N E D R S : Type 0} (cmp : NID → NID → Ordering) (config : EngineConfig NID) where
  -- what is committed once the own acknowledgement was noted
  pub local_is : (l : Led C NID N E D R S) (x : LogId NID) (e : ProgressEntry NID) (k : JointLeader C NID N E D R S) (g : Option (LogId NID)) (core : Core C NID N E D R S)
      → get cmp l.leader.progress config.id ≡ Some e → is_ge (last_id_cmp cmp e.matching (Some x)) ≡ false
      → k ≡ record l.leader { progress = updated cmp l.leader.progress config.id (own_matched cmp (Some x) e) } → g ≡ granted_id cmp (is_quorum cmp) k
      → core ≡ try_commit_quorum_accepted cmp config g l.core → record { leader = k; core = core } ≡ update_local_progress cmp config (Some x) l
  unfolding update_local_progress
  local_is l x e k g core f h m n c =
      (λ i. led k (c i)) ∙ ap (λ y. led k (try_commit_quorum_accepted cmp config y l.core)) n
      ∙ ap (λ j. led j (try_commit_quorum_accepted cmp config (granted_id cmp (is_quorum cmp) j) l.core)) m
      ∙ taken (get cmp l.leader.progress config.id) e (λ e. is_ge (last_id_cmp cmp e.matching (Some x))) l
      (λ e. commit_granted cmp config (with_entry cmp l config.id (own_matched cmp (Some x) e))) f h where
        led : JointLeader C NID N E D R S → Core C NID N E D R S → Led C NID N E D R S
        led j d = record { leader = j; core = d }
