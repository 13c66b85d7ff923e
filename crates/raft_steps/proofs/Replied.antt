-- What a reply does to a target's entry.
use Rattle.std.proofs.Common.{◌≡◌, ◌∙◌, sym, refl, ap, subst, ℕ, Bool, true, false, not, Option, None, Some, Result, Ok, Err}
use Rattle.std.specs.Prelude.{IfSome}
use Rattle.std.specs.Ordering.{is_ge, is_le, ordering_reverse}
use Rattle.std.specs.Cmp.{IsTotalOrder}
use Rattle.std.specs.declared.cmp.Ordering.{Ordering}
use Rattle.std.specs.declared.cmp.Ordering.TheVariants.{Less, Equal, Greater}
use Rattle.raft_state.specs.declared.ids.LogId.{LogId}
use Rattle.raft_state.specs.declared.state.RaftState.{RaftState}
use Rattle.raft_state.specs.Order.{last_id_cmp}
use Rattle.raft_state.proofs.Orders.{last_total, le_refl, le_trans, within_le, and_both, eq_is_le, eq_swap}
use Rattle.raft_progress_entry.specs.declared.entry.ProgressEntry.{ProgressEntry}
use Rattle.raft_progress_entry.specs.declared.entry.Inflight.{Inflight}
use Rattle.raft_progress_entry.specs.declared.entry.Inflight.TheVariants as inflight
use Rattle.raft_progress_entry.specs.raft_error.declared.error.EngineError.{EngineError}
use Rattle.raft_progress_entry.specs.raft_error.declared.error.EngineError.TheVariants.{UnknownTarget}
use Rattle.raft_progress_entry.specs.Entry.{acknowledges, refusals_of_matched, carries, matched, sent}
use Rattle.raft_proposer.specs.raft_progress.Table.{Table, get}
use Rattle.raft_proposer.specs.raft_progress.Updates.{Rises}
use Rattle.raft_steps.specs.Invariants.{inflight_from}
use Rattle.raft_proposer.specs.Joint.{JointLeader}
use Rattle.raft_steps.specs.ReplyRefusals.{refusals_of_acknowledged, refusals_of_entry}
use Rattle.raft_steps.specs.Sending.{IsAhead}
use Rattle.raft_steps.proofs.Unrefused.{neither, test_fails}

reversed : (r : Ordering) → is_le r ≡ true → is_ge (ordering_reverse r) ≡ true
reversed Less e = refl
reversed Equal e = refl
reversed Greater e = cc

not_false : (b : Bool) → not b ≡ false → b ≡ true
not_false true e = refl
not_false false e = cc

module _ {NID : Type 0} where
  -- what is sent leaves what matches
  pub sent_matching : (e : ProgressEntry NID) (r : Result (Inflight NID) (Inflight NID)) → (sent e r).matching ≡ e.matching
  sent_matching e (Ok f) = refl
  sent_matching e (Err f) = refl

module _ {NID : Type 0} (cmp : NID → NID → Ordering) (total : IsTotalOrder cmp) where
  le_ge : (a b : Option (LogId NID)) → is_le (last_id_cmp cmp a b) ≡ true → is_ge (last_id_cmp cmp b a) ≡ true
  le_ge a b h = ap is_ge ((last_total cmp total).antisymm b a) ∙ reversed (last_id_cmp cmp a b) h

  -- an entry that isn't below raises its row
  pub risen : {Q : Type 0} (t : Table NID (ProgressEntry NID) (Option (LogId NID)) Q) (id : NID) (e v : ProgressEntry NID)
      → get cmp t id ≡ Some e → is_le (last_id_cmp cmp e.matching v.matching) ≡ true
      → Rises cmp (last_id_cmp cmp) (λ (e : ProgressEntry NID). e.matching) t id v
  risen t id e v g h = λ was f.
      subst (λ o. IfSome o (λ w. is_ge (last_id_cmp cmp v.matching w.matching) ≡ true)) (sym g ∙ f) (le_ge e.matching v.matching h)

  -- and so does one of the same matching id
  pub same_rises : {Q : Type 0} (t : Table NID (ProgressEntry NID) (Option (LogId NID)) Q) (id : NID) (e v : ProgressEntry NID)
      → get cmp t id ≡ Some e → v.matching ≡ e.matching
      → Rises cmp (last_id_cmp cmp) (λ (e : ProgressEntry NID). e.matching) t id v
  same_rises t id e v g h = risen t id e v g (subst (λ o. is_le (last_id_cmp cmp e.matching o) ≡ true) (sym h) (le_refl (last_total cmp total) e.matching))

  -- an id that may be acknowledged isn't below what matches
  acknowledged_above : (f : Inflight NID) (m x : Option (LogId NID)) → is_le (last_id_cmp cmp m (inflight_from f m)) ≡ true → acknowledges cmp f x ≡ true
      → is_le (last_id_cmp cmp m x) ≡ true
  acknowledged_above inflight.None m x h e = cc
  acknowledged_above (inflight.Logs id range) m None h e = cc
  acknowledged_above (inflight.Logs id range) m (Some x) h e = le_trans (last_total cmp total) m range.prev (Some x) h (within_le cmp total range.prev (Some x) (and_both _ _ e).0)
  acknowledged_above (inflight.Snapshot id last) m x h e =
      le_trans (last_total cmp total) m last x h (eq_is_le _ (eq_swap (last_total cmp total) x last e))

  acknowledged : {N : Type 0} (e : ProgressEntry NID) (number : ℕ) (x : Option (LogId NID)) → refusals_of_matched {N = N} cmp e number x ≡ None → acknowledges cmp e.inflight x ≡ true
  acknowledged e number x h = not_false _ (test_fails _ _ _ (test_fails (not (carries e number)) _ _ h).1).0

  -- an acknowledgement that isn't refused raises its target's row
  pub matched_rises : {N Q : Type 0} (t : Table NID (ProgressEntry NID) (Option (LogId NID)) Q) (id : NID) (e : ProgressEntry NID) (number : ℕ) (x : Option (LogId NID))
      → get cmp t id ≡ Some e → IsAhead cmp e → refusals_of_matched {N = N} cmp e number x ≡ None
      → Rises cmp (last_id_cmp cmp) (λ (e : ProgressEntry NID). e.matching) t id (matched cmp e x)
  matched_rises t id e number x g h a = risen t id e (matched cmp e x) g (acknowledged_above e.inflight e.matching x h (acknowledged e number x a))

module _ {C NID N E D R S : Type 0} (cmp : NID → NID → Ordering) (total : IsTotalOrder cmp) where
  -- and so does the entry that is made of it
  pub acknowledgement_rises : (leader : JointLeader C NID N E D R S) (target : NID) (number : ℕ) (x : Option (LogId NID)) (s : RaftState NID N) (e v : ProgressEntry NID)
      → get cmp leader.progress target ≡ Some e → IfSome (get cmp leader.progress target) (IsAhead cmp) → refusals_of_entry cmp target (λ e. refusals_of_acknowledged cmp s e number x) leader ≡ None
      → v ≡ matched cmp e x → Rises cmp (last_id_cmp cmp) (λ (e : ProgressEntry NID). e.matching) leader.progress target v
  acknowledgement_rises leader target number x s e v g ahead a is =
      let h : IsAhead cmp e = subst (λ o. IfSome o (IsAhead cmp)) g ahead in
      let passed : refusals_of_acknowledged cmp s e number x ≡ None =
      subst (λ o. ◌≡◌ {A = Option (EngineError NID N)} (elim o [ None ↦ Some UnknownTarget | Some e ↦ refusals_of_acknowledged cmp s e number x ]) None) g a in
      subst (λ w. Rises cmp (last_id_cmp cmp) (λ (e : ProgressEntry NID). e.matching) leader.progress target w) (sym is)
      (matched_rises cmp total leader.progress target e number x g h (neither (refusals_of_matched cmp e number x) _ passed).0)
