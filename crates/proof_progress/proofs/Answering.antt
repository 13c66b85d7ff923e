-- A node answers a leader's requests, and commits what it has accepted.
use Rattle.std.proofs.Common.{ℕ, ◌-◌, ◌≡◌, ◌⊎◌, inl, inr, Bool, true, false, not, List, [], ◌∷◌, length, map, refl, sym, ap, ◌∙◌, subst, Option, None, Some, Result, Ok, Err}
use Rattle.std.specs.Prelude.{◌==◌, drop, fold, if◌then◌else◌, is_some}
use Rattle.std.specs.Option.{option_map}
use Rattle.std.specs.Cmp.{IsTotalOrder, tied_itself}
use Rattle.std.specs.declared.cmp.Ordering.{Ordering}
use Rattle.std.specs.declared.cmp.Ordering.TheVariants.{Equal}
use Rattle.std.specs.Ordering.{is_eq, is_gt, is_le, is_lt}
use Rattle.proof_deeds.specs.raft_state.declared.config.RaftEntry
use Rattle.proof_deeds.specs.raft_state.declared.ids.LeaderId.{LeaderId}
use Rattle.proof_deeds.specs.raft_state.declared.ids.LogId.{LogId}
use Rattle.proof_deeds.specs.raft_state.declared.ids.Vote.{Vote}
use Rattle.proof_deeds.specs.raft_state.declared.membership.StoredMembership.{StoredMembership}
use Rattle.proof_deeds.specs.raft_state.declared.policy.RejectAppendEntries.{RejectAppendEntries}
use Rattle.proof_deeds.specs.raft_state.declared.policy.RejectAppendEntries.TheVariants as reject
use Rattle.proof_deeds.specs.raft_state.declared.state.RaftState.{RaftState}
use Rattle.proof_deeds.specs.raft_state.Log.{at, last}
use Rattle.proof_deeds.specs.raft_state.Order.{last_id_cmp, leader_id_cmp}
use Rattle.proof_deeds.specs.raft_state.State.{accept, accepted, accepted_under, append_membership, extend, has_log_id, truncate, undoes_membership}
use Rattle.proof_deeds.proofs.raft_state_proofs.Orders.{last_total, le_of_not_gt, le_refl, le_trans, leader_total, lt_is_le, lt_of_gt}
use Rattle.proof_deeds.specs.raft_command.Message.{append_response}
use Rattle.proof_deeds.specs.raft_command.Push.{with_command}
use Rattle.proof_deeds.specs.raft_command.declared.command.Command.TheVariants.{DeleteConflictLog}
use Rattle.proof_deeds.specs.raft_command.declared.config.EngineConfig.{EngineConfig}
use Rattle.proof_deeds.specs.raft_command.declared.message.AppendEntriesResponse.{AppendEntriesResponse}
use Rattle.proof_deeds.specs.raft_command.declared.message.AppendEntriesResponse.TheVariants.{Conflict, Success}
use Rattle.proof_deeds.specs.raft_steps.Commit.{commit_by}
use Rattle.proof_deeds.specs.raft_steps.FollowingHandler.{commit_entries, commit_target, consecutive_answer, do_append_entries, ensure_log_consecutive, holds_previous, memberships_in, new_entries, truncate_for, truncate_logs, with_entries}
use Rattle.proof_deeds.specs.raft_steps.FollowingHandler as following
use Rattle.proof_deeds.specs.raft_steps.Laws.{later}
use Rattle.proof_deeds.specs.raft_steps.Parts.{Core, Machine, on_core, with_state}
use Rattle.proof_deeds.specs.raft_steps.Requests.{append_answer, append_entries, follow, handle_commit_entries}
use Rattle.proof_deeds.specs.raft_steps.ServerStateHandler.{update_role}
use Rattle.proof_deeds.specs.raft_steps.VoteHandler.{rejects_vote, update_vote}
use Rattle.proof_deeds.proofs.raft_steps_proofs.Kept.{commit_by_case, either, either_option}

module _ {NID N : Type 0} where
  -- what was accepted, and from whom, stays
  record SameAccepted (s t : RaftState NID N) : Type 0 where
    vote : t.vote ≡ s.vote
    by : t.accepted_by ≡ s.accepted_by

  same_self : (s : RaftState NID N) → SameAccepted s s
  same_self s = record { vote = refl; by = refl }

  same_then : (a b c : RaftState NID N) → SameAccepted a b → SameAccepted b c → SameAccepted a c
  same_then a b c h k = record { vote = k.vote ∙ h.vote; by = k.by ∙ h.by }

  joined_same : (ms : List (StoredMembership NID N)) (s : RaftState NID N) → SameAccepted s (fold append_membership s ms)
  joined_same [] s = same_self s
  joined_same (m ∷ ms) s = let k : SameAccepted (append_membership s m) (fold append_membership (append_membership s m) ms) = joined_same ms (append_membership s m) in record { vote = k.vote; by = k.by }

  truncated_same : (s : RaftState NID N) (i : ℕ) → SameAccepted s (truncate s i)
  truncated_same s i = either (SameAccepted s) (undoes_membership s i) _ _ (record { vote = refl; by = refl }) (record { vote = refl; by = refl })

module _ {NID : Type 0} (cmp : NID → NID → Ordering) (total : IsTotalOrder cmp) where
  own_accepted : (d : LeaderId NID) (x : LogId NID) → accepted_under cmp d (Some (d, x)) ≡ Some x
  own_accepted d x = go (is_eq (leader_id_cmp cmp d d)) (ap is_eq (tied_itself (leader_total cmp total) d))
    where
      go : (b : Bool) → b ≡ true → ◌≡◌ {A = Option (LogId NID)} (if b then Some x else None) (Some x)
      go true e = refl
      go false e = cc

module _ {NID N : Type 0} (cmp : NID → NID → Ordering) (total : IsTotalOrder cmp) where
  targets : (s : RaftState NID N) (x : Option (LogId NID)) → is_le (last_id_cmp cmp x (accepted cmp s)) ≡ true → is_le (last_id_cmp cmp x (commit_target cmp s x)) ≡ true
  targets s x h = go (is_lt (last_id_cmp cmp x (accepted cmp s)))
    where
      go : (b : Bool) → is_le (last_id_cmp cmp x (if b then x else accepted cmp s)) ≡ true
      go true = le_refl (last_total cmp total) x
      go false = h

  accepted_is : (s t : RaftState NID N) → SameAccepted s t → accepted cmp t ≡ accepted cmp s
  accepted_is s t h = λ i. accepted_under cmp (h.vote i).leader_id (h.by i)

  -- what is accepted isn't below what was to be
  accepts : (s : RaftState NID N) (x : Option (LogId NID)) → is_le (last_id_cmp cmp x (accepted cmp (accept cmp s x))) ≡ true
  accepts s x = go (is_gt (last_id_cmp cmp x (accepted cmp s))) refl x refl
    where
      go : (b : Bool) → is_gt (last_id_cmp cmp x (accepted cmp s)) ≡ b → (y : Option (LogId NID)) → x ≡ y
          → is_le (last_id_cmp cmp y (accepted cmp (if b then record s { accepted_by = option_map (λ id. (s.vote.leader_id, id)) y } else s))) ≡ true
      go false e y q = subst (λ z. is_le (last_id_cmp cmp z (accepted cmp s)) ≡ true) q (le_of_not_gt _ e)
      go true e None q = refl
      go true e (Some z) q = subst (λ o. is_le (last_id_cmp cmp (Some z) o) ≡ true) (sym (own_accepted cmp total s.vote.leader_id z)) (le_refl (last_total cmp total) (Some z))

  -- nor is what was accepted before
  accepts_more : (s : RaftState NID N) (x : Option (LogId NID)) → is_le (last_id_cmp cmp (accepted cmp s) (accepted cmp (accept cmp s x))) ≡ true
  accepts_more s x = go (is_gt (last_id_cmp cmp x (accepted cmp s))) refl x refl
    where
      none_low : (o : Option (LogId NID)) → is_gt (last_id_cmp cmp None o) ≡ false
      none_low None = refl
      none_low (Some y) = refl

      go : (b : Bool) → is_gt (last_id_cmp cmp x (accepted cmp s)) ≡ b → (y : Option (LogId NID)) → x ≡ y
          → is_le (last_id_cmp cmp (accepted cmp s) (accepted cmp (if b then record s { accepted_by = option_map (λ id. (s.vote.leader_id, id)) y } else s))) ≡ true
      go false e y q = le_refl (last_total cmp total) (accepted cmp s)
      go true e None q = let z : is_gt (last_id_cmp cmp None (accepted cmp s)) ≡ true = subst (λ o. is_gt (last_id_cmp cmp o (accepted cmp s)) ≡ true) q e in let w : is_gt (last_id_cmp cmp None (accepted cmp s)) ≡ false = none_low (accepted cmp s) in cc
      go true e (Some z) q =
          subst (λ o. is_le (last_id_cmp cmp (accepted cmp s) o) ≡ true) (sym (own_accepted cmp total s.vote.leader_id z))
          (lt_is_le _ (lt_of_gt (last_total cmp total) (Some z) (accepted cmp s) (subst (λ o. is_gt (last_id_cmp cmp o (accepted cmp s)) ≡ true) q e)))

module _ {C NID N E D R S : Type 0} (cmp : NID → NID → Ordering) (total : IsTotalOrder cmp) (same : (a b : NID) → cmp a b ≡ Equal → a ≡ b) (config : EngineConfig NID) where
  abbrev Same : Core C NID N E D R S → Core C NID N E D R S → Type 0
  Same c d = SameAccepted c.state d.state

  role_same : (c d : Core C NID N E D R S) → Same c d → Same c (update_role cmp config d)
  unfolding update_role
  role_same c d h = record { vote = h.vote; by = h.by }

  cut_same : (i : ℕ) (c : Core C NID N E D R S) → Same c (truncate_logs cmp config i c)
  unfolding truncate_logs
  cut_same i c =
      either_option (Same c) (at c.state.ids i) c _ (same_self c.state)
      (λ first. let cut : Core C NID N E D R S = record { state = truncate c.state i; output = with_command c.output (DeleteConflictLog first) } in
      either (Same c) (not (undoes_membership c.state i)) cut (update_role cmp config cut) (truncated_same c.state i) (role_same c cut (truncated_same c.state i)))

  -- what a leader says is committed is, as far as it was accepted
  commits_to : (o : Option (LogId NID)) (c : Core C NID N E D R S) → is_le (last_id_cmp cmp o (commit_by cmp config [] o c).state.committed) ≡ true
  unfolding commit_by
  commits_to None c = none_le c.state.committed
    where
      none_le : (o : Option (LogId NID)) → is_le (last_id_cmp cmp None o) ≡ true
      none_le None = refl
      none_le (Some x) = refl
  commits_to (Some z) c =
      commit_by_case cmp total same config (λ (d : Core C NID N E D R S). is_le (last_id_cmp cmp (Some z) d.state.committed) ≡ true) [] z c (λ e. le_of_not_gt _ e) (λ e cm building q. le_refl (last_total cmp total) (Some z))

  -- a commit leaves what was accepted
  commit_accepted : (o : Option (LogId NID)) (c : Core C NID N E D R S) → accepted cmp (commit_by cmp config [] o c).state ≡ accepted cmp c.state
  unfolding commit_by
  commit_accepted None c = refl
  commit_accepted (Some z) c = commit_by_case cmp total same config (λ (d : Core C NID N E D R S). accepted cmp d.state ≡ accepted cmp c.state) [] z c (λ e. refl) (λ e cm building q. refl)

  pub handle_commit_accepted : (entry : RaftEntry.Ghosts E NID N) (x : Option (LogId NID)) (m : Machine C NID N E D R S) → accepted cmp (handle_commit_entries cmp entry config x m).core.state ≡ accepted cmp m.core.state
  unfolding handle_commit_entries commit_entries
  handle_commit_accepted entry x m = commit_accepted (commit_target cmp m.core.state x) m.core

  commits_accepted : (x : Option (LogId NID)) (c : Core C NID N E D R S) → is_le (last_id_cmp cmp x (accepted cmp c.state)) ≡ true → is_le (last_id_cmp cmp x (commit_entries cmp config x c).state.committed) ≡ true
  unfolding commit_entries
  commits_accepted x c h = le_trans (last_total cmp total) x (commit_target cmp c.state x) (commit_by cmp config [] (commit_target cmp c.state x) c).state.committed (targets cmp total c.state x h) (commits_to (commit_target cmp c.state x) c)

  pub handle_commits : (entry : RaftEntry.Ghosts E NID N) (x : Option (LogId NID)) (m : Machine C NID N E D R S) → is_le (last_id_cmp cmp x (accepted cmp m.core.state)) ≡ true → is_le (last_id_cmp cmp x (handle_commit_entries cmp entry config x m).core.state.committed) ≡ true
  unfolding handle_commit_entries
  handle_commits entry x m h = commits_accepted x m.core h

  module _ (entry : RaftEntry.Ghosts E NID N) where
    cut_for_same : (es : List E) (c : Core C NID N E D R S) → Same c (truncate_for cmp entry config es c)
    cut_for_same [] c = same_self c.state
    cut_for_same (e ∷ es) c = cut_same (entry.id_of e).index c

    do_same : (es : List E) (c : Core C NID N E D R S) → Same c (do_append_entries cmp entry config es c)
    unfolding do_append_entries
    do_same es c =
        let taken : Core C NID N E D R S = with_state c (with_entries entry c.state es) in
        let j : SameAccepted (extend c.state (map entry.id_of es)) (with_entries entry c.state es) = joined_same (drop (length (memberships_in entry es) - 2) (memberships_in entry es)) (extend c.state (map entry.id_of es)) in
        let k : Same c taken = record { vote = j.vote; by = j.by } in
        let settled : Same c (if length (memberships_in entry es) == 0 then taken else update_role cmp config taken) = either (Same c) (length (memberships_in entry es) == 0) taken (update_role cmp config taken) k (role_same c taken k) in
        either (Same c) (length es == 0) c _ (same_self c.state) (record { vote = settled.vote; by = settled.by })

    appends : (prev : Option (LogId NID)) (es : List E) (c : Core C NID N E D R S) → is_le (last_id_cmp cmp (later cmp prev (last (map entry.id_of es))) (accepted cmp (following.append_entries cmp entry config prev es c).state)) ≡ true
    unfolding following.append_entries
    appends prev es c =
        let y : Option (LogId NID) = later cmp prev (last (map entry.id_of es)) in
        let noted : Core C NID N E D R S = with_state c (accept cmp c.state (later cmp prev (last (map entry.id_of es)))) in
        let new : List E = new_entries cmp entry c.state es in
        let cut : Core C NID N E D R S = truncate_for cmp entry config (new_entries cmp entry c.state es) noted in
        let done : Core C NID N E D R S = do_append_entries cmp entry config (new_entries cmp entry c.state es) cut in
        let k : SameAccepted noted.state done.state = same_then noted.state cut.state done.state (cut_for_same (new_entries cmp entry c.state es) noted) (do_same (new_entries cmp entry c.state es) cut) in
        subst (λ o. is_le (last_id_cmp cmp (later cmp prev (last (map entry.id_of es))) o) ≡ true) (sym (accepted_is cmp total noted.state done.state k)) (accepts cmp total c.state (later cmp prev (last (map entry.id_of es))))

    appends_more : (prev : Option (LogId NID)) (es : List E) (c : Core C NID N E D R S) → is_le (last_id_cmp cmp (accepted cmp c.state) (accepted cmp (following.append_entries cmp entry config prev es c).state)) ≡ true
    unfolding following.append_entries
    appends_more prev es c =
        let noted : Core C NID N E D R S = with_state c (accept cmp c.state (later cmp prev (last (map entry.id_of es)))) in
        let cut : Core C NID N E D R S = truncate_for cmp entry config (new_entries cmp entry c.state es) noted in
        let done : Core C NID N E D R S = do_append_entries cmp entry config (new_entries cmp entry c.state es) cut in
        let k : SameAccepted noted.state done.state = same_then noted.state cut.state done.state (cut_for_same (new_entries cmp entry c.state es) noted) (do_same (new_entries cmp entry c.state es) cut) in
        subst (λ o. is_le (last_id_cmp cmp (accepted cmp c.state) o) ≡ true) (sym (accepted_is cmp total noted.state done.state k)) (accepts_more cmp total c.state (later cmp prev (last (map entry.id_of es))))

    module _ (vote : Vote NID) (prev : Option (LogId NID)) (now : ℕ) (m : Machine C NID N E D R S) (low : rejects_vote cmp m.core.state vote ≡ false) where
      voted : Machine C NID N E D R S
      voted = update_vote cmp entry config vote now m

      answer_is : append_answer cmp entry config vote prev now m ≡ consecutive_answer cmp voted.core.state prev
      unfolding append_answer voted
      answer_is = go (rejects_vote cmp m.core.state vote) low
        where
          go : (b : Bool) → b ≡ false → ◌≡◌ {A = Result (Unit {0}) (RejectAppendEntries NID)} (if b then Err (reject.ByVote m.core.state.vote) else consecutive_answer cmp (update_vote cmp entry config vote now m).core.state prev) (consecutive_answer cmp (update_vote cmp entry config vote now m).core.state prev)
          go true e = cc
          go false e = refl

      abbrev reply : Option (LogId NID) → AppendEntriesResponse NID
      reply p = append_response (consecutive_answer cmp voted.core.state p)

      pub request_answered : (append_response (append_answer cmp entry config vote prev now m) ≡ Success) ⊎ ((is_some prev ≡ true) × (append_response (append_answer cmp entry config vote prev now m) ≡ Conflict))
      request_answered =
          subst (λ (a : Result (Unit {0}) (RejectAppendEntries NID)). (append_response a ≡ Success) ⊎ ((is_some prev ≡ true) × (append_response a ≡ Conflict))) (sym answer_is) (by prev)
        where
          held : (s : RaftState NID N) (x : LogId NID) (b : Bool) → (let a : Result (Unit {0}) (RejectAppendEntries NID) = if b then Ok tt else Err (reject.ByConflictingLogId (at s.ids x.index) x) in (append_response a ≡ Success) ⊎ ((true ≡ true) × (append_response a ≡ Conflict)))
          held s x true = inl refl
          held s x false = inr (refl, refl)

          by : (p : Option (LogId NID)) → (reply p ≡ Success) ⊎ ((is_some p ≡ true) × (reply p ≡ Conflict))
          by None = inl refl
          by (Some x) = held voted.core.state x (has_log_id cmp voted.core.state x)

      -- success says that the id before the entries is held
      held_then : append_response (append_answer cmp entry config vote prev now m) ≡ Success → holds_previous cmp voted.core.state prev ≡ true
      held_then h = by prev (ap append_response (sym answer_is) ∙ h)
        where
          test : (s : RaftState NID N) (x : LogId NID) (b : Bool) → (let a : Result (Unit {0}) (RejectAppendEntries NID) = if b then Ok tt else Err (reject.ByConflictingLogId (at s.ids x.index) x) in append_response a ≡ Success) → b ≡ true
          test s x true e = refl
          test s x false e = cc

          by : (p : Option (LogId NID)) → reply p ≡ Success → holds_previous cmp voted.core.state p ≡ true
          by None e = refl
          by (Some x) e = test voted.core.state x (has_log_id cmp voted.core.state x) e

      follow_is : (es : List E) → holds_previous cmp voted.core.state prev ≡ true → append_entries cmp entry config vote prev es now m ≡ on_core (following.append_entries cmp entry config prev es) voted
      unfolding append_entries follow voted
      follow_is es h = first (rejects_vote cmp m.core.state vote) low ∙ ap (λ (c : Core C NID N E D R S). record (update_vote cmp entry config vote now m) { core = c }) (second (holds_previous cmp (update_vote cmp entry config vote now m).core.state prev) h)
        where
          first : (b : Bool) → b ≡ false → ◌≡◌ {A = Machine C NID N E D R S} (if b then m else on_core (follow cmp entry config prev es) (update_vote cmp entry config vote now m)) (on_core (follow cmp entry config prev es) (update_vote cmp entry config vote now m))
          first true e = cc
          first false e = refl

          second : (b : Bool) → b ≡ true
              → ◌≡◌ {A = Core C NID N E D R S} (if b then following.append_entries cmp entry config prev es (update_vote cmp entry config vote now m).core else ensure_log_consecutive cmp config prev (update_vote cmp entry config vote now m).core) (following.append_entries cmp entry config prev es (update_vote cmp entry config vote now m).core)
          second true e = refl
          second false e = cc

      -- after success no less is accepted than before
      pub success_keeps : (es : List E) → append_response (append_answer cmp entry config vote prev now m) ≡ Success
          → is_le (last_id_cmp cmp (accepted cmp (update_vote cmp entry config vote now m).core.state) (accepted cmp (append_entries cmp entry config vote prev es now m).core.state)) ≡ true
      unfolding voted
      success_keeps es h =
          subst (λ (n : Machine C NID N E D R S). is_le (last_id_cmp cmp (accepted cmp (update_vote cmp entry config vote now m).core.state) (accepted cmp n.core.state)) ≡ true) (sym (follow_is es (held_then h)))
          (appends_more prev es (update_vote cmp entry config vote now m).core)

      -- after success all is accepted that the request carried
      pub success_accepts : (es : List E) → append_response (append_answer cmp entry config vote prev now m) ≡ Success
          → is_le (last_id_cmp cmp (later cmp prev (last (map entry.id_of es))) (accepted cmp (append_entries cmp entry config vote prev es now m).core.state)) ≡ true
      success_accepts es h =
          subst (λ (n : Machine C NID N E D R S). is_le (last_id_cmp cmp (later cmp prev (last (map entry.id_of es))) (accepted cmp n.core.state)) ≡ true) (sym (follow_is es (held_then h)))
          (appends prev es voted.core)

      pub success_commits : (es : List E) → append_response (append_answer cmp entry config vote prev now m) ≡ Success → (x : Option (LogId NID)) → is_le (last_id_cmp cmp x (later cmp prev (last (map entry.id_of es)))) ≡ true
          → is_le (last_id_cmp cmp x (handle_commit_entries cmp entry config x (append_entries cmp entry config vote prev es now m)).core.state.committed) ≡ true
      unfolding handle_commit_entries
      success_commits es h x l =
          subst (λ (n : Machine C NID N E D R S). is_le (last_id_cmp cmp x (commit_entries cmp config x n.core).state.committed) ≡ true) (sym (follow_is es (held_then h)))
          (commits_accepted x (following.append_entries cmp entry config prev es voted.core)
          (le_trans (last_total cmp total) x (later cmp prev (last (map entry.id_of es))) (accepted cmp (following.append_entries cmp entry config prev es voted.core).state) l (appends prev es voted.core)))
