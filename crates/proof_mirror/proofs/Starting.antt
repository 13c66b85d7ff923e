-- Snapshots of a leader, first entries, and starts.
use Rattle.std.proofs.Common.{ℕ, suc, ◌+◌, ◌<◌, ◌≤◌, ◌≡◌, inl, inr, Bool, true, false, not, List, [], ◌∷◌, ◌++◌, length, arith, lit<, refl, sym, ap, ◌∙◌, subst, Option, Some, None}
use Rattle.std.specs.Prelude.{◌^◌, ◌==◌, ◌||◌, map, cond, if◌then◌else◌, IfSome}
use Rattle.std.specs.declared.cmp.Ordering.{Ordering}
use Rattle.std.specs.declared.cmp.Ordering.TheVariants.{Less, Equal, Greater}
use Rattle.std.specs.Ordering.{is_eq, is_ne, is_gt, is_le, is_lt, nat_cmp, ordering_then}
use Rattle.std.specs.List.{AllByRecursion}
use Rattle.std.proofs.lemmas.Bool.Decides.{nat_tests}
use Rattle.std.specs.Cmp.{IsTotalOrder}
use Rattle.std.proofs.lemmas.Bool.{cond_both, and_parts, both_ways, eq-eqb, ne_eqb}
use Rattle.raft_state.specs.declared.config.RaftEntry
use Rattle.raft_state.specs.declared.ids.LeaderId.{LeaderId}
use Rattle.raft_state.specs.declared.ids.LogId.{LogId}
use Rattle.raft_state.specs.declared.ids.Vote.{Vote}
use Rattle.raft_state.specs.declared.membership.SnapshotMeta.{SnapshotMeta}
use Rattle.raft_state.specs.declared.state.RaftState.{RaftState}
use Rattle.raft_state.specs.Fits.{fits, is_within}
use Rattle.raft_state.specs.Consecutive.{follows_on}
use Rattle.raft_state.specs.Invariants.{IsBelowEnd, IsSoundState, IsUnder, LogOrder, Rises, first_index}
use Rattle.raft_state.specs.Log.{last, at}
use Rattle.raft_state.specs.LogLaws.{IsRun}
use Rattle.raft_state.specs.Order.{next, last_id_cmp, leader_id_cmp, vote_cmp}
use Rattle.raft_state.specs.State.{is_found, is_leader}
use Rattle.raft_state.proofs.LogLists.{Has, follow_rise, follow_run, has_within, last_is}
use Rattle.raft_state.proofs.Orders.{eq_is_le, eq_swap, leader_total, lt_of_gt, lt_not_ge, le_of_not_gt, le_lt, le_trans, last_total, vote_eq_leader, within_le, within_next}
use Rattle.raft_state.proofs.StateLaws.{is_found_at, purged_within}
use Rattle.raft_command.specs.declared.command.Command.TheVariants as command
use Rattle.raft_command.specs.declared.config.EngineConfig.{EngineConfig}
use Rattle.raft_command.specs.declared.message.Snapshot.{Snapshot}
use Rattle.raft_command.specs.declared.message.Token.{Token}
use Rattle.raft_command.specs.declared.message.VoteRequest.{VoteRequest}
use Rattle.raft_steps.specs.Refusals.{blank_is_at_end, refusals_of_initialize}
use Rattle.raft_steps.specs.Engine.{default_log_id, initialize}
use Rattle.raft_steps.specs.FollowingHandler.{do_append_entries}
use Rattle.raft_steps.specs.Installs.{installs, install_full_snapshot, install_upto, install_condition, reply_install, install_and_reply, handle_install_full_snapshot}
use Rattle.raft_steps.specs.Invariants.{LeaderFits, IsSound}
use Rattle.raft_steps.specs.Parts.{Core, Led, Machine, with_state, on_core, leading, on_leader}
use Rattle.raft_proposer.specs.Joint.{JointLeader}
use Rattle.raft_steps.specs.ReplicationHandler.{update_local_progress}
use Rattle.raft_steps.specs.InstallRefusals.{refusals_of_fit, refusals_of_install}
use Rattle.raft_steps.specs.RequestRefusals.{refusals_of_vote_req}
use Rattle.raft_steps.specs.Requests.{handle_vote_req, refuses_vote_req}
use Rattle.raft_steps.specs.Starts.{started_role, is_settled, lead_on, startup, leader_step_down, refusals_of_step_down}
use Rattle.raft_steps.specs.VoteHandler.{rejects_vote, update_internal_server_state, update_vote}
use Rattle.raft_steps.proofs.Kept.{TakesIds}
use Rattle.raft_steps.proofs.KeptEngine.{internal_is_sound}
use Rattle.raft_steps.proofs.KeptFollow.{heard_case, not_own, taken_vote_req_is_sound}
use Rattle.raft_steps.proofs.KeptInstall.{MayInstall, may_install}
use Rattle.raft_steps.proofs.Started.{step_down_is_sound}
use Rattle.raft_steps.proofs.Unrefused.{neither, or_fails, second_fails}
use Rattle.raft_store.specs.Store.{Store}
use Rattle.proof_mirror.specs.Ready.{Pending, KnowsLog, PendingLed, PendingIn, SnapshotTells}
use Rattle.proof_mirror.proofs.Elections.{pending_internal, pending_update_vote, pending_elect}
use Rattle.proof_mirror.proofs.Following.{more_passed, other_follows, pending_append, taken_order, voted_sound}
use Rattle.proof_mirror.proofs.Installing.{InstallFits, pending_install}
use Rattle.proof_mirror.proofs.Orders.{InOrder, Orderly, in_order}
use Rattle.raft_store.proofs.Lists.{last_more}
use Rattle.proof_mirror.proofs.Proposes.{TakesId, takes_id}
use Rattle.proof_mirror.proofs.Queued.{step_alike, after, awaits_idle, awaits_state}
use Rattle.proof_mirror.proofs.Replying.{pending_own}
use Rattle.proof_mirror.proofs.Sends.{pending_initiate}

module _ {NID : Type 0} (cmp : NID → NID → Ordering) (total : IsTotalOrder cmp) where
  each_has : (P : LogId NID → Type 0) (ids : List (LogId NID)) → ((y : LogId NID) → Has y ids → P y) → AllByRecursion P ids
  each_has P [] f = tt
  each_has P (x ∷ xs) f = (f x (inl refl), each_has P xs (λ y h. f y (inr h)))

  then_le : (r o : Ordering) → is_le (ordering_then r o) ≡ true → is_le r ≡ true
  then_le Less o e = refl
  then_le Equal o e = refl
  then_le Greater o e = cc

  -- ids that follow on from index 0 are in order where their last one is
  followed_order : (leader : LeaderId NID) (ids : List (LogId NID)) (x : LogId NID) → follows_on cmp None ids ≡ true → last ids ≡ Some x → IsUnder cmp leader x → IsBelowEnd x → LogOrder cmp leader ids None
  followed_order leader ids x f e u b =
      let run : IsRun 0 ids = follow_run cmp None 0 ids refl f in
      let rising : Rises cmp None ids = follow_rise cmp None ids f in
      let within : (y : LogId NID) → Has y ids → is_within cmp (Some y) (Some x) ≡ true =
      λ y h. subst (λ o. is_within cmp (Some y) o ≡ true) (sym (last_is ids) ∙ e) (has_within cmp total y None 0 ids run rising h) in
      record {
        by_vote = each_has (IsUnder cmp leader) ids
            (λ y h. le_trans (leader_total cmp total) y.leader_id x.leader_id leader (then_le (leader_id_cmp cmp y.leader_id x.leader_id) (nat_cmp y.index x.index) (within_le cmp total (Some y) (Some x) (within y h))) u);
        rising = rising;
        run = run;
        below_end = each_has IsBelowEnd ids (λ y h. let n : y.index + 1 ≤ x.index + 1 = within_next cmp total (Some y) (Some x) (within y h) in lower y.index x.index n b);
        first = tt;
      } where
        lower : (i k : ℕ) → i + 1 ≤ k + 1 → k + 1 < 2 ^ 64 → i + 1 < 2 ^ 64
        lower i k n b = omega (arith, n, b)

module _ {NID N E : Type 0} (cmp : NID → NID → Ordering) (total : IsTotalOrder cmp) (same : (a b : NID) → cmp a b ≡ Equal → a ≡ b) (entry : RaftEntry.Ghosts E NID N) where
  -- an install that is done and isn't refused fits; the message tells of its own entries
  pub install_fits : (s : RaftState NID N) (meta : SnapshotMeta NID N) (es : List E) (x : LogId NID) → IsSoundState cmp s → meta.last_log_id ≡ Some x → installs cmp s meta ≡ true
      → refusals_of_fit cmp s s.vote meta ≡ None → SnapshotTells cmp entry meta es → InstallFits cmp entry s meta es x
  install_fits s meta es x h e i asks t =
      let g0 : is_gt (last_id_cmp cmp meta.last_log_id s.committed) ≡ true = (and_parts (is_gt (last_id_cmp cmp meta.last_log_id s.committed)) (is_gt (last_id_cmp cmp meta.last_log_id s.snap.last_log_id)) i).0 in
      let g : is_gt (last_id_cmp cmp (Some x) s.committed) ≡ true = subst (λ y. is_gt (last_id_cmp cmp y s.committed) ≡ true) e g0 in
      let k : MayInstall cmp s s.vote x = may_install cmp s s.vote meta x e asks i in
      record {
        above = k.past;
        last_is = e;
        tells = t.tells;
        order = followed_order cmp total s.vote.leader_id (map entry.id_of es) x t.follow (sym t.tells.last_id ∙ e) k.under k.below_end;
        newer = above (is_gt (last_id_cmp cmp (Some x) s.purged)) refl (le_lt (last_total cmp total) s.purged s.committed (Some x) (within_le cmp total s.purged s.committed (purged_within cmp total same _ _ _ _ _ _ _ h)) (lt_of_gt (last_total cmp total) (Some x) s.committed g));
      }
    where
      above : (b : Bool) → is_gt (last_id_cmp cmp (Some x) s.purged) ≡ b → is_lt (last_id_cmp cmp s.purged (Some x)) ≡ true → is_gt (last_id_cmp cmp (Some x) s.purged) ≡ true
      above true q l = q
      above false q l = absurd (both_ways (is_le (last_id_cmp cmp (Some x) s.purged)) (lt_not_ge (last_total cmp total) s.purged (Some x) l) (le_of_not_gt (last_id_cmp cmp (Some x) s.purged) q))

module _ {C NID N E D R S : Type 0} (cmp : NID → NID → Ordering) (same : (a b : NID) → cmp a b ≡ Equal → a ≡ b) (entry : RaftEntry.Ghosts E NID N) (law : TakesId entry) (entries_in : S → List E) (config : EngineConfig NID) where
  -- where a snapshot is installed, it fits
  abbrev pub SnapshotFits : Snapshot C NID N E D R S → RaftState NID N → Type 0
  SnapshotFits snapshot s = (x : LogId NID) → snapshot.meta.last_log_id ≡ Some x → installs cmp s snapshot.meta ≡ true → InstallFits cmp entry s snapshot.meta (entries_in snapshot.snapshot) x

  pub pending_install_full : (t : Store NID N E) (snapshot : Snapshot C NID N E D R S) (c : Core C NID N E D R S) → Pending cmp entry entries_in t c → SnapshotFits snapshot c.state → Pending cmp entry entries_in t (install_full_snapshot cmp config snapshot c)
  unfolding install_full_snapshot
  pending_install_full t snapshot c p f = go snapshot.meta.last_log_id refl where
    go : (o : Option (LogId NID)) → snapshot.meta.last_log_id ≡ o → Pending cmp entry entries_in t (elim o [
      | None ↦ c
      | Some x ↦ (if installs cmp c.state snapshot.meta then install_upto cmp config x snapshot c else c)
    ])
    go None e = p
    go (Some x) e =
        cond_both (installs cmp c.state snapshot.meta) (install_upto cmp config x snapshot c) c (Pending cmp entry entries_in t)
        (λ i. let g : InstallFits cmp entry c.state snapshot.meta (entries_in snapshot.snapshot) x = f x e i in
        pending_install cmp same entry entries_in config t x snapshot c p g)
        (λ _. p)

module _ {C NID N E D R S : Type 0} (cmp : NID → NID → Ordering) (total : IsTotalOrder cmp) (same : (a b : NID) → cmp a b ≡ Equal → a ≡ b) (entry : RaftEntry.Ghosts E NID N) (law : TakesId entry) (entries_in : S → List E) (config : EngineConfig NID) where
  -- a snapshot that isn't refused
  pub pending_install_core : (t : Store NID N E) (snapshot : Snapshot C NID N E D R S) (c : Core C NID N E D R S) → Pending cmp entry entries_in t c → IsSoundState cmp c.state → refusals_of_fit cmp c.state c.state.vote snapshot.meta ≡ None
      → SnapshotTells cmp entry snapshot.meta (entries_in snapshot.snapshot) → Pending cmp entry entries_in t (install_full_snapshot cmp config snapshot c)
  pending_install_core t snapshot c p h asks k =
      pending_install_full cmp same entry law entries_in config t snapshot c p (λ x e i. install_fits cmp total same entry c.state snapshot.meta (entries_in snapshot.snapshot) x h e i asks k)

  -- the snapshot of another node
  pub pending_handle_install : (t : Store NID N E) (vote : Vote NID) (snapshot : Snapshot C NID N E D R S) (token : Token) (now : ℕ) (m : Machine C NID N E D R S) → PendingIn cmp entry entries_in t m → IsSound cmp config m
      → refusals_of_install cmp config vote snapshot.meta m ≡ None → SnapshotTells cmp entry snapshot.meta (entries_in snapshot.snapshot)
      → PendingIn cmp entry entries_in t (handle_install_full_snapshot cmp entry config vote snapshot token now m)
  unfolding handle_install_full_snapshot
  pending_handle_install t vote snapshot token now m p h asks k =
      let voted : Machine C NID N E D R S = update_vote cmp entry config vote now m in
      let done : Core C NID N E D R S = install_full_snapshot cmp config snapshot voted.core in
      let o : is_eq (cmp vote.leader_id.node_id config.id) ≡ false = not_own cmp total same entry config vote (refusals_of_fit cmp m.core.state vote snapshot.meta) m asks in
      cond_both (rejects_vote cmp m.core.state vote) (on_core (reply_install None token) m) (on_core (install_and_reply cmp entry config snapshot token) voted) (PendingIn cmp entry entries_in t)
      (λ _. record { core = awaits_idle cmp entry entries_in t m.core.output.items (command.Respond None _ ∷ []) m.core.state m.core.state p.core (refl, tt, tt) p.core.in_step; knows = p.knows })
      (λ r.
      let g : IsSoundState cmp voted.core.state = voted_sound cmp total same entry config vote now m r o h.sound in
      let q : PendingIn cmp entry entries_in t voted = pending_update_vote cmp entry law entries_in config t vote now m p (in_order cmp voted.core.state.vote.leader_id voted.core.state.ids voted.core.state.purged g.log) in
      let fit : refusals_of_fit cmp voted.core.state voted.core.state.vote snapshot.meta ≡ None =
      heard_case cmp total same entry config (λ n. refusals_of_fit cmp n.core.state n.core.state.vote snapshot.meta ≡ None) vote now m r o (λ role queue. more_passed cmp config vote (refusals_of_fit cmp m.core.state vote snapshot.meta) m asks r) in
      let d : Pending cmp entry entries_in t done = pending_install_core t snapshot voted.core q.core g fit k in
      record {
        core = awaits_idle cmp entry entries_in t done.output.items (command.Respond (install_condition cmp snapshot.meta voted.core) _ ∷ []) done.state done.state d (refl, tt, tt) d.in_step;
        knows = subst (λ l. IfSome l (KnowsLog done.state.ids)) (sym (other_follows cmp same entry config vote now m r o)) tt;
      })

module _ {NID : Type 0} where
  -- the last id stands at its index
  last_at : (n : ℕ) (ids : List (LogId NID)) (x : LogId NID) → IsRun n ids → last ids ≡ Some x → (at ids x.index ≡ Some x) × (n ≤ x.index)
  last_at n [] x r e = cc
  last_at n (y ∷ []) x r e =
      let q : y ≡ x = cc in
      (ap (λ b. cond b (Some y) None) (eq-eqb y.index x.index (ap (λ z. z.index) q)) ∙ ap Some q, let i : y.index ≡ x.index = ap (λ z. z.index) q in omega (arith, i, r.0))
  last_at n (y ∷ z ∷ zs) x r e =
      let h : (at (z ∷ zs) x.index ≡ Some x) × (n + 1 ≤ x.index) = last_at (n + 1) (z ∷ zs) x r.1 (sym (last_more y z zs) ∙ e) in
      (ap (λ b. cond b (Some y) (at (z ∷ zs) x.index)) (ne_eqb y.index x.index (λ q. omega (arith, q, r.0, h.1))) ∙ h.0, omega (arith, h.1))

module _ {NID N : Type 0} (cmp : NID → NID → Ordering) (total : IsTotalOrder cmp) (same : (a b : NID) → cmp a b ≡ Equal → a ≡ b) where
  last_fits : (s : RaftState NID N) → IsSoundState cmp s → fits cmp s.ids s.purged (last s.ids) ≡ true
  last_fits s h = go (last s.ids) refl where
    go : (o : Option (LogId NID)) → last s.ids ≡ o → fits cmp s.ids s.purged o ≡ true
    go None e = refl
    go (Some x) e = let f : is_found cmp (at s.ids x.index) x ≡ true = is_found_at cmp total same s.ids x (at s.ids x.index) (last_at (first_index s.purged) s.ids x h.log.run e).0 in rw f refl

module _ {C NID N E D R S : Type 0} (cmp : NID → NID → Ordering) where
  -- the ids of a sound state, and of a sound engine, are in order
  pub core_order : (c : Core C NID N E D R S) → IsSoundState cmp c.state → Orderly cmp c.state
  core_order c h = in_order cmp c.state.vote.leader_id c.state.ids c.state.purged h.log

  pub sound_order : (config : EngineConfig NID) (m : Machine C NID N E D R S) → IsSound cmp config m → Orderly cmp m.core.state
  sound_order config m h = core_order m.core h.sound

module _ {C NID N E D R S : Type 0} (cmp : NID → NID → Ordering) (total : IsTotalOrder cmp) (same : (a b : NID) → cmp a b ≡ Equal → a ≡ b) (entry : RaftEntry.Ghosts E NID N) (named : TakesIds entry) (entries_in : S → List E) (config : EngineConfig NID) where
  -- the first entry of a node whose call isn't refused: there is no log, and with it the ids are in order
  first_taken : (first : NID) (e : E) (m : Machine C NID N E D R S) → refusals_of_initialize cmp entry config first e m ≡ None
      → (m.core.state.ids ≡ []) × Orderly cmp (do_append_entries cmp entry config (entry.with_id e (default_log_id first) ∷ []) m.core).state
  first_taken first e m asks =
      let s : RaftState NID N = m.core.state in
      let x : LogId NID = default_log_id first in
      let y : LogId NID = entry.id_of (entry.with_id e x) in
      let fresh : (not (length s.ids == 0) || is_ne (vote_cmp cmp s.vote (record { leader_id = x.leader_id; committed = false }))) ≡ false = second_fails _ _ _ _ _ (neither _ _ asks).0 in
      let tests = or_fails (not (length s.ids == 0)) (is_ne (vote_cmp cmp s.vote (record { leader_id = x.leader_id; committed = false }))) fresh in
      let none_held : s.ids ≡ [] = no_ids s.ids tests.0 in
      let one : InOrder cmp s.vote.leader_id (y ∷ []) = record {
        by_vote = (
          rw (named e x).0 (eq_is_le _ (eq_swap (leader_total cmp total) s.vote.leader_id x.leader_id
              (vote_eq_leader cmp s.vote (record { leader_id = x.leader_id; committed = false }) (not_ne _ tests.1)))),
          tt,
        );
        rising = (refl, tt);
        below_end = (rw (named e x).0 (lit< tt), tt);
      } in
      (none_held, taken_order cmp entry config (entry.with_id e x ∷ []) m.core (subst (λ ids. InOrder cmp s.vote.leader_id (ids ++ y ∷ [])) (sym none_held) one)) where
        no_ids : (ids : List (LogId NID)) → not (length ids == 0) ≡ false → ids ≡ []
        no_ids [] e = refl
        no_ids (y ∷ ys) e = let z : (suc (length ys) == 0) ≡ false = grind (arith, nat_tests) in let q : true ≡ false = sym (ap not z) ∙ e in cc

        not_ne : (r : Ordering) → is_ne r ≡ false → is_eq r ≡ true
        not_ne Less e = cc
        not_ne Equal e = refl
        not_ne Greater e = cc

  pub pending_initialize : (t : Store NID N E) (first : NID) (e : E) (now : ℕ) (m : Machine C NID N E D R S) → PendingIn cmp entry entries_in t m → m.leader ≡ None → refusals_of_initialize cmp entry config first e m ≡ None
      → PendingIn cmp entry entries_in t (initialize cmp entry config first e now m)
  unfolding initialize
  pending_initialize t first e now m p l asks =
      let f = first_taken first e m asks in
      let z : next (last m.core.state.ids) ≡ 0 = ap (λ ids. next (last ids)) f.0 in
      let begun : Machine C NID N E D R S = on_core (do_append_entries cmp entry config (entry.with_id e (default_log_id first) ∷ [])) m in
      pending_elect cmp entry (takes_id entry named) entries_in config t now begun
      (record {
        core = pending_append cmp entry entries_in config t (entry.with_id e (default_log_id first) ∷ []) m.core p.core (ap (λ x. x.index) (takes_id entry named e (default_log_id first)) ∙ sym z, tt) f.1;
        knows = subst (λ o. IfSome o (KnowsLog begun.core.state.ids)) (sym l) tt;
      })

  -- a vote request that isn't refused
  pub pending_vote_req_passed : (t : Store NID N E) (req : VoteRequest NID) (now : ℕ) (m : Machine C NID N E D R S) → PendingIn cmp entry entries_in t m → IsSound cmp config m → refusals_of_vote_req cmp config req now m ≡ None
      → PendingIn cmp entry entries_in t (handle_vote_req cmp entry config req now m)
  unfolding handle_vote_req
  pending_vote_req_passed t req now m p h asks =
      cond_both (refuses_vote_req cmp config m.core.state req now) m (update_vote cmp entry config req.vote now m) (PendingIn cmp entry entries_in t) (λ _. p)
      (λ e. pending_update_vote cmp entry (takes_id entry named) entries_in config t req.vote now m p
      (sound_order cmp config (update_vote cmp entry config req.vote now m) (taken_vote_req_is_sound cmp total same entry named config req now m e asks h)))

  -- a leader whose membership is committed
  pub pending_step_down : (t : Store NID N E) (m : Machine C NID N E D R S) → PendingIn cmp entry entries_in t m → IsSound cmp config m → refusals_of_step_down cmp config m ≡ None → PendingIn cmp entry entries_in t (leader_step_down cmp entry config m)
  unfolding leader_step_down
  pending_step_down t m p h asks =
      cond_both (is_settled cmp m.core.state) (update_internal_server_state cmp entry config m) m (λ z. IsSound cmp config z → PendingIn cmp entry entries_in t z)
      (λ _ k. pending_internal cmp entry (takes_id entry named) entries_in config t m p (sound_order cmp config (update_internal_server_state cmp entry config m) k)) (λ _ _. p)
      (step_down_is_sound cmp total same entry named config m asks h)

  -- a leader that starts, or another node
  pub pending_startup : (t : Store NID N E) (m : Machine C NID N E D R S) → PendingIn cmp entry entries_in t m → IsSound cmp config m → blank_is_at_end cmp config m.core.state.vote m ≡ false
      → PendingIn cmp entry entries_in t (startup cmp entry config m)
  unfolding startup
  pending_startup t m p h full =
      let w : Machine C NID N E D R S = update_internal_server_state cmp entry config m in
      let k : IsSound cmp config w = internal_is_sound cmp total same entry named config m full h in
      let q : PendingIn cmp entry entries_in t w = pending_internal cmp entry (takes_id entry named) entries_in config t m p (sound_order cmp config w k) in
      cond_both (is_leader cmp m.core.state config.id) (on_leader (lead_on cmp config) w) (on_core (λ c. with_state c (record c.state { role = started_role cmp config c.state })) m) (PendingIn cmp entry entries_in t)
      (λ _. go w q.core k w.leader refl)
      (λ _. record {
        core = awaits_state cmp entry entries_in t m.core.output.items m.core.state (record m.core.state { role = started_role cmp config m.core.state }) p.core
            (step_alike entry (after cmp entry entries_in t m.core) m.core.state (record m.core.state { role = started_role cmp config m.core.state }) (record { ids = refl; purged = refl; purge_to = refl; snap = refl; committed = refl; em = refl; cm = refl }) refl p.core.in_step);
        knows = p.knows;
      })
    where
      go : (w : Machine C NID N E D R S) → Pending cmp entry entries_in t w.core → IsSound cmp config w → (o : Option (JointLeader C NID N E D R S)) → w.leader ≡ o
          → PendingIn cmp entry entries_in t (elim o [ None ↦ w | Some l ↦ leading w (lead_on cmp config (record { leader = l; core = w.core })) ])
      go w q k None e = record { core = q; knows = subst (λ o. IfSome o (KnowsLog w.core.state.ids)) (sym e) tt }
      go w q k (Some l) e =
          let led : Led C NID N E D R S = record { leader = l; core = w.core } in
          let z : PendingLed cmp entry entries_in t (lead_on cmp config led) =
          pending_initiate cmp entry entries_in config t false (update_local_progress cmp config (last w.core.state.ids) led)
          (pending_own cmp total same entry entries_in config t (last w.core.state.ids) led q (record { sound = k.sound; leader_fits = subst (λ o. IfSome o (LeaderFits cmp config.id w.core.state.ids w.core.state.purged w.core.state.em.membership)) e k.lead.leader_fits }) (last_fits cmp total same w.core.state k.sound)) in
          record { core = z.core; knows = z.knows }
