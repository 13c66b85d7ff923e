-- What a snapshot's refusals leave, and what holds of a state after its install.
use Rattle.std.specs.Prelude.{◌≡◌, ℕ, ◌+◌, ◌^◌, ◌<◌, ◌≤◌, nat_le, nat_lt, Bool, true, false, ◌&&◌, ◌||◌, not, List, [], ◌∷◌, Option, None, Some, IfSome, refl, is_some, if◌then◌else◌}
use Rattle.std.proofs.Common.{sym, ◌∙◌, ap, arith, cond, subst}
use Rattle.std.proofs.lemmas.Bool.Decides.{nat_tests}
use Rattle.std.specs.Cmp.{IsTotalOrder}
use Rattle.std.specs.List.{AllByRecursion, list_any}
use Rattle.std.specs.Option.{option_to_list}
use Rattle.std.specs.declared.cmp.Ordering.{Ordering}
use Rattle.std.specs.declared.cmp.Ordering.TheVariants.{Less, Equal, Greater}
use Rattle.std.specs.Ordering.{is_eq, is_gt, is_lt, ordering_reverse}
use Rattle.raft_state.specs.declared.config.RaftEntry
use Rattle.raft_state.specs.declared.ids.LogId.{LogId}
use Rattle.raft_state.specs.declared.ids.Vote.{Vote}
use Rattle.raft_state.specs.declared.membership.SnapshotMeta.{SnapshotMeta}
use Rattle.raft_state.specs.declared.membership.StoredMembership.{StoredMembership}
use Rattle.raft_state.specs.declared.state.RaftState.{RaftState}
use Rattle.raft_state.specs.declared.state.ServerState.{ServerState}
use Rattle.raft_state.specs.Fits.{fits, is_below, is_within}
use Rattle.raft_state.specs.Invariants.{IsUnder, IsBelowEnd, IsSoundState, StateFits, first_index}
use Rattle.raft_state.specs.Log.{at, below, last}
use Rattle.raft_state.specs.Order.{last_id_cmp, log_id_cmp, next}
use Rattle.raft_state.specs.Same.{found_is}
use Rattle.raft_state.specs.State.{accepted, is_found, purge}
use Rattle.raft_state.proofs.Keeping.{purge_keeps}
use Rattle.raft_state.proofs.Orders.{and_both, le_lt, le_of_not_gt, le_refl, leader_total, last_total, lt_of_gt, or_left, or_right, within_le, within_next, within_refl}
use Rattle.raft_state.proofs.Purges.{replaced}
use Rattle.raft_state.proofs.StateLaws.{is_found_at, noted, purged_within, settled}
use Rattle.raft_command.specs.Push.{ordered}
use Rattle.raft_command.specs.declared.config.EngineConfig.{EngineConfig}
use Rattle.raft_command.specs.declared.message.Snapshot.{Snapshot}
use Rattle.raft_command.specs.declared.message.Token.{Token}
use Rattle.raft_command.specs.declared.sm.CommandPayload.TheVariants.{InstallFullSnapshot}
use Rattle.raft_proposer.specs.Joint.{u64_max}
use Rattle.raft_steps.specs.Conditions.{IsFollowing}
use Rattle.raft_steps.specs.FollowingHandler.{truncate_logs}
use Rattle.raft_steps.specs.InstallRefusals.{is_unfit, undoes_committed, falls_short, refusals_of_fit, refusals_of_install_core, refusals_of_install}
use Rattle.raft_steps.specs.Installs.{handle_install_full_snapshot, has_other_at, held_upto, install_and_reply, install_full_snapshot, install_upto, installs, replaces_log, reply_install, truncate_contradicted, with_memberships_of}
use Rattle.raft_steps.specs.Invariants.{IsSound}
use Rattle.raft_steps.specs.LogHandler.{purge_log, update_purge_upto}
use Rattle.raft_steps.specs.Parts.{Core, Machine, on_core, with_state}
use Rattle.raft_steps.specs.Refusals.{is_at_end}
use Rattle.raft_steps.specs.RequestRefusals.{is_above_vote, is_above_committed}
use Rattle.raft_steps.specs.ServerStateHandler.{update_role}
use Rattle.raft_steps.specs.VoteHandler.{rejects_vote, update_vote}
use Rattle.raft_steps.proofs.Kept.{either, either_option, vote_sound}
use Rattle.raft_steps.proofs.KeptAppend.{below_all, truncate_case}
use Rattle.raft_steps.proofs.KeptEngine.{else_of, following_core, idle_is_sound}
use Rattle.raft_steps.proofs.KeptFollow.{heard_case, not_own}
use Rattle.raft_steps.proofs.KeptPurge.{snapshot_sound, target_sound}
use Rattle.raft_steps.proofs.Marks.{noted_marks, truncate_marks}
use Rattle.raft_steps.proofs.Room.{last_each}
use Rattle.raft_steps.proofs.Unrefused.{neither, or_fails, test_fails}

one_fails : (b : Bool) → (b || false) ≡ false → b ≡ false
one_fails true e = cc
one_fails false e = refl

below_last : (n : ℕ) → nat_le u64_max n ≡ false → n + 1 < 2 ^ 64
below_last n e = grind (arith, nat_tests, e)

not_both : (a b : Bool) → (a && b) ≡ false → b ≡ true → a ≡ false
not_both true true e f = cc
not_both true false e f = cc
not_both false b e f = refl

at_least : (a b : ℕ) → nat_lt a b ≡ false → b ≤ a
at_least a b e = grind (arith, nat_tests, e)

module _ {NID N : Type 0} (cmp : NID → NID → Ordering) where
  -- a snapshot up to x that is installed under a vote
  pub record MayInstall (s : RaftState NID N) (v : Vote NID) (x : LogId NID) : Type 0 where
    pub below_end : IsBelowEnd x
    pub under : IsUnder cmp v.leader_id x
    pub above : is_gt (last_id_cmp cmp (Some x) s.committed) ≡ true
    pub past : next s.committed ≤ x.index
    pub reaches : falls_short cmp s v x ≡ false

  module _ (s : RaftState NID N) (v : Vote NID) (meta : SnapshotMeta NID N) (x : LogId NID) where
    of_tests : is_at_end x ≡ false → is_unfit cmp s v meta x ≡ false → is_gt (last_id_cmp cmp (Some x) s.committed) ≡ true → MayInstall s v x
    of_tests end unfit above =
        let a = or_fails (is_above_committed cmp s x) _ unfit in
        let b = or_fails (is_above_vote cmp v x) _ a.1 in
        let c = or_fails (undoes_committed cmp s meta x) (falls_short cmp s v x) b.1 in
        record {
          below_end = below_last x.index end;
          under = le_of_not_gt _ b.0;
          above = above;
          past = at_least _ _ (not_both (nat_lt x.index (next s.committed)) _ a.0 above);
          reaches = c.1;
        }

    -- so it is where it is not refused, and above what is committed
    pub fit_install : meta.last_log_id ≡ Some x → refusals_of_fit cmp s v meta ≡ None → is_gt (last_id_cmp cmp (Some x) s.committed) ≡ true → MayInstall s v x
    fit_install e asks above =
        let first = test_fails (list_any is_at_end (option_to_list meta.last_log_id)) _ _ asks in
        let second = test_fails _ _ _ first.1 in
        let third = test_fails (list_any (is_unfit cmp s v meta) (option_to_list meta.last_log_id)) _ _ second.1 in
        of_tests
        (one_fails (is_at_end x) (subst (λ o. list_any is_at_end (option_to_list o) ≡ false) e first.0))
        (one_fails (is_unfit cmp s v meta x) (subst (λ o. list_any (is_unfit cmp s v meta) (option_to_list o) ≡ false) e third.0))
        above

    -- so it is where it is installed
    pub may_install : meta.last_log_id ≡ Some x → refusals_of_fit cmp s v meta ≡ None → installs cmp s meta ≡ true → MayInstall s v x
    may_install e asks i = fit_install e asks (subst (λ o. is_gt (last_id_cmp cmp o s.committed) ≡ true) e (and_both _ _ i).0)

gt_of : (r : Ordering) → is_lt r ≡ true → is_gt (ordering_reverse r) ≡ true
gt_of Less e = refl
gt_of Equal e = cc
gt_of Greater e = cc

pub then_of : {X : Type 0} (P : X → Type 0) (b : Bool) (x y : X) → b ≡ true → P x → P (if b then x else y)
then_of P true x y e p = p
then_of P false x y e p = let z : false ≡ true = e in cc

module _ {NID : Type 0} where
  -- the last id of what is below an index is below it
  each_below : (k : ℕ) (ids : List (LogId NID)) → AllByRecursion (λ y. y.index + 1 ≤ k) (below k ids)
  each_below k [] = tt
  each_below k (y ∷ ys) = go (nat_lt y.index k) refl (each_below k ys) where
    one : (a b : ℕ) → nat_lt a b ≡ true → a + 1 ≤ b
    one a b e = grind (arith, nat_tests)

    go : (b : Bool) → nat_lt y.index k ≡ b → AllByRecursion (λ z. z.index + 1 ≤ k) (below k ys) → AllByRecursion (λ z. z.index + 1 ≤ k) (cond b (y ∷ below k ys) (below k ys))
    go true e rest = (one y.index k e, rest)
    go false e rest = rest

  end_below : (k : ℕ) (ids : List (LogId NID)) → next (last (below k ids)) ≤ k
  end_below k ids = go (last (below k ids)) (last_each (λ y. y.index + 1 ≤ k) (below k ids) (each_below k ids)) where
    go : (o : Option (LogId NID)) → IfSome o (λ y. y.index + 1 ≤ k) → next o ≤ k
    go None e = omega arith
    go (Some y) e = e

not_below : (a b k : ℕ) → b ≤ k → k ≤ a → nat_lt a b ≡ false
not_below a b k h l = grind (arith, nat_tests)

first_low : {NID : Type 0} (o : Option (LogId NID)) → first_index o ≤ next o
first_low None = omega arith
first_low (Some y) = omega arith

module _ {NID : Type 0} (cmp : NID → NID → Ordering) (total : IsTotalOrder cmp) (x : LogId NID) where
  gt_swap : (o : Option (LogId NID)) → is_lt (last_id_cmp cmp o (Some x)) ≡ true → is_gt (last_id_cmp cmp (Some x) o) ≡ true
  gt_swap o l = ap is_gt ((last_total cmp total).antisymm (Some x) o) ∙ gt_of (last_id_cmp cmp o (Some x)) l

module _ {NID N : Type 0} (cmp : NID → NID → Ordering) (total : IsTotalOrder cmp) (same : (a b : NID) → cmp a b ≡ Equal → a ≡ b) (x : LogId NID) where
  module _ (s : RaftState NID N) (h : IsSoundState cmp s) (k : MayInstall cmp s s.vote x) where
    -- a snapshot that is installed is past what was purged
    past_purged : is_gt (last_id_cmp cmp (Some x) s.purged) ≡ true
    past_purged =
        gt_swap cmp total x s.purged
        (le_lt (last_total cmp total) s.purged s.committed (Some x)
        (within_le cmp total s.purged s.committed (purged_within cmp total same _ _ _ _ _ _ _ h)) (lt_of_gt (last_total cmp total) (Some x) s.committed k.above))

    -- and past what was accepted, where the log doesn't hold its last id
    past_accepted : is_found cmp (at s.ids x.index) x ≡ false → is_gt (last_id_cmp cmp (Some x) (accepted cmp s)) ≡ true
    past_accepted missing = go (accepted cmp s) (not_held (is_some (accepted cmp s)) _ _ (either_fails _ _ (not_below x.index (next s.committed) (next s.committed) (omega arith) k.past) missing) k.reaches) where
      either_fails : (a b : Bool) → a ≡ false → b ≡ false → (a || b) ≡ false
      either_fails false b e f = f
      either_fails true b e f = cc

      not_held : (a b c : Bool) → b ≡ false → (a && (not b && not c)) ≡ false → (a && not c) ≡ false
      not_held a false c e f = f
      not_held a true c e f = cc

      not_false : (b : Bool) → not b ≡ false → b ≡ true
      not_false true e = refl
      not_false false e = cc

      go : (o : Option (LogId NID)) → (is_some o && not (is_below cmp o (Some x))) ≡ false → is_gt (last_id_cmp cmp (Some x) o) ≡ true
      go None e = refl
      go (Some a) e = gt_swap cmp total x (Some a) (and_both (is_lt (last_id_cmp cmp (Some a) (Some x))) _ (not_false (is_below cmp (Some a) (Some x)) e)).0

    -- the log that is left ends below it, where it has no id at its index
    ends_below : at s.ids x.index ≡ None → nat_lt x.index (next (last s.ids)) ≡ false
    ends_below none = not_below x.index (next (last s.ids)) x.index (subst (λ ids. next (last ids) ≤ x.index) (below_all (first_index s.purged) x.index s.ids h.log.run low none) (end_below x.index s.ids)) (omega arith) where
      low : first_index s.purged ≤ x.index
      low =
          let p = first_low s.purged in
          let c = within_next cmp total s.purged s.committed (purged_within cmp total same _ _ _ _ _ _ _ h) in
          omega (arith, p, c, k.past)

    -- where the log holds its last id, this is committed, and the snapshot's, and the purge target
    held_sound : (meta : SnapshotMeta NID N) → meta.last_log_id ≡ Some x → is_gt (last_id_cmp cmp meta.last_log_id s.snap.last_log_id) ≡ true → at s.ids x.index ≡ Some x
        → IsSoundState cmp (record s { snap = meta; committed = Some x; purge_to = Some x })
    held_sound meta is newer e =
        let f : fits cmp s.ids s.purged (Some x) ≡ true = or_left _ (is_below cmp (Some x) s.purged) (is_found_at cmp total same s.ids x _ e) in
        let itself : is_within cmp (Some x) (Some x) ≡ true = within_refl cmp total (Some x) in
        let committed : IsSoundState cmp (record s { committed = Some x }) = settled cmp total same _ _ _ _ _ _ _ h x e k.above in
        let recorded : IsSoundState cmp (record s { committed = Some x; snap = meta }) =
        snapshot_sound cmp total same (record s { committed = Some x }) committed meta (subst (λ o. fits cmp s.ids s.purged o ≡ true) (sym is) f)
        (subst (λ o. is_within cmp o (Some x) ≡ true) (sym is) itself) newer in
        target_sound cmp total same (record s { committed = Some x; snap = meta }) recorded (Some x) f (subst (λ o. is_within cmp s.purge_to o ≡ true) is recorded.marks.at_target)
        (subst (λ o. is_within cmp (Some x) o ≡ true) (sym is) itself)

  -- a log that is the snapshot's last id alone
  gone_sound : (s : RaftState NID N) → IsUnder cmp s.vote.leader_id x → IsBelowEnd x → s.snap.last_log_id ≡ Some x → nat_lt x.index (next (last s.ids)) ≡ false
      → IsSoundState cmp (purge cmp (record s { accepted_by = Some (s.vote.leader_id, x); committed = Some x; purge_to = Some x }) x)
  gone_sound s under end is past =
      else_of (IsSoundState cmp) (nat_lt x.index (next (last s.ids))) _ _ past
      (subst (λ o. StateFits cmp s.vote.leader_id (x ∷ []) (Some x) (Some x) o (Some x) (Some (s.vote.leader_id, x))) (sym is)
      (replaced cmp total same s.vote.leader_id x (Some (s.vote.leader_id, x)) under end
      (record { by_vote = le_refl (leader_total cmp total) s.vote.leader_id; held = λ e. or_right (fits cmp (x ∷ []) (Some x) (Some x)) _ (within_refl cmp total (Some x)) })))

module _ {C NID N E D R S : Type 0} (cmp : NID → NID → Ordering) (config : EngineConfig NID) (x : LogId NID) (snapshot : Snapshot C NID N E D R S) where
  -- what follows the cut of the log
  abbrev finish : Bool → Core C NID N E D R S → Core C NID N E D R S
  finish gone d =
      let settled = update_role cmp config (with_state d (with_memberships_of snapshot.meta.last_membership x gone (held_upto cmp x d.state))) in
      purge_log cmp (update_purge_upto (Some x) (record settled { output = ordered settled.output (InstallFullSnapshot snapshot) }))

  members_case : (P : RaftState NID N → Type 0) (gone : Bool) (s : RaftState NID N) → ((cm em : StoredMembership NID N) → P (record s { cm = cm; em = em }))
      → P (with_memberships_of snapshot.meta.last_membership x gone s)
  members_case P true s p = p _ _
  members_case P false s p = p _ _

  -- the last id is accepted where it is above what was, and committed, and the log is purged up to it
  finish_case : (P : RaftState NID N → Type 0) (gone : Bool) (d : Core C NID N E D R S) → is_gt (last_id_cmp cmp (Some x) d.state.purged) ≡ true
      → (is_gt (last_id_cmp cmp (Some x) (accepted cmp d.state)) ≡ true → (cm em : StoredMembership NID N) (role : ServerState)
      → P (purge cmp (record d.state { accepted_by = Some (d.state.vote.leader_id, x); committed = Some x; cm = cm; em = em; role = role; purge_to = Some x }) x))
      → (is_gt (last_id_cmp cmp (Some x) (accepted cmp d.state)) ≡ false → (cm em : StoredMembership NID N) (role : ServerState)
      → P (purge cmp (record d.state { committed = Some x; cm = cm; em = em; role = role; purge_to = Some x }) x))
      → P (finish gone d).state
  unfolding purge_log update_role
  finish_case P gone d above new old = by (is_gt (last_id_cmp cmp (Some x) (accepted cmp d.state))) refl where
    after : RaftState NID N → Core C NID N E D R S
    after t =
        let settled = update_role cmp config (with_state d t) in
        purge_log cmp (update_purge_upto (Some x) (record settled { output = ordered settled.output (InstallFullSnapshot snapshot) }))

    tail : (t : RaftState NID N) → is_gt (last_id_cmp cmp (Some x) t.purged) ≡ true → ((role : ServerState) → P (purge cmp (record t { role = role; purge_to = Some x }) x)) → P (after t).state
    tail t gt p = then_of (λ (c : Core C NID N E D R S). P c.state) (is_gt (last_id_cmp cmp (Some x) t.purged)) _ _ gt (p _)

    by : (b : Bool) → is_gt (last_id_cmp cmp (Some x) (accepted cmp d.state)) ≡ b
        → P (after (with_memberships_of snapshot.meta.last_membership x gone (record (if b then record d.state { accepted_by = Some (d.state.vote.leader_id, x) } else d.state) { committed = Some x }))).state
    by true e = let s : RaftState NID N = record d.state { accepted_by = Some (d.state.vote.leader_id, x); committed = Some x } in members_case (λ t. P (after t).state) gone s (λ cm em. tail (record s { cm = cm; em = em }) above (new e cm em))
    by false e = let s : RaftState NID N = record d.state { committed = Some x } in members_case (λ t. P (after t).state) gone s (λ cm em. tail (record s { cm = cm; em = em }) above (old e cm em))

  finish_vote : (gone : Bool) (d : Core C NID N E D R S) → (finish gone d).state.vote ≡ d.state.vote
  unfolding purge_log update_role
  finish_vote gone d =
      let t : RaftState NID N = with_memberships_of snapshot.meta.last_membership x gone (held_upto cmp x d.state) in
      let v : t.vote ≡ d.state.vote = members_case (λ (u : RaftState NID N). u.vote ≡ d.state.vote) gone (held_upto cmp x d.state) (λ cm em. (noted_marks cmp (Some x) d.state).vote) in
      either (λ (n : Core C NID N E D R S). n.state.vote ≡ d.state.vote) (is_gt (last_id_cmp cmp (Some x) t.purged)) _ _
      (either (λ (n : RaftState NID N). n.vote ≡ d.state.vote) (nat_lt x.index (next (last t.ids))) _ _ v v) v

module _ {C NID N E D R S : Type 0} (cmp : NID → NID → Ordering) (total : IsTotalOrder cmp) (same : (a b : NID) → cmp a b ≡ Equal → a ≡ b) (config : EngineConfig NID) (x : LogId NID) (snapshot : Snapshot C NID N E D R S) where
  gone_kept : (gone : Bool) (d : Core C NID N E D R S) → IsUnder cmp d.state.vote.leader_id x → IsBelowEnd x → d.state.snap.last_log_id ≡ Some x → is_gt (last_id_cmp cmp (Some x) d.state.purged) ≡ true
      → is_gt (last_id_cmp cmp (Some x) (accepted cmp d.state)) ≡ true → nat_lt x.index (next (last d.state.ids)) ≡ false → IsSoundState cmp (finish cmp config x snapshot gone d).state
  gone_kept gone d under end is above fresh past =
      finish_case cmp config x snapshot (IsSoundState cmp) gone d above
      (λ e cm em role. gone_sound cmp total same x (record d.state { cm = cm; em = em; role = role }) under end is past)
      (λ e. let no : true ≡ false = sym fresh ∙ e in cc)

  module _ (c : Core C NID N E D R S) (h : IsSoundState cmp c.state) (k : MayInstall cmp c.state c.state.vote x) (is : snapshot.meta.last_log_id ≡ Some x)
      (newer : is_gt (last_id_cmp cmp snapshot.meta.last_log_id c.state.snap.last_log_id) ≡ true) where
    -- where the log holds the last id, it is purged up to there
    held_kept : (gone : Bool) → at c.state.ids x.index ≡ Some x → IsSoundState cmp (finish cmp config x snapshot gone (with_state c (record c.state { snap = snapshot.meta }))).state
    held_kept gone e =
        let t = held_sound cmp total same x c.state h k snapshot.meta is newer e in
        let itself : is_within cmp (Some x) (Some x) ≡ true = within_refl cmp total (Some x) in
        let f : fits cmp c.state.ids c.state.purged (Some x) ≡ true = or_left _ (is_below cmp (Some x) c.state.purged) (is_found_at cmp total same c.state.ids x _ e) in
        finish_case cmp config x snapshot (IsSoundState cmp) gone (with_state c (record c.state { snap = snapshot.meta })) (past_purged cmp total same x c.state h k)
        (λ q cm em role. purge_keeps cmp total same (record c.state { snap = snapshot.meta; accepted_by = Some (c.state.vote.leader_id, x); committed = Some x; cm = cm; em = em; role = role; purge_to = Some x }) x
        (noted cmp total same _ _ _ _ _ _ _ t x f) e t.marks.at_purged itself)
        (λ q cm em role. purge_keeps cmp total same (record c.state { snap = snapshot.meta; committed = Some x; cm = cm; em = em; role = role; purge_to = Some x }) x t e t.marks.at_purged itself)

    install_sound : (gone : Bool) → IsSoundState cmp (finish cmp config x snapshot gone (truncate_contradicted cmp config x (with_state c (record c.state { snap = snapshot.meta })))).state
    install_sound gone = go (at c.state.ids x.index) refl where
      none_found : at c.state.ids x.index ≡ None → is_found cmp (at c.state.ids x.index) x ≡ false
      none_found e = rw e refl

      other_found : (y : LogId NID) → at c.state.ids x.index ≡ Some y → is_eq (log_id_cmp cmp y x) ≡ false → is_found cmp (at c.state.ids x.index) x ≡ false
      other_found y e q = rw e q

      go : (o : Option (LogId NID)) → at c.state.ids x.index ≡ o
          → IsSoundState cmp (finish cmp config x snapshot gone (if elim o [ None ↦ false | Some y ↦ not (is_eq (log_id_cmp cmp y x)) ]
          then truncate_logs cmp config x.index (with_state c (record c.state { snap = snapshot.meta })) else with_state c (record c.state { snap = snapshot.meta }))).state
      go None e =
          gone_kept gone (with_state c (record c.state { snap = snapshot.meta })) k.under k.below_end is (past_purged cmp total same x c.state h k) (past_accepted cmp total same x c.state h k (none_found e))
          (ends_below cmp total same x c.state h k e)
      go (Some y) e = by (is_eq (log_id_cmp cmp y x)) refl where
        by : (b : Bool) → is_eq (log_id_cmp cmp y x) ≡ b
            → IsSoundState cmp (finish cmp config x snapshot gone (if not b then truncate_logs cmp config x.index (with_state c (record c.state { snap = snapshot.meta })) else with_state c (record c.state { snap = snapshot.meta }))).state
        by true q = held_kept gone (e ∙ found_is cmp same (Some y) x q)
        by false q =
            let accepted = past_accepted cmp total same x c.state h k (other_found y e q) in
            truncate_case cmp config (λ (n : Core C NID N E D R S). IsSoundState cmp (finish cmp config x snapshot gone n).state) x.index (with_state c (record c.state { snap = snapshot.meta }))
            (λ none. gone_kept gone (with_state c (record c.state { snap = snapshot.meta })) k.under k.below_end is (past_purged cmp total same x c.state h k) accepted (ends_below cmp total same x c.state h k none))
            (λ first found em role o. gone_kept gone
            (record { state = record c.state { snap = snapshot.meta; ids = below x.index c.state.ids; em = em; role = role }; output = o }) k.under k.below_end is (past_purged cmp total same x c.state h k) accepted
            (not_below x.index (next (last (below x.index c.state.ids))) x.index (end_below x.index c.state.ids) (omega arith)))

module _ {C NID N E D R S : Type 0} (cmp : NID → NID → Ordering) (total : IsTotalOrder cmp) (same : (a b : NID) → cmp a b ≡ Equal → a ≡ b) (config : EngineConfig NID) where
  -- a snapshot that isn't refused
  pub install_kept : (snapshot : Snapshot C NID N E D R S) (c : Core C NID N E D R S) → refusals_of_fit cmp c.state c.state.vote snapshot.meta ≡ None
      → IsSoundState cmp c.state → IsSoundState cmp (install_full_snapshot cmp config snapshot c).state
  unfolding install_full_snapshot install_upto
  install_kept snapshot c asks h = go snapshot.meta.last_log_id refl where
    go : (o : Option (LogId NID)) → snapshot.meta.last_log_id ≡ o
        → IsSoundState cmp (elim o as (λ _. Core C NID N E D R S) [
          | None ↦ c
          | Some x ↦ (if installs cmp c.state snapshot.meta then install_upto cmp config x snapshot c else c)
        ]).state
    go None e = h
    go (Some x) e = by (installs cmp c.state snapshot.meta) refl where
      by : (b : Bool) → installs cmp c.state snapshot.meta ≡ b → IsSoundState cmp (if b then install_upto cmp config x snapshot c else c).state
      by true i =
          install_sound cmp total same config x snapshot c h (may_install cmp c.state c.state.vote snapshot.meta x e asks i) e
          (and_both (is_gt (last_id_cmp cmp snapshot.meta.last_log_id c.state.committed)) _ i).1 (replaces_log cmp c.state x)
      by false i = h

  -- and the vote stays
  install_vote : (snapshot : Snapshot C NID N E D R S) (c : Core C NID N E D R S) → (install_full_snapshot cmp config snapshot c).state.vote ≡ c.state.vote
  unfolding install_full_snapshot install_upto
  install_vote snapshot c =
      either_option (λ (n : Core C NID N E D R S). n.state.vote ≡ c.state.vote) snapshot.meta.last_log_id _ _ refl
      (λ x. either (λ (n : Core C NID N E D R S). n.state.vote ≡ c.state.vote) (installs cmp c.state snapshot.meta) _ _
      (finish_vote cmp config x snapshot (replaces_log cmp c.state x) (truncate_contradicted cmp config x (with_state c (record c.state { snap = snapshot.meta }))) ∙ cut_vote x) refl) where
        cut_vote : (x : LogId NID) → (truncate_contradicted cmp config x (with_state c (record c.state { snap = snapshot.meta }))).state.vote ≡ c.state.vote
        cut_vote x =
            either (λ (n : Core C NID N E D R S). n.state.vote ≡ c.state.vote) (has_other_at cmp c.state x) _ _
            (truncate_marks cmp config x.index (with_state c (record c.state { snap = snapshot.meta }))).vote refl

  -- in an engine that follows
  pub install_is_sound : (snapshot : Snapshot C NID N E D R S) (m : Machine C NID N E D R S) → IsFollowing cmp m → refusals_of_install_core cmp snapshot.meta m.core ≡ None
      → IsSound cmp config m → IsSound cmp config (on_core (install_full_snapshot cmp config snapshot) m)
  install_is_sound snapshot m f asks h =
      following_core cmp total same config m (install_full_snapshot cmp config snapshot m.core) f.no_leader f.no_candidate (install_vote snapshot m.core) h
      (install_kept snapshot m.core (neither _ _ asks).1 h.sound)

module _ {C NID N E D R S : Type 0} (cmp : NID → NID → Ordering) (total : IsTotalOrder cmp) (same : (a b : NID) → cmp a b ≡ Equal → a ≡ b) (entry : RaftEntry.Ghosts E NID N) (config : EngineConfig NID) where
  -- a leader's snapshot
  pub handle_install_is_sound : (v : Vote NID) (snapshot : Snapshot C NID N E D R S) (token : Token) (now : ℕ) (m : Machine C NID N E D R S) → refusals_of_install cmp config v snapshot.meta m ≡ None
      → IsSound cmp config m → IsSound cmp config (handle_install_full_snapshot cmp entry config v snapshot token now m)
  unfolding handle_install_full_snapshot
  handle_install_is_sound v snapshot token now m asks h = go (rejects_vote cmp m.core.state v) refl (neither _ _ asks).1 where
    go : (b : Bool) → rejects_vote cmp m.core.state v ≡ b → (if b then None else refusals_of_fit cmp m.core.state v snapshot.meta) ≡ None
        → IsSound cmp config (if b then on_core (reply_install None token) m else on_core (install_and_reply cmp entry config snapshot token) (update_vote cmp entry config v now m))
    go true e f = record { sound = h.sound; lead = h.lead }
    go false e f =
        heard_case cmp total same entry config (λ n. IsSound cmp config (on_core (install_and_reply cmp entry config snapshot token) n)) v now m e (not_own cmp total same entry config v (refusals_of_fit cmp m.core.state v snapshot.meta) m asks)
        (λ role q. idle_is_sound cmp total same config (install_and_reply cmp entry config snapshot token (record { state = record m.core.state { vote = v; time = Some now; role = role }; output = q }))
        (install_kept cmp total same config snapshot (record { state = record m.core.state { vote = v; time = Some now; role = role }; output = q }) f (vote_sound cmp total same v m.core.state e h.sound)))
