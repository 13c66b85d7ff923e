-- An engine is sound after purges, and after its snapshots are recorded.
use Rattle.std.specs.Prelude.{◌≡◌, ℕ, ◌+◌, ◌-◌, ◌==◌, ◌≤◌, min, nat_lt, Bool, true, false, ◌||◌, List, [], ◌∷◌, Option, None, Some, Result, IfSome, refl, length, if◌then◌else◌}
use Rattle.std.proofs.Common.{rules, ap, sym, ◌∙◌, cond, subst, arith, ⊎_elim}
use Rattle.std.proofs.lemmas.Bool.Decides.{nat_tests}
use Rattle.std.specs.declared.cmp.Ordering.{Ordering}
use Rattle.std.specs.declared.cmp.Ordering.TheVariants.{Equal}
use Rattle.std.specs.Ordering.{is_gt, is_le}
use Rattle.std.specs.Cmp.{IsTotalOrder}
use Rattle.raft_state.specs.declared.ids.LogId.{LogId}
use Rattle.raft_state.specs.declared.membership.SnapshotMeta.{SnapshotMeta}
use Rattle.raft_state.specs.declared.state.RaftState.{RaftState}
use Rattle.raft_state.specs.Fits.{fits, is_below, is_within}
use Rattle.raft_state.specs.Invariants.{first_index, IsSoundState}
use Rattle.raft_state.specs.Log.{last, at, from}
use Rattle.raft_state.specs.Order.{last_id_cmp, next}
use Rattle.raft_state.specs.Same.{found_is}
use Rattle.raft_state.specs.State.{is_found, purge}
use Rattle.raft_state.proofs.Keeping.{purge_keeps}
use Rattle.raft_state.proofs.LogLists.{at_has, each_map, fits_has, has_le_index}
use Rattle.raft_state.proofs.Orders.{and_both, last_total, le_trans, lt_is_le, lt_not_ge, or_cases, within_le, lt_of_gt, nat_lt_of, or_left, within_next, within_of, within_refl, within_trans}
use Rattle.raft_state.proofs.StateLaws.{is_found_at, log_next, within_none}
use Rattle.raft_progress_entry.specs.declared.entry.ProgressEntry.{ProgressEntry}
use Rattle.raft_command.specs.Push.{with_command}
use Rattle.raft_command.specs.Queue.{Queue}
use Rattle.raft_command.specs.declared.command.Command.{Command}
use Rattle.raft_command.specs.declared.command.Command.TheVariants.{PurgeLog}
use Rattle.raft_command.specs.declared.config.EngineConfig.{EngineConfig}
use Rattle.raft_command.specs.declared.replication.ReplicationResult.{ReplicationResult}
use Rattle.raft_command.specs.declared.replication.RequestId.{RequestId}
use Rattle.raft_steps.specs.Invariants.{EntryFits, LeaderFits, IsSoundLed, IsSound}
use Rattle.raft_steps.specs.Laws.{later}
use Rattle.raft_steps.specs.LogHandler.{calc_purge_upto, is_target_inflight, purge_end, purge_log, schedule_policy_based_purge, try_purge_log, update_purge_upto}
use Rattle.raft_steps.specs.Parts.{Core, Led, Machine, with_state, on_core}
use Rattle.raft_proposer.specs.Joint.{JointLeader}
use Rattle.raft_steps.specs.Refusals.{rows_in}
use Rattle.raft_steps.specs.SnapshotCalls.{built, purge_where_free, finish_building_snapshot, trigger_purge_log}
use Rattle.raft_steps.specs.SnapshotHandler.{is_newer_snapshot, update_snapshot}
use Rattle.raft_steps.specs.Replies.{purge_unless_inflight, update_progress, take_reply, send_next}
use Rattle.raft_steps.specs.ReplyRefusals.{refusals_of_entry, refusals_of_result}
use Rattle.raft_steps.proofs.EntryLaws.{fits_le, run_at}
use Rattle.raft_steps.proofs.Kept.{either}
use Rattle.raft_steps.proofs.KeptReplies.{reply_kept, reply_sight, send_next_kept, send_next_sight}
use Rattle.raft_steps.proofs.Purged.{rest_last, kept_fits}
use Rattle.raft_steps.proofs.Sights.{SameSight, sight_self, sight_then, candidate_sees}

module _ {NID N : Type 0} (cmp : NID → NID → Ordering) (total : IsTotalOrder cmp) (same : (a b : NID) → cmp a b ≡ Equal → a ≡ b) (s : RaftState NID N) (h : IsSoundState cmp s) where
  -- the purge target is in the log
  target_held : (x : LogId NID) → s.purge_to ≡ Some x → at s.ids x.index ≡ Some x
  target_held x e =
      fits_has cmp total same s.ids s.purged x (subst (λ o. fits cmp s.ids s.purged o ≡ true) e h.marks.target_fits) (subst (λ o. is_within cmp s.purged o ≡ true) e h.marks.at_purged)

  target_above : (x : LogId NID) → s.purge_to ≡ Some x → is_within cmp s.purged (Some x) ≡ true
  target_above x e = subst (λ o. is_within cmp s.purged o ≡ true) e h.marks.at_purged

  -- it is within the log
  target_reached : (x : LogId NID) → s.purge_to ≡ Some x → nat_lt x.index (next (last s.ids)) ≡ true
  target_reached x e =
      let w : is_within cmp s.purge_to (last s.ids) ≡ true =
      within_trans cmp total s.purge_to s.snap.last_log_id (last s.ids) h.marks.at_target (within_trans cmp total s.snap.last_log_id s.committed (last s.ids) h.marks.at_snapshot h.marks.at_committed) in
      let l : next s.purge_to ≤ next (last s.ids) = within_next cmp total s.purge_to (last s.ids) w in
      let q : next s.purge_to ≡ x.index + 1 = ap next e in
      nat_lt_of _ _ (omega (arith, l, q))

  -- so the ids below it go
  pub purge_is : (x : LogId NID) → s.purge_to ≡ Some x → purge cmp s x ≡ record s { purged = Some x; ids = from x.index s.ids }
  purge_is x e = rw (target_reached x e) refl

  purge_sound : (x : LogId NID) → s.purge_to ≡ Some x → IsSoundState cmp (record s { purged = Some x; ids = from x.index s.ids })
  purge_sound x e =
      subst (IsSoundState cmp) (purge_is x e)
      (purge_keeps cmp total same s x h (target_held x e) (target_above x e) (subst (λ o. is_within cmp (Some x) o ≡ true) (sym e) (itself x))) where
        itself : (x : LogId NID) → is_within cmp (Some x) (Some x) ≡ true
        itself x = within_refl cmp total (Some x)

module _ {C NID N E D R S : Type 0} (cmp : NID → NID → Ordering) (total : IsTotalOrder cmp) (same : (a b : NID) → cmp a b ≡ Equal → a ≡ b) where
  -- what holds after a purge: of the same, or of a log from the target on
  pub purge_case : (P : Core C NID N E D R S → Type 0) (c : Core C NID N E D R S) → P c
      → ((x : LogId NID) → c.state.purge_to ≡ Some x → (q : Queue (Command C NID N E D R S)) → P (record { state = record c.state { purged = Some x; ids = from x.index c.state.ids }; output = q }))
      → IsSoundState cmp c.state → P (purge_log cmp c)
  unfolding purge_log
  purge_case P c p after h = go c.state.purge_to refl where
    go : (o : Option (LogId NID)) → c.state.purge_to ≡ o
        → P (elim o [
          | None ↦ c
          | Some upto ↦ (if is_gt (last_id_cmp cmp (Some upto) c.state.purged) then record { state = purge cmp c.state upto; output = with_command c.output (PurgeLog upto) } else c)
        ])
    go None e = p
    go (Some x) e =
        either P (is_gt (last_id_cmp cmp (Some x) c.state.purged)) _ _
        (subst (λ s. P (record { state = s; output = with_command c.output (PurgeLog x) })) (sym (purge_is cmp total same c.state h x e)) (after x e (with_command c.output (PurgeLog x)))) p

module _ {C NID N E D R S : Type 0} (cmp : NID → NID → Ordering) (total : IsTotalOrder cmp) (same : (a b : NID) → cmp a b ≡ Equal → a ≡ b) (config : EngineConfig NID) where
  -- a leader fits the log that a purge leaves
  leader_after : (s : RaftState NID N) (l : JointLeader C NID N E D R S) (x : LogId NID) → IsSoundState cmp s → s.purge_to ≡ Some x
      → LeaderFits cmp config.id s.ids s.purged s.em.membership l → LeaderFits cmp config.id (from x.index s.ids) (Some x) s.em.membership l
  leader_after s l x h e k = record {
    committed = k.committed;
    own = k.own;
    noop = k.noop;
    last_id = k.last_id ∙ sym stays;
    progress = k.progress;
    ungranted = k.ungranted;
    clock = k.clock;
    entries = each_map (λ row. EntryFits cmp s.ids s.purged row.1) (λ row. EntryFits cmp (from x.index s.ids) (Some x) row.1) (λ row f. fit row.1 f) l.progress.rows k.entries;
  } where
    held : at s.ids x.index ≡ Some x
    held = target_held cmp total same s h x e

    stays : last (from x.index s.ids) ≡ last s.ids
    stays = rest_last cmp total same _ _ _ _ _ _ _ h x held

    still : (m : Option (LogId NID)) → fits cmp s.ids s.purged m ≡ true → fits cmp (from x.index s.ids) (Some x) m ≡ true
    still None f = refl
    still (Some y) f = kept_fits cmp total same _ _ _ _ _ _ _ h x held (target_above cmp total same s h x e) y f

    fit : (r : ProgressEntry NID) → EntryFits cmp s.ids s.purged r → EntryFits cmp (from x.index s.ids) (Some x) r
    fit r f = record { matching = still r.matching f.matching; above = f.above; below = subst (λ d. r.searching_end ≤ next d) (sym stays) f.below; ahead = f.ahead }

  purge_led : (l : Led C NID N E D R S) → IsSoundLed cmp config l → IsSoundLed cmp config (record l { core = purge_log cmp l.core })
  purge_led l h =
      purge_case cmp total same (λ (c : Core C NID N E D R S). IsSoundLed cmp config (record l { core = c })) l.core h
      (λ x e q. record { sound = purge_sound cmp total same l.core.state h.sound x e; leader_fits = leader_after l.core.state l.leader x h.sound e h.leader_fits }) h.sound

  pub purge_unless_kept : (l : Led C NID N E D R S) → IsSoundLed cmp config l → IsSoundLed cmp config (purge_unless_inflight cmp l)
  unfolding purge_unless_inflight try_purge_log
  purge_unless_kept l h =
      either (λ (c : Core C NID N E D R S). IsSoundLed cmp config (record l { core = c })) (is_target_inflight cmp l.leader.progress.rows l.core.state) l.core (purge_log cmp l.core) h (purge_led l h)

  -- a purge is not seen
  purge_sight : (c : Core C NID N E D R S) → IsSoundState cmp c.state → SameSight c.state (purge_log cmp c).state
  purge_sight c h =
      purge_case cmp total same (λ (n : Core C NID N E D R S). SameSight c.state n.state) c (sight_self c.state)
      (λ x e q. record { vote = refl; last_id = rest_last cmp total same _ _ _ _ _ _ _ h x (target_held cmp total same c.state h x e); members = refl }) h

  pub try_purge_sight : (rows : List (NID × ProgressEntry NID)) (c : Core C NID N E D R S) → IsSoundState cmp c.state → SameSight c.state (try_purge_log cmp rows c).state
  unfolding try_purge_log
  try_purge_sight rows c h =
      either (λ (n : Core C NID N E D R S). SameSight c.state n.state) (is_target_inflight cmp rows c.state) c (purge_log cmp c) (sight_self c.state) (purge_sight c h)

  pub purge_unless_sight : (l : Led C NID N E D R S) → IsSoundState cmp l.core.state → SameSight l.core.state (purge_unless_inflight cmp l).core.state
  unfolding purge_unless_inflight
  purge_unless_sight l h = try_purge_sight l.leader.progress.rows l.core h

  -- a reply, a purge and what is sent next
  pub progress_kept : {T : Type 0} (target : NID) (id : RequestId) (reply : Result (ReplicationResult NID) T) (l : Led C NID N E D R S)
      → refusals_of_entry cmp target (λ e. refusals_of_result cmp l.core.state e id reply) l.leader ≡ None
      → IsSoundLed cmp config l → IsSoundLed cmp config (update_progress cmp config target id reply l)
  unfolding update_progress
  progress_kept target id reply l a h =
      send_next_kept cmp total same config target (purge_unless_inflight cmp (take_reply cmp config target id reply l))
      (purge_unless_kept (take_reply cmp config target id reply l) (reply_kept cmp total same config target id reply l a h))

  pub progress_sight : {T : Type 0} (target : NID) (id : RequestId) (reply : Result (ReplicationResult NID) T) (l : Led C NID N E D R S)
      → refusals_of_entry cmp target (λ e. refusals_of_result cmp l.core.state e id reply) l.leader ≡ None
      → IsSoundLed cmp config l → SameSight l.core.state (update_progress cmp config target id reply l).core.state
  unfolding update_progress
  progress_sight target id reply l a h =
      let taken = take_reply cmp config target id reply l in
      let purged = purge_unless_inflight cmp taken in
      sight_then l.core.state taken.core.state (send_next cmp config target purged).core.state (reply_sight cmp total same config target id reply l)
      (sight_then taken.core.state purged.core.state (send_next cmp config target purged).core.state
      (purge_unless_sight taken (reply_kept cmp total same config target id reply l a h).sound) (send_next_sight cmp total same config target purged))

  -- an engine whose log is purged
  pub purge_is_sound : (m : Machine C NID N E D R S) → IsSound cmp config m → IsSound cmp config (on_core (purge_log cmp) m)
  purge_is_sound m h =
      let seen = purge_sight m.core h.sound in
      let candidate = candidate_sees cmp config.id m.core.state (purge_log cmp m.core).state m.candidate seen h.lead.candidate_fits in
      record { sound = sound; lead = record { leader_fits = led m.leader h.lead.leader_fits; candidate_fits = candidate } } where
        sound : IsSoundState cmp (purge_log cmp m.core).state
        sound = purge_case cmp total same (λ (c : Core C NID N E D R S). IsSoundState cmp c.state) m.core h.sound (λ x e q. purge_sound cmp total same m.core.state h.sound x e) h.sound

        led : (o : Option (JointLeader C NID N E D R S)) → IfSome o (LeaderFits cmp config.id m.core.state.ids m.core.state.purged m.core.state.em.membership)
            → (let n = (purge_log cmp m.core).state in IfSome o (LeaderFits cmp config.id n.ids n.purged n.em.membership))
        led None k = tt
        led (Some l) k = (purge_led (record { leader = l; core = m.core }) (record { sound = h.sound; leader_fits = k })).leader_fits

  pub try_purge_is_sound : (rows : List (NID × ProgressEntry NID)) (m : Machine C NID N E D R S) → IsSound cmp config m → IsSound cmp config (on_core (try_purge_log cmp rows) m)
  unfolding try_purge_log
  try_purge_is_sound rows m h =
      either (λ (c : Core C NID N E D R S). IsSound cmp config (record m { core = c })) (is_target_inflight cmp rows m.core.state) m.core (purge_log cmp m.core) h (purge_is_sound m h)

module _ {NID N : Type 0} (cmp : NID → NID → Ordering) (total : IsTotalOrder cmp) (same : (a b : NID) → cmp a b ≡ Equal → a ≡ b) (s : RaftState NID N) (h : IsSoundState cmp s) where
  -- another purge target, between the present one and the snapshot
  pub target_sound : (x : Option (LogId NID)) → fits cmp s.ids s.purged x ≡ true → is_within cmp s.purge_to x ≡ true → is_within cmp x s.snap.last_log_id ≡ true
      → IsSoundState cmp (record s { purge_to = x })
  target_sound x f above below = record {
    log = h.log;
    marks = record {
      at_purged = within_trans cmp total s.purged s.purge_to x h.marks.at_purged above;
      at_target = below;
      at_snapshot = h.marks.at_snapshot;
      at_committed = h.marks.at_committed;
      target_fits = f;
      snapshot_fits = h.marks.snapshot_fits;
      committed_fits = h.marks.committed_fits;
    };
    accepted = h.accepted;
  }

  -- an id of the log with an index that the snapshot covers is within it
  covered : (x : LogId NID) → at s.ids x.index ≡ Some x → x.index + 1 ≤ next s.snap.last_log_id → is_within cmp (Some x) s.snap.last_log_id ≡ true
  covered x e l = go s.snap.last_log_id refl where
    go : (o : Option (LogId NID)) → s.snap.last_log_id ≡ o → is_within cmp (Some x) o ≡ true
    go None q = absurd (let z : next s.snap.last_log_id ≡ 0 = ap next q in omega (arith, l, z))
    go (Some y) q =
        let z : next s.snap.last_log_id ≡ y.index + 1 = ap next q in
        let f : fits cmp s.ids s.purged (Some y) ≡ true = subst (λ o. fits cmp s.ids s.purged o ≡ true) q h.marks.snapshot_fits in
        let w : is_within cmp s.purged (Some y) ≡ true =
        subst (λ o. is_within cmp s.purged o ≡ true) q (within_trans cmp total s.purged s.purge_to s.snap.last_log_id h.marks.at_purged h.marks.at_target) in
        let k : at s.ids y.index ≡ Some y = fits_has cmp total same s.ids s.purged y f w in
        within_of cmp total (Some x) (Some y)
        (fits_le cmp total same _ _ _ _ _ _ _ h x y (or_left _ (is_below cmp (Some x) s.purged) (is_found_at cmp total same s.ids x _ e)) k (omega (arith, l, z))) (omega (arith, l, z))

  -- of two ids of the log the one that isn't below by order isn't below by index
  in_order : (x y : LogId NID) → at s.ids x.index ≡ Some x → at s.ids y.index ≡ Some y → is_le (last_id_cmp cmp (Some x) (Some y)) ≡ true → is_within cmp (Some x) (Some y) ≡ true
  in_order x y e f l =
      let i : x.index ≤ y.index = has_le_index cmp total x y None (first_index s.purged) s.ids h.log.run h.log.rising (at_has x.index x s.ids e) (at_has y.index y s.ids f) l in
      within_of cmp total (Some x) (Some y) l (omega (arith, i))

  -- a purge target that rises to an id of the log, as far as the snapshot goes
  pub raised_sound : (x : LogId NID) → at s.ids x.index ≡ Some x → x.index + 1 ≤ next s.snap.last_log_id → is_le (last_id_cmp cmp s.purge_to (Some x)) ≡ true
      → IsSoundState cmp (record s { purge_to = Some x })
  raised_sound x e low up =
      target_sound (Some x) (or_left _ (is_below cmp (Some x) s.purged) (is_found_at cmp total same s.ids x _ e)) (over s.purge_to refl) (covered x e low) where
        over : (o : Option (LogId NID)) → s.purge_to ≡ o → is_within cmp s.purge_to (Some x) ≡ true
        over None q = subst (λ o. is_within cmp o (Some x) ≡ true) (sym q) (within_none cmp total same (Some x))
        over (Some t) q =
            subst (λ o. is_within cmp o (Some x) ≡ true) (sym q)
            (in_order t x (target_held cmp total same s h t q) e (subst (λ o. is_le (last_id_cmp cmp o (Some x)) ≡ true) q up))

-- an id that is found at an index has it
found_index : {NID : Type 0} (ids : List (LogId NID)) (i : ℕ) (x : LogId NID) → at ids i ≡ Some x → x.index ≡ i
found_index [] i x e = cc
found_index (y ∷ ys) i x e = go (y.index == i) refl (found_index ys i x) e where
  equal : (a b : ℕ) → (a == b) ≡ true → a ≡ b
  equal a b q = grind (arith, nat_tests)

  go : (b : Bool) → (y.index == i) ≡ b → (at ys i ≡ Some x → x.index ≡ i) → cond b (Some y) (at ys i) ≡ Some x → x.index ≡ i
  go true q later e = let w : y ≡ x = search (rules, e) in ap (λ z. z.index) (sym w) ∙ equal y.index i q
  go false q later e = later e

module _ {C NID N E D R S : Type 0} (cmp : NID → NID → Ordering) (total : IsTotalOrder cmp) (same : (a b : NID) → cmp a b ≡ Equal → a ≡ b) (config : EngineConfig NID) where
  -- an engine with another purge target
  pub targeted_is_sound : (x : Option (LogId NID)) (m : Machine C NID N E D R S) → IsSoundState cmp (record m.core.state { purge_to = x }) → IsSound cmp config m → IsSound cmp config (on_core (update_purge_upto x) m)
  targeted_is_sound x m s h = record { sound = s; lead = record { leader_fits = h.lead.leader_fits; candidate_fits = h.lead.candidate_fits } }

  -- the settings' purge target
  pub scheduled_is_sound : (m : Machine C NID N E D R S) → IsSound cmp config m → IsSound cmp config (on_core (schedule_policy_based_purge cmp config) m)
  unfolding schedule_policy_based_purge
  scheduled_is_sound m h = go (calc_purge_upto config m.core.state) refl where
    s : RaftState NID N
    s = m.core.state

    go : (o : Option (LogId NID)) → calc_purge_upto config s ≡ o → IsSound cmp config (on_core (update_purge_upto (later cmp s.purge_to o)) m)
    go None e = targeted_is_sound (later cmp s.purge_to None) m (rw (none_not_above s.purge_to) h.sound) h where
      none_not_above : (o : Option (LogId NID)) → is_gt (last_id_cmp cmp None o) ≡ false
      none_not_above None = refl
      none_not_above (Some x) = refl
    go (Some x) e = targeted_is_sound (later cmp s.purge_to (Some x)) m (by (is_gt (last_id_cmp cmp (Some x) s.purge_to)) refl) h where
      few : (end : ℕ) (small : Bool) → (if (end == 0) || small then None else at s.ids (end - 1)) ≡ Some x → (1 ≤ end) × (at s.ids (end - 1) ≡ Some x)
      few end small q = choose (end == 0) refl small q where
        choose : (b : Bool) → (end == 0) ≡ b → (c : Bool) → (if b || c then None else at s.ids (end - 1)) ≡ Some x → (1 ≤ end) × (at s.ids (end - 1) ≡ Some x)
        choose true t c q = cc
        choose false t true q = cc
        choose false t false q = (positive end t, q) where
          positive : (n : ℕ) → (n == 0) ≡ false → 1 ≤ n
          positive n t = grind (arith, nat_tests)

      by : (b : Bool) → is_gt (last_id_cmp cmp (Some x) s.purge_to) ≡ b → IsSoundState cmp (record s { purge_to = if b then Some x else s.purge_to })
      by true above =
          let f = few (purge_end config s) _ e in
          let i : x.index ≡ purge_end config s - 1 = found_index s.ids (purge_end config s - 1) x f.1 in
          let end : purge_end config s ≤ next s.snap.last_log_id = omega arith in
          raised_sound cmp total same s h.sound x (subst (λ j. at s.ids j ≡ Some x) (sym i) f.1) (let p = f.0 in omega (arith, i, end, p))
          (lt_is_le _ (lt_of_gt (last_total cmp total) (Some x) s.purge_to above))
      by false above = h.sound

module _ {NID N : Type 0} (cmp : NID → NID → Ordering) (total : IsTotalOrder cmp) (same : (a b : NID) → cmp a b ≡ Equal → a ≡ b) (s : RaftState NID N) (h : IsSoundState cmp s) where
  -- an id that fits and isn't below the purged one is in the log
  held_above : (y : LogId NID) → fits cmp s.ids s.purged (Some y) ≡ true → is_le (last_id_cmp cmp s.purged (Some y)) ≡ true → at s.ids y.index ≡ Some y
  held_above y f l =
      ⊎_elim
      (λ (e : is_found cmp (at s.ids y.index) y ≡ true). found_is cmp same _ y e)
      (λ (e : is_below cmp (Some y) s.purged ≡ true).
      let no : false ≡ true = sym (lt_not_ge (last_total cmp total) (Some y) s.purged (and_both _ (nat_lt (next (Some y)) (next s.purged)) e).0) ∙ l in
      cc)
      (or_cases _ (is_below cmp (Some y) s.purged) f)

  purged_snapshot : is_within cmp s.purged s.snap.last_log_id ≡ true
  purged_snapshot = within_trans cmp total s.purged s.purge_to s.snap.last_log_id h.marks.at_purged h.marks.at_target

  -- a snapshot above the recorded one, up to an id that fits and is committed
  pub snapshot_sound : (meta : SnapshotMeta NID N) → fits cmp s.ids s.purged meta.last_log_id ≡ true → is_within cmp meta.last_log_id s.committed ≡ true
      → is_gt (last_id_cmp cmp meta.last_log_id s.snap.last_log_id) ≡ true → IsSoundState cmp (record s { snap = meta })
  snapshot_sound meta f w g = record {
    log = h.log;
    marks = record {
      at_purged = h.marks.at_purged;
      at_target = within_trans cmp total s.purge_to s.snap.last_log_id meta.last_log_id h.marks.at_target (over meta.last_log_id f up);
      at_snapshot = w;
      at_committed = h.marks.at_committed;
      target_fits = h.marks.target_fits;
      snapshot_fits = f;
      committed_fits = h.marks.committed_fits;
    };
    accepted = h.accepted;
  } where
    up : is_le (last_id_cmp cmp s.snap.last_log_id meta.last_log_id) ≡ true
    up = lt_is_le _ (lt_of_gt (last_total cmp total) meta.last_log_id s.snap.last_log_id g)

    over_some : (t y : LogId NID) → s.snap.last_log_id ≡ Some t → fits cmp s.ids s.purged (Some y) ≡ true → is_le (last_id_cmp cmp (Some t) (Some y)) ≡ true → is_within cmp (Some t) (Some y) ≡ true
    over_some t y q f l =
        let p : is_le (last_id_cmp cmp s.purged (Some t)) ≡ true = within_le cmp total s.purged (Some t) (subst (λ o. is_within cmp s.purged o ≡ true) q purged_snapshot) in
        let k : at s.ids t.index ≡ Some t = held_above t (subst (λ o. fits cmp s.ids s.purged o ≡ true) q h.marks.snapshot_fits) p in
        in_order cmp total same s h t y k (held_above y f (le_trans (last_total cmp total) s.purged (Some t) (Some y) p l)) l

    over : (o : Option (LogId NID)) → fits cmp s.ids s.purged o ≡ true → is_le (last_id_cmp cmp s.snap.last_log_id o) ≡ true → is_within cmp s.snap.last_log_id o ≡ true
    over None f l = go s.snap.last_log_id l where
      go : (t : Option (LogId NID)) → is_le (last_id_cmp cmp t None) ≡ true → is_within cmp t None ≡ true
      go None l = within_none cmp total same None
      go (Some t) l = cc
    over (Some y) f l = go s.snap.last_log_id refl l where
      go : (t : Option (LogId NID)) → s.snap.last_log_id ≡ t → is_le (last_id_cmp cmp t (Some y)) ≡ true → is_within cmp t (Some y) ≡ true
      go None q l = within_none cmp total same (Some y)
      go (Some t) q l = over_some t y q f l

  -- the purge target at an index from the present one on, as far as the snapshot goes
  pub index_sound : (j : ℕ) → next s.purge_to ≤ j + 1 → j + 1 ≤ next s.snap.last_log_id → IsSoundState cmp (record s { purge_to = at s.ids j })
  index_sound j low high =
      let n : next (last s.ids) ≡ first_index s.purged + length s.ids = log_next cmp total same s.vote.leader_id s.ids s.purged h.log in
      let w : next s.snap.last_log_id ≤ next (last s.ids) =
      within_next cmp total s.snap.last_log_id (last s.ids) (within_trans cmp total s.snap.last_log_id s.committed (last s.ids) h.marks.at_snapshot h.marks.at_committed) in
      let p : next s.purged ≤ next s.purge_to = within_next cmp total s.purged s.purge_to h.marks.at_purged in
      let from : first_index s.purged ≤ j = first_low s.purged (omega (arith, p, low)) in
      let z = run_at (first_index s.purged) j s.ids h.log.run from (omega (arith, n, w, high)) in
      let i : z.0.index ≡ j = z.2 in
      let e : at s.ids z.0.index ≡ Some z.0 = subst (λ k. at s.ids k ≡ Some z.0) (sym i) z.1 in
      subst (λ o. IsSoundState cmp (record s { purge_to = o })) (sym z.1)
      (raised_sound cmp total same s h z.0 e (omega (arith, i, high)) (below s.purge_to refl z.0 e (omega (arith, i, low)))) where
        first_low : (o : Option (LogId NID)) → next o ≤ j + 1 → first_index o ≤ j
        first_low None l = omega arith
        first_low (Some y) l = omega (arith, l)

        below : (o : Option (LogId NID)) → s.purge_to ≡ o → (z : LogId NID) → at s.ids z.index ≡ Some z → next s.purge_to ≤ z.index + 1 → is_le (last_id_cmp cmp s.purge_to (Some z)) ≡ true
        below None q z e l = subst (λ o. is_le (last_id_cmp cmp o (Some z)) ≡ true) (sym q) refl
        below (Some t) q z e l =
            let k : next s.purge_to ≡ t.index + 1 = ap next q in
            subst (λ o. is_le (last_id_cmp cmp o (Some z)) ≡ true) (sym q)
            (fits_le cmp total same _ _ _ _ _ _ _ h t z (subst (λ o. fits cmp s.ids s.purged o ≡ true) q h.marks.target_fits) e (omega (arith, k, l)))

  -- the target of a purge up to an index, as far as the snapshot goes
  pub asked_sound : (i : ℕ) (x : LogId NID) → s.snap.last_log_id ≡ Some x → nat_lt i (next s.purge_to) ≡ false → IsSoundState cmp (record s { purge_to = at s.ids (min i x.index) })
  asked_sound i x q l =
      let k : next s.snap.last_log_id ≡ x.index + 1 = ap next q in
      let t : next s.purge_to ≤ next s.snap.last_log_id = within_next cmp total s.purge_to s.snap.last_log_id h.marks.at_target in
      let above : next s.purge_to ≤ i = at_least _ _ l in
      index_sound (min i x.index) (least_low i x.index (next s.purge_to) above (omega (arith, k, t))) (least_high i x.index (next s.snap.last_log_id) k) where
        at_least : (a b : ℕ) → nat_lt a b ≡ false → b ≤ a
        at_least a b e = grind (arith, nat_tests)

        least_low : (i x p : ℕ) → p ≤ i → p ≤ x + 1 → p ≤ min i x + 1
        least_low i x p a b = omega (arith, a, b)

        least_high : (i x n : ℕ) → n ≡ x + 1 → min i x + 1 ≤ n
        least_high i x n e = omega (arith, e)

module _ {C NID N E D R S : Type 0} (cmp : NID → NID → Ordering) (total : IsTotalOrder cmp) (same : (a b : NID) → cmp a b ≡ Equal → a ≡ b) (config : EngineConfig NID) where
  -- an engine that records a snapshot
  pub recorded_is_sound : (meta : SnapshotMeta NID N) (m : Machine C NID N E D R S) → fits cmp m.core.state.ids m.core.state.purged meta.last_log_id ≡ true
      → is_within cmp meta.last_log_id m.core.state.committed ≡ true → IsSound cmp config m → IsSound cmp config (on_core (update_snapshot cmp meta) m)
  unfolding update_snapshot
  recorded_is_sound meta m f w h = go (is_newer_snapshot cmp m.core.state meta) refl where
    go : (b : Bool) → is_newer_snapshot cmp m.core.state meta ≡ b → IsSound cmp config (record m { core = if b then with_state m.core (record m.core.state { snap = meta }) else m.core })
    go true g = record { sound = snapshot_sound cmp total same m.core.state h.sound meta f w g; lead = record { leader_fits = h.lead.leader_fits; candidate_fits = h.lead.candidate_fits } }
    go false g = h

  -- an engine whose snapshot is built
  pub finished_is_sound : (meta : SnapshotMeta NID N) (m : Machine C NID N E D R S) → fits cmp m.core.state.ids m.core.state.purged meta.last_log_id ≡ true
      → is_within cmp meta.last_log_id m.core.state.committed ≡ true → IsSound cmp config m → IsSound cmp config (finish_building_snapshot cmp config meta m)
  unfolding finish_building_snapshot
  finished_is_sound meta m f w h =
      let b : Machine C NID N E D R S = on_core built m in
      let k : IsSound cmp config b = record { sound = h.sound; lead = record { leader_fits = h.lead.leader_fits; candidate_fits = h.lead.candidate_fits } } in
      either (λ (c : Core C NID N E D R S). IsSound cmp config (record m { core = c })) (is_newer_snapshot cmp b.core.state meta) _ _
      (try_purge_is_sound cmp total same config (rows_in m) (on_core (schedule_policy_based_purge cmp config) (on_core (update_snapshot cmp meta) b))
      (scheduled_is_sound cmp total same config (on_core (update_snapshot cmp meta) b) (recorded_is_sound meta b f w k))) k

  -- the same, step by step
  pub finishing_is_sound : (meta : SnapshotMeta NID N) (m : Machine C NID N E D R S) (j k : Core C NID N E D R S) → j ≡ update_snapshot cmp meta (built m.core) → k ≡ schedule_policy_based_purge cmp config j
      → fits cmp m.core.state.ids m.core.state.purged meta.last_log_id ≡ true → is_within cmp meta.last_log_id m.core.state.committed ≡ true
      → IsSound cmp config m → IsSound cmp config (record m { core = try_purge_log cmp (rows_in m) k })
  finishing_is_sound meta m j k recorded scheduled f w h =
      let b : Machine C NID N E D R S = on_core built m in
      let s : IsSound cmp config b = record { sound = h.sound; lead = record { leader_fits = h.lead.leader_fits; candidate_fits = h.lead.candidate_fits } } in
      subst (λ (c : Core C NID N E D R S). IsSound cmp config (record m { core = try_purge_log cmp (rows_in m) c })) (sym (scheduled ∙ ap (schedule_policy_based_purge cmp config) recorded))
      (try_purge_is_sound cmp total same config (rows_in m) (on_core (schedule_policy_based_purge cmp config) (on_core (update_snapshot cmp meta) b))
      (scheduled_is_sound cmp total same config (on_core (update_snapshot cmp meta) b) (recorded_is_sound meta b f w s)))

  -- nothing else changes where the snapshot isn't above the recorded one
  pub finish_older : (meta : SnapshotMeta NID N) (m : Machine C NID N E D R S) (j : Core C NID N E D R S) → is_newer_snapshot cmp m.core.state meta ≡ false → j ≡ update_snapshot cmp meta (built m.core)
      → record m { core = j } ≡ finish_building_snapshot cmp config meta m
  unfolding finish_building_snapshot update_snapshot
  finish_older meta m j older e = rw e (rw older refl)

  -- and one that is asked to purge
  pub triggered_is_sound : (i : ℕ) (m : Machine C NID N E D R S) → IsSound cmp config m → IsSound cmp config (trigger_purge_log cmp i m)
  unfolding trigger_purge_log
  triggered_is_sound i m h = go m.core.state.snap.last_log_id refl where
    go : (o : Option (LogId NID)) → m.core.state.snap.last_log_id ≡ o
        → IsSound cmp config (record m {
          core = elim o [
            | None ↦ m.core
            | Some x ↦
                (if nat_lt i (next m.core.state.purge_to) then m.core
                else try_purge_log cmp (rows_in m) (update_purge_upto (at m.core.state.ids (min i x.index)) m.core))
          ];
        })
    go None q = h
    go (Some x) q = by (nat_lt i (next m.core.state.purge_to)) refl where
      by : (b : Bool) → nat_lt i (next m.core.state.purge_to) ≡ b
          → IsSound cmp config (record m { core = if b then m.core else try_purge_log cmp (rows_in m) (update_purge_upto (at m.core.state.ids (min i x.index)) m.core) })
      by true l = h
      by false l =
          try_purge_is_sound cmp total same config (rows_in m) (on_core (update_purge_upto (at m.core.state.ids (min i x.index))) m)
          (targeted_is_sound cmp total same config (at m.core.state.ids (min i x.index)) m (asked_sound cmp total same m.core.state h.sound i x q l) h)

  -- an engine that purges where no range is in the way
  pub purge_where_free_is_sound : (m : Machine C NID N E D R S) → IsSound cmp config m → IsSound cmp config (purge_where_free cmp m)
  unfolding purge_where_free
  purge_where_free_is_sound m h = try_purge_is_sound cmp total same config (rows_in m) m h
