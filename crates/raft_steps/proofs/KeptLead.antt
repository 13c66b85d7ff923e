-- A leader fits its log after each of its steps.
use Rattle.std.specs.Prelude.{◌≡◌, ℕ, ◌+◌, ◌-◌, ◌<◌, ◌≤◌, ◌^◌, ◌==◌, Bool, true, false, List, [], ◌∷◌, ◌++◌, Option, None, Some, refl, length, slice_get, map, find, unwrap_or}
use Rattle.std.specs.List.{AllByRecursion, last_or}
use Rattle.std.proofs.Common.{ap, sym, ◌∙◌, cond, arith, subst, suc, length-append}
use Rattle.std.specs.declared.cmp.Ordering.TheVariants.{Equal}
use Rattle.std.specs.Ordering.{is_eq}
use Rattle.std.specs.Cmp.{IsTotalOrder}
use Rattle.raft_state.specs.declared.config.RaftEntry
use Rattle.raft_state.specs.declared.membership.Members.{Members}
use Rattle.raft_state.specs.Members.{voter_ids, learner_ids}
use Rattle.raft_state.specs.State.{append_membership, extend}
use Rattle.raft_progress_entry.specs.declared.entry.ProgressEntry.{ProgressEntry}
use Rattle.raft_progress_entry.specs.Entry.{empty}
use Rattle.raft_proposer.specs.raft_progress.Table.{row_of, kept_row}
use Rattle.raft_steps.specs.FollowingHandler.{memberships_in}
use Rattle.raft_proposer.specs.Leader.{assigned, numbered, last_assigned}
use Rattle.raft_steps.specs.ReplicationHandler.{rebuild_progresses, is_other, silenced_row, sent_row, initiate_replication, rebuild_replication_streams, append_membership_led}
use Rattle.raft_steps.specs.LeaderHandler.{proposed, leader_append_entries}
use Rattle.raft_state.specs.Invariants.{first_index, IsSoundState}
use Rattle.raft_steps.specs.Invariants.{EntryFits, LeaderFits, IsSoundLed}
use Rattle.raft_state.proofs.LogLists.{each_map, last_is, last_append}
use Rattle.raft_state.proofs.StateLaws.{grown, log_next}
use Rattle.raft_steps.proofs.EntryLaws.{sent_fits, empty_fits, silenced_fits, grown_fits}
use Rattle.raft_proposer.proofs.Tables.{ids_of_rows, same_ids}
use Rattle.raft_steps.proofs.Kept.{TakesIds, either, either_option, numbered_follow, numbered_under, numbered_below, MayGrow}
use Rattle.std.specs.declared.cmp.Ordering.{Ordering}
use Rattle.raft_state.specs.declared.ids.LogId.{LogId}
use Rattle.raft_state.specs.declared.ids.LeaderId.{LeaderId}
use Rattle.raft_state.specs.declared.membership.StoredMembership.{StoredMembership}
use Rattle.raft_state.specs.Order.{next}
use Rattle.raft_state.specs.Log.{last}
use Rattle.raft_command.specs.declared.config.EngineConfig.{EngineConfig}
use Rattle.raft_steps.specs.Parts.{Led, with_state, under}
use Rattle.raft_proposer.specs.Joint.{JointLeader}

-- what holds of each element holds of each image
pub each_image : {X Y : Type 0} (P : X → Type 0) (Q : Y → Type 0) (f : X → Y) → ((x : X) → P x → Q (f x)) → (xs : List X) → AllByRecursion P xs → AllByRecursion Q (map f xs)
each_image P Q f g [] h = tt
each_image P Q f g (x ∷ xs) h = (g x h.0, each_image P Q f g xs h.1)

pub each_of : {X Y : Type 0} (Q : Y → Type 0) (f : X → Y) → ((x : X) → Q (f x)) → (xs : List X) → AllByRecursion Q (map f xs)
each_of Q f g [] = tt
each_of Q f g (x ∷ xs) = (g x, each_of Q f g xs)

module _ {NID : Type 0} (cmp : NID → NID → Ordering) (total : IsTotalOrder cmp) where
  -- an entry that is found fits, where each does
  row_fits : (P : ProgressEntry NID → Type 0) (id : NID) (v : ProgressEntry NID) → P v → (rows : List (NID × ProgressEntry NID)) → AllByRecursion (λ row. P row.1) rows → P (unwrap_or (row_of cmp id rows) v)
  row_fits P id v p [] h = p
  row_fits P id v p (r ∷ rows) h = go (is_eq (cmp id r.0)) (row_fits P id v p rows h.1) where
    go : (b : Bool) → P (unwrap_or (row_of cmp id rows) v) → P (unwrap_or (elim (cond b (Some r) (find (λ row. is_eq (cmp id row.0)) rows)) [ None ↦ None | Some q ↦ Some q.1 ]) v)
    go true k = h.0
    go false k = k

module _ {C NID N E D R S : Type 0} (cmp : NID → NID → Ordering) (total : IsTotalOrder cmp) (same : (a b : NID) → cmp a b ≡ Equal → a ≡ b) (config : EngineConfig NID) where
  -- what is asked of each entry of a leader's table
  abbrev Fits : Led C NID N E D R S → NID × ProgressEntry NID → Type 0
  Fits l row = EntryFits cmp l.core.state.ids l.core.state.purged row.1

  -- what comes next is sent to each other node
  pub initiate_kept : (force : Bool) (l : Led C NID N E D R S) → IsSoundLed cmp config l → IsSoundLed cmp config (initiate_replication cmp config force l)
  unfolding initiate_replication
  initiate_kept force l h =
      let f = h.leader_fits in
      record {
        sound = h.sound;
        leader_fits = record {
          committed = f.committed;
          own = f.own;
          noop = f.noop;
          last_id = f.last_id;
          progress = record {
            set = f.progress.set;
            ids = same_ids (sent_row cmp config l.core.state) (λ r. either (λ (q : NID × ProgressEntry NID). q.0 ≡ r.0) (is_other cmp config r) _ _ refl refl) l.leader.progress.rows ∙ f.progress.ids;
            voters = f.progress.voters;
          };
          clock = f.clock;
          ungranted = f.ungranted;
          entries = each_image (Fits l) (Fits l) (sent_row cmp config l.core.state)
              (λ r k. either (Fits l) (is_other cmp config r) _ _
              (sent_fits cmp total same _ _ _ _ _ _ _ h.sound l.core.state config.max_payload_entries r.1 refl refl refl k) k)
              l.leader.progress.rows f.entries;
        };
      }

  -- nothing is in flight any more
  pub rebuild_kept : (l : Led C NID N E D R S) → IsSoundLed cmp config l → IsSoundLed cmp config (rebuild_replication_streams cmp config l)
  unfolding rebuild_replication_streams
  rebuild_kept l h =
      let f = h.leader_fits in
      record {
        sound = h.sound;
        leader_fits = record {
          committed = f.committed;
          own = f.own;
          noop = f.noop;
          last_id = f.last_id;
          progress = record {
            set = f.progress.set;
            ids = same_ids (silenced_row cmp config) (λ r. either (λ (q : NID × ProgressEntry NID). q.0 ≡ r.0) (is_other cmp config r) _ _ refl refl) l.leader.progress.rows ∙ f.progress.ids;
            voters = f.progress.voters;
          };
          clock = f.clock;
          ungranted = f.ungranted;
          entries = each_image (Fits l) (Fits l) (silenced_row cmp config)
              (λ r k. either (Fits l) (is_other cmp config r) _ _ (silenced_fits cmp total same _ _ r.1 k) k)
              l.leader.progress.rows f.entries;
        };
      }

  -- the tables hold the effective membership's nodes, whichever they held before
  pub progresses_kept : (before : Members NID N) (l : Led C NID N E D R S) → IsSoundState cmp l.core.state
      → LeaderFits cmp config.id l.core.state.ids l.core.state.purged before l.leader → IsSoundLed cmp config (rebuild_progresses cmp l)
  unfolding rebuild_progresses
  progresses_kept before l s f =
      let m = l.core.state.em.membership in
      let nodes = voter_ids cmp m ++ learner_ids cmp m in
      let e = empty (next (last l.core.state.ids)) in
      record {
        sound = s;
        leader_fits = record {
          committed = f.committed;
          own = f.own;
          noop = f.noop;
          last_id = f.last_id;
          progress = record { set = refl; ids = same_ids (kept_row cmp l.leader.progress.rows) (λ r. refl) (map (λ id. (id, e)) nodes) ∙ ids_of_rows e nodes; voters = refl };
          clock = record { set = refl; ids = same_ids (kept_row cmp l.leader.clock_progress.rows) (λ r. refl) (map (λ id. (id, None)) nodes) ∙ ids_of_rows None nodes; voters = refl };
          ungranted = refl;
          entries = each_image (Fits l) (Fits l) (kept_row cmp l.leader.progress.rows)
              (λ r k. row_fits cmp total (EntryFits cmp l.core.state.ids l.core.state.purged) r.0 r.1 k l.leader.progress.rows f.entries)
              (map (λ id. (id, e)) nodes)
              (each_of (Fits l) (λ id. (id, e)) (λ id. empty_fits cmp total same l.core.state.ids l.core.state.purged (next (last l.core.state.ids)) (omega arith)) nodes);
        };
      }

  -- a membership takes effect
  pub join_kept : (m : StoredMembership NID N) (l : Led C NID N E D R S) → IsSoundLed cmp config l → IsSoundLed cmp config (append_membership_led cmp config m l)
  unfolding append_membership_led
  join_kept m l h =
      let joined : Led C NID N E D R S = under (λ c. with_state c (append_membership c.state m)) l in
      initiate_kept false (rebuild_replication_streams cmp config (rebuild_progresses cmp joined))
      (rebuild_kept (rebuild_progresses cmp joined) (progresses_kept l.core.state.em.membership joined h.sound h.leader_fits))

module _ {NID N E : Type 0} (entry : RaftEntry.Ghosts E NID N) (named : TakesIds entry) where
  -- the last of the ids that a leader assigns
  numbered_last : (leader : LeaderId NID) (d : Option (LogId NID)) (n : ℕ) (e : E) (es : List E) → last_or d (map entry.id_of (numbered entry leader n (e ∷ es))) ≡ Some (record { leader_id = leader; index = n + length es })
  numbered_last leader d n e [] = ap Some ((named e (record { leader_id = leader; index = n })).0) ∙ (let q : n ≡ n + 0 = omega arith in ap (λ k. Some (record { leader_id = leader; index = k })) q)
  numbered_last leader d n e (x ∷ es) =
      numbered_last leader (Some (entry.id_of (entry.with_id e (record { leader_id = leader; index = n })))) (n + 1) x es
      ∙ (let q : (n + 1) + length es ≡ n + suc (length es) = omega arith in ap (λ k. Some (record { leader_id = leader; index = k })) q)

  pub assigned_last : {C D R S : Type 0} (l : JointLeader C NID N E D R S) (ids : List (LogId NID)) (es : List E) → l.last_log_id ≡ last ids → last_assigned l es ≡ last (ids ++ map entry.id_of (assigned entry l es))
  assigned_last l ids [] e = e ∙ last_is ids ∙ sym (last_is (ids ++ []) ∙ last_append None ids [])
  assigned_last l ids (x ∷ es) e =
      sym (last_is (ids ++ map entry.id_of (assigned entry l (x ∷ es))) ∙ last_append None ids (map entry.id_of (assigned entry l (x ∷ es)))
      ∙ numbered_last l.vote.leader_id (last_or None ids) (next l.last_log_id) x es)

module _ {C NID N E D R S : Type 0} (cmp : NID → NID → Ordering) (total : IsTotalOrder cmp) (same : (a b : NID) → cmp a b ≡ Equal → a ≡ b) (entry : RaftEntry.Ghosts E NID N) (named : TakesIds entry) (config : EngineConfig NID) where
  -- the ids that a leader assigns keep its log in order
  pub assigned_sound : (es : List E) (l : Led C NID N E D R S) → MayGrow cmp l.leader l.core.state (length es) → IsSoundState cmp l.core.state
      → IsSoundState cmp (extend l.core.state (map entry.id_of (assigned entry l.leader es)))
  assigned_sound es l may h =
      let n : next (last l.core.state.ids) ≡ next l.leader.last_log_id = sym (ap next may.last_id) in
      grown cmp total same _ _ _ _ _ _ _ h (map entry.id_of (assigned entry l.leader es))
      (numbered_follow cmp total entry named l.leader.vote.leader_id (last l.core.state.ids) (next l.leader.last_log_id) es n may.under)
      (numbered_under cmp total entry named l.leader.vote.leader_id l.core.state.vote.leader_id (next l.leader.last_log_id) es may.own)
      (numbered_below cmp total entry named l.leader.vote.leader_id (next l.leader.last_log_id) es (subst (λ k. k + length es < 2 ^ 64) n may.room))

  -- a leader's entries are taken into its log
  pub propose_kept : (es : List E) (l : Led C NID N E D R S) → MayGrow cmp l.leader l.core.state (length es)
      → IsSoundLed cmp config l → IsSoundLed cmp config (leader_append_entries cmp entry config es l)
  unfolding leader_append_entries proposed
  propose_kept es l may h =
      let f = h.leader_fits in
      let ids = l.core.state.ids in
      let given = assigned entry l.leader es in
      let new = map entry.id_of given in
      let ms = memberships_in entry given in
      let t : IsSoundState cmp (extend l.core.state new) = assigned_sound es l may h.sound in
      let n : next (last (ids ++ new)) ≡ first_index l.core.state.purged + length (ids ++ new) = log_next cmp total same l.core.state.vote.leader_id (ids ++ new) l.core.state.purged t.log in
      let o : next (last ids) ≡ first_index l.core.state.purged + length ids = log_next cmp total same l.core.state.vote.leader_id ids l.core.state.purged h.sound.log in
      let grows : next (last ids) ≤ next (last (ids ++ new)) = omega (arith, n, o, length-append ids new) in
      let k : IsSoundLed cmp config (proposed entry es l) = record {
        sound = t;
        leader_fits = record {
          committed = f.committed;
          own = f.own;
          noop = f.noop;
          last_id = assigned_last entry named l.leader ids es may.last_id;
          progress = f.progress;
          clock = f.clock;
          ungranted = f.ungranted;
          entries = each_map (λ row. EntryFits cmp ids l.core.state.purged row.1) (λ row. EntryFits cmp (ids ++ new) l.core.state.purged row.1)
              (λ row f. grown_fits cmp total same ids new l.core.state.purged row.1 grows f) l.leader.progress.rows f.entries;
        };
      } in
      either (IsSoundLed cmp config) (length es == 0) _ _ h
      (initiate_kept cmp total same config false _
      (either_option (IsSoundLed cmp config) (slice_get ms (length ms - 1)) _ _ k (λ m. join_kept cmp total same config m (proposed entry es l) k)))
