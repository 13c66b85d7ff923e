-- What a leader makes of acknowledgements, its own and those of others.
use Rattle.std.proofs.Common.{ℕ, ◌≡◌, ◌⊎◌, inl, inr, Bool, true, false, cond, List, [], ◌∷◌, map, refl, sym, subst, Option, None, Some}
use Rattle.std.specs.Prelude.{IfSome, find, if◌then◌else◌}
use Rattle.std.specs.List.{AllByRecursion}
use Rattle.std.specs.Option.{option_map}
use Rattle.std.specs.Ordering.{is_eq, is_ge, nat_cmp}
use Rattle.std.proofs.lemmas.Bool.{cond_both}
use Rattle.std.proofs.lemmas.Cmp.{nat_cmp_total}
use Rattle.raft_node.specs.raft_state.declared.ids.LogId.{LogId}
use Rattle.raft_node.specs.raft_state.Fits.{fits}
use Rattle.raft_node.specs.raft_state.Order.{last_id_cmp}
use Rattle.raft_node.specs.raft_state.Same.{nat_same}
use Rattle.raft_node.proofs.raft_state_proofs.Orders.{is_equal}
use Rattle.raft_node.specs.raft_progress_entry.declared.entry.ProgressEntry.{ProgressEntry}
use Rattle.raft_node.specs.raft_progress_entry.Entry.{silenced, matched, conflicted}
use Rattle.raft_node.specs.raft_progress.Table.{get, row_of, is_row_of, with_value}
use Rattle.raft_node.specs.raft_command.Replication.{number_of}
use Rattle.raft_node.specs.raft_command.declared.config.EngineConfig.{EngineConfig}
use Rattle.raft_node.specs.raft_command.declared.replication.RequestId.{RequestId}
use Rattle.raft_node.specs.raft_steps.Invariants.{EntryFits, IsSoundLed}
use Rattle.raft_node.specs.raft_steps.ReplicationHandler.{own_matched, with_entry, commit_granted, update_local_progress}
use Rattle.raft_node.specs.raft_steps.Replies.{on_entry, update_leader_clock, update_conflicting, update_failed_progress, update_matching}
use Rattle.raft_node.specs.raft_steps.ReplyRefusals.{refusals_of_entry, refusals_of_acknowledged}
use Rattle.raft_node.proofs.raft_steps_proofs.EntryLaws.{own_matched_fits, fits_end}
use Rattle.raft_node.proofs.raft_steps_proofs.KeptCommit.{row_each, entry_kept}
use Rattle.raft_node.proofs.raft_steps_proofs.KeptLead.{each_image}
use Rattle.raft_node.proofs.raft_steps_proofs.KeptReplies.{noted_kept}
use Rattle.proof_agreement.specs.Machine.{Setup}
use Rattle.proof_agreement.specs.Deeds.{HasAccepted}
use Rattle.raft_node.specs.raft_store.Entries.{entry_meaning}
use Rattle.raft_node.specs.raft_store.declared.entry.Entry as world
use Rattle.raft_node.specs.raft_store.Types.{WorldStore}
use Rattle.proof_mirror.specs.Ready.{InStep}
use Rattle.raft_node.specs.declared.node.Turn.{Turn}
use Rattle.raft_node.specs.raft_calls.Feeds.{WorldLed}
use Rattle.proof_deeds.specs.Chains.{left_by}
use Rattle.proof_deeds.specs.Images.{Ideal, number}
use Rattle.proof_deeds.specs.Knows.{KnowsMatch}
use Rattle.proof_deeds.proofs.Granting.{carried_granted}
use Rattle.proof_deeds.proofs.LeaderSends.{KnowsIn, CarriedLed, Owns}
use Rattle.proof_deeds.proofs.Pushes.{carry}
use Rattle.proof_deeds.proofs.Quorums.{Means}
use Rattle.proof_deeds.proofs.Worlds.{Within, accepted_on, if_some}

-- what holds of each row holds of an id's
pub row_known : (P : ℕ × ProgressEntry ℕ → Type 0) (id : ℕ) (rows : List (ℕ × ProgressEntry ℕ)) → AllByRecursion P rows → IfSome (row_of nat_cmp id rows) (λ e. P (id, e))
row_known P id [] a = tt
row_known P id (row ∷ rows) a = go (is_eq (nat_cmp id row.0)) refl (row_known P id rows a.1) where
  go : (b : Bool) → is_eq (nat_cmp id row.0) ≡ b → IfSome (row_of nat_cmp id rows) (λ e. P (id, e)) → IfSome (option_map (λ r. r.1) (cond b (Some row) (find (is_row_of nat_cmp id) rows))) (λ e. P (id, e))
  go true e k = subst (λ i. P (i, row.1)) (sym (nat_same id row.0 (is_equal _ e))) a.0
  go false e k = k

module _ (t : Turn) (d : ℕ) (V : Ideal) where
  -- another value of an id
  pub match_rows : (target : ℕ) (e : ProgressEntry ℕ) (rows : List (ℕ × ProgressEntry ℕ)) → KnowsMatch t.id d V (target, e) → AllByRecursion (KnowsMatch t.id d V) rows → AllByRecursion (KnowsMatch t.id d V) (map (with_value nat_cmp target e) rows)
  match_rows target e rows a h =
      each_image (KnowsMatch t.id d V) (KnowsMatch t.id d V) (with_value nat_cmp target e)
      (λ row k. cond_both (is_row_of nat_cmp target row) (row.0, e) row (KnowsMatch t.id d V) (λ q. subst (λ i. KnowsMatch t.id d V (i, e)) (nat_same target row.0 (is_equal _ q)) a) (λ _. k))
      rows h

  -- what a target has acknowledged
  accepted_match : (target : ℕ) (e : ProgressEntry ℕ) → IfSome e.matching (λ x. HasAccepted V target d x.index) → KnowsMatch t.id d V (target, e)
  accepted_match target e a = if_some (λ x. HasAccepted V target d x.index) (λ x. (target ≡ t.id) ⊎ HasAccepted V target d x.index) (λ x k. inr k) e.matching a

  -- the node's own log holds what it holds
  own_match : (target : ℕ) (e : ProgressEntry ℕ) → target ≡ t.id → KnowsMatch t.id d V (target, e)
  own_match target e own = go e.matching where
    go : (o : Option (LogId ℕ)) → IfSome o (λ x. (target ≡ t.id) ⊎ HasAccepted V target d x.index)
    go None = tt
    go (Some x) = inl own

module _ (s : Setup world.Entry) (means : Means s) (t : Turn) (config : EngineConfig ℕ) (own : config.id ≡ t.id) (u : WorldStore) (W : Ideal) where
  -- the entry of a target is another one
  carried_entry : (l : WorldLed) (target : ℕ) (e : ProgressEntry ℕ) → ((V : Ideal) → Within W V → KnowsIn s t l V → KnowsMatch t.id (number l.leader.vote.leader_id) V (target, e)) → CarriedLed s t u W l → CarriedLed s t u W (with_entry nat_cmp l target e)
  carried_entry l target e f h =
      carry s t l.core.state.vote.leader_id u W l.core.output.items (KnowsIn s t l) (KnowsIn s t (with_entry nat_cmp l target e)) h
      (λ V x k. (k.0, record { vote = k.1.vote; session = k.1.session; rows = match_rows t (number l.leader.vote.leader_id) V target e l.leader.progress.rows (f V x.within k) k.1.rows; above = k.1.above }))

  entry_owns : (l : WorldLed) (target : ℕ) (e : ProgressEntry ℕ) → Owns s t l → Owns s t (with_entry nat_cmp l target e)
  entry_owns l target e o = record { committed = o.committed; own = o.own }

  -- this node's own log holds x
  pub carried_local : (x : Option (LogId ℕ)) (l : WorldLed) → InStep entry_meaning (left_by u l.core.output.items) l.core.state → IsSoundLed nat_cmp config l → Owns s t l → fits nat_cmp l.core.state.ids l.core.state.purged x ≡ true
      → CarriedLed s t u W l → CarriedLed s t u W (update_local_progress nat_cmp config x l)
  unfolding update_local_progress
  carried_local None l j sound o f h = h
  carried_local (Some x) l j sound o f h = go (get nat_cmp l.leader.progress config.id) (row_each nat_cmp (EntryFits nat_cmp l.core.state.ids l.core.state.purged) config.id l.leader.progress.rows sound.leader_fits.entries) where
    go : (r : Option (ProgressEntry ℕ)) → IfSome r (EntryFits nat_cmp l.core.state.ids l.core.state.purged) → (let n = (elim r as (λ _. WorldLed) [
      | None ↦ l
      | Some e ↦ (if is_ge (last_id_cmp nat_cmp e.matching (Some x)) then l else commit_granted nat_cmp config (with_entry nat_cmp l config.id (own_matched nat_cmp (Some x) e)))
    ]) in CarriedLed s t u W n)
    go None k = h
    go (Some e) k =
        let w : WorldLed = with_entry nat_cmp l config.id (own_matched nat_cmp (Some x) e) in
        cond_both (is_ge (last_id_cmp nat_cmp e.matching (Some x))) l (commit_granted nat_cmp config w) (CarriedLed s t u W)
        (λ _. h)
        (λ _. carried_granted s means t config u W (with_entry nat_cmp l config.id (own_matched nat_cmp (Some x) e)) j
        (entry_kept nat_cmp nat_cmp_total nat_same config config.id (own_matched nat_cmp (Some x) e) l
        (own_matched_fits nat_cmp nat_cmp_total nat_same l.core.state.ids l.core.state.purged (Some x) e f (fits_end nat_cmp nat_cmp_total nat_same _ _ _ _ _ _ _ sound.sound (Some x) f) k) sound)
        (entry_owns l config.id (own_matched nat_cmp (Some x) e) o)
        (carried_entry l config.id (own_matched nat_cmp (Some x) e) (λ V _ _. own_match t (number l.leader.vote.leader_id) V config.id (own_matched nat_cmp (Some x) e) own) h))

  -- a change of a target's entry, where it is in the table
  carried_on_entry : (target : ℕ) (f : ProgressEntry ℕ → ProgressEntry ℕ) (l : WorldLed)
      → ((V : Ideal) (e : ProgressEntry ℕ) → Within W V → KnowsMatch t.id (number l.leader.vote.leader_id) V (target, e) → KnowsMatch t.id (number l.leader.vote.leader_id) V (target, f e))
      → CarriedLed s t u W l → CarriedLed s t u W (on_entry nat_cmp target f l)
  carried_on_entry target f l g h = go (get nat_cmp l.leader.progress target) (λ V k. row_known (KnowsMatch t.id (number l.leader.vote.leader_id) V) target l.leader.progress.rows k.1.rows) where
    go : (r : Option (ProgressEntry ℕ)) → ((V : Ideal) → KnowsIn s t l V → IfSome r (λ e. KnowsMatch t.id (number l.leader.vote.leader_id) V (target, e)))
        → (let n = (elim r as (λ _. WorldLed) [ None ↦ l | Some e ↦ with_entry nat_cmp l target (f e) ]) in CarriedLed s t u W n)
    go None a = h
    go (Some e) a = carried_entry l target (f e) (λ V w k. g V e w (a V k)) h

  pub on_entry_kept : (P : WorldLed → Type 0) (target : ℕ) (f : ProgressEntry ℕ → ProgressEntry ℕ) (l : WorldLed) → P l → ((e : ProgressEntry ℕ) → P (with_entry nat_cmp l target (f e))) → P (on_entry nat_cmp target f l)
  on_entry_kept P target f l p q = go (get nat_cmp l.leader.progress target) where
    go : (r : Option (ProgressEntry ℕ)) → (let n = (elim r as (λ _. WorldLed) [ None ↦ l | Some e ↦ with_entry nat_cmp l target (f e) ]) in P n)
    go None = p
    go (Some e) = q e

  -- what a target has accepted under the leader's vote
  abbrev pub Acknowledged : ℕ → WorldLed → Option (LogId ℕ) → Type 0
  Acknowledged target l x = IfSome x (λ y. HasAccepted W target (number l.leader.vote.leader_id) y.index)

  -- a target's log matches, and what a quorum has then acknowledged is committed
  pub carried_matching : (target number_ : ℕ) (x : Option (LogId ℕ)) (l : WorldLed) → InStep entry_meaning (left_by u l.core.output.items) l.core.state → IsSoundLed nat_cmp config l → Owns s t l
      → refusals_of_entry nat_cmp target (λ e. refusals_of_acknowledged nat_cmp l.core.state e number_ x) l.leader ≡ None → Acknowledged target l x → CarriedLed s t u W l → CarriedLed s t u W (update_matching nat_cmp config target x l)
  unfolding update_matching
  carried_matching target number_ x l j sound o a acc h =
      carried_granted s means t config u W (on_entry nat_cmp target (λ e. matched nat_cmp e x) l)
      (on_entry_kept (λ n. InStep entry_meaning (left_by u n.core.output.items) n.core.state) target (λ e. matched nat_cmp e x) l j (λ _. j))
      (noted_kept nat_cmp nat_cmp_total nat_same config target number_ x l a sound)
      (on_entry_kept (Owns s t) target (λ e. matched nat_cmp e x) l o (λ e. entry_owns l target (matched nat_cmp e x) o))
      (carried_on_entry target (λ e. matched nat_cmp e x) l (λ V e w _. accepted_match t (number l.leader.vote.leader_id) V target (matched nat_cmp e x) (if_some _ _ (λ y. accepted_on W V target (number l.leader.vote.leader_id) y.index w) x acc)) h)

  -- it conflicts
  pub carried_conflicting : (target : ℕ) (number_ : Option ℕ) (x : LogId ℕ) (l : WorldLed) → CarriedLed s t u W l → CarriedLed s t u W (update_conflicting nat_cmp target number_ x l)
  unfolding update_conflicting
  carried_conflicting target number_ x l h = carried_on_entry target (λ e. conflicted e number_ x.index) l (λ V e _ k. same number_ V e k) h where
    same : (n : Option ℕ) (V : Ideal) (e : ProgressEntry ℕ) → KnowsMatch t.id (number l.leader.vote.leader_id) V (target, e) → KnowsMatch t.id (number l.leader.vote.leader_id) V (target, conflicted e n x.index)
    same None V e k = k
    same (Some n) V e k = k

  -- a request has failed
  pub carried_failed : (target : ℕ) (id : RequestId) (l : WorldLed) → CarriedLed s t u W l → CarriedLed s t u W (update_failed_progress nat_cmp target id l)
  unfolding update_failed_progress
  carried_failed target id l h = go (number_of id) where
    go : (o : Option ℕ) → (let n = (elim o as (λ _. WorldLed) [ None ↦ l | Some _ ↦ on_entry nat_cmp target silenced l ]) in CarriedLed s t u W n)
    go None = h
    go (Some k) = carried_on_entry target silenced l (λ V e _ k. k) h

  -- a clock rises
  pub carried_clock : (target time : ℕ) (l : WorldLed) → CarriedLed s t u W l → CarriedLed s t u W (update_leader_clock nat_cmp target time l)
  unfolding update_leader_clock
  carried_clock target time l h =
      carry s t l.core.state.vote.leader_id u W l.core.output.items (KnowsIn s t l) (KnowsIn s t (update_leader_clock nat_cmp target time l)) h
      (λ V x k. (k.0, record { vote = k.1.vote; session = k.1.session; rows = k.1.rows; above = k.1.above }))
