-- A leader's proposal is committed, whatever the other nodes answer.
use Rattle.std.proofs.Common.{ℕ, zero, suc, ◌+◌, ◌-◌, ◌<◌, ◌≤◌, ◌≡◌, ◌≢◌, ◌⊎◌, inl, inr, Bool, true, false, not, cond, List, [], ◌∷◌, ◌++◌, length, map, arith, refl, sym, ap, ◌∙◌, subst, Option, None, Some}
use Rattle.std.specs.Prelude.{find, if◌then◌else◌, slice_get, take}
use Rattle.std.specs.List.{AllByRecursion, cons_option}
use Rattle.std.specs.Option.{option_map}
use Rattle.std.specs.Cmp.{IsTotalOrder, tied_itself}
use Rattle.std.proofs.lemmas.Bool.{ne_eqb}
use Rattle.std.specs.declared.cmp.Ordering.{Ordering}
use Rattle.std.specs.declared.cmp.Ordering.TheVariants.{Equal, Greater, Less}
use Rattle.std.specs.Ordering.{is_eq, is_ge, is_le, ordering_reverse}
use Rattle.proof_deeds.specs.raft_state.declared.config.RaftEntry
use Rattle.proof_deeds.specs.raft_state.declared.ids.LeaderId.{LeaderId}
use Rattle.proof_deeds.specs.raft_state.declared.ids.LogId.{LogId}
use Rattle.proof_deeds.specs.raft_state.declared.membership.StoredMembership.{StoredMembership}
use Rattle.proof_deeds.specs.raft_state.declared.state.RaftState.{RaftState}
use Rattle.proof_deeds.specs.raft_state.Fits.{fits, is_below}
use Rattle.proof_deeds.specs.raft_state.Log.{at, last}
use Rattle.proof_deeds.specs.raft_state.Order.{last_id_cmp, next}
use Rattle.proof_deeds.specs.raft_state.State.{is_found}
use Rattle.proof_deeds.proofs.raft_state_proofs.Orders.{is_equal, last_total, le_antisymm, or_left, vote_eq_leader}
use Rattle.proof_deeds.proofs.raft_state_proofs.StateLaws.{is_found_at}
use Rattle.proof_deeds.specs.raft_progress_entry.declared.entry.ProgressEntry.{ProgressEntry}
use Rattle.proof_deeds.specs.raft_progress_entry.Entry.{next_send, sent, silenced}
use Rattle.proof_deeds.specs.raft_progress.Quorum.{is_quorum}
use Rattle.proof_deeds.specs.raft_progress.Table.{get, is_row_of, row_of, voter_rows}
use Rattle.proof_deeds.specs.raft_command.declared.config.EngineConfig.{EngineConfig}
use Rattle.proof_deeds.specs.raft_proposer.Joint.{JointLeader}
use Rattle.proof_deeds.specs.raft_proposer.Leader.{assigned, granted_id, numbered}
use Rattle.proof_deeds.proofs.raft_proposer_proofs.Elements.{In, contains_in}
use Rattle.proof_deeds.specs.raft_steps.Conditions.{may_change_membership}
use Rattle.proof_deeds.specs.raft_steps.FollowingHandler.{memberships_in}
use Rattle.proof_deeds.specs.raft_steps.Invariants.{EntryFits, IsSoundLed}
use Rattle.proof_deeds.specs.raft_steps.Laws.{CommitsLatest, is_of, takes_local}
use Rattle.proof_deeds.specs.raft_steps.LeaderHandler.{joined, last_proposed, leader_append_entries, proposed}
use Rattle.proof_deeds.specs.raft_steps.Parts.{Led}
use Rattle.proof_deeds.specs.raft_steps.ReplicationHandler.{commit_granted, initiate_replication, is_other, own_matched, sent_row, update_local_progress, with_entry}
use Rattle.proof_deeds.proofs.raft_steps_proofs.Kept.{TakesIds, either, either_option}
use Rattle.proof_deeds.proofs.raft_steps_proofs.KeptCommit.{leader_append_kept, local_kept}
use Rattle.proof_deeds.proofs.raft_steps_proofs.KeptLead.{assigned_last}
use Rattle.proof_deeds.proofs.raft_steps_proofs.LawsCommit.{local_law}
use Rattle.proof_progress.specs.Proposals.{EachOnce, IsVoter, Proposes, Replicated, ReplicatedTo, id_past}
use Rattle.proof_progress.specs.Replication.{Handles, IsMatchedVoter, Rounds}
use Rattle.proof_progress.proofs.Matches.{all_committed, in_contains, last_commits, same_last}
use Rattle.proof_progress.proofs.Nearing.{last_at, target_low, upto_last}
use Rattle.proof_progress.proofs.Rounds.{After, Leaves, Touches, commit_leaves, failed_after, fits_of, handled_after, leave_then, put_row, sent_matching, still_low, then_known, touch_entry, touch_self, touch_then}

module _ {ID V : Type 0} (cmp : ID → ID → Ordering) (total : IsTotalOrder cmp) (exact : (a b : ID) → cmp a b ≡ Equal → a ≡ b) where
  -- one of the first rows is an id's
  voter_has : (t : ID) (e : V) (n : ℕ) (rows : List (ID × V)) → row_of cmp t rows ≡ Some e → In t (map (λ (r : ID × V). r.0) (take n rows)) → In (t, e) (take n rows)
  voter_has t e zero rows h i = absurd i
  voter_has t e (suc n) [] h i = absurd i
  voter_has t e (suc n) (row ∷ rows) h i = go (voter_has t e n rows) (is_row_of cmp t row) refl h i
    where
      go : (row_of cmp t rows ≡ Some e → In t (map (λ (r : ID × V). r.0) (take n rows)) → In (t, e) (take n rows)) → (b : Bool) → is_row_of cmp t row ≡ b
          → ◌≡◌ {A = Option V} (option_map (λ (r : ID × V). r.1) (cond b (Some row) (find (is_row_of cmp t) rows))) (Some e)
          → (row.0 ≡ t) ⊎ In t (map (λ (r : ID × V). r.0) (take n rows)) → (row ≡ (t, e)) ⊎ In (t, e) (take n rows)
      go f true q k i = let z : row.1 ≡ e = cc in let p : row.0 ≡ t = sym (exact t row.0 (is_equal _ q)) in inl (λ j. (p j, z j))
      go f false q k (inl z) = let w : is_row_of cmp t row ≡ true = subst (λ x. is_eq (cmp t x) ≡ true) (sym z) (ap is_eq (tied_itself total t)) in cc
      go f false q k (inr m) = inr (f k m)

  -- and has a value
  pub voter_get : (t : ID) (n : ℕ) (rows : List (ID × V)) → In t (map (λ (r : ID × V). r.0) (take n rows)) → (e : V) × (row_of cmp t rows ≡ Some e)
  voter_get t zero rows i = absurd i
  voter_get t (suc n) [] i = absurd i
  voter_get t (suc n) (row ∷ rows) i = go (voter_get t n rows) (is_row_of cmp t row) refl i
    where
      go : (In t (map (λ (r : ID × V). r.0) (take n rows)) → (e : V) × (row_of cmp t rows ≡ Some e)) → (b : Bool) → is_row_of cmp t row ≡ b → (row.0 ≡ t) ⊎ In t (map (λ (r : ID × V). r.0) (take n rows)) → (e : V) × ◌≡◌ {A = Option V} (option_map (λ (r : ID × V). r.1) (cond b (Some row) (find (is_row_of cmp t) rows))) (Some e)
      go f true q i = (row.1, refl)
      go f false q (inl z) = let w : is_row_of cmp t row ≡ true = subst (λ x. is_eq (cmp t x) ≡ true) (sym z) (ap is_eq (tied_itself total t)) in cc
      go f false q (inr m) = f m

-- changes that leave each row's id leave the ids of the first rows
kept_ids : {ID V : Type 0} (f : ID × V → ID × V) → ((row : ID × V) → (f row).0 ≡ row.0) → (n : ℕ) (rows : List (ID × V)) → map (λ (r : ID × V). r.0) (take n (map f rows)) ≡ map (λ (r : ID × V). r.0) (take n rows)
kept_ids f same zero rows = refl
kept_ids f same (suc n) [] = refl
kept_ids f same (suc n) (row ∷ rows) = λ i. same row i ∷ kept_ids f same n rows i

module _ {NID N : Type 0} (cmp : NID → NID → Ordering) (config : EngineConfig NID) (s : RaftState NID N) where
  sent_id : (row : NID × ProgressEntry NID) → (sent_row cmp config s row).0 ≡ row.0
  sent_id row = either (λ (r : NID × ProgressEntry NID). r.0 ≡ row.0) (is_other cmp config row) (row.0, sent row.1 (next_send s config.max_payload_entries row.1)) row refl refl

  sent_same : (row : NID × ProgressEntry NID) → (sent_row cmp config s row).1.matching ≡ row.1.matching
  sent_same row =
      either (λ (r : NID × ProgressEntry NID). r.1.matching ≡ row.1.matching) (is_other cmp config row) (row.0, sent row.1 (next_send s config.max_payload_entries row.1)) row
      (sent_matching row.1 (next_send s config.max_payload_entries row.1)) refl

  -- what is sent leaves what matches
  sent_rows : (t : NID) (p : ProgressEntry NID) (rows : List (NID × ProgressEntry NID)) → row_of cmp t rows ≡ Some p
      → (q : ProgressEntry NID) × (row_of cmp t (map (sent_row cmp config s) rows) ≡ Some q) × (q.matching ≡ p.matching)
  sent_rows t p [] h = cc
  sent_rows t p (row ∷ rows) h = go (sent_rows t p rows) (is_row_of cmp t row) refl h
    where
      Image : Option (ProgressEntry NID) → Type 0
      Image o = (q : ProgressEntry NID) × (o ≡ Some q) × (q.matching ≡ p.matching)

      same_test : (b : Bool) → is_row_of cmp t row ≡ b → is_row_of cmp t (sent_row cmp config s row) ≡ b
      same_test b q = subst (λ x. is_eq (cmp t x) ≡ b) (sym (sent_id row)) q

      put : (b : Bool) → is_row_of cmp t (sent_row cmp config s row) ≡ b → Image (option_map (λ (r : NID × ProgressEntry NID). r.1) (cond b (Some (sent_row cmp config s row)) (find (is_row_of cmp t) (map (sent_row cmp config s) rows)))) → Image (row_of cmp t (map (sent_row cmp config s) (row ∷ rows)))
      put b q m = subst (λ c. Image (option_map (λ (r : NID × ProgressEntry NID). r.1) (cond c (Some (sent_row cmp config s row)) (find (is_row_of cmp t) (map (sent_row cmp config s) rows))))) (sym q) m

      go : (row_of cmp t rows ≡ Some p → Image (row_of cmp t (map (sent_row cmp config s) rows))) → (b : Bool) → is_row_of cmp t row ≡ b → ◌≡◌ {A = Option (ProgressEntry NID)} (option_map (λ (r : NID × ProgressEntry NID). r.1) (cond b (Some row) (find (is_row_of cmp t) rows))) (Some p) → Image (row_of cmp t (map (sent_row cmp config s) (row ∷ rows)))
      go f true q k = let z : row.1 ≡ p = cc in put true (same_test true q) ((sent_row cmp config s row).1, refl, sent_same row ∙ ap (λ (e : ProgressEntry NID). e.matching) z)
      go f false q k = put false (same_test false q) (f k)

ge_le : (r : Ordering) → is_ge r ≡ true → is_le (ordering_reverse r) ≡ true
ge_le Less h = cc
ge_le Equal h = refl
ge_le Greater h = refl

module _ {NID : Type 0} (cmp : NID → NID → Ordering) (same : (a b : NID) → cmp a b ≡ Equal → a ≡ b) where
  pub differs : (u t : NID) → u ≢ t → is_eq (cmp u t) ≡ false
  differs u t d = go (is_eq (cmp u t)) refl
    where
      go : (b : Bool) → is_eq (cmp u t) ≡ b → b ≡ false
      go true q = absurd (d (same u t (is_equal _ q)))
      go false q = refl

only : {NID : Type 0} (o : Option (ProgressEntry NID)) (x y : ProgressEntry NID) → o ≡ Some x → o ≡ Some y → x ≡ y
only o x y p q = cc

module _ {C NID N E D R S : Type 0} (cmp : NID → NID → Ordering) (total : IsTotalOrder cmp) (same : (a b : NID) → cmp a b ≡ Equal → a ≡ b) (config : EngineConfig NID) where
  -- a node's log matches to the leader's last entry; or isn't known to
  abbrev HasAll : Led C NID N E D R S → NID → Type 0
  HasAll l t = (p : ProgressEntry NID) × (get cmp l.leader.progress t ≡ Some p) × (p.matching ≡ last l.core.state.ids)

  abbrev IsBehind : Led C NID N E D R S → NID → Type 0
  IsBehind l t = (p : ProgressEntry NID) × (get cmp l.leader.progress t ≡ Some p) × (next p.matching < next (last l.core.state.ids))

  -- steps for one node's replies
  pub record Kept (target : NID) (old new : Led C NID N E D R S) : Type 0 where
    pub sound : IsSoundLed cmp config new
    pub leaves : Leaves old.core.state new.core.state
    pub touches : Touches cmp target old new

  pub kept_then : (target : NID) (a b c : Led C NID N E D R S) → Kept target a b → Kept target b c → Kept target a c
  kept_then target a b c h k = record { sound = k.sound; leaves = leave_then a.core.state b.core.state c.core.state h.leaves k.leaves; touches = touch_then cmp target a b c h.touches k.touches }

  pub after_kept : (target : NID) (old new : Led C NID N E D R S) (was : ProgressEntry NID) → After cmp total same config target old new was → Kept target old new
  after_kept target old new was a = record { sound = a.sound; leaves = a.leaves; touches = a.touches }

  module _ (payload : 1 ≤ config.max_payload_entries) where
    pub rounds_keep : (target : NID) (k : ℕ) (old new : Led C NID N E D R S) → IsSoundLed cmp config old → next old.core.state.purge_to < next (last old.core.state.ids) → Rounds cmp config target k old new → Kept target old new
    rounds_keep target zero old new s u r = subst (λ (l : Led C NID N E D R S). Kept target old l) (sym r) (record { sound = s; leaves = record { end = refl; purge_to = refl; vote = refl }; touches = touch_self cmp target old })
    rounds_keep target (suc k) old new s u r =
        let h : Handles cmp config target old r.0 = r.1 in
        let a : After cmp total same config target old r.0 (then_known cmp total same config payload target h) = handled_after cmp total same config payload target old r.0 s u h in
        kept_then target old r.0 new (after_kept target old r.0 _ a) (rounds_keep target k r.0 new a.sound (still_low old r.0 a.leaves u) r.2)

    module _ (groups : List (List NID)) (x : LogId NID) (first : NID) (more : List NID) (quorum : is_quorum cmp groups (first ∷ more) ≡ true) where
      -- a leader whose last entry is x, under its own leader id, with these voters
      record Leads (l : Led C NID N E D R S) : Type 0 where
        sound : IsSoundLed cmp config l
        low : next l.core.state.purge_to < next (last l.core.state.ids)
        end : last l.core.state.ids ≡ Some x
        own : is_of cmp l.core.state.vote.leader_id (Some x) ≡ true
        set : l.leader.progress.set ≡ groups
        voters : (t : NID) → In t (first ∷ more) → In t (map (λ (row : NID × ProgressEntry NID). row.0) (voter_rows l.leader.progress))

      leads_on : (target : NID) (l n : Led C NID N E D R S) → Leads l → Kept target l n → Leads n
      leads_on target l n h k = record {
        sound = k.sound;
        low = still_low l n k.leaves h.low;
        end = k.leaves.end ∙ h.end;
        own = subst (λ v. is_of cmp v (Some x) ≡ true) (sym (ap (λ v. v.leader_id) k.leaves.vote)) h.own;
        set = k.touches.set ∙ h.set;
        voters = λ t i. subst (In t) (sym k.touches.voters) (h.voters t i);
      }

      -- those to which is still to be replicated are behind, all others have the log
      record Left (t : NID) (ts : List NID) (l : Led C NID N E D R S) : Type 0 where
        leads : Leads l
        known : (u : NID) → In u (first ∷ more) → In u (t ∷ ts) ⊎ HasAll l u
        behind : AllByRecursion (IsBehind l) (t ∷ ts)

      each_matched : (ts : List NID) (l : Led C NID N E D R S) → Leads l → ((u : NID) → In u ts → HasAll l u × In u (map (λ (row : NID × ProgressEntry NID). row.0) (voter_rows l.leader.progress))) → AllByRecursion (IsMatchedVoter l) ts
      each_matched [] l h f = tt
      each_matched (t ∷ ts) l h f =
          let a = f t (inl refl) in
          ((a.0.0, in_contains _ _ (voter_has cmp total same t a.0.0 l.leader.progress.voters l.leader.progress.rows a.0.1 a.1), a.0.2), each_matched ts l h (λ u i. f u (inr i)))

      module _ (t : NID) (ts : List NID) (l n : Led C NID N E D R S) (h : Left t ts l) (r : Replicated cmp config t l n) where
        abbrev p : ProgressEntry NID
        p = h.behind.0.0

        begun : After cmp total same config t l r.begun (silenced p)
        begun = failed_after cmp total same config payload t l r.begun p h.behind.0.1 h.leads.sound h.leads.low r.failed

        begun_low : next r.begun.core.state.purge_to < next (last r.begun.core.state.ids)
        begun_low = still_low l r.begun begun.leaves h.leads.low

        answered : Kept t r.begun n
        answered = rounds_keep t r.count r.begun n begun.sound begun_low r.rounds

        all : Kept t l n
        all = kept_then t l r.begun n (after_kept t l r.begun _ begun) answered

        now : Leads n
        now = leads_on t l n h.leads all

        has : HasAll n t
        has = (r.matched.entry, r.matched.has, r.matched.matching)

        has_others : (u : NID) → HasAll l u → HasAll n u
        has_others u a = go (is_eq (cmp u t)) refl
          where
            go : (b : Bool) → is_eq (cmp u t) ≡ b → HasAll n u
            go true q = subst (HasAll n) (sym (same u t (is_equal _ q))) has
            go false q = (a.0, all.touches.others u q ∙ a.1, a.2 ∙ sym all.leaves.end)

        known_then : (u : NID) → In u (first ∷ more) → In u ts ⊎ HasAll n u
        known_then u i = go (h.known u i)
          where
            go : ((t ≡ u) ⊎ In u ts) ⊎ HasAll l u → In u ts ⊎ HasAll n u
            go (inl (inl e)) = inr (subst (HasAll n) e has)
            go (inl (inr m)) = inl m
            go (inr a) = inr (has_others u a)

        behind_then : (us : List NID) → AllByRecursion (λ u. u ≢ t) us → AllByRecursion (IsBehind l) us → AllByRecursion (IsBehind n) us
        behind_then [] d b = tt
        behind_then (u ∷ us) d b =
            ((b.0.0, all.touches.others u (differs cmp same u t d.0) ∙ b.0.1, subst (λ o. next b.0.0.matching < next o) (sym all.leaves.end) b.0.2), behind_then us d.1 b.1)

        -- the request that followed the failure has been answered
        still_behind : (e : ProgressEntry NID) → get cmp r.begun.leader.progress t ≡ Some e → e.matching ≢ last r.begun.core.state.ids
        still_behind e q m =
            let one : e ≡ begun.entry = only (get cmp r.begun.leader.progress t) e begun.entry q begun.has in
            let was : next p.matching ≡ next (last l.core.state.ids) = sym (ap next begun.matching) ∙ (sym (ap (λ (z : ProgressEntry NID). next z.matching) one) ∙ (ap next m ∙ ap next begun.leaves.end)) in
            let less : next p.matching < next (last l.core.state.ids) = h.behind.0.2 in
            absurd (omega (arith, was, less))

        -- the last of them
        finally : ts ≡ [] → n.core.state.committed ≡ Some x
        finally none = go r.count r.rounds
          where
            every : (u : NID) → In u (first ∷ more) → HasAll n u
            every u i = out (known_then u i)
              where
                out : In u ts ⊎ HasAll n u → HasAll n u
                out (inl m) = absurd (subst (In u) none m)
                out (inr a) = a

            go : (k : ℕ) → Rounds cmp config t k r.begun n → n.core.state.committed ≡ Some x
            go zero z = absurd (still_behind r.matched.entry (subst (λ (m : Led C NID N E D R S). get cmp m.leader.progress t ≡ Some r.matched.entry) z r.matched.has) (subst (λ (m : Led C NID N E D R S). r.matched.entry.matching ≡ last m.core.state.ids) z r.matched.matching))
            go (suc k) z =
                last_commits cmp total same config payload t k r.begun n begun.sound begun_low (λ i. still_behind i.entry i.has) z r.matched
                (subst (λ o. is_of cmp n.core.state.vote.leader_id o ≡ true) (sym now.end) now.own) first more
                (each_matched (first ∷ more) n now (λ u i. (every u i, now.voters u i)))
                (subst (λ g. is_quorum cmp g (first ∷ more) ≡ true) (sym now.set) quorum)
                ∙ now.end

      replicated : (t : NID) (ts : List NID) (l n : Led C NID N E D R S) → Left t ts l → EachOnce (t ∷ ts) → ReplicatedTo cmp config (t ∷ ts) l n → n.core.state.committed ≡ Some x
      replicated t [] l n h d r = subst (λ (m : Led C NID N E D R S). m.core.state.committed ≡ Some x) (sym r.2) (finally t [] l r.0 h r.1 refl)
      replicated t (u ∷ us) l n h d r =
          replicated u us r.0 n
          (record { leads = now t (u ∷ us) l r.0 h r.1; known = known_then t (u ∷ us) l r.0 h r.1; behind = behind_then t (u ∷ us) l r.0 h r.1 (u ∷ us) d.0 h.behind.1 })
          d.1 r.2

    -- this node's own log is acknowledged
    module _ (x : LogId NID) (l : Led C NID N E D R S) (sound : IsSoundLed cmp config l) (end : last l.core.state.ids ≡ Some x) where
      acked : Led C NID N E D R S
      acked = update_local_progress cmp config (Some x) l

      x_fits : fits cmp l.core.state.ids l.core.state.purged (Some x) ≡ true
      x_fits = or_left (is_found cmp (at l.core.state.ids x.index) x) (is_below cmp (Some x) l.core.state.purged) (is_found_at cmp total same l.core.state.ids x (at l.core.state.ids x.index) (last_at cmp total same l.core.state sound.sound x end))

      acked_leaves : Leaves l.core.state acked.core.state
      unfolding acked update_local_progress
      acked_leaves =
          either_option (λ (n : Led C NID N E D R S). Leaves l.core.state n.core.state) (get cmp l.leader.progress config.id) l _ (record { end = refl; purge_to = refl; vote = refl })
          (λ e. either (λ (n : Led C NID N E D R S). Leaves l.core.state n.core.state) (is_ge (last_id_cmp cmp e.matching (Some x))) l _ (record { end = refl; purge_to = refl; vote = refl })
          (commit_leaves cmp total same config (granted_id cmp (is_quorum cmp) (with_entry cmp l config.id (own_matched cmp (Some x) e)).leader) l.core))

      acked_touches : Touches cmp config.id l acked
      unfolding acked update_local_progress
      acked_touches =
          either_option (λ (n : Led C NID N E D R S). Touches cmp config.id l n) (get cmp l.leader.progress config.id) l _ (touch_self cmp config.id l)
          (λ e. either (λ (n : Led C NID N E D R S). Touches cmp config.id l n) (is_ge (last_id_cmp cmp e.matching (Some x))) l _ (touch_self cmp config.id l)
          (let t : Touches cmp config.id l (with_entry cmp l config.id (own_matched cmp (Some x) e)) = touch_entry cmp config.id same (own_matched cmp (Some x) e) l in record { others = t.others; set = t.set; voters = t.voters }))

      acked_kept : Kept config.id l acked
      unfolding acked
      acked_kept = record { sound = local_kept cmp total same config (Some x) l x_fits sound; leaves = acked_leaves; touches = acked_touches }

      acked_has : (p : ProgressEntry NID) → get cmp l.leader.progress config.id ≡ Some p → HasAll acked config.id
      unfolding acked update_local_progress
      acked_has p h = subst (λ (o : Option (ProgressEntry NID)). let n = (elim o as (λ _. Led C NID N E D R S) [
        | None ↦ l
        | Some e ↦ (if is_ge (last_id_cmp cmp e.matching (Some x)) then l else commit_granted cmp config (with_entry cmp l config.id (own_matched cmp (Some x) e)))
      ]) in HasAll n config.id) (sym h) (go (is_ge (last_id_cmp cmp p.matching (Some x))) refl)
        where
          abbrevl : Bool → Led C NID N E D R S
          abbrevl b = if b then l else commit_granted cmp config (with_entry cmp l config.id (own_matched cmp (Some x) p))

          go : (b : Bool) → is_ge (last_id_cmp cmp p.matching (Some x)) ≡ b → HasAll (abbrevl b) config.id
          go true q =
              let f : EntryFits cmp l.core.state.ids l.core.state.purged p = fits_of cmp total same config config.id l sound p h in
              let low : is_le (last_id_cmp cmp p.matching (Some x)) ≡ true = subst (λ o. is_le (last_id_cmp cmp p.matching o) ≡ true) end (upto_last cmp total same l.core.state sound.sound p.matching f.matching) in
              let high : is_le (last_id_cmp cmp (Some x) p.matching) ≡ true = ap is_le ((last_total cmp total).antisymm (Some x) p.matching) ∙ ge_le (last_id_cmp cmp p.matching (Some x)) q in
              (p, h, same_last cmp total same p.matching (Some x) (le_antisymm (last_total cmp total) p.matching (Some x) low high) ∙ sym end)
          go false q = (
            own_matched cmp (Some x) p,
            put_row cmp config.id (own_matched cmp (Some x) p) p l.leader.progress.rows h,
            sym ((commit_leaves cmp total same config (granted_id cmp (is_quorum cmp) (with_entry cmp l config.id (own_matched cmp (Some x) p)).leader) l.core).end ∙ end),
          )

module _ {C NID N E D R S : Type 0} (cmp : NID → NID → Ordering) (total : IsTotalOrder cmp) (same : (a b : NID) → cmp a b ≡ Equal → a ≡ b) (entry : RaftEntry.Ghosts E NID N) (named : TakesIds entry) (config : EngineConfig NID)
    (payload : 1 ≤ config.max_payload_entries) (e : E) (es : List E) (old : Led C NID N E D R S) (sound : IsSoundLed cmp config old) (plain : AllByRecursion (λ x. entry.membership_of x ≡ None) (e ∷ es)) where
  none_of : (xs : List E) → AllByRecursion (λ x. entry.membership_of x ≡ None) xs → memberships_in entry xs ≡ []
  none_of [] a = refl
  none_of (x ∷ xs) a = ap (λ o. cons_option (option_map (λ m. record { log_id = Some (entry.id_of x); membership = m }) o) (memberships_in entry xs)) a.0 ∙ none_of xs a.1

  numbered_plain : (leader : LeaderId NID) (n : ℕ) (xs : List E) → AllByRecursion (λ x. entry.membership_of x ≡ None) xs → AllByRecursion (λ x. entry.membership_of x ≡ None) (numbered entry leader n xs)
  numbered_plain leader n [] a = tt
  numbered_plain leader n (x ∷ xs) a = ((named x (record { leader_id = leader; index = n })).1 ∙ a.0, numbered_plain leader (n + 1) xs a.1)

  none_in : memberships_in entry (e ∷ es) ≡ []
  none_in = none_of (e ∷ es) plain

  none_proposed : last_proposed entry old.leader (e ∷ es) ≡ None
  none_proposed =
      ap (λ (ms : List (StoredMembership NID N)). slice_get ms (length ms - 1))
      (none_of (assigned entry old.leader (e ∷ es)) (numbered_plain old.leader.vote.leader_id (next old.leader.last_log_id) (e ∷ es) plain))

  appended : Led C NID N E D R S
  appended = leader_append_entries cmp entry config (e ∷ es) old

  proposing : Led C NID N E D R S
  proposing = proposed entry (e ∷ es) old

  appended_is : appended ≡ initiate_replication cmp config false proposing
  unfolding appended proposing leader_append_entries
  appended_is =
      ap (λ (b : Bool). let n : Led C NID N E D R S = (if b then old else initiate_replication cmp config false (joined cmp config (last_proposed entry old.leader (e ∷ es)) (proposed entry (e ∷ es) old))) in n)
      (ne_eqb (length (e ∷ es)) 0 (λ q. omega (arith, q)))
      ∙ ap (λ o. initiate_replication cmp config false (joined cmp config o (proposed entry (e ∷ es) old))) none_proposed

  pub begun_is : leader_append_entries cmp entry config (e ∷ es) old ≡ initiate_replication cmp config false (proposed entry (e ∷ es) old)
  unfolding appended proposing
  begun_is = appended_is

  -- the log has the entries more
  record Grown (n : Led C NID N E D R S) : Type 0 where
    end : last n.core.state.ids ≡ Some (id_past (length es) old)
    purge_to : n.core.state.purge_to ≡ old.core.state.purge_to
    vote : n.core.state.vote ≡ old.core.state.vote
    set : n.leader.progress.set ≡ old.leader.progress.set
    voters : map (λ (row : NID × ProgressEntry NID). row.0) (voter_rows n.leader.progress) ≡ map (λ (row : NID × ProgressEntry NID). row.0) (voter_rows old.leader.progress)
    rows : (t : NID) (p : ProgressEntry NID) → get cmp old.leader.progress t ≡ Some p → (q : ProgressEntry NID) × (get cmp n.leader.progress t ≡ Some q) × (q.matching ≡ p.matching)

  end_is : last (old.core.state.ids ++ map entry.id_of (assigned entry old.leader (e ∷ es))) ≡ Some (id_past (length es) old)
  end_is =
      let i : next old.leader.last_log_id ≡ next (last old.core.state.ids) = ap next sound.leader_fits.last_id in
      let k : next old.leader.last_log_id + length es ≡ next (last old.core.state.ids) + length es = omega (arith, i) in
      sym (assigned_last entry named old.leader old.core.state.ids (e ∷ es) sound.leader_fits.last_id) ∙ ap (λ j. Some (record { leader_id = old.leader.vote.leader_id; index = j })) k

  sent_grown : Grown (initiate_replication cmp config false proposing)
  unfolding initiate_replication proposing proposed
  sent_grown = record {
    end = end_is;
    purge_to = refl;
    vote = refl;
    set = refl;
    voters = kept_ids (sent_row cmp config (proposed entry (e ∷ es) old).core.state) (sent_id cmp config (proposed entry (e ∷ es) old).core.state) old.leader.progress.voters old.leader.progress.rows;
    rows = λ t p h. sent_rows cmp config (proposed entry (e ∷ es) old).core.state t p old.leader.progress.rows h;
  }

  grown : Grown appended
  grown = subst Grown (sym appended_is) sent_grown

  pub begun_end : last (leader_append_entries cmp entry config (e ∷ es) old).core.state.ids ≡ Some (id_past (length es) old)
  unfolding appended
  begun_end = grown.end

  module _ (mid : Led C NID N E D R S) (h : Proposes cmp entry config e es old mid) where
    appended_sound : IsSoundLed cmp config appended
    unfolding appended
    appended_sound =
        leader_append_kept cmp total same entry named config (e ∷ es) old
        (record {
          own_vote = h.own_vote;
          at_most_one = subst (λ (ms : List (StoredMembership NID N)). length ms ≤ 1) (sym none_in) (omega arith);
          change = subst (λ (ms : List (StoredMembership NID N)). AllByRecursion (λ m. may_change_membership cmp old m.membership ≡ true) ms) (sym none_in) tt;
        }) h.unrefused sound

    done : Led C NID N E D R S
    done = update_local_progress cmp config (Some (id_past (length es) old)) appended

    kept : Kept cmp total same config config.id appended done
    unfolding done acked
    kept = acked_kept cmp total same config payload (id_past (length es) old) appended appended_sound grown.end

    pub begun_sound : IsSoundLed cmp config (leader_append_entries cmp entry config (e ∷ es) old)
    unfolding appended
    begun_sound = appended_sound

    pub begun_kept : Kept cmp total same config config.id (leader_append_entries cmp entry config (e ∷ es) old) (update_local_progress cmp config (Some (id_past (length es) old)) (leader_append_entries cmp entry config (e ∷ es) old))
    unfolding appended done
    begun_kept = kept

    pub ends : last mid.core.state.ids ≡ Some (id_past (length es) old)
    ends = ap (λ (s : RaftState NID N). last s.ids) h.state ∙ (begun_kept.leaves.end ∙ begun_end)

    pub purge_stays : mid.core.state.purge_to ≡ old.core.state.purge_to
    unfolding appended
    purge_stays = ap (λ (s : RaftState NID N). s.purge_to) h.state ∙ (begun_kept.leaves.purge_to ∙ grown.purge_to)

    pub vote_stays : mid.core.state.vote ≡ old.core.state.vote
    unfolding appended
    vote_stays = ap (λ (s : RaftState NID N). s.vote) h.state ∙ (begun_kept.leaves.vote ∙ grown.vote)

    -- A leader that is a quorum alone commits at once
    module _ (member : IsVoter old config.id) (alone : is_quorum cmp old.leader.progress.set (config.id ∷ []) ≡ true) where
      own_in : In config.id (map (λ (row : NID × ProgressEntry NID). row.0) (voter_rows old.leader.progress))
      own_in = contains_in _ config.id member

      own_had : (p : ProgressEntry NID) × (get cmp old.leader.progress config.id ≡ Some p)
      own_had = voter_get cmp total same config.id old.leader.progress.voters old.leader.progress.rows own_in

      own_then : (q : ProgressEntry NID) × (get cmp appended.leader.progress config.id ≡ Some q) × (q.matching ≡ own_had.0.matching)
      own_then = grown.rows config.id own_had.0 own_had.1

      own_short : next own_then.0.matching < next (Some (id_past (length es) old))
      own_short =
          let k : EntryFits cmp old.core.state.ids old.core.state.purged own_had.0 = fits_of cmp total same config config.id old sound own_had.0 own_had.1 in
          let m : next own_then.0.matching ≡ next own_had.0.matching = ap next own_then.2 in
          let a : next own_had.0.matching ≤ own_had.0.searching_end = k.above in
          let b : own_had.0.searching_end ≤ next (last old.core.state.ids) = k.below in
          omega (arith, m, a, b)

      takes : takes_local cmp config (Some (id_past (length es) old)) appended ≡ true
      takes =
          subst (λ (o : Option (ProgressEntry NID)). elim o as (λ _. Bool) [ None ↦ false | Some e ↦ not (is_ge (last_id_cmp cmp e.matching (Some (id_past (length es) old)))) ] ≡ true) (sym own_then.1)
          (go (is_ge (last_id_cmp cmp own_then.0.matching (Some (id_past (length es) old)))) refl)
        where
          go : (b : Bool) → is_ge (last_id_cmp cmp own_then.0.matching (Some (id_past (length es) old))) ≡ b → not b ≡ true
          go false q = refl
          go true q =
              let f : EntryFits cmp appended.core.state.ids appended.core.state.purged own_then.0 = fits_of cmp total same config config.id appended appended_sound own_then.0 own_then.1 in
              let low : is_le (last_id_cmp cmp own_then.0.matching (Some (id_past (length es) old))) ≡ true =
              subst (λ o. is_le (last_id_cmp cmp own_then.0.matching o) ≡ true) grown.end (upto_last cmp total same appended.core.state appended_sound.sound own_then.0.matching f.matching) in
              let high : is_le (last_id_cmp cmp (Some (id_past (length es) old)) own_then.0.matching) ≡ true = ap is_le ((last_total cmp total).antisymm (Some (id_past (length es) old)) own_then.0.matching) ∙ ge_le (last_id_cmp cmp own_then.0.matching (Some (id_past (length es) old))) q in
              let n : next own_then.0.matching ≡ next (Some (id_past (length es) old)) = ap next (same_last cmp total same own_then.0.matching (Some (id_past (length es) old)) (le_antisymm (last_total cmp total) own_then.0.matching (Some (id_past (length es) old)) low high)) in
              let s : next own_then.0.matching < next (Some (id_past (length es) old)) = own_short in
              absurd (omega (arith, n, s))

      law : CommitsLatest cmp appended.core.state.committed done
      unfolding done
      law =
          local_law cmp total same config (Some (id_past (length es) old)) appended takes (x_fits cmp total same config payload (id_past (length es) old) appended appended_sound grown.end) appended_sound

      own_all : HasAll cmp total same config done config.id
      unfolding done acked
      own_all = acked_has cmp total same config payload (id_past (length es) old) appended appended_sound grown.end own_then.0 own_then.1

      own_voter : In config.id (map (λ (row : NID × ProgressEntry NID). row.0) (voter_rows done.leader.progress))
      own_voter = subst (In config.id) (sym (kept.touches.voters ∙ grown.voters)) own_in

      own_of : is_of cmp done.core.state.vote.leader_id (last done.core.state.ids) ≡ true
      own_of =
          subst (λ o. is_of cmp done.core.state.vote.leader_id o ≡ true) (sym (kept.leaves.end ∙ grown.end))
          (subst (λ v. is_of cmp v (Some (id_past (length es) old)) ≡ true) (sym (ap (λ v. v.leader_id) (kept.leaves.vote ∙ grown.vote))) (vote_eq_leader cmp old.leader.vote old.core.state.vote h.own_vote))

      done_commits : done.core.state.committed ≡ last done.core.state.ids
      done_commits =
          all_committed cmp total same config appended.core.state.committed done kept.sound.sound law own_of config.id []
          ((own_all.0, in_contains _ _ (voter_has cmp total same config.id own_all.0 done.leader.progress.voters done.leader.progress.rows own_all.1 own_voter), own_all.2), tt)
          (subst (λ g. is_quorum cmp g (config.id ∷ []) ≡ true) (sym (kept.touches.set ∙ grown.set)) alone)

      pub alone_commits : mid.core.state.committed ≡ Some (id_past (length es) old)
      unfolding done appended
      alone_commits = ap (λ (s : RaftState NID N). s.committed) h.state ∙ (done_commits ∙ (kept.leaves.end ∙ grown.end))

    module _ (t : NID) (ts : List NID) (once : EachOnce (config.id ∷ t ∷ ts)) (voters : AllByRecursion (IsVoter old) (config.id ∷ t ∷ ts)) (quorum : is_quorum cmp old.leader.progress.set (config.id ∷ t ∷ ts) ≡ true) where
      each_voter : (us : List NID) → AllByRecursion (IsVoter old) us → (u : NID) → In u us → In u (map (λ (row : NID × ProgressEntry NID). row.0) (voter_rows old.leader.progress))
      each_voter [] a u i = absurd i
      each_voter (v ∷ us) a u (inl q) = subst (λ w. In w (map (λ (row : NID × ProgressEntry NID). row.0) (voter_rows old.leader.progress))) q (contains_in _ v a.0)
      each_voter (v ∷ us) a u (inr m) = each_voter us a.1 u m

      had : (u : NID) → In u (config.id ∷ t ∷ ts) → (p : ProgressEntry NID) × (get cmp old.leader.progress u ≡ Some p)
      had u i = voter_get cmp total same u old.leader.progress.voters old.leader.progress.rows (each_voter (config.id ∷ t ∷ ts) voters u i)

      leads : Leads cmp total same config payload old.leader.progress.set (id_past (length es) old) config.id (t ∷ ts) quorum done
      leads = record {
        sound = kept.sound;
        low =
            let to : next done.core.state.purge_to ≡ next old.core.state.purge_to = ap next (kept.leaves.purge_to ∙ grown.purge_to) in
            let end : next (last done.core.state.ids) ≡ next (last old.core.state.ids) + length es + 1 = ap next (kept.leaves.end ∙ grown.end) in
            let low : next old.core.state.purge_to ≤ next (last old.core.state.ids) = target_low cmp total same old.core.state sound.sound in
            omega (arith, to, end, low);
        end = kept.leaves.end ∙ grown.end;
        own = subst (λ v. is_of cmp v (Some (id_past (length es) old)) ≡ true) (sym (ap (λ v. v.leader_id) (kept.leaves.vote ∙ grown.vote))) (vote_eq_leader cmp old.leader.vote old.core.state.vote h.own_vote);
        set = kept.touches.set ∙ grown.set;
        voters = λ u i. subst (In u) (sym (kept.touches.voters ∙ grown.voters)) (each_voter (config.id ∷ t ∷ ts) voters u i);
      }

      own_has : HasAll cmp total same config done config.id
      unfolding done acked
      own_has =
          let p = had config.id (inl refl) in
          let q = grown.rows config.id p.0 p.1 in
          acked_has cmp total same config payload (id_past (length es) old) appended appended_sound grown.end q.0 q.1

      each_behind : (us : List NID) → ((u : NID) → In u us → In u (config.id ∷ t ∷ ts)) → AllByRecursion (λ u. u ≢ config.id) us → AllByRecursion (IsBehind cmp total same config done) us
      each_behind [] f d = tt
      each_behind (u ∷ us) f d =
          let p = had u (f u (inl refl)) in
          let q = grown.rows u p.0 p.1 in
          let k : EntryFits cmp old.core.state.ids old.core.state.purged p.0 = fits_of cmp total same config u old sound p.0 p.1 in
          let end : next (last done.core.state.ids) ≡ next (last old.core.state.ids) + length es + 1 = ap next (kept.leaves.end ∙ grown.end) in
          let m : next q.0.matching ≡ next p.0.matching = ap next q.2 in
          ((q.0, kept.touches.others u (differs cmp same u config.id d.0) ∙ q.1, omega (arith, m, end, k.above, k.below)), each_behind us (λ w i. f w (inr i)) d.1)

      left : Left cmp total same config payload old.leader.progress.set (id_past (length es) old) config.id (t ∷ ts) quorum t ts done
      left = record { leads = leads; known = known; behind = each_behind (t ∷ ts) (λ u i. inr i) once.0 }
        where
          known : (u : NID) → In u (config.id ∷ t ∷ ts) → In u (t ∷ ts) ⊎ HasAll cmp total same config done u
          known u (inl q) = inr (subst (HasAll cmp total same config done) q own_has)
          known u (inr m) = inl m

      -- a leader is what it is by its leader and its state
      left_moved : Left cmp total same config payload old.leader.progress.set (id_past (length es) old) config.id (t ∷ ts) quorum t ts mid
      unfolding done appended
      left_moved =
          let a : Left cmp total same config payload old.leader.progress.set (id_past (length es) old) config.id (t ∷ ts) quorum t ts (record { leader = mid.leader; core = record done.core { state = mid.core.state } }) =
          subst (λ (g : JointLeader C NID N E D R S). Left cmp total same config payload old.leader.progress.set (id_past (length es) old) config.id (t ∷ ts) quorum t ts (record { leader = g; core = record done.core { state = mid.core.state } })) (sym h.leader)
          (subst (λ (s : RaftState NID N). Left cmp total same config payload old.leader.progress.set (id_past (length es) old) config.id (t ∷ ts) quorum t ts (record { leader = done.leader; core = record done.core { state = s } })) (sym h.state) left) in
          record {
            leads = record { sound = record { sound = a.leads.sound.sound; leader_fits = a.leads.sound.leader_fits }; low = a.leads.low; end = a.leads.end; own = a.leads.own; set = a.leads.set; voters = a.leads.voters };
            known = a.known;
            behind = a.behind;
          }

      pub proposal_commits : (new : Led C NID N E D R S) → ReplicatedTo cmp config (t ∷ ts) mid new → new.core.state.committed ≡ Some (id_past (length es) old)
      proposal_commits new r = replicated cmp total same config payload old.leader.progress.set (id_past (length es) old) config.id (t ∷ ts) quorum t ts mid new left_moved once.1 r
