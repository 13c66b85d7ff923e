-- The law of a leader's committed id, behind the append that told it.
use Rattle.std.proofs.Common.{ℕ, suc, ◌+◌, ◌<◌, ◌≤◌, ◌≡◌, ◌⊎◌, inl, inr, ⊎_elim, Bool, true, false, cond, List, [], ◌∷◌, ◌++◌, length, arith, refl, sym, ap, ◌∙◌, subst, true≢false, Option, None, Some, append-nil}
use Rattle.std.specs.List.{AllByRecursion}
use Rattle.std.specs.Prelude.{IfSome, if◌then◌else◌, ◌||◌}
use Rattle.std.specs.Ordering.{is_eq, is_le, is_lt, nat_cmp, ordering_then}
use Rattle.std.proofs.lemmas.Bool.{cases_lt, cond_both, both_ways, or_cases}
use Rattle.std.proofs.lemmas.Bool.Decides.{nat_tests}
use Rattle.std.proofs.lemmas.Cmp.{nat_cmp_total}
use Rattle.raft_node.specs.raft_state.declared.ids.LeaderId.{LeaderId}
use Rattle.raft_node.specs.raft_state.declared.ids.LogId.{LogId}
use Rattle.raft_node.specs.raft_state.declared.ids.Vote.{Vote}
use Rattle.raft_node.specs.raft_state.declared.membership.Members.{Members}
use Rattle.raft_node.specs.raft_state.Fits.{fits, is_within}
use Rattle.raft_node.specs.raft_state.Invariants.{IsSoundState, AcceptedRecord}
use Rattle.raft_node.specs.raft_state.Log.{at}
use Rattle.raft_node.specs.raft_state.Order.{next, last_id_cmp, leader_id_cmp}
use Rattle.raft_node.specs.raft_state.Policy.{should_snapshot}
use Rattle.raft_node.specs.raft_state.Same.{nat_same}
use Rattle.raft_node.specs.raft_state.State.{accepted, accepted_under, commit, commits, settle}
use Rattle.raft_node.proofs.raft_state_proofs.Orders.{le_lt, lt_of_gt, lt_is_le, lt_not_ge, last_total, within_le}
use Rattle.raft_node.specs.raft_command.Push.{ordered as ordered_payload, committed_upto}
use Rattle.raft_node.specs.raft_command.Queue.{queued}
use Rattle.raft_node.specs.raft_command.declared.command.Command.TheVariants as command
use Rattle.raft_node.specs.raft_command.declared.config.EngineConfig.{EngineConfig}
use Rattle.raft_node.specs.raft_command.declared.sm.CommandPayload.TheVariants as payload
use Rattle.raft_node.specs.raft_steps.Commit.{commit_by}
use Rattle.raft_node.specs.raft_steps.Conditions.{IsFollowing}
use Rattle.raft_node.specs.raft_steps.FollowingHandler.{commit_target, commit_entries}
use Rattle.raft_node.specs.raft_steps.Parts.{on_core}
use Rattle.raft_node.specs.raft_steps.RequestRefusals.{is_missing, refusals_of_commit}
use Rattle.raft_node.specs.raft_steps.Requests.{handle_commit_entries}
use Rattle.raft_node.specs.raft_steps.SnapshotHandler.{trigger_snapshot, snapshot_where_due}
use Rattle.raft_node.proofs.raft_steps_proofs.EntryLaws.{fits_le}
use Rattle.raft_node.proofs.raft_steps_proofs.Kept.{commit_by_case}
use Rattle.raft_node.proofs.raft_steps_proofs.Unrefused.{test_fails, neither}
use Rattle.raft_node.specs.raft_error.declared.error.EngineError.TheVariants.{CommittedNotHeld}
use Rattle.proof_agreement.specs.Machine.{Setup, start}
use Rattle.proof_agreement.specs.Stores.{Append, whole, entry_at}
use Rattle.proof_agreement.specs.Deeds.{FollowerCommit, FromLeader, MayAccept, MayCommit, with_committed}
use Rattle.proof_agreement.proofs.StoresBridge.{told_below}
use Rattle.raft_node.specs.raft_store.declared.entry.Entry.{Entry}
use Rattle.raft_node.specs.raft_store.Entries.{entry_meaning}
use Rattle.raft_node.specs.raft_store.Store as store
use Rattle.raft_node.specs.raft_store.Types.{WorldStore, WorldCommand, WorldMachine}
use Rattle.proof_mirror.specs.Ready.{InStep, CommitFits}
use Rattle.proof_mirror.proofs.Commits.{step_commit}
use Rattle.proof_mirror.proofs.Shape.{Shape, shape_of}
use Rattle.proof_mirror.proofs.Sound.{held_commit}
use Rattle.raft_node.specs.raft_calls.declared.message.Body.TheVariants as body
use Rattle.raft_node.specs.raft_calls.declared.message.Message.{Message}
use Rattle.raft_node.specs.raft_calls.declared.message.Origin.{Origin}
use Rattle.raft_node.specs.declared.node.Turn.{Turn}
use Rattle.proof_deeds.specs.Chains.{left_by, stored, Done, Carried, Does}
use Rattle.proof_deeds.specs.Follows.{AppendSent}
use Rattle.proof_deeds.specs.Images.{Ideal, IdealStore, IsNamed, IdNamed, number, last_number, image, setup_of}
use Rattle.proof_deeds.specs.Knows.{KnowsLed, Knows, Delivered, CarriedIn, Stands}
use Rattle.proof_deeds.proofs.AppendCalls.{knows_by}
use Rattle.proof_deeds.proofs.AppendLaws.{sent_in}
use Rattle.proof_deeds.proofs.AppendTails.{at_whole, named_at}
use Rattle.proof_deeds.proofs.Appends.{follows_on_from}
use Rattle.proof_deeds.proofs.CommitPushes.{done_commit}
use Rattle.proof_deeds.proofs.Granting.{due_stands}
use Rattle.proof_deeds.proofs.Noting.{carried_noted}
use Rattle.proof_deeds.proofs.Keeps.{Keeps, known_in}
use Rattle.proof_deeds.proofs.Numbers.{Order, below, same, above, ordered}
use Rattle.proof_deeds.proofs.Pushes.{Tail, push, carry, left_more}
use Rattle.proof_deeds.proofs.Roles.{WorldCore, WorldState}
use Rattle.proof_deeds.proofs.Tails.{index, tail_vote, tail_committed}
use Rattle.proof_deeds.proofs.Worlds.{Within, done_does}

is_below : (a b : ℕ) → a < b → is_lt (nat_cmp a b) ≡ true
is_below a b l = grind (arith, nat_tests)

-- an id whose leader isn't above another's, at a lower index, is below it
pub id_below : (x y : LogId ℕ) → IsNamed x.leader_id → IsNamed y.leader_id → number x.leader_id ≤ number y.leader_id → x.index < y.index → is_lt (last_id_cmp nat_cmp (Some x) (Some y)) ≡ true
id_below x y n k l i = go (ordered x.leader_id y.leader_id n k) where
  go : Order x.leader_id y.leader_id → is_lt (last_id_cmp nat_cmp (Some x) (Some y)) ≡ true
  go (below q m) = ap (λ o. is_lt (ordering_then o (nat_cmp x.index y.index))) q
  go (same q m) = ap (λ o. is_lt (ordering_then o (nat_cmp x.index y.index))) q ∙ is_below x.index y.index i
  go (above q m) = absurd (omega (arith, l, m))

module _ (st : WorldState) (sound : IsSoundState nat_cmp st) where
  -- what was accepted of the vote's leader fits the log, or is committed
  pub accepted_fits : (a : LogId ℕ) → accepted nat_cmp st ≡ Some a → (fits nat_cmp st.ids st.purged (Some a) || is_within nat_cmp (Some a) st.committed) ≡ true
  accepted_fits a e = held st.accepted_by sound.accepted e where
    held : (o : Option (LeaderId ℕ × LogId ℕ)) → IfSome o (λ r. AcceptedRecord nat_cmp st.vote.leader_id r.0 r.1 st.ids st.purged st.committed) → accepted_under nat_cmp st.vote.leader_id o ≡ Some a → (fits nat_cmp st.ids st.purged (Some a) || is_within nat_cmp (Some a) st.committed) ≡ true
    held None h q = cc
    held (Some r) h q = go (is_eq (leader_id_cmp nat_cmp r.0 st.vote.leader_id)) refl q where
      go : (b : Bool) → is_eq (leader_id_cmp nat_cmp r.0 st.vote.leader_id) ≡ b → (let z : Option (LogId ℕ) = if b then Some r.1 else None in z) ≡ Some a → (fits nat_cmp st.ids st.purged (Some a) || is_within nat_cmp (Some a) st.committed) ≡ true
      go true p q = let z : r.1 ≡ a = cc in subst (λ x. (fits nat_cmp st.ids st.purged (Some x) || is_within nat_cmp (Some x) st.committed) ≡ true) z (h.held p)
      go false p q = cc

  -- an id of the log past the committed one, below what was accepted, is at a lower index
  accepted_past : (a y : LogId ℕ) → accepted nat_cmp st ≡ Some a → at st.ids y.index ≡ Some y → commits nat_cmp st (Some y) ≡ true → is_lt (last_id_cmp nat_cmp (Some y) (Some a)) ≡ true → y.index < a.index
  accepted_past a y e f g l = ⊎_elim (λ z. z) (λ z. absurd (contradiction z)) (cases_lt y.index a.index) where
    not_le : is_le (last_id_cmp nat_cmp (Some a) (Some y)) ≡ false
    not_le = lt_not_ge (last_total nat_cmp nat_cmp_total) (Some y) (Some a) l

    contradiction : a.index ≤ y.index → ⊥
    contradiction z =
        ⊎_elim
        (λ q. both_ways (is_le (last_id_cmp nat_cmp (Some a) (Some y))) not_le (fits_le nat_cmp nat_cmp_total nat_same _ _ _ _ _ _ _ sound a y q f z))
        (λ q.
        both_ways (is_le (last_id_cmp nat_cmp (Some a) (Some y))) not_le
        (lt_is_le _ (le_lt (last_total nat_cmp nat_cmp_total) (Some a) st.committed (Some y) (within_le nat_cmp nat_cmp_total (Some a) st.committed q)
        (lt_of_gt (last_total nat_cmp nat_cmp_total) (Some y) st.committed g))))
        (or_cases (fits nat_cmp st.ids st.purged (Some a)) (is_within nat_cmp (Some a) st.committed) (accepted_fits a e))

module _ (s : Setup Entry) (t : Turn) (config : EngineConfig ℕ) (u : WorldStore) (W : Ideal) (v : LeaderId ℕ) where
  -- what is known of a machine stays so where its store keeps all that it holds, and its session
  abbrev pub StaysKnown : (Ideal → Type 0) → Type 0
  StaysKnown K = (V X : Ideal) → Does s V X → Keeps s (V.store t.id) (X.store t.id) → (X.store t.id).session ≡ (V.store t.id).session → K V → K X

  -- a snapshot is built where it is due
  pub carried_due : (c : WorldCore) (K : Ideal → Type 0) → StaysKnown K → InStep entry_meaning (left_by u c.output.items) c.state → Carried s t v u W c.output.items K → Carried s t v u W (snapshot_where_due config c).output.items K
  unfolding snapshot_where_due trigger_snapshot
  carried_due c K f j h =
      cond_both (should_snapshot config.snapshot_policy c.state) (trigger_snapshot c) c (λ (z : WorldCore). Carried s t v u W z.output.items K)
      (λ _. cond_both c.state.building c (record { state = record c.state { building = true }; output = ordered_payload c.output payload.BuildSnapshot }) (λ (z : WorldCore). Carried s t v u W z.output.items K)
      (λ _. h)
      (λ _. carried_noted s t u W v c K K j f h))
      (λ _. h)

  -- an id of the log past the committed index is committed
  pub carried_upto : (y : LogId ℕ) (c : WorldCore) (K : Ideal → Type 0) → StaysKnown K → InStep entry_meaning (left_by u c.output.items) c.state → at c.state.ids y.index ≡ Some y → next c.state.committed ≤ y.index → commits nat_cmp c.state (Some y) ≡ true
      → ((V : Ideal) → Tail s t v u W c.output.items V → K V → (r : Append Entry) × (k : ℕ) × (x : ℕ) × (told : Append Entry) × MayCommit s V t.id r k x told (suc y.index))
      → Carried s t v u W c.output.items K
      → Carried s t v u W (snapshot_where_due config (record { state = commit nat_cmp c.state (Some y); output = committed_upto (queued c.output []) c.state.committed y })).output.items K
  carried_upto y c K f j e l g may h =
      carried_due (record { state = commit nat_cmp c.state (Some y); output = committed_upto (queued c.output []) c.state.committed y }) K f after_step
      (push s t v u W (c.output.items ++ []) told K K (subst (λ cs. Carried s t v u W cs K) (sym (append-nil c.output.items)) h)
      (λ V z k. by V (subst (λ cs. Tail s t v u W cs V) (append-nil c.output.items) z) k))
    where
      T : WorldStore
      T = left_by u c.output.items

      told : WorldCommand
      told = command.Commit (c.output.seq + 1) c.state.committed y

      same_left : left_by u (c.output.items ++ []) ≡ left_by u c.output.items
      same_left = ap (left_by u) (append-nil c.output.items)

      shape : Shape entry_meaning (left_by u c.output.items) c.state
      shape = shape_of entry_meaning (left_by u c.output.items) c.state j.mirrors j.marks

      step : InStep entry_meaning (record T { saved = Some y; applied = T.applied ++ store.due T y }) (record (settle nat_cmp c.state (Some y)) { committed = Some y })
      step = step_commit entry_meaning nat_cmp (left_by u c.output.items) c.state y j e l

      after_step : InStep entry_meaning (left_by u ((c.output.items ++ []) ++ told ∷ [])) (commit nat_cmp c.state (Some y))
      after_step =
          subst (λ w. InStep entry_meaning w (commit nat_cmp c.state (Some y))) (sym (left_more u (c.output.items ++ []) (told ∷ []) ∙ ap (stored told) same_left))
          (subst (λ b. InStep entry_meaning (stored told T) (if b then record (settle nat_cmp c.state (Some y)) { committed = Some y } else c.state)) (sym g) step)

      by : (V : Ideal) → Tail s t v u W c.output.items V → K V → (X : Ideal) × Done s t v (left_by u (c.output.items ++ [])) told V X × K X
      by V z k =
          let q : (r : Append Entry) × (i : ℕ) × (x : ℕ) × (told : Append Entry) × MayCommit s V t.id r i x told (suc y.index) = may V z k in
          let m : MayCommit s V t.id q.0 q.1 q.2 q.3 (suc y.index) = q.4 in
          let snap : length T.snap ≤ y.index = omega (arith, shape.settled, l) in
          let g : (length (T.applied ++ store.due T y) ≡ suc y.index) × (AllByRecursion (λ e. entry_at s (whole (V.store t.id)) (index e) ≡ image e) (store.due T y) × AllByRecursion (λ e. index e < suc y.index) (store.due T y)) =
          due_stands s t u W T (V.store t.id) c.state y z.store j e l in
          let d : (X : Ideal) × Done s t v T told V X × Within V X × (X.store t.id ≡ with_committed s (V.store t.id) (suc y.index)) =
          done_commit s t v T (c.output.seq + 1) c.state.committed y (FollowerCommit t.id q.0 q.1 q.2 q.3 (suc y.index)) V z.store refl m tt tt refl
          (at_whole s T (V.store t.id) c.state z.store j y.index y snap e).1 (named_at s T (V.store t.id) c.state z.store j y.index y snap e) g.0 g.1.0 g.1.1 in
          let X : Ideal = d.0 in
          let w : X.store t.id ≡ with_committed s (V.store t.id) (suc y.index) = d.3 in
          let cm : (X.store t.id).committed ≡ suc y.index = ap (λ (Z : IdealStore). Z.committed) w in
          let low : (V.store t.id).committed ≤ suc y.index = m.higher in (
            X,
            subst (λ a. Done s t v a told V X) (sym same_left) d.1,
            f V X (done_does s t v (left_by u c.output.items) told V X d.1) (record {
              vote = ap (λ (Z : IdealStore). Z.vote) w;
              vote_committed = ap (λ (Z : IdealStore). Z.vote_committed) w;
              committed = omega (arith, cm, low);
              holds = λ i x p. ⊎_elim (λ a. inl (omega (arith, a, cm, low))) (λ a. inr (subst (λ (Z : IdealStore). (i < length (whole Z)) × ((entry_at s (whole Z) i).leader ≡ x)) (sym w) a)) p;
            }) (ap (λ (Z : IdealStore). Z.session) w) k,
          )

kept_known : (s : Setup Entry) (t : Turn) (config : EngineConfig ℕ) (u : WorldStore) (W : Ideal) (v : LeaderId ℕ) (m : WorldMachine) → StaysKnown s t config u W v (Knows s t.id m)
kept_known s t config u W v m V X came k e h = known_in s t.id V X came m k e h

module _ (first : Members ℕ (Unit {0})) (t : Turn) (config : EngineConfig ℕ) (u : WorldStore) (W : Ideal) (msg : Message) (o : Origin) (prev : Option (LogId ℕ)) (es : List Entry) (told : Option (LogId ℕ)) (d : Delivered (setup_of first) t W msg) (b : msg.body ≡ body.AppendRequest o prev es told)
    (m : WorldMachine) (st : Stands (setup_of first) t config u W m) (follows : IsFollowing nat_cmp m) (vote : m.core.state.vote ≡ o.session_id.vote) (asks : refusals_of_commit nat_cmp told m ≡ None)
  where
    pub a : AppendSent (setup_of first) t.id o prev es told W
    a = sent_in first t config u W msg o prev es told d b

    -- what may be committed of what the leader told
    pub may : (y : LogId ℕ) → commit_target nat_cmp m.core.state told ≡ Some y → at m.core.state.ids y.index ≡ Some y → next m.core.state.committed ≤ y.index → commits nat_cmp m.core.state (Some y) ≡ true
        → (V : Ideal) → Tail (setup_of first) t m.core.state.vote.leader_id u W m.core.output.items V → Knows (setup_of first) t.id m V → (r : Append Entry) × (k : ℕ) × (x : ℕ) × MayCommit (setup_of first) V t.id r k x a.request (suc y.index)
    may y target e l g V z k = go (is_lt (last_id_cmp nat_cmp told (accepted nat_cmp m.core.state))) (accepted nat_cmp m.core.state) told refl refl refl target k.state where
      j : InStep entry_meaning (left_by u m.core.output.items) m.core.state
      j = st.pending.core.in_step

      committed : (V.store t.id).committed ≡ next m.core.state.committed
      committed = tail_committed (setup_of first) (left_by u m.core.output.items) (V.store t.id) m.core.state z.store j

      from : FromLeader V (V.store t.id) a.request
      from = record {
        sent = z.within.messages _ a.sent;
        session = a.is.session ∙ sym (tail_vote (setup_of first) (left_by u m.core.output.items) (V.store t.id) m.core.state z.store j ∙ ap (λ (w : Vote ℕ). number w.leader_id) vote);
      }

      snap : length (left_by u m.core.output.items).snap ≤ y.index
      snap = let h : length (left_by u m.core.output.items).snap ≤ next m.core.state.committed = (shape_of entry_meaning (left_by u m.core.output.items) m.core.state j.mirrors j.marks).settled in omega (arith, h, l)

      named : IsNamed y.leader_id
      named = named_at (setup_of first) (left_by u m.core.output.items) (V.store t.id) m.core.state z.store j y.index y snap e

      result : (r : Append Entry) (i x : ℕ) → MayAccept (setup_of first) V t.id r i x → y.index ≤ i → suc y.index ≤ a.request.committed → (r : Append Entry) × (k : ℕ) × (x : ℕ) × MayCommit (setup_of first) V t.id r k x a.request (suc y.index)
      result r i x h q p = (r, i, x, record { accepted = h; told_by_leader = from; held = omega (arith, q); told_so = p; higher = omega (arith, committed, l) })

      told_is : (q : Option (LogId ℕ)) → told ≡ q → a.request.committed ≡ next q
      told_is q f = a.is.committed ∙ ap next f

      -- what was accepted, where that isn't above what was told
      whole_accepted : (q : Option (LogId ℕ)) → told ≡ q → is_lt (last_id_cmp nat_cmp q (Some y)) ≡ false → ((r : Append Entry) × MayAccept (setup_of first) V t.id r y.index (number y.leader_id)) ⊎ (y.index < (V.store t.id).committed) → (r : Append Entry) × (k : ℕ) × (x : ℕ) × MayCommit (setup_of first) V t.id r k x a.request (suc y.index)
      whole_accepted q f n h = ⊎_elim (λ p. result p.0 y.index (number y.leader_id) p.1 (omega arith) (enough q f n p.0 p.1)) (λ p. absurd (omega (arith, p, committed, l))) h where
        enough : (q : Option (LogId ℕ)) → told ≡ q → is_lt (last_id_cmp nat_cmp q (Some y)) ≡ false → (r : Append Entry) → MayAccept (setup_of first) V t.id r y.index (number y.leader_id) → suc y.index ≤ a.request.committed
        enough None f n r p = absurd (true≢false n)
        enough (Some x) f n r p =
            let c : a.request.committed ≡ x.index + 1 = told_is (Some x) f in
            ⊎_elim
            (λ i.
            let low : a.request.committed_leader ≤ number y.leader_id =
            told_below (setup_of first) (start (setup_of first)) V (follows_on_from (setup_of first) W V st.reached z.came) r p.request.sent a.request y.index (number y.leader_id) from.sent (from.session ∙ sym p.request.session) p.names (omega (arith, c, i)) in
            let ld : a.request.committed_leader ≡ number x.leader_id = a.is.committed_leader ∙ ap last_number f in
            absurd (both_ways (is_lt (last_id_cmp nat_cmp (Some x) (Some y))) n (id_below x y (subst IdNamed f a.told_named) named (omega (arith, low, ld)) i)))
            (λ i. omega (arith, c, i))
            (cases_lt x.index y.index)

      go : (low : Bool) (p q : Option (LogId ℕ)) → is_lt (last_id_cmp nat_cmp told (accepted nat_cmp m.core.state)) ≡ low → accepted nat_cmp m.core.state ≡ p → told ≡ q → cond low q p ≡ Some y
          → IfSome p (λ x. ((r : Append Entry) × MayAccept (setup_of first) V t.id r x.index (number x.leader_id)) ⊎ (x.index < (V.store t.id).committed)) → (r : Append Entry) × (k : ℕ) × (x : ℕ) × MayCommit (setup_of first) V t.id r k x a.request (suc y.index)
      go true None q c f i w h = absurd (let n : is_lt (last_id_cmp nat_cmp (Some y) None) ≡ true = subst (λ p. is_lt (last_id_cmp nat_cmp (Some y) p) ≡ true) f (subst (λ p. is_lt (last_id_cmp nat_cmp p (accepted nat_cmp m.core.state)) ≡ true) (i ∙ w) c) in true≢false (sym n))
      go true (Some x) q c f i w h =
          let n : is_lt (last_id_cmp nat_cmp (Some y) (Some x)) ≡ true = subst (λ p. is_lt (last_id_cmp nat_cmp (Some y) p) ≡ true) f (subst (λ p. is_lt (last_id_cmp nat_cmp p (accepted nat_cmp m.core.state)) ≡ true) (i ∙ w) c) in
          let past : y.index < x.index = accepted_past m.core.state st.sound.sound x y f e g n in
          let tc : a.request.committed ≡ y.index + 1 = told_is (Some y) (i ∙ w) in
          ⊎_elim (λ p. result p.0 x.index (number x.leader_id) p.1 (omega (arith, past)) (omega (arith, tc))) (λ p. absurd (omega (arith, p, past, committed, l))) h
      go false p q c f i w h =
          whole_accepted q i (subst (λ z. is_lt (last_id_cmp nat_cmp q z) ≡ false) (f ∙ w) (subst (λ z. is_lt (last_id_cmp nat_cmp z (accepted nat_cmp m.core.state)) ≡ false) i c))
          (subst (λ z. IfSome z (λ x. ((r : Append Entry) × MayAccept (setup_of first) V t.id r x.index (number x.leader_id)) ⊎ (x.index < (V.store t.id).committed))) w h)

    same_accepted : (x : Option (LogId ℕ)) → (accepted nat_cmp (commit_by nat_cmp config [] x m.core).state ≡ accepted nat_cmp m.core.state) × ((commit_by nat_cmp config [] x m.core).state.vote ≡ m.core.state.vote)
    unfolding commit_by
    same_accepted None = (refl, refl)
    same_accepted (Some y) = commit_by_case nat_cmp nat_cmp_total nat_same config (λ (c : WorldCore). (accepted nat_cmp c.state ≡ accepted nat_cmp m.core.state) × (c.state.vote ≡ m.core.state.vote)) [] y m.core (λ _. (refl, refl)) (λ _ cm building q. (refl, refl))

    committed_upto_target : (x : Option (LogId ℕ)) → commit_target nat_cmp m.core.state told ≡ x → IfSome x (CommitFits nat_cmp m.core.state) → Carried (setup_of first) t m.core.state.vote.leader_id u W (commit_by nat_cmp config [] x m.core).output.items (Knows (setup_of first) t.id m)
    unfolding commit_by
    committed_upto_target None e f = st.carried
    committed_upto_target (Some y) e f =
        let done : WorldCore = record { state = commit nat_cmp m.core.state (Some y); output = committed_upto (queued m.core.output []) m.core.state.committed y } in
        cond_both (commits nat_cmp m.core.state (Some y)) (snapshot_where_due config done) m.core (λ (z : WorldCore). Carried (setup_of first) t m.core.state.vote.leader_id u W z.output.items (Knows (setup_of first) t.id m))
        (λ g.
        let p : (at m.core.state.ids y.index ≡ Some y) × (next m.core.state.committed ≤ y.index) = f g in
        carried_upto (setup_of first) t config u W m.core.state.vote.leader_id y m.core (Knows (setup_of first) t.id m) (kept_known (setup_of first) t config u W m.core.state.vote.leader_id m) st.pending.core.in_step p.0 p.1 g (λ V z k. let w : (r : Append Entry) × (k : ℕ) × (x : ℕ) × MayCommit (setup_of first) V t.id r k x a.request (suc y.index) = may y e p.0 p.1 g V z k in (w.0, w.1, w.2, a.request, w.3)) st.carried)
        (λ _. st.carried)

    -- the call
    pub carried_commit : CarriedIn (setup_of first) t u W (handle_commit_entries nat_cmp entry_meaning config told m)
    unfolding handle_commit_entries commit_entries
    carried_commit =
        let x : Option (LogId ℕ) = commit_target nat_cmp m.core.state told in
        let after : WorldMachine = on_core (λ c. commit_by nat_cmp config [] (commit_target nat_cmp c.state told) c) m in
        let q : (accepted nat_cmp after.core.state ≡ accepted nat_cmp m.core.state) × (after.core.state.vote ≡ m.core.state.vote) = same_accepted x in
        let f : IfSome x (CommitFits nat_cmp m.core.state) = held_commit nat_cmp nat_cmp_total nat_same m.core.state st.sound.sound x (test_fails (is_missing nat_cmp m.core.state x) CommittedNotHeld None (neither _ _ asks).1).0 in
        subst (λ w. Carried (setup_of first) t w u W after.core.output.items (Knows (setup_of first) t.id after)) (sym (ap (λ (w : Vote ℕ). w.leader_id) q.1))
        (carry (setup_of first) t m.core.state.vote.leader_id u W after.core.output.items (Knows (setup_of first) t.id m) (Knows (setup_of first) t.id after) (committed_upto_target x refl f)
        (λ V _ k. record {
          state = knows_by (setup_of first) t.id m.core.state after.core.state V q.0 k.state;
          leader = subst (λ l. IfSome l (λ l. KnowsLed (setup_of first) t.id after.core.state l V)) (sym follows.no_leader) tt;
          candidate = k.candidate;
          alone = k.alone;
        }))
