-- The committed membership of an engine that starts is settled: of two or more memberships of the whole log it is the
-- last but one, which was decided; the only one is the first entry's. What the start does then keeps it.
use Rattle.std.proofs.Common.{ℕ, ◌+◌, ◌<◌, ◌≤◌, ◌≡◌, ◌⊎◌, inl, inr, ◌∙◌, Bool, true, false, List, [], ◌∷◌, length, arith, refl, sym, ap, subst, Option, None, Some}
use Rattle.std.specs.Prelude.{IfSome, nat_le, if◌then◌else◌}
use Rattle.std.specs.List.{cons_option}
use Rattle.std.specs.Option.{option_map}
use Rattle.std.specs.Ordering.{nat_cmp}
use Rattle.std.proofs.lemmas.Bool.{cond_both}
use Rattle.std.proofs.lemmas.Bool.Decides.{nat_tests}
use Rattle.std.proofs.lemmas.List.{length-map}
use Rattle.raft_node.specs.raft_state.declared.ids.LogId.{LogId}
use Rattle.raft_node.specs.raft_state.declared.ids.Vote.{Vote}
use Rattle.raft_node.specs.raft_state.declared.membership.Members.{Members}
use Rattle.raft_node.specs.raft_state.Log.{last}
use Rattle.raft_node.specs.raft_state.Order.{next}
use Rattle.raft_node.specs.raft_state.State.{is_leader}
use Rattle.raft_node.specs.raft_command.declared.config.EngineConfig.{EngineConfig}
use Rattle.raft_node.specs.raft_steps.FollowingHandler.{memberships_in}
use Rattle.raft_node.specs.raft_steps.Parts.{idle, leading, led_of, on_core, on_leader, with_state}
use Rattle.raft_node.specs.raft_steps.Refusals.{blank_is_at_end}
use Rattle.raft_node.specs.raft_steps.ReplicationHandler.{initiate_replication, update_local_progress}
use Rattle.raft_node.specs.raft_steps.Starts.{is_settled, lead_on, leader_step_down, started_role, startup}
use Rattle.raft_node.specs.raft_steps.VoteHandler.{update_internal_server_state}
use Rattle.raft_node.proofs.raft_steps_proofs.Marks.{SameMarks, internal_marks}
use Rattle.proof_agreement.specs.Machine.{last_membership, start}
use Rattle.proof_agreement.specs.Stores.{entry_at, whole}
use Rattle.proof_agreement.proofs.Memberships.{last-is}
use Rattle.proof_agreement.proofs.StoresBridge.{begins_first}
use Rattle.proof_agreement.proofs.StoresFollow.{StoresFollow}
use Rattle.raft_node.specs.raft_store.declared.entry.Entry.{Entry}
use Rattle.raft_node.specs.raft_store.Entries.{entry_meaning, members_of}
use Rattle.raft_node.specs.raft_store.Mirror.{last_two, none}
use Rattle.raft_node.specs.raft_store.Restart.{restarted, started}
use Rattle.raft_node.specs.raft_store.Store as store
use Rattle.raft_node.specs.raft_store.Types.{WorldLeader, WorldMachine, WorldStore}
use Rattle.raft_node.proofs.raft_store_proofs.Lists.{Run}
use Rattle.proof_mirror.specs.Ready.{InStep}
use Rattle.proof_mirror.proofs.Shape.{shape_of, whole_run}
use Rattle.raft_node.specs.declared.node.Turn.{Turn}
use Rattle.raft_node.specs.raft_calls.Elections.{first_entry}
use Rattle.raft_node.specs.raft_calls.Feeds.{WorldLed}
use Rattle.proof_deeds.specs.Chains.{Carried, Reached}
use Rattle.proof_deeds.specs.Follows.{StoreIs}
use Rattle.proof_deeds.specs.Images.{Ideal, IdealEntry, image, images, number, setup_of}
use Rattle.proof_deeds.specs.Knows.{Knows, Stands}
use Rattle.proof_deeds.proofs.AppendFitting.{Placed, Settled, SettledBy, both_stand_any, member_placed}
use Rattle.proof_deeds.proofs.AppendKept.{two_at}
use Rattle.proof_deeds.proofs.AppendMembers.{Risen, WorldMembership, rises, whole_two}
use Rattle.proof_deeds.proofs.AppendSettled.{DecidedBy, decided_second}
use Rattle.proof_deeds.proofs.Kept.{Both, internal_cm}
use Rattle.proof_deeds.proofs.LeaderStarts.{internal_stands, last_fits}
use Rattle.proof_deeds.proofs.OwnSettles.{kept_same, local_keeps}
use Rattle.proof_deeds.proofs.Roles.{WorldState}
use Rattle.proof_deeds.proofs.Tails.{index, tail_vote, tail_whole}
use Rattle.proof_deeds.proofs.Worlds.{stores_follow}

-- the only membership of a log that begins with the first entry stands at 0
only_first : (first : Members ℕ (Unit {0})) (es : List Entry) → Run index 0 es → (0 < length (images es) → entry_at (setup_of first) (images es) 0 ≡ record { leader = 0; payload = first_entry first }) → length (memberships_in entry_meaning es) ≤ 1
    → (x : LogId ℕ) → (last_two (memberships_in entry_meaning es)).1.log_id ≡ Some x → x.index ≡ 0
only_first first [] r f l x e = cc
only_first first (y ∷ ys) r f l x e = go (members_of y.payload) (ap (λ (i : IdealEntry). members_of i.payload.payload) (f (omega arith))) (memberships_in entry_meaning ys) l e where
  go : (o : Option (Members ℕ (Unit {0}))) → o ≡ Some first → (ms : List WorldMembership)
      → length (cons_option (option_map (λ m. let z : WorldMembership = record { log_id = Some y.log_id; membership = m } in z) o) ms) ≤ 1
      → (last_two (cons_option (option_map (λ m. let z : WorldMembership = record { log_id = Some y.log_id; membership = m } in z) o) ms)).1.log_id ≡ Some x → x.index ≡ 0
  go None q ms l e = cc
  go (Some m) q [] l e = let z : y.log_id ≡ x = cc in ap (λ (i : LogId ℕ). i.index) (sym z) ∙ r.0
  go (Some m) q (n ∷ ms) l e = absurd (omega (arith, l))

under_two : (k : ℕ) → nat_le 2 k ≡ false → k ≤ 1
under_two k e = grind (arith, nat_tests)

module _ (first : Members ℕ (Unit {0})) (n : ℕ) (u : WorldStore) (V : Ideal) (reached : Reached (setup_of first) V) (st : WorldState) (h : StoreIs (setup_of first) u (V.store n)) (j : InStep entry_meaning u st) where
  abbrev all : List Entry
  all = store.whole u

  abbrev ws : List IdealEntry
  ws = whole (V.store n)

  abbrev two : WorldMembership × WorldMembership
  two = last_two (memberships_in entry_meaning (store.whole u))

  run : Run index 0 (store.whole u)
  run = whole_run entry_meaning u st (shape_of entry_meaning u st j.mirrors j.marks)

  follow : StoresFollow (setup_of first) (start (setup_of first)) V
  follow = stores_follow (setup_of first) V reached

  is_whole : whole (V.store n) ≡ images (store.whole u)
  is_whole = tail_whole (setup_of first) u (V.store n) st h j

  -- the last but one was decided
  second : st.cm ≡ (last_two (memberships_in entry_meaning (store.whole u))).0 → Settled (setup_of first) V st
  second c = go (rises 0 all none none run (omega arith)) st.cm.log_id two.1.log_id refl refl where
    go : (memberships_in entry_meaning (store.whole u) ≡ []) ⊎ Risen (store.whole u) (last_two (memberships_in entry_meaning (store.whole u))) → (p q : Option (LogId ℕ)) → st.cm.log_id ≡ p → (last_two (memberships_in entry_meaning (store.whole u))).1.log_id ≡ q
        → IfSome p (SettledBy (setup_of first) V (number st.vote.leader_id) (next st.committed))
    go g None q e f = tt
    go (inl z) (Some x) q e f =
        let k : ◌≡◌ {A = Option (LogId ℕ)} None (Some x) = sym (ap (λ (ms : List WorldMembership). (last_two ms).0.log_id) z) ∙ (ap (λ (m : WorldMembership). m.log_id) (sym c) ∙ e) in cc
    go (inr g) (Some x) None e f = absurd (let k : next two.1.log_id ≡ 0 = ap next f in omega (arith, k, g.0))
    go (inr g) (Some x) (Some y) e f =
        let lc : two.0.log_id ≡ Some x = ap (λ (m : WorldMembership). m.log_id) (sym c) ∙ e in
        let w : (last_membership (setup_of first) (entry_at (setup_of first) ws) (length all) ≡ y.index) × (y.index < length all) × (last_membership (setup_of first) (entry_at (setup_of first) ws) y.index ≡ x.index) =
        two_at first ws (length all) two x y lc f (whole_two first ws all is_whole run) in
        let cx : next two.0.log_id ≡ x.index + 1 = ap next lc in
        let ey : next two.1.log_id ≡ y.index + 1 = ap next f in
        let above : 0 < y.index = omega (arith, cx, ey, g.0) in
        let inside : y.index < length ws = (let l : length ws ≡ length all = ap (λ (ys : List IdealEntry). length ys) is_whole ∙ length-map all image in omega (arith, l, w.1)) in
        let ism : (setup_of first).is_membership (entry_at (setup_of first) ws y.index).payload ≡ true =
        subst (λ i. (setup_of first).is_membership (entry_at (setup_of first) ws i).payload ≡ true) w.0
        (last-is (setup_of first) (entry_at (setup_of first) ws) (length all) (let k : last_membership (setup_of first) (entry_at (setup_of first) ws) (length all) ≡ y.index = w.0 in omega (arith, k, above))) in
        let d : DecidedBy (setup_of first) V (V.store n).vote x.index ((entry_at (setup_of first) ws x.index).leader) =
        subst (λ i. DecidedBy (setup_of first) V (V.store n).vote i ((entry_at (setup_of first) ws i).leader)) w.2 (decided_second (setup_of first) V (start (setup_of first)) follow n y.index above inside ism) in
        let p : Placed (setup_of first) (V.store n) x = member_placed (setup_of first) u (V.store n) st st.cm h j (both_stand_any u st j).0 x e in
        inl
        (subst (λ q. DecidedBy (setup_of first) V q x.index (number x.leader_id)) (tail_vote (setup_of first) u (V.store n) st h j)
        (subst (DecidedBy (setup_of first) V (V.store n).vote x.index) p.leader d))

  -- the only one is the first entry's
  only : st.cm ≡ (last_two (memberships_in entry_meaning (store.whole u))).1 → length (memberships_in entry_meaning (store.whole u)) ≤ 1 → Settled (setup_of first) V st
  only c l = go st.cm.log_id refl where
    begins : 0 < length (images (store.whole u)) → entry_at (setup_of first) (images (store.whole u)) 0 ≡ record { leader = 0; payload = first_entry first }
    begins k =
        ap (λ xs. entry_at (setup_of first) xs 0) (sym is_whole)
        ∙ begins_first (setup_of first) (start (setup_of first)) V follow n (subst (λ (xs : List IdealEntry). 0 < length xs) (sym is_whole) k)

    go : (p : Option (LogId ℕ)) → st.cm.log_id ≡ p → IfSome p (SettledBy (setup_of first) V (number st.vote.leader_id) (next st.committed))
    go None e = tt
    go (Some x) e = inr (let z : x.index ≡ 0 = only_first first all run begins l x (ap (λ (m : WorldMembership). m.log_id) (sym c) ∙ e) in omega (arith, z))

  pub ends_settle : st.cm ≡ (if nat_le 2 (length (memberships_in entry_meaning (store.whole u))) then (last_two (memberships_in entry_meaning (store.whole u))).0 else (last_two (memberships_in entry_meaning (store.whole u))).1)
      → Settled (setup_of first) V st
  ends_settle c = go (nat_le 2 (length (memberships_in entry_meaning (store.whole u)))) refl c where
    go : (b : Bool) → nat_le 2 (length (memberships_in entry_meaning (store.whole u))) ≡ b → st.cm ≡ (if b then (last_two (memberships_in entry_meaning (store.whole u))).0 else (last_two (memberships_in entry_meaning (store.whole u))).1)
        → Settled (setup_of first) V st
    go true q c = second c
    go false q c = only c (under_two (length (memberships_in entry_meaning (store.whole u))) q)

-- an engine that stands on the store of a start
pub started_settles : (first : Members ℕ (Unit {0})) (t : Turn) (config : EngineConfig ℕ) (saved : Bool) (u : WorldStore) (V : Ideal)
    → Stands (setup_of first) t config (restarted nat_cmp entry_meaning saved u) V (idle (started nat_cmp entry_meaning saved u)) → Settled (setup_of first) V (started nat_cmp entry_meaning saved u)
started_settles first t config saved u V h =
    let taken : WorldStore = restarted nat_cmp entry_meaning saved u in
    let st : WorldState = started nat_cmp entry_meaning saved u in
    let m : WorldMachine = idle (started nat_cmp entry_meaning saved u) in
    let c : Carried (setup_of first) t st.vote.leader_id taken V [] (Knows (setup_of first) t.id m) = h.carried in
    ends_settle first t.id taken V h.reached st (subst (λ (Z : Ideal). StoreIs (setup_of first) taken (Z.store t.id)) (sym c.chain) c.store) h.pending.core.in_step refl

-- its start
module _ (first : Members ℕ (Unit {0})) (t : Turn) (config : EngineConfig ℕ) (u : WorldStore) (W : Ideal) where
  leads_settles : (w : WorldMachine) → Stands (setup_of first) t config u W w → Settled (setup_of first) W w.core.state → (o : Option WorldLeader) → w.leader ≡ o
      → Settled (setup_of first) W (elim o as (λ _. WorldMachine) [ None ↦ w | Some l ↦ leading w (lead_on nat_cmp config (record { leader = l; core = w.core })) ]).core.state
  unfolding initiate_replication
  leads_settles w h x None e = x
  leads_settles w h x (Some l) e =
      let n : WorldLed = update_local_progress nat_cmp config (last w.core.state.ids) (led_of l w.core.state w.core.output) in
      kept_same (setup_of first) W n.core.state (initiate_replication nat_cmp config false n).core.state refl (omega arith) refl
      (local_keeps (setup_of first) t config u W w h (last w.core.state.ids) l e (last_fits w.core.state h.sound.sound) x)

  -- nor does the role that follows the vote
  internal_settles : (m : WorldMachine) → Settled (setup_of first) W m.core.state → Settled (setup_of first) W (update_internal_server_state nat_cmp entry_meaning config m).core.state
  internal_settles m x =
      let w : WorldMachine = update_internal_server_state nat_cmp entry_meaning config m in
      let k : SameMarks m.core.state w.core.state = internal_marks nat_cmp entry_meaning config m in
      kept_same (setup_of first) W m.core.state w.core.state (ap (λ (p : Both). p.0) (internal_cm config m)) (let v : number w.core.state.vote.leader_id ≡ number m.core.state.vote.leader_id = ap (λ (v : Vote ℕ). number v.leader_id) k.vote in omega (arith, v))
      k.committed x

  -- so does a leader that steps down
  pub step_down_settles : (m : WorldMachine) → Settled (setup_of first) W m.core.state → Settled (setup_of first) W (leader_step_down nat_cmp entry_meaning config m).core.state
  unfolding leader_step_down
  step_down_settles m x =
      cond_both (is_settled nat_cmp m.core.state) (update_internal_server_state nat_cmp entry_meaning config m) m (λ (z : WorldMachine). Settled (setup_of first) W z.core.state) (λ _. internal_settles m x) (λ _. x)

  pub startup_settles : (m : WorldMachine) → Stands (setup_of first) t config u W m → m.candidate ≡ None → blank_is_at_end nat_cmp config m.core.state.vote m ≡ false → Settled (setup_of first) W m.core.state
      → Settled (setup_of first) W (startup nat_cmp entry_meaning config m).core.state
  unfolding startup
  startup_settles m h none full x =
      let w : WorldMachine = update_internal_server_state nat_cmp entry_meaning config m in
      cond_both (is_leader nat_cmp m.core.state config.id) (on_leader (lead_on nat_cmp config) w) (on_core (λ c. with_state c (record c.state { role = started_role nat_cmp config c.state })) m) (λ (z : WorldMachine). Settled (setup_of first) W z.core.state)
      (λ _. leads_settles w (internal_stands first t config h.id u W h.reached m h full (λ _. none)) (internal_settles m x) w.leader refl)
      (λ _. kept_same (setup_of first) W m.core.state (record m.core.state { role = started_role nat_cmp config m.core.state }) refl (omega arith) refl x)
