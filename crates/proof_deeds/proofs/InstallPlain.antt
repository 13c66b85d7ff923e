-- A snapshot request that was sent is never refused for its vote or for what the node has, where the committed
-- membership is settled.
use Rattle.std.proofs.Common.{ℕ, suc, ◌+◌, ◌<◌, ◌≤◌, ◌≡◌, ◌≢◌, ◌⊎◌, inl, inr, ⊎_elim, Bool, true, false, not, [], ◌∷◌, length, arith, refl, sym, ap, ◌∙◌, subst, true≢false, Option, None, Some}
use Rattle.std.specs.Prelude.{IfSome, nat_lt, ◌&&◌, if◌then◌else◌}
use Rattle.std.specs.List.{list_any}
use Rattle.std.specs.Option.{option_to_list}
use Rattle.std.specs.Ordering.{is_eq, is_gt, nat_cmp}
use Rattle.std.proofs.lemmas.Bool.{cases_lt, le-ltb, lt-ltb, and_parts, not-true}
use Rattle.std.proofs.lemmas.Cmp.{nat_cmp_total}
use Rattle.raft_node.specs.raft_state.declared.ids.LogId.{LogId}
use Rattle.raft_node.specs.raft_state.declared.membership.Members.{Members}
use Rattle.raft_node.specs.raft_state.Log.{at}
use Rattle.raft_node.specs.raft_state.Order.{last_id_cmp, log_id_cmp, next}
use Rattle.raft_node.specs.raft_state.Same.{nat_same}
use Rattle.raft_node.proofs.raft_state_proofs.StateLaws.{is_found_at}
use Rattle.raft_node.specs.raft_error.declared.error.EngineError.TheVariants.{IndexEnd, CounterEnd, OwnVote, Spent, VoteNotCommitted}
use Rattle.raft_node.specs.raft_command.declared.config.EngineConfig.{EngineConfig}
use Rattle.raft_node.specs.raft_steps.Refusals.{is_at_end, is_counter_end, is_spent}
use Rattle.raft_node.specs.raft_steps.InstallRefusals.{refusals_of_fit, refusals_of_install, undoes_committed}
use Rattle.raft_node.specs.raft_steps.Installs.{has_other_at, installs}
use Rattle.raft_node.specs.raft_steps.VoteHandler.{rejects_vote}
use Rattle.proof_agreement.specs.Machine.{start}
use Rattle.proof_agreement.specs.Stores.{whole, entry_at}
use Rattle.raft_node.specs.raft_store.Entries.{entry_meaning}
use Rattle.raft_node.specs.raft_store.Types.{WorldStore, WorldSnapshot, WorldMachine}
use Rattle.proof_mirror.specs.Ready.{InStep}
use Rattle.proof_mirror.proofs.Places.{at_index}
use Rattle.raft_node.specs.raft_calls.declared.message.Body.TheVariants as body
use Rattle.raft_node.specs.raft_calls.declared.message.Message.{Message}
use Rattle.raft_node.specs.raft_calls.declared.message.Origin.{Origin}
use Rattle.raft_node.specs.declared.node.Turn.{Turn}
use Rattle.proof_deeds.specs.Chains.{left_by}
use Rattle.proof_deeds.specs.Follows.{SnapshotSent}
use Rattle.proof_deeds.specs.Images.{Ideal, IsNamed, number, images, setup_of}
use Rattle.proof_deeds.specs.Knows.{Knows, Delivered, Stands}
use Rattle.proof_deeds.proofs.AppendFitting.{Placed, Settled, SettledBy, committed_stands, not_lower}
use Rattle.proof_deeds.proofs.AppendSettled.{DecidedBy, decided_on}
use Rattle.proof_deeds.proofs.Appends.{follows_on_from}
use Rattle.proof_deeds.proofs.Decides.{tail_at}
use Rattle.proof_deeds.proofs.InstallDecided.{differs_past_first, snapshot_past_decided}
use Rattle.proof_deeds.proofs.InstallFitting.{below_committed}
use Rattle.proof_deeds.proofs.InstallLaws.{sent_in, snapshot_ends}
use Rattle.proof_deeds.proofs.InstallUnrefused.{fits_unless}
use Rattle.proof_deeds.proofs.Numbers.{number_same}
use Rattle.proof_deeds.proofs.PlainRefusals.{IsPlain, nodes_apart, plain_first, plain_or, ends}
use Rattle.proof_deeds.proofs.Pushes.{Tail, tail_of}
use Rattle.proof_deeds.proofs.Tails.{tail_named}

module _ (first : Members ℕ (Unit {0})) (t : Turn) (config : EngineConfig ℕ) (u : WorldStore) (W : Ideal) (msg : Message) (o : Origin) (snapshot : WorldSnapshot) (d : Delivered (setup_of first) t W msg) (b : msg.body ≡ body.SnapshotRequest o snapshot)
    (m : WorldMachine) (st : Stands (setup_of first) t config u W m) (settled : Settled (setup_of first) W m.core.state) where
  abbrev V : Ideal
  V = st.carried.end

  abbrev T : WorldStore
  T = left_by u m.core.output.items

  h : SnapshotSent (setup_of first) t.id o snapshot W
  h = sent_in first t config u W msg o snapshot d b

  tail : Tail (setup_of first) t m.core.state.vote.leader_id u W m.core.output.items st.carried.end
  tail = tail_of (setup_of first) t m.core.state.vote.leader_id u W m.core.output.items (Knows (setup_of first) t.id m) st.carried

  j : InStep entry_meaning (left_by u m.core.output.items) m.core.state
  j = st.pending.core.in_step

  named : IsNamed m.core.state.vote.leader_id
  named = tail_named (setup_of first) (left_by u m.core.output.items) (st.carried.end.store t.id) m.core.state tail.store j

  module _ (x : LogId ℕ) (e : snapshot.meta.last_log_id ≡ Some x) where
    E : (length (images snapshot.snapshot) ≡ suc x.index) × ((entry_at (setup_of first) (images snapshot.snapshot) x.index).leader ≡ number x.leader_id) × IsNamed x.leader_id
    E = snapshot_ends (setup_of first) t.id o snapshot W h x e

    -- where it is installed, its last id is past what is committed
    above : installs nat_cmp m.core.state snapshot.meta ≡ true → next m.core.state.committed ≤ x.index
    above i =
        let g : is_gt (last_id_cmp nat_cmp (Some x) m.core.state.committed) ≡ true = subst (λ p. is_gt (last_id_cmp nat_cmp p m.core.state.committed) ≡ true) e (and_parts (is_gt (last_id_cmp nat_cmp snapshot.meta.last_log_id m.core.state.committed)) (is_gt (last_id_cmp nat_cmp snapshot.meta.last_log_id m.core.state.snap.last_log_id)) i).0 in
        ⊎_elim
        (λ l. absurd (both (nat_lt x.index (next m.core.state.committed)) (is_gt (last_id_cmp nat_cmp (Some x) m.core.state.committed)) (lt-ltb x.index (next m.core.state.committed) l) g (below_committed first t config u W msg o snapshot d b m st x e)))
        (λ l. l)
        (cases_lt x.index (next m.core.state.committed))
      where
        both : (a b : Bool) → a ≡ true → b ≡ true → (a && b) ≡ false → ⊥
        both true true p q r = true≢false r
        both true false p q r = true≢false (sym q)
        both false b p q r = true≢false (sym p)

    -- another id at its index
    apart : next m.core.state.committed ≤ x.index → has_other_at nat_cmp m.core.state x ≡ true → (entry_at (setup_of first) (whole (st.carried.end.store t.id)) x.index).leader ≢ (entry_at (setup_of first) (images snapshot.snapshot) x.index).leader
    apart up g = go (at m.core.state.ids x.index) refl where
      go : (y : Option (LogId ℕ)) → at m.core.state.ids x.index ≡ y → (entry_at (setup_of first) (whole (st.carried.end.store t.id)) x.index).leader ≢ (entry_at (setup_of first) (images snapshot.snapshot) x.index).leader
      go None k = absurd (true≢false (sym g ∙ ap (λ (z : Option (LogId ℕ)). elim z as (λ _. Bool) [ None ↦ false | Some y ↦ not (is_eq (log_id_cmp nat_cmp y x)) ]) k))
      go (Some y) k =
          let i : y.index ≡ x.index = at_index x.index m.core.state.ids y k in
          let a : at m.core.state.ids y.index ≡ Some y = ap (at m.core.state.ids) i ∙ k in
          let n : not (is_eq (log_id_cmp nat_cmp y x)) ≡ true = sym (ap (λ (z : Option (LogId ℕ)). elim z as (λ _. Bool) [ None ↦ false | Some y ↦ not (is_eq (log_id_cmp nat_cmp y x)) ]) k) ∙ g in
          let p : ((entry_at (setup_of first) (whole (st.carried.end.store t.id)) y.index).leader ≡ number y.leader_id) × IsNamed y.leader_id = tail_at (setup_of first) T (V.store t.id) m.core.state tail.store j y a (omega (arith, i, up)) in
          λ f.
          let q : number y.leader_id ≡ number x.leader_id = sym p.0 ∙ (ap (λ k. (entry_at (setup_of first) (whole (V.store t.id)) k).leader) i ∙ (f ∙ E.1)) in
          let l : y.leader_id ≡ x.leader_id = number_same y.leader_id x.leader_id p.1 E.2 q in
          let z : y ≡ x = λ k. record { leader_id = l k; index = i k } in
          let w : is_eq (log_id_cmp nat_cmp y x) ≡ true = ap (λ (a : LogId ℕ). is_eq (log_id_cmp nat_cmp a x)) z ∙ is_found_at nat_cmp nat_cmp_total nat_same [] x (Some x) refl in
          true≢false (sym w ∙ not-true (is_eq (log_id_cmp nat_cmp y x)) n)

    module _ (r : rejects_vote nat_cmp m.core.state o.session_id.vote ≡ false) where
      -- the committed membership is then below it, so that a cut from there leaves it
      pub below_it : next m.core.state.committed ≤ x.index → has_other_at nat_cmp m.core.state x ≡ true → next m.core.state.cm.log_id ≤ x.index
      below_it up g = go m.core.state.cm.log_id refl settled where
        low : number m.core.state.vote.leader_id ≤ number o.session_id.vote.leader_id
        low = not_lower o.session_id.vote m.core.state.vote h.leaders.named named r

        by_decided : (z : LogId ℕ) → m.core.state.cm.log_id ≡ Some z → DecidedBy (setup_of first) W (number m.core.state.vote.leader_id) z.index (number z.leader_id) → z.index < x.index
        by_decided z f c =
            let D : DecidedBy (setup_of first) V (number o.session_id.vote.leader_id) z.index (number z.leader_id) = decided_on (setup_of first) W V (number m.core.state.vote.leader_id) (number o.session_id.vote.leader_id) z.index (number z.leader_id) tail.came low c in
            let k : Placed (setup_of first) (V.store t.id) z = committed_stands (setup_of first) T (V.store t.id) m.core.state tail.store j z f in
            snapshot_past_decided (setup_of first) D.since V D.follows t.id h.session (images snapshot.snapshot) (tail.within.messages _ h.sent) x.index (number o.session_id.vote.leader_id) z.index (number z.leader_id)
            (omega (arith, E.0)) (apart up g) D.decides (omega (arith, h.leader)) k.inside k.leader

        past_first : (z : LogId ℕ) → m.core.state.cm.log_id ≡ Some z → 0 < x.index
        past_first z f =
            let k : Placed (setup_of first) (V.store t.id) z = committed_stands (setup_of first) T (V.store t.id) m.core.state tail.store j z f in
            differs_past_first (setup_of first) (start (setup_of first)) V (follows_on_from (setup_of first) W V st.reached tail.came) t.id h.session (images snapshot.snapshot) (tail.within.messages _ h.sent) x.index
            (omega (arith, k.inside)) (omega (arith, E.0)) (apart up g)

        go : (p : Option (LogId ℕ)) → m.core.state.cm.log_id ≡ p → IfSome p (SettledBy (setup_of first) W (number m.core.state.vote.leader_id) (next m.core.state.committed)) → next p ≤ x.index
        go None f c = omega arith
        go (Some z) f c = ⊎_elim (λ k. let l : z.index < x.index = by_decided z f k in omega (arith, l)) (λ k. let l : 0 < x.index = past_first z f in omega (arith, k, up, l)) c

      -- so an install never deletes a committed membership past the snapshot
      pub never_undoes : undoes_committed nat_cmp m.core.state snapshot.meta x ≡ false
      never_undoes = go (installs nat_cmp m.core.state snapshot.meta) (has_other_at nat_cmp m.core.state x) refl refl where
        go : (a c : Bool) → installs nat_cmp m.core.state snapshot.meta ≡ a → has_other_at nat_cmp m.core.state x ≡ c → (a && (c && nat_lt (x.index + 1) (next m.core.state.cm.log_id))) ≡ false
        go false c i g = refl
        go true false i g = refl
        go true true i g = le-ltb (x.index + 1) (next m.core.state.cm.log_id) (let l : next m.core.state.cm.log_id ≤ x.index = below_it (above i) g in omega (arith, l))

  -- The request is refused at most for the last index
  pub never_unfit : rejects_vote nat_cmp m.core.state o.session_id.vote ≡ false → (refusals_of_fit nat_cmp m.core.state o.session_id.vote snapshot.meta ≡ None) ⊎ (refusals_of_fit nat_cmp m.core.state o.session_id.vote snapshot.meta ≡ Some IndexEnd)
  never_unfit r = go (list_any is_at_end (option_to_list snapshot.meta.last_log_id)) refl where
    picked : {X : Type 0} (k : Bool) (y : X) (z : Option X) → k ≡ true → (if k then Some y else z) ≡ Some y
    picked true y z e = refl
    picked false y z e = absurd (true≢false (sym e))

    go : (k : Bool) → list_any is_at_end (option_to_list snapshot.meta.last_log_id) ≡ k → (refusals_of_fit nat_cmp m.core.state o.session_id.vote snapshot.meta ≡ None) ⊎ (refusals_of_fit nat_cmp m.core.state o.session_id.vote snapshot.meta ≡ Some IndexEnd)
    go false k = inl (fits_unless first t config u W msg o snapshot d b m st r k (λ x e. never_undoes x e r))
    go true k = inr (picked (list_any is_at_end (option_to_list snapshot.meta.last_log_id)) IndexEnd _ k)

  pub install_plain : IsPlain (refusals_of_install nat_cmp config o.session_id.vote snapshot.meta m)
  install_plain =
      plain_or _ (if rejects_vote nat_cmp m.core.state o.session_id.vote then None else refusals_of_fit nat_cmp m.core.state o.session_id.vote snapshot.meta)
      (plain_first ((is_spent m, Spent) ∷ (is_counter_end m, CounterEnd) ∷ (not o.session_id.vote.committed, VoteNotCommitted) ∷ (is_eq (nat_cmp o.session_id.vote.leader_id.node_id config.id), OwnVote) ∷ [])
      (inr (inr (omega arith)), (inr (inl (omega arith)), (inl (ap not h.leaders.committed), (inl (nodes_apart o.session_id.vote.leader_id.node_id config.id (λ e. h.leaders.away (e ∙ st.id))), tt)))))
      (more (rejects_vote nat_cmp m.core.state o.session_id.vote) refl)
    where
      more : (k : Bool) → rejects_vote nat_cmp m.core.state o.session_id.vote ≡ k → IsPlain (if k then None else refusals_of_fit nat_cmp m.core.state o.session_id.vote snapshot.meta)
      more true e = tt
      more false e = ends (refusals_of_fit nat_cmp m.core.state o.session_id.vote snapshot.meta) (never_unfit e)
