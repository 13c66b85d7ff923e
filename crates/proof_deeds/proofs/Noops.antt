-- A new leader's no-op entry stands above all that leaders of smaller ids ever decide: it is an entry of its own, or the
-- next one of its log.
use Rattle.std.proofs.Common.{ℕ, suc, ◌+◌, ◌<◌, ◌≤◌, ◌≡◌, inl, true, List, [], ◌∷◌, length, arith, refl, sym, ap, ◌∙◌, subst, Option, None, Some}
use Rattle.std.specs.Prelude.{IfSome, nat_eq}
use Rattle.std.specs.Option.{option_to_list}
use Rattle.std.specs.Ordering.{is_eq, nat_cmp}
use Rattle.std.proofs.lemmas.Bool.{cond_both}
use Rattle.raft_node.specs.raft_state.declared.ids.LogId.{LogId}
use Rattle.raft_node.specs.raft_state.declared.ids.Vote.{Vote}
use Rattle.raft_node.specs.raft_state.Invariants.{first_index}
use Rattle.raft_node.specs.raft_state.Log.{at, last}
use Rattle.raft_node.specs.raft_state.Order.{leader_id_cmp, next}
use Rattle.raft_node.specs.raft_state.Same.{leader_id_same, nat_same}
use Rattle.raft_node.specs.raft_state.State.{by_last_leader, ends_of_leader, first_of}
use Rattle.raft_node.proofs.raft_state_proofs.LogLists.{Has, at_has, run_low}
use Rattle.raft_node.proofs.raft_state_proofs.Orders.{is_equal}
use Rattle.raft_node.specs.raft_proposer.Leader.{blank_id}
use Rattle.raft_node.proofs.raft_steps_proofs.Ends.{by_last_leader_ends}
use Rattle.raft_node.proofs.raft_steps_proofs.KeptAppend.{has_at}
use Rattle.raft_node.proofs.raft_steps_proofs.Room.{find_has}
use Rattle.proof_agreement.specs.Deeds.{Leads, run_all}
use Rattle.proof_agreement.specs.Machine.{Includes, Setup, last_leader, start}
use Rattle.proof_agreement.specs.Stores.{DecidedCommit, entry_at, whole}
use Rattle.proof_agreement.proofs.StoresTheorems as theorems
use Rattle.raft_node.specs.raft_store.declared.entry.Entry.{Entry}
use Rattle.raft_node.specs.raft_store.Entries.{entry_meaning}
use Rattle.raft_node.specs.raft_store.Types.{WorldStore}
use Rattle.proof_mirror.specs.Ready.{InStep, IsStored}
use Rattle.proof_mirror.proofs.Shape.{shaped_of}
use Rattle.proof_deeds.specs.Chains.{Does, Reached}
use Rattle.proof_deeds.specs.Follows.{StoreIs}
use Rattle.proof_deeds.specs.Images.{Ideal, number}
use Rattle.proof_deeds.specs.Knows.{StaysAbove}
use Rattle.proof_deeds.proofs.Decides.{tail_inside}
use Rattle.proof_deeds.proofs.Overlap.{laps}
use Rattle.proof_deeds.proofs.Roles.{WorldState}
use Rattle.proof_deeds.proofs.Stored.{stored_ends}
use Rattle.proof_deeds.proofs.Tails.{last_stands, tail_length, tail_reaches, tail_vote}
use Rattle.proof_deeds.proofs.Worlds.{stores_follow}

pub front_of : (o : Option (LogId ℕ)) (i : ℕ) → first_index o ≤ i → next o ≤ i + 1
front_of None i b = omega arith
front_of (Some y) i b = omega (arith, b)

last_one : (o : Option (LogId ℕ)) → last (option_to_list o) ≡ o
last_one None = refl
last_one (Some x) = refl

-- the log has the first of these ids
abbrev pub HasFirst : WorldState → List (LogId ℕ) → Type 0
HasFirst st [] = Unit {0}
HasFirst st (x ∷ xs) = at st.ids x.index ≡ Some x

module _ (s : Setup Entry) (n : ℕ) (u : WorldStore) (W : Ideal) (reached : Reached s W) (st : WorldState) (h : StoreIs s u (W.store n)) (j : InStep entry_meaning u st) where
  later : (V : Ideal) (came : Does s W V) (c : DecidedCommit Entry) → Includes V.decided c → Includes (run_all s came.deeds W).decided c
  later V came c hc = subst (λ (X : Ideal). Includes X.decided c) (sym came.result) hc

  -- an id that the log has
  held_above : (x : LogId ℕ) → at st.ids x.index ≡ Some x → StaysAbove s W (number x.leader_id) x.index
  held_above x e V came c hc lower =
      let b : IsStored entry_meaning u x = subst (λ ids. at ids x.index ≡ Some x) j.mirrors.log.ids_are e in
      let low : first_index st.purged ≤ x.index = run_low (first_index st.purged) x st.ids j.marks.run (at_has x.index x st.ids e) in
      let f : next u.front ≤ x.index + 1 = subst (λ o. next o ≤ x.index + 1) j.mirrors.log.purged_is (front_of st.purged x.index low) in
      let one : x.index + 1 ≡ suc x.index = omega arith in
      let z : last_leader (entry_at s (whole (W.store n))) (x.index + 1) ≡ number x.leader_id = (stored_ends s u (W.store n) h (shaped_of entry_meaning u st j) (laps s W reached n) (tail_reaches s u (W.store n) st h j) x b f).0 in
      let own : (entry_at s (whole (W.store n)) x.index).leader ≡ number x.leader_id = ap (last_leader (entry_at s (whole (W.store n)))) (sym one) ∙ z in
      theorems.own_entry_above s (start s) W (stores_follow s W reached) (whole (W.store n)) x.index (inl (n, refl)) (tail_inside s u (W.store n) st h j x e) came.deeds came.allowed c (later V came c hc)
      (subst (λ d. c.leader < d) (sym own) lower)

  -- the end of the log of a node that leads
  end_above : Leads s (W.store n) n → (d i : ℕ) → number st.vote.leader_id ≡ d → next (last st.ids) ≡ i → StaysAbove s W d i
  end_above leads d i e f V came c hc lower =
      let v : (W.store n).vote ≡ number st.vote.leader_id = tail_vote s u (W.store n) st h j in
      let k : c.index < length (whole (W.store n)) = theorems.own_end_above s (start s) W (stores_follow s W reached) n leads came.deeds came.allowed c (later V came c hc) (omega (arith, lower, v, e)) in
      omega (arith, k, tail_length s u (W.store n) st h j, f)

  -- the no-op entry of a new leader of the vote
  pub noop_above : Leads s (W.store n) n → (v : Vote ℕ) → v.leader_id ≡ st.vote.leader_id → (ids : List (LogId ℕ)) → HasFirst st ids → next (last ids) ≡ next (last st.ids) → StaysAbove s W (number v.leader_id) (blank_id nat_cmp v ids).index
  noop_above leads v same [] has e = end_above leads (number v.leader_id) 0 (ap number (sym same)) (sym e)
  noop_above leads v same (x ∷ xs) has e =
      cond_both (is_eq (leader_id_cmp nat_cmp x.leader_id v.leader_id)) x (record { leader_id = v.leader_id; index = next (last (x ∷ xs)) }) (λ (y : LogId ℕ). StaysAbove s W (number v.leader_id) y.index)
      (λ q. subst (λ d. StaysAbove s W (number d) x.index) (leader_id_same nat_cmp nat_same x.leader_id v.leader_id (is_equal _ q)) (held_above x has))
      (λ _. end_above leads (number v.leader_id) (next (last (x ∷ xs))) (ap number (sym same)) (sym e))

  -- made of the log's last id
  pub made_above : Leads s (W.store n) n → (v : Vote ℕ) → v.leader_id ≡ st.vote.leader_id → (o : Option (LogId ℕ)) → o ≡ last st.ids → StaysAbove s W (number v.leader_id) (blank_id nat_cmp v (option_to_list o)).index
  made_above leads v same o e = noop_above leads v same (option_to_list o) (has o e) (ap next (last_one o ∙ e)) where
    has : (o : Option (LogId ℕ)) → o ≡ last st.ids → HasFirst st (option_to_list o)
    has None e = tt
    has (Some x) e = last_stands (first_index st.purged) st.ids x j.marks.run (sym e)

  -- made of the ids of the log's last leader
  pub anew_above : Leads s (W.store n) n → (v : Vote ℕ) → v.leader_id ≡ st.vote.leader_id → StaysAbove s W (number v.leader_id) (blank_id nat_cmp v (by_last_leader nat_cmp st.ids)).index
  anew_above leads v same = noop_above leads v same (by_last_leader nat_cmp st.ids) (has (last st.ids) refl) (ap next (by_last_leader_ends nat_cmp st.ids)) where
    ends : (x : LogId ℕ) → at st.ids x.index ≡ Some x → (o : Option (LogId ℕ)) → IfSome o (λ y. (is_eq (leader_id_cmp nat_cmp y.leader_id x.leader_id) ≡ true) × Has y st.ids) → HasFirst st (ends_of_leader nat_cmp o x)
    ends x e None k = e
    ends x e (Some y) k =
        cond_both (nat_eq y.index x.index) (x ∷ []) (y ∷ x ∷ []) (HasFirst st) (λ _. e) (λ _. has_at (first_index st.purged) y st.ids j.marks.run k.1)

    has : (o : Option (LogId ℕ)) → last st.ids ≡ o → HasFirst st (by_last_leader nat_cmp st.ids)
    has None e = rw e tt
    has (Some x) e =
        rw e (ends x (last_stands (first_index st.purged) st.ids x j.marks.run e) (first_of nat_cmp x.leader_id st.ids) (find_has (λ id. is_eq (leader_id_cmp nat_cmp id.leader_id x.leader_id)) st.ids))
