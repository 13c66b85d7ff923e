-- What an engine knows stays known.
use Rattle.std.proofs.Common.{ℕ, ◌<◌, ◌≤◌, ◌≡◌, ◌⊎◌, inl, inr, ⊎_elim, arith, refl, sym, ap, ◌∙◌, subst, None}
use Rattle.std.specs.Prelude.{IfSome}
use Rattle.std.specs.Ordering.{nat_cmp}
use Rattle.raft_node.specs.raft_state.declared.state.RaftState.{RaftState}
use Rattle.raft_node.specs.raft_state.State.{accepted}
use Rattle.proof_agreement.specs.Machine.{Setup}
use Rattle.proof_agreement.specs.Stores.{Append}
use Rattle.proof_agreement.specs.Deeds.{EndStreams, Holds, MayAccept, does}
use Rattle.raft_node.specs.raft_store.declared.entry.Entry.{Entry}
use Rattle.raft_node.specs.raft_store.Types.{WorldMachine, WorldLeader, WorldCandidate}
use Rattle.proof_deeds.specs.Chains.{Does}
use Rattle.proof_deeds.specs.Images.{Ideal, IdealStore, number}
use Rattle.proof_deeds.specs.Knows.{KnowsAccepted, KnowsGrants, KnowsMatch, KnowsLed, Knows, StaysAbove}
use Rattle.proof_deeds.proofs.Worlds.{Within, accepted_on, at_put, does_then, each_on, if_some, within_does, within_of}

-- what is known is of the node's own store, of what was said, and of what is never decided
abbrev pub Stable : Setup Entry → ℕ → (Ideal → Type 0) → Type 0
Stable s n K = (W V : Ideal) → Does s W V → V.store n ≡ W.store n → K W → K V

-- a store of the same vote holds all that another one does
pub record Keeps (s : Setup Entry) (S T : IdealStore) : Type 0 where
  pub vote : T.vote ≡ S.vote
  pub vote_committed : T.vote_committed ≡ S.vote_committed
  pub committed : S.committed ≤ T.committed
  pub holds : (k x : ℕ) → Holds s S k x → Holds s T k x

pub keeps_same : (s : Setup Entry) (S T : IdealStore) → T ≡ S → Keeps s S T
keeps_same s S T e = subst (Keeps s S) (sym e) (record { vote = refl; vote_committed = refl; committed = omega arith; holds = λ k x h. h })

module _ (s : Setup Entry) (n : ℕ) (W V : Ideal) (w : Within W V) where
  pub may_accept_on : (r : Append Entry) (k x : ℕ) → Keeps s (W.store n) (V.store n) → MayAccept s W n r k x → MayAccept s V n r k x
  may_accept_on r k x e h = record {
    request = record { sent = w.messages _ h.request.sent; session = h.request.session ∙ sym e.vote };
    vote_committed = e.vote_committed ∙ h.vote_committed;
    names = h.names;
    holds = e.holds k x h.holds;
  }

  pub known_accepted : (st : RaftState ℕ (Unit {0})) → Keeps s (W.store n) (V.store n) → KnowsAccepted s n st W → KnowsAccepted s n st V
  known_accepted st e h =
      if_some (λ x. ((r : Append Entry) × MayAccept s W n r x.index (number x.leader_id)) ⊎ (x.index < (W.store n).committed)) (λ x. ((r : Append Entry) × MayAccept s V n r x.index (number x.leader_id)) ⊎ (x.index < (V.store n).committed))
      (λ x p. ⊎_elim (λ a. inl (a.0, may_accept_on a.0 x.index (number x.leader_id) e a.1)) (λ l. inr (omega (arith, l, e.committed))) p) (accepted nat_cmp st) h

  pub known_grants : (c : WorldCandidate) → KnowsGrants n c W → KnowsGrants n c V
  known_grants c h = record { positive = h.positive; ungranted = h.ungranted; rows = each_on _ _ (λ row p e. ⊎_elim inl (λ a. inr (w.messages _ a)) (p e)) c.progress.rows h.rows }

module _ (s : Setup Entry) (n : ℕ) (W V : Ideal) (came : Does s W V) where
  w : Within W V
  w = within_of s W V came

  -- what comes of the later world comes of this one
  pub above_on : (d i : ℕ) → StaysAbove s W d i → StaysAbove s V d i
  above_on d i h X then = h X (does_then s W V X came then)

  pub known_led : (st : RaftState ℕ (Unit {0})) (l : WorldLeader) → (V.store n).vote ≡ (W.store n).vote → (V.store n).session ≡ (W.store n).session → KnowsLed s n st l W → KnowsLed s n st l V
  known_led st l e f h = record {
    vote = h.vote;
    session = ap (λ x. x.leader) f ∙ (h.session ∙ sym e);
    rows = each_on (KnowsMatch n (number l.vote.leader_id) W) (KnowsMatch n (number l.vote.leader_id) V)
        (λ row. if_some _ _ (λ x p. ⊎_elim inl (λ a. inr (accepted_on W V row.0 (number l.vote.leader_id) x.index w a)) p) row.1.matching) l.progress.rows h.rows;
    above = above_on (number l.vote.leader_id) l.noop_log_id.index h.above;
  }

  pub known_in : (m : WorldMachine) → Keeps s (W.store n) (V.store n) → (V.store n).session ≡ (W.store n).session → Knows s n m W → Knows s n m V
  known_in m e f h = record {
    state = known_accepted s n W V w m.core.state e h.state;
    leader = if_some _ _ (λ l. known_led m.core.state l e.vote f) m.leader h.leader;
    candidate = if_some _ _ (λ c. known_grants s n W V w c) m.candidate h.candidate;
    alone = h.alone;
  }

-- what stays known when the node's streams end
abbrev pub Ends : Setup Entry → ℕ → (Ideal → Type 0) → Type 0
Ends s n K = (W : Ideal) → K W → K (does s W (EndStreams n))

module _ (s : Setup Entry) (n : ℕ) where
  -- where nothing is accepted, there is nothing to know
  pub known_none : (st : RaftState ℕ (Unit {0})) (V : Ideal) → accepted nat_cmp st ≡ None → KnowsAccepted s n st V
  known_none st V e = subst (λ a. IfSome a (λ x. ((r : Append Entry) × MayAccept s V n r x.index (number x.leader_id)) ⊎ (x.index < (V.store n).committed))) (sym e) tt

  pub stable_accepted : (st : RaftState ℕ (Unit {0})) → Stable s n (KnowsAccepted s n st)
  stable_accepted st W V came e h = known_accepted s n W V (within_of s W V came) st (keeps_same s (W.store n) (V.store n) e) h

  -- a store without streams holds what it held
  pub ends_keeps : (W : Ideal) → Keeps s (W.store n) ((does s W (EndStreams n)).store n)
  ends_keeps W = subst (Keeps s (W.store n)) (sym (at_put W n _)) (record { vote = refl; vote_committed = refl; committed = omega arith; holds = λ k x h. h })

  pub ends_accepted : (st : RaftState ℕ (Unit {0})) → Ends s n (KnowsAccepted s n st)
  ends_accepted st W h = known_accepted s n W (does s W (EndStreams n)) (within_does s W (EndStreams n) tt) st (ends_keeps W) h

  -- what an engine without leader knows
  pub ends_unled : (m : WorldMachine) → m.leader ≡ None → Ends s n (Knows s n m)
  ends_unled m e W h = record {
    state = ends_accepted m.core.state W h.state;
    leader = subst (λ o. IfSome o (λ l. KnowsLed s n m.core.state l (does s W (EndStreams n)))) (sym e) tt;
    candidate = if_some (λ c. KnowsGrants n c W) (λ c. KnowsGrants n c (does s W (EndStreams n))) (λ c. known_grants s n W (does s W (EndStreams n)) (within_does s W (EndStreams n) tt) c) m.candidate h.candidate;
    alone = h.alone;
  }

  pub stable_in : (m : WorldMachine) → Stable s n (Knows s n m)
  stable_in m W V came e h = known_in s n W V came m (keeps_same s (W.store n) (V.store n) e) (ap (λ S. S.session) e) h
