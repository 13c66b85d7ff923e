-- The deeds of candidates and leaders.
use Rattle.std.proofs.Common.{ℕ, zero, suc, ◌+◌, ◌-◌, ◌<◌, ◌≤◌, ◌≡◌, inl, inr, ⊎_elim, Bool, true, false, List, [], ◌∷◌, ◌++◌, length, take, drop, max, arith, refl, sym, ap, ◌∙◌, subst, length-take, length-drop, get_or-take, get_or-drop}
use Rattle.proof_agreement.specs.Machine.{World, effective_membership, ShareGroup, last_membership, MayChangeGroups, Entry, Node, Setup, Grant, Includes, Agree, AtOrBelow, IsQuorum, log_of, leader_log, vote_of, last_leader, push, GrantVote, Establish, Propose, Acknowledge, Decide, Begin, Allowed, happens}
use Rattle.proof_agreement.proofs.Logs.{Agree-sym, Agree-trans, Agree-less, Agree-refl, updated_same}
use Rattle.proof_agreement.proofs.Invariants.{Covered, FollowsAt}
use Rattle.proof_agreement.proofs.Memberships.{effective_membership-same, last-same}
use Rattle.proof_agreement.proofs.Bridge.{cover_in, may_change_groups as from_committed}
use Rattle.proof_agreement.specs.Stores.{Store, Append, VoteGranted, AppendRequest, Accepted, Stores, whole, entry_at, of_list, first_entry, effective_membership_of}
use Rattle.proof_agreement.specs.Deeds.{Leads, HasAccepted, MayProposeMembership, MayWin, MayAppendOwn, MaySendAppend, MayCommitByQuorum, MayCommitAsLeader, MayInitialize, last_membership_of, with_committed, segment, heartbeat, put, say}
use Rattle.proof_agreement.proofs.StoresFollow.{StoreOk, VoteGrantedOk, AcceptedOk, AppendRequestOk, BehindOk, DecidedOk, StoresFollow, last_same, told_message, told_decided, told_established}
use Rattle.proof_agreement.proofs.VoteDeeds.{updated_both, after, stay, speak, silent, moved, behinds, both_change}
use Rattle.proof_agreement.proofs.LogDeeds.{same_push, same_list, shape_append, own_append, acknowledged_now, commit_to}
use Rattle.proof_agreement.proofs.WholeLogs.{whole_append, whole_length, agree_take}

module _ {A : Type 0} (s : Setup A) (since : World A) (W : Stores A) (K : StoresFollow s since W) (n : ℕ) where
  S : StoreOk s (K.world.node n) (W.store n)
  S = K.store n

  -- the membership of the store's log is that of the node's
  pub effective_is : 0 < length (whole (W.store n)) → effective_membership_of s (whole (W.store n)) ≡ effective_membership s (log_of K.world n) (log_of K.world n).len
  effective_is p = sym (subst (λ m. effective_membership s (log_of K.world n) (log_of K.world n).len ≡ effective_membership s (of_list s (whole (W.store n))) m) S.log.len (effective_membership-same s (log_of K.world n) (of_list s (whole (W.store n))) (log_of K.world n).len (omega (arith, S.log.len)) S.log.agree))

  effective_quorum : (q : ℕ → Bool) → 0 < length (whole (W.store n)) → IsQuorum s (effective_membership_of s (whole (W.store n))) q → IsQuorum s (effective_membership s (log_of K.world n) (log_of K.world n).len) q
  effective_quorum q p h = subst (λ x. IsQuorum s x q) (effective_is p) h

  pub win : (q : ℕ → Bool) → MayWin s W n q → StoresFollow s since (put W n (record (W.store n) { vote_committed = true }))
  unfolding silent after
  win q h =
      let o : s.owner (W.store n).vote ≡ n = h.candidate.own in
      let f : (K.world.node n).vote_committed ≡ false = S.vote_committed ∙ h.candidate.not_committed in
      let K1 : StoresFollow s since W = silent s since W K (GrantVote n) f refl (λ _. refl) in
      let d : ℕ = (W.store n).vote in
      let N : Node A = K.world.node (s.owner d) in
      let T : StoreOk s N (W.store n) = subst (λ j. StoreOk s (K.world.node j) (W.store n)) (sym o) S in
      let new : Store A = record (W.store n) { vote_committed = true } in
      let e : Allowed s K1.world (Establish d q) =
      record {
        positive = h.candidate.positive;
        vote = subst (λ j. vote_of K.world j ≡ d) (sym o) S.vote;
        not_committed = subst (λ j. (K.world.node j).vote_committed ≡ false) (sym o) f;
        some = subst (λ j. 0 < (log_of K.world j).len) (sym o) (omega (arith, S.log.len, h.some));
        quorum = subst (λ j. IsQuorum s (effective_membership s (log_of K.world j) (log_of K.world j).len) q) (sym o) (effective_quorum q h.some h.quorum);
        each = λ m t. ⊎_elim (own m) (other m) (h.each m t);
      } in
      after s since W K1 (Establish d q) e (put W n new) refl
      (updated_both (λ m N T. StoreOk s N T) K.world.node W.store (s.owner d) n (record N { vote_committed = true }) new o
      (record { vote = T.vote; vote_committed = refl; committed = T.committed; log = T.log; room = T.room; note = T.note; shape = T.shape }) K.store)
      (behinds s since W K1 n new (K1.behind n)) (moved s since W K1 (Establish d q) e)
    where
      Granted : ℕ → Type 0
      Granted m = (g : Grant) × Includes (happens s K.world (GrantVote n)).grants g × (g.node ≡ m) × (g.leader ≡ (W.store n).vote) × AtOrBelow g.last g.len (last_leader (log_of K.world (s.owner (W.store n).vote)).at (log_of K.world (s.owner (W.store n).vote)).len) (log_of K.world (s.owner (W.store n).vote)).len

      own : (m : ℕ) → m ≡ n → Granted m
      own m e = (
        record { node = n; leader = vote_of K.world n; last = last_leader (log_of K.world n).at (log_of K.world n).len; len = (log_of K.world n).len },
        inl refl,
        sym e,
        S.vote,
        subst (λ j. AtOrBelow (last_leader (log_of K.world n).at (log_of K.world n).len) (log_of K.world n).len (last_leader (log_of K.world j).at (log_of K.world j).len) (log_of K.world j).len) (sym h.candidate.own) (inr (refl, omega arith)),
      )

      other : (m : ℕ) → Includes W.messages (VoteGranted m (W.store n).vote) → Granted m
      other m b =
          let k : VoteGrantedOk s K.world m (W.store n).vote = K.told.message (VoteGranted m (W.store n).vote) b in
          (k.grant, inr k.has, k.node, k.leader, k.end (record { vote = subst (λ j. vote_of K.world j ≡ (W.store n).vote) (sym h.candidate.own) S.vote; not_committed = subst (λ j. (K.world.node j).vote_committed ≡ false) (sym h.candidate.own) (S.vote_committed ∙ h.candidate.not_committed) }))

  -- a leader's log is its history
  pub own_log : Leads s (W.store n) n → ((log_of K.world n).len ≡ (leader_log K.world (W.store n).vote).len) × Agree (log_of K.world n).len (log_of K.world n) (leader_log K.world (W.store n).vote)
  own_log l = subst (λ d. ((log_of K.world n).len ≡ (leader_log K.world d).len) × Agree (log_of K.world n).len (log_of K.world n) (leader_log K.world d)) S.vote ((K.inv.node n).own (S.vote_committed ∙ l.vote_committed) (ap s.owner S.vote ∙ l.own))

  pub is_established : (W.store n).vote_committed ≡ true → (K.world.leader (W.store n).vote).established ≡ true
  is_established t = subst (λ d. (K.world.leader d).established ≡ true) S.vote ((K.inv.node n).established (S.vote_committed ∙ t))

  -- so its last membership stands where the store's does
  last_is : last_membership s (log_of K.world n).at (log_of K.world n).len ≡ last_membership_of s (whole (W.store n))
  last_is = last-same s (log_of K.world n).at (entry_at s (whole (W.store n))) (log_of K.world n).len S.log.agree.same ∙ ap (last_membership s (entry_at s (whole (W.store n)))) S.log.len

  -- what is committed at a leader past its own first entry, it has decided itself
  may_change_groups : (x : A) → Leads s (W.store n) n → MayProposeMembership s (W.store n) x → MayChangeGroups s K.world (W.store n).vote x
  may_change_groups x l h =
      let some : 0 < length (whole (W.store n)) = omega (arith, h.own, S.committed, (K.inv.node n).cover.agree.left, S.log.len) in
      let inside : h.mine < (log_of K.world n).len = omega (arith, h.own, S.committed, (K.inv.node n).cover.agree.left) in
      subst (λ d. MayChangeGroups s K.world d x) S.vote
      (from_committed s K.world K.inv n h.mine x (S.vote_committed ∙ l.vote_committed) (ap s.owner S.vote ∙ l.own) (omega (arith, h.own, S.committed))
      (ap (λ y. y.leader) (S.log.agree.same h.mine inside) ∙ (h.own_is ∙ sym S.vote))
      (omega (arith, h.last, S.committed, last_is))
      (subst (λ y. ShareGroup s y x) (effective_is some) h.share))

  -- where the store's last membership is committed, so is that of the leader's history
  settled : Leads s (W.store n) n → last_membership_of s (whole (W.store n)) < (W.store n).committed → last_membership s (leader_log K.world (W.store n).vote).at (leader_log K.world (W.store n).vote).len < (K.world.node (s.owner (W.store n).vote)).committed
  settled l h =
      let L : ((log_of K.world n).len ≡ (leader_log K.world (W.store n).vote).len) × Agree (log_of K.world n).len (log_of K.world n) (leader_log K.world (W.store n).vote) = own_log l in
      let b : last_membership s (log_of K.world n).at (log_of K.world n).len ≡ last_membership s (leader_log K.world (W.store n).vote).at (leader_log K.world (W.store n).vote).len = last-same s (log_of K.world n).at (leader_log K.world (W.store n).vote).at (log_of K.world n).len L.1.same ∙ ap (last_membership s (leader_log K.world (W.store n).vote).at) L.0 in
      subst (λ j. last_membership s (leader_log K.world (W.store n).vote).at (leader_log K.world (W.store n).vote).len < (K.world.node j).committed) (sym l.own) (omega (arith, h, S.committed, last_is, b))

  pub leader_append : (payload : A) → MayAppendOwn s (W.store n) n payload → StoresFollow s since (put W n (record (W.store n) { entries = (W.store n).entries ++ record { leader = (W.store n).vote; payload = payload } ∷ [] }))
  leader_append payload h =
      let d : ℕ = (W.store n).vote in
      let x : Entry A = record { leader = d; payload = payload } in
      let N : Node A = K.world.node (s.owner d) in
      let new : Store A = record (W.store n) { entries = (W.store n).entries ++ record { leader = (W.store n).vote; payload = payload } ∷ [] } in
      let T : StoreOk s N (W.store n) = subst (λ j. StoreOk s (K.world.node j) (W.store n)) (sym h.leads.own) S in
      let e : Allowed s K.world (Propose d payload) = record { vote = T.vote; vote_committed = T.vote_committed ∙ h.leads.vote_committed; same = h.same; settled = λ a b. settled h.leads (h.settled a b); change = λ a b. may_change_groups payload h.leads (h.change a b) } in
      after s since W K (Propose d payload) e (put W n new) refl
      (updated_both (λ m N T. StoreOk s N T) K.world.node W.store (s.owner d) n (record N { log = push N.log x }) new h.leads.own
      (record { vote = T.vote; vote_committed = T.vote_committed; committed = T.committed; log = same_list s (push N.log x) (whole (W.store n) ++ x ∷ []) (whole new) (whole_append (W.store n) T.shape.low (x ∷ []) h.reaches) (same_push s N.log (whole (W.store n)) x T.log); room = T.room; note = T.note; shape = shape_append s (W.store n) (x ∷ []) h.reaches T.shape }) K.store)
      (behinds s since W K n new (K.behind n)) (moved s since W K (Propose d payload) e)

  pub send_append : (i m : ℕ) → MaySendAppend s (W.store n) n i m → StoresFollow s since (say W (AppendRequest (segment s (W.store n) i m)))
  send_append i m h =
      let L : ((log_of K.world n).len ≡ (leader_log K.world (W.store n).vote).len) × Agree (log_of K.world n).len (log_of K.world n) (leader_log K.world (W.store n).vote) = own_log h.streams.leads in
      let xs : List (Entry A) = whole (W.store n) in
      let B : BehindOk s K.world (vote_of K.world n) (W.store n).snapshot (W.store n).noted (W.store n).saved (W.store n).saved_leader = K.behind n in
      let t : (W.store n).vote_committed ≡ true = h.streams.leads.vote_committed in
      let own : Covered K.world (vote_of K.world n) (leader_log K.world B.leader) (W.store n).saved = record { leader = B.leader; low = B.low; within = B.within; agree = Agree-refl (W.store n).saved (leader_log K.world B.leader) B.inside } in
      let told : Agree (W.store n).saved (leader_log K.world B.leader) (leader_log K.world (W.store n).vote) = cover_in s K.world K.inv (vote_of K.world n) (leader_log K.world B.leader) (W.store n).saved (W.store n).vote own (omega (arith, S.vote)) (is_established t) in
      let both : Agree (length xs) (leader_log K.world (W.store n).vote) (of_list s xs) = Agree-trans (Agree-sym (Agree-less (length xs) (omega (arith, S.log.len)) L.1)) (Agree-less (length xs) (omega (arith, S.log.len)) S.log.agree) in
      let size : length (take m (drop i xs)) ≡ m = omega (arith, length-take m (drop i xs), length-drop i xs, h.fits) in
      speak s since W K (AppendRequest (segment s (W.store n) i m))
      (subst (λ d. AppendRequestOk s K.world d (segment s (W.store n) i m)) (sym h.streams.session)
      (record {
        established = is_established t;
        fits = omega (arith, size, both.left, h.fits);
        same = λ j l.
            both.same (i + j) (omega (arith, size, h.fits))
            ∙ sym (get_or-take m (drop i xs) j (first_entry s) (omega (arith, size)) ∙ get_or-drop i xs j (first_entry s));
        previous = last_same (leader_log K.world (W.store n).vote) (of_list s xs) i (Agree-less i (omega (arith, h.fits)) both);
        cover = record {
          leader = B.leader;
          low = omega (arith, B.low, S.vote);
          within = B.within;
          agree = Agree-sym told;
        };
        committed_is = sym (last_same (leader_log K.world B.leader) (leader_log K.world (W.store n).vote) (W.store n).saved told) ∙ B.is;
      }))

  pub leader_commit : (told : Append A) (m : ℕ) → MayCommitAsLeader s W n told m → StoresFollow s since (put W n (with_committed s (W.store n) m))
  leader_commit told m h =
      let k : AppendRequestOk s K.world (vote_of K.world n) told = own_append s since W K n told h.told_by_leader in
      commit_to s since W K n told.committed m k.cover (subst (λ d. Agree m (log_of K.world n) (leader_log K.world d)) (sym S.vote) (Agree-less m (omega (arith, S.log.len, h.held)) (own_log h.leads).1)) h.told_so h.higher

  pub commit_by_quorum : (c : ℕ) (q : ℕ → Bool) → MayCommitByQuorum s W n c q → StoresFollow s since (record (say W (AppendRequest (heartbeat (W.store n) (suc c)))) { decided = record { leader = (W.store n).session.leader; index = c; entries = take (suc c) (whole (W.store n)) } ∷ W.decided })
  unfolding silent after
  commit_by_quorum c q h =
      let d : ℕ = (W.store n).vote in
      let t : (W.store n).vote_committed ≡ true = h.streams.leads.vote_committed in
      let xs : List (Entry A) = whole (W.store n) in
      let L : ((log_of K.world n).len ≡ (leader_log K.world d).len) × Agree (log_of K.world n).len (log_of K.world n) (leader_log K.world d) = own_log h.streams.leads in
      let l : c < (log_of K.world n).len = omega (arith, S.log.len, h.inside) in
      let F : FollowsAt K.world (log_of K.world n) c = (K.inv.node n).follows c l in
      let e : ((log_of K.world n).at c).leader ≡ d = ap (λ z. z.leader) (S.log.agree.same c l) ∙ h.own in
      let K1 : StoresFollow s since W = silent s since W K (Acknowledge n (suc c)) (record { vote_committed = S.vote_committed ∙ t; agree = subst (λ v. Agree (suc c) (log_of K.world n) (leader_log K.world v)) (sym S.vote) (Agree-less (suc c) l L.1) }) refl (λ _. refl) in
      let mine : suc c ≤ K1.world.acknowledged n d = subst (λ v. suc c ≤ K1.world.acknowledged n v) S.vote (acknowledged_now s since W K n K.world (suc c)) in
      let all : (m : ℕ) → q m ≡ true → suc c ≤ K1.world.acknowledged m d =
      λ m z. ⊎_elim
      (λ p. subst (λ j. suc c ≤ K1.world.acknowledged j d) (sym p) mine)
      (λ p. let a : HasAccepted W m d c = p in let y : AcceptedOk s K1.world m d a.last a.upto = subst (λ v. AcceptedOk s K1.world m v a.last a.upto) a.leader (K1.told.message (Accepted m a.session a.last a.upto) a.sent) in omega (arith, a.past, y.acknowledged))
      (h.each m z) in
      let may : Allowed s K1.world (Decide d (suc c) q) =
      record {
        established = is_established t;
        own = omega (arith, subst (λ v. (K.world.leader v).base ≤ c) e F.base);
        span = (leader_log K.world d).len;
        holds = omega (arith, L.0);
        in_log = omega arith;
        quorum = subst (λ m. IsQuorum s (effective_membership s (leader_log K.world d) m) q) L.0 (subst (λ x. IsQuorum s x q) (effective_membership-same s (log_of K.world n) (leader_log K.world d) (log_of K.world n).len (omega arith) L.1) (effective_quorum q (omega (arith, h.inside)) h.quorum));
        each = all;
      } in
      let at : (happens s K1.world (Decide d (suc c) q)).leader d ≡ record (K1.world.leader d) { decided = max (suc c) (K1.world.leader d).decided } = updated_same K1.world.leader d (record (K1.world.leader d) { decided = max (suc c) (K1.world.leader d).decided }) in
      let message : AppendRequestOk s (happens s K1.world (Decide d (suc c) q)) d (heartbeat (W.store n) (suc c)) =
      record {
        established = subst (λ D. D.established ≡ true) (sym at) (is_established t);
        fits = omega arith;
        same = λ j h. absurd (omega arith);
        previous = refl;
        cover = record {
          leader = d;
          low = omega arith;
          within = subst (λ D. suc c ≤ D.decided) (sym at) (omega arith);
          agree = Agree-refl (suc c) (leader_log (happens s K1.world (Decide d (suc c) q)) d) (subst (λ D. suc c ≤ D.log.len) (sym at) (omega (arith, L.0)));
        };
        committed_is = subst (λ D. (D.log.at c).leader ≡ d) (sym at) (ap (λ z. z.leader) (sym (L.1.same c l)) ∙ e);
      } in
      let decision : DecidedOk s (happens s K1.world (Decide d (suc c) q)) (record { leader = d; index = c; entries = take (suc c) (whole (W.store n)) }) =
      record {
        size = omega (arith, length-take (suc c) xs, h.inside);
        within = subst (λ D. suc c ≤ D.decided) (sym at) (omega arith);
        agree = subst (λ D. Agree (suc c) (of_list s (take (suc c) (whole (W.store n)))) D.log) (sym at) (Agree-trans (agree_take s xs (suc c) h.inside) (Agree-trans (Agree-sym (Agree-less (suc c) l S.log.agree)) (Agree-less (suc c) l L.1)));
        own = ap (λ z. z.leader) (get_or-take (suc c) xs c (first_entry s) (omega arith)) ∙ h.own;
      } in
      after s since W K1 (Decide d (suc c) q) may (record (say W (AppendRequest (heartbeat (W.store n) (suc c)))) { decided = record { leader = (W.store n).session.leader; index = c; entries = take (suc c) (whole (W.store n)) } ∷ W.decided }) (_, refl, h.streams.session, refl) K1.store K1.behind
      (told_decided s (happens s K1.world (Decide d (suc c) q)) (AppendRequest (heartbeat (W.store n) (suc c)) ∷ W.messages) W.executed W.installed W.decided W.established
      (told_message s (happens s K1.world (Decide d (suc c) q)) W.messages W.executed W.installed W.decided W.established (moved s since W K1 (Decide d (suc c) q) may) (AppendRequest (heartbeat (W.store n) (suc c))) (subst (λ v. AppendRequestOk s (happens s K1.world (Decide d (suc c) q)) v (heartbeat (W.store n) (suc c))) (sym h.streams.session) message))
      (record { leader = (W.store n).session.leader; index = c; entries = take (suc c) (whole (W.store n)) })
      (subst (λ v. DecidedOk s (happens s K1.world (Decide d (suc c) q)) (record { leader = v; index = c; entries = take (suc c) (whole (W.store n)) })) (sym h.streams.session) decision))

  pub record_established : Leads s (W.store n) n → StoresFollow s since (record W { established = record { leader = (W.store n).vote; entries = whole (W.store n) } ∷ W.established })
  record_established l =
      let L : ((log_of K.world n).len ≡ (leader_log K.world (W.store n).vote).len) × Agree (log_of K.world n).len (log_of K.world n) (leader_log K.world (W.store n).vote) = own_log l in
      let z : length (whole (W.store n)) ≤ (log_of K.world n).len = omega (arith, S.log.len) in
      stay s since W K (record W { established = record { leader = (W.store n).vote; entries = whole (W.store n) } ∷ W.established }) refl K.store K.behind
      (told_established s K.world W.messages W.executed W.installed W.decided W.established K.told (record { leader = (W.store n).vote; entries = whole (W.store n) })
      (record {
        established = is_established l.vote_committed;
        base = omega (arith, (K.inv.leader (W.store n).vote).base, L.0, S.log.len);
        agree = Agree-trans (Agree-sym (Agree-less (length (whole (W.store n))) z S.log.agree)) (Agree-less (length (whole (W.store n))) z L.1);
      }))

  pub initialize : MayInitialize (W.store n) → StoresFollow s since (put W n (record (W.store n) { entries = first_entry s ∷ [] }))
  initialize h =
      let new : Store A = record (W.store n) { entries = first_entry s ∷ [] } in
      let none : length (W.store n).snapshot ≡ 0 = ap (λ xs. length xs) h.no_snapshot in
      let empty_log : length (whole (W.store n)) ≡ 0 = omega (arith, whole_length (W.store n) S.shape.low, none, ap (λ xs. length xs) h.no_entries) in
      let e : Allowed s K.world (Begin n) = record { none = omega (arith, S.log.len, empty_log); not_committed = S.vote_committed ∙ h.not_committed; fresh = S.vote ∙ h.first_vote } in
      after s since W K (Begin n) e (put W n new) refl
      (both_change s since W K n (record (K.world.node n) { log = record (leader_log K.world 0) { len = 1 } }) new
      (record { vote = S.vote; vote_committed = S.vote_committed; committed = S.committed; log = same_list s (record (leader_log K.world 0) { len = 1 }) (first_entry s ∷ []) (whole new) (one_entry (W.store n) h.no_snapshot) (record { len = refl; agree = record { left = omega arith; right = omega arith; same = first } }); room = S.room; note = S.note; shape = record { low = S.shape.low; joined = λ f r. absurd (omega (arith, none)) } }))
      (behinds s since W K n new (K.behind n)) (moved s since W K (Begin n) e)
    where
      first : (i : ℕ) → i < 1 → (leader_log K.world 0).at i ≡ entry_at s (first_entry s ∷ []) i
      first zero h = K.inv.first_is
      first (suc i) h = absurd (omega arith)

      one_entry : (T : Store A) → T.snapshot ≡ [] → whole (record T { entries = first_entry s ∷ [] }) ≡ first_entry s ∷ []
      one_entry T p = ap (λ xs. xs ++ drop (length xs - T.front) (first_entry s ∷ [])) p ∙ no_front T.front
        where
          no_front : (f : ℕ) → drop (0 - f) (first_entry s ∷ []) ≡ first_entry s ∷ []
          no_front f = let z : 0 ≡ 0 - f = omega arith in subst (λ j. drop j (first_entry s ∷ []) ≡ first_entry s ∷ []) z refl
