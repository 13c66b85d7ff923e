-- Memberships that are decided: no cut reaches them.
use Rattle.std.proofs.Common.{ℕ, zero, suc, ◌<◌, ◌≤◌, ◌≡◌, inr, ⊎_elim, true, length, arith, refl, sym, ap, ◌∙◌, subst}
use Rattle.std.proofs.lemmas.Bool.{cases_lt, cases_eq}
use Rattle.proof_agreement.specs.Machine.{Entry, Log, World, Setup, Includes, Agree, Chosen, IsQuorum, effective_membership, last_membership, leader_log, log_of, vote_of}
use Rattle.proof_agreement.specs.Stores.{Append, AppendRequest, Stores, whole, entry_at, of_list}
use Rattle.proof_agreement.specs.Deeds.{MayAccept, MayTruncateConflict}
use Rattle.proof_agreement.proofs.Completeness.{safe}
use Rattle.proof_agreement.proofs.Consequences.{same_id}
use Rattle.proof_agreement.proofs.Invariants.{Invariants, FollowsAt, SafeAt, Covered, DecidedAt, Elected}
use Rattle.proof_agreement.proofs.LogDeeds.{named, own_append, held_agree}
use Rattle.proof_agreement.proofs.Logs.{Agree-less, Agree-sym, Agree-trans}
use Rattle.proof_agreement.proofs.Memberships.{effective_membership-same, last-same, last-lt}
use Rattle.proof_agreement.proofs.StoresFollow.{StoreOk, AppendRequestOk, Since, Since-refl, StoresFollow}
use Rattle.proof_agreement.proofs.StoresTheorems as theorems
use Rattle.proof_deeds.specs.Chains.{Does}

module _ {A : Type 0} (s : Setup A) where
  -- the entry at i, of leader id y, is below one that a leader up to b wrote, and that is chosen
  pub record Decides (w : World A) (b i y : ℕ) : Type 0 where
    pub leader : ℕ
    pub low : leader ≤ b
    pub place : ℕ
    pub upto : i ≤ place
    pub own : ((leader_log w leader).at place).leader ≡ leader
    pub chosen : Chosen s w leader place
    pub is : ((leader_log w leader).at i).leader ≡ y

  decides_inside : (w : World A) (b i y : ℕ) (d : Decides w b i y) → d.place < (leader_log w d.leader).len
  decides_inside w b i y d = let c : Chosen s w d.leader d.place = d.chosen in omega (arith, c.past, c.inside)

  -- what is decided up to there is so
  pub decides_covered : (w : World A) → Invariants s w → (v : ℕ) (X : Log A) (i : ℕ) → Covered w v X (suc i) → Decides w v i ((X.at i).leader)
  decides_covered w inv v X i C = go (w.leader C.leader).decided refl where
    go : (n : ℕ) → (w.leader C.leader).decided ≡ n → Decides w v i ((X.at i).leader)
    go zero e = absurd (omega (arith, e, C.within))
    go (suc k) e =
        let D : DecidedAt s w C.leader k (w.leader C.leader) = (inv.leader C.leader).decided k e in
        record {
          leader = C.leader;
          low = C.low;
          place = k;
          upto = omega (arith, e, C.within);
          own = (inv.leader C.leader).mine k D.base D.inside;
          chosen = D.chosen;
          is = ap (λ (z : Entry A). z.leader) (sym (C.agree.same i (omega arith)));
        }

  -- it stays so
  pub decides_since : (w w2 : World A) (b b2 i y : ℕ) → Since w w2 → b ≤ b2 → Decides w b i y → Decides w2 b2 i y
  decides_since w w2 b b2 i y g l d =
      let c : Chosen s w d.leader d.place = d.chosen in
      let a : Agree (leader_log w d.leader).len (leader_log w d.leader) (leader_log w2 d.leader) = g.log d.leader in
      let m : effective_membership s (leader_log w d.leader) c.span ≡ effective_membership s (leader_log w2 d.leader) c.span =
      effective_membership-same s (leader_log w d.leader) (leader_log w2 d.leader) c.span (omega (arith, c.past)) (Agree-less c.span c.inside a) in
      let n : d.place < (leader_log w d.leader).len = decides_inside w b i y d in
      record {
        leader = d.leader;
        low = omega (arith, d.low, l);
        place = d.place;
        upto = d.upto;
        own = ap (λ (z : Entry A). z.leader) (sym (a.same d.place n)) ∙ d.own;
        chosen = record {
          span = c.span;
          past = c.past;
          inside = omega (arith, c.inside, a.right);
          by = c.by;
          quorum = subst (λ x. IsQuorum s x c.by) m c.quorum;
          each = λ k q. let z : d.place < w.acknowledged k d.leader = c.each k q in omega (arith, z, g.acknowledged k d.leader);
        };
        is = ap (λ (z : Entry A). z.leader) (sym (a.same i (omega (arith, n, d.upto)))) ∙ d.is;
      }

  -- it stands in each leader's history from there on
  pub decides_in : (w : World A) → Invariants s w → (b i y e : ℕ) → Decides w b i y → b ≤ e → (w.leader e).established ≡ true → (i < (leader_log w e).len) × (((leader_log w e).at i).leader ≡ y)
  decides_in w inv b i y e d l u =
      ⊎_elim
      (λ q. subst (λ m. (i < (leader_log w m).len) × (((leader_log w m).at i).leader ≡ y)) q (omega (arith, n, d.upto), d.is))
      (λ q.
      let S : SafeAt w e d.leader d.place = safe s w inv e d.leader d.place u (omega (arith, d.low, l, q)) base d.chosen in
      (omega (arith, S.agree.left, d.upto), ap (λ (z : Entry A). z.leader) (S.agree.same i (omega (arith, d.upto))) ∙ d.is))
      (cases_eq d.leader e)
    where
      n : d.place < (leader_log w d.leader).len
      n = decides_inside w b i y d

      base : (w.leader d.leader).base ≤ d.place
      base = let F : FollowsAt w (leader_log w d.leader) d.place = (inv.leader d.leader).follows d.place n in subst (λ m. (w.leader m).base ≤ d.place) d.own F.base

  -- so no conflict of a leader from there on is at or below it, where it is held
  pub conflict_past_decided : (since : World A) (W : Stores A) (K : StoresFollow s since W) (n : ℕ) (r : Append A) (k x b i y : ℕ) → MayTruncateConflict s W n r k x → Decides K.world b i y → b ≤ (W.store n).vote
      → i < length (whole (W.store n)) → (entry_at s (whole (W.store n)) i).leader ≡ y → i < k
  conflict_past_decided since W K n r k x b i y c d l inside is =
      let S : StoreOk s (K.world.node n) (W.store n) = K.store n in
      let t : (K.world.node n).vote_committed ≡ true = S.vote_committed ∙ c.follower.vote_committed in
      let u : (K.world.leader (vote_of K.world n)).established ≡ true = (K.inv.node n).established t in
      let z : (i < (leader_log K.world (vote_of K.world n)).len) × (((leader_log K.world (vote_of K.world n)).at i).leader ≡ y) = decides_in K.world K.inv b i y (vote_of K.world n) d (omega (arith, l, S.vote)) u in
      let i2 : i < (log_of K.world n).len = omega (arith, inside, S.log.len) in
      let e : ((log_of K.world n).at i).leader ≡ ((leader_log K.world (vote_of K.world n)).at i).leader = ap (λ (q : Entry A). q.leader) (S.log.agree.same i i2) ∙ (is ∙ sym z.1) in
      let a : Agree (suc i) (log_of K.world n) (leader_log K.world (vote_of K.world n)) =
      same_id K.world (log_of K.world n) (leader_log K.world (vote_of K.world n)) i ((K.inv.node n).follows i i2) ((K.inv.leader (vote_of K.world n)).follows i z.0) e in
      let p : (k < (leader_log K.world (vote_of K.world n)).len) × (((leader_log K.world (vote_of K.world n)).at k).leader ≡ x) = named s K.world (vote_of K.world n) r k x (own_append s since W K n r c.request) c.names in
      ⊎_elim (λ m. m)
      (λ m. absurd (c.lacks (inr (
        c.inside,
        ap (λ (q : Entry A). q.leader) (sym (S.log.agree.same k (omega (arith, m, i2))) ∙ a.same k (omega (arith, m))) ∙ p.1,
      ))))
      (cases_lt i k)

  -- nor is one at the first index, since all logs begin with the same entry
  pub first_of : (w : World A) → Invariants s w → (X : Log A) → FollowsAt w X 0 → (X.at 0).leader ≡ 0
  first_of w inv X F = go (X.at 0).leader refl where
    go : (d : ℕ) → (X.at 0).leader ≡ d → (X.at 0).leader ≡ 0
    go zero e = e
    go (suc d) e =
        let E : Elected s w (X.at 0).leader (w.leader (X.at 0).leader) = (inv.leader (X.at 0).leader).elected F.established (omega (arith, e)) in
        absurd (omega (arith, E.some, F.base))

  pub conflict_past_first : (since : World A) (W : Stores A) (K : StoresFollow s since W) (n : ℕ) (r : Append A) (k x : ℕ) → MayTruncateConflict s W n r k x → 0 < k
  conflict_past_first since W K n r k x c = go k refl where
    go : (j : ℕ) → k ≡ j → 0 < k
    go (suc j) e = omega (arith, e)
    go zero e =
        let S : StoreOk s (K.world.node n) (W.store n) = K.store n in
        let p : (k < (leader_log K.world (vote_of K.world n)).len) × (((leader_log K.world (vote_of K.world n)).at k).leader ≡ x) = named s K.world (vote_of K.world n) r k x (own_append s since W K n r c.request) c.names in
        let i : 0 < (log_of K.world n).len = omega (arith, e, c.inside, S.log.len) in
        let a : ((leader_log K.world (vote_of K.world n)).at 0).leader ≡ 0 = first_of K.world K.inv (leader_log K.world (vote_of K.world n)) ((K.inv.leader (vote_of K.world n)).follows 0 (omega (arith, e, p.0))) in
        let b : ((log_of K.world n).at 0).leader ≡ 0 = first_of K.world K.inv (log_of K.world n) ((K.inv.node n).follows 0 i) in
        let q : (entry_at s (whole (W.store n)) k).leader ≡ x =
        ap (λ j. (entry_at s (whole (W.store n)) j).leader) e ∙ (ap (λ (z : Entry A). z.leader) (sym (S.log.agree.same 0 i)) ∙ (b ∙ (sym a ∙ (ap (λ j. ((leader_log K.world (vote_of K.world n)).at j).leader) (sym e) ∙ p.1)))) in
        absurd (c.lacks (inr (c.inside, q)))

  -- the same of stores
  pub record DecidedBy (W : Stores A) (b i y : ℕ) : Type 0 where
    pub since : World A
    pub follows : StoresFollow s since W
    pub decides : Decides follows.world b i y

  pub decided_on : (W V : Stores A) (b b2 i y : ℕ) → Does s W V → b ≤ b2 → DecidedBy W b i y → DecidedBy V b2 i y
  decided_on W V b b2 i y came l d =
      let K : StoresFollow s d.since W = d.follows in
      let K2 : StoresFollow s K.world W = record { world = K.world; inv = K.inv; above = Since-refl K.world; store = K.store; behind = K.behind; told = K.told; recorded = K.recorded } in
      go (subst (λ X. StoresFollow s K.world X) came.result (theorems.all_deeds s K.world came.deeds W K2 came.allowed))
    where
      go : StoresFollow s d.follows.world V → DecidedBy V b2 i y
      go L = record { since = d.follows.world; follows = L; decides = decides_since d.follows.world L.world b b2 i y L.above l d.decides }

  -- what a node holds of its leader, from the world in which that was sent
  module _ (W V : Stores A) (since : World A) (K : StoresFollow s since W) (came : Does s W V) (n : ℕ) where
    later : StoresFollow s K.world V
    later = subst (λ X. StoresFollow s K.world X) came.result (theorems.all_deeds s K.world came.deeds W (record { world = K.world; inv = K.inv; above = Since-refl K.world; store = K.store; behind = K.behind; told = K.told; recorded = K.recorded }) came.allowed)

    agree_before : (r : Append A) (k x j : ℕ) → MayAccept s V n r k x → j ≤ suc k → j ≤ (leader_log K.world (V.store n).vote).len → Agree j (of_list s (whole (V.store n))) (leader_log K.world (V.store n).vote)
    agree_before r k x j h l m = go later where
      go : StoresFollow s K.world V → Agree j (of_list s (whole (V.store n))) (leader_log K.world (V.store n).vote)
      go L =
          let S : StoreOk s (L.world.node n) (V.store n) = L.store n in
          let a : Agree (suc k) (log_of L.world n) (leader_log L.world (vote_of L.world n)) = held_agree s K.world V L n r k x h.request h.vote_committed h.names h.holds in
          let b : Agree (suc k) (log_of L.world n) (leader_log L.world (V.store n).vote) = subst (λ d. Agree (suc k) (log_of L.world n) (leader_log L.world d)) S.vote a in
          let g : Agree (leader_log K.world (V.store n).vote).len (leader_log K.world (V.store n).vote) (leader_log L.world (V.store n).vote) = L.above.log (V.store n).vote in
          Agree-trans (Agree-sym (Agree-less j (omega (arith, l, b.left)) S.log.agree)) (Agree-trans (Agree-less j l b) (Agree-sym (Agree-less j m g)))

    -- what its leader told as committed is decided
    pub decided_told : (r : Append A) (k x i : ℕ) (told : Append A) → MayAccept s V n r k x → Includes W.messages (AppendRequest told) → told.session.leader ≡ (V.store n).vote → i ≤ k → i < told.committed → DecidedBy W (V.store n).vote i ((entry_at s (whole (V.store n)) i).leader)
    decided_told r k x i told h b e l m =
        let o : AppendRequestOk s K.world (V.store n).vote told = subst (λ d. AppendRequestOk s K.world d told) e (K.told.message (AppendRequest told) b) in
        let C : Covered K.world (V.store n).vote (leader_log K.world (V.store n).vote) told.committed = o.cover in
        let a : Agree (suc i) (of_list s (whole (V.store n))) (leader_log K.world (V.store n).vote) = agree_before r k x (suc i) h (omega (arith, l)) (omega (arith, m, C.agree.left)) in
        let D : Covered K.world (V.store n).vote (leader_log K.world (V.store n).vote) (suc i) = record { leader = C.leader; low = C.low; within = omega (arith, m, C.within); agree = Agree-less (suc i) (omega (arith, m)) C.agree } in
        record {
          since = since;
          follows = K;
          decides = subst (λ y. Decides K.world (V.store n).vote i y) (ap (λ (z : Entry A). z.leader) (sym (a.same i (omega arith)))) (decides_covered K.world K.inv (V.store n).vote (leader_log K.world (V.store n).vote) i D);
        }

    -- and so is the membership before one of its leader's
    pub decided_before : (r : Append A) (k x : ℕ) → MayAccept s V n r k x → Includes W.messages (AppendRequest r) → 0 < k → s.is_membership (entry_at s (whole (V.store n)) k).payload ≡ true
        → DecidedBy W (V.store n).vote (last_membership s (entry_at s (whole (V.store n))) k) ((entry_at s (whole (V.store n)) (last_membership s (entry_at s (whole (V.store n))) k)).leader)
    decided_before r k x h b p m =
        let d : ℕ = (V.store n).vote in
        let o : AppendRequestOk s K.world (V.store n).vote r = subst (λ d. AppendRequestOk s K.world d r) h.request.session (K.told.message (AppendRequest r) b) in
        let q : (k < (leader_log K.world (V.store n).vote).len) × (((leader_log K.world (V.store n).vote).at k).leader ≡ x) = named s K.world (V.store n).vote r k x o h.names in
        let a : Agree (suc k) (of_list s (whole (V.store n))) (leader_log K.world (V.store n).vote) = agree_before r k x (suc k) h (omega arith) (omega (arith, q.0)) in
        let F : FollowsAt K.world (leader_log K.world (V.store n).vote) k = (K.inv.leader (V.store n).vote).follows k q.0 in
        let f : ℕ = ((leader_log K.world (V.store n).vote).at k).leader in
        let c : Agree (suc k) (of_list s (whole (V.store n))) (leader_log K.world ((leader_log K.world (V.store n).vote).at k).leader) = Agree-trans a F.agree in
        let m2 : s.is_membership ((leader_log K.world ((leader_log K.world (V.store n).vote).at k).leader).at k).payload ≡ true = ap (λ (z : Entry A). s.is_membership z.payload) (sym (c.same k (omega arith))) ∙ m in
        let C : Covered K.world ((leader_log K.world (V.store n).vote).at k).leader (leader_log K.world ((leader_log K.world (V.store n).vote).at k).leader) (suc (last_membership s (leader_log K.world ((leader_log K.world (V.store n).vote).at k).leader).at k)) =
        (K.inv.leader ((leader_log K.world (V.store n).vote).at k).leader).settled k p F.base (omega (arith, c.right)) m2 in
        let e : last_membership s (entry_at s (whole (V.store n))) k ≡ last_membership s (leader_log K.world ((leader_log K.world (V.store n).vote).at k).leader).at k =
        last-same s (entry_at s (whole (V.store n))) (leader_log K.world ((leader_log K.world (V.store n).vote).at k).leader).at k (λ i l. c.same i (omega (arith, l))) in
        let low : last_membership s (entry_at s (whole (V.store n))) k < k = last-lt s (entry_at s (whole (V.store n))) k p in
        let C2 : Covered K.world ((leader_log K.world (V.store n).vote).at k).leader (leader_log K.world ((leader_log K.world (V.store n).vote).at k).leader) (suc (last_membership s (entry_at s (whole (V.store n))) k)) =
        subst (λ i. Covered K.world ((leader_log K.world (V.store n).vote).at k).leader (leader_log K.world ((leader_log K.world (V.store n).vote).at k).leader) (suc i)) (sym e) C in
        let D : Decides K.world ((leader_log K.world (V.store n).vote).at k).leader (last_membership s (entry_at s (whole (V.store n))) k) (((leader_log K.world ((leader_log K.world (V.store n).vote).at k).leader).at (last_membership s (entry_at s (whole (V.store n))) k)).leader) =
        decides_covered K.world K.inv ((leader_log K.world (V.store n).vote).at k).leader (leader_log K.world ((leader_log K.world (V.store n).vote).at k).leader) (last_membership s (entry_at s (whole (V.store n))) k) C2 in
        record {
          since = since;
          follows = K;
          decides = decides_since K.world K.world ((leader_log K.world (V.store n).vote).at k).leader (V.store n).vote (last_membership s (entry_at s (whole (V.store n))) k) _ (Since-refl K.world) ((K.inv.leader (V.store n).vote).low k q.0)
              (subst (λ y. Decides K.world ((leader_log K.world (V.store n).vote).at k).leader (last_membership s (entry_at s (whole (V.store n))) k) y) (ap (λ (z : Entry A). z.leader) (sym (c.same (last_membership s (entry_at s (whole (V.store n))) k) (omega (arith, low))))) D);
        }

  -- of a node's own log: what is committed is decided, and so is the membership before the last
  module _ (W : Stores A) (since : World A) (K : StoresFollow s since W) (n : ℕ) where
    own_decided : (v c i : ℕ) → Covered K.world v (log_of K.world n) c → v ≤ (W.store n).vote → i < c → i < length (whole (W.store n)) → DecidedBy W (W.store n).vote i ((entry_at s (whole (W.store n)) i).leader)
    own_decided v c i C l m b =
        let S : StoreOk s (K.world.node n) (W.store n) = K.store n in
        let D : Covered K.world v (log_of K.world n) (suc i) = record { leader = C.leader; low = C.low; within = omega (arith, m, C.within); agree = Agree-less (suc i) (omega (arith, m)) C.agree } in
        record {
          since = since;
          follows = K;
          decides = decides_since K.world K.world v (W.store n).vote i _ (Since-refl K.world) l
              (subst (λ y. Decides K.world v i y) (ap (λ (z : Entry A). z.leader) (S.log.agree.same i (omega (arith, b, S.log.len)))) (decides_covered K.world K.inv v (log_of K.world n) i D));
        }

    pub decided_committed : (i : ℕ) → i < (W.store n).committed → DecidedBy W (W.store n).vote i ((entry_at s (whole (W.store n)) i).leader)
    decided_committed i l =
        let S : StoreOk s (K.world.node n) (W.store n) = K.store n in
        let C : Covered K.world (vote_of K.world n) (log_of K.world n) (K.world.node n).committed = (K.inv.node n).cover in
        own_decided (vote_of K.world n) (K.world.node n).committed i C (omega (arith, S.vote)) (omega (arith, l, S.committed)) (omega (arith, l, S.committed, C.agree.left, S.log.len))

    pub decided_second : (k : ℕ) → 0 < k → k < length (whole (W.store n)) → s.is_membership (entry_at s (whole (W.store n)) k).payload ≡ true
        → DecidedBy W (W.store n).vote (last_membership s (entry_at s (whole (W.store n))) k) ((entry_at s (whole (W.store n)) (last_membership s (entry_at s (whole (W.store n))) k)).leader)
    decided_second k p b m =
        let S : StoreOk s (K.world.node n) (W.store n) = K.store n in
        let X : Log A = log_of K.world n in
        let l : k < (log_of K.world n).len = omega (arith, b, S.log.len) in
        let F : FollowsAt K.world (log_of K.world n) k = (K.inv.node n).follows k l in
        let m2 : s.is_membership ((leader_log K.world ((log_of K.world n).at k).leader).at k).payload ≡ true = ap (λ (z : Entry A). s.is_membership z.payload) (sym (F.agree.same k (omega arith)) ∙ S.log.agree.same k l) ∙ m in
        let C : Covered K.world ((log_of K.world n).at k).leader (leader_log K.world ((log_of K.world n).at k).leader) (suc (last_membership s (leader_log K.world ((log_of K.world n).at k).leader).at k)) =
        (K.inv.leader ((log_of K.world n).at k).leader).settled k p F.base (omega (arith, F.agree.right)) m2 in
        let e : last_membership s (entry_at s (whole (W.store n))) k ≡ last_membership s (leader_log K.world ((log_of K.world n).at k).leader).at k =
        last-same s (entry_at s (whole (W.store n))) (leader_log K.world ((log_of K.world n).at k).leader).at k (λ i h. sym (S.log.agree.same i (omega (arith, h, l))) ∙ F.agree.same i (omega (arith, h))) in
        let low : last_membership s (entry_at s (whole (W.store n))) k < k = last-lt s (entry_at s (whole (W.store n))) k p in
        let C2 : Covered K.world ((log_of K.world n).at k).leader (leader_log K.world ((log_of K.world n).at k).leader) (suc (last_membership s (entry_at s (whole (W.store n))) k)) =
        subst (λ i. Covered K.world ((log_of K.world n).at k).leader (leader_log K.world ((log_of K.world n).at k).leader) (suc i)) (sym e) C in
        let C3 : Covered K.world ((log_of K.world n).at k).leader (log_of K.world n) (suc (last_membership s (entry_at s (whole (W.store n))) k)) = record { leader = C2.leader; low = C2.low; within = C2.within; agree = Agree-trans (Agree-less (suc (last_membership s (entry_at s (whole (W.store n))) k)) (omega (arith, low)) F.agree) C2.agree } in
        let v : ((log_of K.world n).at k).leader ≤ vote_of K.world n = (K.inv.node n).low k l in
        own_decided ((log_of K.world n).at k).leader (suc (last_membership s (entry_at s (whole (W.store n))) k)) (last_membership s (entry_at s (whole (W.store n))) k) C3 (omega (arith, v, S.vote)) (omega arith) (omega (arith, low, b))
