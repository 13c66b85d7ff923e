-- What the step from the world of engines to this machine needs: that what a call tests allows the machine's event.
use Rattle.std.proofs.Common.{ℕ, zero, suc, ◌<◌, ◌≤◌, ◌≡◌, ◌≢◌, ◌⊎◌, inl, inr, ⊎_elim, true, arith, refl, sym, ap, ◌∙◌, subst}
use Rattle.std.proofs.lemmas.Bool.{cases_lt, cases_eq}
use Rattle.proof_agreement.specs.Machine.{ShareGroup, MayChangeGroups, last_membership, effective_membership, Log, Node, World, Setup, Agree, AtOrBelow, log_of, leader_log, vote_of, last_leader, IsLed, MayTruncate, MayClear, MayInstall, MayAcknowledge, MayLearnCommitted}
use Rattle.proof_agreement.proofs.Logs.{Agree-sym, Agree-trans, Agree-less}
use Rattle.proof_agreement.proofs.Invariants.{FollowsAt, Covered, Invariants}
use Rattle.proof_agreement.proofs.Consequences.{decided_agree, decided_in}
use Rattle.proof_agreement.proofs.Memberships.{IsMembership, last-lt, last-is, membership-same, last-same, effective_membership-same}
use Rattle.proof_agreement.proofs.LeaderIds.{first_same, rising}

-- the id at i is at or below the committed index, or is Y's
abbrev pub HoldsId : {A : Type 0} → Node A → Log A → ℕ → Type 0
HoldsId N Y i = (i < N.committed) ⊎ ((i < N.log.len) × ((N.log.at i).leader ≡ (Y.at i).leader))

module _ {A : Type 0} (s : Setup A) (w : World A) (inv : Invariants s w) where
  -- what is decided by a leader up to v stands in each leader's log from v on
  pub cover_in : (v : ℕ) (X : Log A) (c e : ℕ) → Covered w v X c → v ≤ e → (w.leader e).established ≡ true → Agree c X (leader_log w e)
  cover_in v X c e C h u =
      ⊎_elim
      (λ p. subst (λ j. Agree c X (leader_log w j)) p C.agree)
      (λ ne. Agree-trans C.agree (Agree-less c C.within (decided_in s w inv C.leader e (omega (arith, C.low, ne)) u).1))
      (cases_eq C.leader e)

  -- a follower's committed entries are its leader's
  pub committed_in : (n : ℕ) → (w.node n).vote_committed ≡ true → Agree (w.node n).committed (log_of w n) (leader_log w (vote_of w n))
  committed_in n t = cover_in (vote_of w n) (log_of w n) (w.node n).committed (vote_of w n) (inv.node n).cover (omega arith) ((inv.node n).established t)

  -- an id of the leader that the follower has brings all before it
  pub has_agree : (n j : ℕ) → (w.node n).vote_committed ≡ true → j < (leader_log w (vote_of w n)).len → HoldsId (w.node n) (leader_log w (vote_of w n)) j → Agree (suc j) (log_of w n) (leader_log w (vote_of w n))
  has_agree n j t l (inl h) = Agree-less (suc j) h (committed_in n t)
  has_agree n j t l (inr h) =
      let F : FollowsAt w (log_of w n) j = (inv.node n).follows j h.0 in
      let G : FollowsAt w (leader_log w (vote_of w n)) j = (inv.leader (vote_of w n)).follows j l in
      Agree-trans (subst (λ e. Agree (suc j) (log_of w n) (leader_log w e)) h.1 F.agree) (Agree-sym G.agree)

  pub may_truncate : (n j : ℕ) → IsLed s w n → j < (log_of w n).len → j < (leader_log w (vote_of w n)).len → (HoldsId (w.node n) (leader_log w (vote_of w n)) j → ⊥) → MayTruncate s w n j
  may_truncate n j led l l' lacks =
      record {
        led = led;
        past = ⊎_elim (λ h. absurd (lacks (inl h))) (λ h. h) (cases_lt j (w.node n).committed);
        in_own = l;
        in_leader = l';
        apart = λ p. lacks (inr (l, ap (λ x. x.leader) p));
      }

  pub may_acknowledge : (n j : ℕ) → (w.node n).vote_committed ≡ true → j < (leader_log w (vote_of w n)).len → HoldsId (w.node n) (leader_log w (vote_of w n)) j → MayAcknowledge w n (suc j)
  may_acknowledge n j t l h = record { vote_committed = t; agree = has_agree n j t l h }

  -- a follower learns what its leader had committed, as far as it agrees with it
  pub may_learn_committed : (n c x : ℕ) (C : Covered w (vote_of w n) (leader_log w (vote_of w n)) c) → x ≤ c → Agree x (log_of w n) (leader_log w (vote_of w n)) → MayLearnCommitted w n C.leader x
  may_learn_committed n c x C h a = record { low = C.low; decided = omega (arith, C.within); agree = Agree-trans a (Agree-less x h C.agree) }

  -- A snapshot whose last id is another than the log's at that index clears the log from there on. Where the groups
  -- are kept, it may also clear entries before it that aren't known as committed.
  pub may_clear : (n j k : ℕ) (X : Log A) (C : Covered w (vote_of w n) X (suc k)) → IsLed s w n → (w.node n).committed ≤ j → j ≤ k → (s.groups_kept ≡ true) ⊎ (j ≡ k) → k < (log_of w n).len → ((log_of w n).at k).leader ≢ (X.at k).leader → MayClear s w n j C.leader k
  may_clear n j k X C led h b deep l ne =
      record {
        led = led;
        past = h;
        shorter = omega arith;
        low = C.low;
        decided = C.within;
        apart = λ p. ne (ap (λ x. x.leader) (p ∙ sym (C.agree.same k (omega arith))));
        deep = ⊎_elim inl (λ e. inr (omega arith)) deep;
      }

  pub may_install : (n k : ℕ) (X : Log A) (C : Covered w (vote_of w n) X k) → IsLed s w n → (log_of w n).len < k → MayInstall s w n C.leader k
  may_install n k X C led h = record { led = led; low = C.low; decided = C.within; longer = h }

  -- a snapshot whose last id is the log's at that index is how the log begins
  pub snapshot_in : (n v k : ℕ) (X : Log A) → Covered w v X (suc k) → k < (log_of w n).len → ((log_of w n).at k).leader ≡ (X.at k).leader → Agree (suc k) X (log_of w n)
  snapshot_in n v k X C l p =
      let F : FollowsAt w (log_of w n) k = (inv.node n).follows k l in
      let q : (X.at k).leader ≡ ((leader_log w C.leader).at k).leader = ap (λ x. x.leader) (C.agree.same k (omega arith)) in
      let G : FollowsAt w (leader_log w C.leader) k = (inv.leader C.leader).follows k (omega (arith, C.agree.right)) in
      Agree-trans (Agree-trans C.agree G.agree) (Agree-sym (subst (λ e. Agree (suc k) (log_of w n) (leader_log w e)) (p ∙ q) F.agree))

  -- what leaders have decided at or below a committed index isn't above the committed id
  below_committed : (n v k : ℕ) (X : Log A) → Covered w v X k → (m : ℕ) → m ≡ (w.node n).committed → k ≤ m → last_leader X.at k ≤ last_leader (log_of w n).at m
  below_committed n v zero X C m e h = omega arith
  below_committed n v (suc k) X C zero e h = absurd (omega arith)
  below_committed n v (suc k) X C (suc m) e h =
      let E : Covered w (vote_of w n) (log_of w n) (w.node n).committed = (inv.node n).cover in
      let a : Agree (suc k) X (log_of w n) = Agree-trans C.agree (Agree-trans (decided_agree s w inv C.leader E.leader (suc k) C.within (omega (arith, E.within))) (Agree-sym (Agree-less (suc k) (omega arith) E.agree))) in
      subst (λ x. x.leader ≤ ((log_of w n).at m).leader) (sym (a.same k (omega arith))) (rising s w inv (log_of w n) (inv.node n).follows k m (omega arith) (omega (arith, E.agree.left)))

  pub not_above : (n v k : ℕ) (X : Log A) → Covered w v X k → k ≤ (w.node n).committed → AtOrBelow (last_leader X.at k) k (last_leader (log_of w n).at (w.node n).committed) (w.node n).committed
  not_above n v k X C h =
      let l : last_leader X.at k ≤ last_leader (log_of w n).at (w.node n).committed = below_committed n v k X C (w.node n).committed refl h in
      ⊎_elim (λ a. inl a) (λ a. inr (omega arith, h)) (cases_lt (last_leader X.at k) (last_leader (log_of w n).at (w.node n).committed))

  -- a snapshot whose last id is at or below the committed id ends at or below the committed index
  pub within_committed : (n v k : ℕ) (X : Log A) → Covered w v X k → AtOrBelow (last_leader X.at k) k (last_leader (log_of w n).at (w.node n).committed) (w.node n).committed → k ≤ (w.node n).committed
  within_committed n v zero X C u = omega arith
  within_committed n v (suc k) X C u = ⊎_elim (λ a. late a u) (λ p. p.1) u
    where
      E : Covered w (vote_of w n) (log_of w n) (w.node n).committed
      E = (inv.node n).cover

      go : (m : ℕ) → m ≡ (w.node n).committed → m ≤ k → (X.at k).leader < last_leader (log_of w n).at m → ⊥
      go zero e h l = omega arith
      go (suc m) e h l =
          let a : Agree (suc m) (leader_log w C.leader) (log_of w n) = Agree-trans (decided_agree s w inv C.leader E.leader (suc m) (omega (arith, C.within)) (omega (arith, E.within))) (Agree-sym (Agree-less (suc m) (omega arith) E.agree)) in
          let r : ((leader_log w C.leader).at m).leader ≤ ((leader_log w C.leader).at k).leader = rising s w inv (leader_log w C.leader) (inv.leader C.leader).follows m k (omega arith) (omega (arith, C.agree.right)) in
          omega (arith, ap (λ x. x.leader) (a.same m (omega arith)), ap (λ x. x.leader) (C.agree.same k (omega arith)), r)

      late : (X.at k).leader < last_leader (log_of w n).at (w.node n).committed → AtOrBelow (X.at k).leader (suc k) (last_leader (log_of w n).at (w.node n).committed) (w.node n).committed → suc k ≤ (w.node n).committed
      late a _ = ⊎_elim (λ l. absurd (go (w.node n).committed refl (omega arith) a)) (λ l. l) (cases_lt (w.node n).committed (suc k))

  -- A follower's log differs from its leader's only past the membership before its last one: that one was decided
  -- when the last one was proposed. So a truncation leaves the membership that stands before the last.
  pub membership_kept : (n i : ℕ) → (w.node n).vote_committed ≡ true → i < (log_of w n).len → i < (leader_log w (vote_of w n)).len → (log_of w n).at i ≢ (leader_log w (vote_of w n)).at i → last_membership s (log_of w n).at (last_membership s (log_of w n).at (log_of w n).len) < i
  membership_kept n i t l l' apart = go (last_membership s (log_of w n).at (log_of w n).len) refl
    where
      X : Log A
      X = log_of w n

      first_too : Agree 1 (log_of w n) (leader_log w (vote_of w n))
      first_too =
          let F : FollowsAt w (log_of w n) 0 = (inv.node n).follows 0 (omega arith) in
          Agree-trans F.agree (Agree-trans (first_same s w inv ((log_of w n).at 0).leader (omega (arith, F.agree.right))) (Agree-sym (first_same s w inv (vote_of w n) (omega arith))))

      at_place : (j : ℕ) → j < (log_of w n).len → 0 < j → IsMembership s (log_of w n).at j → last_membership s (log_of w n).at j < i
      at_place j h p m =
          let F : FollowsAt w (log_of w n) j = (inv.node n).follows j h in
          let f : ℕ = ((log_of w n).at j).leader in
          let C : Covered w f (leader_log w f) (suc (last_membership s (leader_log w f).at j)) = (inv.leader f).settled j p F.base (omega (arith, F.agree.right)) (membership-same s j (omega arith) F.agree m) in
          let e : last_membership s (log_of w n).at j ≡ last_membership s (leader_log w f).at j = last-same s (log_of w n).at (leader_log w f).at j (λ k b. F.agree.same k (omega arith)) in
          let a : Agree (suc (last_membership s (leader_log w f).at j)) (leader_log w f) (leader_log w (vote_of w n)) = cover_in f (leader_log w f) (suc (last_membership s (leader_log w f).at j)) (vote_of w n) C ((inv.node n).low j h) ((inv.node n).established t) in
          let b : last_membership s (log_of w n).at j < j = last-lt s (log_of w n).at j p in
          ⊎_elim (λ z. z) (λ z. absurd (apart (F.agree.same i (omega arith) ∙ a.same i (omega arith)))) (cases_lt (last_membership s (log_of w n).at j) i)

      go : (j : ℕ) → last_membership s (log_of w n).at (log_of w n).len ≡ j → last_membership s (log_of w n).at j < i
      go zero e = ⊎_elim (λ z. z) (λ z. let q : i ≡ 0 = omega arith in absurd (subst (λ k. (log_of w n).at k ≢ (leader_log w (vote_of w n)).at k) q apart (first_too.same 0 (omega arith)))) (cases_lt 0 i)
      go (suc j) e =
          let b : last_membership s (log_of w n).at (log_of w n).len < (log_of w n).len = last-lt s (log_of w n).at (log_of w n).len (omega arith) in
          at_place (suc j) (omega arith) (omega arith) (subst (λ k. IsMembership s (log_of w n).at k) e (last-is s (log_of w n).at (log_of w n).len (omega arith)))

  -- what is committed at a leader past its own first entry, it has decided itself
  pub may_change_groups : (n m : ℕ) (x : A) → (w.node n).vote_committed ≡ true → s.owner (vote_of w n) ≡ n → m < (w.node n).committed → ((log_of w n).at m).leader ≡ vote_of w n → last_membership s (log_of w n).at (log_of w n).len < (w.node n).committed → ShareGroup s (effective_membership s (log_of w n) (log_of w n).len) x → MayChangeGroups s w (vote_of w n) x
  may_change_groups n m x t o h own last share =
      let C : Covered w (vote_of w n) (log_of w n) (w.node n).committed = (inv.node n).cover in
      let F : FollowsAt w (log_of w n) m = (inv.node n).follows m (omega (arith, C.agree.left)) in
      let b : (w.leader (vote_of w n)).base ≤ m = subst (λ j. (w.leader j).base ≤ m) own F.base in
      let z : ((log_of w n).len ≡ (leader_log w (vote_of w n)).len) × Agree (log_of w n).len (log_of w n) (leader_log w (vote_of w n)) = (inv.node n).own t o in
      let e : C.leader ≡ vote_of w n = ⊎_elim (λ e. e) (λ ne. let y : (w.leader C.leader).decided ≤ (w.leader (vote_of w n)).base = (decided_in s w inv C.leader (vote_of w n) (omega (arith, C.low, ne)) ((inv.node n).established t)).0 in absurd (omega (arith, C.within))) (cases_eq C.leader (vote_of w n)) in
      let d : (w.node n).committed ≤ (w.leader (vote_of w n)).decided = subst (λ j. (w.node n).committed ≤ (w.leader j).decided) e C.within in
      let l : last_membership s (log_of w n).at (log_of w n).len ≡ last_membership s (leader_log w (vote_of w n)).at (leader_log w (vote_of w n)).len = last-same s (log_of w n).at (leader_log w (vote_of w n)).at (log_of w n).len z.1.same ∙ ap (last_membership s (leader_log w (vote_of w n)).at) z.0 in
      let v : effective_membership s (log_of w n) (log_of w n).len ≡ effective_membership s (leader_log w (vote_of w n)) (leader_log w (vote_of w n)).len = effective_membership-same s (log_of w n) (leader_log w (vote_of w n)) (log_of w n).len (omega (arith, C.agree.left)) z.1 ∙ ap (effective_membership s (leader_log w (vote_of w n))) z.0 in
      record { last = omega arith; share = subst (λ y. ShareGroup s y x) v share }
