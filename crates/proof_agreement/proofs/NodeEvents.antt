-- Each event that changes one node alone keeps the invariants.
use Rattle.std.proofs.Common.{ℕ, suc, ◌<◌, ◌≤◌, ◌≡◌, ◌≢◌, ◌⊎◌, inl, inr, ⊎_elim, Bool, true, false, arith, refl, sym, ap, ◌∙◌, subst}
use Rattle.std.proofs.lemmas.Bool.{cases_lt, cases_eq, true≢false}
use Rattle.proof_agreement.specs.Machine.{Node, World, Setup, Agree, log_of, leader_log, vote_of, set_node, set_log, MayFollow, MayTruncate, MayExtend, MayClear, MayInstall, MayLearnCommitted, MayBegin, IsLed}
use Rattle.proof_agreement.proofs.Logs.{Agree-sym, Agree-trans, Agree-less, Agree-cut, updated_all}
use Rattle.proof_agreement.proofs.Invariants.{MayLack, Covered, AcknowledgedAt, NodeInvariant, IsPast, Invariants, limit, limit_of}
use Rattle.proof_agreement.proofs.Stability.{LeaderGrows-refl, Grows, node_on, leader_on, acknowledged_on, grant_on, executed_on}
use Rattle.proof_agreement.proofs.Consequences.{may_lack_up, cover_up, follows_cut, same_id, dec_le_len, beaten, limit_committed, limit_le}

module _ {A : Type 0} (s : Setup A) (w : World A) where
  pub node_grows : (n : ℕ) (N : Node A) → vote_of w n ≤ N.vote → Grows w (set_node w n N)
  node_grows n N h =
      record {
        leader = λ d. LeaderGrows-refl (w.leader d);
        vote = updated_all (λ m M. vote_of w m ≤ M.vote) w.node n N h (λ m _. omega arith);
        acknowledged = λ m d k a. inl a;
        acknowledges = λ m d. omega arith;
        grants = λ x h. h;
      }

  pub node_kept : (n : ℕ) (N : Node A) → vote_of w n ≤ N.vote → ((d : ℕ) → s.owner d ≡ n → IsPast (w.node n) d → IsPast N d) → NodeInvariant s w n N → Invariants s w → Invariants s (set_node w n N)
  node_kept n N h past I inv =
      let g : Grows w (set_node w n N) = node_grows n N h in
      record {
        node = updated_all (λ m M. NodeInvariant s (set_node w n N) m M) w.node n N (node_on s w (set_node w n N) g inv n N (λ _ _. refl) (λ e k a. inl a) I) (λ m _. node_on s w (set_node w n N) g inv m (w.node m) (λ _ _. refl) (λ e k a. inl a) (inv.node m));
        leader = λ d. leader_on s w (set_node w n N) g inv d (w.leader d) (inv.leader d);
        acknowledged = λ m d k a. acknowledged_on s w (set_node w n N) g inv m d k (inv.acknowledged m d k a);
        grants = λ x h'. grant_on s w (set_node w n N) g inv x (inv.grants x h');
        bound = inv.bound;
        executed = λ x h'. executed_on s w (set_node w n N) g x (inv.executed x h');
        first = inv.first;
        first_is = inv.first_is;
        owned = λ d p u. updated_all (λ m M. s.owner d ≡ m → IsPast M d) w.node n N (λ e. past d e (subst (λ m. IsPast (w.node m) d) e (inv.owned d p u))) (λ m _ e. subst (λ j. IsPast (w.node j) d) e (inv.owned d p u)) (s.owner d) refl;
      }

  module _ (inv : Invariants s w) where
    -- a greater vote, committed or not
    voted_node : (n d : ℕ) (b : Bool) → vote_of w n ≤ d → limit (w.node n) ≤ limit_of b d → (b ≡ true → (w.leader d).established ≡ true) → (b ≡ true → s.owner d ≢ n) → NodeInvariant s w n (record (w.node n) { vote = d; vote_committed = b })
    voted_node n d b h lim u o =
        let I : NodeInvariant s w n (w.node n) = inv.node n in
        record {
          established = u;
          own = λ t p. absurd (o t p);
          acknowledges = λ t p. absurd (o t p);
          follows = I.follows;
          low = λ i l. omega (arith, I.low i l);
          kept = λ e k a. ⊎_elim inl (λ x. inr (may_lack_up s w (limit (w.node n)) (limit_of b d) e k lim x)) (I.kept e k a);
          cover = cover_up w (vote_of w n) d (log_of w n) (w.node n).committed h I.cover;
        }

    pub raise_kept : (n d : ℕ) → vote_of w n < d → Invariants s (set_node w n (record (w.node n) { vote = d; vote_committed = false }))
    raise_kept n d h = node_kept n (record (w.node n) { vote = d; vote_committed = false }) (omega arith) (λ e _ p. inl (⊎_elim (λ l. omega arith) (λ q. omega (arith, q.0)) p)) (voted_node n d false (omega arith) (omega (arith, limit_le (w.node n))) (λ t. absurd (true≢false (sym t))) (λ t. absurd (true≢false (sym t)))) inv

    pub follow_kept : (n d : ℕ) → MayFollow s w n d → Invariants s (set_node w n (record (w.node n) { vote = d; vote_committed = true }))
    follow_kept n d h = node_kept n (record (w.node n) { vote = d; vote_committed = true }) h.from (λ e o p. inl (later e o p)) (voted_node n d true h.from (omega (arith, limit_le (w.node n), h.from)) (λ _. h.established) (λ _ p. h.other (sym p))) inv
      where
        later : (e : ℕ) → s.owner e ≡ n → IsPast (w.node n) e → e < d
        later e o (inl l) = omega (arith, h.from)
        later e o (inr p) = let ne : e ≢ d = λ q. h.other (sym o ∙ ap s.owner q) in omega (arith, p.0, h.from, ne)

    -- the log of a follower is cut at m
    cut_node : (n m : ℕ) → IsLed s w n → (w.node n).committed ≤ m → m ≤ (log_of w n).len → ((e k : ℕ) → k < w.acknowledged n e → Agree (suc k) (log_of w n) (leader_log w e) → (suc k ≤ m) ⊎ MayLack s w (limit (w.node n)) e k) → NodeInvariant s w n (record (w.node n) { log = record (log_of w n) { len = m } })
    cut_node n m led past shorter held =
        let I : NodeInvariant s w n (w.node n) = inv.node n in
        record {
          established = I.established;
          own = λ _ p. absurd (led.other (sym p));
          acknowledges = λ _ p. absurd (led.other (sym p));
          follows = λ i h. follows_cut w (log_of w n) m i h (I.follows i (omega arith));
          low = λ i h. I.low i (omega arith);
          kept = λ e k a. ⊎_elim (λ h. ⊎_elim (λ l. inl (Agree-cut m l h)) inr (held e k a h)) inr (I.kept e k a);
          cover = record { leader = I.cover.leader; low = I.cover.low; within = I.cover.within; agree = Agree-cut m past I.cover.agree };
        }

    pub truncate_kept : (n i : ℕ) → MayTruncate s w n i → Invariants s (set_log w n (record (log_of w n) { len = i }))
    truncate_kept n i h =
        node_kept n (record (w.node n) { log = record (log_of w n) { len = i } }) (omega arith) (λ _ _ p. p)
        (cut_node n i h.led h.past (omega (arith, h.in_own)) (λ e k a x. ⊎_elim (λ l. inr (by_leader e k a x (omega arith))) (λ l. inl l) (cases_lt i (suc k))))
        inv
      where
        by_leader : (e k : ℕ) → k < w.acknowledged n e → Agree (suc k) (log_of w n) (leader_log w e) → i ≤ k → MayLack s w (limit (w.node n)) e k
        by_leader e k a x l =
            let K : AcknowledgedAt w n e k = inv.acknowledged n e k a in
            let ne : e ≢ vote_of w n = λ q. h.apart (x.same i (omega arith) ∙ ap (λ j. (leader_log w j).at i) q) in
            record {
              leader = vote_of w n;
              low = omega (arith, limit_committed (w.node n) h.led.vote_committed);
              why = inl (record { above = omega (arith, K.low, ne); established = (inv.node n).established h.led.vote_committed; place = i; low = l; in_old = omega (arith, x.right); in_new = h.in_leader; apart = λ y. h.apart (x.same i (omega arith) ∙ sym y) });
            }

    pub clear_kept : (n j d p : ℕ) → MayClear s w n j d p → Invariants s (set_log w n (record (log_of w n) { len = j }))
    clear_kept n j d p h =
        node_kept n (record (w.node n) { log = record (log_of w n) { len = j } }) (omega arith) (λ _ _ p. p)
        (cut_node n j h.led h.past h.shorter (λ e k a x.
        ⊎_elim
        (λ l. inr (beaten s w inv n d p e k h.led.vote_committed a x (omega arith) h.decided h.low h.apart))
        (λ l. ⊎_elim
        (λ t. inr (record { leader = d; low = omega (arith, h.low, limit_committed (w.node n) h.led.vote_committed); why = inr (t, omega (arith, h.decided)) }))
        (λ t. inl (omega arith))
        h.deep)
        (cases_lt p (suc k))))
        inv

    -- the log of a follower becomes the first m entries of a leader's
    taken_node : (n d m c : ℕ) → IsLed s w n → d ≤ vote_of w n → m ≤ (leader_log w d).len → Covered w (vote_of w n) (record (leader_log w d) { len = m }) c → ((e k : ℕ) → k < w.acknowledged n e → Agree (suc k) (log_of w n) (leader_log w e) → ((suc k ≤ m) × Agree (suc k) (log_of w n) (leader_log w d)) ⊎ MayLack s w (limit (w.node n)) e k) → NodeInvariant s w n (record (w.node n) { log = record (leader_log w d) { len = m }; committed = c })
    taken_node n d m c led low inside C held =
        let I : NodeInvariant s w n (w.node n) = inv.node n in
        record {
          established = I.established;
          own = λ _ p. absurd (led.other (sym p));
          acknowledges = λ _ p. absurd (led.other (sym p));
          follows = λ i h. follows_cut w (leader_log w d) m i h ((inv.leader d).follows i (omega arith));
          low = λ i h. omega (arith, (inv.leader d).low i (omega arith));
          kept = λ e k a. ⊎_elim (λ h. ⊎_elim (λ l. inl (Agree-cut m l.0 (Agree-trans (Agree-sym l.1) h))) inr (held e k a h)) inr (I.kept e k a);
          cover = C;
        }

    pub extend_kept : (n m : ℕ) → MayExtend s w n m → Invariants s (set_log w n (record (leader_log w (vote_of w n)) { len = m }))
    extend_kept n m h =
        let C : Covered w (vote_of w n) (log_of w n) (w.node n).committed = (inv.node n).cover in
        let c : (w.node n).committed ≤ (log_of w n).len = C.agree.left in
        node_kept n (record (w.node n) { log = record (leader_log w (vote_of w n)) { len = m } }) (omega arith) (λ _ _ p. p)
        (taken_node n (vote_of w n) m (w.node n).committed h.led (omega arith) h.in_leader
        (record { leader = C.leader; low = C.low; within = C.within; agree = Agree-cut m (omega (arith, h.longer)) (Agree-trans (Agree-sym (Agree-less (w.node n).committed c h.agree)) C.agree) })
        (λ e k _ x. inl (omega (arith, x.left, h.longer), Agree-less (suc k) x.left h.agree)))
        inv

    pub install_kept : (n d k : ℕ) → MayInstall s w n d k → Invariants s (set_node w n (record (w.node n) { log = record (leader_log w d) { len = k }; committed = k }))
    install_kept n d k h =
        let inside : k ≤ (leader_log w d).len = omega (arith, h.decided, dec_le_len s w inv d) in
        node_kept n (record (w.node n) { log = record (leader_log w d) { len = k }; committed = k }) (omega arith) (λ _ _ p. p)
        (taken_node n d k k h.led h.low inside
        (record { leader = d; low = h.low; within = h.decided; agree = record { left = omega arith; right = inside; same = λ i _. refl } })
        (λ e k' a x. still e k' a x))
        inv
      where
        -- an entry that the new log lacks is contradicted by it at its own place
        still : (e k' : ℕ) → k' < w.acknowledged n e → Agree (suc k') (log_of w n) (leader_log w e) → ((suc k' ≤ k) × Agree (suc k') (log_of w n) (leader_log w d)) ⊎ MayLack s w (limit (w.node n)) e k'
        still e k' a x =
            let l : k' < (w.leader d).decided = omega (arith, x.left, h.longer, h.decided) in
            ⊎_elim
            (λ q. inl (omega (arith, x.left, h.longer), same_id w (log_of w n) (leader_log w d) k' ((inv.node n).follows k' (omega (arith, x.left))) ((inv.leader d).follows k' (omega (arith, l, dec_le_len s w inv d))) q))
            (λ ne. inr (beaten s w inv n d k' e k' h.led.vote_committed a x (omega arith) l h.low (λ q. ne (ap (λ y. y.leader) q))))
            (cases_eq ((log_of w n).at k').leader ((leader_log w d).at k').leader)

    -- another committed length
    committed_node : (n c : ℕ) → Covered w (vote_of w n) (log_of w n) c → NodeInvariant s w n (record (w.node n) { committed = c })
    committed_node n c C =
        let I : NodeInvariant s w n (w.node n) = inv.node n in
        record { established = I.established; own = I.own; acknowledges = I.acknowledges; follows = I.follows; low = I.low; kept = I.kept; cover = C }

    pub learn_kept : (n d c : ℕ) → MayLearnCommitted w n d c → Invariants s (set_node w n (record (w.node n) { committed = c }))
    learn_kept n d c h = node_kept n (record (w.node n) { committed = c }) (omega arith) (λ _ _ p. p) (committed_node n c (record { leader = d; low = h.low; within = h.decided; agree = h.agree })) inv

    pub forget_kept : (n c : ℕ) → c ≤ (w.node n).committed → Invariants s (set_node w n (record (w.node n) { committed = c }))
    forget_kept n c h =
        let C : Covered w (vote_of w n) (log_of w n) (w.node n).committed = (inv.node n).cover in
        node_kept n (record (w.node n) { committed = c }) (omega arith) (λ _ _ p. p) (committed_node n c (record { leader = C.leader; low = C.low; within = omega (arith, C.within); agree = Agree-less c h C.agree })) inv

    pub begin_kept : (n : ℕ) → MayBegin w n → Invariants s (set_log w n (record (leader_log w 0) { len = 1 }))
    begin_kept n h =
        let I : NodeInvariant s w n (w.node n) = inv.node n in
        let none : (w.node n).committed ≤ 0 = omega (arith, I.cover.agree.left, h.none) in
        node_kept n (record (w.node n) { log = record (leader_log w 0) { len = 1 } }) (omega arith) (λ _ _ p. p)
        (record {
          established = I.established;
          own = λ t _. absurd (true≢false (sym t ∙ h.not_committed));
          acknowledges = λ t _. absurd (true≢false (sym t ∙ h.not_committed));
          follows = λ i l. follows_cut w (leader_log w 0) 1 i l ((inv.leader 0).follows i (omega (arith, inv.first)));
          low = λ i l. omega (arith, (inv.leader 0).low i (omega (arith, inv.first)));
          kept = λ e k a. ⊎_elim (λ x. absurd (omega (arith, x.left, h.none))) inr (I.kept e k a);
          cover = record { leader = I.cover.leader; low = I.cover.low; within = I.cover.within; agree = record { left = omega arith; right = I.cover.agree.right; same = λ i l. absurd (omega arith) } };
        })
        inv
