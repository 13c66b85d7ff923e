-- What each event changes at most, and that it keeps the invariants.
use Rattle.std.proofs.Common.{ℕ, zero, suc, ◌<◌, ◌≤◌, ◌≡◌, ◌⊎◌, inl, inr, ⊎_elim, true, arith, refl, sym, ◌∙◌, subst, ap}
use Rattle.proof_agreement.specs.Machine.{Log, Node, Leader, World, Setup, Grant, Executed, Includes, Agree, AtOrBelow, IsQuorum, ShareGroup, Chosen, last_leader, last_membership, effective_membership, leader_log, vote_of}
use Rattle.proof_agreement.proofs.Logs.{Agree-trans, Agree-less, Agree-refl}
use Rattle.proof_agreement.proofs.Memberships.{quorum-same, effective_membership-same, last-same}
use Rattle.proof_agreement.proofs.Invariants.{FollowsAt, Contradicts, MayLack, Covered, AcknowledgedAt, ExecutedAt, Elected, MembershipMadeAt, MembershipMade, DecidedAt, NodeInvariant, LeaderInvariant, GrantInvariant, Invariants, limit}

module _ {A : Type 0} where
  pub record LeaderGrows (a b : Leader A) : Type 0 where
    pub established : a.established ≡ true → b.established ≡ true
    pub base : a.established ≡ true → b.base ≡ a.base
    pub log : Agree a.log.len a.log b.log
    pub decided : a.decided ≤ b.decided

  pub LeaderGrows-refl : (a : Leader A) → LeaderGrows a a
  LeaderGrows-refl a = record { established = λ h. h; base = λ _. refl; log = Agree-refl a.log.len a.log (omega arith); decided = omega arith }

  -- logs and histories grow, and only those acknowledge a leader anew whose vote it has
  pub record Grows (w w' : World A) : Type 0 where
    pub leader : (d : ℕ) → LeaderGrows (w.leader d) (w'.leader d)
    pub vote : (n : ℕ) → vote_of w n ≤ vote_of w' n
    pub acknowledged : (n d k : ℕ) → k < w'.acknowledged n d → (k < w.acknowledged n d) ⊎ (vote_of w n ≡ d)
    pub acknowledges : (n d : ℕ) → w.acknowledged n d ≤ w'.acknowledged n d
    pub grants : (g : Grant) → Includes w.grants g → Includes w'.grants g

module _ {A : Type 0} (s : Setup A) (w w' : World A) (g : Grows w w') where
  pub chosen_on : (d k : ℕ) → Chosen s w d k → Chosen s w' d k
  chosen_on d k c =
      record {
        span = c.span;
        past = c.past;
        inside = omega (arith, c.inside, (g.leader d).log.right);
        by = c.by;
        quorum = quorum-same s (leader_log w d) (leader_log w' d) c.span c.by (omega (arith, c.past)) (Agree-less c.span c.inside (g.leader d).log) c.quorum;
        each = λ n q. omega (arith, c.each n q, g.acknowledges n d);
      }

  pub holds_on : {m : ℕ} {X : Log A} (e : ℕ) → Agree m X (leader_log w e) → Agree m X (leader_log w' e)
  holds_on {m} e a = Agree-trans a (Agree-less m a.right (g.leader e).log)

  pub follows_on : (X : Log A) (i : ℕ) → FollowsAt w X i → FollowsAt w' X i
  follows_on X i f =
      record {
        established = (g.leader (X.at i).leader).established f.established;
        base = omega (arith, (g.leader (X.at i).leader).base f.established, f.base);
        agree = holds_on (X.at i).leader f.agree;
      }

  contradicts_on : (d e k : ℕ) → Contradicts w d e k → Contradicts w' d e k
  contradicts_on d e k a =
      record {
        above = a.above;
        established = (g.leader d).established a.established;
        place = a.place;
        low = a.low;
        in_old = omega (arith, a.in_old, (g.leader e).log.right);
        in_new = omega (arith, a.in_new, (g.leader d).log.right);
        apart = λ p. a.apart ((g.leader d).log.same a.place a.in_new ∙ (p ∙ sym ((g.leader e).log.same a.place a.in_old)));
      }

  pub may_lack_on : (v v' e k : ℕ) → v ≤ v' → MayLack s w v e k → MayLack s w' v' e k
  may_lack_on v v' e k h l =
      record {
        leader = l.leader;
        low = omega (arith, l.low);
        why = ⊎_elim (λ a. inl (contradicts_on l.leader e k a)) (λ a. inr (a.0, omega (arith, a.1, (g.leader l.leader).decided))) l.why;
      }

  pub cover_on : (v v' : ℕ) (X : Log A) (c : ℕ) → v ≤ v' → Covered w v X c → Covered w' v' X c
  cover_on v v' X c h l =
      record {
        leader = l.leader;
        low = omega (arith, l.low);
        within = omega (arith, l.within, (g.leader l.leader).decided);
        agree = holds_on l.leader l.agree;
      }

  pub executed_on : (x : Executed A) → ExecutedAt w x → ExecutedAt w' x
  executed_on x y = record { leader = y.leader; within = omega (arith, y.within, (g.leader y.leader).decided); inside = omega (arith, y.inside, (g.leader y.leader).log.right); is = sym ((g.leader y.leader).log.same x.index y.inside) ∙ y.is }

  pub elected_on : (d : ℕ) (D : Leader A) → Elected s w d D → Elected s w' d D
  elected_on d D e = record { some = e.some; by = e.by; quorum = e.quorum; each = λ n t. let x = e.each n t in (x.0, g.grants x.0 x.1, x.2, x.3, x.4) }

  pub membership_made_on : (d m : ℕ) (D : Leader A) → MembershipMade s w d m D → MembershipMade s w' d m D
  membership_made_on d m D h =
      record {
        same = h.same;
        change = λ t. let x : MembershipMadeAt s w d m D = h.change t in record { upto = x.upto; base = x.base; past = x.past; last = x.last; by = x.by; quorum = x.quorum; each = λ n q. omega (arith, x.each n q, g.acknowledges n d); share = x.share };
      }

  module _ (inv : Invariants s w) where
    pub acknowledged_on : (n d k : ℕ) → AcknowledgedAt w n d k → AcknowledgedAt w' n d k
    acknowledged_on n d k a =
        record {
          low = omega (arith, a.low, g.vote n);
          established = (g.leader d).established a.established;
          inside = omega (arith, a.inside, (g.leader d).log.right);
        }

    pub node_on : (n : ℕ) (N : Node A) → (N.vote_committed ≡ true → s.owner N.vote ≡ n → (leader_log w' N.vote).len ≡ (leader_log w N.vote).len) → ((e k : ℕ) → k < w'.acknowledged n e → (k < w.acknowledged n e) ⊎ Agree (suc k) N.log (leader_log w' e)) → NodeInvariant s w n N → NodeInvariant s w' n N
    node_on n N still quiet I =
        record {
          established = λ h. (g.leader N.vote).established (I.established h);
          own = λ h o. (omega (arith, still h o, (I.own h o).0), holds_on N.vote (I.own h o).1);
          acknowledges = λ h o. omega (arith, I.acknowledges h o, g.acknowledges n N.vote);
          follows = λ i h. follows_on N.log i (I.follows i h);
          low = I.low;
          kept = λ e k a.
              ⊎_elim
              (λ a'. ⊎_elim (λ h. inl (holds_on e h)) (λ h. inr (may_lack_on (limit N) (limit N) e k (omega arith) h)) (I.kept e k a'))
              inl
              (quiet e k a);
          cover = cover_on N.vote N.vote N.log N.committed (omega arith) I.cover;
        }

    pub leader_on : (d : ℕ) (D : Leader A) → LeaderInvariant s w d D → LeaderInvariant s w' d D
    leader_on d D I =
        record {
          established = I.established;
          base = I.base;
          follows = λ i h. follows_on D.log i (I.follows i h);
          low = I.low;
          mine = I.mine;
          elected = λ u p. elected_on d D (I.elected u p);
          decided = λ k e. let x : DecidedAt s w d k D = I.decided k e in record { established = x.established; base = x.base; inside = x.inside; chosen = chosen_on d k x.chosen };
          memberships = λ m p b l t. membership_made_on d m D (I.memberships m p b l t);
          settled = λ m p b l t. cover_on d d D.log (suc (last_membership s D.log.at m)) (omega arith) (I.settled m p b l t);
        }

    -- an acknowledgement of a leader below a vote is an old one
    pub old_acknowledged : (n d k : ℕ) → d < vote_of w n → k < w'.acknowledged n d → k < w.acknowledged n d
    old_acknowledged n d k l a = ⊎_elim (λ h. h) (λ p. absurd (omega arith)) (g.acknowledged n d k a)

    pub grant_on : (x : Grant) → GrantInvariant s w x → GrantInvariant s w' x
    grant_on x I =
        record {
          low = omega (arith, I.low, g.vote x.node);
          kept = λ e k l b a.
              let a' : k < w.acknowledged x.node e = old_acknowledged x.node e k (omega (arith, I.low)) a in
              ⊎_elim inl (λ h. inr (may_lack_on x.leader x.leader e k (omega arith) h)) (I.kept e k l (omega (arith, b, (g.leader e).base (inv.acknowledged x.node e k a').established)) a');
        }

-- a history that only got longer
pub last_leader-same : {A : Type 0} (X Y : Log A) (m : ℕ) → Agree m X Y → last_leader X.at m ≡ last_leader Y.at m
last_leader-same X Y zero a = refl
last_leader-same X Y (suc m) a = ap (λ x. x.leader) (a.same m (omega arith))

module _ {A : Type 0} (s : Setup A) (w : World A) (d : ℕ) (D D' : Leader A) (base : D'.base ≡ D.base) where
  pub elected_longer : Agree D.base D.log D'.log → Elected s w d D → Elected s w d D'
  elected_longer a E =
      let b : Agree D'.base D.log D'.log = subst (λ j. Agree j D.log D'.log) (sym base) a in
      record {
        some = omega (arith, E.some, base);
        by = E.by;
        quorum = quorum-same s D.log D'.log D'.base E.by (omega (arith, E.some, base)) b (subst (λ j. IsQuorum s (effective_membership s D.log j) E.by) (sym base) E.quorum);
        each = λ n t.
            let x : (g : Grant) × Includes w.grants g × (g.node ≡ n) × (g.leader ≡ d) × AtOrBelow g.last g.len (last_leader D.log.at D.base) D.base = E.each n t in
            (x.0, x.1, x.2, x.3, subst (λ j. AtOrBelow (x.0).last (x.0).len j D'.base) (last_leader-same D.log D'.log D'.base b) (subst (λ j. AtOrBelow (x.0).last (x.0).len (last_leader D.log.at j) j) (sym base) x.4));
      }

  pub membership_made_longer : (m : ℕ) → 0 < m → Agree (suc m) D.log D'.log → MembershipMade s w d m D → MembershipMade s w d m D'
  membership_made_longer m p a M =
      let b : Agree m D.log D'.log = Agree-less m (omega arith) a in
      let e : D.log.at m ≡ D'.log.at m = a.same m (omega arith) in
      let v : effective_membership s D.log m ≡ effective_membership s D'.log m = effective_membership-same s D.log D'.log m p b in
      record {
        same = λ t. subst (λ x. s.first_group x.payload ≡ s.first_group s.first_payload) e (M.same t);
        change = λ t.
            let x : MembershipMadeAt s w d m D = M.change t in
            record {
              upto = x.upto;
              base = omega (arith, x.base, base);
              past = x.past;
              last = omega (arith, x.last, last-same s D.log.at D'.log.at m b.same);
              by = x.by;
              quorum = subst (λ y. IsQuorum s y x.by) v x.quorum;
              each = x.each;
              share = subst (λ y. ShareGroup s y (D'.log.at m).payload) v (subst (λ y. ShareGroup s (effective_membership s D.log m) y.payload) e x.share);
            };
      }
