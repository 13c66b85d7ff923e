-- The invariants hold at the start and after each event, and the theorems follow from them.
use Rattle.std.proofs.Common.{ℕ, suc, ◌<◌, ◌≤◌, ◌≡◌, Bool, true, false, List, [], ◌∷◌, cond, eqb, arith, refl, sym, ap, ◌∙◌, subst}
use Rattle.std.proofs.lemmas.Bool.{true≢false, eqb-true}
use Rattle.proof_agreement.specs.Machine.{Executed, Log, World, Setup, Event, RaiseVote, GrantVote, Follow, Establish, Propose, Truncate, Extend, Clear, Install, Acknowledge, Decide, LearnCommitted, ForgetCommitted, Execute, Begin, Agree, Allowed, AllAllowed, happens, run, start, log_of, leader_log, vote_of}
use Rattle.proof_agreement.specs.MachineLaws.{some_log, LogMatching, LeaderCompleteness, DecidedCompleteness, DecidedChosen, Agreed, CommittedBeginnings, OwnAcknowledged}
use Rattle.proof_agreement.proofs.Logs.{Agree-sym, Agree-trans, Agree-less}
use Rattle.proof_agreement.proofs.Invariants.{DecidedAt, FollowsAt, SafeAt, Covered, ExecutedAt, Invariants}
use Rattle.proof_agreement.proofs.Consequences.{decided_agree, decided_in}
use Rattle.proof_agreement.proofs.Completeness.{safe}
use Rattle.proof_agreement.proofs.NodeEvents.{raise_kept, follow_kept, truncate_kept, clear_kept, extend_kept, install_kept, learn_kept, forget_kept, begin_kept}
use Rattle.proof_agreement.proofs.RecordEvents.{grant_vote_kept, execute_kept, acknowledge_kept, decide_kept}
use Rattle.proof_agreement.proofs.ProposeEvent.{propose_kept}
use Rattle.proof_agreement.proofs.EstablishEvent.{establish_kept}

module _ {A : Type 0} (s : Setup A) where
  pub kept : (w : World A) (e : Event A) → Invariants s w → Allowed s w e → Invariants s (happens s w e)
  kept w (RaiseVote n d) inv h = raise_kept s w inv n d h
  kept w (GrantVote n) inv h = grant_vote_kept s w inv n h
  kept w (Follow n d) inv h = follow_kept s w inv n d h
  kept w (Establish d q) inv h = establish_kept s w inv d q h
  kept w (Propose d payload) inv h = propose_kept s w inv d payload h
  kept w (Truncate n i) inv h = truncate_kept s w inv n i h
  kept w (Extend n m) inv h = extend_kept s w inv n m h
  kept w (Clear n j d p) inv h = clear_kept s w inv n j d p h
  kept w (Install n d k) inv h = install_kept s w inv n d k h
  kept w (Acknowledge n y) inv h = acknowledge_kept s w inv n y h
  kept w (Decide d c q) inv h = decide_kept s w inv d c q h
  kept w (LearnCommitted n d c) inv h = learn_kept s w inv n d c h
  kept w (ForgetCommitted n c) inv h = forget_kept s w inv n c h
  kept w (Execute n i) inv h = execute_kept s w inv n i h
  kept w (Begin n) inv h = begin_kept s w inv n h

  pub all_kept : (es : List (Event A)) (w : World A) → Invariants s w → AllAllowed s es w → Invariants s (run s es w)
  all_kept [] w inv h = inv
  all_kept (e ∷ es) w inv h = all_kept es (happens s w e) (kept w e inv h.0) h.1

  -- at the start

  first_len : (b : Bool) → cond b 1 0 ≤ 1
  first_len true = omega arith
  first_len false = omega arith

  none_else : (b : Bool) → 0 < cond b 1 0 → b ≡ true
  none_else true h = refl
  none_else false h = absurd (omega arith)

  zero_up : (d : ℕ) → eqb d 0 ≡ true → d ≡ 0
  zero_up d h = eqb-true d 0 h

  first_follows : (X : Log A) → X.len ≤ 1 → ((i : ℕ) → X.at i ≡ record { leader = 0; payload = s.first_payload }) → (i : ℕ) → i < X.len → FollowsAt (start s) X i
  first_follows X l e i h =
      record {
        established = subst (λ x. ((start s).leader x.leader).established ≡ true) (sym (e i)) refl;
        base = omega arith;
        agree = subst (λ x. Agree (suc i) X (leader_log (start s) x.leader)) (sym (e i)) (record { left = h; right = omega arith; same = λ j _. e j });
      }

  pub start_inv : Invariants s (start s)
  start_inv =
      record {
        node = λ n.
            record {
              established = λ h. absurd (true≢false (sym h));
              own = λ h _. absurd (true≢false (sym h));
              acknowledges = λ h _. absurd (true≢false (sym h));
              follows = λ i h. absurd (omega arith);
              low = λ i h. absurd (omega arith);
              kept = λ e k a. absurd (omega arith);
              cover = record { leader = 0; low = omega arith; within = omega arith; agree = record { left = omega arith; right = omega arith; same = λ i h. absurd (omega arith) } };
            };
        leader = λ d.
            record {
              established = none_else (eqb d 0);
              base = omega arith;
              follows = first_follows (leader_log (start s) d) (first_len (eqb d 0)) (λ i. refl);
              low = λ i h. omega arith;
              mine = λ i b h. sym (zero_up d (none_else (eqb d 0) (omega arith)));
              elected = λ u p. absurd (omega (arith, zero_up d u));
              decided = λ k h. absurd (omega arith);
              memberships = λ m p b l t. absurd (omega (arith, first_len (eqb d 0)));
              settled = λ m p b l t. absurd (omega (arith, first_len (eqb d 0)));
            };
        acknowledged = λ n d k h. absurd (omega arith);
        grants = λ g h. elim h [ ];
        bound = (1, λ d. first_len (eqb d 0));
        executed = λ x h. elim h [ ];
        first = omega arith;
        first_is = refl;
        owned = λ d p u. absurd (omega (arith, zero_up d u));
      }

  -- the theorems

  -- two decided entries of one index are one
  pub executed_agree : (w : World A) → Invariants s w → (x y : Executed A) → ExecutedAt w x → ExecutedAt w y → x.index ≡ y.index → x.entry ≡ y.entry
  executed_agree w inv x y X Y p =
      let a : Agree (suc x.index) (leader_log w X.leader) (leader_log w Y.leader) = decided_agree s w inv X.leader Y.leader (suc x.index) X.within (omega (arith, Y.within)) in
      sym X.is ∙ (a.same x.index (omega arith) ∙ (ap (leader_log w Y.leader).at p ∙ Y.is))

  pub agreed : (w : World A) → Invariants s w → Agreed w
  agreed w inv x y hx hy p = executed_agree w inv x y (inv.executed x hx) (inv.executed y hy) p

  log_follows : (w : World A) → Invariants s w → (b : Bool) (n i : ℕ) → i < (some_log w b n).len → FollowsAt w (some_log w b n) i
  log_follows w inv true n i h = (inv.node n).follows i h
  log_follows w inv false n i h = (inv.leader n).follows i h

  pub matches : (w : World A) → Invariants s w → LogMatching w
  matches w inv a b n m i h k p =
      let F : FollowsAt w (some_log w a n) i = log_follows w inv a n i h in
      let G : FollowsAt w (some_log w b m) i = log_follows w inv b m i k in
      Agree-trans (subst (λ e. Agree (suc i) (some_log w a n) (leader_log w e)) p F.agree) (Agree-sym G.agree)

  pub decided_complete : (w : World A) → Invariants s w → DecidedCompleteness w
  decided_complete w inv d e l u = decided_in s w inv d e l u

  pub complete : (w : World A) → Invariants s w → LeaderCompleteness s w
  complete w inv d e k l u own c =
      let F : FollowsAt w (leader_log w d) k = (inv.leader d).follows k (omega (arith, c.past, c.inside)) in
      let base : (w.leader d).base ≤ k = subst (λ j. (w.leader j).base ≤ k) own F.base in
      let S : SafeAt w e d k = safe s w inv e d k u l base c in
      (S.inside, Agree-sym S.agree)

  pub decided_chosen : (w : World A) → Invariants s w → DecidedChosen s w
  decided_chosen w inv d k e = let D : DecidedAt s w d k (w.leader d) = (inv.leader d).decided k e in D.chosen

  pub own_acknowledged : (w : World A) → Invariants s w → OwnAcknowledged s w
  own_acknowledged w inv n h o = (inv.node n).acknowledges h o

  pub committed_beginnings : (w : World A) → Invariants s w → CommittedBeginnings w
  committed_beginnings w inv n m h =
      let C : Covered w (vote_of w n) (log_of w n) (w.node n).committed = (inv.node n).cover in
      let E : Covered w (vote_of w m) (log_of w m) (w.node m).committed = (inv.node m).cover in
      Agree-trans C.agree (Agree-trans (decided_agree s w inv C.leader E.leader (w.node n).committed C.within (omega (arith, E.within))) (Agree-sym (Agree-less (w.node n).committed h E.agree)))
