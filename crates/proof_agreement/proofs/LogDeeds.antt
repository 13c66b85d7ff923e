-- The deeds that change a follower's log, acknowledge it, and commit.
use Rattle.std.proofs.Common.{ℕ, zero, suc, ◌+◌, ◌-◌, ◌<◌, ◌≤◌, ◌≡◌, inl, inr, ⊎_elim, true, List, [], ◌∷◌, ◌++◌, length, take, drop, max, arith, refl, sym, ap, ◌∙◌, subst, length-append, length-take, length-drop, get_or-take, get_or-drop}
use Rattle.std.proofs.lemmas.Bool.{cases_lt}
use Rattle.proof_agreement.specs.Machine.{MayLearnCommitted, Entry, Log, Node, World, Setup, Agree, log_of, leader_log, vote_of, last_leader, updated, push, Truncate, Extend, Acknowledge, LearnCommitted, Execute, Allowed, happens, IsLed}
use Rattle.proof_agreement.proofs.Logs.{Agree-less, updated_same, updated_other}
use Rattle.proof_agreement.proofs.Invariants.{Covered}
use Rattle.proof_agreement.proofs.Bridge.{HoldsId, has_agree, may_truncate, may_learn_committed}
use Rattle.proof_agreement.specs.Stores.{Store, Append, AppendRequest, Accepted, Session, Stores, whole, entry_at, of_list, first_entry}
use Rattle.proof_agreement.specs.Deeds.{IsFollower, FromLeader, Names, Holds, MayTruncateConflict, MayAppendEntries, MayAccept, MayCommit, MayPurge, Reaches, below, with_committed, put, say}
use Rattle.proof_agreement.proofs.StoresFollow.{Same, Shape, StoreOk, AcceptedOk, AppendRequestOk, BehindOk, StoresFollow, last_same, told_executed}
use Rattle.proof_agreement.proofs.VoteDeeds.{after, stay, speak, silent, moved, behinds, both_change, store_changes}
use Rattle.proof_agreement.proofs.WholeLogs.{get_left, get_right, whole_append, whole_below, whole_purge}

-- lists as logs
module _ {A : Type 0} (s : Setup A) where
  pub same_push : (X : Log A) (xs : List (Entry A)) (e : Entry A) → Same X (of_list s xs) → Same (push X e) (of_list s (xs ++ e ∷ []))
  same_push X xs e t =
      record {
        len = omega (arith, length-append xs (e ∷ []), t.len);
        agree = record {
          left = omega arith;
          right = omega (arith, length-append xs (e ∷ []), t.len);
          same = λ i h.
              ⊎_elim
              (λ l. updated_other X.at X.len e i (omega arith) ∙ (t.agree.same i l ∙ sym (get_left s xs (e ∷ []) i (omega (arith, t.len)))))
              (λ l. let q : i ≡ X.len = omega arith in subst (λ j. updated X.at X.len e j ≡ e) (sym q) (updated_same X.at X.len e) ∙ sym (get_right s xs (e ∷ []) i 0 (omega (arith, t.len))))
              (cases_lt i X.len);
        };
      }

  pub same_cut : (X : Log A) (xs : List (Entry A)) (k : ℕ) → k ≤ X.len → Same X (of_list s xs) → Same (record { len = k; at = X.at }) (of_list s (take k xs))
  same_cut X xs k h t =
      record {
        len = omega (arith, length-take k xs, t.len);
        agree = record {
          left = omega arith;
          right = omega (arith, length-take k xs, t.len);
          same = λ i l. t.agree.same i (omega arith) ∙ sym (get_or-take k xs i (first_entry s) l);
        };
      }

  same_add : (X Y : Log A) (xs es : List (Entry A)) (i r : ℕ) → Same X (of_list s xs) → Agree X.len X Y → length xs ≡ i + r → r ≤ length es → ((j : ℕ) → j < length es → Y.at (i + j) ≡ entry_at s es j) → Same (record { len = i + length es; at = Y.at }) (of_list s (xs ++ drop r es))
  same_add X Y xs es i r t a p h f =
      record {
        len = omega (arith, length-append xs (drop r es), length-drop r es);
        agree = record {
          left = omega arith;
          right = omega (arith, length-append xs (drop r es), length-drop r es);
          same = λ k l.
              ⊎_elim
              (λ b. sym (a.same k (omega (arith, t.len))) ∙ (t.agree.same k (omega (arith, t.len)) ∙ sym (get_left s xs (drop r es) k b)))
              (λ b. let q : i + (r + (k - length xs)) ≡ k = omega arith in
              subst (λ x. Y.at x ≡ entry_at s es (r + (k - length xs))) q (f (r + (k - length xs)) (omega arith))
              ∙ sym (get_right s xs (drop r es) k (k - length xs) (omega arith) ∙ get_or-drop r es (k - length xs) (first_entry s)))
              (cases_lt k (length xs));
        };
      }

  -- the same list, told by an equation
  pub same_list : (X : Log A) (xs ys : List (Entry A)) → ys ≡ xs → Same X (of_list s xs) → Same X (of_list s ys)
  same_list X xs ys e t = subst (λ zs. Same X (of_list s zs)) (sym e) t

  -- stored entries that grew at their end, or were cut past the snapshot, keep their shape
  pub shape_append : (S : Store A) (es : List (Entry A)) → Reaches S → Shape s S.front S.entries S.snapshot → Shape s S.front (S.entries ++ es) S.snapshot
  shape_append S es r h = record { low = h.low; joined = λ l _. ap (λ x. x.leader) (get_left s S.entries es (length S.snapshot - suc S.front) (omega arith)) ∙ h.joined l r }

  pub shape_below : (S : Store A) (i : ℕ) → length S.snapshot ≤ i → Shape s S.front S.entries S.snapshot → Shape s S.front (below S i) S.snapshot
  shape_below S i b h =
      record {
        low = h.low;
        joined = λ l r.
            ap (λ x. x.leader) (get_or-take (i - S.front) S.entries (length S.snapshot - suc S.front) (first_entry s) (omega arith))
            ∙ h.joined l (omega (arith, length-take (i - S.front) S.entries));
      }

  -- what an append request names stands in its leader's log
  pub named : (w : World A) (d : ℕ) (r : Append A) (k x : ℕ) → AppendRequestOk s w d r → Names s r k x → (k < (leader_log w d).len) × (((leader_log w d).at k).leader ≡ x)
  named w d r k x o (inl p) = (omega (arith, p.0, o.fits), subst (λ j. last_leader (leader_log w d).at j ≡ r.previous) (sym p.0) o.previous ∙ sym p.1)
  named w d r k x o (inr p) =
      (omega (arith, p.1, p.2, o.fits), subst (λ j. ((leader_log w d).at j).leader ≡ x) (sym p.1) (ap (λ e. e.leader) (o.same p.0 p.2) ∙ sym p.3))

  has_of : (N : Node A) (S : Store A) (Y : Log A) (k x : ℕ) → StoreOk s N S → (Y.at k).leader ≡ x → Holds s S k x → HoldsId N Y k
  has_of N S Y k x o e (inl h) = inl (omega (arith, o.committed))
  has_of N S Y k x o e (inr h) =
      let l : k < N.log.len = omega (arith, h.0, o.log.len) in
      inr (l, ap (λ y. y.leader) (o.log.agree.same k l) ∙ (h.1 ∙ sym e))

  holds_of : (N : Node A) (S : Store A) (Y : Log A) (k x : ℕ) → StoreOk s N S → (Y.at k).leader ≡ x → HoldsId N Y k → Holds s S k x
  holds_of N S Y k x o e (inl h) = inl (omega (arith, o.committed))
  holds_of N S Y k x o e (inr h) = inr (omega (arith, h.0, o.log.len), sym (ap (λ y. y.leader) (o.log.agree.same k h.0)) ∙ (h.1 ∙ e))

module _ {A : Type 0} (s : Setup A) (since : World A) (W : Stores A) (K : StoresFollow s since W) (n : ℕ) where
  pub S : StoreOk s (K.world.node n) (W.store n)
  S = K.store n

  -- an append request of n's own leader
  pub own_append : (r : Append A) → FromLeader W (W.store n) r → AppendRequestOk s K.world (vote_of K.world n) r
  own_append r b = subst (λ d. AppendRequestOk s K.world d r) (b.session ∙ sym S.vote) (K.told.message (AppendRequest r) b.sent)

  pub led : IsFollower s (W.store n) n → IsLed s K.world n
  led f = record { vote_committed = S.vote_committed ∙ f.vote_committed; other = λ e. f.other (e ∙ ap s.owner S.vote) }

  -- a longer or shorter log: the store with other entries
  entries_ok : (X : Log A) (es : List (Entry A)) → Same X (of_list s (whole (record (W.store n) { entries = es }))) → Shape s (W.store n).front es (W.store n).snapshot → StoreOk s (record (K.world.node n) { log = X }) (record (W.store n) { entries = es })
  entries_ok X es t h = record { vote = S.vote; vote_committed = S.vote_committed; committed = S.committed; log = t; room = S.room; note = S.note; shape = h }

  pub truncate_conflict : (r : Append A) (k x : ℕ) → MayTruncateConflict s W n r k x → StoresFollow s since (put W n (record (W.store n) { entries = below (W.store n) k }))
  truncate_conflict r k x h =
      let o : AppendRequestOk s K.world (vote_of K.world n) r = own_append r h.request in
      let p : (k < (leader_log K.world (vote_of K.world n)).len) × (((leader_log K.world (vote_of K.world n)).at k).leader ≡ x) = named s K.world (vote_of K.world n) r k x o h.names in
      let l : k < (log_of K.world n).len = omega (arith, h.inside, S.log.len) in
      let past : (W.store n).committed ≤ k = ⊎_elim (λ b. absurd (h.lacks (inl b))) (λ b. b) (cases_lt k (W.store n).committed) in
      let low : length (W.store n).snapshot ≤ k = omega (arith, S.room, past) in
      let X : Log A = record (log_of K.world n) { len = k } in
      let T : Store A = record (W.store n) { entries = below (W.store n) k } in
      let e : Allowed s K.world (Truncate n k) = may_truncate s K.world K.inv n k (led h.follower) l p.0 (λ y. h.lacks (holds_of s (K.world.node n) (W.store n) (leader_log K.world (vote_of K.world n)) k x S p.1 y)) in
      after s since W K (Truncate n k) e (put W n T) refl
      (both_change s since W K n (record (K.world.node n) { log = X }) T (entries_ok X (below (W.store n) k) (same_list s X (take k (whole (W.store n))) (whole T) (whole_below (W.store n) S.shape.low k low) (same_cut s (log_of K.world n) (whole (W.store n)) k (omega arith) S.log)) (shape_below s (W.store n) k low S.shape)))
      (behinds s since W K n T (K.behind n)) (moved s since W K (Truncate n k) e)

  -- what is held agrees with the leader up to there
  pub held_agree : (r : Append A) (k x : ℕ) → FromLeader W (W.store n) r → (W.store n).vote_committed ≡ true → Names s r k x → Holds s (W.store n) k x → Agree (suc k) (log_of K.world n) (leader_log K.world (vote_of K.world n))
  held_agree r k x b t nm hd =
      let o : AppendRequestOk s K.world (vote_of K.world n) r = own_append r b in
      let p : (k < (leader_log K.world (vote_of K.world n)).len) × (((leader_log K.world (vote_of K.world n)).at k).leader ≡ x) = named s K.world (vote_of K.world n) r k x o nm in
      has_agree s K.world K.inv n k (S.vote_committed ∙ t) p.0 (has_of s (K.world.node n) (W.store n) (leader_log K.world (vote_of K.world n)) k x S p.1 hd)

  pub follower_append : (r : Append A) (skip : ℕ) → MayAppendEntries s W n r skip → StoresFollow s since (put W n (record (W.store n) { entries = (W.store n).entries ++ drop skip r.entries }))
  follower_append r skip h =
      let o : AppendRequestOk s K.world (vote_of K.world n) r = own_append r h.request in
      let es : List (Entry A) = (W.store n).entries ++ drop skip r.entries in
      let X : Log A = record (leader_log K.world (vote_of K.world n)) { len = r.from + length r.entries } in
      let T : Store A = record (W.store n) { entries = (W.store n).entries ++ drop skip r.entries } in
      let e : Allowed s K.world (Extend n (r.from + length r.entries)) = record { led = led h.follower; agree = agree; longer = omega (arith, S.log.len, h.next, h.within); in_leader = o.fits } in
      after s since W K (Extend n (r.from + length r.entries)) e (put W n T) refl
      (both_change s since W K n (record (K.world.node n) { log = X }) T
      (entries_ok X es
      (same_list s X (whole (W.store n) ++ drop skip r.entries) (whole T) (whole_append (W.store n) S.shape.low (drop skip r.entries) h.reaches) (same_add s (log_of K.world n) (leader_log K.world (vote_of K.world n)) (whole (W.store n)) r.entries r.from skip S.log agree h.next h.within o.same))
      (shape_append s (W.store n) (drop skip r.entries) h.reaches S.shape)))
      (behinds s since W K n T (K.behind n)) (moved s since W K (Extend n (r.from + length r.entries)) e)
    where
      to_end : (m : ℕ) → length (whole (W.store n)) ≡ m → Agree m (log_of K.world n) (leader_log K.world (vote_of K.world n))
      to_end zero p = record { left = omega arith; right = omega arith; same = λ j l. absurd (omega arith) }
      to_end (suc k) p = let z : (x : ℕ) × Names s r k x × Holds s (W.store n) k x = h.holds k p in held_agree r k z.0 h.request h.follower.vote_committed z.1 z.2

      agree : Agree (log_of K.world n).len (log_of K.world n) (leader_log K.world (vote_of K.world n))
      agree = to_end (log_of K.world n).len (sym S.log.len)

  -- another committed length, which is saved too
  pub commit_to : (c m : ℕ) → Covered K.world (vote_of K.world n) (leader_log K.world (vote_of K.world n)) c → Agree m (log_of K.world n) (leader_log K.world (vote_of K.world n)) → m ≤ c → (W.store n).committed ≤ m → StoresFollow s since (put W n (with_committed s (W.store n) m))
  commit_to c m C a l higher =
      let h : MayLearnCommitted K.world n C.leader m = may_learn_committed s K.world K.inv n c m C l a in
      let B : BehindOk s K.world (vote_of K.world n) (W.store n).snapshot (W.store n).noted (W.store n).saved (W.store n).saved_leader = K.behind n in
      let T : Store A = with_committed s (W.store n) m in
      after s since W K (LearnCommitted n C.leader m) h (put W n T) refl
      (both_change s since W K n (record (K.world.node n) { committed = m }) T
      (record { vote = S.vote; vote_committed = S.vote_committed; committed = refl; log = S.log; room = omega (arith, S.room); note = omega (arith, S.note); shape = S.shape }))
      (behinds s since W K n T
      (record {
        cover = B.cover;
        note = B.note;
        leader = C.leader;
        low = C.low;
        within = h.decided;
        inside = h.agree.right;
        is = sym (last_same (log_of K.world n) (leader_log K.world C.leader) m h.agree) ∙ last_same (log_of K.world n) (of_list s (whole (W.store n))) m (Agree-less m h.agree.left S.log.agree);
      }))
      (moved s since W K (LearnCommitted n C.leader m) h)

  pub follower_commit : (r : Append A) (k x : ℕ) (told : Append A) (m : ℕ) → MayCommit s W n r k x told m → StoresFollow s since (put W n (with_committed s (W.store n) m))
  follower_commit r k x told m h =
      let o : AppendRequestOk s K.world (vote_of K.world n) told = own_append told h.told_by_leader in
      commit_to told.committed m o.cover (Agree-less m h.held (held_agree r k x h.accepted.request h.accepted.vote_committed h.accepted.names h.accepted.holds)) h.told_so h.higher

  -- the length that n now acknowledges
  pub acknowledged_now : (w : World A) (y : ℕ) → y ≤ (happens s w (Acknowledge n y)).acknowledged n (vote_of w n)
  acknowledged_now w y =
      subst (λ f. y ≤ f (vote_of w n)) (sym (updated_same w.acknowledged n (updated (w.acknowledged n) (vote_of w n) (max y (w.acknowledged n (vote_of w n))))))
      (subst (λ c. y ≤ c) (sym (updated_same (w.acknowledged n) (vote_of w n) (max y (w.acknowledged n (vote_of w n))))) (omega arith))

  -- n acknowledges y entries to a session of its leader
  pub acknowledges_to : (q : Session) (last y : ℕ) → q.leader ≡ (W.store n).vote → (W.store n).vote_committed ≡ true → Agree y (log_of K.world n) (leader_log K.world (vote_of K.world n)) → last_leader (leader_log K.world (vote_of K.world n)).at y ≡ last → StoresFollow s since (say W (Accepted n q last y))
  unfolding silent after
  acknowledges_to q last y e t a p =
      let K1 : StoresFollow s since W = silent s since W K (Acknowledge n y) (record { vote_committed = S.vote_committed ∙ t; agree = a }) refl (λ _. refl) in
      speak s since W K1 (Accepted n q last y) (subst (λ d. AcceptedOk s K1.world n d last y) (S.vote ∙ sym e) (record { acknowledged = acknowledged_now K.world y; inside = a.right; last_is = p }))

  pub accept_append : (r : Append A) (k x : ℕ) → MayAccept s W n r k x → StoresFollow s since (say W (Accepted n r.session x (suc k)))
  accept_append r k x h =
      let o : AppendRequestOk s K.world (vote_of K.world n) r = own_append r h.request in
      let p : (k < (leader_log K.world (vote_of K.world n)).len) × (((leader_log K.world (vote_of K.world n)).at k).leader ≡ x) = named s K.world (vote_of K.world n) r k x o h.names in
      acknowledges_to r.session x (suc k) h.request.session h.vote_committed (held_agree r k x h.request h.vote_committed h.names h.holds) p.1

  pub apply : (i : ℕ) → i < (W.store n).committed → StoresFollow s since (record W { executed = record { node = n; index = i; entry = entry_at s (whole (W.store n)) i } ∷ W.executed })
  apply i h =
      let l : i < (log_of K.world n).len = omega (arith, h, S.committed, (K.inv.node n).cover.agree.left) in
      let e : Allowed s K.world (Execute n i) = omega (arith, S.committed) in
      after s since W K (Execute n i) e (record W { executed = record { node = n; index = i; entry = entry_at s (whole (W.store n)) i } ∷ W.executed }) refl K.store K.behind
      (told_executed s (happens s K.world (Execute n i)) W.messages W.executed W.installed W.decided W.established (moved s since W K (Execute n i) e) (record { node = n; index = i; entry = entry_at s (whole (W.store n)) i })
      (inl (ap (λ z. record { index = i; entry = z }) (S.log.agree.same i l))))

  -- a purge leaves the whole log as it is, since the snapshot stands for what goes
  pub purge : (k : ℕ) → MayPurge (W.store n) k → StoresFollow s since (put W n (record (W.store n) { front = k; entries = drop (k - (W.store n).front) (W.store n).entries }))
  purge k h =
      let T : Store A = record (W.store n) { front = k; entries = drop (k - (W.store n).front) (W.store n).entries } in
      let es : List (Entry A) = (W.store n).entries in
      let f : ℕ = (W.store n).front in
      let m : ℕ = length (W.store n).snapshot in
      stay s since W K (put W n T) refl
      (store_changes s since W K n T
      (record {
        vote = S.vote;
        vote_committed = S.vote_committed;
        committed = S.committed;
        log = same_list s (log_of K.world n) (whole (W.store n)) (whole T) (whole_purge (W.store n) S.shape.low k h.past h.covered) S.log;
        room = S.room;
        note = S.note;
        shape = record {
          low = h.covered;
          joined = λ l r.
              let e : (k - f) + (m - suc k) ≡ m - suc f = omega (arith, h.past) in
              let reach : m ≤ f + length es = omega (arith, h.past, length-drop (k - f) es) in
              ap (λ z. z.leader) (get_or-drop (k - f) es (m - suc k) (first_entry s) ∙ ap (entry_at s es) e)
              ∙ S.shape.joined (omega (arith, h.past)) reach;
        };
      }))
      (behinds s since W K n T (K.behind n)) K.told
