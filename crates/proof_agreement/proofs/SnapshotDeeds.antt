-- The deeds with snapshots, also an install that stops after its truncation.
use Rattle.std.proofs.Common.{ℕ, suc, ◌+◌, ◌-◌, ◌<◌, ◌≤◌, ◌≡◌, ⊎_elim, List, [], ◌∷◌, length, take, drop, arith, refl, sym, ap, ◌∙◌, subst, length-take, get_or-take}
use Rattle.std.proofs.lemmas.Bool.{cases_eq}
use Rattle.std.proofs.Math.Seq.{take-append_seam}
use Rattle.proof_agreement.specs.Machine.{World, Entry, Log, Setup, Agree, log_of, leader_log, vote_of, last_leader, Clear, Install, LearnCommitted, Allowed, happens}
use Rattle.proof_agreement.proofs.Logs.{Agree-sym, Agree-trans, Agree-less}
use Rattle.proof_agreement.proofs.Invariants.{Covered}
use Rattle.proof_agreement.proofs.Consequences.{decided_agree}
use Rattle.proof_agreement.proofs.Stability.{cover_on}
use Rattle.proof_agreement.proofs.Growth.{grows}
use Rattle.proof_agreement.proofs.Bridge.{cover_in, committed_in, may_clear, may_install, snapshot_in}
use Rattle.proof_agreement.specs.Stores.{Store, SnapshotRequest, Accepted, Session, Stores, whole, entry_at, of_list, first_entry, last_leader_of}
use Rattle.proof_agreement.specs.Deeds.{SnapshotFromLeader, Streams, MayTruncateForSnapshot, MayInstall, MayAcceptSnapshot, below, put, say}
use Rattle.proof_agreement.proofs.StoresFollow.{Shape, StoreOk, SnapshotRequestOk, BehindOk, StoresFollow, told_installed, last_same}
use Rattle.proof_agreement.proofs.VoteDeeds.{after, stay, speak, moved, behinds, both_change, store_changes}
use Rattle.proof_agreement.proofs.LogDeeds.{same_cut, same_list, shape_below, led, acknowledges_to}
use Rattle.proof_agreement.proofs.WholeLogs.{begins, agree_take, whole_length, whole_below, whole_snapshot, whole_replaced, stored_at}

module _ {A : Type 0} (s : Setup A) where
  -- the leader id at the end of a list that is how another begins
  last_of_take : (xs es : List (Entry A)) (k : ℕ) → length es ≡ suc k → take (length es) xs ≡ es → last_leader_of s es ≡ (entry_at s xs k).leader
  last_of_take xs es k e b =
      let p : last_leader_of s es ≡ (entry_at s es k).leader = ap (last_leader (entry_at s es)) e in
      let q : entry_at s (take (length es) xs) k ≡ entry_at s es k = ap (λ ys. entry_at s ys k) b in
      p ∙ ap (λ y. y.leader) (sym q ∙ get_or-take (length es) xs k (first_entry s) (omega arith))

  -- a snapshot that is how the whole log begins keeps the shape
  shape_snapshot : (S : Store A) (es : List (Entry A)) → Shape s S.front S.entries S.snapshot → length S.snapshot ≤ length es → length es ≤ length (whole S) → take (length es) (whole S) ≡ es → Shape s S.front S.entries es
  shape_snapshot S es h l m b = record { low = omega (arith, h.low); joined = λ f r. ⊎_elim (at_old f r) (λ ne. past_old f r (omega arith)) (cases_eq (length S.snapshot) (length es)) }
    where
      at_old : S.front < length es → length es ≤ S.front + length S.entries → length S.snapshot ≡ length es → (entry_at s S.entries (length es - suc S.front)).leader ≡ last_leader_of s es
      at_old f r e =
          let q : es ≡ S.snapshot = sym b ∙ (ap (λ j. take j (whole S)) (sym e) ∙ take-append_seam S.snapshot (drop (length S.snapshot - S.front) S.entries)) in
          subst (λ xs. (entry_at s S.entries (length xs - suc S.front)).leader ≡ last_leader_of s xs) (sym q) (h.joined (omega arith) (omega arith))

      past_old : S.front < length es → length es ≤ S.front + length S.entries → length S.snapshot < length es → (entry_at s S.entries (length es - suc S.front)).leader ≡ last_leader_of s es
      past_old f r p =
          let k : ℕ = length es - 1 in
          let e : length es ≡ suc k = omega arith in
          let i : k - S.front ≡ length es - suc S.front = omega arith in
          ap (λ j. (entry_at s S.entries j).leader) (sym i) ∙ (ap (λ y. y.leader) (sym (stored_at S h.low s k (omega arith))) ∙ sym (last_of_take (whole S) es k e b))

module _ {A : Type 0} (s : Setup A) (since : World A) (W : Stores A) (K : StoresFollow s since W) (n : ℕ) where
  S : StoreOk s (K.world.node n) (W.store n)
  S = K.store n

  B : BehindOk s K.world (vote_of K.world n) (W.store n).snapshot (W.store n).noted (W.store n).saved (W.store n).saved_leader
  B = K.behind n

  own_snapshot : (q : Session) (es : List (Entry A)) → SnapshotFromLeader W (W.store n) q es → SnapshotRequestOk s K.world (vote_of K.world n) es
  own_snapshot q es b = subst (λ d. SnapshotRequestOk s K.world d es) (b.session ∙ sym S.vote) (K.told.message (SnapshotRequest q es) b.sent)

  -- the applied list is noted
  pub note : StoresFollow s since (put W n (record (W.store n) { noted = take (W.store n).committed (whole (W.store n)) }))
  note =
      let xs : List (Entry A) = whole (W.store n) in
      let c : ℕ = (W.store n).committed in
      let T : Store A = record (W.store n) { noted = take (W.store n).committed (whole (W.store n)) } in
      let C : Covered K.world (vote_of K.world n) (log_of K.world n) (K.world.node n).committed = (K.inv.node n).cover in
      let inside : c ≤ (log_of K.world n).len = omega (arith, S.committed, C.agree.left) in
      let size : length (take c xs) ≡ c = omega (arith, length-take c xs, S.log.len) in
      let held : Agree c (of_list s (take c xs)) (leader_log K.world C.leader) = Agree-trans (agree_take s xs c (omega (arith, S.log.len))) (Agree-trans (Agree-sym (Agree-less c inside S.log.agree)) (Agree-less c (omega (arith, S.committed)) C.agree)) in
      stay s since W K (put W n T) refl
      (store_changes s since W K n T (record { vote = S.vote; vote_committed = S.vote_committed; committed = S.committed; log = S.log; room = S.room; note = omega (arith, size); shape = S.shape }))
      (behinds s since W K n T
      (record {
        cover = B.cover;
        note = record { leader = C.leader; low = C.low; within = omega (arith, size, C.within, S.committed); agree = subst (λ m. Agree m (of_list s (take c xs)) (leader_log K.world C.leader)) (sym size) held };
        leader = B.leader;
        low = B.low;
        within = B.within;
        inside = B.inside;
        is = B.is;
      }))
      K.told

  -- nothing is of no leader's decision
  nothing : Covered K.world (vote_of K.world n) (of_list s []) 0
  nothing = record { leader = 0; low = omega arith; within = omega arith; agree = record { left = omega arith; right = omega arith; same = λ i h. absurd (omega arith) } }

  pub drop_note : StoresFollow s since (put W n (record (W.store n) { noted = [] }))
  drop_note =
      let T : Store A = record (W.store n) { noted = [] } in
      stay s since W K (put W n T) refl
      (store_changes s since W K n T (record { vote = S.vote; vote_committed = S.vote_committed; committed = S.committed; log = S.log; room = S.room; note = omega arith; shape = S.shape }))
      (behinds s since W K n T (record { cover = B.cover; note = nothing; leader = B.leader; low = B.low; within = B.within; inside = B.inside; is = B.is }))
      K.told

  -- decided entries up to what is committed here are how the whole log begins
  decided_begin : (es : List (Entry A)) → Covered K.world (vote_of K.world n) (of_list s es) (length es) → length es ≤ (W.store n).committed → take (length es) (whole (W.store n)) ≡ es
  decided_begin es C l =
      let D : Covered K.world (vote_of K.world n) (log_of K.world n) (K.world.node n).committed = (K.inv.node n).cover in
      let l' : length es ≤ (K.world.node n).committed = omega (arith, l, S.committed) in
      let a : Agree (length es) (leader_log K.world C.leader) (leader_log K.world D.leader) = decided_agree s K.world K.inv C.leader D.leader (length es) C.within (omega (arith, D.within)) in
      begins s es (whole (W.store n)) (Agree-trans C.agree (Agree-trans a (Agree-trans (Agree-sym (Agree-less (length es) l' D.agree)) (Agree-less (length es) (omega (arith, D.agree.left)) S.log.agree))))

  pub build_snapshot : length (W.store n).snapshot ≤ length (W.store n).noted → StoresFollow s since (put W n (record (W.store n) { snapshot = (W.store n).noted; noted = [] }))
  build_snapshot l =
      let es : List (Entry A) = (W.store n).noted in
      let T : Store A = record (W.store n) { snapshot = (W.store n).noted; noted = [] } in
      let b : take (length es) (whole (W.store n)) ≡ es = decided_begin es B.note S.note in
      let inside : length es ≤ length (whole (W.store n)) = omega (arith, S.note, S.committed, (K.inv.node n).cover.agree.left, S.log.len) in
      stay s since W K (put W n T) refl
      (store_changes s since W K n T
      (record {
        vote = S.vote;
        vote_committed = S.vote_committed;
        committed = S.committed;
        log = same_list s (log_of K.world n) (whole (W.store n)) (whole T) (whole_snapshot (W.store n) S.shape.low es l b) S.log;
        room = S.note;
        note = omega arith;
        shape = shape_snapshot s (W.store n) es S.shape l inside b;
      }))
      (behinds s since W K n T (record { cover = B.note; note = nothing; leader = B.leader; low = B.low; within = B.within; inside = B.inside; is = B.is }))
      K.told

  pub send_snapshot : Streams s (W.store n) n → StoresFollow s since (say W (SnapshotRequest (W.store n).session (W.store n).snapshot))
  send_snapshot t =
      speak s since W K (SnapshotRequest (W.store n).session (W.store n).snapshot)
      (subst (λ d. SnapshotRequestOk s K.world d (W.store n).snapshot) (S.vote ∙ sym t.session) (record { established = (K.inv.node n).established (S.vote_committed ∙ t.leads.vote_committed); cover = B.cover }))

  pub truncate_for_snapshot : (j k : ℕ) (q : Session) (es : List (Entry A)) → MayTruncateForSnapshot s W n j k q es → StoresFollow s since (put W n (record (W.store n) { entries = below (W.store n) j }))
  truncate_for_snapshot j k q es h =
      let o : SnapshotRequestOk s K.world (vote_of K.world n) es = own_snapshot q es h.request in
      let C : Covered K.world (vote_of K.world n) (of_list s es) (suc k) = subst (λ m. Covered K.world (vote_of K.world n) (of_list s es) m) h.ends o.cover in
      let l : k < (log_of K.world n).len = omega (arith, h.inside, S.log.len) in
      let low : length (W.store n).snapshot ≤ j = omega (arith, S.room, h.past) in
      let X : Log A = record (log_of K.world n) { len = j } in
      let T : Store A = record (W.store n) { entries = below (W.store n) j } in
      let e : Allowed s K.world (Clear n j C.leader k) = may_clear s K.world K.inv n j k (of_list s es) C (led s since W K n h.follower) (omega (arith, S.committed, h.past)) h.shorter h.deep l (λ p. h.apart (sym (ap (λ z. z.leader) (S.log.agree.same k l)) ∙ p)) in
      after s since W K (Clear n j C.leader k) e (put W n T) refl
      (both_change s since W K n (record (K.world.node n) { log = X }) T
      (record {
        vote = S.vote;
        vote_committed = S.vote_committed;
        committed = S.committed;
        log = same_list s X (take j (whole (W.store n))) (whole T) (whole_below (W.store n) S.shape.low j low) (same_cut s (log_of K.world n) (whole (W.store n)) j (omega (arith, h.shorter)) S.log);
        room = S.room;
        note = S.note;
        shape = shape_below s (W.store n) j low S.shape;
      }))
      (behinds s since W K n T B) (moved s since W K (Clear n j C.leader k) e)

  pub install_snapshot : (k : ℕ) (q : Session) (es : List (Entry A)) → MayInstall s W n k q es → StoresFollow s since (record (put W n (record (W.store n) { snapshot = es; committed = suc k })) { installed = record { node = n; entries = es } ∷ W.installed })
  install_snapshot k q es h = ⊎_elim shorter held h.fits
    where
      o : SnapshotRequestOk s K.world (vote_of K.world n) es
      o = own_snapshot q es h.request

      C : Covered K.world (vote_of K.world n) (of_list s es) (suc k)
      C = subst (λ m. Covered K.world (vote_of K.world n) (of_list s es) m) h.ends o.cover

      new : Store A
      new = record (W.store n) { snapshot = es; committed = suc k }

      V : Stores A
      V = record (put W n (record (W.store n) { snapshot = es; committed = suc k })) { installed = record { node = n; entries = es } ∷ W.installed }

      behind_new : BehindOk s K.world (vote_of K.world n) es (W.store n).noted (W.store n).saved (W.store n).saved_leader
      behind_new = record { cover = o.cover; note = B.note; leader = B.leader; low = B.low; within = B.within; inside = B.inside; is = B.is }

      room : length (W.store n).snapshot ≤ length es
      room = omega (arith, S.room, h.past, h.ends)

      shorter : length (whole (W.store n)) ≤ k → StoresFollow s since (record (put W n (record (W.store n) { snapshot = es; committed = suc k })) { installed = record { node = n; entries = es } ∷ W.installed })
      shorter l =
          let e : Allowed s K.world (Install n C.leader (suc k)) = may_install s K.world K.inv n (suc k) (of_list s es) C (led s since W K n h.follower) (omega (arith, S.log.len)) in
          after s since W K (Install n C.leader (suc k)) e V refl
          (both_change s since W K n (record (K.world.node n) { log = record (leader_log K.world C.leader) { len = suc k }; committed = suc k }) new
          (record {
            vote = S.vote;
            vote_committed = S.vote_committed;
            committed = refl;
            log = same_list s (record (leader_log K.world C.leader) { len = suc k }) es (whole new) (whole_replaced (W.store n) S.shape.low es (omega (arith, h.ends))) (record { len = sym h.ends; agree = record { left = omega arith; right = omega (arith, h.ends); same = λ i l'. sym (C.agree.same i l') } });
            room = omega (arith, h.ends);
            note = omega (arith, S.note, h.past);
            shape = record { low = omega (arith, S.shape.low, room); joined = λ f r. absurd (omega (arith, whole_length (W.store n) S.shape.low, h.ends, S.shape.low, S.room, h.past)) };
          }))
          (behinds s since W K n new behind_new)
          (told_installed s (happens s K.world (Install n C.leader (suc k))) W.messages W.executed W.installed W.decided W.established (moved s since W K (Install n C.leader (suc k)) e) (record { node = n; entries = es }) (record { up_to = vote_of K.world n; cover = cover_on s K.world (happens s K.world (Install n C.leader (suc k))) (grows s K.world K.inv (Install n C.leader (suc k)) e) (vote_of K.world n) (vote_of K.world n) (of_list s es) (length es) (omega arith) o.cover }))

      held : (k < length (whole (W.store n))) × ((entry_at s (whole (W.store n)) k).leader ≡ (entry_at s es k).leader) → StoresFollow s since (record (put W n (record (W.store n) { snapshot = es; committed = suc k })) { installed = record { node = n; entries = es } ∷ W.installed })
      held p =
          let l : k < (log_of K.world n).len = omega (arith, p.0, S.log.len) in
          let a : Agree (suc k) (of_list s es) (log_of K.world n) = snapshot_in s K.world K.inv n (vote_of K.world n) k (of_list s es) C l (ap (λ z. z.leader) (S.log.agree.same k l) ∙ p.1) in
          let b : take (length es) (whole (W.store n)) ≡ es = begins s es (whole (W.store n)) (subst (λ m. Agree m (of_list s es) (of_list s (whole (W.store n)))) (sym h.ends) (Agree-trans a (Agree-less (suc k) l S.log.agree))) in
          let inside : length es ≤ length (whole (W.store n)) = omega (arith, p.0, h.ends) in
          let e : Allowed s K.world (LearnCommitted n C.leader (suc k)) = record { low = C.low; decided = C.within; agree = Agree-trans (Agree-sym a) C.agree } in
          after s since W K (LearnCommitted n C.leader (suc k)) e V refl
          (both_change s since W K n (record (K.world.node n) { committed = suc k }) new
          (record {
            vote = S.vote;
            vote_committed = S.vote_committed;
            committed = refl;
            log = same_list s (log_of K.world n) (whole (W.store n)) (whole new) (whole_snapshot (W.store n) S.shape.low es room b) S.log;
            room = omega (arith, h.ends);
            note = omega (arith, S.note, h.past);
            shape = shape_snapshot s (W.store n) es S.shape room inside b;
          }))
          (behinds s since W K n new behind_new)
          (told_installed s (happens s K.world (LearnCommitted n C.leader (suc k))) W.messages W.executed W.installed W.decided W.established (moved s since W K (LearnCommitted n C.leader (suc k)) e) (record { node = n; entries = es }) (record { up_to = vote_of K.world n; cover = cover_on s K.world (happens s K.world (LearnCommitted n C.leader (suc k))) (grows s K.world K.inv (LearnCommitted n C.leader (suc k)) e) (vote_of K.world n) (vote_of K.world n) (of_list s es) (length es) (omega arith) o.cover }))

  pub accept_snapshot : (q : Session) (es : List (Entry A)) → MayAcceptSnapshot W n q es → StoresFollow s since (say W (Accepted n q (last_leader_of s es) (length es)))
  accept_snapshot q es h =
      let o : SnapshotRequestOk s K.world (vote_of K.world n) es = own_snapshot q es h.request in
      let a : Agree (length es) (log_of K.world n) (leader_log K.world (vote_of K.world n)) = Agree-less (length es) (omega (arith, S.committed, h.committed)) (committed_in s K.world K.inv n (S.vote_committed ∙ h.vote_committed)) in
      let b : Agree (length es) (of_list s es) (leader_log K.world (vote_of K.world n)) = cover_in s K.world K.inv (vote_of K.world n) (of_list s es) (length es) (vote_of K.world n) o.cover (omega arith) o.established in
      acknowledges_to s since W K n q (last_leader_of s es) (length es) h.request.session h.vote_committed a (sym (last_same (of_list s es) (leader_log K.world (vote_of K.world n)) (length es) b))
