-- What a node may conclude from its own store and from messages, in each run: the words in which a world of engines
-- meets the conditions of deeds.
use Rattle.std.proofs.Common.{ℕ, true, zero, suc, ◌-◌, ◌<◌, ◌≤◌, ◌≡◌, ◌≢◌, inl, inr, ⊎_elim, List, length, arith, refl, sym, ap, ◌∙◌, subst}
use Rattle.std.proofs.lemmas.Bool.{cases_lt}
use Rattle.proof_agreement.specs.Machine.{Entry, Log, World, Setup, Includes, Agree, AtOrBelow, leader_log, log_of, vote_of, last_leader, last_membership}
use Rattle.proof_agreement.proofs.Logs.{Agree-sym, Agree-trans, Agree-less}
use Rattle.proof_agreement.proofs.Invariants.{Covered, FollowsAt}
use Rattle.proof_agreement.proofs.LeaderIds.{first_same, rising}
use Rattle.proof_agreement.proofs.Memberships.{last-same, last_le}
use Rattle.proof_agreement.proofs.Bridge.{cover_in, snapshot_in, not_above, within_committed, membership_kept}
use Rattle.proof_agreement.specs.Stores.{Append, AppendRequest, SnapshotRequest, Accepted, Session, Stores, whole, entry_at, of_list, last_leader_of}
use Rattle.proof_agreement.specs.Deeds.{Leads, FromLeader, SnapshotFromLeader, Names, MayAccept, MayTruncateConflict, Reaches, last_membership_of}
use Rattle.proof_agreement.specs.StoresLaws.{BeginsWith, IsWholeLog}
use Rattle.proof_agreement.proofs.StoresFollow.{StoreOk, AcceptedOk, AppendRequestOk, SnapshotRequestOk, StoresFollow, last_same}
use Rattle.proof_agreement.proofs.LogDeeds.{named, held_agree, own_append}
use Rattle.proof_agreement.proofs.LeaderDeeds.{own_log}
use Rattle.proof_agreement.proofs.StoresTheorems.{whole_follows}
use Rattle.proof_agreement.proofs.WholeLogs.{begins}

module _ {A : Type 0} (s : Setup A) (since : World A) (W : Stores A) (K : StoresFollow s since W) where
  -- along a whole log leader ids do not fall
  pub ids_rise : (xs : List (Entry A)) (i j : ℕ) → IsWholeLog W xs → i ≤ j → j < length xs → (entry_at s xs i).leader ≤ (entry_at s xs j).leader
  ids_rise xs i j wx h l = rising s K.world K.inv (of_list s xs) (λ k b. whole_follows s since W K xs k wx b) i j h l

  -- and none is above the vote
  pub ids_below_vote : (n i : ℕ) → i < length (whole (W.store n)) → (entry_at s (whole (W.store n)) i).leader ≤ (W.store n).vote
  ids_below_vote n i l =
      let S : StoreOk s (K.world.node n) (W.store n) = K.store n in
      let l' : i < (log_of K.world n).len = omega (arith, S.log.len) in
      omega (arith, (K.inv.node n).low i l', ap (λ y. y.leader) (S.log.agree.same i l'), S.vote)

  -- where the stored entries reach the snapshot's end they hold its last id, so a restart that doesn't find that id
  -- there may empty them
  pub snapshot_end_stored : (n : ℕ) → (W.store n).front < length (W.store n).snapshot → Reaches (W.store n) → (entry_at s (W.store n).entries (length (W.store n).snapshot - suc (W.store n).front)).leader ≡ last_leader_of s (W.store n).snapshot
  snapshot_end_stored n l r = let S : StoreOk s (K.world.node n) (W.store n) = K.store n in S.shape.joined l r

  -- a whole log that isn't empty begins with the one first entry
  pub begins_first : (n : ℕ) → 0 < length (whole (W.store n)) → entry_at s (whole (W.store n)) 0 ≡ record { leader = 0; payload = s.first_payload }
  begins_first n l =
      let F : FollowsAt K.world (of_list s (whole (W.store n))) 0 = whole_follows s since W K (whole (W.store n)) 0 (inl (n, refl)) l in
      F.agree.same 0 (omega arith) ∙ ((first_same s K.world K.inv ((of_list s (whole (W.store n))).at 0).leader (omega (arith, F.agree.right))).same 0 (omega arith) ∙ K.inv.first_is)

  pub front_low : (n : ℕ) → (W.store n).front ≤ length (W.store n).snapshot
  front_low n = let S : StoreOk s (K.world.node n) (W.store n) = K.store n in S.shape.low

  pub snapshot_committed : (n : ℕ) → length (W.store n).snapshot ≤ (W.store n).committed
  snapshot_committed n = let S : StoreOk s (K.world.node n) (W.store n) = K.store n in S.room

  pub committed_inside : (n : ℕ) → (W.store n).committed ≤ length (whole (W.store n))
  committed_inside n = let S : StoreOk s (K.world.node n) (W.store n) = K.store n in omega (arith, S.committed, (K.inv.node n).cover.agree.left, S.log.len)

  -- what is committed at a node stands in the history of each leader from its vote on
  committed_in_leader : (n d : ℕ) → (W.store n).vote ≤ d → (K.world.leader d).established ≡ true → Agree (W.store n).committed (of_list s (whole (W.store n))) (leader_log K.world d)
  committed_in_leader n d h u =
      let S : StoreOk s (K.world.node n) (W.store n) = K.store n in
      let C : Covered K.world (vote_of K.world n) (log_of K.world n) (K.world.node n).committed = (K.inv.node n).cover in
      let a : Agree (K.world.node n).committed (log_of K.world n) (leader_log K.world d) = cover_in s K.world K.inv (vote_of K.world n) (log_of K.world n) (K.world.node n).committed d C (omega (arith, S.vote)) u in
      Agree-trans (Agree-sym (Agree-less (W.store n).committed (omega (arith, S.committed, C.agree.left)) S.log.agree)) (Agree-less (W.store n).committed (omega (arith, S.committed)) a)

  -- An append request that was sent
  module _ (r : Append A) (sent : Includes W.messages (AppendRequest r)) where
    request : AppendRequestOk s K.world r.session.leader r
    request = K.told.message (AppendRequest r) sent

    at : (k x : ℕ) → Names s r k x → (k < (leader_log K.world r.session.leader).len) × (((leader_log K.world r.session.leader).at k).leader ≡ x)
    at k x nm = named s K.world r.session.leader r k x request nm

    -- its ids rise, also from the previous one, up to its leader's
    pub request_rises : (k x j y : ℕ) → Names s r k x → Names s r j y → k ≤ j → x ≤ y
    request_rises k x j y nk nj h =
        let p : (j < (leader_log K.world r.session.leader).len) × (((leader_log K.world r.session.leader).at j).leader ≡ y) = at j y nj in
        omega (arith, rising s K.world K.inv (leader_log K.world r.session.leader) (K.inv.leader r.session.leader).follows k j h p.0, (at k x nk).1, p.1)

    pub request_low : (k x : ℕ) → Names s r k x → x ≤ r.session.leader
    request_low k x nm = let p : (k < (leader_log K.world r.session.leader).len) × (((leader_log K.world r.session.leader).at k).leader ≡ x) = at k x nm in omega (arith, (K.inv.leader r.session.leader).low k p.0, p.1)

    -- an id of it at a committed index is the one that is held there
    pub request_in_committed : (n k x : ℕ) → (W.store n).vote ≤ r.session.leader → Names s r k x → k < (W.store n).committed → (entry_at s (whole (W.store n)) k).leader ≡ x
    request_in_committed n k x h nm l = ap (λ y. y.leader) ((committed_in_leader n r.session.leader h request.established).same k l) ∙ (at k x nm).1

    -- an id of it past the last committed one is above that
    pub request_past_committed : (n k x c : ℕ) → (W.store n).vote ≤ r.session.leader → Names s r k x → (W.store n).committed ≡ suc c → c ≤ k → (entry_at s (whole (W.store n)) c).leader ≤ x
    request_past_committed n k x c h nm e l =
        let p : (k < (leader_log K.world r.session.leader).len) × (((leader_log K.world r.session.leader).at k).leader ≡ x) = at k x nm in
        omega (arith, ap (λ y. y.leader) ((committed_in_leader n r.session.leader h request.established).same c (omega arith)), rising s K.world K.inv (leader_log K.world r.session.leader) (K.inv.leader r.session.leader).follows c k l p.0, p.1)

    -- the ids of two requests of one leader, and what they tell as committed, stand in one order by leader id and by
    -- index
    pub told_above : (told : Append A) (k x : ℕ) → Includes W.messages (AppendRequest told) → told.session.leader ≡ r.session.leader → Names s r k x → k < told.committed → x ≤ told.committed_leader
    told_above told k x b e nm l =
        let o : AppendRequestOk s K.world r.session.leader told = subst (λ d. AppendRequestOk s K.world d told) e (K.told.message (AppendRequest told) b) in
        go told.committed refl o
      where
        go : (c : ℕ) → told.committed ≡ c → AppendRequestOk s K.world r.session.leader told → x ≤ told.committed_leader
        go zero q o = absurd (omega arith)
        go (suc c) q o =
            let i : ((leader_log K.world r.session.leader).at c).leader ≡ told.committed_leader = subst (λ m. last_leader (leader_log K.world r.session.leader).at m ≡ told.committed_leader) q o.committed_is in
            omega (arith, rising s K.world K.inv (leader_log K.world r.session.leader) (K.inv.leader r.session.leader).follows k c (omega arith) (omega (arith, o.cover.agree.left)), (at k x nm).1)

    pub told_below : (told : Append A) (k x : ℕ) → Includes W.messages (AppendRequest told) → told.session.leader ≡ r.session.leader → Names s r k x → told.committed ≤ suc k → told.committed_leader ≤ x
    told_below told k x b e nm l =
        let o : AppendRequestOk s K.world r.session.leader told = subst (λ d. AppendRequestOk s K.world d told) e (K.told.message (AppendRequest told) b) in
        go told.committed refl o
      where
        go : (c : ℕ) → told.committed ≡ c → AppendRequestOk s K.world r.session.leader told → told.committed_leader ≤ x
        go zero q o = omega (arith, subst (λ m. last_leader (leader_log K.world r.session.leader).at m ≡ told.committed_leader) q o.committed_is)
        go (suc c) q o =
            let i : ((leader_log K.world r.session.leader).at c).leader ≡ told.committed_leader = subst (λ m. last_leader (leader_log K.world r.session.leader).at m ≡ told.committed_leader) q o.committed_is in
            let p : (k < (leader_log K.world r.session.leader).len) × (((leader_log K.world r.session.leader).at k).leader ≡ x) = at k x nm in
            omega (arith, rising s K.world K.inv (leader_log K.world r.session.leader) (K.inv.leader r.session.leader).follows c k (omega arith) p.0, p.1)

  -- What a node accepted of its leader
  module _ (n : ℕ) (r : Append A) (k x : ℕ) (h : MayAccept s W n r k x) where
    S : StoreOk s (K.world.node n) (W.store n)
    S = K.store n

    agreed : Agree (suc k) (log_of K.world n) (leader_log K.world (vote_of K.world n))
    agreed = held_agree s since W K n r k x h.request h.vote_committed h.names h.holds

    to_store : (j : ℕ) → j < suc k → ((entry_at s (whole (W.store n)) j).leader ≡ ((leader_log K.world (vote_of K.world n)).at j).leader) × (j < length (whole (W.store n)))
    to_store j l = (ap (λ y. y.leader) (sym (S.log.agree.same j (omega (arith, agreed.left))) ∙ agreed.same j l), omega (arith, agreed.left, S.log.len))

    -- it holds each id of its leader up to there
    pub accepted_held : (q : Append A) (j y : ℕ) → FromLeader W (W.store n) q → Names s q j y → j ≤ k → (j < length (whole (W.store n))) × ((entry_at s (whole (W.store n)) j).leader ≡ y)
    accepted_held q j y b nm l =
        let p : (j < (leader_log K.world (vote_of K.world n)).len) × (((leader_log K.world (vote_of K.world n)).at j).leader ≡ y) = named s K.world (vote_of K.world n) q j y (own_append s since W K n q b) nm in
        let z : ((entry_at s (whole (W.store n)) j).leader ≡ ((leader_log K.world (vote_of K.world n)).at j).leader) × (j < length (whole (W.store n))) = to_store j (omega arith) in
        (z.1, z.0 ∙ p.1)

    -- so an id of its leader that it lacks stands past there
    pub conflict_past_accepted : (q : Append A) (j y : ℕ) → MayTruncateConflict s W n q j y → k < j
    conflict_past_accepted q j y c = ⊎_elim (λ l. l) (λ l. absurd (c.lacks (inr (accepted_held q j y c.request c.names (omega arith))))) (cases_lt k j)

    -- a snapshot of its leader that ends at or below there is held, and one that ends at or past it isn't below
    pub snapshot_below_accepted : (q : Session) (es : List (Entry A)) (j : ℕ) → SnapshotFromLeader W (W.store n) q es → length es ≡ suc j → j ≤ k → (j < length (whole (W.store n))) × ((entry_at s (whole (W.store n)) j).leader ≡ (entry_at s es j).leader)
    snapshot_below_accepted q es j b e l =
        let o : SnapshotRequestOk s K.world (vote_of K.world n) es = subst (λ d. SnapshotRequestOk s K.world d es) (b.session ∙ sym S.vote) (K.told.message (SnapshotRequest q es) b.sent) in
        let a : Agree (length es) (of_list s es) (leader_log K.world (vote_of K.world n)) = cover_in s K.world K.inv (vote_of K.world n) (of_list s es) (length es) (vote_of K.world n) o.cover (omega arith) o.established in
        let z : ((entry_at s (whole (W.store n)) j).leader ≡ ((leader_log K.world (vote_of K.world n)).at j).leader) × (j < length (whole (W.store n))) = to_store j (omega arith) in
        (z.1, z.0 ∙ ap (λ y. y.leader) (sym (a.same j (omega arith))))

    pub snapshot_past_accepted : (q : Session) (es : List (Entry A)) (j : ℕ) → SnapshotFromLeader W (W.store n) q es → length es ≡ suc j → k ≤ j → x ≤ (entry_at s es j).leader
    snapshot_past_accepted q es j b e l =
        let o : SnapshotRequestOk s K.world (vote_of K.world n) es = subst (λ d. SnapshotRequestOk s K.world d es) (b.session ∙ sym S.vote) (K.told.message (SnapshotRequest q es) b.sent) in
        let a : Agree (length es) (of_list s es) (leader_log K.world (vote_of K.world n)) = cover_in s K.world K.inv (vote_of K.world n) (of_list s es) (length es) (vote_of K.world n) o.cover (omega arith) o.established in
        let p : (k < (leader_log K.world (vote_of K.world n)).len) × (((leader_log K.world (vote_of K.world n)).at k).leader ≡ x) = named s K.world (vote_of K.world n) r k x (own_append s since W K n r h.request) h.names in
        omega (arith, rising s K.world K.inv (leader_log K.world (vote_of K.world n)) (K.inv.leader (vote_of K.world n)).follows k j l (omega (arith, a.right)), p.1, ap (λ y. y.leader) (a.same j (omega arith)))

    -- what its leader tells as committed up to there is held
    pub told_held : (told : Append A) (c : ℕ) → FromLeader W (W.store n) told → told.committed ≡ suc c → c ≤ k → (c < length (whole (W.store n))) × ((entry_at s (whole (W.store n)) c).leader ≡ told.committed_leader)
    told_held told c b e l =
        let o : AppendRequestOk s K.world (vote_of K.world n) told = own_append s since W K n told b in
        let z : ((entry_at s (whole (W.store n)) c).leader ≡ ((leader_log K.world (vote_of K.world n)).at c).leader) × (c < length (whole (W.store n))) = to_store c (omega arith) in
        (z.1, z.0 ∙ subst (λ m. last_leader (leader_log K.world (vote_of K.world n)).at m ≡ told.committed_leader) e o.committed_is)

  -- what nodes accepted of a leader stands in its log
  pub accepted_inside : (n m : ℕ) (q : Session) (last upto : ℕ) → Leads s (W.store n) n → Includes W.messages (Accepted m q last upto) → q.leader ≡ (W.store n).vote → (upto ≤ length (whole (W.store n))) × (last_leader (entry_at s (whole (W.store n))) upto ≡ last)
  accepted_inside n m q last upto l b e =
      let S : StoreOk s (K.world.node n) (W.store n) = K.store n in
      let o : AcceptedOk s K.world m (W.store n).vote last upto = subst (λ d. AcceptedOk s K.world m d last upto) e (K.told.message (Accepted m q last upto) b) in
      let L : ((log_of K.world n).len ≡ (leader_log K.world (W.store n).vote).len) × Agree (log_of K.world n).len (log_of K.world n) (leader_log K.world (W.store n).vote) = own_log s since W K n l in
      let h : upto ≤ (log_of K.world n).len = omega (arith, o.inside, L.0) in
      (omega (arith, h, S.log.len), sym (last_same (log_of K.world n) (of_list s (whole (W.store n))) upto (Agree-less upto h S.log.agree)) ∙ (last_same (log_of K.world n) (leader_log K.world (W.store n).vote) upto (Agree-less upto h L.1) ∙ o.last_is))

  -- the last id of it is of no later leader
  pub accepted_low : (m : ℕ) (q : Session) (last upto : ℕ) → Includes W.messages (Accepted m q last upto) → last ≤ q.leader
  accepted_low m q last upto b = go upto (K.told.message (Accepted m q last upto) b)
    where
      go : (k : ℕ) → AcceptedOk s K.world m q.leader last k → last ≤ q.leader
      go zero o = let e : 0 ≡ last = o.last_is in omega (arith, e)
      go (suc k) o = let e : ((leader_log K.world q.leader).at k).leader ≡ last = o.last_is in omega (arith, e, (K.inv.leader q.leader).low k (omega (arith, o.inside)))

  -- and past an entry of the leader's own it is the leader's own
  pub accepted_own : (n m : ℕ) (q : Session) (last upto c : ℕ) → Leads s (W.store n) n → Includes W.messages (Accepted m q last upto) → q.leader ≡ (W.store n).vote → c < upto → (entry_at s (whole (W.store n)) c).leader ≡ (W.store n).vote → last ≡ (W.store n).vote
  accepted_own n m q last zero c l b e i own = absurd (omega (arith, i))
  accepted_own n m q last (suc k) c l b e i own =
      let p : (suc k ≤ length (whole (W.store n))) × ((entry_at s (whole (W.store n)) k).leader ≡ last) = accepted_inside n m q last (suc k) l b e in
      omega (arith, p.1, own, ids_rise (whole (W.store n)) c k (inl (n, refl)) (omega (arith, i)) (omega (arith, p.0)), ids_below_vote n k (omega (arith, p.0)))

  -- a truncation leaves the membership that stands before the last one
  pub truncation_keeps_membership : (n : ℕ) (r : Append A) (k x : ℕ) → MayTruncateConflict s W n r k x → last_membership s (entry_at s (whole (W.store n))) (last_membership_of s (whole (W.store n))) < k
  truncation_keeps_membership n r k x h =
      let S : StoreOk s (K.world.node n) (W.store n) = K.store n in
      let X : Log A = log_of K.world n in
      let p : (k < (leader_log K.world (vote_of K.world n)).len) × (((leader_log K.world (vote_of K.world n)).at k).leader ≡ x) = named s K.world (vote_of K.world n) r k x (own_append s since W K n r h.request) h.names in
      let l : k < (log_of K.world n).len = omega (arith, h.inside, S.log.len) in
      let apart : (log_of K.world n).at k ≢ (leader_log K.world (vote_of K.world n)).at k = λ e. h.lacks (inr (h.inside, ap (λ y. y.leader) (sym (S.log.agree.same k l) ∙ e) ∙ p.1)) in
      let j : ℕ = last_membership s (log_of K.world n).at (log_of K.world n).len in
      let e : last_membership s (log_of K.world n).at (log_of K.world n).len ≡ last_membership_of s (whole (W.store n)) = last-same s (log_of K.world n).at (entry_at s (whole (W.store n))) (log_of K.world n).len S.log.agree.same ∙ ap (last_membership s (entry_at s (whole (W.store n)))) S.log.len in
      let below : last_membership s (log_of K.world n).at (log_of K.world n).len ≤ (log_of K.world n).len = last_le s (log_of K.world n).at (log_of K.world n).len in
      let f : last_membership s (log_of K.world n).at (last_membership s (log_of K.world n).at (log_of K.world n).len) ≡ last_membership s (entry_at s (whole (W.store n))) (last_membership s (log_of K.world n).at (log_of K.world n).len) = last-same s (log_of K.world n).at (entry_at s (whole (W.store n))) (last_membership s (log_of K.world n).at (log_of K.world n).len) (λ i b. S.log.agree.same i (omega (arith, below))) in
      let g : last_membership s (entry_at s (whole (W.store n))) (last_membership s (log_of K.world n).at (log_of K.world n).len) ≡ last_membership s (entry_at s (whole (W.store n))) (last_membership_of s (whole (W.store n))) = ap (last_membership s (entry_at s (whole (W.store n)))) e in
      omega (arith, membership_kept s K.world K.inv n k (S.vote_committed ∙ h.follower.vote_committed) l p.0 apart, f, g)

  -- A snapshot that was sent
  module _ (q : Session) (es : List (Entry A)) (sent : Includes W.messages (SnapshotRequest q es)) where
    snapshot : SnapshotRequestOk s K.world q.leader es
    snapshot = K.told.message (SnapshotRequest q es) sent

    in_leader : Agree (length es) (of_list s es) (leader_log K.world q.leader)
    in_leader = cover_in s K.world K.inv q.leader (of_list s es) (length es) q.leader snapshot.cover (omega arith) snapshot.established

    -- its ids rise, up to its leader's
    pub snapshot_rises : (i j : ℕ) → i ≤ j → j < length es → (entry_at s es i).leader ≤ (entry_at s es j).leader
    snapshot_rises i j h l =
        omega (arith, rising s K.world K.inv (leader_log K.world q.leader) (K.inv.leader q.leader).follows i j h (omega (arith, in_leader.right)), ap (λ y. y.leader) (in_leader.same i (omega arith)), ap (λ y. y.leader) (in_leader.same j l))

    pub snapshot_low : (i : ℕ) → i < length es → (entry_at s es i).leader ≤ q.leader
    snapshot_low i l = omega (arith, (K.inv.leader q.leader).low i (omega (arith, in_leader.right)), ap (λ y. y.leader) (in_leader.same i l))

    -- what of it is committed here is held
    pub snapshot_in_committed : (n : ℕ) → (W.store n).vote ≤ q.leader → length es ≤ (W.store n).committed → BeginsWith (whole (W.store n)) es
    snapshot_in_committed n h l =
        let a : Agree (W.store n).committed (of_list s (whole (W.store n))) (leader_log K.world q.leader) = committed_in_leader n q.leader h snapshot.established in
        begins s es (whole (W.store n)) (Agree-trans in_leader (Agree-sym (Agree-less (length es) l a)))

    committed_end : (n : ℕ) → last_leader (log_of K.world n).at (K.world.node n).committed ≡ last_leader (entry_at s (whole (W.store n))) (W.store n).committed
    committed_end n =
        let S : StoreOk s (K.world.node n) (W.store n) = K.store n in
        last_same (log_of K.world n) (of_list s (whole (W.store n))) (K.world.node n).committed (Agree-less (K.world.node n).committed (K.inv.node n).cover.agree.left S.log.agree) ∙ ap (last_leader (entry_at s (whole (W.store n)))) S.committed

    -- by id and by index it ends at or below the committed id, or past it
    pub snapshot_not_above : (n : ℕ) → length es ≤ (W.store n).committed → AtOrBelow (last_leader_of s es) (length es) (last_leader (entry_at s (whole (W.store n))) (W.store n).committed) (W.store n).committed
    snapshot_not_above n l =
        let S : StoreOk s (K.world.node n) (W.store n) = K.store n in
        subst (λ m. AtOrBelow (last_leader_of s es) (length es) (last_leader (entry_at s (whole (W.store n))) (W.store n).committed) m) S.committed
        (subst (λ x. AtOrBelow (last_leader_of s es) (length es) x (K.world.node n).committed) (committed_end n)
        (not_above s K.world K.inv n q.leader (length es) (of_list s es) snapshot.cover (omega (arith, S.committed))))

    pub snapshot_within_committed : (n : ℕ) → AtOrBelow (last_leader_of s es) (length es) (last_leader (entry_at s (whole (W.store n))) (W.store n).committed) (W.store n).committed → length es ≤ (W.store n).committed
    snapshot_within_committed n u =
        let S : StoreOk s (K.world.node n) (W.store n) = K.store n in
        let v : AtOrBelow (last_leader_of s es) (length es) (last_leader (log_of K.world n).at (K.world.node n).committed) (K.world.node n).committed = subst (λ x. AtOrBelow (last_leader_of s es) (length es) x (K.world.node n).committed) (sym (committed_end n)) (subst (λ m. AtOrBelow (last_leader_of s es) (length es) (last_leader (entry_at s (whole (W.store n))) (W.store n).committed) m) (sym S.committed) u) in
        omega (arith, within_committed s K.world K.inv n q.leader (length es) (of_list s es) snapshot.cover v, S.committed)

    -- a whole log that holds its last id begins with it
    pub snapshot_held : (n k : ℕ) → length es ≡ suc k → k < length (whole (W.store n)) → (entry_at s (whole (W.store n)) k).leader ≡ (entry_at s es k).leader → BeginsWith (whole (W.store n)) es
    snapshot_held n k e l p =
        let S : StoreOk s (K.world.node n) (W.store n) = K.store n in
        let l' : k < (log_of K.world n).len = omega (arith, S.log.len) in
        let C : Covered K.world q.leader (of_list s es) (suc k) = subst (λ m. Covered K.world q.leader (of_list s es) m) e snapshot.cover in
        let a : Agree (suc k) (of_list s es) (log_of K.world n) = snapshot_in s K.world K.inv n q.leader k (of_list s es) C l' (ap (λ z. z.leader) (S.log.agree.same k l') ∙ p) in
        begins s es (whole (W.store n)) (subst (λ m. Agree m (of_list s es) (of_list s (whole (W.store n)))) (sym e) (Agree-trans a (Agree-less (suc k) l' S.log.agree)))
