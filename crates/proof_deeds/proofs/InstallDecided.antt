-- A log differs from a snapshot that was sent only past what a leader up to the snapshot's had decided, and past the
-- membership before its last one.
use Rattle.std.proofs.Common.{ℕ, zero, suc, ◌<◌, ◌≤◌, ◌≡◌, ◌≢◌, ⊎_elim, true, List, length, arith, sym, ap, ◌∙◌, subst}
use Rattle.std.proofs.lemmas.Bool.{cases_lt}
use Rattle.proof_agreement.specs.Machine.{Entry, World, Setup, Includes, Agree, last_membership, leader_log, log_of, vote_of}
use Rattle.proof_agreement.specs.Stores.{Session, SnapshotRequest, Stores, whole, entry_at, of_list}
use Rattle.proof_agreement.specs.Deeds.{last_membership_of}
use Rattle.proof_agreement.proofs.Bridge.{cover_in, membership_kept}
use Rattle.proof_agreement.proofs.Consequences.{same_id}
use Rattle.proof_agreement.proofs.Memberships.{last-same, last_le}
use Rattle.proof_agreement.proofs.StoresFollow.{StoreOk, SnapshotRequestOk, StoresFollow}
use Rattle.proof_deeds.proofs.AppendSettled.{Decides, decides_in, first_of}

module _ {A : Type 0} (s : Setup A) (since : World A) (W : Stores A) (K : StoresFollow s since W) (n : ℕ) (q : Session) (es : List (Entry A)) (sent : Includes W.messages (SnapshotRequest q es)) where
  asked : SnapshotRequestOk s K.world q.leader es
  asked = K.told.message (SnapshotRequest q es) sent

  -- the snapshot begins its leader's log
  in_leader : Agree (length es) (of_list s es) (leader_log K.world q.leader)
  in_leader = cover_in s K.world K.inv q.leader (of_list s es) (length es) q.leader asked.cover (omega arith) asked.established

  -- what is decided, and held, stands before each difference
  pub snapshot_past_decided : (k b i y : ℕ) → k < length es → (entry_at s (whole (W.store n)) k).leader ≢ (entry_at s es k).leader → Decides s K.world b i y → b ≤ q.leader → i < length (whole (W.store n)) → (entry_at s (whole (W.store n)) i).leader ≡ y → i < k
  snapshot_past_decided k b i y short apart d l inside is =
      let S : StoreOk s (K.world.node n) (W.store n) = K.store n in
      let z : (i < (leader_log K.world q.leader).len) × (((leader_log K.world q.leader).at i).leader ≡ y) = decides_in s K.world K.inv b i y q.leader d l asked.established in
      let i2 : i < (log_of K.world n).len = omega (arith, inside, S.log.len) in
      let e : ((log_of K.world n).at i).leader ≡ ((leader_log K.world q.leader).at i).leader = ap (λ (p : Entry A). p.leader) (S.log.agree.same i i2) ∙ (is ∙ sym z.1) in
      let a : Agree (suc i) (log_of K.world n) (leader_log K.world q.leader) = same_id K.world (log_of K.world n) (leader_log K.world q.leader) i ((K.inv.node n).follows i i2) ((K.inv.leader q.leader).follows i z.0) e in
      ⊎_elim (λ m. m)
      (λ m. absurd (apart (ap (λ (p : Entry A). p.leader) (sym (S.log.agree.same k (omega (arith, m, i2))) ∙ (a.same k (omega (arith, m)) ∙ sym (in_leader.same k short))))))
      (cases_lt i k)

  -- no difference is at the first index
  pub differs_past_first : (k : ℕ) → 0 < length (whole (W.store n)) → k < length es → (entry_at s (whole (W.store n)) k).leader ≢ (entry_at s es k).leader → 0 < k
  differs_past_first zero held short apart =
      let S : StoreOk s (K.world.node n) (W.store n) = K.store n in
      let i : 0 < (log_of K.world n).len = omega (arith, held, S.log.len) in
      let a : ((leader_log K.world q.leader).at 0).leader ≡ 0 = first_of s K.world K.inv (leader_log K.world q.leader) ((K.inv.leader q.leader).follows 0 (omega (arith, in_leader.right, short))) in
      let b : ((log_of K.world n).at 0).leader ≡ 0 = first_of s K.world K.inv (log_of K.world n) ((K.inv.node n).follows 0 i) in
      absurd (apart (ap (λ (p : Entry A). p.leader) (sym (S.log.agree.same 0 i)) ∙ (b ∙ (sym a ∙ ap (λ (p : Entry A). p.leader) (sym (in_leader.same 0 short))))))
  differs_past_first (suc k) held short apart = omega arith

  -- a cut for a snapshot of the node's leader leaves the membership that stands before the last one
  pub install_keeps_membership : (k : ℕ) → q.leader ≡ (W.store n).vote → (W.store n).vote_committed ≡ true → k < length es → k < length (whole (W.store n)) → (entry_at s (whole (W.store n)) k).leader ≢ (entry_at s es k).leader
      → last_membership s (entry_at s (whole (W.store n))) (last_membership_of s (whole (W.store n))) < k
  install_keeps_membership k leads c short inside apart =
      let S : StoreOk s (K.world.node n) (W.store n) = K.store n in
      let l : k < (log_of K.world n).len = omega (arith, inside, S.log.len) in
      let L : Agree (length es) (of_list s es) (leader_log K.world (vote_of K.world n)) = subst (λ d. Agree (length es) (of_list s es) (leader_log K.world d)) (leads ∙ sym S.vote) in_leader in
      let differ : (log_of K.world n).at k ≢ (leader_log K.world (vote_of K.world n)).at k = λ e. apart (ap (λ (p : Entry A). p.leader) (sym (S.log.agree.same k l) ∙ (e ∙ sym (L.same k short)))) in
      let e : last_membership s (log_of K.world n).at (log_of K.world n).len ≡ last_membership_of s (whole (W.store n)) = last-same s (log_of K.world n).at (entry_at s (whole (W.store n))) (log_of K.world n).len S.log.agree.same ∙ ap (last_membership s (entry_at s (whole (W.store n)))) S.log.len in
      let below : last_membership s (log_of K.world n).at (log_of K.world n).len ≤ (log_of K.world n).len = last_le s (log_of K.world n).at (log_of K.world n).len in
      let f : last_membership s (log_of K.world n).at (last_membership s (log_of K.world n).at (log_of K.world n).len) ≡ last_membership s (entry_at s (whole (W.store n))) (last_membership s (log_of K.world n).at (log_of K.world n).len) = last-same s (log_of K.world n).at (entry_at s (whole (W.store n))) (last_membership s (log_of K.world n).at (log_of K.world n).len) (λ i b. S.log.agree.same i (omega (arith, below, b))) in
      let g : last_membership s (entry_at s (whole (W.store n))) (last_membership s (log_of K.world n).at (log_of K.world n).len) ≡ last_membership s (entry_at s (whole (W.store n))) (last_membership_of s (whole (W.store n))) = ap (last_membership s (entry_at s (whole (W.store n)))) e in
      omega (arith, membership_kept s K.world K.inv n k (S.vote_committed ∙ c) l (omega (arith, L.right, short)) differ, f, g)
