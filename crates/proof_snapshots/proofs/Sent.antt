-- Snapshots of an ideal world that were sent: those of as many entries are the same.
use Rattle.std.proofs.Common.{ℕ, ◌<◌, ◌≡◌, List, length, arith, sym}
use Rattle.std.proofs.lemmas.List.{ext_get_or}
use Rattle.proof_deeds.specs.proof_agreement.Machine.{Entry, Includes, Setup, World}
use Rattle.proof_deeds.specs.proof_agreement.Stores.{Session, SnapshotRequest, Stores, entry_at, first_entry}
use Rattle.proof_deeds.proofs.proof_agreement_proofs.Invariants.{ExecutedAt}
use Rattle.proof_deeds.proofs.proof_agreement_proofs.StoresFollow.{SnapshotRequestOk, StoresFollow}
use Rattle.proof_deeds.proofs.proof_agreement_proofs.Theorems.{executed_agree}

module _ {A : Type 0} (s : Setup A) (since : World A) (W : Stores A) (K : StoresFollow s since W) where
  -- each of its entries stands at its index in the log of a leader that has decided it
  stands : (q : Session) (es : List (Entry A)) → Includes W.messages (SnapshotRequest q es) → (i : ℕ) → i < length es
      → ExecutedAt K.world (record { index = i; entry = entry_at s es i })
  stands q es sent i l =
      let O : SnapshotRequestOk s K.world q.leader es = K.told.message (SnapshotRequest q es) sent in
      record {
        leader = O.cover.leader;
        within = omega (arith, l, O.cover.within);
        inside = omega (arith, l, O.cover.agree.right);
        is = sym (O.cover.agree.same i l);
      }

  pub snapshots_same : (q r : Session) (es fs : List (Entry A)) → Includes W.messages (SnapshotRequest q es)
      → Includes W.messages (SnapshotRequest r fs) → length es ≡ length fs → es ≡ fs
  snapshots_same q r es fs h k e =
      ext_get_or (first_entry s) es fs e
      (λ i l. executed_agree s K.world K.inv (record { index = i; entry = entry_at s es i }) (record { index = i; entry = entry_at s fs i })
      (stands q es h i l) (stands r fs k i (omega (arith, l, e))) (λ t. i))
