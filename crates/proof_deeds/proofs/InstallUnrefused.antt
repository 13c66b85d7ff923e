-- A snapshot request that was sent is refused only at the last index, or where it undoes a committed membership.
use Rattle.std.proofs.Common.{ℕ, ◌≡◌, Bool, true, false, not, refl, sym, true≢false, Option, None, Some}
use Rattle.std.specs.Prelude.{◌||◌, if◌then◌else◌}
use Rattle.std.specs.List.{list_any}
use Rattle.std.specs.Option.{option_to_list}
use Rattle.std.specs.Ordering.{nat_cmp}
use Rattle.raft_node.specs.raft_state.declared.ids.LogId.{LogId}
use Rattle.raft_node.specs.raft_state.declared.membership.Members.{Members}
use Rattle.raft_node.specs.raft_state.Fits.{is_within}
use Rattle.raft_node.specs.raft_error.declared.error.EngineError.TheVariants.{IndexEnd, SnapshotUnfit}
use Rattle.raft_node.specs.raft_command.declared.config.EngineConfig.{EngineConfig}
use Rattle.raft_node.specs.raft_steps.InstallRefusals.{undoes_committed, falls_short, is_unfit, refusals_of_fit}
use Rattle.raft_node.specs.raft_steps.Refusals.{is_at_end}
use Rattle.raft_node.specs.raft_steps.RequestRefusals.{is_above_vote, is_above_committed}
use Rattle.raft_node.specs.raft_steps.VoteHandler.{rejects_vote}
use Rattle.raft_node.specs.raft_store.Types.{WorldStore, WorldSnapshot, WorldMachine}
use Rattle.raft_node.specs.raft_calls.declared.message.Body.TheVariants as body
use Rattle.raft_node.specs.raft_calls.declared.message.Message.{Message}
use Rattle.raft_node.specs.raft_calls.declared.message.Origin.{Origin}
use Rattle.raft_node.specs.declared.node.Turn.{Turn}
use Rattle.proof_deeds.specs.Images.{Ideal, setup_of}
use Rattle.proof_deeds.specs.Knows.{Delivered, Stands}
use Rattle.proof_deeds.proofs.InstallAccepted.{not_short}
use Rattle.proof_deeds.proofs.InstallFitting.{below_vote, below_committed}
use Rattle.proof_deeds.proofs.InstallLaws.{sent_in}
use Rattle.proof_deeds.proofs.InstallMembers.{membership_within}

no_one : (a b c d : Bool) → a ≡ false → b ≡ false → c ≡ false → d ≡ false → (a || (b || (c || d))) ≡ false
no_one false false false d e f g h = h
no_one false false true d e f g h = g
no_one false true c d e f g h = f
no_one true b c d e f g h = e

passes : {E : Type 0} (a b c : Bool) (x y z : E) → a ≡ false → b ≡ true → c ≡ false → (if a then Some x else if not b then Some y else if c then Some z else None) ≡ None
passes true b c x y z e f g = absurd (true≢false e)
passes false false c x y z e f g = absurd (true≢false (sym f))
passes false true true x y z e f g = absurd (true≢false g)
passes false true false x y z e f g = refl

module _ (first : Members ℕ (Unit {0})) (t : Turn) (config : EngineConfig ℕ) (u : WorldStore) (W : Ideal) (msg : Message) (o : Origin) (snapshot : WorldSnapshot) (d : Delivered (setup_of first) t W msg) (b : msg.body ≡ body.SnapshotRequest o snapshot)
    (m : WorldMachine) (st : Stands (setup_of first) t config u W m) where
  pub fits_unless : rejects_vote nat_cmp m.core.state o.session_id.vote ≡ false → list_any is_at_end (option_to_list snapshot.meta.last_log_id) ≡ false
      → ((x : LogId ℕ) → snapshot.meta.last_log_id ≡ Some x → undoes_committed nat_cmp m.core.state snapshot.meta x ≡ false) → refusals_of_fit nat_cmp m.core.state o.session_id.vote snapshot.meta ≡ None
  fits_unless r low f =
      passes (list_any is_at_end (option_to_list snapshot.meta.last_log_id)) (is_within nat_cmp snapshot.meta.last_membership.log_id snapshot.meta.last_log_id) (list_any (is_unfit nat_cmp m.core.state o.session_id.vote snapshot.meta) (option_to_list snapshot.meta.last_log_id)) IndexEnd SnapshotUnfit SnapshotUnfit
      low (membership_within snapshot (sent_in first t config u W msg o snapshot d b).tells) (go snapshot.meta.last_log_id refl)
    where
      alone : (a : Bool) → a ≡ false → (a || false) ≡ false
      alone false e = refl
      alone true e = e

      go : (p : Option (LogId ℕ)) → snapshot.meta.last_log_id ≡ p → list_any (is_unfit nat_cmp m.core.state o.session_id.vote snapshot.meta) (option_to_list p) ≡ false
      go None e = refl
      go (Some x) e =
          alone (is_unfit nat_cmp m.core.state o.session_id.vote snapshot.meta x)
          (no_one (is_above_committed nat_cmp m.core.state x) (is_above_vote nat_cmp o.session_id.vote x) (undoes_committed nat_cmp m.core.state snapshot.meta x) (falls_short nat_cmp m.core.state o.session_id.vote x)
          (below_committed first t config u W msg o snapshot d b m st x e) (below_vote first t config u W msg o snapshot d b m st x e) (f x e) (not_short first t config u W msg o snapshot d b m st x e r))
