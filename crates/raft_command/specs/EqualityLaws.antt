-- Lemmas: equality of commands is an equivalence if that of their parts is. Nothing here has to be believed.
use Rattle.std.specs.Prelude.{◌≡◌, ℕ, Bool, ◌&&◌, List, [], ◌∷◌, map, nat_eq}
use Rattle.std.specs.Cmp.{IsPartialEquivalence, IsEquivalence, partial_equiv_from_equiv, on_equiv, and_equiv, nat_eq_equiv}
use Rattle.std.specs.Cmp.Lexicographic.{pointwise, lists_equiv, options_equiv}
use Rattle.std.proofs.Common.{refl, subst}
use Rattle.std.proofs.Math.Bool.{and-true}
use Rattle.raft_progress_entry.specs.raft_state.IdEquality.{log_id_eq, log_id_equiv}
use Rattle.raft_progress_entry.specs.raft_state.declared.ids.LogId.{LogId}
use Rattle.raft_progress_entry.specs.raft_state.declared.membership.Members.{Members}
use Rattle.raft_progress_entry.specs.raft_state.declared.membership.StoredMembership.{StoredMembership}
use Rattle.raft_progress_entry.specs.raft_state.declared.membership.SnapshotMeta.{SnapshotMeta}
use Rattle.raft_command.specs.Equality.{sender_eq, membership_eq, stored_membership_eq, meta_eq, payload_eq}
use Rattle.raft_command.specs.Sender.{Sender}
use Rattle.raft_command.specs.declared.sm.CommandPayload.{CommandPayload}
use Rattle.raft_command.specs.declared.sm.CommandPayload.TheVariants.{BuildSnapshot, GetSnapshot, BeginReceivingSnapshot, InstallFullSnapshot, Apply}
use Rattle.std.specs.Cmp.{on_per}

module _ {T : Type 0} {eq : T → T → Bool} where
  pub sender_per : IsPartialEquivalence eq → IsPartialEquivalence (sender_eq eq)
  sender_per p = on_per (λ (s : Sender T). s.value) p

  pub sender_equiv : IsEquivalence eq → IsEquivalence (sender_eq eq)
  sender_equiv e = on_equiv (λ (s : Sender T). s.value) e

module _ {NID N : Type 0} (node_eq : NID → NID → Bool) (data_eq : N → N → Bool) (node : IsEquivalence node_eq) (data_node : IsEquivalence data_eq) where
  membership_equiv : IsEquivalence (membership_eq node_eq data_eq)
  membership_equiv =
      and_equiv (on_equiv (λ (m : Members NID N). m.groups) (lists_equiv (lists_equiv node)))
      (on_equiv (λ (m : Members NID N). m.nodes) (lists_equiv (and_equiv (on_equiv (λ (x : NID × N). x.0) node) (on_equiv (λ (x : NID × N). x.1) data_node))))

  stored_membership_equiv : IsEquivalence (stored_membership_eq node_eq data_eq)
  stored_membership_equiv =
      and_equiv (on_equiv (λ (m : StoredMembership NID N). m.log_id) (options_equiv (log_id_equiv node_eq node)))
      (on_equiv (λ (m : StoredMembership NID N). m.membership) membership_equiv)

  pub meta_equiv : IsEquivalence (meta_eq node_eq data_eq)
  meta_equiv =
      and_equiv (on_equiv (λ (m : SnapshotMeta NID N). m.last_log_id) (options_equiv (log_id_equiv node_eq node)))
      (and_equiv (on_equiv (λ (m : SnapshotMeta NID N). m.last_membership) stored_membership_equiv) (on_equiv (λ (m : SnapshotMeta NID N). m.snapshot_id) (lists_equiv nat_eq_equiv)))

module _ {C NID N E D R S : Type 0} (node_eq : NID → NID → Bool) (data_eq : N → N → Bool) (id_of : E → LogId NID) where
  -- what is compared: the kind, the meta of a snapshot, the log ids of entries
  abbrev kind : CommandPayload C NID N E D R S → ℕ
  kind BuildSnapshot = 0
  kind (GetSnapshot _) = 1
  kind (BeginReceivingSnapshot _) = 2
  kind (InstallFullSnapshot _) = 3
  kind (Apply _) = 4

  abbrev metas : CommandPayload C NID N E D R S → List (SnapshotMeta NID N)
  metas (InstallFullSnapshot s) = s.meta ∷ []
  metas _ = []

  abbrev ids : CommandPayload C NID N E D R S → List (LogId NID)
  ids (Apply entries) = map id_of entries
  ids _ = []

  abbrev parts_eq : CommandPayload C NID N E D R S → CommandPayload C NID N E D R S → Bool
  parts_eq a b = nat_eq (kind a) (kind b) && (pointwise (log_id_eq node_eq) (ids a) (ids b) && pointwise (meta_eq node_eq data_eq) (metas a) (metas b))

  by_parts : (a b : CommandPayload C NID N E D R S) → parts_eq a b ≡ payload_eq node_eq data_eq id_of a b
  by_parts BuildSnapshot BuildSnapshot = refl
  by_parts BuildSnapshot (GetSnapshot b) = refl
  by_parts BuildSnapshot (BeginReceivingSnapshot b) = refl
  by_parts BuildSnapshot (InstallFullSnapshot b) = refl
  by_parts BuildSnapshot (Apply b) = refl
  by_parts (GetSnapshot a) BuildSnapshot = refl
  by_parts (GetSnapshot a) (GetSnapshot b) = refl
  by_parts (GetSnapshot a) (BeginReceivingSnapshot b) = refl
  by_parts (GetSnapshot a) (InstallFullSnapshot b) = refl
  by_parts (GetSnapshot a) (Apply b) = refl
  by_parts (BeginReceivingSnapshot a) BuildSnapshot = refl
  by_parts (BeginReceivingSnapshot a) (GetSnapshot b) = refl
  by_parts (BeginReceivingSnapshot a) (BeginReceivingSnapshot b) = refl
  by_parts (BeginReceivingSnapshot a) (InstallFullSnapshot b) = refl
  by_parts (BeginReceivingSnapshot a) (Apply b) = refl
  by_parts (InstallFullSnapshot a) BuildSnapshot = refl
  by_parts (InstallFullSnapshot a) (GetSnapshot b) = refl
  by_parts (InstallFullSnapshot a) (BeginReceivingSnapshot b) = refl
  by_parts (InstallFullSnapshot a) (InstallFullSnapshot b) = and-true _
  by_parts (InstallFullSnapshot a) (Apply b) = refl
  by_parts (Apply a) BuildSnapshot = refl
  by_parts (Apply a) (GetSnapshot b) = refl
  by_parts (Apply a) (BeginReceivingSnapshot b) = refl
  by_parts (Apply a) (InstallFullSnapshot b) = refl
  by_parts (Apply a) (Apply b) = and-true _

  pub payload_equiv : IsEquivalence node_eq → IsEquivalence data_eq → IsEquivalence (payload_eq {C = C} {D = D} {R = R} {S = S} node_eq data_eq id_of)
  payload_equiv n d =
      subst IsEquivalence (λ i a b. by_parts a b i)
      (and_equiv (on_equiv kind nat_eq_equiv) (and_equiv (on_equiv ids (lists_equiv (log_id_equiv node_eq n))) (on_equiv metas (lists_equiv (meta_equiv node_eq data_eq n d)))))

  pub payload_per : IsEquivalence node_eq → IsEquivalence data_eq → IsPartialEquivalence (payload_eq {C = C} {D = D} {R = R} {S = S} node_eq data_eq id_of)
  payload_per n d = partial_equiv_from_equiv (payload_equiv n d)
