-- When commands are equal: by the fields named here, never by a token (openraft's `PartialEq` of its commands).
use Rattle.std.specs.Prelude.{Bool, true, false, ◌&&◌, nat_eq, List, map}
use Rattle.std.specs.Option.{option_eq}
use Rattle.std.specs.Cmp.Lexicographic.{pointwise}
use Rattle.raft_progress_entry.specs.raft_state.IdEquality.{log_id_eq}
use Rattle.raft_progress_entry.specs.raft_state.declared.ids.LogId.{LogId}
use Rattle.raft_progress_entry.specs.raft_state.declared.membership.Members.{Members}
use Rattle.raft_progress_entry.specs.raft_state.declared.membership.StoredMembership.{StoredMembership}
use Rattle.raft_progress_entry.specs.raft_state.declared.membership.SnapshotMeta.{SnapshotMeta}
use Rattle.raft_command.specs.Sender.{Sender}
use Rattle.raft_command.specs.declared.sm.CommandPayload.{CommandPayload}
use Rattle.raft_command.specs.declared.sm.CommandPayload.TheVariants.{BuildSnapshot, GetSnapshot, BeginReceivingSnapshot, InstallFullSnapshot, Apply}

-- equal values, for whomever they are
abbrev pub sender_eq : {T : Type 0} → (T → T → Bool) → Sender T → Sender T → Bool
sender_eq eq a b = eq a.value b.value

module _ {NID N : Type 0} (node_eq : NID → NID → Bool) (data_eq : N → N → Bool) where
  -- equal groups, and equal nodes with equal data
  abbrev pub membership_eq : Members NID N → Members NID N → Bool
  membership_eq a b = pointwise (pointwise node_eq) a.groups b.groups && pointwise (λ x y. node_eq x.0 y.0 && data_eq x.1 y.1) a.nodes b.nodes

  abbrev pub stored_membership_eq : StoredMembership NID N → StoredMembership NID N → Bool
  stored_membership_eq a b = option_eq (log_id_eq node_eq) a.log_id b.log_id && membership_eq a.membership b.membership

  -- equal in each field
  abbrev pub meta_eq : SnapshotMeta NID N → SnapshotMeta NID N → Bool
  meta_eq a b =
      option_eq (log_id_eq node_eq) a.last_log_id b.last_log_id
      && (stored_membership_eq a.last_membership b.last_membership && pointwise nat_eq a.snapshot_id b.snapshot_id)

-- the same log ids, in the same order
abbrev pub ids_eq : {NID E : Type 0} → (NID → NID → Bool) → (E → LogId NID) → List E → List E → Bool
ids_eq node_eq id_of xs ys = pointwise (log_id_eq node_eq) (map id_of xs) (map id_of ys)

module _ {C NID N E D R S : Type 0} (node_eq : NID → NID → Bool) (data_eq : N → N → Bool) (id_of : E → LogId NID) where
  -- the same kind; for a snapshot equal metas, and for entries the same log ids
  abbrev pub payload_eq : CommandPayload C NID N E D R S → CommandPayload C NID N E D R S → Bool
  payload_eq BuildSnapshot BuildSnapshot = true
  payload_eq (GetSnapshot _) (GetSnapshot _) = true
  payload_eq (BeginReceivingSnapshot _) (BeginReceivingSnapshot _) = true
  payload_eq (InstallFullSnapshot a) (InstallFullSnapshot b) = meta_eq node_eq data_eq a.meta b.meta
  payload_eq (Apply a) (Apply b) = ids_eq node_eq id_of a b
  payload_eq _ _ = false
