-- The bytes of ids, votes and memberships.
use Rattle.std.specs.Prelude.{ℕ, ◌≡◌, Bool, true, ◌&&◌, nat_eq, List, length, map, Ok, Err, if◌then◌else◌}
use Rattle.std.specs.Cmp.Lexicographic.{pointwise}
use Rattle.std.specs.Ordering.{nat_cmp}
use Rattle.std.specs.Str.{is_utf8}
use Rattle.raft_state.specs.declared.ids.LogId.{LogId}
use Rattle.raft_state.specs.declared.ids.Vote.{Vote}
use Rattle.raft_state.specs.declared.membership.Members.{Members}
use Rattle.raft_state.specs.declared.membership.StoredMembership.{StoredMembership}
use Rattle.raft_state.specs.declared.membership.SnapshotMeta.{SnapshotMeta}
use Rattle.raft_state.specs.Members.{members_of, learner_ids}
use Rattle.raft_codec.specs.declared.error.DecodeError.TheVariants.{Malformed}
use Rattle.raft_codec.specs.declared.error.Fault.TheVariants.{NotUtf8, Disordered}
use Rattle.raft_codec.specs.Codec.{Codec, ◌>>=◌, number, flag, raw, optional, list, pair, by_parts}

-- a log id: the leader's term, its node, the index
unfoldable pub log_id : Codec (LogId ℕ)
log_id = by_parts
    (λ id. (id.leader_id.term, (id.leader_id.node_id, id.index)))
    (λ p. record { leader_id = record { term = p.0; node_id = p.1.0 }; index = p.1.1 })
    (pair number (pair number number))

-- a vote: the term, the node, whether a quorum has granted it
unfoldable pub vote : Codec (Vote ℕ)
vote = by_parts
    (λ v. (v.leader_id.term, (v.leader_id.node_id, v.committed)))
    (λ p. record { leader_id = record { term = p.0; node_id = p.1.0 }; committed = p.1.1 })
    (pair number (pair number flag))

-- a text: its bytes in UTF-8
unfoldable pub text : Codec (List ℕ)
text = record {
  fits = λ t. raw.fits t × (is_utf8 t ≡ true);
  bytes = raw.bytes;
  read = λ front. do
    t ← raw.read front
    if is_utf8 t.0 then Ok t else Err (Malformed NotUtf8 (length front));
}

-- what is written of a membership: the groups of voters, and the learners
abbrev pub Sent : Type 0
Sent = List (List ℕ) × List ℕ

abbrev pub sent_lists : Codec Sent
sent_lists = pair (list (list number)) (list number)

abbrev pub sent : Members ℕ (Unit {0}) → Sent
sent m = (m.groups, learner_ids nat_cmp m)

-- the membership of groups and learners
abbrev pub made : Sent → Members ℕ (Unit {0})
made s = members_of nat_cmp tt s.0 (map (λ id. (id, tt)) s.1)

-- the membership would be written so: its ids ascend, each once
abbrev pub is_sent : Members ℕ (Unit {0}) → Sent → Bool
is_sent m s = pointwise (pointwise nat_eq) m.groups s.0 && pointwise nat_eq (learner_ids nat_cmp m) s.1

-- a membership: groups and learners in order, as each membership has them
unfoldable pub membership : Codec (Members ℕ (Unit {0}))
membership = record {
  fits = λ m. sent_lists.fits (sent m) × (made (sent m) ≡ m);
  bytes = λ m. sent_lists.bytes (sent m);
  read = λ front. do
    s ← sent_lists.read front
    if is_sent (made s.0) s.0 then Ok (made s.0, s.1) else Err (Malformed Disordered (length front));
}

-- a membership, behind the log id of its entry
unfoldable pub stored_membership : Codec (StoredMembership ℕ (Unit {0}))
stored_membership = by_parts
    (λ m. (m.log_id, m.membership))
    (λ p. record { log_id = p.0; membership = p.1 })
    (pair (optional log_id) membership)

-- the meta of a snapshot: the last log id, the last membership, the snapshot's own id
unfoldable pub snapshot_meta : Codec (SnapshotMeta ℕ (Unit {0}))
snapshot_meta = by_parts
    (λ m. (m.last_log_id, (m.last_membership, m.snapshot_id)))
    (λ p. record { last_log_id = p.0; last_membership = p.1.0; snapshot_id = p.1.1 })
    (pair (optional log_id) (pair stored_membership text))
