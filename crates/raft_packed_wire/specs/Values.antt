-- The bytes of what is kept of entries.
use Rattle.raft_codec.specs.Codec.{Codec, number, optional, pair, by_parts}
use Rattle.raft_wire.specs.Values.{log_id, stored_membership}
use Rattle.raft_packed_node.specs.proof_packed.Stores.{Packed}

-- how many the entries are, their last id, the membership before the last, the last one, and the state, by its machine's form
unfoldable pub kept : {S : Type 0} → Codec S → Codec (Packed S)
kept c = by_parts
    (λ p. (p.end, (p.last_id, (p.before, (p.effective, p.state)))))
    (λ q. record { end = q.0; last_id = q.1.0; before = q.1.1.0; effective = q.1.1.1.0; state = q.1.1.1.1 })
    (pair number (pair (optional log_id) (pair stored_membership (pair stored_membership c))))
