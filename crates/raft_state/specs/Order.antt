-- The orders of leader ids, log ids and votes, over the order of node ids (openraft's `leader_id_adv`).
use Rattle.std.specs.Prelude.{ℕ, ◌+◌, Option, None, Some}
use Rattle.std.specs.declared.cmp.Ordering.{Ordering}
use Rattle.std.specs.Ordering.{nat_cmp, bool_cmp, ordering_then}
use Rattle.std.specs.Option.{option_cmp}
use Rattle.raft_state.specs.declared.ids.LeaderId.{LeaderId}
use Rattle.raft_state.specs.declared.ids.LogId.{LogId}
use Rattle.raft_state.specs.declared.ids.Vote.{Vote}

module _ {NID : Type 0} (cmp : NID → NID → Ordering) where
  -- by term, then by node
  abbrev pub leader_id_cmp : LeaderId NID → LeaderId NID → Ordering
  leader_id_cmp a b = ordering_then (nat_cmp a.term b.term) (cmp a.node_id b.node_id)

  -- by leader id, then by index: more up-to-date is greater (Raft paper, section 5.4.1)
  abbrev pub log_id_cmp : LogId NID → LogId NID → Ordering
  log_id_cmp a b = ordering_then (leader_id_cmp a.leader_id b.leader_id) (nat_cmp a.index b.index)

  -- by leader id, then an uncommitted vote before a committed one
  abbrev pub vote_cmp : Vote NID → Vote NID → Ordering
  vote_cmp a b = ordering_then (leader_id_cmp a.leader_id b.leader_id) (bool_cmp a.committed b.committed)

  -- none before each log id
  abbrev pub last_id_cmp : Option (LogId NID) → Option (LogId NID) → Ordering
  last_id_cmp = option_cmp log_id_cmp

-- the index after a log id, 0 after none (openraft's `next_index`)
abbrev pub next : {NID : Type 0} → Option (LogId NID) → ℕ
next None = 0
next (Some x) = x.index + 1
