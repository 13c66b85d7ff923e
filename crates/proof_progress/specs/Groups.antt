-- Voter groups that no event changes.
use Rattle.std.specs.Prelude.{ℕ, ◌≡◌, true, List}
use Rattle.std.specs.List.{AllByRecursion, list_all}
use Rattle.std.specs.Map.{keys_of}
use Rattle.std.specs.Ordering.{nat_cmp}
use Rattle.proof_deeds.specs.raft_state.declared.membership.Members.{Members}
use Rattle.proof_deeds.specs.raft_state.Sorted.{has_id}
use Rattle.proof_deeds.specs.raft_store.declared.entry.Entry.{Entry}
use Rattle.proof_deeds.specs.raft_store.declared.entry.Payload.{Payload}
use Rattle.proof_deeds.specs.raft_store.declared.entry.Payload.TheVariants.{Blank, Membership, Value}
use Rattle.proof_deeds.specs.raft_schedule.declared.event.EventKind.{EventKind}
use Rattle.proof_deeds.specs.raft_schedule.declared.event.EventKind.TheVariants as kinds
use Rattle.proof_deeds.specs.raft_calls.declared.message.Body.{Body}
use Rattle.proof_deeds.specs.raft_calls.declared.message.Body.TheVariants as body

-- an event proposes no voter groups: learners may change
abbrev pub LeavesVoters : EventKind → Type 0
LeavesVoters (kinds.Change n groups learners) = ⊥
LeavesVoters _ = Unit {0}

module _ (groups : List (List ℕ)) where
  -- a membership has these voter groups, and each voter is one of its nodes
  pub record HasVoters (m : Members ℕ (Unit {0})) : Type 0 where
    pub same : m.groups ≡ groups
    pub nodes : list_all (λ group. list_all (has_id nat_cmp (keys_of m.nodes)) group) groups ≡ true

  abbrev pub PayloadKeeps : Payload → Type 0
  PayloadKeeps Blank = Unit {0}
  PayloadKeeps (Value v) = Unit {0}
  PayloadKeeps (Membership m) = HasVoters m

  -- an entry keeps the groups: if it has a membership, that has them
  abbrev pub Keeps : Entry → Type 0
  Keeps e = PayloadKeeps e.payload

  -- so do the entries of a message
  abbrev pub BodyKeeps : Body → Type 0
  BodyKeeps (body.AppendRequest o prev es committed) = AllByRecursion Keeps es
  BodyKeeps (body.SnapshotRequest o s) = AllByRecursion Keeps s.snapshot
  BodyKeeps _ = Unit {0}
