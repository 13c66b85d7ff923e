-- The world's values as values of `proof_agreement`: the ideal ones.
use Rattle.std.specs.Prelude.{ℕ, ◌≡◌, ◌<◌, true, false, List, [], ◌∷◌, Option, None, Some, map, length, is_some}
use Rattle.std.specs.List.{AllByRecursion}
use Rattle.raft_node.specs.raft_state.declared.ids.LeaderId.{LeaderId}
use Rattle.raft_node.specs.raft_state.declared.ids.LogId.{LogId}
use Rattle.raft_node.specs.raft_state.declared.membership.Members.{Members}
use Rattle.proof_agreement.specs.LeaderNumbers.{leader_number, leader_node}
use Rattle.proof_agreement.specs.Machine.{Setup}
use Rattle.proof_agreement.specs.Machine as machine
use Rattle.proof_agreement.specs.Stores as stores
use Rattle.proof_agreement.specs.Deeds as deeds
use Rattle.raft_node.specs.raft_store.declared.entry.Entry.{Entry}
use Rattle.raft_node.specs.raft_store.declared.entry.Payload.{Payload}
use Rattle.raft_node.specs.raft_store.Entries.{members_of}
use Rattle.raft_node.specs.raft_calls.Elections.{first_entry}

-- The payload of an ideal entry is the whole entry of the world, so that an entry is known again by its image.
abbrev pub Ideal : Type 0
Ideal = stores.Stores Entry

abbrev pub IdealEntry : Type 0
IdealEntry = machine.Entry Entry

abbrev pub IdealStore : Type 0
IdealStore = stores.Store Entry

abbrev pub IdealMessage : Type 0
IdealMessage = stores.Message Entry

abbrev pub IdealDeed : Type 0
IdealDeed = deeds.Deed Entry

-- a leader id as a number
abbrev pub number : LeaderId ℕ → ℕ
number l = leader_number l.term l.node_id

-- its node's id is a u64: only then are numbers ordered as leader ids are
abbrev pub IsNamed : LeaderId ℕ → Type 0
IsNamed l = l.node_id < 18446744073709551616

-- the number of an id's leader, 0 where there is none
abbrev pub last_number : Option (LogId ℕ) → ℕ
last_number None = 0
last_number (Some x) = number x.leader_id

abbrev pub IdNamed : Option (LogId ℕ) → Type 0
IdNamed None = Unit {0}
IdNamed (Some x) = IsNamed x.leader_id

abbrev pub image : Entry → IdealEntry
image e = record { leader = number e.log_id.leader_id; payload = e }

abbrev pub images : List Entry → List IdealEntry
images es = map image es

-- the groups of a membership, and the first of them
abbrev pub groups_in : Payload → List (List ℕ)
groups_in p = elim (members_of p) [ None ↦ [] | Some m ↦ m.groups ]

abbrev pub head_group : List (List ℕ) → List ℕ
head_group [] = []
head_group (g ∷ gs) = g

abbrev pub tail_groups : List (List ℕ) → List (List ℕ)
tail_groups [] = []
tail_groups (g ∷ gs) = gs

-- an entry's leader is named by a u64, and a membership has a voter group
pub record IsWellFormedEntry (s : Setup Entry) (e : Entry) : Type 0 where
  pub named : IsNamed e.log_id.leader_id
  pub groups : s.is_membership e ≡ true → 0 < length (groups_in e.payload)

abbrev pub EntriesFit : Setup Entry → List Entry → Type 0
EntriesFit s es = AllByRecursion (IsWellFormedEntry s) es

-- the machine's setup for this first membership, whose groups may change
abbrev pub setup_of : Members ℕ (Unit {0}) → Setup Entry
setup_of first = record {
  is_membership = λ e. is_some (members_of e.payload);
  first_group = λ e. head_group (groups_in e.payload);
  other_groups = λ e. tail_groups (groups_in e.payload);
  groups_kept = false;
  owner = leader_node;
  first_payload = first_entry first;
}
