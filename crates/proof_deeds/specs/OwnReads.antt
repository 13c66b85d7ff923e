-- What a read's answer has of what its leader decided before it.
use Rattle.std.specs.Prelude.{ℕ, ◌≡◌, ◌≢◌, true, Contains, List, [], ◌∷◌, ◌++◌, Some}
use Rattle.std.specs.List.{AllByRecursion}
use Rattle.std.specs.Ordering.{nat_cmp}
use Rattle.raft_node.specs.raft_state.Fits.{is_within}
use Rattle.raft_node.specs.raft_store.declared.entry.Entry.{Entry}
use Rattle.raft_node.specs.raft_schedule.declared.event.Event.{Event}
use Rattle.raft_node.specs.raft_schedule.declared.event.EventKind.TheVariants as event
use Rattle.raft_node.specs.raft_schedule.declared.event.Start.{Start}
use Rattle.raft_node.specs.declared.given.Given.{Given}
use Rattle.raft_node.specs.raft_calls.declared.lead.Answer.{Answer}
use Rattle.raft_node.specs.declared.record.Decided.{Decided}
use Rattle.raft_node.specs.Runs.{world_after}
use Rattle.proof_deeds.specs.WorldLaws.{OfEachWorld}

-- an event doesn't start this node again
abbrev pub Leaves : ℕ → Event → Type 0
Leaves n e = (start : Start) → e.kind ≢ event.Restart n start

-- a leader of this node decided this
abbrev pub IsDecidedAt : ℕ → Decided (List Entry) → Type 0
IsDecidedAt n r = r.leader_id.node_id ≡ n

-- In a run, some events, of which only the first may start a node, are followed by one that records an answer to a read of it:
-- the answer is at or above, by id and by index, all that its leader id decided in those events (Raft paper, section 8). So it
-- is at or above all that its leader id decided since its node was last started, and in that very start.
abbrev pub ReadsSeeOwn : Given → List Event → Type 0
ReadsSeeOwn given all =
    (before since after : List Event) (first read : Event) → all ≡ before ++ (first ∷ (since ++ read ∷ after)) → (n : ℕ) → read.kind ≡ event.Read n → AllByRecursion (Leaves n) since
    → (a : Answer) → (world_after given (before ++ (first ∷ (since ++ read ∷ [])))).records.answers ≡ (world_after given (before ++ (first ∷ since))).records.answers ++ a ∷ []
    → (new : List (Decided (List Entry))) → (world_after given (before ++ (first ∷ since))).records.decided ≡ (world_after given before).records.decided ++ new
    → (r : Decided (List Entry)) → Contains new r → r.leader_id ≡ a.leader_id → is_within nat_cmp (Some r.log_id) a.log_id ≡ true

-- so it is in each run of a world
abbrev pub WorldsReadOwn : Type 0
WorldsReadOwn = OfEachWorld ReadsSeeOwn
