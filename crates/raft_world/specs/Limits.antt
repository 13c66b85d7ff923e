-- When a world is refused, and when an event is.
use Rattle.std.specs.Prelude.{ℕ, List, length, Option, Some, None, if◌then◌else◌, nat_lt, codes}
use Rattle.raft_node.specs.WellFormed.{has_twice, lacks_voters}
use Rattle.raft_world.specs.declared.error.WorldError.{WorldError}
use Rattle.raft_world.specs.declared.error.WorldError.TheVariants.{DuplicateId, TooManyNodes, NoVoters, LimitReached, OutOfMemory}

-- why no world is made with these ids and groups, in this order
abbrev pub refusals_of_new : List ℕ → List (List ℕ) → Option WorldError
refusals_of_new ids groups =
    if has_twice ids then Some DuplicateId
    else if nat_lt 16 (length ids) then Some TooManyNodes
    else if lacks_voters groups then Some NoVoters
    else None

-- an error's name
abbrev pub error_text : WorldError → List ℕ
error_text DuplicateId = codes "W1"
error_text TooManyNodes = codes "W2"
error_text NoVoters = codes "W3"
error_text LimitReached = codes "W4"
error_text OutOfMemory = codes "W5"
