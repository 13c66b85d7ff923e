-- The slot of what a request asks: that of its first key, and 0 if it has none.
use Rattle.std.specs.Prelude.{ℕ, List, [], ◌∷◌}
use Rattle.raft_machine.specs.declared.command.Query as queries
use Rattle.raft_machine.specs.declared.command.Query.TheVariants as query
use Rattle.raft_machine.specs.declared.command.Command as commands
use Rattle.raft_machine.specs.declared.command.Command.TheVariants.{Read, Set, SetMany, CompareAndSet, Append, Increment, Delete, Take, Expire, Persist}
use Rattle.raft_connection.specs.declared.session.Work.{Work}
use Rattle.raft_connection.specs.declared.session.Work.TheVariants.{Query, Command, Transaction}
use Rattle.raft_connection.specs.HashSlot.{hash_slot}

abbrev pub first_slot : List (List ℕ) → ℕ
first_slot [] = 0
first_slot (k ∷ ks) = hash_slot k

abbrev pub first_pair_slot : List (List ℕ × List ℕ) → ℕ
first_pair_slot [] = 0
first_pair_slot (p ∷ ps) = hash_slot p.0

abbrev pub query_slot : queries.Query → ℕ
query_slot (query.Get k) = hash_slot k
query_slot (query.GetMany ks) = first_slot ks
query_slot (query.Exists ks) = first_slot ks
query_slot (query.Length k) = hash_slot k
query_slot query.Size = 0
query_slot (query.Remaining k) = hash_slot k
query_slot (query.RemainingSeconds k) = hash_slot k
query_slot (query.Deadline k) = hash_slot k
query_slot (query.DeadlineSeconds k) = hash_slot k
query_slot (query.Scan options) = 0

abbrev pub command_slot : commands.Command → ℕ
command_slot (Read q) = query_slot q
command_slot (Set k v options) = hash_slot k
command_slot (SetMany pairs) = first_pair_slot pairs
command_slot (CompareAndSet k expected v) = hash_slot k
command_slot (Append k more) = hash_slot k
command_slot (Increment k by) = hash_slot k
command_slot (Delete ks) = first_slot ks
command_slot (Take k) = hash_slot k
command_slot (Expire k t condition) = hash_slot k
command_slot (Persist k) = hash_slot k

abbrev pub first_command_slot : List commands.Command → ℕ
first_command_slot [] = 0
first_command_slot (c ∷ cs) = command_slot c

abbrev pub work_slot : Work → ℕ
work_slot (Query q) = query_slot q
work_slot (Command session c) = command_slot c
work_slot (Transaction session cs) = first_command_slot cs
