-- What requests ask for (Redis 7.0, documentation of commands).
use Rattle.std.specs.Prelude.{ℕ, List, ◌∷◌, Option, Some, None, Result, Ok, Err, ℤ, pos, negsuc, neg_ℤ}
use Rattle.std.specs.Option.{ok_or}
use Rattle.raft_machine.specs.declared.command.Query.{Query}
use Rattle.raft_machine.specs.declared.command.Query.TheVariants as query
use Rattle.raft_machine.specs.declared.command.Command.{Command}
use Rattle.raft_machine.specs.declared.command.Command.TheVariants as command
use Rattle.raft_machine.specs.declared.command.Condition.TheVariants.{Always, IfAbsent}
use Rattle.raft_machine.specs.declared.command.Expiry.TheVariants.{Never}
use Rattle.raft_machine.specs.declared.command.SetReply.TheVariants.{Old, Flag}
use Rattle.raft_machine.specs.declared.command.SetOptions.{SetOptions}
use Rattle.raft_requests.specs.declared.command_name.CommandName.{CommandName}
use Rattle.raft_requests.specs.declared.command_name.CommandName.TheVariants.{Append, CompareAndSet, DbSize, Decr, DecrBy, Del, Exists, Expire, ExpireAt, ExpireTime, Get, GetDel, GetSet, Incr, IncrBy, MGet, MSet, Persist, PExpire, PExpireAt, PExpireTime, PTtl, Scan, Set, SetNx, StrLen, Ttl}
use Rattle.raft_requests.specs.declared.refusal.Refusal.{Refusal}
use Rattle.raft_requests.specs.declared.refusal.Refusal.TheVariants.{UnknownCommand, WrongNumberOfArguments, DecrementOverflow, InvalidExpireTime}
use Rattle.raft_requests.specs.declared.request.Parsed.{Parsed}
use Rattle.raft_requests.specs.declared.request.Parsed.TheVariants as parsed
use Rattle.raft_requests.specs.declared.times.TimeForm.{TimeForm}
use Rattle.raft_requests.specs.declared.times.TimeForm.TheVariants.{Seconds, Milliseconds, UnixSeconds, UnixMilliseconds}
use Rattle.raft_requests.specs.Refusals.{◌>>=◌}
use Rattle.raft_requests.specs.Names.{named}
use Rattle.raft_requests.specs.Words.{Word, none, one, two, three, some, pairs, number, unknown}
use Rattle.raft_requests.specs.Times.{fitting, moment_of}
use Rattle.raft_requests.specs.Options.{options}
use Rattle.raft_requests.specs.ExpireOptions.{expire_condition}
use Rattle.raft_requests.specs.ScanOptions.{cursor, unsaid, scan_options}

abbrev pub asks : Query → Result Parsed Refusal
asks q = Ok (parsed.Query q)

abbrev pub does : Command → Result Parsed Refusal
does c = Ok (parsed.Command c)

-- a value that doesn't expire
abbrev pub setting : CommandName → List Word → SetOptions → Result Parsed Refusal
setting name args options = two name args >>= λ kv. does (command.Set kv.0 kv.1 options)

abbrev pub set_of : ℕ → List Word → Result Parsed Refusal
set_of now (k ∷ v ∷ words) = options now words >>= λ options. does (command.Set k v options)
set_of now _ = Err (WrongNumberOfArguments Set)

abbrev pub compare_and_set : List Word → Result Parsed Refusal
compare_and_set args = three CompareAndSet args >>= λ kev. does (command.CompareAndSet kev.0 (Some kev.1) kev.2)

abbrev pub count : CommandName → List Word → ℤ → Result Parsed Refusal
count name args by = one name args >>= λ k. does (command.Increment k by)

abbrev pub increment : List Word → Result Parsed Refusal
increment args = two IncrBy args >>= λ kn. number kn.1 >>= λ by. does (command.Increment kn.0 by)

-- the least number has no opposite
abbrev pub decrement : List Word → Result Parsed Refusal
decrement args = two DecrBy args >>= λ kn. number kn.1 >>= λ by. ok_or (fitting (neg_ℤ by)) DecrementOverflow >>= λ by. does (command.Increment kn.0 by)

abbrev pub moment_at : CommandName → TimeForm → ℕ → Word → Result ℕ Refusal
moment_at name form now w = number w >>= λ n. ok_or (moment_of form now n) (InvalidExpireTime name)

abbrev pub expire_of : CommandName → TimeForm → ℕ → List Word → Result Parsed Refusal
expire_of name form now (k ∷ w ∷ words) = expire_condition words >>= λ condition. moment_at name form now w >>= λ at. does (command.Expire k at condition)
expire_of name form now _ = Err (WrongNumberOfArguments name)

abbrev pub scan_of : List Word → Result Parsed Refusal
scan_of (w ∷ words) = cursor w >>= λ n. scan_options (unsaid n) words >>= λ options. asks (query.Scan options)
scan_of _ = Err (WrongNumberOfArguments Scan)

-- what the words behind each name ask for
unfoldable pub meaning : CommandName → ℕ → List Word → Result Parsed Refusal
meaning Append now args = two Append args >>= λ kv. does (command.Append kv.0 kv.1)
meaning CompareAndSet now args = compare_and_set args
meaning DbSize now args = none DbSize args >>= λ _. asks query.Size
meaning Decr now args = count Decr args (negsuc 0)
meaning DecrBy now args = decrement args
meaning Del now args = some Del args >>= λ ks. does (command.Delete ks)
meaning Exists now args = some Exists args >>= λ ks. asks (query.Exists ks)
meaning Expire now args = expire_of Expire Seconds now args
meaning ExpireAt now args = expire_of ExpireAt UnixSeconds now args
meaning ExpireTime now args = one ExpireTime args >>= λ k. asks (query.DeadlineSeconds k)
meaning Get now args = one Get args >>= λ k. asks (query.Get k)
meaning GetDel now args = one GetDel args >>= λ k. does (command.Take k)
meaning GetSet now args = setting GetSet args (record { condition = Always; expiry = Never; reply = Old })
meaning Incr now args = count Incr args (pos 1)
meaning IncrBy now args = increment args
meaning MGet now args = some MGet args >>= λ ks. asks (query.GetMany ks)
meaning MSet now args = pairs MSet args >>= λ kvs. does (command.SetMany kvs)
meaning Persist now args = one Persist args >>= λ k. does (command.Persist k)
meaning PExpire now args = expire_of PExpire Milliseconds now args
meaning PExpireAt now args = expire_of PExpireAt UnixMilliseconds now args
meaning PExpireTime now args = one PExpireTime args >>= λ k. asks (query.Deadline k)
meaning PTtl now args = one PTtl args >>= λ k. asks (query.Remaining k)
meaning Scan now args = scan_of args
meaning Set now args = set_of now args
meaning SetNx now args = setting SetNx args (record { condition = IfAbsent; expiry = Never; reply = Flag })
meaning StrLen now args = one StrLen args >>= λ k. asks (query.Length k)
meaning Ttl now args = one Ttl args >>= λ k. asks (query.RemainingSeconds k)

abbrev pub of_named : Option CommandName → ℕ → Word → List Word → Result Parsed Refusal
of_named (Some name) now word args = meaning name now args
of_named None now word args = Err (UnknownCommand (unknown word args))

-- what a request's words ask for: a command's name, and its arguments
unfoldable pub request : ℕ → Word → List Word → Result Parsed Refusal
request now word args = of_named (named word) now word args
