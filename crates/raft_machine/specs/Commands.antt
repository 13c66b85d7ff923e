-- What each command does and answers (Redis' documentation of commands).
use Rattle.std.specs.Prelude.{ℕ, ◌+◌, ◌-◌, ◌/◌, ◌^◌, Bool, true, false, not, is_some, List, [], ◌∷◌, ◌++◌, length, map, count_by, Option, Some, None, Result, Ok, Err, option_map, unwrap_or, nat_lt, pos, negsuc, ℤ, ◌+ℤ◌, if◌then◌else◌}
use Rattle.std.specs.Fmt.{signed_decimal}
use Rattle.std.specs.Str.{bytes_eq}
use Rattle.std.specs.Option.{option_eq, option_and_then}
use Rattle.std.specs.FinMap as keys
use Rattle.raft_machine.specs.declared.stored.Stored.{Stored}
use Rattle.raft_machine.specs.declared.command.Query.{Query}
use Rattle.raft_machine.specs.declared.command.Query.TheVariants.{Get, GetMany, Exists, Length, Size, Remaining, RemainingSeconds, Deadline, DeadlineSeconds, Scan}
use Rattle.raft_machine.specs.declared.command.Condition.{Condition}
use Rattle.raft_machine.specs.declared.command.Condition.TheVariants.{Always, IfAbsent, IfPresent}
use Rattle.raft_machine.specs.declared.command.ExpireCondition.{ExpireCondition}
use Rattle.raft_machine.specs.declared.command.ExpireCondition.TheVariants as expire_condition
use Rattle.raft_machine.specs.declared.command.Expiry.{Expiry}
use Rattle.raft_machine.specs.declared.command.Expiry.TheVariants.{Never, Keep, At}
use Rattle.raft_machine.specs.declared.command.SetReply.{SetReply}
use Rattle.raft_machine.specs.declared.command.SetReply.TheVariants.{Status, Old, Flag}
use Rattle.raft_machine.specs.declared.command.SetOptions.{SetOptions}
use Rattle.raft_machine.specs.declared.command.Command.{Command}
use Rattle.raft_machine.specs.declared.command.Command.TheVariants.{Read, Set, SetMany, CompareAndSet, Append, Increment, Delete, Take, Expire, Persist}
use Rattle.raft_machine.specs.declared.command.Failure.{Failure}
use Rattle.raft_machine.specs.declared.command.Failure.TheVariants.{NotAnInteger, Overflow, TooLong}
use Rattle.raft_machine.specs.declared.command.Reply.{Reply}
use Rattle.raft_machine.specs.declared.command.Reply.TheVariants.{Done, Null, Integer, Count, Bulk, Values, Failed, Scanned}
use Rattle.raft_machine.specs.Numbers.{integer_of}
use Rattle.raft_machine.specs.Scans.{scan}
use Rattle.raft_machine.specs.Space.{Map, Space, deadline_of, put, without}

abbrev pub value_of : Map → List ℕ → Option (List ℕ)
value_of m k = option_map (λ s. s.bytes) (keys.get m k)

-- a value that expires then, if ever
abbrev pub stored : List ℕ → Option ℕ → Stored
stored bytes expires = record { bytes = bytes; expires = expires }

-- ---- what reads

abbrev pub bulk : Option (List ℕ) → Reply
bulk None = Null
bulk (Some bytes) = Bulk bytes

-- how long after a moment it expires
abbrev pub remaining : (ℕ → ℕ) → ℕ → Option Stored → Reply
remaining unit from None = Integer (negsuc 1)
remaining unit from (Some s) = unwrap_or (option_map (λ t. Count (unit (t - from))) s.expires) (Integer (negsuc 0))

-- to the nearest second
abbrev pub seconds : ℕ → ℕ
seconds milliseconds = (milliseconds + 500) / 1000

unfoldable pub answer : Space → Query → Reply
answer s (Get k) = bulk (value_of s.map k)
answer s (GetMany ks) = Values (map (value_of s.map) ks)
answer s (Exists ks) = Count (count_by (keys.contains_key s.map) ks)
answer s (Length k) = Count (length (unwrap_or (value_of s.map k) []))
answer s Size = Count (keys.len s.map)
answer s (Remaining k) = remaining (λ n. n) s.moment (keys.get s.map k)
answer s (RemainingSeconds k) = remaining seconds s.moment (keys.get s.map k)
answer s (Deadline k) = remaining (λ n. n) 0 (keys.get s.map k)
answer s (DeadlineSeconds k) = remaining seconds 0 (keys.get s.map k)
answer s (Scan options) = Scanned (scan (keys.keys s.map) options)

-- ---- what sets

abbrev pub meets : Condition → Bool → Bool
meets Always there = true
meets IfAbsent there = not there
meets IfPresent there = there

abbrev pub expires_at : Expiry → Option ℕ → Option ℕ
expires_at Never old = None
expires_at Keep old = old
expires_at (At t) old = Some t

abbrev pub flag : Bool → Reply
flag done = Count (if done then 1 else 0)

abbrev pub told : SetReply → Bool → Option (List ℕ) → Reply
told Status done old = if done then Done else Null
told Old done old = bulk old
told Flag done old = flag done

-- when a key expires that is set, and what is told of it, if this was stored there
abbrev pub expires_with : SetOptions → Option Stored → Option ℕ
expires_with options old = expires_at options.expiry (option_and_then (λ s. s.expires) old)

abbrev pub told_with : SetOptions → Bool → Option Stored → Reply
told_with options done old = told options.reply done (option_map (λ s. s.bytes) old)

unfoldable pub set : Space → List ℕ → List ℕ → SetOptions → Space × Reply
set s k v options =
    let done = meets options.condition (keys.contains_key s.map k) in
    let old = keys.get s.map k in
    (if done then put s k (stored v (expires_with options old)) else s, told_with options done old)

-- SET with no options
abbrev pub plainly : SetOptions
plainly = record { condition = Always; expiry = Never; reply = Status }

abbrev pub set_all : Space → List (List ℕ × List ℕ) → Space
set_all s [] = s
set_all s (p ∷ ps) = set_all (put s p.0 (stored p.1 None)) ps

unfoldable pub compare_and_set : Space → List ℕ → Option (List ℕ) → List ℕ → Space × Reply
compare_and_set s k expected v =
    let done = option_eq bytes_eq (value_of s.map k) expected in
    (if done then put s k (stored v None) else s, flag done)

-- Redis, proto-max-bulk-len
abbrev pub longest : ℕ
longest = 536870912

unfoldable pub append : Space → List ℕ → List ℕ → Space × Reply
append s k more =
    let bytes = unwrap_or (value_of s.map k) [] ++ more in
    if nat_lt longest (length bytes) then (s, Failed TooLong) else (put s k (stored bytes (deadline_of s.map k)), Count (length bytes))

abbrev pub fits : ℤ → Bool
fits (pos n) = nat_lt n (2 ^ 63)
fits (negsuc n) = nat_lt n (2 ^ 63)

-- a key that there isn't counts as 0
abbrev pub number_of : Option (List ℕ) → Option ℤ
number_of None = Some (pos 0)
number_of (Some bytes) = integer_of bytes

abbrev pub sum_of : Option ℤ → ℤ → Result ℤ Failure
sum_of None by = Err NotAnInteger
sum_of (Some n) by = if fits (n +ℤ by) then Ok (n +ℤ by) else Err Overflow

-- what adds to the number that a value is leaves of it
abbrev pub added : Stored → Result ℤ Failure → Stored
added s (Ok n) = stored (signed_decimal n) s.expires
added s (Err failure) = s

-- the sum of the number at a key and another one, if there is such a key
abbrev pub sum_at : Map → List ℕ → ℤ → Option (Result ℤ Failure)
sum_at m k by = option_map (λ s. sum_of (integer_of s.bytes) by) (keys.get m k)

-- the keys after that
abbrev pub added_at : Map → List ℕ → Option (Result ℤ Failure) → Map
added_at m k None = m
added_at m k (Some (Ok n)) = keys.insert m k (stored (signed_decimal n) (deadline_of m k))
added_at m k (Some (Err failure)) = m

abbrev pub counted : Space → List ℕ → Result ℤ Failure → Space × Reply
counted s k (Ok n) = (put s k (stored (signed_decimal n) (deadline_of s.map k)), Integer n)
counted s k (Err failure) = (s, Failed failure)

unfoldable pub increment : Space → List ℕ → ℤ → Space × Reply
increment s k by = counted s k (sum_of (number_of (value_of s.map k)) by)

-- ---- what removes

-- the keys that there were count
abbrev pub delete : Space → List (List ℕ) → Space × ℕ
delete s [] = (s, 0)
delete s (k ∷ ks) =
    let rest = delete (without s k) ks in
    (rest.0, (if keys.contains_key s.map k then 1 else 0) + rest.1)

unfoldable pub take : Space → List ℕ → Space × Reply
take s k = (without s k, bulk (value_of s.map k))

-- ---- what lets expire

abbrev pub expiring : Space → List ℕ → Option ℕ → Option (List ℕ) → Space × Reply
expiring s k expires None = (s, flag false)
expiring s k expires (Some bytes) = (put s k (stored bytes expires), flag true)

-- A key that doesn't expire counts as one that expires after each moment (Redis, EXPIRE).
abbrev pub allows : ExpireCondition → Option ℕ → ℕ → Bool
allows expire_condition.Always old t = true
allows expire_condition.IfPersistent old t = not (is_some old)
allows expire_condition.IfVolatile old t = is_some old
allows expire_condition.IfLater None t = false
allows expire_condition.IfLater (Some u) t = nat_lt u t
allows expire_condition.IfEarlier None t = true
allows expire_condition.IfEarlier (Some u) t = nat_lt t u
allows expire_condition.IfVolatileAndEarlier None t = false
allows expire_condition.IfVolatileAndEarlier (Some u) t = nat_lt t u

unfoldable pub expire : Space → List ℕ → ℕ → ExpireCondition → Space × Reply
expire s k t condition = if allows condition (deadline_of s.map k) t then expiring s k (Some t) (value_of s.map k) else (s, flag false)

-- nothing, unless the key would expire
unfoldable pub persist : Space → List ℕ → Space × Reply
persist s k = if is_some (deadline_of s.map k) then expiring s k None (value_of s.map k) else (s, flag false)

-- ---- one command, and all of them with nothing between

unfoldable pub run : Space → Command → Space × Reply
run s (Read query) = (s, answer s query)
run s (Set k v options) = set s k v options
run s (SetMany pairs) = (set_all s pairs, Done)
run s (CompareAndSet k expected v) = compare_and_set s k expected v
run s (Append k more) = append s k more
run s (Increment k by) = increment s k by
run s (Delete ks) = let deleted = delete s ks in (deleted.0, Count deleted.1)
run s (Take k) = take s k
run s (Expire k t condition) = expire s k t condition
run s (Persist k) = persist s k

abbrev pub run_all : Space → List Command → Space × List Reply
run_all s [] = (s, [])
run_all s (c ∷ cs) =
    let first = run s c in
    let rest = run_all first.0 cs in
    (rest.0, first.1 ∷ rest.1)
