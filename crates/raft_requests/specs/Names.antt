-- The names of commands (Redis 7.0, documentation of commands; `cas` is this service's own).
use Rattle.std.specs.Prelude.{ℕ, Bool, List, [], ◌∷◌, Option, codes, find}
use Rattle.std.specs.Str.{str_eq_ignore_ascii_case}
use Rattle.raft_requests.specs.declared.command_name.CommandName.{CommandName}
use Rattle.raft_requests.specs.declared.command_name.CommandName.TheVariants.{Append, CompareAndSet, DbSize, Decr, DecrBy, Del, Exists, Expire, ExpireAt, ExpireTime, Get, GetDel, GetSet, Incr, IncrBy, MGet, MSet, Persist, PExpire, PExpireAt, PExpireTime, PTtl, Scan, Set, SetNx, StrLen, Ttl}

abbrev pub text_of : CommandName → List ℕ
text_of Append = codes "append"
text_of CompareAndSet = codes "cas"
text_of DbSize = codes "dbsize"
text_of Decr = codes "decr"
text_of DecrBy = codes "decrby"
text_of Del = codes "del"
text_of Exists = codes "exists"
text_of Expire = codes "expire"
text_of ExpireAt = codes "expireat"
text_of ExpireTime = codes "expiretime"
text_of Get = codes "get"
text_of GetDel = codes "getdel"
text_of GetSet = codes "getset"
text_of Incr = codes "incr"
text_of IncrBy = codes "incrby"
text_of MGet = codes "mget"
text_of MSet = codes "mset"
text_of Persist = codes "persist"
text_of PExpire = codes "pexpire"
text_of PExpireAt = codes "pexpireat"
text_of PExpireTime = codes "pexpiretime"
text_of PTtl = codes "pttl"
text_of Scan = codes "scan"
text_of Set = codes "set"
text_of SetNx = codes "setnx"
text_of StrLen = codes "strlen"
text_of Ttl = codes "ttl"

abbrev pub all_names : List CommandName
all_names =
    Append ∷ CompareAndSet ∷ DbSize ∷ Decr ∷ DecrBy ∷ Del ∷ Exists ∷ Expire ∷ ExpireAt ∷ ExpireTime ∷ Get ∷ GetDel ∷ GetSet
    ∷ Incr ∷ IncrBy ∷ MGet ∷ MSet ∷ Persist ∷ PExpire ∷ PExpireAt ∷ PExpireTime ∷ PTtl ∷ Scan ∷ Set ∷ SetNx ∷ StrLen ∷ Ttl ∷ []

-- whether a word is a command's name, in any case
abbrev pub is_named : List ℕ → CommandName → Bool
is_named word name = str_eq_ignore_ascii_case (text_of name) word

-- the command that a word names
unfoldable pub named : List ℕ → Option CommandName
named word = find (is_named word) all_names
