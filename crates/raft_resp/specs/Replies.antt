-- How replies are written (Redis' protocol specification, "RESP protocol description").
use Rattle.std.specs.Prelude.{ℕ, ℤ, ◌*◌, ◌==◌, ◌||◌, List, [], ◌∷◌, ◌++◌, length, map, Option, None, Some, codes, if◌then◌else◌}
use Rattle.std.specs.Fmt.{decimal, signed_decimal}
use Rattle.std.specs.List.{flat_map}
use Rattle.raft_machine.specs.declared.command.Page.{Page}
use Rattle.raft_machine.specs.declared.command.Reply.{Reply}
use Rattle.raft_machine.specs.declared.command.Reply.TheVariants as reply
use Rattle.raft_machine.specs.Failure.{text_of}
use Rattle.raft_resp.specs.declared.replies.Protocol.{Protocol}
use Rattle.raft_resp.specs.declared.replies.Protocol.TheVariants.{Resp2, Resp3}

-- the end of a line
abbrev pub end : List ℕ
end = 13 ∷ 10 ∷ []

-- a mark and a text on a line of their own
abbrev pub line : ℕ → List ℕ → List ℕ
line mark text = mark ∷ (text ++ end)

-- a text without ends of lines: spaces stand for them
abbrev pub on_one_line : List ℕ → List ℕ
on_one_line text = map (λ b. if b == 13 || b == 10 then 32 else b) text

-- `+`, a short text
abbrev pub simple : List ℕ → List ℕ
simple text = line 43 (on_one_line text)

-- `-`, an error's text
abbrev pub error : List ℕ → List ℕ
error text = line 45 (on_one_line text)

-- `:`, a number
abbrev pub integer : ℤ → List ℕ
integer n = line 58 (signed_decimal n)

-- a number that isn't below 0
abbrev pub count : ℕ → List ℕ
count n = line 58 (decimal n)

-- `$`, the number of bytes, and the bytes
abbrev pub bulk : List ℕ → List ℕ
bulk bytes = line 36 (decimal (length bytes)) ++ bytes ++ end

-- nothing: in version 2 bytes of length -1
abbrev pub null : Protocol → List ℕ
null Resp2 = codes "$-1" ++ end
null Resp3 = codes "_" ++ end

-- `*`, the number of elements, which follow
abbrev pub array : ℕ → List ℕ
array n = line 42 (decimal n)

-- `%`, the number of pairs, which follow, a key and its value each; in version 2 an array of keys and values
abbrev pub map_of : Protocol → ℕ → List ℕ
map_of Resp2 n = array (2 * n)
map_of Resp3 n = line 37 (decimal n)

-- a value, or none
abbrev pub value_bytes : Protocol → Option (List ℕ) → List ℕ
value_bytes p None = null p
value_bytes p (Some bytes) = bulk bytes

-- a cursor, and an array of keys
abbrev pub page_bytes : Page → List ℕ
page_bytes page = array 2 ++ bulk (decimal page.cursor) ++ array (length page.keys) ++ flat_map bulk page.keys

-- what the state machine answers
abbrev pub reply_bytes : Protocol → Reply → List ℕ
reply_bytes p reply.Done = simple (codes "OK")
reply_bytes p reply.Null = null p
reply_bytes p (reply.Integer n) = integer n
reply_bytes p (reply.Count n) = count n
reply_bytes p (reply.Bulk bytes) = bulk bytes
reply_bytes p (reply.Values values) = array (length values) ++ flat_map (value_bytes p) values
reply_bytes p (reply.Failed failure) = error (text_of failure)
reply_bytes p (reply.Scanned page) = page_bytes page
