-- What a connection answers itself, as bytes.
use Rattle.std.specs.Prelude.{ℕ, ℤ, pos, List, ◌++◌, codes}
use Rattle.raft_resp.specs.Replies.{simple, integer, count, bulk, null, array, map_of}
use Rattle.raft_resp.specs.declared.replies.Protocol.{Protocol}
use Rattle.raft_resp.specs.declared.replies.Protocol.TheVariants.{Resp2, Resp3}
use Rattle.raft_connection.specs.declared.response.Status as status_type
use Rattle.raft_connection.specs.declared.response.Status.TheVariants.{Done, Pong, Queued}
use Rattle.raft_connection.specs.declared.response.Status.TheVariants as status
use Rattle.raft_connection.specs.declared.response.Response.{Response}
use Rattle.raft_connection.specs.declared.response.Response.TheVariants.{Status, Bytes, Nothing, Number, NoItems, NoPairs, Greeting, Refused}
use Rattle.raft_connection.specs.Refusals.{refusal_bytes}

abbrev pub status_text : status_type.Status → List ℕ
status_text Done = codes "OK"
status_text Pong = codes "PONG"
status_text Queued = codes "QUEUED"
status_text status.Reset = codes "RESET"

abbrev pub version_of : Protocol → ℤ
version_of Resp2 = pos 2
version_of Resp3 = pos 3

-- HELLO's answer (Redis, helloCommand): of the server,
abbrev pub server_bytes : List ℕ
server_bytes = (bulk (codes "server") ++ bulk (codes "redis")) ++ (bulk (codes "version") ++ bulk (codes "7.0.15"))

-- of the connection,
abbrev pub client_bytes : Protocol → ℕ → List ℕ
client_bytes p id = bulk (codes "proto") ++ integer (version_of p) ++ bulk (codes "id") ++ count id

-- and of its part in a cluster
abbrev pub greeting_bytes : Protocol → ℕ → List ℕ
greeting_bytes p id =
    map_of p 7 ++ server_bytes ++ client_bytes p id ++ (bulk (codes "mode") ++ bulk (codes "standalone")) ++ (bulk (codes "role") ++ bulk (codes "master"))
    ++ bulk (codes "modules") ++ array 0

abbrev pub response_bytes : Protocol → Response → List ℕ
response_bytes p (Status s) = simple (status_text s)
response_bytes p (Bytes bytes) = bulk bytes
response_bytes p Nothing = null p
response_bytes p (Number n) = count n
response_bytes p NoItems = array 0
response_bytes p NoPairs = map_of p 0
response_bytes p (Greeting id) = greeting_bytes p id
response_bytes p (Refused refusal) = refusal_bytes refusal
