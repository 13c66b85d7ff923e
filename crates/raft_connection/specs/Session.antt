-- A session that begins.
use Rattle.std.specs.Prelude.{ℕ, Bool, false, []}
use Rattle.raft_resp.specs.declared.replies.Protocol.TheVariants.{Resp2}
use Rattle.raft_connection.specs.declared.session.Session.{Session}
use Rattle.raft_connection.specs.declared.session.Transaction.TheVariants.{Outside}

abbrev pub started : ℕ → Bool → Session
started id authenticated = record { id = id; protocol = Resp2; name = []; is_authenticated = authenticated; transaction = Outside; is_closing = false }
