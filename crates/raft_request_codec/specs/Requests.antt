-- Requests as bytes: what an entry of the log holds.
use Rattle.std.specs.Prelude.{ℕ, ◌==◌, length, ◌∷◌, Err, if◌then◌else◌}
use Rattle.raft_codec.specs.declared.error.DecodeError.TheVariants.{Malformed}
use Rattle.raft_codec.specs.declared.error.Fault.TheVariants.{UnknownVersion}
use Rattle.raft_codec.specs.Codec.{Codec, ◌>>=◌, number, optional, list, pair, by_parts, tag_at}
use Rattle.raft_machine.specs.declared.machine.Request.{Request}
use Rattle.raft_machine.specs.declared.machine.Session.{Session}
use Rattle.raft_request_codec.specs.Commands.{command}

-- a client, and its request's number
unfoldable pub session : Codec Session
session = by_parts (λ s. (s.id, s.number)) (λ p. record { id = p.0; number = p.1 }) (pair number number)

abbrev pub version : ℕ
version = 1

unfoldable pub parts : Codec Request
parts = by_parts
    (λ r. (r.session, (r.moment, r.commands)))
    (λ p. record { session = p.0; moment = p.1.0; commands = p.1.1 })
    (pair (optional session) (pair number (list command)))

-- the version of the form, and the fields
unfoldable pub request : Codec Request
request = record {
  fits = parts.fits;
  bytes = λ r. version ∷ parts.bytes r;
  read = λ front. do
    tag ← tag_at front
    if tag.0 == version then parts.read tag.1 else Err (Malformed UnknownVersion (length front));
}
