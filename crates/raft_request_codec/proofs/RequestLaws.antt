-- The codec of requests is inverse to its writer.
use Rattle.std.proofs.Common.{ℕ, ◌≡◌, ◌<◌, eqb, List, ◌∷◌, ◌++◌, length, Ok, refl, ap, ◌∙◌, inl, inr, arith}
use Rattle.raft_codec.specs.Codec.{IsCodec, number, optional, list, pair, tag_at}
use Rattle.raft_codec.specs.CodecLaws.{Stands, bind_ok, chosen, tag_is, number_is, optional_is, list_is, pair_is, by_parts_is}
use Rattle.raft_machine.specs.declared.machine.Request.{Request}
use Rattle.raft_request_codec.specs.Commands.{command}
use Rattle.raft_request_codec.specs.Requests.{session, version, parts, request}
use Rattle.raft_request_codec.proofs.CommandLaws.{command_is}

session_is : IsCodec session
unfolding session
session_is = by_parts_is _ _ _ (λ s. refl) (λ p. refl) (pair_is number number number_is number_is)

parts_is : IsCodec parts
unfolding parts
parts_is = by_parts_is _ _ _ (λ r. refl) (λ p. refl)
    (pair_is (optional session) (pair number (list command)) (optional_is session session_is) (pair_is number (list command) number_is (list_is command command_is)))

request_some : (r : Request) → 0 < length (request.bytes r)
unfolding request
request_some r = omega arith

request_back : (r : Request) (rest : List ℕ) → request.fits r → request.read (request.bytes r ++ rest) ≡ Ok (r, rest)
unfolding request tag_at
request_back r rest f = parts_is.read_back r rest f

request_written : (front : List ℕ) (found : Request × List ℕ) → request.read front ≡ Ok found → Stands request front found
unfolding request
request_written front found e =
    let t = bind_ok (tag_at front) _ found e in
    elim (chosen (eqb t.0.0 version) _ _ _ t.2) [
      | inl k ↦
          let w = parts_is.written t.0.1 found k.1 in
          (w.0, tag_is front t.0 version t.1 k.0 ∙ ap (λ bs. version ∷ bs) w.1)
      | inr k ↦ absurd cc
    ]

pub request_is : IsCodec request
request_is = record { written = request_written; some = request_some; read_back = request_back }
