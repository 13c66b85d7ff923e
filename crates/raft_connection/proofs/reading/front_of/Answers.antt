use Rattle.std.proofs.Common.{◌≡◌, ◌-◌, ℕ, List, Ok, length, drop, arith, sym, ap, ◌∙◌}
use Rattle.std.proofs.lemmas.List.{length-drop}
use Rattle.raft_resp.proofs.Behind.{left_is_end}
use Rattle.raft_resp.specs.Reading.{texts}
use Rattle.raft_resp.specs.Requests.{Found, request_at}
use Rattle.raft_connection.proofs.reading.front_of.Goals as goal

abbrev read : List (List ℕ) → List ℕ → Found (List (List ℕ))
read words rest = Ok (words, rest)

pub returns-in_ok-words-in-Ok-Some : goal.returns-in_ok-words-in-Ok-Some
returns-in_ok-words-in-Ok-Some c =
    let bytes = c.args.bytes.now in
    let rest = c.in-Ok-Some.request.rest.now in
    let words : c.in_ok-words-in-Ok-Some.words ≡ texts c.in-Ok-Some.request.words.items = c.in_ok-words-in-Ok-Some.ensures ∙ ap texts c.deref.ensures.value in
    let found : request_at c.args.limits.now bytes ≡ read (texts c.in-Ok-Some.request.words.items) rest = rw (c.in-Ok-Some.is, c.in-Ok-Some.field-0-is) at c.read_request.ensures in
    let end : rest ≡ drop (length bytes - length rest) bytes = left_is_end c.args.limits.now bytes (texts c.in-Ok-Some.request.words.items) rest found in
    let long : length rest ≡ length bytes - (length bytes - length rest) = ap length end ∙ length-drop (length bytes - length rest) bytes in
    (omega (arith, long), found ∙ (ap (λ ws. read ws rest) (sym words) ∙ ap (λ r. read c.in_ok-words-in-Ok-Some.words r) end))
