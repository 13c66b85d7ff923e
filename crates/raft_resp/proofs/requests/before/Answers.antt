use Rattle.std.specs.Prelude.{ℕ, ◌==◌, List, length, position, take, drop, Ok}
use Rattle.std.proofs.Common.{ap, refl, sym, ◌∙◌}
use Rattle.std.proofs.lemmas.Bool.{le-ltb, lt-ltb}
use Rattle.std.proofs.lemmas.List.{drop-drop}
use Rattle.raft_resp.specs.Requests.{Found}
use Rattle.raft_resp.proofs.Loops.{before_is}
use Rattle.raft_resp.proofs.requests.before.Goals as goal

pub returns-in-Some : goal.returns-in-Some
returns-in-Some c =
    let found : List ℕ → List ℕ → Found (List ℕ) = λ text rest. Ok (text, rest) in
    before_is c.args.mark c.args.long c.args.bytes.now _ (sym (ap (position (λ b. b == c.args.mark)) c.first.ensures.first) ∙ (sym c.place_of.ensures.place ∙ c.in-Some.is))
    ∙ (ap (found (take c.in-Some.len c.args.bytes.now)) (sym (drop-drop 1 c.in-Some.len c.args.bytes.now) ∙ (ap (drop 1) (sym c.split_at.ensures.back) ∙ sym c.split_at-in-Some.ensures.back))
    ∙ ap (λ text. found text c.split_at-in-Some.result.1.now) (sym c.split_at.ensures.front))

pub returns-in-None : goal.returns-in-None
returns-in-None c =
    before_is c.args.mark c.args.long c.args.bytes.now _ (sym (ap (position (λ b. b == c.args.mark)) c.first.ensures.first) ∙ (sym c.place_of.ensures.place ∙ c.in-None.is))
    ∙ rw (lt-ltb 65536 (length c.args.bytes.now) c.if-bytes-gt-MAX_LINE.true) refl

pub returns-in-None-2 : goal.returns-in-None-2
returns-in-None-2 c =
    before_is c.args.mark c.args.long c.args.bytes.now _ (sym (ap (position (λ b. b == c.args.mark)) c.first.ensures.first) ∙ (sym c.place_of.ensures.place ∙ c.in-None.is))
    ∙ rw (le-ltb 65536 (length c.args.bytes.now) c.if-bytes-gt-MAX_LINE.false) refl
