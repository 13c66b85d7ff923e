use Rattle.std.specs.Prelude.{Option, List, [], ◌∷◌, ◌++◌, ℕ, Ok, map}
use Rattle.std.specs.Borrow.{Bor}
use Rattle.std.specs.Option.{option_map}
use Rattle.std.proofs.Common.{◌+◌, ◌-◌, ◌∙◌, ap, arith, drop, length, inl, inr}
use Rattle.std.proofs.lemmas.List.{map_push}
use Rattle.std.proofs.lemmas.Result.{err_from_is_err_and}
use Rattle.raft_frames.specs.Reading.{read_frames}
use Rattle.raft_frames.specs.declared.tail.Tail.{Tail}
use Rattle.raft_frames.proofs.ReadLemmas.{behind_all, read_frames-more, read_frames-all, read_frames-damaged}
use Rattle.raft_frames.proofs.reading.read_frames.Goals as goal
use Rattle.raft_frames.proofs.reading.read_frames.Goals.{else-loop-test, then-loop-test+in_ok-next+in-None}

pub returns-in_err-next : goal.returns-in_err-next
returns-in_err-next c =
    let p = err_from_is_err_and c.from_residual.result c.from_residual.ensures.1 in
    rw (p.1, p.2)
    (read_frames-damaged (length c.args.bytes.now - c.loop.counter) c.loop.tail c.loop.rest.now (map (λ (payload : Bor (List ℕ)). payload.now) c.loop.payloads.items)
    (read_frames (length c.args.bytes.now) c.args.start.now c.args.bytes.now) c.in_err-next.field-0.0 (omega arith) c.in_err-next.ensures.frame c.loop.invariant.read)

pub loop-preserved : goal.loop-preserved
loop-preserved c =
    let payload = c.in-Some.payload.now in
    let found = c.in_ok-next.ensures.frame ∙ ap (λ (o : Option (Bor (List ℕ))). Ok (option_map (λ (p : Bor (List ℕ)). p.now) o)) c.in-Some.is in
    let sum = rw c.in-Some.is at c.in_ok-next.ensures.sum in
    let seen : Bor (List ℕ) → List ℕ = λ p. p.now in
    let payloads = map seen c.loop.payloads.items in
    let all = read_frames (length c.args.bytes.now) c.args.start.now c.args.bytes.now in
    let left = length c.args.bytes.now - (c.loop.counter + 1) in
    let place = c.loop.tail.position + (12 + length payload) in
    let behind_it : Tail = record { seed = c.loop.tail.seed; position = place; sum = c.number_at.result } in
    record {
      place = omega (arith, c.split_at.ensures.back_len, c.loop.invariant.place);
      read =
          ap (λ (ps : List (List ℕ)). behind_all ps (read_frames left behind_it c.split_at.result.1.now)) (ap (map seen) c.in_ok-push-in-Some.ensures.items ∙ map_push seen c.loop.payloads.items c.in-Some.payload)
          ∙ (ap (λ (rest : List ℕ). behind_all (payloads ++ payload ∷ []) (read_frames left behind_it rest)) c.split_at.ensures.back
          ∙ (ap (λ (s : ℕ). behind_all (payloads ++ payload ∷ []) (read_frames left (record { seed = c.loop.tail.seed; position = place; sum = s }) (drop (12 + length payload) c.loop.rest.now)))
          (c.number_at.ensures ∙ sum)
          ∙ read_frames-more c.loop.counter (length c.args.bytes.now) c.loop.tail c.loop.rest.now payload payloads all (omega (arith, c.loop-test.true)) found c.loop.invariant.read));
    }

pub returns : goal.returns
returns c =
    let payloads = map (λ (payload : Bor (List ℕ)). payload.now) c.loop.payloads.items in
    let left = length c.args.bytes.now - c.loop.counter in
    let all = read_frames (length c.args.bytes.now) c.args.start.now c.args.bytes.now in
    elim c.loop-test.branch [
      | else-loop-test w ↦ read_frames-all left c.loop.tail c.loop.rest.now payloads all (inl (omega (arith, w.loop-test.false))) c.loop.invariant.read
      | then-loop-test+in_ok-next+in-None w ↦
          read_frames-all left c.loop.tail c.loop.rest.now payloads all
          (inr (w.in_ok-next.ensures.frame ∙ ap (λ (o : Option (Bor (List ℕ))). Ok (option_map (λ (p : Bor (List ℕ)). p.now) o)) w.in-None.is)) c.loop.invariant.read
    ]
