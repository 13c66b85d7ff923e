-- What comes of what is received doesn't depend on the pieces in which it comes.
use Rattle.std.specs.Prelude.{◌≡◌, ◌≢◌, ℕ, ◌||◌, Bool, true, false, List, [], ◌∷◌, ◌++◌, Ok, Err, refl, if◌then◌else◌}
use Rattle.std.proofs.Common.{ap, sym, ◌∙◌}
use Rattle.raft_resp.specs.Requests.{Found, request_at}
use Rattle.raft_resp.specs.Written.{RequestsComeInPieces}
use Rattle.raft_resp.specs.Written as written
use Rattle.raft_resp.specs.declared.error.Stop.TheVariants as stop
use Rattle.raft_connection.specs.declared.connection.Connection.{Connection}
use Rattle.raft_connection.specs.declared.connection.Step.{Step}
use Rattle.raft_connection.specs.declared.connection.Step.TheVariants.{Waits}
use Rattle.raft_connection.specs.declared.limits.Settings.{Settings}
use Rattle.raft_connection.specs.declared.session.Outcome.{Outcome}
use Rattle.raft_connection.specs.declared.session.Outcome.TheVariants.{Answers, Asks}
use Rattle.raft_connection.specs.declared.session.Session.{Session}
use Rattle.raft_connection.specs.Connection.{with_more, step, found, came, is_waiting}
use Rattle.raft_connection.specs.Laws.{StepsTakePieces, more_to}
use Rattle.raft_connection.specs.Run.{outcome}
use Rattle.raft_connection.specs.Words.{Word}

-- a step's result, as it is with more bytes
abbrev and_more : List ℕ → Connection × Step → Connection × Step
and_more more x = (more_to x.0 more, x.1)

neither : (a b : Bool) → (a || b) ≡ false → a ≡ false
neither true b h = h
neither false b h = refl

came_more : (c : Connection) (more : List ℕ) (r : Session × Outcome) → came (with_more c more) r ≡ and_more more (came c r)
came_more c more r = go r.0.is_closing r.1 refl
  where
    go : (b : Bool) (o : Outcome) → r.0.is_closing ≡ b → came (with_more c more) (r.0, o) ≡ and_more more (came c (r.0, o))
    go true (Answers x) e = rw e refl
    go true (Asks w) e = rw e refl
    go false (Answers x) e = rw e refl
    go false (Asks w) e = rw e refl

module _ (settings : Settings) (now : ℕ) (c : Connection) (more : List ℕ) where
  words_more : (words : List Word) (rest : List ℕ) → c.session.is_closing ≡ false → found settings now (with_more c more) (Ok (words, rest ++ more)) ≡ and_more more (found settings now c (Ok (words, rest)))
  words_more [] rest e = rw e refl
  words_more (name ∷ args) rest e = came_more (record c { received = rest }) more (outcome settings c.session now name args)

  found_more : (r : Found (List Word)) → c.session.is_closing ≡ false → r ≢ Err stop.Unfinished → (found settings now c r).1 ≢ Waits
      → found settings now (with_more c more) (written.with_more more r) ≡ and_more more (found settings now c r)
  found_more (Ok x) e n h = words_more x.0 x.1 e
  found_more (Err stop.Unfinished) e n h = absurd (n refl)
  found_more (Err stop.OutOfMemory) e n h = absurd (h refl)
  found_more (Err (stop.Malformed fault)) e n h = refl

  -- a step that reads a request, once it is known what stands at the front
  step_more : (r : Found (List Word)) (b : Bool) → is_waiting settings.limits c ≡ b → request_at settings.limits.request c.received ≡ r → RequestsComeInPieces
      → (if b then (c, Waits) else found settings now c r).1 ≢ Waits
      → (if b then (with_more c more, Waits) else found settings now (with_more c more) (request_at settings.limits.request (c.received ++ more))) ≡ and_more more (if b then (c, Waits) else found settings now c r)
  step_more r true w q pieces h = absurd (h refl)
  step_more r false w q pieces h =
      let open_still : c.session.is_closing ≡ false = neither c.session.is_closing _ w in
      let whole : r ≢ Err stop.Unfinished = λ u. h (ap (λ (x : Found (List Word)). (found settings now c x).1) u) in
      let same : request_at settings.limits.request (c.received ++ more) ≡ written.with_more more r = pieces settings.limits.request c.received more (λ u. whole (sym q ∙ u)) ∙ ap (written.with_more more) q in
      ap (found settings now (with_more c more)) same ∙ found_more r open_still whole h

pub take_pieces : RequestsComeInPieces → StepsTakePieces
unfolding step
take_pieces pieces settings now c more h = step_more settings now c more (request_at settings.limits.request c.received) (is_waiting settings.limits c) refl refl pieces h
