-- What the readers answer.
use Rattle.std.specs.Prelude.{◌≡◌, ℕ, List, map, Option, None, Some, Result, Ok, Err}
use Rattle.std.specs.Borrow.{Bor}
use Rattle.std.specs.Global.{Vec}
use Rattle.raft_resp.specs.declared.error.RequestError.{RequestError}
use Rattle.raft_resp.specs.declared.error.RequestError.TheVariants as refusals
use Rattle.raft_resp.specs.declared.error.Stop.{Stop}
use Rattle.raft_resp.specs.declared.error.Stop.TheVariants.{OutOfMemory, Unfinished, Malformed}
use Rattle.raft_resp.specs.declared.requests.Request.{Request}
use Rattle.raft_resp.specs.Requests.{Found}

-- the bytes of words
abbrev pub texts : List (Bor (List ℕ)) → List (List ℕ)
texts words = map (λ word. word.now) words

-- what a reader of bytes found, and what follows
abbrev pub field : Bor (List ℕ) × Bor (List ℕ) → List ℕ × List ℕ
field x = (x.0.now, x.1.now)

-- what a function answered, seen by view, is what stands there, unless memory runs out
abbrev pub Stops : {Y : Type 0} → Stop → Result Y Stop → Type 0
Stops OutOfMemory found = Unit {0}
Stops Unfinished found = found ≡ Err Unfinished
Stops (Malformed fault) found = found ≡ Err (Malformed fault)

abbrev pub Gives : {X Y : Type 0} → (X → Y) → Result X Stop → Result Y Stop → Type 0
Gives view (Ok x) found = found ≡ Ok (view x)
Gives view (Err e) found = Stops e found

-- a reader of requests answers the request that stands there, none if more bytes have to come, or what is wrong; unless
-- memory runs out
abbrev pub Answers : Result (Option Request) RequestError → Found (List (List ℕ)) → Type 0
Answers (Ok (Some r)) found = found ≡ Ok (texts r.words.items, r.rest.now)
Answers (Ok None) found = found ≡ Err Unfinished
Answers (Err refusals.OutOfMemory) found = Unit {0}
Answers (Err (refusals.Protocol fault)) found = found ≡ Err (Malformed fault)

-- what a reader of words found, and what follows
abbrev pub words_field : Vec (Bor (List ℕ)) × Bor (List ℕ) → List (List ℕ) × List ℕ
words_field x = (texts x.0.items, x.1.now)
