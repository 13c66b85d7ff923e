-- Words that were read, before those that are left.
use Rattle.std.specs.Prelude.{ℕ, ◌≡◌, ◌<◌, ◌+◌, ◌-◌, ◌==◌, Bool, true, false, filter, length, nat_lt, List, [], ◌∷◌, ◌++◌, take, position, Option, Ok, Err, refl}
use Rattle.std.specs.Borrow.{Bor}
use Rattle.std.proofs.Common.{cond, suc, arith, ap, sym, ◌∙◌}
use Rattle.std.proofs.lemmas.List.{append_assoc}
use Rattle.raft_resp.specs.declared.error.Fault.{Fault}
use Rattle.raft_resp.specs.declared.error.Stop.{Stop}
use Rattle.raft_resp.specs.declared.error.Stop.TheVariants.{OutOfMemory, Unfinished, Malformed}
use Rattle.raft_resp.specs.Reading.{Stops, texts}
use Rattle.raft_resp.specs.Requests.{Found, ◌>>=◌, before, max_line, parted, word_at, words_at}

-- these words, and then what is found
abbrev pub with_front : List (List ℕ) → Found (List (List ℕ)) → Found (List (List ℕ))
with_front front found = found >>= λ x. Ok (front ++ x.0, x.1)

-- what stands before the end of a line, by its place
pub before_is : (mark : ℕ) (long : Fault) (bytes : List ℕ) (o : Option ℕ) → position (λ b. b == mark) (take (max_line + 1) bytes) ≡ o → before mark long bytes ≡ parted long bytes o
unfolding before
before_is mark long bytes o e = ap (parted long bytes) e

-- one word more
pub words-more : (most count i : ℕ) (rest behind word : List ℕ) (front : List (List ℕ)) (all : Found (List (List ℕ))) → i < count → word_at most rest ≡ Ok (word, behind)
    → with_front front (words_at most (count - i) rest) ≡ all → with_front (front ++ word ∷ []) (words_at most (count - (i + 1)) behind) ≡ all
words-more most count i rest behind word front all l e h = go (count - (i + 1)) (omega arith) ∙ h
  where
    joined : (r : Found (List (List ℕ))) → with_front (front ++ word ∷ []) r ≡ with_front front (r >>= λ ws. Ok (word ∷ ws.0, ws.1))
    joined (Ok ws) = ap (λ (xs : List (List ℕ)). let x : Found (List (List ℕ)) = Ok (xs, ws.1) in x) (append_assoc front (word ∷ []) ws.0)
    joined (Err stop) = refl

    next : Found (List ℕ) → ℕ → Found (List (List ℕ))
    next r k = r >>= λ w. words_at most k w.1 >>= λ ws. Ok (w.0 ∷ ws.0, ws.1)

    go : (k : ℕ) → count - i ≡ suc k → with_front (front ++ word ∷ []) (words_at most k behind) ≡ with_front front (words_at most (count - i) rest)
    go k q = joined (words_at most k behind) ∙ (ap (λ r. with_front front (next r k)) (sym e) ∙ ap (λ n. with_front front (words_at most n rest)) (sym q))

-- no word
pub words-none : (most count i : ℕ) (rest : List ℕ) (front : List (List ℕ)) (all : Found (List (List ℕ))) (stop : Stop) → i < count → word_at most rest ≡ Err stop
    → with_front front (words_at most (count - i) rest) ≡ all → all ≡ Err stop
words-none most count i rest front all stop l e h = sym h ∙ go (count - (i + 1)) (omega arith)
  where
    next : Found (List ℕ) → ℕ → Found (List (List ℕ))
    next r k = r >>= λ w. words_at most k w.1 >>= λ ws. Ok (w.0 ∷ ws.0, ws.1)

    go : (k : ℕ) → count - i ≡ suc k → with_front front (words_at most (count - i) rest) ≡ Err stop
    go k q = ap (λ n. with_front front (words_at most n rest)) q ∙ ap (λ r. with_front front (next r k)) e

-- so an error of the first word left is that of all
pub words-stop : (most count i : ℕ) (rest : List ℕ) (front : List (List ℕ)) (all : Found (List (List ℕ))) (stop : Stop) → i < count → Stops stop (word_at most rest)
    → with_front front (words_at most (count - i) rest) ≡ all → Stops stop all
words-stop most count i rest front all OutOfMemory l e h = tt
words-stop most count i rest front all Unfinished l e h = words-none most count i rest front all Unfinished l e h
words-stop most count i rest front all (Malformed fault) l e h = words-none most count i rest front all (Malformed fault) l e h

-- words that aren't empty
pub texts_filter : (ws : List (Bor (List ℕ))) → texts (filter (λ w. nat_lt 0 (length w.now)) ws) ≡ filter (λ t. nat_lt 0 (length t)) (texts ws)
texts_filter [] = refl
texts_filter (w ∷ ws) = go (nat_lt 0 (length w.now)) (texts_filter ws) where
  go : (b : Bool) → texts (filter (λ w. nat_lt 0 (length w.now)) ws) ≡ filter (λ t. nat_lt 0 (length t)) (texts ws)
      → texts (cond b (w ∷ filter (λ w. nat_lt 0 (length w.now)) ws) (filter (λ w. nat_lt 0 (length w.now)) ws)) ≡ cond b (w.now ∷ filter (λ t. nat_lt 0 (length t)) (texts ws)) (filter (λ t. nat_lt 0 (length t)) (texts ws))
  go true e = ap (λ (ts : List (List ℕ)). w.now ∷ ts) e
  go false e = e
