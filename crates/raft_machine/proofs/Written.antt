-- A list is its length, and each item behind it.
use Rattle.std.proofs.Common.{ℕ, ◌≡◌, List, [], ◌∷◌, ◌++◌, length, Result, Ok, Err, subst, ◌∙◌, append_assoc, ap}
use Rattle.std.specs.List.{AllByRecursion, flat_map}
use Rattle.raft_codec.specs.Codec.{Codec, Writes, WritesEach, number, list}
use Rattle.raft_machine.specs.Machine.{State}
use Rattle.raft_machine.specs.Bytes.{space, sessions, version, state}

pub behind_length : {X E : Type 0} (c : Codec X) (es xs : List X) (n : ℕ) (old mid new : List ℕ) (r : Result (Unit {0}) E) → n ≡ length xs → es ≡ xs → number.fits n × (mid ≡ old ++ number.bytes n)
    → WritesEach c es r mid new → Writes (list c) xs r old new
unfolding list
behind_length c es xs n old mid new (Ok _) len same first each = (
  (subst number.fits len first.0, subst (AllByRecursion c.fits) same each.0),
  each.1
      ∙ ap (λ (bs : List ℕ). bs ++ flat_map c.bytes es) (first.1 ∙ ap (λ k. old ++ number.bytes k) len)
      ∙ append_assoc old (number.bytes (length xs)) (flat_map c.bytes es)
      ∙ ap (λ ys. old ++ (number.bytes (length xs) ++ flat_map c.bytes ys)) same,
)
behind_length c es xs n old mid new (Err e) len same first each = tt

pub state_written : {E : Type 0} (st : State) (old head mid new : List ℕ) (r : Result (Unit {0}) E) → head ≡ old ++ version ∷ [] → space.fits st.space × (mid ≡ head ++ space.bytes st.space)
    → Writes sessions st.sessions r mid new → Writes state st r old new
unfolding state
state_written st old head mid new (Ok u) tag first second = (
  (first.0, second.0),
  second.1
      ∙ ap (λ (bs : List ℕ). bs ++ sessions.bytes st.sessions) (first.1 ∙ ap (λ (bs : List ℕ). bs ++ space.bytes st.space) tag ∙ append_assoc old (version ∷ []) (space.bytes st.space))
      ∙ append_assoc old (version ∷ space.bytes st.space) (sessions.bytes st.sessions),
)
state_written st old head mid new (Err e) tag first second = tt
