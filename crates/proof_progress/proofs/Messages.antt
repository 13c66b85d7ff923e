-- Messages by number.
use Rattle.std.proofs.Common.{ℕ, suc, ◌+◌, ◌-◌, ◌≡◌, inl, inr, false, List, [], ◌∷◌, ◌++◌, length, arith, ap, ◌∙◌, Option, None, Some}
use Rattle.std.specs.Prelude.{nat_eq, slice_get}
use Rattle.std.proofs.lemmas.Bool.Decides.{nat_tests}
use Rattle.proof_deeds.specs.raft_calls.declared.message.Body.{Body}
use Rattle.proof_deeds.specs.raft_calls.declared.message.Message.{Message}
use Rattle.proof_deeds.specs.raft_node.Events.{message_at}
use Rattle.proof_deeds.specs.raft_node.Execute.{to_each}
use Rattle.proof_progress.specs.Elections.{Listed}
use Rattle.proof_progress.proofs.Elects.{if_false}

-- The requests, by number: the one to the node at place i of these is message i + 1 of those that are sent
to_place : (id : ℕ) (b : Body) (ids : List ℕ) (t : ℕ) → Listed ids t → (i : ℕ) × (slice_get (to_each id ids b) i ≡ Some (record { from = id; to = t; body = b }))
to_place id b [] t h = absurd h
to_place id b (x ∷ ids) t (inl p) = (0, ap (λ k. let z : Option Message = Some (record { from = id; to = k; body = b }) in z) p)
to_place id b (x ∷ ids) t (inr p) = let r = to_place id b ids t p in (suc r.0, r.1)

get_right : (bag ms : List Message) (i : ℕ) → slice_get (bag ++ ms) (length bag + i) ≡ slice_get ms i
get_right [] ms i = let z : 0 + i ≡ i = omega arith in ap (slice_get ms) z
get_right (x ∷ bag) ms i = let z : suc (length bag) + i ≡ suc (length bag + i) = omega arith in ap (slice_get (x ∷ (bag ++ ms))) z ∙ get_right bag ms i

pub request_number : (bag : List Message) (id : ℕ) (b : Body) (ids : List ℕ) (t : ℕ) → Listed ids t → (i : ℕ) × (message_at (bag ++ to_each id ids b) (length bag + i + 1) ≡ Some (record { from = id; to = t; body = b }))
request_number bag id b ids t h =
    let r = to_place id b ids t h in (
      r.0,
      if_false (nat_eq (length bag + r.0 + 1) 0) None (slice_get (bag ++ to_each id ids b) (length bag + r.0 + 1 - 1)) (nonzero (length bag + r.0))
          ∙ (ap (slice_get (bag ++ to_each id ids b)) (back (length bag + r.0)) ∙ (get_right bag (to_each id ids b) r.0 ∙ r.1)),
    )
  where
    nonzero : (n : ℕ) → nat_eq (n + 1) 0 ≡ false
    nonzero n = grind (arith, nat_tests)

    back : (n : ℕ) → n + 1 - 1 ≡ n
    back n = omega arith
