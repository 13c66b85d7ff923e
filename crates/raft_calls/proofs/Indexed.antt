-- The kept numbers go on with the messages.
use Rattle.std.proofs.Common.{ℕ, ◌≡◌, ◌+◌, ◌++◌, ◌∷◌, ◌∙◌, Bool, true, false, List, [], ap, arith, length, nat_eq, refl, rules, sym}
use Rattle.std.specs.Prelude.{if◌then◌else◌}
use Rattle.std.proofs.lemmas.List.{append-nil}
use Rattle.std.specs.BTreeMap.{is_at}
use Rattle.std.specs.Ordering.{nat_cmp}
use Rattle.raft_calls.specs.declared.message.Message.{Message}
use Rattle.raft_calls.specs.Inboxes.{AddsNumbers, IsIndexed, inbox_of, numbers_from, numbers_to}

-- numbers that compare as equal are the same
at-is : (a b : ℕ) → is_at (nat_cmp a) b ≡ nat_eq a b
at-is a b = go (nat_eq a b) refl
  where
    go : (r : Bool) → nat_eq a b ≡ r → is_at (nat_cmp a) b ≡ r
    go true h = search rules
    go false h = search rules

-- one message more
numbers-more : (k id : ℕ) (ms : List Message) (m : Message) → numbers_from k id (ms ++ m ∷ []) ≡ numbers_from k id ms ++ (if nat_eq m.to id then (k + length ms) ∷ [] else [])
numbers-more k id [] m = let at : k + 0 ≡ k = omega arith in rw at refl
numbers-more k id (x ∷ ms) m =
    let at : (k + 1) + length ms ≡ k + length (x ∷ ms) = omega arith in
    let rest : numbers_from (k + 1) id (ms ++ m ∷ []) ≡ numbers_from (k + 1) id ms ++ (if nat_eq m.to id then (k + length (x ∷ ms)) ∷ [] else []) =
    rw (sym at) (numbers-more (k + 1) id ms m) in
    go (nat_eq x.to id) rest
  where
    go : (b : Bool) → numbers_from (k + 1) id (ms ++ m ∷ []) ≡ numbers_from (k + 1) id ms ++ (if nat_eq m.to id then (k + length (x ∷ ms)) ∷ [] else [])
        → (if b then k ∷ numbers_from (k + 1) id (ms ++ m ∷ []) else numbers_from (k + 1) id (ms ++ m ∷ []))
        ≡ (if b then k ∷ numbers_from (k + 1) id ms else numbers_from (k + 1) id ms) ++ (if nat_eq m.to id then (k + length (x ∷ ms)) ∷ [] else [])
    go true h = ap (λ ns. k ∷ ns) h
    go false h = h

-- the numbers of all nodes are kept on
pub is_indexed-more : (ms : List Message) (m : Message) (old new : List (ℕ × List ℕ)) → IsIndexed ms old → AddsNumbers m.to ((length ms + 1) ∷ []) old new → IsIndexed (ms ++ m ∷ []) new
is_indexed-more ms m old new h more = record { each = λ id. go id (nat_eq m.to id) (at-is m.to id) (more id) (numbers-more 1 id ms m) }
  where
    go : (id : ℕ) (b : Bool) → is_at (nat_cmp m.to) id ≡ b → inbox_of new id ≡ (if is_at (nat_cmp m.to) id then inbox_of old id ++ (length ms + 1) ∷ [] else inbox_of old id)
        → numbers_to id (ms ++ m ∷ []) ≡ numbers_to id ms ++ (if b then (1 + length ms) ∷ [] else [])
        → inbox_of new id ≡ numbers_to id (ms ++ m ∷ [])
    go id true b a more =
        let at : length ms + 1 ≡ 1 + length ms = omega arith in
        let there : inbox_of new id ≡ inbox_of old id ++ (length ms + 1) ∷ [] = a ∙ rw b refl in
        there ∙ (rw at (ap (λ ns. ns ++ (1 + length ms) ∷ []) (h.each id)) ∙ sym more)
    go id false b a more =
        let there : inbox_of new id ≡ inbox_of old id = a ∙ rw b refl in
        there ∙ (h.each id ∙ (sym (append-nil (numbers_to id ms)) ∙ sym more))
