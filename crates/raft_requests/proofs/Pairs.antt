-- Pairs of words.
use Rattle.std.proofs.Common.{◌≡◌, ◌≢◌, ◌<◌, ◌%◌, true, false, eqb, List, [], ◌∷◌, ◌++◌, length, Ok, Err, refl, sym, ap, ◌∙◌, arith}
use Rattle.std.proofs.lemmas.List.{append-nil}
use Rattle.std.proofs.lemmas.Bool.{eqb-true}
use Rattle.raft_requests.specs.declared.command_name.CommandName.{CommandName}
use Rattle.raft_requests.specs.declared.refusal.Refusal.TheVariants.{WrongNumberOfArguments}
use Rattle.raft_requests.specs.Refusals.{◌>>=◌}
use Rattle.raft_requests.specs.Words.{Word, pairs}

-- the pairs that words make, but for one that is left over
abbrev pub paired : List Word → List (Word × Word)
paired [] = []
paired (v ∷ []) = []
paired (v ∷ w ∷ ws) = (v, w) ∷ paired ws

pub pairs_are : (name : CommandName) (ws : List Word) → 0 < length ws → length ws % 2 ≡ 0 → pairs name ws ≡ Ok (paired ws)
unfolding pairs
pairs_are name [] h e = absurd (omega arith)
pairs_are name (v ∷ []) h e = absurd (omega arith)
pairs_are name (v ∷ w ∷ []) h e = refl
pairs_are name (v ∷ w ∷ x ∷ ws) h e = ap (λ r. r >>= λ ps. Ok ((v, w) ∷ ps)) (pairs_are name (x ∷ ws) (omega arith) (omega arith))

pub no_pairs : (name : CommandName) (ws : List Word) → length ws % 2 ≢ 0 → pairs name ws ≡ Err (WrongNumberOfArguments name)
unfolding pairs
no_pairs name [] e = absurd (e refl)
no_pairs name (v ∷ []) e = refl
no_pairs name (v ∷ w ∷ []) e = absurd (e refl)
no_pairs name (v ∷ w ∷ x ∷ ws) e = ap (λ r. r >>= λ ps. Ok ((v, w) ∷ ps)) (no_pairs name (x ∷ ws) (λ z. e (omega arith)))

pub none_left : (ws : List Word) → length ws < 2 → paired ws ≡ []
none_left [] h = refl
none_left (v ∷ []) h = refl
none_left (v ∷ w ∷ ws) h = absurd (omega arith)

pub empty_pairs : (name : CommandName) (ws : List Word) → true ≡ eqb (length ws) 0 → pairs name ws ≡ Err (WrongNumberOfArguments name)
unfolding pairs
empty_pairs name [] e = refl
empty_pairs name (w ∷ ws) e = let z : length (w ∷ ws) ≡ 0 = eqb-true (length (w ∷ ws)) 0 (sym e) in absurd (omega arith)

positive : (ws : List Word) → false ≡ eqb (length ws) 0 → 0 < length ws
positive [] e = absurd cc
positive (w ∷ ws) e = omega arith

-- all pairs were copied, and no word is left
pub pairs_done : (name : CommandName) (words rest : List Word) (copied result : List (Word × Word)) → false ≡ eqb (length words) 0 → (length words % 2 ≡ 1 → ⊥) → length rest < 2
    → copied ++ paired rest ≡ paired words → result ≡ copied → pairs name words ≡ Ok result
pairs_done name words rest copied result some even few so_far same =
    pairs_are name words (positive words some) (omega arith)
    ∙ ap Ok (sym (same ∙ sym (append-nil copied) ∙ ap (λ (ps : List (Word × Word)). copied ++ ps) (sym (none_left rest few)) ∙ so_far))
