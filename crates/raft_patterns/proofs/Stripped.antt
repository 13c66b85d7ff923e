-- The parts up to the next run.
use Rattle.std.proofs.Common.{◌≡◌, ℕ, true, false, cond, List, [], ◌∷◌, Option, Some, None, refl, sym, ap, ◌∙◌}
use Rattle.std.specs.Option.{option_and_then}
use Rattle.raft_patterns.specs.Runs.{takes, stops, stripped, fitting, or_else, found}

abbrev Left : Type 0
Left = Option (List ℕ × List ℕ)

pub strip_here : (p k : List ℕ) → stops p ≡ true → stripped p k ≡ Some (p, k)
strip_here p [] e = ap (λ t. let x : Left = cond t (Some (p, [])) None in x) e
strip_here p (b ∷ k) e = ap (λ t. let x : Left = cond t (Some (p, b ∷ k)) (option_and_then (λ q. stripped q k) (takes p b)) in x) e

pub strip_end : (p k : List ℕ) → stops p ≡ false → k ≡ [] → stripped p k ≡ None
strip_end p [] e i = ap (λ t. let x : Left = cond t (Some (p, [])) None in x) e
strip_end p (b ∷ k) e i = absurd cc

pub strip_step : (p : List ℕ) (b : ℕ) (k : List ℕ) → stops p ≡ false → stripped p (b ∷ k) ≡ option_and_then (λ q. stripped q k) (takes p b)
strip_step p b k e = ap (λ t. let x : Left = cond t (Some (p, b ∷ k)) (option_and_then (λ q. stripped q k) (takes p b)) in x) e

pub strip_fails : (p : List ℕ) (b : ℕ) (l k : List ℕ) → stops p ≡ false → l ≡ b ∷ k → takes p b ≡ None → stripped p l ≡ None
strip_fails p b l k e i t = ap (stripped p) i ∙ strip_step p b k e ∙ ap (option_and_then (λ q. stripped q k)) t

pub strip_more : (p : List ℕ) (b : ℕ) (l k q : List ℕ) → stops p ≡ false → l ≡ b ∷ k → takes p b ≡ Some q → stripped p l ≡ stripped q k
strip_more p b l k q e i t = ap (stripped p) i ∙ strip_step p b k e ∙ ap (option_and_then (λ q. stripped q k)) t

pub found_here : (p k : List ℕ) (x : List ℕ × List ℕ) → fitting p k ≡ Some x → found p k ≡ Some x
found_here p [] x e = e
found_here p (b ∷ k) x e = ap (λ o. or_else o (found p k)) e

pub found_none : (p k : List ℕ) → k ≡ [] → fitting p k ≡ None → found p k ≡ None
found_none p [] i e = e
found_none p (b ∷ k) i e = absurd cc

pub found_more : (p l : List ℕ) (b : ℕ) (k : List ℕ) → l ≡ b ∷ k → fitting p l ≡ None → found p l ≡ found p k
found_more p l b k i e = ap (found p) i ∙ ap (λ o. or_else o (found p k)) (ap (fitting p) (sym i) ∙ e)
