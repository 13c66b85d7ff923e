-- Other numbers of words are refused.
use Rattle.std.proofs.Common.{◌≡◌, ◌≢◌, ◌<◌, List, [], ◌∷◌, length, get_or, Ok, Err, refl, sym, ap, arith}
use Rattle.raft_requests.specs.declared.command_name.CommandName.{CommandName}
use Rattle.raft_requests.specs.declared.refusal.Refusal.TheVariants.{WrongNumberOfArguments}
use Rattle.raft_requests.specs.Words.{Word, none, one, two, three, some}

pub not_none : (name : CommandName) (ws : List Word) → length ws ≢ 0 → none name ws ≡ Err (WrongNumberOfArguments name)
not_none name [] h = absurd (h refl)
not_none name (w ∷ ws) h = refl

pub not_some : (name : CommandName) (ws : List Word) → length ws < 1 → some name ws ≡ Err (WrongNumberOfArguments name)
not_some name [] h = refl
not_some name (w ∷ ws) h = absurd (omega arith)

pub not_one : (name : CommandName) (ws : List Word) → length ws ≢ 1 → one name ws ≡ Err (WrongNumberOfArguments name)
not_one name [] h = refl
not_one name (w ∷ []) h = absurd (h refl)
not_one name (v ∷ w ∷ ws) h = refl

pub not_two : (name : CommandName) (ws : List Word) → length ws ≢ 2 → two name ws ≡ Err (WrongNumberOfArguments name)
not_two name [] h = refl
not_two name (w ∷ []) h = refl
not_two name (v ∷ w ∷ []) h = absurd (h refl)
not_two name (u ∷ v ∷ w ∷ ws) h = refl

pub not_three : (name : CommandName) (ws : List Word) → length ws ≢ 3 → three name ws ≡ Err (WrongNumberOfArguments name)
not_three name [] h = refl
not_three name (w ∷ []) h = refl
not_three name (v ∷ w ∷ []) h = refl
not_three name (u ∷ v ∷ w ∷ []) h = absurd (h refl)
not_three name (t ∷ u ∷ v ∷ w ∷ ws) h = refl

pub one_is : (name : CommandName) (ws : List Word) (w : Word) → length ws ≡ 1 → w ≡ get_or ws 0 w → one name ws ≡ Ok w
one_is name [] w h e = absurd (omega arith)
one_is name (v ∷ []) w h e = ap Ok (sym e)
one_is name (u ∷ v ∷ ws) w h e = absurd (omega arith)

pub two_are : (name : CommandName) (ws : List Word) (v w : Word) → length ws ≡ 2 → v ≡ get_or ws 0 v → w ≡ get_or ws 1 w → two name ws ≡ Ok (v, w)
two_are name [] v w h d e = absurd (omega arith)
two_are name (x ∷ []) v w h d e = absurd (omega arith)
two_are name (x ∷ y ∷ []) v w h d e = rw (d, e) refl
two_are name (x ∷ y ∷ z ∷ ws) v w h d e = absurd (omega arith)

pub three_are : (name : CommandName) (ws : List Word) (u v w : Word) → length ws ≡ 3 → u ≡ get_or ws 0 u → v ≡ get_or ws 1 v → w ≡ get_or ws 2 w → three name ws ≡ Ok (u, v, w)
three_are name [] u v w h c d e = absurd (omega arith)
three_are name (x ∷ []) u v w h c d e = absurd (omega arith)
three_are name (x ∷ y ∷ []) u v w h c d e = absurd (omega arith)
three_are name (x ∷ y ∷ z ∷ []) u v w h c d e = rw (c, d, e) refl
three_are name (t ∷ x ∷ y ∷ z ∷ ws) u v w h c d e = absurd (omega arith)
