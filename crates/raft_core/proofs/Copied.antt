-- What a call gives whose error is told as another.
use Rattle.std.proofs.Common.{◌≡◌, subst}
use Rattle.std.specs.Prelude.{Err, IfOk, MatchResult, Ok, Result, is_ok}

-- what is given is what the call gave
pub given_by : {T E F : Type 0} (P : T → Type 0) (Q : E → Type 0) (r : Result T E) (m : Result T F) (x : T) → IfOk r P
    → MatchResult r (λ y. m ≡ Ok y) Q → is_ok m ≡ is_ok r → m ≡ Ok x → P x
given_by P Q (Ok y) m x is same ok was = let e : y ≡ x = cc in subst P e is
given_by P Q (Err e) m x is same ok was = absurd cc
