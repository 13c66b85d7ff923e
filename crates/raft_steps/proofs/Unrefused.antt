-- What is known of a call that is not refused.
use Rattle.std.specs.Prelude.{◌≡◌, ◌||◌, Bool, true, false, Option, None, Some, refl, if◌then◌else◌}
use Rattle.std.specs.Option.{option_or}

-- neither test holds
pub or_fails : (a b : Bool) → (a || b) ≡ false → (a ≡ false) × (b ≡ false)
or_fails true b e = cc
or_fails false b e = (refl, e)

module _ {E : Type 0} where
  -- each test fails
  pub test_fails : (a : Bool) (x : E) (rest : Option E) → (if a then Some x else rest) ≡ None → (a ≡ false) × (rest ≡ None)
  test_fails true x rest e = cc
  test_fails false x rest e = (refl, e)

  pub second_fails : (a b : Bool) (x y : E) (rest : Option E) → (if a then Some x else if b then Some y else rest) ≡ None → b ≡ false
  second_fails a b x y rest e = (test_fails b y rest (test_fails a x (if b then Some y else rest) e).1).0

  -- neither part refuses
  pub neither : (a b : Option E) → option_or a b ≡ None → (a ≡ None) × (b ≡ None)
  neither None b e = (refl, e)
  neither (Some x) b e = cc
