-- Which texts are those of numbers.
use Rattle.std.proofs.Common.{◌≡◌, ℕ, ◌<◌, ◌^◌, Bool, true, false, cond, ltb, List, Some, None, Result, Ok, Err, refl, sym, ap, subst, ◌∙◌, arith}
use Rattle.std.specs.Prelude.{◌&&◌, IsUtf8, length}
use Rattle.std.specs.Fmt.{decimal}
use Rattle.std.specs.Str.{bytes_eq}
use Rattle.std.specs.Str.Parse.{digits_value, AllDigits, ParsesUnsigned}
use Rattle.std.proofs.lemmas.Bool.{false≢true}
use Rattle.std.proofs.lemmas.Bool.Decides.{nat_tests}
use Rattle.std.proofs.lemmas.Slice.Eq.{bytes_eq-Decides}
use Rattle.std.proofs.lemmas.Str.{IsUtf8-from_ascii}
use Rattle.std.proofs.lemmas.Str.Parse.{IsNumeralModel, numerals_by_value, tells_digits, parse_gives}
use Rattle.std.proofs.lemmas.Fmt.{IsAscii-decimal, digits_decimal, digits_value-decimal, decimal_nonempty}
use Rattle.raft_machine.specs.Numbers.{natural_of}

own : IsNumeralModel (AllDigits 10) (digits_value 10)
own = numerals_by_value (AllDigits 10) tells_digits

pub parsed : {E : Type 0} (bytes : List ℕ) (r : Result ℕ E) (n : ℕ) → ParsesUnsigned 64 10 bytes r → n < 2 ^ 64 → bytes ≡ decimal n → r ≡ Ok n
parsed {E} bytes r n h lt e =
    let digits : AllDigits 10 bytes = subst (AllDigits 10) (sym e) (digits_decimal own n lt) in
    let value : digits_value 10 bytes ≡ n = ap (digits_value 10) e ∙ digits_value-decimal own n lt in
    let some : 0 < length bytes = subst (λ (bs : List ℕ). 0 < length bs) (sym e) (decimal_nonempty n lt) in
    parse_gives own 64 bytes r h digits some (omega arith) ∙ ap (λ (m : ℕ). Ok m) value

pub natural_is : (bytes : List ℕ) (n : ℕ) → n < 2 ^ 64 → bytes ≡ decimal n → natural_of bytes ≡ Some n
natural_is bytes n lt e =
    let value : digits_value 10 bytes ≡ n = ap (digits_value 10) e ∙ digits_value-decimal own n lt in
    let small : ltb n (2 ^ 64) ≡ true = grind (arith, nat_tests) in
    let same : bytes_eq bytes (decimal n) ≡ true = (bytes_eq-Decides bytes (decimal n)).1 e in
    ap (λ m. cond (ltb m (2 ^ 64) && bytes_eq bytes (decimal m)) (Some m) None) value ∙ rw (small, same) refl

by_tests : (a b : Bool) (n : ℕ) → (a ≡ true → b ≡ true → ⊥) → cond (a && b) (Some n) None ≡ None
by_tests true true n h = absurd (h refl refl)
by_tests true false n h = refl
by_tests false b n h = refl

below : (n m : ℕ) → ltb n m ≡ true → n < m
below n m h = grind (arith, nat_tests)

pub natural_none : (bytes : List ℕ) → ((n : ℕ) → n < 2 ^ 64 → bytes ≡ decimal n → ⊥) → natural_of bytes ≡ None
natural_none bytes h =
    let n = digits_value 10 bytes in
    by_tests (ltb n (2 ^ 64)) (bytes_eq bytes (decimal n)) n (λ small same. h n (below n (2 ^ 64) small) ((bytes_eq-Decides bytes (decimal n)).0 same))

pub not_text : (bytes : List ℕ) → ¬ (IsUtf8 bytes) → natural_of bytes ≡ None
not_text bytes h = natural_none bytes (λ n lt e. h (subst IsUtf8 (sym e) (IsUtf8-from_ascii (decimal n) (IsAscii-decimal n lt))))

pub not_parsed : {E : Type 0} (bytes : List ℕ) (e : E) → ParsesUnsigned 64 10 bytes (Err e) → natural_of bytes ≡ None
not_parsed {E} bytes e h = natural_none bytes (λ n lt is. let p = parsed bytes (Err e) n h lt is in absurd cc)

pub other_text : (bytes : List ℕ) (n : ℕ) → ParsesUnsigned {E = Unit {0}} 64 10 bytes (Ok n) → bytes_eq (decimal n) bytes ≡ false → natural_of bytes ≡ None
other_text bytes n h other = natural_none bytes (λ m lt is.
    let p = parsed {E = Unit {0}} bytes (Ok n) m h lt is in
    let same : m ≡ n = cc in
    false≢true (sym other ∙ (bytes_eq-Decides (decimal n) bytes).1 (sym (is ∙ ap decimal same))))
