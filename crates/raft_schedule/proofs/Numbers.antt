-- Which words are numbers.
use Rattle.std.proofs.Common.{◌≡◌, ◌≢◌, ℕ, zero, suc, ◌<◌, ◌≤◌, ◌^◌, Bool, true, false, cond, ◌&&◌, List, length, get_or, Some, None, Result, Ok, Err, nat_lt, refl, sym, ap, subst, ◌∙◌, arith}
use Rattle.std.proofs.lemmas.Bool.{lt-ltb, ltb-true}
use Rattle.std.proofs.lemmas.Cmp.{nat_list_eq_equiv}
use Rattle.std.proofs.lemmas.Fmt.{decimal_is_IsNumeral, decimal_digit, first_decimal, decimal-digits_value}
use Rattle.std.proofs.lemmas.Str.Parse.{IsNumeralModel, numerals_by_value, tells_digits, digit_at, parse_plain}
use Rattle.std.specs.Cmp.Lexicographic.{same_text}
use Rattle.std.specs.Fmt.{decimal}
use Rattle.std.specs.Result.{result_ok}
use Rattle.std.specs.Str.Parse.{AllDigits, digits_value, ParsesUnsigned}
use Rattle.raft_schedule.specs.Line.{is, number}

own : IsNumeralModel (AllDigits 10) (digits_value 10)
own = numerals_by_value (AllDigits 10) tells_digits

passes : (word : List ℕ) (v n : ℕ) → v ≡ n → n < 2 ^ 64 → word ≡ decimal n → cond (nat_lt v (2 ^ 64) && is word (decimal v)) (Some v) None ≡ Some n
passes word v n value small same =
    let small' : nat_lt n (2 ^ 64) ≡ true = lt-ltb n (2 ^ 64) small in
    let same' : is word (decimal n) ≡ true = subst (λ w. is w (decimal n) ≡ true) (sym same) (nat_list_eq_equiv.refl (decimal n)) in
    rw (value, small', same') refl

fails : (word : List ℕ) (v : ℕ) (b c : Bool) → b ≡ nat_lt v (2 ^ 64) → c ≡ is word (decimal v) → (v < 2 ^ 64 → word ≢ decimal v) → cond (b && c) (Some v) None ≡ None
fails word v true true small same none = absurd (none (ltb-true v (2 ^ 64) (sym small)) (same_text word (decimal v) same))
fails word v true false small same none = refl
fails word v false c small same none = refl

-- a decimal is a number
pub number_of : (word : List ℕ) (n : ℕ) → n < 2 ^ 64 → word ≡ decimal n → number word ≡ Some n
unfolding number
number_of word n small same = passes word (digits_value 10 word) n (ap (digits_value 10) same ∙ (decimal_is_IsNumeral n small).1) small same

-- and nothing else is
pub no_number : (word : List ℕ) → ((n : ℕ) → n < 2 ^ 64 → word ≢ decimal n) → number word ≡ None
unfolding number
no_number word none = fails word (digits_value 10 word) _ _ refl refl (none (digits_value 10 word))

-- the first digit isn't a plus
pub no_plus : (word : List ℕ) → get_or word 0 0 ≡ 43 → number word ≡ None
no_plus word plus = no_number word (λ n small same.
    let numeral = (decimal_is_IsNumeral n small).0 in
    omega (arith, ap (λ w. get_or w 0 0) same, digit_at (decimal n) 0 numeral.1 numeral.0))

long_from_0 : (word : List ℕ) (n : ℕ) → 1 < length word → get_or word 0 0 ≡ 48 → n < 2 ^ 64 → word ≢ decimal n
long_from_0 word zero long first small same = omega (arith, ap length (same ∙ decimal_digit 0 (omega arith)))
long_from_0 word (suc n) long first small same = omega (arith, ap (λ w. get_or w 0 0) same, first_decimal (suc n) (omega arith) small)

-- nor 0, but for the number 0
pub no_zeros : (word : List ℕ) → 1 < length word → get_or word 0 0 ≡ 48 → number word ≡ None
no_zeros word long first = no_number word (λ n. long_from_0 word n long first)

-- what `parse` reads of a word without a plus and without leading zeros
pub number_parsed : {E : Type 0} (word : List ℕ) (r : Result ℕ E) → get_or word 0 0 ≢ 43 → (get_or word 0 0 ≡ 48 → length word ≤ 1) → ParsesUnsigned 64 10 word r → result_ok r ≡ number word
number_parsed {E} word (Ok n) plain short read =
    let h = parse_plain own {E = E} 64 word (Ok n) read plain in
    let small : n < 2 ^ 64 = omega (arith, h.0.2, h.1) in
    let digits = decimal-digits_value own word h.0.0 h.0.1 (λ z. omega (arith, short z, h.0.1)) h.0.2 in
    sym (number_of word n small (sym (ap decimal h.1 ∙ digits)))
number_parsed {E} word (Err e) plain short read =
    let h = parse_plain own {E = E} 64 word (Err e) read plain in
    sym (no_number word (λ n small same.
    let d = decimal_is_IsNumeral n small in
    h (subst (AllDigits 10) (sym same) d.0.1, subst (λ w. 0 < length w) (sym same) d.0.0, subst (λ w. digits_value 10 w < 2 ^ 64) (sym same) (omega (arith, d.1)))))
