-- What is proposed: a number, or the hexadecimal text of bytes.
use Rattle.std.proofs.Common.{◌≡◌, ◌≢◌, Bor, ℕ, zero, suc, ◌<◌, ◌/◌, ◌%◌, ◌⊎◌, inl, inr, Bool, true, false, not, cond, ◌&&◌, eqb, List, [], ◌∷◌, slice_index, Option, Some, None, Result, Ok, Err, refl, ap, sym, ◌∙◌, arith}
use Rattle.std.proofs.lemmas.Bool.{and_parts, cases_lt, eqb-true, ne_eqb}
use Rattle.std.proofs.lemmas.Cmp.{nat_list_eq_equiv}
use Rattle.std.proofs.lemmas.Fmt.{hex_one_digit}
use Rattle.std.specs.Fmt.{digits, digit_glyph}
use Rattle.std.specs.Result.{result_ok}
use Rattle.hex.specs.Hex.{IsBytes, decode_of, encode_with, encode_lower, lower_digits}
use Rattle.hex.specs.declared.error.FromHexError.{FromHexError}
use Rattle.hex.specs.declared.error.FromHexError.TheVariants as hex
use Rattle.hex.proofs.HexLemmas.{decode_of-encode_lower, decode_of-ok}
use Rattle.std.specs.Option.{option_map, MatchOption}
use Rattle.raft_schedule.specs.declared.schedule.Language.{Language}
use Rattle.raft_schedule.specs.declared.schedule.Language.TheVariants.{First, Second}
use Rattle.raft_schedule.specs.declared.schedule.LineError.{LineError}
use Rattle.raft_schedule.specs.declared.schedule.LineError.TheVariants as errors
use Rattle.raft_store.specs.declared.entry.Value.TheVariants.{Number, Bytes}
use Rattle.raft_schedule.specs.Reading.{Fails, hex_error}
use Rattle.raft_store.specs.Values.{hex_text}
use Rattle.raft_schedule.specs.Line.{begins, is, number, hex_bytes, value}
use Rattle.raft_schedule.specs.Line as line

-- ---- the digits that the kit's `hex` writes are std's

same_digits : ℕ → Bool
same_digits zero = true
same_digits (suc n) = eqb (digit_glyph false n) (slice_index lower_digits n) && same_digits n

same_digit : (n d : ℕ) → same_digits n ≡ true → d < n → digit_glyph false d ≡ slice_index lower_digits d
unfolding same_digits
same_digit zero d h below = absurd (omega arith)
same_digit (suc n) d h below =
    let parts = and_parts (eqb (digit_glyph false n) (slice_index lower_digits n)) (same_digits n) h in
    elim (cases_lt d n) [
      | inl less ↦ same_digit n d parts.1 less
      | inr top ↦ let e : d ≡ n = omega arith in rw e (eqb-true (digit_glyph false n) (slice_index lower_digits n) parts.0)
    ]

one_digit : (d : ℕ) → d < 16 → digits 16 false d ≡ slice_index lower_digits d ∷ []
unfolding same_digits
one_digit d small = hex_one_digit false d small ∙ ap (λ c. c ∷ []) (same_digit 16 d refl small)

hex_encodes : (bytes : List ℕ) → IsBytes bytes → hex_text bytes ≡ encode_lower bytes
unfolding encode_with
hex_encodes [] h = refl
hex_encodes (b ∷ bytes) h =
    let small : b < 256 = h 0 in
    rw (one_digit (b / 16) (omega arith), one_digit (b % 16) (omega arith), hex_encodes bytes (λ i. h (suc i))) refl

-- ---- reading

-- what is read, by what `decode` answers
abbrev read : List ℕ → Result (List ℕ) FromHexError → Option (List ℕ)
read text r = line.◌>>=◌ (result_ok r) (λ bytes. cond (is text (hex_text bytes)) (Some bytes) None)

read_by : (text : List ℕ) → hex_bytes text ≡ read text (decode_of text)
unfolding hex_bytes
read_by text = refl

no_hex : (text : List ℕ) (e : FromHexError) → decode_of text ≡ Err e → hex_bytes text ≡ None
no_hex text e h = read_by text ∙ ap (read text) h

pub hex_fail : (text : List ℕ) (e : FromHexError) → (e ≡ hex.OutOfMemory) ⊎ (decode_of text ≡ Err e) → Fails (hex_error e) (hex_bytes text)
hex_fail text hex.OutOfMemory h = tt
hex_fail text hex.OddLength h = no_hex text hex.OddLength (elim h [ inl memory ↦ cc | inr bad ↦ bad ])
hex_fail text hex.InvalidStringLength h = no_hex text hex.InvalidStringLength (elim h [ inl memory ↦ cc | inr bad ↦ bad ])
hex_fail text (hex.InvalidHexCharacter c i) h = no_hex text (hex.InvalidHexCharacter c i) (elim h [ inl memory ↦ cc | inr bad ↦ bad ])

-- it is, if `encode` writes it again
pub hex_by_encode : (text bytes encoded : List ℕ) (other : Bool) → decode_of text ≡ Ok bytes → encoded ≡ encode_lower bytes → other ≡ not (is text encoded) → hex_bytes text ≡ cond other None (Some bytes)
hex_by_encode text bytes encoded other h e compared =
    let fits = (decode_of-ok text bytes h).3 in
    read_by text ∙ ap (read text) h ∙ ap (λ t. cond (is text t) (Some bytes) None) (hex_encodes bytes fits ∙ sym e) ∙ turned (is text encoded) ∙ ap (λ b. cond b None (Some bytes)) (sym compared) where
      turned : (b : Bool) → cond b (Some bytes) None ≡ cond (not b) None (Some bytes)
      turned true = refl
      turned false = refl

pub hex_again : (bytes : List ℕ) → IsBytes bytes → hex_bytes (hex_text bytes) ≡ Some bytes
hex_again bytes fits =
    let text : List ℕ = hex_text bytes in
    read_by text ∙ ap (read text) (ap decode_of (hex_encodes bytes fits) ∙ decode_of-encode_lower bytes fits) ∙ ap (λ b. cond b (Some bytes) None) (nat_list_eq_equiv.refl text)

-- ---- a value

begins_no : (c : ℕ) (word : List ℕ) → ((rest : List ℕ) → word ≢ c ∷ rest) → begins c word ≡ false
begins_no c [] h = refl
begins_no c (b ∷ word) h = ne_eqb b c (λ e. h word (ap (λ x. x ∷ word) e))

some_same : {A : Type 0} {x y : A} → Some x ≡ Some y → x ≡ y
some_same h = cc

-- what `strip_prefix` tells
abbrev pub Stripped : ℕ → List ℕ → Option (Bor (List ℕ)) → Type 0
Stripped c word r = MatchOption r ((rest : List ℕ) → word ≢ c ∷ rest) (λ x. word ≡ c ∷ x.now)

pub stripped : (c : ℕ) (word : List ℕ) (r : Option (Bor (List ℕ))) (x : Bor (List ℕ)) → Stripped c word r → r ≡ Some x → word ≡ c ∷ x.now
stripped c word None x h e = cc
stripped c word (Some y) x h e = h ∙ ap (λ (z : Bor (List ℕ)). c ∷ z.now) (some_same e)

pub unstripped : (c : ℕ) (word : List ℕ) (r : Option (Bor (List ℕ))) → Stripped c word r → r ≡ None → begins c word ≡ false
unstripped c word None h e = begins_no c word h
unstripped c word (Some y) h e = cc

pub bytes_value : (language : Language) (word text : List ℕ) → language ≡ Second → word ≡ 120 ∷ text → value language word ≡ option_map Bytes (hex_bytes text)
unfolding value
bytes_value language word text second begun = rw (second, begun) refl

pub bytes_fail : (e : LineError) (language : Language) (word text : List ℕ) → language ≡ Second → word ≡ 120 ∷ text → Fails e (hex_bytes text) → Fails e (value language word)
bytes_fail errors.OutOfMemory language word text second begun h = tt
bytes_fail errors.Bad language word text second begun h = bytes_value language word text second begun ∙ ap (option_map Bytes) h

pub number_value : (language : Language) (word : List ℕ) → (language ≡ Second → begins 120 word ≡ false) → value language word ≡ option_map Number (number word)
unfolding value
number_value First word plain = refl
number_value Second word plain = rw (plain refl) refl
