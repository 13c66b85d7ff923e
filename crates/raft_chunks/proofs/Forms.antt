-- Bytes with their sum behind them.
use Rattle.std.proofs.Common.{ℕ, zero, suc, ◌≡◌, ◌<◌, ◌≤◌, ◌+◌, ◌-◌, ◌^◌, true, false, eqb, ltb, get_or, List, [], ◌∷◌, ◌++◌, length, take, drop, Result, Ok, refl, sym, ap, subst, ◌∙◌, arith, inl, inr}
use Rattle.std.specs.List.{AllByRecursion}
use Rattle.std.specs.Int.{from_le_bytes, w32}
use Rattle.std.specs.Int.Bits.{xor_lt}
use Rattle.std.proofs.lemmas.Bool.{eqb-true, le-ltb, ltb-false}
use Rattle.std.proofs.lemmas.List.{append-nil, length-append, length-drop, nil_from_length, take_at, drop_at, take-append-drop}
use Rattle.std.proofs.lemmas.Nat.{from_le_bytes-to_le_bytes_4, le_bytes_4}
use Rattle.raft_codec.specs.declared.error.DecodeError.{DecodeError}
use Rattle.raft_codec.specs.Codec.{Codec, IsCodec, whole_at}
use Rattle.raft_codec.specs.CodecLaws.{bind_ok, chosen, same_answer}
use Rattle.raft_frames.specs.Crc.{crc32c, more}
use Rattle.raft_frames.specs.Format.{word}
use Rattle.raft_frames.specs.Laws.{IsByte}
use Rattle.raft_frames.proofs.Bytes.{more-lt}
use Rattle.raft_frames.proofs.Spelled.{bytes_drop}
use Rattle.raft_chunks.specs.Form.{cursor, piece, unsealed}
use Rattle.raft_chunks.specs.FormLaws.{cursor_is, piece_is}
use Rattle.raft_chunks.specs.Laws.{ReadsBack, ReadsBackOf, ReadsWhatIsThere, ReadsWhatIsThereOf}

abbrev ok_body : List ℕ → Result (List ℕ) DecodeError
ok_body body = Ok body

sum-lt : (bytes : List ℕ) → AllByRecursion IsByte bytes → crc32c bytes < 2 ^ 32
sum-lt bytes each = xor_lt 32 (more 0xFFFFFFFF bytes) 0xFFFFFFFF (more-lt 0xFFFFFFFF bytes (omega arith) each) (omega arith)

byte_of : (xs : List ℕ) → AllByRecursion IsByte xs → (i : ℕ) → get_or xs i 0 < 256
byte_of [] each i = omega arith
byte_of (x ∷ xs) each zero = each.0
byte_of (x ∷ xs) each (suc i) = byte_of xs each.1 i

same_body : (one other : List ℕ) → ok_body one ≡ ok_body other → one ≡ other
same_body one other e = cc

-- a sum is taken off
unsealed-sum : (body : List ℕ) → AllByRecursion IsByte body → unsealed (body ++ word (crc32c body)) ≡ Ok body
unsealed-sum body each =
    let sum = word (crc32c body) in
    let all = body ++ sum in
    let size : length all ≡ length body + 4 = length-append body sum in
    let at : length body ≡ length all - 4 = omega (arith, size) in
    let front : take (length all - 4) all ≡ body = take_at body sum (length all - 4) at in
    let back : drop (length all - 4) all ≡ sum = drop_at body sum (length all - 4) at in
    let same : eqb (crc32c body) (from_le_bytes w32 sum) ≡ true = grind (arith, from_le_bytes-to_le_bytes_4 (crc32c body) (sum-lt body each)) in
    let long : ltb (length all) 4 ≡ false = le-ltb (length all) 4 (omega (arith, size)) in
    rw (long, front, back, same) refl

-- what is read in front of a sum stands in front of its own
unsealed-is : (bytes body : List ℕ) → AllByRecursion IsByte bytes → unsealed bytes ≡ Ok body → bytes ≡ body ++ word (crc32c body)
unsealed-is bytes body each e =
    let at = length bytes - 4 in
    elim (chosen (ltb (length bytes) 4) _ _ _ e) [
      | inl h ↦ absurd cc
      | inr h ↦ elim (chosen (eqb (crc32c (take at bytes)) (from_le_bytes w32 (drop at bytes))) _ _ _ h.1) [
        | inl k ↦
            let long : 4 ≤ length bytes = ltb-false _ _ h.0 in
            let four : length (drop at bytes) ≡ 4 = omega (arith, length-drop at bytes, long) in
            let sum : word (crc32c (take at bytes)) ≡ drop at bytes = le_bytes_4 (drop at bytes) (crc32c (take at bytes)) four (byte_of (drop at bytes) (bytes_drop at bytes each)) (eqb-true _ _ k.0) in
            let is : take at bytes ≡ body = same_body (take at bytes) body k.1 in
            sym (take-append-drop at bytes) ∙ ap (λ back. take at bytes ++ back) (sym sum) ∙ ap (λ front. front ++ word (crc32c front)) is
        | inr k ↦ absurd cc
      ]
    ]

whole_back : {X : Type 0} (c : Codec X) → IsCodec c → (x : X) → c.fits x → whole_at c (c.bytes x) ≡ Ok x
whole_back c h x f = rw (sym (append-nil (c.bytes x)), h.read_back x [] f) refl

whole_is : {X : Type 0} (c : Codec X) → IsCodec c → (x : X) (body : List ℕ) → whole_at c body ≡ Ok x → c.fits x × (body ≡ c.bytes x)
whole_is c h x body e =
    let r = bind_ok (c.read body) _ x e in
    let w = h.written body r.0 r.1 in
    elim (chosen (eqb (length r.0.1) 0) _ _ _ r.2) [
      | inl k ↦
          let same : r.0.0 ≡ x = same_answer _ _ k.1 in
          let none : r.0.1 ≡ [] = nil_from_length r.0.1 (eqb-true _ _ k.0) in
          (subst c.fits same w.0, w.1 ∙ ap (λ rest. c.bytes r.0.0 ++ rest) none ∙ append-nil (c.bytes r.0.0) ∙ ap c.bytes same)
      | inr k ↦ absurd cc
    ]

back_of : {X : Type 0} (c : Codec X) → IsCodec c → ReadsBackOf c
back_of c h x f each = rw (unsealed-sum (c.bytes x) each) (whole_back c h x f)

there_of : {X : Type 0} (c : Codec X) → IsCodec c → ReadsWhatIsThereOf c
there_of c h x bytes each e =
    let body = bind_ok (unsealed bytes) _ x e in
    let w = whole_is c h x body.0 body.2 in
    (w.0, unsealed-is bytes body.0 each body.1 ∙ ap (λ b. b ++ word (crc32c b)) w.1)

pub reads_back : ReadsBack
reads_back = (back_of cursor cursor_is, back_of piece piece_is)

pub reads_what_is_there : ReadsWhatIsThere
reads_what_is_there = (there_of cursor cursor_is, there_of piece piece_is)
