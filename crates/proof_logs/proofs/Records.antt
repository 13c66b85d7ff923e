-- Records stand in bytes one behind the other, and are read so.
use Rattle.std.specs.Prelude.{ℕ, ◌≡◌, ◌≤◌, List, [], ◌∷◌, ◌++◌, Ok, length, map, refl}
use Rattle.std.specs.List.{AllByRecursion}
use Rattle.std.proofs.Common.{◌∙◌, ap, arith, subst, suc, sym, zero}
use Rattle.std.proofs.lemmas.List.{append_assoc, append-nil, length-append}
use Rattle.raft_codec.specs.Codec.{Codec, IsCodec, ◌>>=◌}
use Rattle.raft_codec.specs.CodecLaws.{answered, bind_ok, same_answer}
use Rattle.proof_logs.specs.BatchLaws.{Stand}
use Rattle.proof_logs.specs.Batches.{AreBatchesOf, all_of, bytes_of, one_batch, read_at, read_in}

-- one more batch
pub all_more : {R : Type 0} (batches : List (List R)) (records : List R) → all_of (batches ++ one_batch records) ≡ all_of batches ++ records
all_more [] [] = refl
all_more [] (r ∷ records) = append-nil (r ∷ records)
all_more (batch ∷ batches) records = ap (λ x. batch ++ x) (all_more batches records) ∙ sym (append_assoc batch (all_of batches) records)

module _ {R : Type 0} (c : Codec R) where
  pub batches_join : (batches more : List (List R)) → AreBatchesOf c batches → AreBatchesOf c more → AreBatchesOf c (batches ++ more)
  batches_join [] more h k = k
  batches_join (batch ∷ batches) more h k = (h.0, batches_join batches more h.1 k)

  pub each_fits : (batches : List (List R)) → AreBatchesOf c batches → AllByRecursion (AllByRecursion c.fits) batches
  each_fits [] are = tt
  each_fits (batch ∷ batches) are = (are.0.fits, each_fits batches are.1)

module _ {R : Type 0} (c : Codec R) (inverse : IsCodec c) where
  -- the record at the front is read first
  first_read : (n : ℕ) (r : R) (rest : List ℕ) → c.fits r → read_at c (suc n) (c.bytes r ++ rest) ≡ (read_at c n rest >>= λ others. Ok (r ∷ others))
  first_read n r rest fits = go (c.bytes r ++ rest) refl
    where
      go : (bytes : List ℕ) → c.bytes r ++ rest ≡ bytes → read_at c (suc n) bytes ≡ (read_at c n rest >>= λ others. Ok (r ∷ others))
      go [] is = absurd (omega (arith, inverse.some r, length-append (c.bytes r) rest, ap length is))
      go (b ∷ bytes) is =
          ap (λ x. x >>= λ first. (read_at c n first.1 >>= λ others. Ok (first.0 ∷ others))) (ap c.read (sym is) ∙ inverse.read_back r rest fits)

  -- records that are written are read
  pub batch_read : (records : List R) (n : ℕ) → AllByRecursion c.fits records → length (bytes_of c records) ≤ n
      → read_at c n (bytes_of c records) ≡ Ok records
  batch_read [] zero fits h = refl
  batch_read [] (suc n) fits h = refl
  batch_read (r ∷ records) zero fits h = absurd (omega (arith, h, inverse.some r, length-append (c.bytes r) (bytes_of c records)))
  batch_read (r ∷ records) (suc n) fits h =
      first_read n r (bytes_of c records) fits.0
      ∙ ap (λ x. x >>= λ others. Ok (r ∷ others))
      (batch_read records n fits.1 (omega (arith, h, inverse.some r, length-append (c.bytes r) (bytes_of c records))))

  pub batches_read : (batches : List (List R)) → AllByRecursion (AllByRecursion c.fits) batches
      → read_in c (map (bytes_of c) batches) ≡ Ok (all_of batches)
  batches_read [] fits = refl
  batches_read (batch ∷ batches) fits =
      ap (λ x. x >>= λ first. (read_in c (map (bytes_of c) batches) >>= λ others. Ok (first ++ others)))
      (batch_read batch (length (bytes_of c batch)) fits.0 (omega arith))
      ∙ ap (λ x. x >>= λ others. Ok (batch ++ others)) (batches_read batches fits.1)

  -- records that are read stand there
  abbrev AreThere : List R → List ℕ → Type 0
  AreThere records bytes = AllByRecursion c.fits records × (bytes ≡ bytes_of c records)

  none_there : (records : List R) (bytes : List ℕ) → bytes ≡ [] → answered [] ≡ answered records → AreThere records bytes
  none_there [] bytes none e = (tt, none)
  none_there (r ∷ records) bytes none e = absurd cc

  read_there : (n : ℕ) (bytes : List ℕ) (records : List R) → length bytes ≤ n → read_at c n bytes ≡ Ok records → AreThere records bytes
  read_there zero [] records h e = none_there records [] refl e
  read_there zero (b ∷ bytes) records h e = absurd (omega (arith, h))
  read_there (suc n) [] records h e = none_there records [] refl e
  read_there (suc n) (b ∷ bytes) records h e =
      let first = bind_ok (c.read (b ∷ bytes)) _ records e in
      let others = bind_ok (read_at c n first.0.1) _ records first.2 in
      let there = inverse.written (b ∷ bytes) first.0 first.1 in
      let less = length-append (c.bytes first.0.0) first.0.1 in
      let rest = read_there n first.0.1 others.0 (omega (arith, h, inverse.some first.0.0, ap length there.1, less)) others.1 in
      subst (λ rs. AreThere rs (b ∷ bytes)) (same_answer (first.0.0 ∷ others.0) records others.2)
      ((there.0, rest.0), there.1 ∙ ap (λ x. c.bytes first.0.0 ++ x) rest.1)

  pub stand : Stand c
  stand [] [] e = ([], tt, refl, refl)
  stand [] (r ∷ records) e = absurd cc
  stand (p ∷ payloads) records e =
      let first = bind_ok (read_at c (length p) p) _ records e in
      let others = bind_ok (read_in c payloads) _ records first.2 in
      let there = read_there (length p) p first.0 (omega arith) first.1 in
      let rest = stand payloads others.0 others.1 in (
        first.0 ∷ rest.0,
        (there.0, rest.1),
        ap (λ x. x ∷ payloads) there.1 ∙ ap (λ x. bytes_of c first.0 ∷ x) rest.2,
        sym (same_answer (first.0 ++ others.0) records others.2) ∙ ap (λ x. first.0 ++ x) rest.3,
      )
