-- What a crash leaves of a log's file, whatever codec its records have.
use Rattle.std.specs.Prelude.{ℕ, ◌≡◌, ◌≢◌, ◌≤◌, ◌<◌, ◌+◌, ◌-◌, ◌⊎◌, List, [], ◌∷◌, ◌++◌, Ok, length, map, nat_lt, replicate, take}
use Rattle.std.specs.Prelude.{refl, if◌then◌else◌}
use Rattle.std.specs.List.{AllByRecursion}
use Rattle.std.proofs.Common.{◌∙◌, ap, arith, inl, inr, subst, suc, sym, zero}
use Rattle.std.proofs.lemmas.Bool.{cases_eq, cases_lt, le-ltb, lt-ltb}
use Rattle.std.proofs.lemmas.List.{append_assoc, append-nil, length-append, length-map, map-append}
use Rattle.std.proofs.Math.Seq.{take-append_seam, take-append-add}
use Rattle.raft_frames.specs.declared.header.LogId.{LogId}
use Rattle.raft_frames.specs.Format.{after_all, check_of, frames, header, start, sum_of}
use Rattle.raft_frames.specs.Laws.{IsByte, Keeps, KeepsFilled, contents, file, headed}
use Rattle.raft_frames.specs.Reading.{Contents, new_log, read}
use Rattle.raft_frames.proofs.Bytes.{all-append}
use Rattle.raft_frames.proofs.Changes.{tells_changes}
use Rattle.raft_frames.proofs.Cuts.{recovers}
use Rattle.raft_frames.proofs.Damage.{tells_damage}
use Rattle.raft_frames.proofs.Filled.{recovers_filled}
use Rattle.raft_frames.proofs.Runs.{read-file}
use Rattle.raft_frames.proofs.Spelled.{bytes_take}
use Rattle.raft_codec.specs.Codec.{Codec, IsCodec}
use Rattle.proof_logs.specs.BatchLaws.{CutsLeave, FilledCutsLeave, IsCutOf, Leaves, ReadBack, ReadsByChanceOf, TellDamage, cut_of}
use Rattle.proof_logs.specs.Batches.{AreBatchesOf, IsFileOf, bytes_of, file_of, one_batch, read_in}
use Rattle.proof_logs.proofs.Files.{are_payloads, file_bytes, kept_is, zeros_bytes}
use Rattle.proof_logs.proofs.Records.{batches_join, batches_read, each_fits}

-- what stands of a list is none or all of one payload
take_none : {A : Type 0} (n : ℕ) → take {A = A} n [] ≡ []
take_none zero = refl
take_none (suc n) = refl

-- whether two lists of numbers are the same, and two lists of such lists
same_list : {A : Type 0} → ((x y : A) → (x ≡ y) ⊎ (x ≢ y)) → (xs ys : List A) → (xs ≡ ys) ⊎ (xs ≢ ys)
same_list same [] [] = inl refl
same_list same [] (y ∷ ys) = inr (λ e. absurd cc)
same_list same (x ∷ xs) [] = inr (λ e. absurd cc)
same_list same (x ∷ xs) (y ∷ ys) = go (same x y) (same_list same xs ys)
  where
    go : ((x ≡ y) ⊎ (x ≢ y)) → ((xs ≡ ys) ⊎ (xs ≢ ys)) → (x ∷ xs ≡ y ∷ ys) ⊎ (x ∷ xs ≢ y ∷ ys)
    go (inl e) (inl f) = inl (λ i. e i ∷ f i)
    go (inr e) f = inr (λ g. e cc)
    go (inl e) (inr f) = inr (λ g. f cc)

module _ {R : Type 0} (c : Codec R) (inverse : IsCodec c) where
  pub read_back : ReadBack c
  read_back log batches are = record {
    contents = contents log (map (bytes_of c) batches);
    payloads = refl;
    tail = refl;
    holds = record {
      frames = read-file log (map (bytes_of c) batches) (are_payloads c batches are);
      decoded = batches_read c inverse batches (each_fits c batches are);
    };
  }

  -- what stands of a batch's payloads is none or all
  take_batch : (n : ℕ) (next : List R)
      → (take n (map (bytes_of c) (one_batch next)) ≡ []) ⊎ (take n (map (bytes_of c) (one_batch next)) ≡ map (bytes_of c) (one_batch next))
  take_batch n [] = inl (take_none n)
  take_batch zero (r ∷ next) = inl refl
  take_batch (suc n) (r ∷ next) = inr (ap (λ xs. bytes_of c (r ∷ next) ∷ xs) (take_none n))

  module _ (log : LogId) (batches : List (List R)) (next : List R) (n : ℕ) (cut : IsCutOf c log batches next n) where
    abbrev payloads : List (List ℕ)
    payloads = map (bytes_of c) batches

    abbrev more : List (List ℕ)
    more = map (bytes_of c) (one_batch next)

    abbrev all : List (List ℕ)
    all = map (bytes_of c) (batches ++ one_batch next)

    -- what a cut leaves
    abbrev left : List ℕ
    left = cut_of c log batches next n

    whole_are : AreBatchesOf c (batches ++ one_batch next)
    whole_are = batches_join c batches (one_batch next) cut.writable cut.more

    both : all ≡ payloads ++ more
    both = map-append (bytes_of c) batches (one_batch next)

    -- batches that are read are left
    leaves : (bytes : List ℕ) (left : List (List R)) → (left ≡ batches) ⊎ (left ≡ batches ++ one_batch next) → AreBatchesOf c left
        → (there : Contents) → there.payloads ≡ map (bytes_of c) left → there.tail ≡ after_all (start log) (map (bytes_of c) left)
        → read log bytes ≡ Ok there → IsFileOf c log left (take there.end bytes)
        → Leaves c log batches next bytes
    leaves bytes left whole are there payloads tail reads kept = record {
      left = left;
      whole = whole;
      writable = are;
      found = record {
        contents = there;
        payloads = payloads;
        tail = tail;
        holds = record { frames = reads; decoded = ap (read_in c) payloads ∙ batches_read c inverse left (each_fits c left are) };
      };
      kept = kept;
    }

    none_survive : (bytes : List ℕ) → AllByRecursion IsByte bytes → read log bytes ≡ Ok (contents log payloads) → Leaves c log batches next bytes
    none_survive bytes each reads =
        leaves bytes batches (inl refl) cut.writable (contents log payloads) refl refl reads (inr (kept_is log bytes payloads each reads))

    none_begun : (bytes : List ℕ) → batches ≡ [] → read log bytes ≡ Ok (new_log log) → Leaves c log batches next bytes
    none_begun bytes none reads = leaves bytes [] (inl (sym none)) tt (new_log log) refl refl reads (inl (refl, refl))

    all_survive : (bytes : List ℕ) → AllByRecursion IsByte bytes → read log bytes ≡ Ok (contents log (payloads ++ more))
        → Leaves c log batches next bytes
    all_survive bytes each reads =
        leaves bytes (batches ++ one_batch next) (inr refl) whole_are
        (contents log all) refl refl (reads ∙ ap (λ ps. Ok (contents log ps)) (sym both))
        (inr (kept_is log bytes all each (reads ∙ ap (λ ps. Ok (contents log ps)) (sym both))))

    -- a cut in the header loses no batch
    early : n < 32 → batches ≡ []
    early few = go cut.is
      where
        go : IsFileOf c log batches cut.file → batches ≡ []
        go (inl none) = none.1
        go (inr full) = absurd (omega (arith, cut.there, ap length full, few, length-append (header log) (frames (start log) payloads)))

    -- the frames that were on disk are read
    front : take (length batches) all ≡ payloads
    front =
        ap (take (length batches)) both
        ∙ (ap (λ i. take i (payloads ++ more)) (sym (length-map batches (bytes_of c))) ∙ take-append_seam payloads more)

    kept_all : (kept : ℕ)
        → ((j : ℕ) → j ≤ length all → length (file log (take j all)) ≤ n → j ≤ kept)
        → take kept all ≡ payloads ++ take (kept - length batches) more
    kept_all kept enough =
        let size : length payloads ≡ length batches = length-map batches (bytes_of c) in
        let within : length batches ≤ length all = omega (arith, ap length both, length-append payloads more, size) in
        let there : length batches ≤ kept = go cut.is within in
        let place : kept ≡ length payloads + (kept - length batches) = omega (arith, there, size) in
        ap (take kept) both ∙ (ap (λ i. take i (payloads ++ more)) place ∙ take-append-add payloads more (kept - length batches))
      where
        go : IsFileOf c log batches cut.file → length batches ≤ length all → length batches ≤ kept
        go (inl none) within = omega (arith, ap length none.1)
        go (inr full) within =
            enough (length batches) within (subst (λ ps. length (file log ps) ≤ n) (sym front) (omega (arith, cut.there, ap length full)))

    bytes_left : AllByRecursion IsByte left
    bytes_left = bytes_take n (file_of c log (batches ++ one_batch next)) (file_bytes log all (are_payloads c (batches ++ one_batch next) whole_are))

    pub cut_leaves : Leaves c log batches next left
    cut_leaves =
        let keeps : Keeps log all n left = recovers log all n (are_payloads c (batches ++ one_batch next) whole_are) in
        go keeps.kept (kept_all keeps.kept keeps.enough) keeps.reads (cases_lt n 32)
      where
        by_batch : (i : ℕ) → read log left ≡ Ok (contents log (payloads ++ take i more)) → ((take i more ≡ []) ⊎ (take i more ≡ more))
            → Leaves c log batches next left
        by_batch i reads (inl none) =
            none_survive left bytes_left
            (reads ∙ (ap (λ ps. Ok (contents log (payloads ++ ps))) none ∙ ap (λ ps. Ok (contents log ps)) (append-nil payloads)))
        by_batch i reads (inr whole) = all_survive left bytes_left (reads ∙ ap (λ ps. Ok (contents log (payloads ++ ps))) whole)

        go : (kept : ℕ) → take kept all ≡ payloads ++ take (kept - length batches) more
            → read log left ≡ Ok (if nat_lt n 32 then new_log log else contents log (take kept all)) → ((n < 32) ⊎ (32 ≤ n))
            → Leaves c log batches next left
        go kept is reads (inl few) =
            none_begun left (early few) (reads ∙ ap (λ t. Ok (if t then new_log log else contents log (take kept all))) (lt-ltb n 32 few))
        go kept is reads (inr many) =
            by_batch (kept - length batches)
            (reads
            ∙ (ap (λ t. Ok (if t then new_log log else contents log (take kept all))) (le-ltb n 32 many) ∙ ap (λ ps. Ok (contents log ps)) is))
            (take_batch (kept - length batches) next)

    module _ (zeros : ℕ) where
      abbrev filled : List ℕ
      filled = left ++ replicate zeros 0

      by_found : (found : List (List ℕ)) → read log filled ≡ Ok (contents log (payloads ++ found))
          → Leaves c log batches next filled ⊎ ReadsByChanceOf c log batches next filled
      by_found [] reads =
          inl (none_survive filled (all-append left (replicate zeros 0) bytes_left (zeros_bytes zeros))
          (reads ∙ ap (λ ps. Ok (contents log ps)) (append-nil payloads)))
      by_found (p ∷ ps) reads = go (same_list (same_list cases_eq) (p ∷ ps) more)
        where
          go : ((p ∷ ps ≡ more) ⊎ (p ∷ ps ≢ more)) → Leaves c log batches next filled ⊎ ReadsByChanceOf c log batches next filled
          go (inl same) =
              inl (all_survive filled (all-append left (replicate zeros 0) bytes_left (zeros_bytes zeros))
              (reads ∙ ap (λ x. Ok (contents log (payloads ++ x))) same))
          go (inr other) = inr (record { found = p ∷ ps; reads = reads; some = λ e. absurd cc; other = other })

      pub filled_leaves : Leaves c log batches next filled ⊎ ReadsByChanceOf c log batches next filled
      filled_leaves =
          let keeps : KeepsFilled log all n filled =
          recovers_filled log all n zeros (are_payloads c (batches ++ one_batch next) whole_are) in
          go keeps.kept keeps.torn (kept_all keeps.kept keeps.enough) keeps.reads
        where
          go : (kept : ℕ) (torn : List (List ℕ))
              → take kept all ≡ payloads ++ take (kept - length batches) more
              → (read log filled ≡ Ok (contents log (take kept all ++ torn))) ⊎ ((n < 32) × (read log filled ≡ Ok (new_log log)))
              → Leaves c log batches next filled ⊎ ReadsByChanceOf c log batches next filled
          go kept torn is (inl reads) =
              by_found (take (kept - length batches) more ++ torn)
              (reads
              ∙ (ap (λ ps. Ok (contents log (ps ++ torn))) is
              ∙ ap (λ ps. Ok (contents log ps)) (append_assoc payloads (take (kept - length batches) more) torn)))
          go kept torn is (inr few) = inl (none_begun filled (early few.0) few.1)

  pub cuts_leave : CutsLeave c
  cuts_leave log batches next n cut = cut_leaves log batches next n cut

  pub filled_cuts_leave : FilledCutsLeave c
  filled_cuts_leave log batches next n zeros cut = filled_leaves log batches next n cut zeros

-- another byte
pub damage_told : {R : Type 0} (c : Codec R) → TellDamage c
damage_told c log batches batch behind front back rest b other are fits later is byte another =
    let there = after_all (start log) (map (bytes_of c) batches) in
    let len = length (bytes_of c batch) in
    let bytes = headed len (check_of there.seed there.position len) (sum_of there.sum (bytes_of c batch)) (front ++ other ∷ back) in
    let size : length bytes ≡ 12 + len = omega (arith, ap length is, length-append front (b ∷ back), length-append front (other ∷ back)) in
    tells_damage log (map (bytes_of c) batches) (bytes_of c batch) bytes (bytes_of c behind) rest (are_payloads c batches are) later.payload size
    ((tells_changes there (bytes_of c batch) fits.payload).another_byte front back b other is byte another)
