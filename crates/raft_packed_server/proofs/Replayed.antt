-- What a log's records make of what was recovered before them: each goes on with what those before it made.
use Rattle.std.proofs.Common.{ℕ, zero, suc, ◌≡◌, ◌<◌, ◌≤◌, ◌∙◌, List, [], ◌∷◌, ◌++◌, length, Result, Ok, Err, refl, sym, ap, append_assoc, arith}
use Rattle.std.specs.Prelude.{OnOk, fold, is_ok, true}
use Rattle.std.proofs.lemmas.List.{append-nil, length-append}
use Rattle.std.proofs.lemmas.List.Sums.{fold-append}
use Rattle.raft_codec.specs.declared.error.DecodeError.{DecodeError}
use Rattle.raft_codec.specs.declared.error.DecodeError.TheVariants.{OutOfMemory, Malformed}
use Rattle.raft_codec.specs.Codec.{Codec, IsCodec, ◌>>=◌, Refuses}
use Rattle.raft_codec.specs.CodecLaws.{answered}
use Rattle.proof_logs.specs.Batches.{read_at, read_in}

-- what holds on success
pub at_ok : {T E P : Type 0} (r : Result T E) → is_ok r ≡ true → OnOk r P → P
at_ok (Ok x) ok h = h
at_ok (Err e) ok h = absurd cc

module _ {R : Type 0} where
  -- found behind others
  abbrev behind_these : List R → Result (List R) DecodeError → Result (List R) DecodeError
  behind_these rs found = found >>= λ others. Ok (rs ++ others)

  abbrev behind_this : R → Result (List R) DecodeError → Result (List R) DecodeError
  behind_this y found = found >>= λ others. Ok (y ∷ others)

  none_before : (r : Result (List R) DecodeError) → r ≡ behind_these [] r
  none_before (Ok others) = refl
  none_before (Err e) = refl

  then_other : (rs : List R) (y : R) (r : Result (List R) DecodeError) → behind_these rs (behind_this y r) ≡ behind_these (rs ++ y ∷ []) r
  then_other rs y (Ok others) = ap answered (sym (append_assoc rs (y ∷ []) others))
  then_other rs y (Err e) = refl

  then_others : (rs more : List R) (r : Result (List R) DecodeError) → behind_these rs (behind_these more r) ≡ behind_these (rs ++ more) r
  then_others rs more (Ok others) = ap answered (sym (append_assoc rs more others))
  then_others rs more (Err e) = refl

module _ {R D : Type 0} (c : Codec R) (inverse : IsCodec c) (with : R → D → D) where
  -- what records make, in their order
  abbrev with_all : List R → D → D
  with_all rs d = fold (λ disk r. with r disk) d rs

  all_behind : (rs more : List R) (d : D) → with_all more (with_all rs d) ≡ with_all (rs ++ more) d
  all_behind rs more d = sym (fold-append (λ (disk : D) (r : R). with r disk) d rs more)

  -- ---- the records of a frame

  none_left : (n : ℕ) → read_at c n [] ≡ Ok []
  none_left zero = refl
  none_left (suc n) = refl

  one_read : (n : ℕ) (rest left : List ℕ) (y : R) → 0 < length rest → c.read rest ≡ Ok (y, left)
      → read_at c (suc n) rest ≡ behind_this y (read_at c n left)
  one_read n [] left y some found = absurd (omega (arith, some))
  one_read n (b ∷ bs) left y some found = ap (λ x. x >>= λ first. (read_at c n first.1 >>= λ others. Ok (first.0 ∷ others))) found

  one_refused : (n : ℕ) (rest : List ℕ) (e : DecodeError) → 0 < length rest → c.read rest ≡ Err e → read_at c (suc n) rest ≡ Err e
  one_refused n [] e some bad = absurd (omega (arith, some))
  one_refused n (b ∷ bs) e some bad = ap (λ x. x >>= λ first. (read_at c n first.1 >>= λ others. Ok (first.0 ∷ others))) bad

  -- so many records of a frame were taken, and what is left of it is read
  pub record Taking (payload : List ℕ) (old : D) (rest : List ℕ) (now : D) : Type 0 where
    pub fuel : ℕ
    pub enough : length rest ≤ fuel
    pub taken : List R
    pub reads : read_at c (length payload) payload ≡ behind_these taken (read_at c fuel rest)
    pub makes : now ≡ with_all taken old

  pub frame_begins : (payload : List ℕ) (old : D) → Taking payload old payload old
  frame_begins payload old = record {
    fuel = length payload;
    enough = omega arith;
    taken = [];
    reads = none_before (read_at c (length payload) payload);
    makes = refl;
  }

  -- a record that is read takes a byte at least
  pub shorter : (rest left : List ℕ) (y : R) → c.read rest ≡ Ok (y, left) → length left < length rest
  shorter rest left y found = omega (arith, inverse.some y, ap length (inverse.written rest (y, left) found).1, length-append (c.bytes y) left)

  pub frame_goes_on : (payload rest left : List ℕ) (old now new : D) (y : R) → Taking payload old rest now → 0 < length rest
      → c.read rest ≡ Ok (y, left)
      → new ≡ with y now → Taking payload old left new
  frame_goes_on payload rest left old now new y t some found next = go t.fuel refl
    where
      go : (n : ℕ) → t.fuel ≡ n → Taking payload old left new
      go zero e = absurd (omega (arith, t.enough, some, e))
      go (suc n) e = record {
        fuel = n;
        enough = omega (arith, t.enough, shorter rest left y found, e);
        taken = t.taken ++ y ∷ [];
        reads =
            t.reads
            ∙ (ap (λ k. behind_these t.taken (read_at c k rest)) e
            ∙ (ap (behind_these t.taken) (one_read n rest left y some found) ∙ then_other t.taken y (read_at c n left)));
        makes = next ∙ (ap (with y) t.makes ∙ all_behind t.taken (y ∷ []) old);
      }

  -- all of the frame's records were taken
  pub record Taken (records : Result (List R) DecodeError) (old new : D) : Type 0 where
    pub all : List R
    pub are : records ≡ Ok all
    pub make : new ≡ with_all all old

  pub frame_ends : (payload : List ℕ) (old now : D) → Taking payload old [] now → Taken (read_at c (length payload) payload) old now
  frame_ends payload old now t = record {
    all = t.taken;
    are = t.reads ∙ (ap (behind_these t.taken) (none_left t.fuel) ∙ ap answered (append-nil t.taken));
    make = t.makes;
  }

  pub frame_refused : (payload rest : List ℕ) (old now : D) (e : DecodeError) → Taking payload old rest now → 0 < length rest
      → Refuses (c.read rest) e
      → Refuses (read_at c (length payload) payload) e
  frame_refused payload rest old now OutOfMemory t some bad = tt
  frame_refused payload rest old now (Malformed fault left) t some bad = go t.fuel refl
    where
      go : (n : ℕ) → t.fuel ≡ n → read_at c (length payload) payload ≡ Err (Malformed fault left)
      go zero e = absurd (omega (arith, t.enough, some, e))
      go (suc n) e =
          t.reads
          ∙ (ap (λ k. behind_these t.taken (read_at c k rest)) e ∙ ap (behind_these t.taken) (one_refused n rest (Malformed fault left) some bad))

  -- ---- the frames of a log

  pub record TakingAll (all : List (List ℕ)) (old : D) (rest : List (List ℕ)) (now : D) : Type 0 where
    pub taken : List R
    pub reads : read_in c all ≡ behind_these taken (read_in c rest)
    pub makes : now ≡ with_all taken old

  pub log_begins : (all : List (List ℕ)) (old : D) → TakingAll all old all old
  log_begins all old = record { taken = []; reads = none_before (read_in c all); makes = refl }

  first_taken : (payload : List ℕ) (rest : List (List ℕ)) (more : List R) → read_at c (length payload) payload ≡ Ok more
      → read_in c (payload ∷ rest) ≡ behind_these more (read_in c rest)
  first_taken payload rest more e = ap (λ x. x >>= λ first. (read_in c rest >>= λ others. Ok (first ++ others))) e

  pub log_goes_on : (all rest : List (List ℕ)) (payload : List ℕ) (old now new : D) → TakingAll all old (payload ∷ rest) now
      → Taken (read_at c (length payload) payload) now new
      → TakingAll all old rest new
  log_goes_on all rest payload old now new t next = record {
    taken = t.taken ++ next.all;
    reads =
        t.reads
        ∙ (ap (behind_these t.taken) (first_taken payload rest next.all next.are) ∙ then_others t.taken next.all (read_in c rest));
    makes = next.make ∙ (ap (with_all next.all) t.makes ∙ all_behind t.taken next.all old);
  }

  pub log_ends : (all : List (List ℕ)) (old now : D) → TakingAll all old [] now → Taken (read_in c all) old now
  log_ends all old now t = record { all = t.taken; are = t.reads ∙ ap answered (append-nil t.taken); make = t.makes }

  pub log_refused : (all rest : List (List ℕ)) (payload : List ℕ) (old now : D) (e : DecodeError) → TakingAll all old (payload ∷ rest) now
      → Refuses (read_at c (length payload) payload) e → Refuses (read_in c all) e
  log_refused all rest payload old now OutOfMemory t bad = tt
  log_refused all rest payload old now (Malformed fault left) t bad =
      t.reads ∙ ap (λ x. behind_these t.taken (x >>= λ first. (read_in c rest >>= λ others. Ok (first ++ others)))) bad
