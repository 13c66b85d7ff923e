-- Steps of an encoding.
use Rattle.std.proofs.Common.{ℕ, ◌≡◌, ◌≤◌, ◌∙◌, List, [], ◌++◌, ap, arith, inl, inr, length, refl, subst, sym, take, take-add, take_all}
use Rattle.std.specs.Prelude.{◌-◌}
use Rattle.std.specs.List.{slice_range}
use Rattle.std.proofs.lemmas.List.{append-nil}
use Rattle.raft_codec.specs.Codec.{Codec}
use Rattle.raft_frames.specs.Crc.{crc32c}
use Rattle.raft_frames.specs.Format.{sum_of, word}
use Rattle.raft_frames.proofs.Sums.{sum_joined}
use Rattle.raft_packed.specs.declared.encoding.Encoded.{Encoded as Whole}
use Rattle.raft_packed.specs.declared.encoding.Encoding.{Encoding}
use Rattle.raft_packed.specs.declared.encoding.Progress.{Progress}
use Rattle.raft_packed.specs.declared.encoding.Progress.TheVariants.{Encoded, Summed}
use Rattle.raft_packed.specs.declared.place.Place.{Place}
use Rattle.raft_packed.specs.declared.place.Place.TheVariants.{Front, End}
use Rattle.raft_packed.specs.Encodings.{IsAt, IsBegun, IsFinished, IsOf, IsReached, IsSummed, IsUpto}

-- the front of bytes up to one place, and then up to another
pub taken_on : (a b : ℕ) (bytes : List ℕ) → a ≤ b → take a bytes ++ slice_range bytes a b ≡ take b bytes
taken_on a b bytes le = sym (take-add a (b - a) bytes) ∙ ap (λ (n : ℕ). take n bytes) (omega (arith, le))

module _ {S : Type 0} (c : Codec S) (left : S → Place → List ℕ) (fits_left : S → Place → Type 0) where
  -- nothing is encoded
  pub begun_is : ((state : S) → (left state Front ≡ c.bytes state) × (fits_left state Front → c.fits state)) → (state : S) (before : ℕ) (front : List ℕ)
      (e : Encoding) → IsBegun before front e → IsOf c left fits_left state e
  begun_is begins state before front e is =
      subst (λ (p : Progress). IsAt c left fits_left e.before state e.front.items e.bytes.items p) (sym is.progress) (record {
        fits = (begins state).1;
        bytes = ap (λ (bs : List ℕ). bs ++ left state Front) (is.bytes ∙ sym is.behind) ∙ ap (λ (bs : List ℕ). e.front.items ++ bs) (begins state).0;
      })

  -- a piece more is
  pub placed : (state : S) (front old new : List ℕ) (at next : Place) → IsUpto c left fits_left state front old at
      → (fits_left state next → fits_left state at) → new ++ left state next ≡ old ++ left state at → IsUpto c left fits_left state front new next
  placed state front old new at next is fits appended = record { fits = λ f. is.fits (fits f); bytes = appended ∙ is.bytes }

  -- all of the state's bytes are there
  pub ended : ((state : S) → (left state End ≡ []) × fits_left state End) → (state : S) (front payload : List ℕ) (at : Place)
      → IsUpto c left fits_left state front payload at → at ≡ End → c.fits state × (payload ≡ front ++ c.bytes state)
  ended ends state front payload at is end =
      let there = subst (λ (p : Place). IsUpto c left fits_left state front payload p) end is in (
        there.fits (ends state).1,
        sym (append-nil payload) ∙ ap (λ (bs : List ℕ). payload ++ bs) (sym (ends state).0) ∙ there.bytes,
      )

  pub reached_is : ((state : S) → (left state End ≡ []) × fits_left state End) → (before : ℕ) (state : S) (front payload : List ℕ) (at : Place) (p : Progress)
      → IsUpto c left fits_left state front payload at → IsReached before payload at p → IsAt c left fits_left before state front payload p
  reached_is ends before state front payload at p is (inl same) =
      subst (λ (q : Progress). IsAt c left fits_left before state front payload q) (sym same) is
  reached_is ends before state front payload at p is (inr sums) =
      let whole = ended ends state front payload at is sums.ends in
      subst (λ (q : Progress). IsAt c left fits_left before state front payload q) (sym sums.begins) (record {
        fits = whole.0;
        bytes = whole.1;
        short = sums.short;
        within = omega arith;
        summed = refl;
      })

  -- a step of the state's bytes
  pub encoded_on : ((state : S) → (left state End ≡ []) × fits_left state End) → (before : ℕ) (state : S) (front old new : List ℕ) (at next : Place)
      (p q : Progress) → IsAt c left fits_left before state front old p → p ≡ Encoded at
      → (fits_left state next → fits_left state at) × (new ++ left state next ≡ old ++ left state at) → IsReached before new next q
      → IsAt c left fits_left before state front new q
  encoded_on ends before state front old new at next p q is there more reached =
      reached_is ends before state front new next q
      (placed state front old new at next (subst (λ (r : Progress). IsAt c left fits_left before state front old r) there is) more.0 more.1) reached

  -- a step of the sum
  pub summed_on : (before : ℕ) (state : S) (front payload : List ℕ) (sum len : ℕ) (next : ℕ × ℕ) (p : Progress)
      → IsAt c left fits_left before state front payload p → p ≡ Summed sum len → next.1 ≤ length payload
      → ((head : List ℕ) → sum ≡ crc32c (head ++ take len payload) → next.0 ≡ crc32c (head ++ take next.1 payload))
      → IsSummed c left fits_left before state front payload next.0 next.1
  summed_on before state front payload sum len next p is there within summed =
      let was = subst (λ (r : Progress). IsAt c left fits_left before state front payload r) there is in record {
        fits = was.fits;
        bytes = was.bytes;
        short = was.short;
        within = within;
        summed = summed (word before ++ word (length payload)) was.summed;
      }

  -- what is encoded and summed
  pub finished_is : (state : S) (before : ℕ) (front : List ℕ) (e : Encoding) (made : Whole) → IsOf c left fits_left state e → IsFinished before front e made
      → (made.bytes.items ≡ front ++ c.bytes state) × c.fits state × (made.sum ≡ sum_of before made.bytes.items)
  finished_is state before front e made is done =
      let payload = e.bytes.items in
      let there = subst (λ (p : Progress). IsAt c left fits_left e.before state e.front.items payload p) done.summed.1 is in
      let same : made.bytes.items ≡ payload = ap (λ bs. bs.items) done.bytes in
      let all : take done.summed.0 payload ≡ payload = take_all done.summed.0 payload done.summed.2 in (
        same ∙ (there.bytes ∙ ap (λ (bs : List ℕ). bs ++ c.bytes state) done.behind),
        there.fits,
        there.summed
            ∙ ap (λ (bs : List ℕ). crc32c ((word e.before ++ word (length payload)) ++ bs)) all
            ∙ sym (sum_joined e.before payload)
            ∙ ap (λ (n : ℕ). sum_of n payload) done.after
            ∙ ap (sum_of before) (sym same),
      )
