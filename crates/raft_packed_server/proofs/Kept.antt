-- Values that stand in bytes one behind the other are seen as those values.
use Rattle.std.proofs.Common.{ℕ, ◌≡◌, ◌≤◌, ◌+◌, ◌∙◌, List, [], ◌∷◌, ◌++◌, length, Result, Ok, refl, sym, ap, subst, append_assoc, arith}
use Rattle.std.specs.Prelude.{Err, OnOk, if◌then◌else◌, is_ok}
use Rattle.std.specs.List.{AllByRecursion, flat_map}
use Rattle.std.proofs.lemmas.List.{append-nil, length-append}
use Rattle.std.proofs.lemmas.List.Concat.{flat_map-append}
use Rattle.std.proofs.lemmas.Result.{on_ok_weaker}
use Rattle.raft_codec.specs.Codec.{Codec, IsCodec, Writes, items_at, list, number}
use Rattle.raft_packed_server.specs.Encoded.{AreBytesOf, found_in, values_in}

-- what was appended stands there unless memory ran out
pub appended : {E : Type 0} (r : Result (Unit {0}) E) (old new more bs : List ℕ) → more ≡ bs → new ≡ (if is_ok r then old ++ more else old) → OnOk r (new ≡ old ++ bs)
appended (Ok x) old new more bs same h = h ∙ ap (λ b. old ++ b) same
appended (Err e) old new more bs same h = tt

module _ {X : Type 0} (c : Codec X) where
  all_both : (xs ys : List X) → AllByRecursion c.fits xs → AllByRecursion c.fits ys → AllByRecursion c.fits (xs ++ ys)
  all_both [] ys f g = g
  all_both (x ∷ xs) ys f g = (f.0, all_both xs ys f.1 g)

  -- the bytes of more values stand behind those of others
  pub more_are : (xs ys : List X) (n m : ℕ) (bs cs : List ℕ) → AreBytesOf c xs n bs → m ≡ n + length ys → AllByRecursion c.fits ys → cs ≡ bs ++ flat_map c.bytes ys
      → AreBytesOf c (xs ++ ys) m cs
  more_are xs ys n m bs cs are count fit bytes = record {
    count = count ∙ (ap (λ k. k + length ys) are.count ∙ sym (length-append xs ys));
    fit = all_both xs ys are.fit fit;
    bytes = bytes ∙ (ap (λ b. b ++ flat_map c.bytes ys) are.bytes ∙ sym (flat_map-append c.bytes xs ys));
  }

module _ {X : Type 0} (c : Codec X) (h : IsCodec c) where
  items_back : (xs : List X) (rest : List ℕ) → AllByRecursion c.fits xs → items_at c (length xs) (flat_map c.bytes xs ++ rest) ≡ Ok (xs, rest)
  unfolding items_at
  items_back [] rest f = refl
  items_back (x ∷ xs) rest f = rw (append_assoc (c.bytes x) (flat_map c.bytes xs) rest, h.read_back x (flat_map c.bytes xs ++ rest) f.0, items_back xs rest f.1) refl

  -- the values whose bytes stand there are read
  pub are_values : (xs : List X) (n : ℕ) (bs : List ℕ) → AreBytesOf c xs n bs → values_in c n bs ≡ xs
  are_values xs n bs are =
      ap found_in ((λ i. items_at c (are.count i) (are.bytes i)) ∙ (ap (items_at c (length xs)) (sym (append-nil (flat_map c.bytes xs))) ∙ items_back xs [] are.fit))

  -- so what is seen keeps the invariant
  pub are_kept : (xs : List X) (n : ℕ) (bs : List ℕ) → AreBytesOf c xs n bs → AreBytesOf c (values_in c n bs) n bs
  are_kept xs n bs are = subst (λ ys. AreBytesOf c ys n bs) (sym (are_values xs n bs are)) are

  -- no bytes are no values
  none_of : (bs : List ℕ) → bs ≡ [] → AreBytesOf c [] 0 bs
  none_of bs none = record { count = refl; fit = tt; bytes = none }

  pub none_kept : (bs : List ℕ) → bs ≡ [] → AreBytesOf c (values_in c 0 bs) 0 bs
  none_kept bs none = are_kept [] 0 bs (none_of bs none)

  pub none_seen : (bs : List ℕ) → bs ≡ [] → values_in c 0 bs ≡ []
  none_seen bs none = are_values [] 0 bs (none_of bs none)

  -- a list is written as how many values there are, and their bytes
  pub list_written : {E : Type 0} (xs : List X) (n : ℕ) (bs old middle new : List ℕ) (r : Result (Unit {0}) E) → AreBytesOf c xs n bs
      → number.fits n × (middle ≡ old ++ number.bytes n) → OnOk r (new ≡ middle ++ bs) → Writes (list c) xs r old new
  unfolding list
  list_written xs n bs old middle new r are counted more =
      on_ok_weaker r (λ e. (
        (subst number.fits are.count counted.0, are.fit),
        e ∙ (ap (λ m. m ++ bs) counted.1 ∙ (append_assoc old (number.bytes n) bs ∙ (λ i. old ++ (number.bytes (are.count i) ++ are.bytes i)))),
      )) more

  -- each value takes a byte at least
  length_short : (xs : List X) → length xs ≤ length (flat_map c.bytes xs)
  length_short [] = omega arith
  length_short (x ∷ xs) = omega (arith, h.some x, length_short xs, length-append (c.bytes x) (flat_map c.bytes xs))

  pub count_short : (n : ℕ) (bs : List ℕ) → AreBytesOf c (values_in c n bs) n bs → n ≤ length bs
  count_short n bs are = omega (arith, are.count, ap length are.bytes, length_short (values_in c n bs))

  -- some more values behind those that are seen
  pub more_kept : (n m : ℕ) (bs cs : List ℕ) (ys : List X) → AreBytesOf c (values_in c n bs) n bs → m ≡ n + length ys → AllByRecursion c.fits ys × (cs ≡ bs ++ flat_map c.bytes ys)
      → AreBytesOf c (values_in c m cs) m cs
  more_kept n m bs cs ys are count written = are_kept (values_in c n bs ++ ys) m cs (more_are c (values_in c n bs) ys n m bs cs are count written.0 written.1)

  pub more_seen : (n m : ℕ) (bs cs : List ℕ) (ys : List X) → AreBytesOf c (values_in c n bs) n bs → m ≡ n + length ys → AllByRecursion c.fits ys × (cs ≡ bs ++ flat_map c.bytes ys)
      → values_in c m cs ≡ values_in c n bs ++ ys
  more_seen n m bs cs ys are count written = are_values (values_in c n bs ++ ys) m cs (more_are c (values_in c n bs) ys n m bs cs are count written.0 written.1)

  -- one more
  one_written : (bs cs : List ℕ) (x : X) → c.fits x × (cs ≡ bs ++ c.bytes x) → AllByRecursion c.fits (x ∷ []) × (cs ≡ bs ++ flat_map c.bytes (x ∷ []))
  one_written bs cs x written = ((written.0, tt), written.1 ∙ ap (λ b. bs ++ b) (sym (append-nil (c.bytes x))))

  pub one_kept : (n : ℕ) (bs cs : List ℕ) (x : X) → AreBytesOf c (values_in c n bs) n bs → c.fits x × (cs ≡ bs ++ c.bytes x) → AreBytesOf c (values_in c (n + 1) cs) (n + 1) cs
  one_kept n bs cs x are written = more_kept n (n + 1) bs cs (x ∷ []) are refl (one_written bs cs x written)

  pub one_seen : (n : ℕ) (bs cs : List ℕ) (x : X) → AreBytesOf c (values_in c n bs) n bs → c.fits x × (cs ≡ bs ++ c.bytes x) → values_in c (n + 1) cs ≡ values_in c n bs ++ x ∷ []
  one_seen n bs cs x are written = more_seen n (n + 1) bs cs (x ∷ []) are refl (one_written bs cs x written)
