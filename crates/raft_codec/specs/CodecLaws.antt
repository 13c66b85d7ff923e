-- Each codec's reader is the inverse of its writer.
use Rattle.std.proofs.Common.{ℕ, zero, suc, ◌≡◌, ◌⊎◌, ◌<◌, ◌≤◌, Bool, true, false, cond, ltb, eqb, List, [], ◌∷◌, ◌++◌, length, take, drop, Option, None, Some, Result, Ok, Err, refl, sym, ap, subst, ◌∙◌, append_assoc, arith, inl, inr}
use Rattle.std.specs.List.{AllByRecursion, flat_map}
use Rattle.std.proofs.lemmas.Bool.{cases_lt, ltb-false, lt-ltb, le-ltb, eqb-true}
use Rattle.std.proofs.lemmas.List.{take_at, drop_at, take-append-drop, length-append, length-take}
use Rattle.raft_codec.specs.declared.error.DecodeError.{DecodeError}
use Rattle.raft_codec.specs.declared.error.Fault.{Fault}
use Rattle.raft_codec.specs.Codec.{Codec, IsCodec, ◌>>=◌, leb128, leb128_at, at_front, number, tag_at, length_at, flag, raw, optional, items_at, list, pair, by_parts, by_tested}
use Rattle.raft_codec.specs.NumberLaws.{stood, read_back}

pub bind_ok : {A B E : Type 0} (r : Result A E) (f : A → Result B E) (y : B) → (r >>= f) ≡ Ok y → (x : A) × (r ≡ Ok x) × (f x ≡ Ok y)
bind_ok (Ok x) f y e = (x, refl, e)
bind_ok (Err d) f y e = absurd cc

pub chosen : {A : Type 0} (t : Bool) (x y z : A) → cond t x y ≡ z → ((t ≡ true) × (x ≡ z)) ⊎ ((t ≡ false) × (y ≡ z))
chosen true x y z e = inl (refl, e)
chosen false x y z e = inr (refl, e)

abbrev pub answered : {A : Type 0} → A → Result A DecodeError
answered x = Ok x

pub same_answer : {A : Type 0} (x y : A) → answered x ≡ answered y → x ≡ y
same_answer x y e = cc

abbrev pub Stands : {X : Type 0} → Codec X → List ℕ → X × List ℕ → Type 0
Stands c front found = c.fits found.0 × (front ≡ c.bytes found.0 ++ found.1)

-- ---- numbers

no_fault : {X : Type 0} (front : List ℕ) (r : Result X Fault) (x : X) → at_front front r ≡ Ok x → r ≡ Ok x
no_fault front (Ok y) x e = ap Ok (same_answer y x e)
no_fault front (Err f) x e = absurd cc

number_some : (n : ℕ) → (n < 128) ⊎ (128 ≤ n) → 0 < length (leb128 9 n)
unfolding leb128
number_some n (inl h) = rw (lt-ltb n 128 h) (omega arith)
number_some n (inr h) = rw (le-ltb n 128 h) (omega arith)

pub number_is : IsCodec number
unfolding number
number_is = record {
  written = λ front found e. let s = stood 9 front found (no_fault front (leb128_at 9 front) found e) in (let f = s.fits in omega arith, s.stood);
  some = λ n. number_some n (cases_lt n 128);
  read_back = λ n rest f. rw (read_back 9 n rest (omega arith)) refl;
}

-- ---- tags

tag_front : (front : List ℕ) (x : ℕ × List ℕ) → tag_at front ≡ Ok x → front ≡ x.0 ∷ x.1
unfolding tag_at
tag_front [] x e = absurd cc
tag_front (b ∷ bs) x e = let y : ℕ × List ℕ = (b, bs) in ap (λ (z : ℕ × List ℕ). z.0 ∷ z.1) (same_answer y x e)

-- the tag that stood at the front is this one
pub tag_is : (front : List ℕ) (x : ℕ × List ℕ) (tag : ℕ) → tag_at front ≡ Ok x → eqb x.0 tag ≡ true → front ≡ tag ∷ x.1
tag_is front x tag e h = tag_front front x e ∙ ap (λ b. b ∷ x.1) (eqb-true x.0 tag h)

pub flag_is : IsCodec flag
unfolding flag tag_at
flag_is = record {
  written = λ front found e.
      let t = bind_ok (tag_at front) _ found e in
      elim (chosen (eqb t.0.0 0) _ _ _ t.2) [
        | inl h ↦ subst (Stands flag front) (same_answer (false, t.0.1) found h.1) (tt, tag_is front t.0 0 t.1 h.0)
        | inr h ↦ elim (chosen (eqb t.0.0 1) _ _ _ h.1) [
          | inl k ↦ subst (Stands flag front) (same_answer (true, t.0.1) found k.1) (tt, tag_is front t.0 1 t.1 k.0)
          | inr k ↦ absurd cc
        ]
      ];
  some = λ b. omega arith;
  read_back = λ b rest f. elim b as (λ b. flag.read (flag.bytes b ++ rest) ≡ Ok (b, rest)) [ true ↦ refl | false ↦ refl ];
}

module _ {X : Type 0} (c : Codec X) (h : IsCodec c) where
  optional_some : (x : Option X) → 0 < length ((optional c).bytes x)
  unfolding optional
  optional_some None = omega arith
  optional_some (Some x) = omega arith

  optional_back : (x : Option X) (rest : List ℕ) → (optional c).fits x → (optional c).read ((optional c).bytes x ++ rest) ≡ Ok (x, rest)
  unfolding optional tag_at
  optional_back None rest f = refl
  optional_back (Some x) rest f = rw (h.read_back x rest f) refl

  optional_written : (front : List ℕ) (found : Option X × List ℕ) → (optional c).read front ≡ Ok found → Stands (optional c) front found
  unfolding optional
  optional_written front found e =
      let t = bind_ok (tag_at front) _ found e in
      elim (chosen (eqb t.0.0 0) _ _ _ t.2) [
        | inl k ↦ subst (Stands (optional c) front) (same_answer (None, t.0.1) found k.1) (tt, tag_is front t.0 0 t.1 k.0)
        | inr k ↦ elim (chosen (eqb t.0.0 1) _ _ _ k.1) [
          | inl l ↦
              let r = bind_ok (c.read t.0.1) _ found l.1 in
              let w = h.written t.0.1 r.0 r.1 in
              subst (Stands (optional c) front) (same_answer (Some r.0.0, r.0.1) found r.2) (w.0, tag_is front t.0 1 t.1 l.0 ∙ ap (λ bs. 1 ∷ bs) w.1)
          | inr l ↦ absurd cc
        ]
      ]

  pub optional_is : IsCodec (optional c)
  optional_is = record { written = optional_written; some = optional_some; read_back = optional_back }

-- ---- lengths

length_written : (front : List ℕ) (found : ℕ × List ℕ) → length_at front ≡ Ok found → Stands number front found × (found.0 ≤ length found.1)
unfolding length_at
length_written front found e =
    let n = bind_ok (number.read front) _ found e in
    elim (chosen (ltb (length n.0.1) n.0.0) _ _ _ n.2) [
      | inl k ↦ absurd cc
      | inr k ↦
          let w = number_is.written front n.0 n.1 in
          subst (λ (y : ℕ × List ℕ). Stands number front y × (y.0 ≤ length y.1)) (same_answer n.0 found k.1) (w, ltb-false _ _ k.0)
    ]

length_back : (n : ℕ) (rest : List ℕ) → number.fits n → n ≤ length rest → length_at (number.bytes n ++ rest) ≡ Ok (n, rest)
unfolding length_at
length_back n rest f l = rw (number_is.read_back n rest f, le-ltb (length rest) n l) refl

pub raw_is : IsCodec raw
unfolding raw
raw_is = record {
  written = λ front found e.
      let n = bind_ok (length_at front) _ found e in
      let w = length_written front n.0 n.1 in
      let front_part = take n.0.0 n.0.1 in
      let back_part = drop n.0.0 n.0.1 in
      let len : length front_part ≡ n.0.0 = omega (arith, length-take n.0.0 n.0.1) in
      subst (Stands raw front) (same_answer (front_part, back_part) found n.2) (
        subst number.fits (sym len) w.0.0,
        w.0.1
            ∙ ap (λ bs. number.bytes n.0.0 ++ bs) (sym (take-append-drop n.0.0 n.0.1))
            ∙ sym (append_assoc (number.bytes n.0.0) front_part back_part)
            ∙ ap (λ k. (number.bytes k ++ front_part) ++ back_part) (sym len),
      );
  some = λ bytes. omega (arith, number_is.some (length bytes), length-append (number.bytes (length bytes)) bytes);
  read_back = λ bytes rest f.
      let fit : length bytes ≤ length (bytes ++ rest) = omega (arith, length-append bytes rest) in
      rw (append_assoc (number.bytes (length bytes)) bytes rest, length_back (length bytes) (bytes ++ rest) f fit, take_at bytes rest (length bytes) refl, drop_at bytes rest (length bytes) refl) refl;
}

module _ {X : Type 0} (c : Codec X) (h : IsCodec c) where
  items_written : (n : ℕ) (front : List ℕ) (found : List X × List ℕ) → items_at c n front ≡ Ok found
      → AllByRecursion c.fits found.0 × (front ≡ flat_map c.bytes found.0 ++ found.1) × (length found.0 ≡ n)
  unfolding items_at
  items_written zero front found e =
      subst (λ (y : List X × List ℕ). AllByRecursion c.fits y.0 × (front ≡ flat_map c.bytes y.0 ++ y.1) × (length y.0 ≡ 0)) (same_answer ([], front) found e) (tt, refl, refl)
  items_written (suc n) front found e =
      let a = bind_ok (c.read front) _ found e in
      let b = bind_ok (items_at c n a.0.1) _ found a.2 in
      let w = h.written front a.0 a.1 in
      let v = items_written n a.0.1 b.0 b.1 in
      subst (λ (y : List X × List ℕ). AllByRecursion c.fits y.0 × (front ≡ flat_map c.bytes y.0 ++ y.1) × (length y.0 ≡ suc n)) (same_answer (a.0.0 ∷ b.0.0, b.0.1) found b.2)
      ((w.0, v.0), w.1 ∙ ap (λ bs. c.bytes a.0.0 ++ bs) v.1 ∙ sym (append_assoc (c.bytes a.0.0) (flat_map c.bytes b.0.0) b.0.1), ap suc v.2)

  items_back : (xs : List X) (rest : List ℕ) → AllByRecursion c.fits xs → items_at c (length xs) (flat_map c.bytes xs ++ rest) ≡ Ok (xs, rest)
  unfolding items_at
  items_back [] rest f = refl
  items_back (x ∷ xs) rest f = rw (append_assoc (c.bytes x) (flat_map c.bytes xs) rest, h.read_back x (flat_map c.bytes xs ++ rest) f.0, items_back xs rest f.1) refl

  each_takes : (xs : List X) → length xs ≤ length (flat_map c.bytes xs)
  each_takes [] = omega arith
  each_takes (x ∷ xs) = omega (arith, h.some x, each_takes xs, length-append (c.bytes x) (flat_map c.bytes xs))

  pub list_is : IsCodec (list c)
  unfolding list
  list_is = record {
    written = λ front found e.
        let n = bind_ok (length_at front) _ found e in
        let w = length_written front n.0 n.1 in
        let v = items_written n.0.0 n.0.1 found n.2 in (
          (subst number.fits (sym v.2) w.0.0, v.0),
          w.0.1
              ∙ ap (λ bs. number.bytes n.0.0 ++ bs) v.1
              ∙ sym (append_assoc (number.bytes n.0.0) (flat_map c.bytes found.0) found.1)
              ∙ ap (λ k. (number.bytes k ++ flat_map c.bytes found.0) ++ found.1) (sym v.2),
        );
    some = λ xs. omega (arith, number_is.some (length xs), length-append (number.bytes (length xs)) (flat_map c.bytes xs));
    read_back = λ xs rest f.
        let items = flat_map c.bytes xs in
        let fit : length xs ≤ length (items ++ rest) = omega (arith, each_takes xs, length-append items rest) in
        rw (append_assoc (number.bytes (length xs)) items rest, length_back (length xs) (items ++ rest) f.0 fit) (items_back xs rest f.1);
  }

-- ---- parts

pub pair_is : {X Y : Type 0} (a : Codec X) (b : Codec Y) → IsCodec a → IsCodec b → IsCodec (pair a b)
pair_is a b h k = record {
  written = λ front found e.
      let x = bind_ok (a.read front) _ found e in
      let y = bind_ok (b.read x.0.1) _ found x.2 in
      let w = h.written front x.0 x.1 in
      let v = k.written x.0.1 y.0 y.1 in
      subst (Stands (pair a b) front) (same_answer ((x.0.0, y.0.0), y.0.1) found y.2)
      ((w.0, v.0), w.1 ∙ ap (λ bs. a.bytes x.0.0 ++ bs) v.1 ∙ sym (append_assoc (a.bytes x.0.0) (b.bytes y.0.0) y.0.1));
  some = λ p. omega (arith, h.some p.0, length-append (a.bytes p.0) (b.bytes p.1));
  read_back = λ p rest f. rw (append_assoc (a.bytes p.0) (b.bytes p.1) rest, h.read_back p.0 (b.bytes p.1 ++ rest) f.0, k.read_back p.1 rest f.1) refl;
}

pub by_parts_is : {X Y : Type 0} (parts : Y → X) (whole : X → Y) (c : Codec X) → ((y : Y) → whole (parts y) ≡ y) → ((x : X) → parts (whole x) ≡ x) → IsCodec c → IsCodec (by_parts parts whole c)
by_parts_is parts whole c p q h = record {
  written = λ front found e.
      let x = bind_ok (c.read front) _ found e in
      let w = h.written front x.0 x.1 in
      subst (Stands (by_parts parts whole c) front) (same_answer (whole x.0.0, x.0.1) found x.2)
      (rw (q x.0.0) w.0, rw (q x.0.0) w.1);
  some = λ y. h.some (parts y);
  read_back = λ y rest f. rw (h.read_back (parts y) rest f, p y) refl;
}

pub by_tested_is : {X Y : Type 0} (parts : Y → X) (whole : X → Y) (test : X → Bool) (c : Codec X) → ((y : Y) → whole (parts y) ≡ y) → ((x : X) → test x ≡ true → parts (whole x) ≡ x) → IsCodec c
    → IsCodec (by_tested parts whole test c)
by_tested_is parts whole test c p q h = record {
  written = λ front found e.
      let x = bind_ok (c.read front) _ found e in
      elim (chosen (test x.0.0) _ _ _ x.2) [
        | inl k ↦
            let w = h.written front x.0 x.1 in
            let same = q x.0.0 k.0 in
            subst (Stands (by_tested parts whole test c) front) (same_answer (whole x.0.0, x.0.1) found k.1)
            ((subst c.fits (sym same) w.0, ap test same ∙ k.0), w.1 ∙ ap (λ y. c.bytes y ++ x.0.1) (sym same))
        | inr k ↦ absurd cc
      ];
  some = λ y. h.some (parts y);
  read_back = λ y rest f. rw (h.read_back (parts y) rest f.0, f.1, p y) refl;
}
