-- The codecs of a state's parts are inverse to their writers.
use Rattle.std.proofs.Common.{ℕ, ◌≡◌, ◌≢◌, ◌<◌, ◌+◌, ◌*◌, ◌/◌, ◌%◌, Bool, true, false, cond, eqb, ◌&&◌, List, [], ◌∷◌, ◌++◌, length, Ok, refl, sym, ap, subst, ◌∙◌, inl, inr, arith}
use Rattle.std.specs.Prelude.{ℤ, pos, negsuc}
use Rattle.std.proofs.lemmas.Bool.{eq-eqb, ne_eqb, eqb-true, eqb-false}
use Rattle.std.proofs.Common.{T}
use Rattle.std.specs.Ordering.{nat_cmp, is_lt}
use Rattle.std.specs.declared.cmp.Ordering.{Ordering}
use Rattle.std.specs.declared.cmp.Ordering.TheVariants.{Less, Equal, Greater}
use Rattle.std.specs.Cmp.Lexicographic.{slice_cmp, nat_list_cmp_total}
use Rattle.std.specs.FinMap.{entries, from_sorted, is_sorted, entries_sorted, entries-from_sorted, same_entries_map}
use Rattle.std.specs.FinMap.Entries.{below_all}
use Rattle.raft_codec.specs.Codec.{IsCodec, number, raw, optional, list, pair, tag_at}
use Rattle.raft_codec.specs.CodecLaws.{Stands, bind_ok, chosen, tag_is, number_is, raw_is, optional_is, list_is, pair_is, by_parts_is, by_tested_is}
use Rattle.raft_codec.specs.VariantLaws.{bare_stands, variant_stands}
use Rattle.raft_machine.specs.declared.command.Failure.{Failure}
use Rattle.raft_machine.specs.declared.command.Failure.TheVariants.{NotAnInteger, Overflow, TooLong}
use Rattle.raft_machine.specs.declared.command.Reply.{Reply}
use Rattle.raft_machine.specs.declared.command.Reply.TheVariants.{Done, Null, Integer, Count, Bulk, Values, Failed, Scanned}
use Rattle.raft_machine.specs.declared.stored.Stored.{Stored}
use Rattle.raft_machine.specs.Machine.{State}
use Rattle.raft_machine.specs.Space.{Map, Space}
use Rattle.raft_machine.specs.Bytes.{zigzag, from_zigzag, signed, failure, values, page, reply, entry, session, is_before, are_rising, space, sessions, version, parts, state}

-- ---- numbers with signs

even : (n : ℕ) → (2 * n) % 2 ≡ 0
even n = omega arith

odd : (n : ℕ) → (2 * n + 1) % 2 ≡ 1
odd n = omega arith

there_and_back : (z : ℤ) → from_zigzag (zigzag z) ≡ z
there_and_back (pos n) =
    let half : (2 * n) / 2 ≡ n = omega arith in
    let t : eqb ((2 * n) % 2) 0 ≡ true = eq-eqb ((2 * n) % 2) 0 (even n) in
    rw (t, half) refl
there_and_back (negsuc n) =
    let half : (2 * n + 1) / 2 ≡ n = omega arith in
    let t : eqb ((2 * n + 1) % 2) 0 ≡ false = ne_eqb ((2 * n + 1) % 2) 0 (λ e. let o = odd n in omega arith) in
    rw (t, half) refl

back_and_there : (n : ℕ) → zigzag (from_zigzag n) ≡ n
back_and_there n = go (eqb (n % 2) 0) refl where
  go : (t : Bool) → eqb (n % 2) 0 ≡ t → zigzag (cond t (pos (n / 2)) (negsuc (n / 2))) ≡ n
  go true e = let even : n % 2 ≡ 0 = eqb-true (n % 2) 0 e in omega arith
  go false e = let odd : n % 2 ≢ 0 = eqb-false (n % 2) 0 e in omega arith

pub signed_is : IsCodec signed
unfolding signed
signed_is = by_parts_is zigzag from_zigzag number there_and_back back_and_there number_is

-- ---- failures

failure_some : (f : Failure) → 0 < length (failure.bytes f)
unfolding failure
failure_some NotAnInteger = omega arith
failure_some Overflow = omega arith
failure_some TooLong = omega arith

failure_back : (f : Failure) (rest : List ℕ) → failure.fits f → failure.read (failure.bytes f ++ rest) ≡ Ok (f, rest)
unfolding failure tag_at
failure_back NotAnInteger rest h = refl
failure_back Overflow rest h = refl
failure_back TooLong rest h = refl

failure_written : (front : List ℕ) (found : Failure × List ℕ) → failure.read front ≡ Ok found → Stands failure front found
unfolding failure
failure_written front found e =
    let t = bind_ok (tag_at front) _ found e in
    elim (chosen (eqb t.0.0 0) _ _ _ t.2) [
      | inl k ↦ bare_stands failure front found t.0 0 NotAnInteger t.1 k.0 k.1 tt refl
      | inr k ↦ elim (chosen (eqb t.0.0 1) _ _ _ k.1) [
        | inl l ↦ bare_stands failure front found t.0 1 Overflow t.1 l.0 l.1 tt refl
        | inr l ↦ elim (chosen (eqb t.0.0 2) _ _ _ l.1) [
          | inl m ↦ bare_stands failure front found t.0 2 TooLong t.1 m.0 m.1 tt refl
          | inr m ↦ absurd cc
        ]
      ]
    ]

pub failure_is : IsCodec failure
failure_is = record { written = failure_written; some = failure_some; read_back = failure_back }

-- ---- replies

pub values_is : IsCodec values
values_is = list_is (optional raw) (optional_is raw raw_is)

pub page_is : IsCodec page
unfolding page
page_is = by_parts_is _ _ _ (λ p. refl) (λ p. refl) (pair_is number (list raw) number_is (list_is raw raw_is))

reply_some : (r : Reply) → 0 < length (reply.bytes r)
unfolding reply
reply_some Done = omega arith
reply_some Null = omega arith
reply_some (Integer n) = omega arith
reply_some (Count n) = omega arith
reply_some (Bulk bs) = omega arith
reply_some (Values vs) = omega arith
reply_some (Failed f) = omega arith
reply_some (Scanned p) = omega arith

reply_back : (r : Reply) (rest : List ℕ) → reply.fits r → reply.read (reply.bytes r ++ rest) ≡ Ok (r, rest)
unfolding reply tag_at
reply_back Done rest h = refl
reply_back Null rest h = refl
reply_back (Integer n) rest h = rw (signed_is.read_back n rest h) refl
reply_back (Count n) rest h = rw (number_is.read_back n rest h) refl
reply_back (Bulk bs) rest h = rw (raw_is.read_back bs rest h) refl
reply_back (Values vs) rest h = rw (values_is.read_back vs rest h) refl
reply_back (Failed f) rest h = rw (failure_is.read_back f rest h) refl
reply_back (Scanned p) rest h = rw (page_is.read_back p rest h) refl

reply_written : (front : List ℕ) (found : Reply × List ℕ) → reply.read front ≡ Ok found → Stands reply front found
unfolding reply
reply_written front found e =
    let t = bind_ok (tag_at front) _ found e in
    elim (chosen (eqb t.0.0 0) _ _ _ t.2) [
      | inl k0 ↦ bare_stands reply front found t.0 0 Done t.1 k0.0 k0.1 tt refl
      | inr k0 ↦ elim (chosen (eqb t.0.0 1) _ _ _ k0.1) [
        | inl k1 ↦ bare_stands reply front found t.0 1 Null t.1 k1.0 k1.1 tt refl
        | inr k1 ↦ elim (chosen (eqb t.0.0 2) _ _ _ k1.1) [
          | inl k2 ↦ variant_stands reply front found t.0 2 signed signed_is Integer t.1 k2.0 k2.1 (λ x f. f) (λ x. refl)
          | inr k2 ↦ elim (chosen (eqb t.0.0 3) _ _ _ k2.1) [
            | inl k3 ↦ variant_stands reply front found t.0 3 number number_is Count t.1 k3.0 k3.1 (λ x f. f) (λ x. refl)
            | inr k3 ↦ elim (chosen (eqb t.0.0 4) _ _ _ k3.1) [
              | inl k4 ↦ variant_stands reply front found t.0 4 raw raw_is Bulk t.1 k4.0 k4.1 (λ x f. f) (λ x. refl)
              | inr k4 ↦ elim (chosen (eqb t.0.0 5) _ _ _ k4.1) [
                | inl k5 ↦ variant_stands reply front found t.0 5 values values_is Values t.1 k5.0 k5.1 (λ x f. f) (λ x. refl)
                | inr k5 ↦ elim (chosen (eqb t.0.0 6) _ _ _ k5.1) [
                  | inl k6 ↦ variant_stands reply front found t.0 6 failure failure_is Failed t.1 k6.0 k6.1 (λ x f. f) (λ x. refl)
                  | inr k6 ↦ elim (chosen (eqb t.0.0 7) _ _ _ k6.1) [
                    | inl k7 ↦ variant_stands reply front found t.0 7 page page_is Scanned t.1 k7.0 k7.1 (λ x f. f) (λ x. refl)
                    | inr k7 ↦ absurd cc
                  ]
                ]
              ]
            ]
          ]
        ]
      ]
    ]

pub reply_is : IsCodec reply
reply_is = record { written = reply_written; some = reply_some; read_back = reply_back }

-- ---- entries and sessions

pub entry_is : IsCodec entry
unfolding entry
entry_is = by_parts_is _ _ _ (λ e. refl) (λ p. refl) (pair_is raw (pair raw (optional number)) raw_is (pair_is raw (optional number) raw_is (optional_is number number_is)))

pub session_is : IsCodec session
unfolding session
session_is = by_parts_is _ _ _ (λ s. refl) (λ p. refl) (pair_is number (pair number (list reply)) number_is (pair_is number (list reply) number_is (list_is reply reply_is)))

-- ---- the keys at a moment

pub first : (a b : Bool) → T (a && b) → T a
first true b h = tt
first false b h = h

pub second : (a b : Bool) → T (a && b) → T b
second true b h = h
second false b h = absurd h

pub both : (a b : Bool) → T a → T b → T (a && b)
both true b p q = q
both false b p q = p

pub holds : (b : Bool) → b ≡ true → T b
holds b e = subst T (sym e) tt

pub less : (o : Ordering) → T (is_lt o) → o ≡ Less
less Less h = refl
less Equal h = absurd h
less Greater h = absurd h

abbrev Entries : Type 0
Entries = List (List ℕ × Stored)

abbrev pub in_order : List ℕ → List ℕ → Bool
in_order j k = is_lt (slice_cmp nat_cmp j k)

-- what is below a key is below those after it
further : (j k : List ℕ) (es : Entries) → T (in_order j k) → T (below_all (slice_cmp nat_cmp) k es) → T (below_all (slice_cmp nat_cmp) j es)
further j k [] l h = tt
further j k (e ∷ es) l h =
    let step = nat_list_cmp_total.trans j k e.0 (less _ l) (less _ (first _ _ h)) in
    both _ _ (subst (λ o. T (is_lt o)) (sym step) tt) (further j k es l (second _ _ h))

below : (e : List ℕ × Stored) (es : Entries) → T (is_before e es) → T (is_sorted (slice_cmp nat_cmp) es) → T (below_all (slice_cmp nat_cmp) e.0 es)
below e [] h s = tt
below e (f ∷ es) h s = both (in_order e.0 f.0) _ h (further e.0 f.0 es h (first _ _ s))

pub sorted_of_rising : (es : Entries) → T (are_rising es) → T (is_sorted (slice_cmp nat_cmp) es)
sorted_of_rising [] h = tt
sorted_of_rising (e ∷ es) h =
    let later = sorted_of_rising es (second _ _ h) in
    both (below_all (slice_cmp nat_cmp) e.0 es) _ (below e es (first _ _ h) later) later

pub space_back : (s : Space) → (let r : Space = record { map = from_sorted (entries s.map); moment = s.moment } in r) ≡ s
space_back s =
    let same : from_sorted (entries s.map) ≡ s.map = same_entries_map _ _ (entries-from_sorted (slice_cmp nat_cmp) (entries s.map) (entries_sorted s.map)) in
    ap (λ (m : Map). let r : Space = record { map = m; moment = s.moment } in r) same

pub space_is : IsCodec space
unfolding space
space_is = by_tested_is _ _ _ _ space_back
    (λ p h. ap (λ (es : Entries). let q : ℕ × Entries = (p.0, es) in q) (entries-from_sorted (slice_cmp nat_cmp) p.1 (sorted_of_rising p.1 (first _ _ (holds _ h)))))
    (pair_is number (list entry) number_is (list_is entry entry_is))

-- ---- what clients were answered

pub sessions_is : IsCodec sessions
unfolding sessions
sessions_is = by_tested_is _ _ _ _ (λ c. refl) (λ p h. refl) (pair_is number (list session) number_is (list_is session session_is))

-- ---- the state

parts_is : IsCodec parts
parts_is = by_parts_is _ _ _ (λ st. refl) (λ p. refl) (pair_is space sessions space_is sessions_is)

state_some : (st : State) → 0 < length (state.bytes st)
unfolding state
state_some st = omega arith

state_back : (st : State) (rest : List ℕ) → state.fits st → state.read (state.bytes st ++ rest) ≡ Ok (st, rest)
unfolding state tag_at
state_back st rest f = parts_is.read_back st rest f

state_written : (front : List ℕ) (found : State × List ℕ) → state.read front ≡ Ok found → Stands state front found
unfolding state
state_written front found e =
    let t = bind_ok (tag_at front) _ found e in
    elim (chosen (eqb t.0.0 version) _ _ _ t.2) [
      | inl k ↦
          let w = parts_is.written t.0.1 found k.1 in
          (w.0, tag_is front t.0 version t.1 k.0 ∙ ap (λ bs. version ∷ bs) w.1)
      | inr k ↦ absurd cc
    ]

pub state_is : IsCodec state
state_is = record { written = state_written; some = state_some; read_back = state_back }
