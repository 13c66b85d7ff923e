-- What of a state is left from a key on.
use Rattle.std.proofs.Common.{◌≡◌, ℕ, Bool, true, false, cond, ◌&&◌, List, [], ◌∷◌, ◌++◌, Option, Some, None, refl, sym, ap, subst, ◌∙◌, append_assoc, length, zero, suc, ◌+◌, ◌<◌, ◌≤◌, drop, max, arith}
use Rattle.std.specs.List.{AllByRecursion, flat_map}
use Rattle.std.specs.List.Sorted.{IsStrictlySortedBy}
use Rattle.std.specs.Ordering.{is_gt, is_le, ordering_reverse}
use Rattle.std.specs.declared.cmp.Ordering.{Ordering}
use Rattle.std.specs.declared.cmp.Ordering.TheVariants.{Less, Equal, Greater}
use Rattle.std.specs.Cmp.{tied_itself, upto}
use Rattle.std.specs.Cmp.Lexicographic.{nat_list_cmp_total}
use Rattle.std.specs.FinMap.{entries}
use Rattle.std.specs.Map.{keys_of}
use Rattle.std.specs.Prelude.{nat_eq}
use Rattle.std.proofs.lemmas.List.{drop_all, length-append}
use Rattle.lru.specs.LruCache.{LruCache, IsValid}
use Rattle.raft_codec.specs.Codec.{Codec, list, number}
use Rattle.raft_codec.specs.CodecLaws.{number_is}
use Rattle.raft_machine.specs.declared.machine.Answered.{Answered}
use Rattle.raft_machine.specs.declared.stored.Stored.{Stored}
use Rattle.raft_machine.specs.Bytes.{entry, session, sessions, space, state, version}
use Rattle.raft_machine.specs.Machine.{State}
use Rattle.raft_machine.specs.Pieces.{BeginsAt, EndsWith, Entries, GoesOn, WritesFront, WritesSessionsFront, WritesUpto, from, from_next}
use Rattle.raft_machine.specs.Space.{AreLater, Space}
use Rattle.raft_machine.specs.declared.place.Place.{Place}
use Rattle.raft_machine.specs.declared.place.Place.TheVariants.{End, From, Front, Sessions}
use Rattle.raft_machine.proofs.Loaded.{entries_kept}
use Rattle.raft_machine.proofs.Recalled.{kept as kept_sessions}
use Rattle.raft_machine.proofs.Tables.{key_cmp}

-- ---- a loop over values

pub one_behind : {X : Type 0} (xs all rest : List X) (x : X) → EndsWith xs all → all ≡ x ∷ rest → EndsWith xs rest
one_behind xs all rest x h e = (h.0 ++ x ∷ [], append_assoc h.0 (x ∷ []) rest ∙ ap (λ ys. h.0 ++ ys) (sym e) ∙ h.1)

pub one_written : {X : Type 0} (c : Codec X) (xs all rest : List X) (x : X) (old mid new : List ℕ) → WritesUpto c xs all old mid → all ≡ x ∷ rest
    → c.fits x × (new ≡ mid ++ c.bytes x) → WritesUpto c xs rest old new
one_written c xs all rest x old mid new h e w = (
  (λ f. h.0 (subst (AllByRecursion c.fits) (sym e) (w.0, f))),
  ap (λ bs. bs ++ flat_map c.bytes rest) w.1
      ∙ append_assoc mid (c.bytes x) (flat_map c.bytes rest)
      ∙ ap (λ ys. mid ++ flat_map c.bytes ys) (sym e)
      ∙ h.1,
)

-- ---- a key's place among sorted entries

less_is_le : (o : Ordering) → o ≡ Less → is_le o ≡ true
less_is_le o e = ap is_le e

not_gt : (o : Ordering) → is_gt o ≡ false → is_le o ≡ true
not_gt Less h = refl
not_gt Equal h = refl
not_gt Greater h = sym h

le_not : (o : Ordering) → is_le o ≡ true → is_gt o ≡ false
le_not Less h = refl
le_not Equal h = refl
le_not Greater h = sym h

abbrev After : List ℕ → Entries → Type 0
After k es = AllByRecursion (λ y. key_cmp k y ≡ Less) (keys_of es)

kept : (k : List ℕ) (e : List ℕ × Stored) (es : Entries) → is_le (key_cmp k e.0) ≡ true → from k (e ∷ es) ≡ e ∷ from k es
kept k e es h = ap (λ b. cond (b && true) (e ∷ from k es) (from k es)) h

left_out : (k : List ℕ) (e : List ℕ × Stored) (es : Entries) → is_le (key_cmp k e.0) ≡ false → from k (e ∷ es) ≡ from k es
left_out k e es h = ap (λ b. cond (b && true) (e ∷ from k es) (from k es)) h

-- a key at or below one below others is at or below these
all_from : (a k : List ℕ) (es : Entries) → is_le (key_cmp a k) ≡ true → After k es → from a es ≡ es
all_from a k [] h after = refl
all_from a k (e ∷ es) h after =
    kept a e es (not_gt (key_cmp a e.0) (upto nat_list_cmp_total a k e.0 (le_not (key_cmp a k) h) (ap is_gt after.0)))
    ∙ ap (λ (xs : Entries). e ∷ xs) (all_from a k es h after.1)

itself : (k : List ℕ) → is_le (key_cmp k k) ≡ true
itself k = ap is_le (tied_itself nat_list_cmp_total k)

above : (a b : List ℕ) → key_cmp a b ≡ Less → is_le (key_cmp b a) ≡ false
above a b h = ap is_le (nat_list_cmp_total.antisymm b a) ∙ turned (key_cmp a b) h
  where
    turned : (o : Ordering) → o ≡ Less → is_le (ordering_reverse o) ≡ false
    turned o e = ap (λ (p : Ordering). is_le (ordering_reverse p)) e

abbrev Sorted : Entries → Type 0
Sorted es = IsStrictlySortedBy key_cmp (keys_of es)

member : (P : List ℕ → Type 0) (front more : Entries) (k : List ℕ) (s : Stored) → AllByRecursion P (keys_of (front ++ (k, s) ∷ more)) → P k
member P [] more k s h = h.0
member P (f ∷ front) more k s h = member P front more k s h.1

all_kept : (P : List ℕ → Type 0) (k : List ℕ) (es : Entries) → AllByRecursion P (keys_of es) → AllByRecursion P (keys_of (from k es))
all_kept P k [] h = tt
all_kept P k (e ∷ es) h =
    elim (is_le (key_cmp k e.0)) as (λ b. AllByRecursion P (keys_of (cond (b && true) (e ∷ from k es) (from k es)))) [
      | true ↦ (h.0, all_kept P k es h.1)
      | false ↦ all_kept P k es h.1
    ]

-- those from one of them on are that one and those behind it
tail : (front more : Entries) (k : List ℕ) (s : Stored) → Sorted (front ++ (k, s) ∷ more) → from k (front ++ (k, s) ∷ more) ≡ (k, s) ∷ more
unfolding IsStrictlySortedBy
tail [] more k s h = kept k (k, s) more (itself k) ∙ ap (λ (xs : Entries). (k, s) ∷ xs) (all_from k k more (itself k) h.0)
tail (f ∷ front) more k s h =
    left_out k f (front ++ (k, s) ∷ more) (above f.0 k (member (λ y. key_cmp f.0 y ≡ Less) front more k s h.0)) ∙ tail front more k s h.1

-- the first entry from some key on, or one behind it
here : (a k : List ℕ) (e : List ℕ × Stored) (es front more : Entries) (s : Stored) → Sorted (e ∷ es) → is_le (key_cmp a e.0) ≡ true → front ++ (k, s) ∷ more ≡ from a (e ∷ es) → from k (e ∷ es) ≡ (k, s) ∷ more
unfolding IsStrictlySortedBy
here a k e es front more s h t is =
    let whole : front ++ (k, s) ∷ more ≡ e ∷ es = is ∙ kept a e es t ∙ ap (λ (xs : Entries). e ∷ xs) (all_from a e.0 es t h.0) in
    ap (from k) (sym whole) ∙ tail front more k s (subst Sorted (sym whole) h)

further : (k : List ℕ) (e : List ℕ × Stored) (es more : Entries) (s : Stored) → Sorted (e ∷ es) → from k es ≡ (k, s) ∷ more → from k (e ∷ es) ≡ (k, s) ∷ more
unfolding IsStrictlySortedBy
further k e es more s h rest =
    let after : After e.0 ((k, s) ∷ more) = subst (After e.0) rest (all_kept (λ y. key_cmp e.0 y ≡ Less) k es h.0) in
    left_out k e es (above e.0 k after.0) ∙ rest

pub from_further : (a : List ℕ) (es front more : Entries) (k : List ℕ) (s : Stored) → Sorted es → front ++ (k, s) ∷ more ≡ from a es → from k es ≡ (k, s) ∷ more
unfolding IsStrictlySortedBy
from_further a [] [] more k s h is = absurd cc
from_further a [] (f ∷ front) more k s h is = absurd cc
from_further a (e ∷ es) front more k s h is =
    elim (is_le (key_cmp a e.0)) as (λ b. is_le (key_cmp a e.0) ≡ b → from k (e ∷ es) ≡ (k, s) ∷ more) [
      | true ↦ λ t. here a k e es front more s h t is
      | false ↦ λ t. further k e es more s h (from_further a es front more k s h.1 (is ∙ left_out a e es t))
    ] refl

-- ---- what is left of a table

rest_is : (a : List ℕ) (es there rest : Entries) (next : Option (List ℕ)) → Sorted es → there ≡ from a es → EndsWith there rest → BeginsAt rest next → from_next next es ≡ rest
rest_is a es there rest None h is ends begins = sym begins
rest_is a es there rest (Some k) h is ends begins =
    from_further a es ends.0 begins.1 k begins.0 h (ap (λ (ys : Entries). ends.0 ++ ys) (sym begins.2) ∙ ends.1 ∙ is) ∙ sym begins.2

pub upto_next : (a : List ℕ) (es there : Entries) (old new : List ℕ) (next : Option (List ℕ)) → Sorted es → there ≡ from a es
    → (rest : Entries) × EndsWith there rest × BeginsAt rest next × WritesUpto entry there rest old new
    → WritesUpto entry (from a es) (from_next next es) old new
upto_next a es there old new next h is w =
    subst (λ (xs : Entries). WritesUpto entry xs (from_next next es) old new) is
    (subst (λ (xs : Entries). WritesUpto entry there xs old new) (sym (rest_is a es there w.0 next h is w.1 w.2)) w.3)

-- ---- from place to place

no_more : (bs : List ℕ) → bs ++ [] ≡ bs
no_more [] = refl
no_more (b ∷ bs) = ap (λ (cs : List ℕ). b ∷ cs) (no_more bs)

least : (k : List ℕ) → is_le (key_cmp [] k) ≡ true
least [] = refl
least (b ∷ k) = refl

from_least : (es : Entries) → from [] es ≡ es
from_least [] = refl
from_least (e ∷ es) = kept [] e es (least e.0) ∙ ap (λ (xs : Entries). e ∷ xs) (from_least es)

pub space_front : (s : Space) (n : ℕ) (old mid new : List ℕ) → AreLater s.map s.moment → n ≡ length (entries s.map) → number.fits s.moment × (mid ≡ old ++ number.bytes s.moment)
    → number.fits n × (new ≡ mid ++ number.bytes n) → WritesFront s old new
unfolding space list
space_front s n old mid new later len first second = (
  (λ f. ((first.0, (subst number.fits len second.0, f)), entries_kept s.map s.moment later)),
  ap (λ (bs : List ℕ). bs ++ flat_map entry.bytes (entries s.map)) (second.1 ∙ ap (λ (bs : List ℕ). bs ++ number.bytes n) first.1)
      ∙ append_assoc (old ++ number.bytes s.moment) (number.bytes n) (flat_map entry.bytes (entries s.map))
      ∙ append_assoc old (number.bytes s.moment) (number.bytes n ++ flat_map entry.bytes (entries s.map))
      ∙ ap (λ k. old ++ (number.bytes s.moment ++ (number.bytes k ++ flat_map entry.bytes (entries s.map)))) len,
)

pub front_on : (st : State) (old tag new key : List ℕ) → tag ≡ old ++ version ∷ [] → key ≡ [] → WritesFront st.space tag new → GoesOn st Front (From key) old new
unfolding state
front_on st old tag new key head none w =
    let all : from key (entries st.space.map) ≡ entries st.space.map = ap (λ (k : List ℕ). from k (entries st.space.map)) none ∙ from_least (entries st.space.map) in (
      (λ f. (w.0 (subst (AllByRecursion entry.fits) all f.0), f.1)),
      ap (λ (es : Entries). new ++ (flat_map entry.bytes es ++ sessions.bytes st.sessions)) all
          ∙ sym (append_assoc new (flat_map entry.bytes (entries st.space.map)) (sessions.bytes st.sessions))
          ∙ ap (λ (bs : List ℕ). bs ++ sessions.bytes st.sessions) (w.1 ∙ ap (λ (bs : List ℕ). bs ++ space.bytes st.space) head ∙ append_assoc old (version ∷ []) (space.bytes st.space))
          ∙ append_assoc old (version ∷ space.bytes st.space) (sessions.bytes st.sessions),
    )

pub keys_on : (st : State) (old new key next : List ℕ) → WritesUpto entry (from key (entries st.space.map)) (from next (entries st.space.map)) old new
    → GoesOn st (From key) (From next) old new
keys_on st old new key next w =
    let es = entries st.space.map in
    let rest = sessions.bytes st.sessions in (
      (λ f. (w.0 f.0, f.1)),
      sym (append_assoc new (flat_map entry.bytes (from next es)) rest)
          ∙ ap (λ (bs : List ℕ). bs ++ rest) w.1
          ∙ append_assoc old (flat_map entry.bytes (from key es)) rest,
    )

pub last_on : (st : State) (old mid new key : List ℕ) → WritesUpto entry (from key (entries st.space.map)) [] old mid
    → WritesSessionsFront st.sessions mid new → GoesOn st (From key) (Sessions 0) old new
last_on st old mid new key w s =
    let es = entries st.space.map in
    let rest = sessions.bytes st.sessions in (
      (λ f. (w.0 tt, s.0 f)),
      s.1
          ∙ ap (λ (bs : List ℕ). bs ++ rest) (sym (no_more mid) ∙ w.1)
          ∙ append_assoc old (flat_map entry.bytes (from key es)) rest,
    )

-- ---- sessions

pub sessions_front : (c : LruCache ℕ Answered) (n k : ℕ) (old mid new : List ℕ) → n ≡ c.cap → k ≡ length c.entries → IsValid nat_eq c
    → number.fits n × (mid ≡ old ++ number.bytes n) → number.fits k × (new ≡ mid ++ number.bytes k) → WritesSessionsFront c old new
unfolding sessions list
sessions_front c n k old mid new e len valid first second =
    let each = flat_map session.bytes c.entries in (
      (λ f. ((subst number.fits e first.0, (subst number.fits len second.0, f)), kept_sessions c valid)),
      ap (λ (bs : List ℕ). bs ++ each) (second.1 ∙ ap (λ (bs : List ℕ). bs ++ number.bytes k) first.1)
          ∙ append_assoc (old ++ number.bytes n) (number.bytes k) each
          ∙ append_assoc old (number.bytes n) (number.bytes k ++ each)
          ∙ ap (λ m. old ++ (number.bytes m ++ (number.bytes k ++ each))) e
          ∙ ap (λ m. old ++ (number.bytes c.cap ++ (number.bytes m ++ each))) len,
    )

pub sessions_on : (st : State) (old new : List ℕ) (n k : ℕ) → WritesUpto session (drop n st.sessions.entries) (drop k st.sessions.entries) old new
    → GoesOn st (Sessions n) (Sessions k) old new
sessions_on st old new n k w = w

none_behind : {X : Type 0} (xs : List X) (n : ℕ) → length xs ≤ n → drop n xs ≡ []
none_behind xs n h = drop_all n xs h

pub sessions_end : (st : State) (old new : List ℕ) (n k : ℕ) → length st.sessions.entries ≤ k → WritesUpto session (drop n st.sessions.entries) (drop k st.sessions.entries) old new
    → GoesOn st (Sessions n) End old new
sessions_end st old new n k h w = subst (λ (xs : List (ℕ × Answered)). WritesUpto session (drop n st.sessions.entries) xs old new) (none_behind st.sessions.entries k h) w

pub two_more : (old mid new : List ℕ) (n k : ℕ) → mid ≡ old ++ number.bytes n → new ≡ mid ++ number.bytes k → length old < length new
two_more old mid new n k first second =
    omega (arith, number_is.some k, ap length first, ap length second, length-append old (number.bytes n), length-append mid (number.bytes k))

-- one more is left out
drop_more : {X : Type 0} (n : ℕ) (xs rest : List X) (x : X) → drop n xs ≡ x ∷ rest → drop (suc n) xs ≡ rest
drop_more zero [] rest x h = absurd cc
drop_more zero (y ∷ xs) rest x h = let e : xs ≡ rest = cc in e
drop_more (suc n) [] rest x h = absurd cc
drop_more (suc n) (y ∷ xs) rest x h = drop_more n xs rest x h

pub drop_next : {X : Type 0} (n : ℕ) (xs all rest : List X) (x : X) → drop n xs ≡ all → all ≡ x ∷ rest → drop (n + 1) xs ≡ rest
drop_next n xs all rest x h e =
    let one : n + 1 ≡ suc n = omega arith in
    ap (λ (k : ℕ). drop k xs) one ∙ drop_more n xs rest x (h ∙ e)

pub session_more : {X : Type 0} (c : Codec X) (n count : ℕ) (xs all rest : List X) (x : X) (old mid new : List ℕ) → count ≤ n → drop n xs ≡ all → all ≡ x ∷ rest
    → WritesUpto c (drop count xs) (drop (max n count) xs) old mid → c.fits x × (new ≡ mid ++ c.bytes x)
    → WritesUpto c (drop count xs) (drop (max (n + 1) count) xs) old new
session_more c n count xs all rest x old mid new le h e w one =
    let here : max n count ≡ n = omega arith in
    let next : max (n + 1) count ≡ n + 1 = omega arith in
    let there : drop (max (n + 1) count) xs ≡ rest = ap (λ (k : ℕ). drop k xs) next ∙ drop_next n xs all rest x h e in
    subst (λ ys. WritesUpto c (drop count xs) ys old new) (sym there)
    (one_written c (drop count xs) (drop (max n count) xs) rest x old mid new w (ap (λ (k : ℕ). drop k xs) here ∙ h ∙ e) one)

pub session_before : {X : Type 0} (c : Codec X) (n count : ℕ) (xs : List X) (old new : List ℕ) → n < count
    → WritesUpto c (drop count xs) (drop (max n count) xs) old new → WritesUpto c (drop count xs) (drop (max (n + 1) count) xs) old new
session_before c n count xs old new lt w =
    let same : max n count ≡ max (n + 1) count = omega arith in
    subst (λ (k : ℕ). WritesUpto c (drop count xs) (drop k xs) old new) same w

pub all_out : {X : Type 0} (n : ℕ) (xs : List X) → drop n xs ≡ [] → length xs ≤ n
all_out zero [] h = omega arith
all_out zero (x ∷ xs) h = absurd cc
all_out (suc n) [] h = omega arith
all_out (suc n) (x ∷ xs) h = let l = all_out n xs h in omega arith

pub sessions_all : {X : Type 0} (c : Codec X) (n count : ℕ) (xs all : List X) (old new : List ℕ) → drop n xs ≡ all → all ≡ []
    → WritesUpto c (drop count xs) (drop (max n count) xs) old new → WritesUpto c (drop count xs) (drop n xs) old new
sessions_all c n count xs all old new h e w =
    let few : length xs ≤ n = all_out n xs (h ∙ e) in
    let none : drop (max n count) xs ≡ [] = drop_all (max n count) xs (omega arith) in
    subst (λ ys. WritesUpto c (drop count xs) ys old new) (none ∙ sym (h ∙ e)) w

-- ---- pieces behind one another

pub chained : (st : State) (a b c : Place) (old mid new : List ℕ) → GoesOn st a b old mid → GoesOn st b c mid new → GoesOn st a c old new
chained st a b c old mid new f g = (λ h. f.0 (g.0 h), g.1 ∙ f.1)

-- from the front to the end they are the state's bytes
pub whole : (st : State) (old new : List ℕ) → GoesOn st Front End old new → state.fits st × (new ≡ old ++ state.bytes st)
whole st old new g = (g.0 tt, sym (no_more new) ∙ g.1)
