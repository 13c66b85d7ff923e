-- Logs that are cut.
use Rattle.std.specs.Prelude.{ℕ, ◌≡◌, ◌<◌, ◌≤◌, ◌-◌, ◌⊎◌, ◌==◌, ◌&&◌, true, false, List, [], ◌∷◌, ◌++◌, length, take, drop, replicate, None, Ok, Err, nat_eq, if◌then◌else◌, refl}
use Rattle.std.specs.List.{starts_with}
use Rattle.std.proofs.Common.{suc, zero, arith, ◌∙◌, ap, sym, inl, inr}
use Rattle.std.proofs.lemmas.Bool.{and_from, cases_lt, eq-eqb, false_from_ne_true, le-ltb, lt-ltb, or_left, or_right}
use Rattle.std.proofs.lemmas.Slice.Eq.{starts_is}
use Rattle.std.proofs.lemmas.List.{append_assoc, append-nil, length-append, length-take-le, take-append-le}
use Rattle.raft_frames.specs.Format.{after, after_all, frame, frames, header, start}
use Rattle.raft_frames.specs.Laws.{ArePayloads, IsPayload, Keeps, contents, file}
use Rattle.raft_frames.specs.Reading.{fault_of, is_new, is_zero, new_log, next, read, read_frames}
use Rattle.raft_frames.specs.declared.header.LogId.{LogId}
use Rattle.raft_frames.specs.declared.tail.Tail.{Tail}
use Rattle.raft_frames.proofs.Frames.{next-cut, next-short}
use Rattle.raft_frames.proofs.Runs.{read-end, same_bytes}

pub short_take : (payloads : List (List ℕ)) (k : ℕ) → ArePayloads payloads → ArePayloads (take k payloads)
short_take payloads zero each = tt
short_take [] (suc k) each = tt
short_take (p ∷ payloads) (suc k) each = (each.0, short_take payloads k each.1)

pub take_past : (xs ys : List ℕ) (n : ℕ) → length xs ≤ n → take n (xs ++ ys) ≡ xs ++ take (n - length xs) ys
take_past [] ys n h = ap (λ k. take k ys) (omega arith)
take_past (x ∷ xs) ys zero h = absurd (omega (arith, h))
take_past (x ∷ xs) ys (suc n) h =
    let less : n - length xs ≡ suc n - suc (length xs) = omega arith in
    ap (λ zs. x ∷ zs) (take_past xs ys n (omega (arith, h)) ∙ ap (λ k. xs ++ take k ys) less)

-- where frames are cut: some whole ones, and a part of the next
pub record Cut (tail : Tail) (payloads : List (List ℕ)) (n : ℕ) : Type 0 where
  pub kept : ℕ
  pub torn : List ℕ
  pub is : take n (frames tail payloads) ≡ frames tail (take kept payloads) ++ torn
  pub partial : (torn ≡ []) ⊎ ((payload : List ℕ) × (m : ℕ) × IsPayload payload × (m < length (frame (after_all tail (take kept payloads)) payload))
      × (torn ≡ take m (frame (after_all tail (take kept payloads)) payload)))
  pub enough : (j : ℕ) → j ≤ length payloads → length (frames tail (take j payloads)) ≤ n → j ≤ kept

take_none : (n : ℕ) → take {A = ℕ} n [] ≡ []
take_none zero = refl
take_none (suc n) = refl

pub cut_of : (tail : Tail) (payloads : List (List ℕ)) (n : ℕ) → ArePayloads payloads → Cut tail payloads n
cut_of tail [] n each = record { kept = 0; torn = []; is = take_none n; partial = inl refl; enough = λ j h l. h }
cut_of tail (p ∷ payloads) n each = go (cases_lt n (length (frame tail p))) (cut_of (after tail p) payloads (n - length (frame tail p)) each.1)
  where
    go : ((n < length (frame tail p)) ⊎ (length (frame tail p) ≤ n)) → Cut (after tail p) payloads (n - length (frame tail p)) → Cut tail (p ∷ payloads) n
    go (inl h) rest = record {
      kept = 0;
      torn = take n (frame tail p);
      is = take-append-le n (frame tail p) (frames (after tail p) payloads) (omega (arith, h));
      partial = inr (p, n, each.0, h, refl);
      enough = few;
    }
      where
        few : (j : ℕ) → j ≤ length (p ∷ payloads) → length (frames tail (take j (p ∷ payloads))) ≤ n → j ≤ 0
        few zero a b = omega arith
        few (suc j) a b = absurd (omega (arith, length-append (frame tail p) (frames (after tail p) (take j payloads)), b, h))
    go (inr h) rest = record {
      kept = suc rest.kept;
      torn = rest.torn;
      is =
          take_past (frame tail p) (frames (after tail p) payloads) n h
          ∙ (ap (λ x. frame tail p ++ x) rest.is ∙ sym (append_assoc (frame tail p) (frames (after tail p) (take rest.kept payloads)) rest.torn));
      partial = rest.partial;
      enough = more;
    }
      where
        more : (j : ℕ) → j ≤ length (p ∷ payloads) → length (frames tail (take j (p ∷ payloads))) ≤ n → j ≤ suc rest.kept
        more zero a b = omega arith
        more (suc j) a b =
            let total = length-append (frame tail p) (frames (after tail p) (take j payloads)) in
            let there : j ≤ rest.kept = rest.enough j (omega (arith, a)) (omega (arith, total, b, h)) in
            omega (arith, there)

-- a part of a frame ends the log
pub next-torn : (tail : Tail) (torn : List ℕ)
    → ((torn ≡ []) ⊎ ((payload : List ℕ) × (m : ℕ) × IsPayload payload × (m < length (frame tail payload)) × (torn ≡ take m (frame tail payload)))) → next tail torn ≡ Ok None
next-torn tail torn (inl none) = ap (next tail) none ∙ next-short tail [] (omega arith)
next-torn tail torn (inr (payload, m, fits, cut, is)) = ap (next tail) is ∙ next-cut tail payload m fits cut

-- a header that is cut short
zeros-zero : (n : ℕ) → is_zero (replicate n 0) ≡ true
zeros-zero zero = refl
zeros-zero (suc n) = zeros-zero n

pub is_new-front : (header : List ℕ) (n zeros : ℕ) → n < length header → is_new header (take n header ++ replicate zeros 0) ≡ true
is_new-front [] n _ h = absurd (omega (arith, h))
is_new-front (b ∷ header) zero zero h = refl
is_new-front (b ∷ header) zero (suc zeros) h = or_left (is_zero (replicate (suc zeros) 0)) (0 == b && is_new header (replicate zeros 0)) (zeros-zero (suc zeros))
is_new-front (b ∷ header) (suc n) zeros h =
    let rest = take n header ++ replicate zeros 0 in
    or_right (is_zero (b ∷ rest)) (b == b && is_new header rest) (and_from (b == b) (is_new header rest) (eq-eqb b b refl) (is_new-front header n zeros (omega (arith, h))))

pub read-new : (id : LogId) (bytes : List ℕ) → starts_with nat_eq bytes (header id) ≡ false → is_new (header id) bytes ≡ true → read id bytes ≡ Ok (new_log id)
read-new id bytes other new =
    ap (λ t. if t then read_frames (length (drop 32 bytes)) (start id) (drop 32 bytes) else if is_new (header id) bytes then Ok (new_log id) else Err (fault_of id bytes)) other
    ∙ ap (λ t. if t then Ok (new_log id) else Err (fault_of id bytes)) new

-- what begins with the header
pub begins_is : (id : LogId) (bytes : List ℕ) → starts_with nat_eq bytes (header id) ≡ true → bytes ≡ header id ++ drop 32 bytes
begins_is id bytes h = (starts_is same_bytes bytes (header id) (starts_with nat_eq bytes (header id)) refl).0 h

pub cut_header : (id : LogId) (payloads : List (List ℕ)) (n : ℕ) → n < 32 → take n (file id payloads) ≡ take n (header id)
cut_header id payloads n h = take-append-le n (header id) (frames (start id) payloads) (omega (arith, h))

pub cut_frames : (id : LogId) (payloads : List (List ℕ)) (n : ℕ) → 32 ≤ n → take n (file id payloads) ≡ header id ++ take (n - 32) (frames (start id) payloads)
cut_frames id payloads n h = take_past (header id) (frames (start id) payloads) n h

pub recovers : (id : LogId) (payloads : List (List ℕ)) (n : ℕ) → ArePayloads payloads → Keeps id payloads n (take n (file id payloads))
recovers id payloads n each = go (cases_lt n 32) (cut_of (start id) payloads (n - 32) each)
  where
    go : ((n < 32) ⊎ (32 ≤ n)) → Cut (start id) payloads (n - 32) → Keeps id payloads n (take n (file id payloads))
    go (inl few) cut = record {
      kept = 0;
      reads =
          let found = take n (header id) in
          let long : length found ≡ n = length-take-le n (header id) (omega (arith, few)) in
          let other : starts_with nat_eq found (header id) ≡ false =
          false_from_ne_true (starts_with nat_eq found (header id)) (λ whole. let e = ap length (begins_is id found whole) in omega (arith, e, long, few, length-append (header id) (drop 32 found))) in
          ap (read id) (cut_header id payloads n few)
          ∙ (read-new id found other (ap (is_new (header id)) (sym (append-nil found)) ∙ is_new-front (header id) n 0 (omega (arith, few)))
          ∙ ap (λ t. Ok (if t then new_log id else contents id [])) (sym (lt-ltb n 32 few)));
      enough = λ j h l. absurd (omega (arith, l, few, length-append (header id) (frames (start id) (take j payloads))));
    }
    go (inr many) cut = record {
      kept = cut.kept;
      reads =
          ap (read id) (cut_frames id payloads n many ∙ ap (λ bytes. header id ++ bytes) cut.is)
          ∙ (read-end id (take cut.kept payloads) cut.torn (short_take payloads cut.kept each) (next-torn (after_all (start id) (take cut.kept payloads)) cut.torn cut.partial)
          ∙ ap (λ t. Ok (if t then new_log id else contents id (take cut.kept payloads))) (sym (le-ltb n 32 many)));
      enough = λ j h l. cut.enough j h (omega (arith, l, many, length-append (header id) (frames (start id) (take j payloads))));
    }
