-- Logs that are cut, with zeros behind the cut.
use Rattle.std.specs.Prelude.{ℕ, ◌≡◌, ◌<◌, ◌≤◌, ◌+◌, ◌-◌, ◌⊎◌, true, false, List, [], ◌∷◌, ◌++◌, length, take, drop, replicate, Option, None, Some, Result, Ok, nat_eq, refl}
use Rattle.std.specs.List.{starts_with}
use Rattle.std.proofs.Common.{suc, zero, arith, ◌∙◌, ap, sym, subst, inl, inr}
use Rattle.std.proofs.lemmas.Bool.{cases_Bool, cases_eq, cases_lt, false_from_ne_true, or_from}
use Rattle.std.proofs.lemmas.List.{append_assoc, append-nil, length-append, length-drop, length-take-le, drop-replicate}
use Rattle.raft_frames.specs.Format.{after, after_all, frame, frames, header, start, sum_of}
use Rattle.raft_frames.specs.Laws.{ArePayloads, IsPayload, KeepsFilled, contents, file}
use Rattle.raft_frames.specs.Reading.{behind, believed, end_unless_later, has_head, is_head, new_log, next, number_at, read, read_frames}
use Rattle.raft_frames.specs.declared.error.Fault.{Fault}
use Rattle.raft_frames.specs.declared.header.LogId.{LogId}
use Rattle.raft_frames.specs.declared.tail.Tail.{Tail}
use Rattle.raft_frames.proofs.Bytes.{number-word}
use Rattle.raft_frames.proofs.Cuts.{Cut, begins_is, cut_of, cut_frames, cut_header, is_new-front, read-new, short_take}
use Rattle.raft_frames.proofs.Frames.{believed-cut, believed-whole, believed-wrong, end-none, frame-length, head_of, headed, headed-head, next-head, next-no_head, next-none, next-short, take-frame}
use Rattle.raft_frames.proofs.ReadLemmas.{behind_all, behind_all-ok, read_frames-end, read_frames-frame}
use Rattle.raft_frames.proofs.Runs.{all_frames, counted, read-end, read-header}

-- zeros begin no frame
zeros_number : (n : ℕ) → number_at 0 (replicate n 0) ≡ 0
zeros_number zero = refl
zeros_number (suc zero) = refl
zeros_number (suc (suc zero)) = refl
zeros_number (suc (suc (suc zero))) = refl
zeros_number (suc (suc (suc (suc n)))) = refl

pub zeros-no_head : (seed position n : ℕ) → is_head seed position (replicate n 0) ≡ false
zeros-no_head seed position n =
    false_from_ne_true (is_head seed position (replicate n 0)) (λ head. let some = (head_of seed position (replicate n 0) head).some in omega (arith, some, zeros_number n))

zeros-none : (seed position n : ℕ) → has_head seed position (replicate n 0) ≡ false
zeros-none seed position zero = refl
zeros-none seed position (suc n) =
    or_from (is_head seed position (replicate (suc n) 0)) (has_head seed (suc position) (replicate n 0)) (zeros-no_head seed position (suc n)) (zeros-none seed (suc position) n)

next-zeros : (tail : Tail) (n : ℕ) → next tail (replicate n 0) ≡ Ok None
next-zeros tail n = next-none tail (replicate n 0) (zeros-none tail.seed tail.position n)

-- what lies behind a part
drop_past : (xs ys : List ℕ) (n : ℕ) → length xs ≤ n → drop n (xs ++ ys) ≡ drop (n - length xs) ys
drop_past [] ys n h = ap (λ k. drop k ys) (omega arith)
drop_past (x ∷ xs) ys zero h = absurd (omega (arith, h))
drop_past (x ∷ xs) ys (suc n) h =
    let less : n - length xs ≡ suc n - suc (length xs) = omega arith in
    drop_past xs ys n (omega (arith, h)) ∙ ap (λ k. drop k ys) less

drop_zeros : (xs : List ℕ) (zeros n : ℕ) → length xs ≤ n → drop n (xs ++ replicate zeros 0) ≡ replicate (zeros - (n - length xs)) 0
drop_zeros xs zeros n h = drop_past xs (replicate zeros 0) n h ∙ drop-replicate (n - length xs) zeros 0

end-zeros : (tail : Tail) (n zeros : ℕ) (bytes : List ℕ) → drop n bytes ≡ replicate zeros 0 → end_unless_later tail n bytes ≡ Ok None
end-zeros tail n zeros bytes is = end-none tail n bytes (ap (has_head tail.seed (tail.position + n)) is ∙ zeros-none tail.seed (tail.position + n) zeros)

-- reading ends here, or one more frame is read, with nothing but zeros behind it
pub data OneMore (tail : Tail) (bytes : List ℕ) (found : Result (Option (List ℕ)) Fault) : Type 0 where
  Ends : found ≡ Ok None → OneMore tail bytes found
  Reads : (payload : List ℕ) (zeros : ℕ) → found ≡ Ok (Some payload) → drop (12 + length payload) bytes ≡ replicate zeros 0 → OneMore tail bytes found

believed-zeros : (tail : Tail) (len zeros : ℕ) (bytes : List ℕ) → drop (12 + len) bytes ≡ replicate zeros 0 → OneMore tail bytes (believed tail len bytes)
believed-zeros tail len zeros bytes is = go (cases_lt (length bytes) (12 + len)) (cases_eq (number_at 8 bytes) (sum_of tail.sum (take len (drop 12 bytes))))
  where
    go : ((length bytes < 12 + len) ⊎ (12 + len ≤ length bytes))
        → ((number_at 8 bytes ≡ sum_of tail.sum (take len (drop 12 bytes))) ⊎ (number_at 8 bytes ≡ sum_of tail.sum (take len (drop 12 bytes)) → ⊥))
        → OneMore tail bytes (believed tail len bytes)
    go (inl short) summed = Ends (believed-cut tail len bytes short)
    go (inr long) (inl summed) =
        let size : length (take len (drop 12 bytes)) ≡ len = length-take-le len (drop 12 bytes) (omega (arith, length-drop 12 bytes, long)) in
        Reads (take len (drop 12 bytes)) zeros (believed-whole tail len bytes long summed) (ap (λ n. drop (12 + n) bytes) size ∙ is)
    go (inr long) (inr wrong) = Ends (believed-wrong tail len bytes long wrong ∙ end-zeros tail (12 + len) zeros bytes is)

filled-head : (tail : Tail) (bytes : List ℕ) (len zeros : ℕ) → is_head tail.seed tail.position bytes ≡ true → number_at 0 bytes ≡ len → drop (12 + len) bytes ≡ replicate zeros 0
    → OneMore tail bytes (next tail bytes)
filled-head tail bytes len zeros head is rest =
    subst (OneMore tail bytes) (sym (next-head tail bytes head ∙ ap (λ n. believed tail n bytes) is)) (believed-zeros tail len zeros bytes rest)

next-filled : (tail : Tail) (torn : List ℕ) (zeros : ℕ)
    → ((torn ≡ []) ⊎ ((payload : List ℕ) × (m : ℕ) × IsPayload payload × (m < length (frame tail payload)) × (torn ≡ take m (frame tail payload))))
    → OneMore tail (torn ++ replicate zeros 0) (next tail (torn ++ replicate zeros 0))
next-filled tail torn zeros (inl none) = Ends (ap (λ x. next tail (x ++ replicate zeros 0)) none ∙ next-zeros tail zeros)
next-filled tail torn zeros (inr (payload, m, fits, cut, is)) = subst (λ x. OneMore tail (x ++ replicate zeros 0) (next tail (x ++ replicate zeros 0))) (sym is) (go (cases_lt m 12))
  where
    size : length (frame tail payload) ≡ 12 + length payload
    size = frame-length tail payload

    go : ((m < 12) ⊎ (12 ≤ m)) → OneMore tail (take m (frame tail payload) ++ replicate zeros 0) (next tail (take m (frame tail payload) ++ replicate zeros 0))
    go (inl few) = some (cases_lt (length bytes) 12) (cases_Bool (is_head tail.seed tail.position bytes))
      where
        bytes : List ℕ
        bytes = take m (frame tail payload) ++ replicate zeros 0

        front : length (take m (frame tail payload)) ≡ m
        front = length-take-le m (frame tail payload) (omega (arith, cut))

        behind_it : (n : ℕ) → 12 ≤ n → drop n bytes ≡ replicate (zeros - (n - length (take m (frame tail payload)))) 0
        behind_it n h = drop_zeros (take m (frame tail payload)) zeros n (omega (arith, front, few, h))

        some : ((length bytes < 12) ⊎ (12 ≤ length bytes)) → ((is_head tail.seed tail.position bytes ≡ true) ⊎ (is_head tail.seed tail.position bytes ≡ false)) → OneMore tail bytes (next tail bytes)
        some (inl short) head = Ends (next-short tail bytes short)
        some (inr long) (inl head) =
            filled-head tail bytes (number_at 0 bytes) (zeros - (12 + number_at 0 bytes - length (take m (frame tail payload)))) head refl (behind_it (12 + number_at 0 bytes) (omega arith))
        some (inr long) (inr none) =
            Ends (next-no_head tail bytes long none ∙ end-zeros tail 12 (zeros - (12 - length (take m (frame tail payload)))) bytes (behind_it 12 (omega arith)))
    go (inr many) =
        let body = take (m - 12) payload in
        let front : length body ≡ m - 12 = length-take-le (m - 12) payload (omega (arith, cut, size)) in
        let within : length (headed tail payload body) ≤ 12 + length payload = omega (arith, front, cut, size, many) in
        subst (λ x. OneMore tail (x ++ replicate zeros 0) (next tail (x ++ replicate zeros 0))) (sym (take-frame tail payload m many))
        (filled-head tail (headed tail payload body ++ replicate zeros 0) (length payload) (zeros - (12 + length payload - length (headed tail payload body)))
        (headed-head tail payload (body ++ replicate zeros 0) fits) (number-word (length payload) (omega (arith, fits.short)))
        (drop_zeros (headed tail payload body) zeros (12 + length payload) within))

pub after_all-push : (tail : Tail) (payloads : List (List ℕ)) (payload : List ℕ) → after_all tail (payloads ++ payload ∷ []) ≡ after (after_all tail payloads) payload
after_all-push tail [] payload = refl
after_all-push tail (p ∷ payloads) payload = after_all-push (after tail p) payloads payload

-- a log whose last frame has nothing but zeros behind it
one_more : (id : LogId) (payloads : List (List ℕ)) (rest payload : List ℕ) (zeros : ℕ) → ArePayloads payloads → next (after_all (start id) payloads) rest ≡ Ok (Some payload)
    → drop (12 + length payload) rest ≡ replicate zeros 0 → read id (header id ++ (frames (start id) payloads ++ rest)) ≡ Ok (contents id (payloads ++ payload ∷ []))
one_more id payloads rest payload zeros each found behind_it =
    let there = after_all (start id) payloads in
    let bytes = frames (start id) payloads ++ rest in
    let left = length bytes - length payloads in
    read-header id bytes
    ∙ (all_frames (start id) payloads rest each
    ∙ (ap (λ m. behind_all payloads (read_frames m there rest)) more
    ∙ (ap (behind_all payloads)
    (read_frames-frame (left - 1) there rest payload found
    ∙ (ap (λ x. behind payload (read_frames (left - 1) (after there payload) x)) behind_it
    ∙ ap (behind payload) (read_frames-end (left - 1) (after there payload) (replicate zeros 0) (next-zeros (after there payload) zeros))))
    ∙ (behind_all-ok payloads (record { payloads = payload ∷ []; end = (after there payload).position; tail = after there payload })
    ∙ ap (λ t. Ok (record { payloads = payloads ++ payload ∷ []; end = t.position; tail = t })) (sym (after_all-push (start id) payloads payload))))))
  where
    there : Tail
    there = after_all (start id) payloads

    some : ((length rest < 12) ⊎ (12 ≤ length rest)) → 12 ≤ length rest
    some (inl short) = let none : Ok (Some payload) ≡ Ok None = sym found ∙ next-short there rest short in absurd (cc)
    some (inr long) = long

    left : ℕ
    left = length (frames (start id) payloads ++ rest) - length payloads

    more : left ≡ suc (left - 1)
    more = omega (arith, length-append (frames (start id) payloads) rest, counted (start id) payloads, some (cases_lt (length rest) 12))

pub recovers_filled : (id : LogId) (payloads : List (List ℕ)) (n zeros : ℕ) → ArePayloads payloads → KeepsFilled id payloads n (take n (file id payloads) ++ replicate zeros 0)
recovers_filled id payloads n zeros each = go (cases_lt n 32) (cut_of (start id) payloads (n - 32) each)
  where
    go : ((n < 32) ⊎ (32 ≤ n)) → Cut (start id) payloads (n - 32) → KeepsFilled id payloads n (take n (file id payloads) ++ replicate zeros 0)
    go (inl few) cut = record {
      kept = 0;
      torn = [];
      one = omega arith;
      reads = subst (λ x. (read id (x ++ replicate zeros 0) ≡ Ok (contents id [])) ⊎ ((n < 32) × (read id (x ++ replicate zeros 0) ≡ Ok (new_log id)))) (sym (cut_header id payloads n few))
          (header_cut (cases_Bool (starts_with nat_eq found (header id))));
      enough = λ j h l. absurd (omega (arith, l, few, length-append (header id) (frames (start id) (take j payloads))));
    }
      where
        found : List ℕ
        found = take n (header id) ++ replicate zeros 0

        long : length (take n (header id)) ≡ n
        long = length-take-le n (header id) (omega (arith, few))

        left : ℕ
        left = zeros - (32 - length (take n (header id)))

        header_cut : ((starts_with nat_eq found (header id) ≡ true) ⊎ (starts_with nat_eq found (header id) ≡ false)) → (read id found ≡ Ok (contents id [])) ⊎ ((n < 32) × (read id found ≡ Ok (new_log id)))
        header_cut (inl whole) =
            inl (ap (read id) (begins_is id found whole ∙ ap (λ x. header id ++ x) (drop_zeros (take n (header id)) zeros 32 (omega (arith, long, few))))
            ∙ read-end id [] (replicate left 0) tt (next-zeros (start id) left))
        header_cut (inr other) = inr (few, read-new id found other (is_new-front (header id) n zeros (omega (arith, few))))
    go (inr many) cut = frames_cut (next-filled (after_all (start id) (take cut.kept payloads)) cut.torn zeros cut.partial)
      where
        kept : List (List ℕ)
        kept = take cut.kept payloads

        rest : List ℕ
        rest = cut.torn ++ replicate zeros 0

        same : take n (file id payloads) ++ replicate zeros 0 ≡ header id ++ (frames (start id) kept ++ rest)
        same =
            ap (λ x. x ++ replicate zeros 0) (cut_frames id payloads n many)
            ∙ ap (λ x. header id ++ x) (ap (λ x. x ++ replicate zeros 0) cut.is ∙ append_assoc (frames (start id) kept) cut.torn (replicate zeros 0))

        enough : (j : ℕ) → j ≤ length payloads → length (file id (take j payloads)) ≤ n → j ≤ cut.kept
        enough j h l = cut.enough j h (omega (arith, l, many, length-append (header id) (frames (start id) (take j payloads))))

        frames_cut : OneMore (after_all (start id) kept) rest (next (after_all (start id) kept) rest) → KeepsFilled id payloads n (take n (file id payloads) ++ replicate zeros 0)
        frames_cut (Ends ends) = record {
          kept = cut.kept;
          torn = [];
          one = omega arith;
          reads = inl (ap (read id) same ∙ (read-end id kept rest (short_take payloads cut.kept each) ends ∙ ap (λ ps. Ok (contents id ps)) (sym (append-nil kept))));
          enough = enough;
        }
        frames_cut (Reads payload left found behind_it) = record {
          kept = cut.kept;
          torn = payload ∷ [];
          one = omega arith;
          reads = inl (ap (read id) same ∙ one_more id kept rest payload left (short_take payloads cut.kept each) found behind_it);
          enough = enough;
        }
