-- What is read is spelled so in the bytes, and goes on.
use Rattle.std.specs.Prelude.{ℕ, ◌≡◌, ◌<◌, ◌≤◌, ◌+◌, ◌⊎◌, Bool, true, false, List, [], ◌∷◌, ◌++◌, length, take, drop, Option, None, Some, Result, Ok, Err, nat_eq, if◌then◌else◌, refl}
use Rattle.std.specs.List.{AllByRecursion, starts_with}
use Rattle.std.proofs.Common.{suc, zero, arith, get_or, ◌∙◌, ap, sym, subst, inl, inr}
use Rattle.std.proofs.lemmas.Bool.{cases_Bool, cases_eq, cases_lt, ne_eqb}
use Rattle.std.proofs.lemmas.List.{append_assoc, length-drop, length-take-le, take-append-drop, take_at, drop-drop}
use Rattle.std.proofs.lemmas.Nat.{le_bytes_4}
use Rattle.raft_frames.specs.Format.{after, after_all, check_of, frame, frames, header, start, sum_of, word}
use Rattle.raft_frames.specs.Laws.{ArePayloads, GoesOn, IsByte, IsPayload, ReadsWhatIsThere, Spells, contents, file, kept_of}
use Rattle.raft_frames.specs.Reading.{Contents, behind, believed, end_unless_later, fault_of, go_on, has_head, is_head, is_new, new_log, next, nothing, number_at, read, read_frames}
use Rattle.raft_frames.specs.declared.error.Fault.{Fault}
use Rattle.raft_frames.specs.declared.error.Fault.TheVariants.{Damaged}
use Rattle.raft_frames.specs.declared.tail.Tail.{Tail}
use Rattle.raft_frames.proofs.Cuts.{begins_is, read-new}
use Rattle.raft_frames.proofs.Frames.{believed-cut, believed-whole, believed-wrong, end-damaged, end-none, head_of, next-head, next-no_head, next-short}
use Rattle.raft_frames.proofs.ReadLemmas.{read_frames-frame}
use Rattle.raft_frames.proofs.Runs.{frames-length, read-file}

pub bytes_take : (n : ℕ) (xs : List ℕ) → AllByRecursion IsByte xs → AllByRecursion IsByte (take n xs)
bytes_take zero xs each = tt
bytes_take (suc n) [] each = tt
bytes_take (suc n) (x ∷ xs) each = (each.0, bytes_take n xs each.1)

pub bytes_drop : (n : ℕ) (xs : List ℕ) → AllByRecursion IsByte xs → AllByRecursion IsByte (drop n xs)
bytes_drop zero xs each = each
bytes_drop (suc n) [] each = tt
bytes_drop (suc n) (x ∷ xs) each = bytes_drop n xs each.1

byte_of : (xs : List ℕ) → AllByRecursion IsByte xs → (i : ℕ) → get_or xs i 0 < 256
byte_of [] each i = omega arith
byte_of (x ∷ xs) each zero = each.0
byte_of (x ∷ xs) each (suc i) = byte_of xs each.1 i

word_at : (offset : ℕ) (bytes : List ℕ) → AllByRecursion IsByte bytes → offset + 4 ≤ length bytes → word (number_at offset bytes) ≡ take 4 (drop offset bytes)
word_at offset bytes each within =
    le_bytes_4 (take 4 (drop offset bytes)) (number_at offset bytes) (length-take-le 4 (drop offset bytes) (omega (arith, length-drop offset bytes, within)))
    (byte_of (take 4 (drop offset bytes)) (bytes_take 4 (drop offset bytes) (bytes_drop offset bytes each))) refl

-- one reading gives one thing
not_none : (r : Result (Option (List ℕ)) Fault) (payload : List ℕ) → r ≡ Ok None → r ≡ Ok (Some payload) → ⊥
not_none r payload a b = cc

not_damaged : (r : Result (Option (List ℕ)) Fault) (payload : List ℕ) (fault : Fault) → r ≡ Err fault → r ≡ Ok (Some payload) → ⊥
not_damaged r payload fault a b = cc

one_payload : (r : Result (Option (List ℕ)) Fault) (p q : List ℕ) → r ≡ Ok (Some p) → r ≡ Ok (Some q) → p ≡ q
one_payload r p q a b = cc

one_log : (r : Result Contents Fault) (a b : Contents) → r ≡ Ok a → r ≡ Ok b → a ≡ b
one_log r a b h k = cc

no_log : (r : Result Contents Fault) (log : Contents) (fault : Fault) → r ≡ Err fault → r ≡ Ok log → ⊥
no_log r log fault h k = cc

-- no frame is read where the log ends
ends_without : (tail : Tail) (n : ℕ) (bytes payload : List ℕ) → end_unless_later tail n bytes ≡ Ok (Some payload) → ⊥
ends_without tail n bytes payload found = go (cases_Bool (has_head tail.seed (tail.position + n) (drop n bytes)))
  where
    go : ((has_head tail.seed (tail.position + n) (drop n bytes) ≡ true) ⊎ (has_head tail.seed (tail.position + n) (drop n bytes) ≡ false)) → ⊥
    go (inl later) = not_damaged (end_unless_later tail n bytes) payload (Damaged tail.position) (end-damaged tail n bytes later) found
    go (inr none) = not_none (end_unless_later tail n bytes) payload (end-none tail n bytes none) found

-- what a frame that is read says of the bytes
record Found (tail : Tail) (bytes payload : List ℕ) : Type 0 where
  head : is_head tail.seed tail.position bytes ≡ true
  long : 12 + number_at 0 bytes ≤ length bytes
  is : payload ≡ take (number_at 0 bytes) (drop 12 bytes)
  sum : number_at 8 bytes ≡ sum_of tail.sum payload

found_of : (tail : Tail) (bytes payload : List ℕ) → next tail bytes ≡ Ok (Some payload) → Found tail bytes payload
found_of tail bytes payload found = go (cases_lt (length bytes) 12) (cases_Bool (is_head tail.seed tail.position bytes))
  where
    len : ℕ
    len = number_at 0 bytes

    summed : is_head tail.seed tail.position bytes ≡ true → believed tail len bytes ≡ Ok (Some payload) → ((length bytes < 12 + len) ⊎ (12 + len ≤ length bytes))
        → ((number_at 8 bytes ≡ sum_of tail.sum (take len (drop 12 bytes))) ⊎ (number_at 8 bytes ≡ sum_of tail.sum (take len (drop 12 bytes)) → ⊥)) → Found tail bytes payload
    summed head is (inl short) sum = absurd (not_none (believed tail len bytes) payload (believed-cut tail len bytes short) is)
    summed head is (inr long) (inl right) =
        let same = one_payload (believed tail len bytes) (take len (drop 12 bytes)) payload (believed-whole tail len bytes long right) is in
        record { head = head; long = long; is = sym same; sum = right ∙ ap (sum_of tail.sum) same }
    summed head is (inr long) (inr wrong) = absurd (ends_without tail (12 + len) bytes payload (sym (believed-wrong tail len bytes long wrong) ∙ is))

    go : ((length bytes < 12) ⊎ (12 ≤ length bytes)) → ((is_head tail.seed tail.position bytes ≡ true) ⊎ (is_head tail.seed tail.position bytes ≡ false)) → Found tail bytes payload
    go (inl few) head = absurd (not_none (next tail bytes) payload (next-short tail bytes few) found)
    go (inr many) (inl head) =
        summed head (sym (next-head tail bytes head) ∙ found) (cases_lt (length bytes) (12 + len)) (cases_eq (number_at 8 bytes) (sum_of tail.sum (take len (drop 12 bytes))))
    go (inr many) (inr none) = absurd (ends_without tail 12 bytes payload (sym (next-no_head tail bytes many none) ∙ found))

-- a frame that is read stands there
pub record Stands (tail : Tail) (bytes payload : List ℕ) : Type 0 where
  pub fits : IsPayload payload
  pub is : bytes ≡ frame tail payload ++ drop (12 + length payload) bytes

pub stands : (tail : Tail) (bytes payload : List ℕ) → AllByRecursion IsByte bytes → next tail bytes ≡ Ok (Some payload) → Stands tail bytes payload
stands tail bytes payload each found =
    let f = found_of tail bytes payload found in
    let h = head_of tail.seed tail.position bytes f.head in
    let len : length payload ≡ number_at 0 bytes = ap length f.is ∙ length-take-le (number_at 0 bytes) (drop 12 bytes) (omega (arith, length-drop 12 bytes, f.long)) in
    let first : word (length payload) ≡ take 4 bytes = ap word len ∙ word_at 0 bytes each (omega (arith, h.long)) in
    let second : word (check_of tail.seed tail.position (length payload)) ≡ take 4 (drop 4 bytes) =
    ap word (ap (check_of tail.seed tail.position) len ∙ sym h.checked) ∙ word_at 4 bytes each (omega (arith, h.long)) in
    let third : word (sum_of tail.sum payload) ≡ take 4 (drop 8 bytes) = ap word (sym f.sum) ∙ word_at 8 bytes each (omega (arith, h.long)) in
    let fourth : payload ≡ take (length payload) (drop 12 bytes) = f.is ∙ ap (λ n. take n (drop 12 bytes)) (sym len) in
    let rest = drop (12 + length payload) bytes in
    record {
      fits = record {
        some = omega (arith, len, h.some);
        short = omega (arith, len, h.short);
        bytes = subst (AllByRecursion IsByte) (sym f.is) (bytes_take (number_at 0 bytes) (drop 12 bytes) (bytes_drop 12 bytes each));
      };
      is =
          sym (ap (λ x. x ++ (word (check_of tail.seed tail.position (length payload)) ++ (word (sum_of tail.sum payload) ++ (payload ++ rest)))) first
          ∙ (ap (λ x. take 4 bytes ++ (x ++ (word (sum_of tail.sum payload) ++ (payload ++ rest)))) second
          ∙ (ap (λ x. take 4 bytes ++ (take 4 (drop 4 bytes) ++ (x ++ (payload ++ rest)))) third
          ∙ (ap (λ x. take 4 bytes ++ (take 4 (drop 4 bytes) ++ (take 4 (drop 8 bytes) ++ (x ++ rest)))) fourth
          ∙ (ap (λ x. take 4 bytes ++ (take 4 (drop 4 bytes) ++ (take 4 (drop 8 bytes) ++ (take (length payload) (drop 12 bytes) ++ x)))) (sym (drop-drop (length payload) 12 bytes))
          ∙ (ap (λ x. take 4 bytes ++ (take 4 (drop 4 bytes) ++ (take 4 (drop 8 bytes) ++ x))) (take-append-drop (length payload) (drop 12 bytes))
          ∙ (ap (λ x. take 4 bytes ++ (take 4 (drop 4 bytes) ++ (take 4 (drop 8 bytes) ++ x))) (sym (drop-drop 4 8 bytes))
          ∙ (ap (λ x. take 4 bytes ++ (take 4 (drop 4 bytes) ++ x)) (take-append-drop 4 (drop 8 bytes))
          ∙ (ap (λ x. take 4 bytes ++ (take 4 (drop 4 bytes) ++ x)) (sym (drop-drop 4 4 bytes))
          ∙ (ap (λ x. take 4 bytes ++ x) (take-append-drop 4 (drop 4 bytes)) ∙ take-append-drop 4 bytes))))))))));
    }

-- frames that are read stand there, one behind the other
pub record AllStand (tail : Tail) (bytes : List ℕ) (log : Contents) : Type 0 where
  pub payloads : ArePayloads log.payloads
  pub tail_is : log.tail ≡ after_all tail log.payloads
  pub end_is : log.end ≡ log.tail.position
  pub rest : List ℕ
  pub is : bytes ≡ frames tail log.payloads ++ rest

no_more : (tail : Tail) (bytes : List ℕ) (log : Contents) → nothing tail ≡ log → AllStand tail bytes log
no_more tail bytes log same = subst (AllStand tail bytes) same (record { payloads = tt; tail_is = refl; end_is = refl; rest = bytes; is = refl })

pub all_stand : (n : ℕ) (tail : Tail) (bytes : List ℕ) (log : Contents) → AllByRecursion IsByte bytes → read_frames n tail bytes ≡ Ok log → AllStand tail bytes log
all_stand zero tail bytes log each ends = no_more tail bytes log (one_log (read_frames zero tail bytes) (nothing tail) log refl ends)
all_stand (suc n) tail bytes log each ends = go (λ t b l. all_stand n t b l) (next tail bytes) refl
  where
    rest_of : ((t : Tail) (b : List ℕ) (l : Contents) → AllByRecursion IsByte b → read_frames n t b ≡ Ok l → AllStand t b l)
        → (payload : List ℕ) → next tail bytes ≡ Ok (Some payload)
        → (r : Result Contents Fault) → read_frames n (after tail payload) (drop (12 + length payload) bytes) ≡ r → behind payload r ≡ Ok log → AllStand tail bytes log
    rest_of again payload found (Ok others) is e =
        let this = stands tail bytes payload each found in
        let more = again (after tail payload) (drop (12 + length payload) bytes) others (bytes_drop (12 + length payload) bytes each) is in
        let whole : Contents = record { payloads = payload ∷ others.payloads; end = others.end; tail = others.tail } in
        subst (AllStand tail bytes) (one_log (behind payload (Ok others)) whole log refl e) (record {
          payloads = (this.fits, more.payloads);
          tail_is = more.tail_is;
          end_is = more.end_is;
          rest = more.rest;
          is = this.is ∙ (ap (λ x. frame tail payload ++ x) more.is ∙ sym (append_assoc (frame tail payload) (frames (after tail payload) others.payloads) more.rest));
        })
    rest_of again payload found (Err fault) is e = absurd (no_log (behind payload (Err fault)) log fault refl e)

    step : Result (Option (List ℕ)) Fault → Result Contents Fault
    step r = go_on tail (λ payload. read_frames n (after tail payload) (drop (12 + length payload) bytes)) r

    go : ((t : Tail) (b : List ℕ) (l : Contents) → AllByRecursion IsByte b → read_frames n t b ≡ Ok l → AllStand t b l)
        → (r : Result (Option (List ℕ)) Fault) → next tail bytes ≡ r → AllStand tail bytes log
    go again (Ok (Some payload)) e =
        rest_of again payload e (read_frames n (after tail payload) (drop (12 + length payload) bytes)) refl (sym (read_frames-frame n tail bytes payload e) ∙ ends)
    go again (Ok None) e = no_more tail bytes log (one_log (read_frames (suc n) tail bytes) (nothing tail) log (ap step e) ends)
    go again (Err fault) e = absurd (no_log (read_frames (suc n) tail bytes) log fault (ap step e) ends)

pub spelled : ReadsWhatIsThere
spelled id bytes log each found = go (cases_Bool (starts_with nat_eq bytes (header id))) (cases_Bool (is_new (header id) bytes))
  where
    begun : Bool → Result Contents Fault
    begun t = if t then read_frames (length (drop 32 bytes)) (start id) (drop 32 bytes) else if is_new (header id) bytes then Ok (new_log id) else Err (fault_of id bytes)

    go : ((starts_with nat_eq bytes (header id) ≡ true) ⊎ (starts_with nat_eq bytes (header id) ≡ false)) → ((is_new (header id) bytes ≡ true) ⊎ (is_new (header id) bytes ≡ false)) → Spells id bytes log
    go (inl whole) new =
        let all = all_stand (length (drop 32 bytes)) (start id) (drop 32 bytes) log (bytes_drop 32 bytes each) (sym (ap begun whole) ∙ found) in
        let same : bytes ≡ file id log.payloads ++ all.rest = begins_is id bytes whole ∙ ap (λ x. header id ++ x) all.is in
        let size : 32 + length (frames (start id) log.payloads) ≡ (after_all (start id) log.payloads).position = frames-length (start id) log.payloads in
        let at : length (file id log.payloads) ≡ log.end = omega (arith, size, all.end_is, ap (λ t. t.position) all.tail_is) in
        record {
          payloads = all.payloads;
          tail = all.tail_is;
          end = inr (all.end_is, ap (take log.end) same ∙ take_at (file id log.payloads) all.rest log.end at);
        }
    go (inr other) (inl new) =
        subst (Spells id bytes) (one_log (read id bytes) (new_log id) log (read-new id bytes other new) found) (record { payloads = tt; tail = refl; end = inl (refl, refl) })
    go (inr other) (inr old) =
        absurd (no_log (read id bytes) log (fault_of id bytes) (ap begun other ∙ ap (λ t. if t then Ok (new_log id) else Err (fault_of id bytes)) old) found)

frames-append : (tail : Tail) (payloads more : List (List ℕ)) → frames tail payloads ++ frames (after_all tail payloads) more ≡ frames tail (payloads ++ more)
frames-append tail [] more = refl
frames-append tail (p ∷ payloads) more =
    append_assoc (frame tail p) (frames (after tail p) payloads) (frames (after_all (after tail p) payloads) more)
    ∙ ap (λ x. frame tail p ++ x) (frames-append (after tail p) payloads more)

both_are : (payloads more : List (List ℕ)) → ArePayloads payloads → ArePayloads more → ArePayloads (payloads ++ more)
both_are [] more h k = k
both_are (p ∷ payloads) more h k = (h.0, both_are payloads more h.1 k)

pub goes_on : GoesOn
goes_on id bytes log more each found each_more = go (spelled id bytes log each found) refl
  where
    go : (s : Spells id bytes log) → s ≡ s → read id (kept_of id bytes log ++ frames log.tail more) ≡ Ok (contents id (log.payloads ++ more))
    go s _ = by_end s.end
      where
        by_end : (((log.end ≡ 0) × (log.payloads ≡ [])) ⊎ ((log.end ≡ log.tail.position) × (take log.end bytes ≡ file id log.payloads)))
            → read id (kept_of id bytes log ++ frames log.tail more) ≡ Ok (contents id (log.payloads ++ more))
        by_end (inl new) =
            let kept : kept_of id bytes log ≡ header id = ap (λ n. if nat_eq n 0 then header id else take n bytes) new.0 in
            let place : log.tail ≡ start id = s.tail ∙ ap (after_all (start id)) new.1 in
            ap (λ x. read id (x ++ frames log.tail more)) kept
            ∙ (ap (λ t. read id (header id ++ frames t more)) place
            ∙ (read-file id more each_more ∙ ap (λ ps. Ok (contents id (ps ++ more))) (sym new.1)))
        by_end (inr old) =
            let size : 32 + length (frames (start id) log.payloads) ≡ (after_all (start id) log.payloads).position = frames-length (start id) log.payloads in
            let some : log.end ≡ 0 → ⊥ = λ none. omega (arith, none, old.0, size, ap (λ t. t.position) s.tail) in
            let kept : kept_of id bytes log ≡ file id log.payloads = ap (λ t. if t then header id else take log.end bytes) (ne_eqb log.end 0 some) ∙ old.1 in
            ap (λ x. read id (x ++ frames log.tail more)) kept
            ∙ (ap (λ t. read id (file id log.payloads ++ frames t more)) s.tail
            ∙ (ap (λ x. read id (header id ++ x)) (frames-append (start id) log.payloads more)
            ∙ read-file id (log.payloads ++ more) (both_are log.payloads more s.payloads each_more)))
