-- The steps of reading.
use Rattle.std.specs.Prelude.{ℕ, ◌≡◌, ◌<◌, ◌+◌, ◌-◌, ◌==◌, ◌&&◌, ◌||◌, Bool, true, false, List, [], ◌∷◌, ◌++◌, length, take, drop, Option, Some, None, Result, Ok, Err, is_some, if◌then◌else◌, refl}
use Rattle.std.proofs.Common.{suc, zero, arith, get_or, ◌∙◌, ap, sym, subst, ◌⊎◌, inl, inr}
use Rattle.std.proofs.lemmas.List.{append-nil, drop_more, take_rest}
use Rattle.raft_frames.specs.Format.{after}
use Rattle.raft_frames.specs.Reading.{Contents, behind, go_on, has_head, is_head, is_new, is_zero, next, nothing, read_frames}
use Rattle.raft_frames.specs.declared.error.Fault.{Fault}
use Rattle.raft_frames.specs.declared.tail.Tail.{Tail}

-- where no frame begins, one begins behind or nowhere
none_here : (here : Bool) (n : ℕ) (found : Option ℕ) → found ≡ (if here then Some n else None) → is_some found ≡ false → here ≡ false
none_here false n found is none = refl
none_here true n found is none = sym (ap is_some is) ∙ none

pub has_head-skip : (seed position : ℕ) (bytes : List ℕ) (i n : ℕ) (found : Option ℕ) → i < length bytes
    → found ≡ (if is_head seed (position + i) (take (length bytes - i) (drop i bytes)) then Some n else None) → is_some found ≡ false
    → has_head seed (position + (i + 1)) (drop (i + 1) bytes) ≡ has_head seed (position + i) (drop i bytes)
has_head-skip seed position bytes i n found within is none =
    let here : is_head seed (position + i) (take (length bytes - i) (drop i bytes)) ≡ false = none_here (is_head seed (position + i) (take (length bytes - i) (drop i bytes))) n found is none in
    let split = drop_more bytes i 0 within in
    let begin : is_head seed (position + i) (get_or bytes i 0 ∷ drop (i + 1) bytes) ≡ false = subst (λ b. is_head seed (position + i) b ≡ false) (take_rest bytes i ∙ split) here in
    let next_place : position + (i + 1) ≡ suc (position + i) = omega arith in
    ap (λ p. has_head seed p (drop (i + 1) bytes)) next_place
    ∙ (ap (λ t. t || has_head seed (suc (position + i)) (drop (i + 1) bytes)) (sym begin) ∙ ap (has_head seed (position + i)) (sym split))

-- zeros from here on: the header was torn here, or before
zero_new : (byte : ℕ) (header bytes : List ℕ) → is_zero bytes ≡ true → is_new (byte ∷ header) bytes ≡ true
zero_new byte header [] z = refl
zero_new byte header (found ∷ bytes) z = ap (λ t. t || (found == byte && is_new header bytes)) z

pub is_new-zero : (header bytes : List ℕ) (i : ℕ) → i < length header → is_zero (drop i bytes) ≡ true → is_new (drop i header) (drop i bytes) ≡ true
is_new-zero header bytes i within z =
    ap (λ hs. is_new hs (drop i bytes)) (drop_more header i 0 within) ∙ zero_new (get_or header i 0) (drop (i + 1) header) (drop i bytes) z

-- payloads in front of what is read
abbrev pub behind_all : List (List ℕ) → Result Contents Fault → Result Contents Fault
behind_all [] read = read
behind_all (payload ∷ payloads) read = behind payload (behind_all payloads read)

pub behind_all-ok : (payloads : List (List ℕ)) (c : Contents) → behind_all payloads (Ok c) ≡ Ok (record { payloads = payloads ++ c.payloads; end = c.end; tail = c.tail })
behind_all-ok [] c = refl
behind_all-ok (payload ∷ payloads) c = ap (behind payload) (behind_all-ok payloads c)

pub behind_all-err : (payloads : List (List ℕ)) (fault : Fault) → behind_all payloads (Err fault) ≡ Err fault
behind_all-err [] fault = refl
behind_all-err (payload ∷ payloads) fault = ap (behind payload) (behind_all-err payloads fault)

pub behind_all-push : (payloads : List (List ℕ)) (payload : List ℕ) (read : Result Contents Fault) → behind_all (payloads ++ payload ∷ []) read ≡ behind_all payloads (behind payload read)
behind_all-push [] payload read = refl
behind_all-push (p ∷ payloads) payload read = ap (behind p) (behind_all-push payloads payload read)

-- one step of reading
pub read_frames-frame : (n : ℕ) (tail : Tail) (bytes payload : List ℕ) → next tail bytes ≡ Ok (Some payload)
    → read_frames (suc n) tail bytes ≡ behind payload (read_frames n (after tail payload) (drop (12 + length payload) bytes))
read_frames-frame n tail bytes payload found = ap (go_on tail (λ p. read_frames n (after tail p) (drop (12 + length p) bytes))) found

pub read_frames-end : (n : ℕ) (tail : Tail) (bytes : List ℕ) → next tail bytes ≡ Ok None → read_frames n tail bytes ≡ Ok (nothing tail)
read_frames-end zero tail bytes ends = refl
read_frames-end (suc n) tail bytes ends = ap (go_on tail (λ p. read_frames n (after tail p) (drop (12 + length p) bytes))) ends

pub read_frames-err : (n : ℕ) (tail : Tail) (bytes : List ℕ) (fault : Fault) → next tail bytes ≡ Err fault → read_frames (suc n) tail bytes ≡ Err fault
read_frames-err n tail bytes fault damaged = ap (go_on tail (λ p. read_frames n (after tail p) (drop (12 + length p) bytes))) damaged

pub read_frames-more : (k n : ℕ) (tail : Tail) (bytes payload : List ℕ) (payloads : List (List ℕ)) (read : Result Contents Fault) → k < n → next tail bytes ≡ Ok (Some payload)
    → behind_all payloads (read_frames (n - k) tail bytes) ≡ read
    → behind_all (payloads ++ payload ∷ []) (read_frames (n - (k + 1)) (after tail payload) (drop (12 + length payload) bytes)) ≡ read
read_frames-more k n tail bytes payload payloads read below found so_far =
    let step : n - k ≡ suc (n - (k + 1)) = omega arith in
    behind_all-push payloads payload (read_frames (n - (k + 1)) (after tail payload) (drop (12 + length payload) bytes))
    ∙ (ap (behind_all payloads) (sym (read_frames-frame (n - (k + 1)) tail bytes payload found) ∙ ap (λ m. read_frames m tail bytes) (sym step)) ∙ so_far)

pub read_frames-all : (n : ℕ) (tail : Tail) (bytes : List ℕ) (payloads : List (List ℕ)) (read : Result Contents Fault) → (n ≡ 0) ⊎ (next tail bytes ≡ Ok None)
    → behind_all payloads (read_frames n tail bytes) ≡ read → read ≡ Ok (record { payloads = payloads; end = tail.position; tail = tail })
read_frames-all n tail bytes payloads read at_end so_far =
    sym so_far
    ∙ (ap (behind_all payloads) (ends at_end) ∙ (behind_all-ok payloads (nothing tail) ∙ ap (λ ps. Ok (record { payloads = ps; end = tail.position; tail = tail })) (append-nil payloads)))
  where
    ends : ((n ≡ 0) ⊎ (next tail bytes ≡ Ok None)) → read_frames n tail bytes ≡ Ok (nothing tail)
    ends (inl none_left) = ap (λ m. read_frames m tail bytes) none_left
    ends (inr no_frame) = read_frames-end n tail bytes no_frame

pub read_frames-damaged : (n : ℕ) (tail : Tail) (bytes : List ℕ) (payloads : List (List ℕ)) (read : Result Contents Fault) (fault : Fault) → 0 < n → next tail bytes ≡ Err fault
    → behind_all payloads (read_frames n tail bytes) ≡ read → read ≡ Err fault
read_frames-damaged zero tail bytes payloads read fault some damaged so_far = absurd (omega (arith, some))
read_frames-damaged (suc n) tail bytes payloads read fault some damaged so_far =
    sym so_far ∙ (ap (behind_all payloads) (read_frames-err n tail bytes fault damaged) ∙ behind_all-err payloads fault)
