-- Frames that are damaged, in front of one that isn't.
use Rattle.std.specs.Prelude.{ℕ, ◌≡◌, ◌≤◌, ◌+◌, ◌⊎◌, true, false, List, ◌++◌, length, take, drop, Err}
use Rattle.std.specs.Int.{from_le_bytes, w32}
use Rattle.std.proofs.Common.{arith, ◌∙◌, ap, sym, subst, inl, inr}
use Rattle.std.proofs.lemmas.Bool.{cases_Bool, true≢false}
use Rattle.std.proofs.lemmas.List.{length-append, length-drop, take_at, drop_at, take-append-le, drop-append-le, drop-drop}
use Rattle.raft_frames.specs.Format.{after, after_all, frame, start, sum_of}
use Rattle.raft_frames.specs.Laws.{IsDamaged, IsPayload, TellsDamage, ZerosAreDamage}
use Rattle.raft_frames.specs.Reading.{believed, has_head, is_head, next, number_at}
use Rattle.raft_frames.specs.declared.error.Fault.TheVariants.{Damaged}
use Rattle.raft_frames.specs.declared.tail.Tail.{Tail}
use Rattle.raft_frames.proofs.Filled.{zeros-no_head}
use Rattle.raft_frames.proofs.Frames.{believed-wrong, end-damaged, has_head-here, has_head-later, head_of, headed-head, is_head-from, next-head, next-no_head}
use Rattle.raft_frames.proofs.Runs.{read-damaged}

number_at-front : (offset : ℕ) (front rest : List ℕ) → offset + 4 ≤ length front → number_at offset (front ++ rest) ≡ number_at offset front
number_at-front offset front rest h =
    ap (from_le_bytes w32)
    (ap (take 4) (drop-append-le offset front rest (omega (arith, h))) ∙ take-append-le 4 (drop offset front) rest (omega (arith, length-drop offset front, h)))

next-damaged : (tail : Tail) (payload bytes behind rest : List ℕ) → IsPayload behind → length bytes ≡ 12 + length payload → IsDamaged tail payload bytes
    → next tail (bytes ++ (frame (after tail payload) behind ++ rest)) ≡ Err (Damaged tail.position)
next-damaged tail payload bytes behind rest fits size damaged = go (cases_Bool (is_head tail.seed tail.position whole))
  where
    later : List ℕ
    later = frame (after tail payload) behind ++ rest

    whole : List ℕ
    whole = bytes ++ later

    long : 12 ≤ length whole
    long = omega (arith, length-append bytes later, size)

    there : has_head tail.seed (tail.position + (12 + length payload)) later ≡ true
    there = has_head-here tail.seed (tail.position + (12 + length payload)) later (headed-head (after tail payload) behind (behind ++ rest) fits)

    at_end : drop (12 + length payload) whole ≡ later
    at_end = drop_at bytes later (12 + length payload) size

    found : has_head tail.seed (tail.position + 12) (drop 12 whole) ≡ true
    found =
        let same_place : tail.position + (12 + length payload) ≡ tail.position + 12 + length payload = omega arith in
        has_head-later (length payload) tail.seed (tail.position + 12) (drop 12 whole)
        (subst (λ p. has_head tail.seed p (drop (length payload) (drop 12 whole)) ≡ true) same_place
        (ap (has_head tail.seed (tail.position + (12 + length payload))) (drop-drop (length payload) 12 whole ∙ at_end) ∙ there))

    body : take (length payload) (drop 12 whole) ≡ drop 12 bytes
    body =
        ap (take (length payload)) (drop-append-le 12 bytes later (omega (arith, size)))
        ∙ take_at (drop 12 bytes) later (length payload) (omega (arith, length-drop 12 bytes, size))

    go : ((is_head tail.seed tail.position whole ≡ true) ⊎ (is_head tail.seed tail.position whole ≡ false)) → next tail whole ≡ Err (Damaged tail.position)
    go (inr none) = next-no_head tail whole long none ∙ end-damaged tail 12 whole found
    go (inl head) =
        let h = head_of tail.seed tail.position whole head in
        let len : number_at 0 whole ≡ number_at 0 bytes = number_at-front 0 bytes later (omega (arith, size)) in
        let check : number_at 4 whole ≡ number_at 4 bytes = number_at-front 4 bytes later (omega (arith, size)) in
        let sum : number_at 8 whole ≡ number_at 8 bytes = number_at-front 8 bytes later (omega (arith, size)) in
        let alone : is_head tail.seed tail.position bytes ≡ true =
        is_head-from tail.seed tail.position bytes (number_at 0 whole) (omega (arith, size)) (sym len) h.some h.short (sym check ∙ h.checked) in
        let wrong = damaged alone in
        next-head tail whole head
        ∙ (ap (λ n. believed tail n whole) (len ∙ wrong.0)
        ∙ (believed-wrong tail (length payload) whole (omega (arith, length-append bytes later, size)) (λ e. wrong.1 (sym sum ∙ (e ∙ ap (sum_of tail.sum) body)))
        ∙ end-damaged tail (12 + length payload) whole (ap (has_head tail.seed (tail.position + (12 + length payload))) at_end ∙ there)))

pub tells_damage : TellsDamage
tells_damage id payloads payload bytes behind rest each fits size damaged =
    let there = after_all (start id) payloads in
    let later = frame (after there payload) behind ++ rest in
    read-damaged id payloads (bytes ++ later) (Damaged there.position) each (omega (arith, length-append bytes later, size)) (next-damaged there payload bytes behind rest fits size damaged)

pub zeros_are_damage : ZerosAreDamage
zeros_are_damage tail payload head = absurd (true≢false (sym head ∙ zeros-no_head tail.seed tail.position (12 + length payload)))
