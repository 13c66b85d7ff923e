-- Logs of other nodes.
use Rattle.std.specs.Prelude.{ℕ, ◌≡◌, ◌<◌, ◌≤◌, ◌^◌, ◌⊎◌, ◌==◌, ◌&&◌, true, false, List, [], ◌∷◌, ◌++◌, length, take, drop, Ok, Err, nat_eq, nat_lt, if◌then◌else◌, refl}
use Rattle.std.specs.List.{starts_with}
use Rattle.std.proofs.Common.{arith, ◌∙◌, ap, sym, inl, inr}
use Rattle.std.proofs.lemmas.Bool.{and_parts, eq-eqb, false_from_ne_true, le-ltb, or_cases, true≢false}
use Rattle.std.proofs.lemmas.Nat.{from_le_bytes-to_le_bytes_8}
use Rattle.std.proofs.lemmas.Slice.Eq.{starts_is}
use Rattle.raft_frames.specs.Crc.{crc32c}
use Rattle.raft_frames.specs.Format.{fields, header, seed_of, start}
use Rattle.raft_frames.specs.Laws.{IsId, RefusesOthers}
use Rattle.raft_frames.specs.Reading.{fault_of, is_new, is_zero, long_at, new_log, number_at, read_frames}
use Rattle.raft_frames.specs.declared.error.Fault.{Fault}
use Rattle.raft_frames.specs.declared.error.Fault.TheVariants.{Format, Version, Header, Cluster, Node}
use Rattle.raft_frames.specs.declared.header.LogId.{LogId}
use Rattle.raft_frames.specs.declared.header.TheConstants.{MAGIC, VERSION}
use Rattle.raft_frames.proofs.Bytes.{number-word, seed_of-lt}
use Rattle.raft_frames.proofs.Cuts.{begins_is}
use Rattle.raft_frames.proofs.Runs.{same_bytes}

cluster_at : (id : LogId) (rest : List ℕ) → id.cluster < 2 ^ 64 → long_at 12 (header id ++ rest) ≡ id.cluster
cluster_at id rest h = from_le_bytes-to_le_bytes_8 id.cluster h

node_at : (id : LogId) (rest : List ℕ) → id.node < 2 ^ 64 → long_at 20 (header id ++ rest) ≡ id.node
node_at id rest h = from_le_bytes-to_le_bytes_8 id.node h

-- headers are of one node
same_id : (id other : LogId) (x y : List ℕ) → IsId id → IsId other → header other ++ x ≡ header id ++ y → id ≡ other
same_id id other x y fits others e =
    let c : id.cluster ≡ other.cluster = sym (cluster_at id y fits.0) ∙ (ap (long_at 12) (sym e) ∙ cluster_at other x others.0) in
    let n : id.node ≡ other.node = sym (node_at id y fits.1) ∙ (ap (long_at 20) (sym e) ∙ node_at other x others.1) in
    ap (λ (k : ℕ). record { cluster = k; node = id.node }) c ∙ ap (λ (k : ℕ). record { cluster = other.cluster; node = k }) n

zero_behind : (front rest : List ℕ) → is_zero (front ++ rest) ≡ true → is_zero rest ≡ true
zero_behind [] rest h = h
zero_behind (x ∷ front) rest h = zero_behind front rest (and_parts (x == 0) (is_zero (front ++ rest)) h).1

new_zero : (whole front rest : List ℕ) → length whole ≤ length front → is_new whole (front ++ rest) ≡ true → is_zero rest ≡ true
new_zero [] front rest h new = absurd (true≢false (sym new))
new_zero (b ∷ whole) [] rest h new = absurd (omega (arith, h))
new_zero (b ∷ whole) (x ∷ front) rest h new = go (or_cases (is_zero (x ∷ (front ++ rest))) (x == b && is_new whole (front ++ rest)) new) (new_zero whole front rest (omega (arith, h)))
  where
    go : ((is_zero (x ∷ (front ++ rest)) ≡ true) ⊎ ((x == b && is_new whole (front ++ rest)) ≡ true)) → (is_new whole (front ++ rest) ≡ true → is_zero rest ≡ true) → is_zero rest ≡ true
    go (inl zeros) again = zero_behind (x ∷ front) rest zeros
    go (inr more) again = again (and_parts (x == b) (is_new whole (front ++ rest)) more).1

seed_is : (other : LogId) → seed_of other ≡ crc32c (fields other)
unfolding seed_of
seed_is other = refl

fault-other : (id other : LogId) (rest : List ℕ) → IsId other → fault_of id (header other ++ rest) ≡ (if nat_eq other.cluster id.cluster then Node other.node else Cluster other.cluster)
fault-other id other rest fits =
    let bytes = header other ++ rest in
    let begins : starts_with nat_eq bytes MAGIC ≡ true = (starts_is same_bytes bytes MAGIC (starts_with nat_eq bytes MAGIC) refl).1 (drop 8 bytes) refl in
    let long : nat_lt (length bytes) 32 ≡ false = le-ltb (length bytes) 32 (omega arith) in
    let version : (number_at 8 bytes == VERSION) ≡ true = refl in
    let summed : (number_at 28 bytes == crc32c (take 28 bytes)) ≡ true =
    eq-eqb (number_at 28 bytes) (crc32c (take 28 bytes)) (number-word (seed_of other) (seed_of-lt other) ∙ seed_is other) in
    let who : Fault = if nat_eq (long_at 12 bytes) id.cluster then Node (long_at 20 bytes) else Cluster (long_at 12 bytes) in
    let sound : Fault = if number_at 28 bytes == crc32c (take 28 bytes) then who else Header in
    let known : Fault = if number_at 8 bytes == VERSION then sound else Version (number_at 8 bytes) in
    ap (λ t. if t then (if nat_lt (length bytes) 32 then Header else known) else Format) begins
    ∙ (ap (λ t. if t then Header else known) long
    ∙ (ap (λ t. if t then sound else Version (number_at 8 bytes)) version
    ∙ (ap (λ t. if t then who else Header) summed
    ∙ (ap (λ c. if nat_eq c id.cluster then Node (long_at 20 bytes) else Cluster c) (cluster_at other rest fits.0)
    ∙ ap (λ n. if nat_eq other.cluster id.cluster then Node n else Cluster other.cluster) (node_at other rest fits.1)))))

pub refuses_others : RefusesOthers
refuses_others id other rest fits others apart some =
    let bytes = header other ++ rest in
    let not_ours : starts_with nat_eq bytes (header id) ≡ false =
    false_from_ne_true (starts_with nat_eq bytes (header id)) (λ begins. apart (same_id id other rest (drop 32 bytes) fits others (begins_is id bytes begins))) in
    let not_new : is_new (header id) bytes ≡ false =
    false_from_ne_true (is_new (header id) bytes) (λ new. true≢false (sym (new_zero (header id) (header other) rest (omega arith) new) ∙ some)) in
    ap (λ t. if t then read_frames (length (drop 32 bytes)) (start id) (drop 32 bytes) else if is_new (header id) bytes then Ok (new_log id) else Err (fault_of id bytes)) not_ours
    ∙ (ap (λ t. if t then Ok (new_log id) else Err (fault_of id bytes)) not_new ∙ ap Err (fault-other id other rest others))
