-- Numbers and servers, read one after another.
use Rattle.std.proofs.Common.{ℕ, ◌≡◌, ◌+◌, ◌*◌, ◌≤◌, ◌∙◌, suc, zero, List, [], ◌∷◌, ◌++◌, drop, refl, sym, ap, arith}
use Rattle.std.proofs.lemmas.List.{drop-drop}
use Rattle.service_host.specs.Settings.{behind_numbers, behind_server, behind_servers, ids_at, number_at, numbers_at}

one_more : (n : ℕ) → n + 1 ≡ suc n
one_more n = omega arith

behind_next : (n k : ℕ) (front : List ℕ) → k ≡ suc n → behind_numbers 1 (behind_numbers n front) ≡ behind_numbers k front
behind_next n k front k_is =
    let all : 8 * n + 8 ≡ 8 * k = omega (arith, k_is) in
    drop-drop 8 (8 * n) front ∙ ap (λ m. drop m front) all

behind_first : (n k : ℕ) (front : List ℕ) → k ≡ suc n → behind_numbers n (behind_numbers 1 front) ≡ behind_numbers k front
behind_first n k front k_is =
    let all : 8 + 8 * n ≡ 8 * k = omega (arith, k_is) in
    drop-drop (8 * n) 8 front ∙ ap (λ m. drop m front) all

numbers_more : (n : ℕ) (front : List ℕ) → numbers_at n front ++ (number_at (behind_numbers n front) ∷ []) ≡ numbers_at (suc n) front
numbers_more zero front = refl
numbers_more (suc n) front =
    let rest = behind_numbers 1 front in
    let same : number_at (behind_numbers (suc n) front) ≡ number_at (behind_numbers n rest) = ap number_at (sym (behind_first n (suc n) front refl)) in
    ap (λ x. number_at front ∷ (numbers_at n rest ++ (x ∷ []))) same ∙ ap (λ xs. number_at front ∷ xs) (numbers_more n rest)

servers_more : (n : ℕ) (front : List ℕ) → behind_server (behind_servers n front) ≡ behind_servers (suc n) front
servers_more zero front = refl
servers_more (suc n) front = servers_more n (behind_server front)

ids_more : (n : ℕ) (front : List ℕ) → ids_at n front ++ (number_at (behind_servers n front) ∷ []) ≡ ids_at (suc n) front
ids_more zero front = refl
ids_more (suc n) front = ap (λ xs. number_at front ∷ xs) (ids_more n (behind_server front))

-- so many numbers were read
pub record HasNumbers (n : ℕ) (front rest numbers : List ℕ) : Type 0 where
  pub are : numbers ≡ numbers_at n front
  pub left : rest ≡ behind_numbers n front

pub no_numbers : (front numbers : List ℕ) → numbers ≡ [] → HasNumbers 0 front front numbers
no_numbers front numbers none = record { are = none; left = refl }

pub next_number : (n k x : ℕ) (front rest behind numbers more : List ℕ) → k ≡ suc n → HasNumbers n front rest numbers → x ≡ number_at rest
    → behind ≡ behind_numbers 1 rest → more ≡ numbers ++ (x ∷ []) → HasNumbers k front behind more
next_number n k x front rest behind numbers more k_is h x_is behind_is more_is = record {
  are = more_is
      ∙ (ap (λ y. numbers ++ (y ∷ [])) (x_is ∙ ap number_at h.left)
      ∙ (ap (λ xs. xs ++ (number_at (behind_numbers n front) ∷ [])) h.are ∙ (numbers_more n front ∙ ap (λ m. numbers_at m front) (sym k_is))));
  left = behind_is ∙ (ap (behind_numbers 1) h.left ∙ behind_next n k front k_is);
}

-- all numbers were read, which stand behind how many they are
pub all_numbers : (n count : ℕ) (front before rest numbers : List ℕ) → n ≤ count → count ≤ n → count ≡ number_at before → front ≡ behind_numbers 1 before
    → HasNumbers n front rest numbers
    → (numbers ≡ numbers_at (number_at before) (behind_numbers 1 before)) × (rest ≡ behind_numbers (number_at before + 1) before)
all_numbers n count front before rest numbers within all count_is front_is h =
    let same : n ≡ count = omega (arith, within, all) in
    let m = same ∙ count_is in (
      h.are ∙ (ap (λ k. numbers_at k front) m ∙ ap (λ f. numbers_at (number_at before) f) front_is),
      h.left ∙ (ap (λ k. behind_numbers k front) m
          ∙ (ap (λ f. behind_numbers (number_at before) f) front_is ∙ behind_first (number_at before) (number_at before + 1) before (one_more (number_at before)))),
    )

-- so many servers were read
pub record HasServers (n : ℕ) (front rest ids : List ℕ) : Type 0 where
  pub are : ids ≡ ids_at n front
  pub left : rest ≡ behind_servers n front

pub no_servers : (front ids : List ℕ) → ids ≡ [] → HasServers 0 front front ids
no_servers front ids none = record { are = none; left = refl }

pub next_server : (n k : ℕ) (front rest behind ids more : List ℕ) → k ≡ suc n → HasServers n front rest ids → behind ≡ behind_server rest
    → more ≡ ids ++ (number_at rest ∷ []) → HasServers k front behind more
next_server n k front rest behind ids more k_is h behind_is more_is = record {
  are = more_is
      ∙ (ap (λ r. ids ++ (number_at r ∷ [])) h.left
      ∙ (ap (λ xs. xs ++ (number_at (behind_servers n front) ∷ [])) h.are ∙ (ids_more n front ∙ ap (λ m. ids_at m front) (sym k_is))));
  left = behind_is ∙ (ap behind_server h.left ∙ (servers_more n front ∙ ap (λ m. behind_servers m front) (sym k_is)));
}

-- all servers were read, which stand behind how many they are
pub all_servers : (n count : ℕ) (front before rest ids : List ℕ) → n ≤ count → count ≤ n → count ≡ number_at before → front ≡ behind_numbers 1 before
    → HasServers n front rest ids
    → (ids ≡ ids_at (number_at before) (behind_numbers 1 before)) × (rest ≡ behind_servers (number_at before) (behind_numbers 1 before))
all_servers n count front before rest ids within all count_is front_is h =
    let same : n ≡ count = omega (arith, within, all) in
    let m = same ∙ count_is in (
      h.are ∙ (ap (λ k. ids_at k front) m ∙ ap (λ f. ids_at (number_at before) f) front_is),
      h.left ∙ (ap (λ k. behind_servers k front) m ∙ ap (λ f. behind_servers (number_at before) f) front_is),
    )
