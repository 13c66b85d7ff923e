-- How a change of stored entries, front or snapshot changes the whole log.
use Rattle.std.proofs.Common.{ℕ, ◌+◌, ◌-◌, ◌<◌, ◌≤◌, ◌≡◌, List, ◌++◌, length, take, drop, arith, sym, ap, ◌∙◌, subst, length-append, length-take, length-drop, get_or-take, get_or-drop, get_or-append-add, append_assoc}
use Rattle.std.proofs.lemmas.List.{get_or_append_left, drop-append-le, drop-drop, drop-take, take-append-drop, append-nil, same_lists, get_or_default}
use Rattle.std.proofs.Math.Seq.{take-append-add, drop-append-add}
use Rattle.std.proofs.Math.ListN.{drop_of_length-le}
use Rattle.proof_agreement.specs.Machine.{Entry, Setup, Agree}
use Rattle.proof_agreement.specs.Stores.{Store, entry_at, of_list, first_entry, whole}
use Rattle.proof_agreement.specs.Deeds.{Reaches, below}

-- lists as logs
module _ {A : Type 0} (s : Setup A) where
  pub get_left : (xs ys : List (Entry A)) (i : ℕ) → i < length xs → entry_at s (xs ++ ys) i ≡ entry_at s xs i
  get_left xs ys i h = get_or_append_left xs ys (first_entry s) i h

  pub get_right : (xs ys : List (Entry A)) (i j : ℕ) → i ≡ length xs + j → entry_at s (xs ++ ys) i ≡ entry_at s ys j
  get_right xs ys i j h = subst (λ k. entry_at s (xs ++ ys) k ≡ entry_at s ys j) (sym h) (get_or-append-add xs ys j (first_entry s))

  -- lists that hold the same entries are the same
  pub same_entries : (xs ys : List (Entry A)) → length xs ≡ length ys → ((i : ℕ) → i < length xs → entry_at s xs i ≡ entry_at s ys i) → xs ≡ ys
  same_entries xs ys e h = same_lists xs ys e (λ i d l. get_or_default xs i d (first_entry s) l ∙ (h i l ∙ get_or_default ys i (first_entry s) d (omega arith)))

  -- a list that agrees with another's first entries is how it begins
  pub begins : (xs ys : List (Entry A)) → Agree (length xs) (of_list s xs) (of_list s ys) → take (length xs) ys ≡ xs
  begins xs ys a =
      let r : length xs ≤ length ys = a.right in
      same_entries (take (length xs) ys) xs (omega (arith, length-take (length xs) ys))
      (λ i l. let h : i < length xs = omega (arith, length-take (length xs) ys) in get_or-take (length xs) ys i (first_entry s) h ∙ sym (a.same i h))

  pub begins_both : (xs ys : List (Entry A)) (m : ℕ) → Agree m (of_list s xs) (of_list s ys) → take m xs ≡ take m ys
  begins_both xs ys m a =
      let l : m ≤ length xs = a.left in
      let r : m ≤ length ys = a.right in
      same_entries (take m xs) (take m ys) (omega (arith, length-take m xs, length-take m ys))
      (λ i h. let h' : i < m = omega (arith, length-take m xs) in get_or-take m xs i (first_entry s) h' ∙ (a.same i h' ∙ sym (get_or-take m ys i (first_entry s) h')))

  pub agree_take : (xs : List (Entry A)) (m : ℕ) → m ≤ length xs → Agree m (of_list s (take m xs)) (of_list s xs)
  agree_take xs m h = record { left = omega (arith, length-take m xs); right = h; same = λ i l. get_or-take m xs i (first_entry s) l }

module _ {A : Type 0} (S : Store A) (low : S.front ≤ length S.snapshot) where
  abbrev lacking : ℕ
  lacking = length S.snapshot - S.front

  pub whole_length : length (whole S) ≡ length S.snapshot + (length S.entries - (length S.snapshot - S.front))
  whole_length = omega (arith, length-append S.snapshot (drop lacking S.entries), length-drop lacking S.entries)

  pub whole_append : (es : List (Entry A)) → Reaches S → whole (record S { entries = S.entries ++ es }) ≡ whole S ++ es
  whole_append es r =
      ap (λ ys. S.snapshot ++ ys) (drop-append-le lacking S.entries es (omega arith))
      ∙ sym (append_assoc S.snapshot (drop lacking S.entries) es)

  pub whole_below : (i : ℕ) → length S.snapshot ≤ i → whole (record S { entries = below S i }) ≡ take i (whole S)
  whole_below i h =
      let m : ℕ = i - length S.snapshot in
      let e : lacking + m ≡ i - S.front = omega arith in
      let f : length S.snapshot + m ≡ i = omega arith in
      ap (λ ys. S.snapshot ++ ys) (subst (λ j. drop lacking (take j S.entries) ≡ take m (drop lacking S.entries)) e (drop-take lacking m S.entries))
      ∙ sym (subst (λ j. take j (whole S) ≡ S.snapshot ++ take m (drop lacking S.entries)) f (take-append-add S.snapshot (drop lacking S.entries) m))

  pub whole_purge : (k : ℕ) → S.front ≤ k → k ≤ length S.snapshot → whole (record S { front = k; entries = drop (k - S.front) S.entries }) ≡ whole S
  whole_purge k l h =
      let e : (k - S.front) + (length S.snapshot - k) ≡ lacking = omega arith in
      ap (λ ys. S.snapshot ++ ys) (subst (λ j. drop (length S.snapshot - k) (drop (k - S.front) S.entries) ≡ drop j S.entries) e (drop-drop (length S.snapshot - k) (k - S.front) S.entries))

  -- a snapshot that is how the whole log begins
  pub whole_snapshot : (es : List (Entry A)) → length S.snapshot ≤ length es → take (length es) (whole S) ≡ es → whole (record S { snapshot = es }) ≡ whole S
  whole_snapshot es l b =
      let j : ℕ = length es - length S.snapshot in
      let e : length S.snapshot + j ≡ length es = omega arith in
      let f : lacking + j ≡ length es - S.front = omega arith in
      let rest : drop (length es) (whole S) ≡ drop (length es - S.front) S.entries = subst (λ m. drop m (whole S) ≡ drop j (drop lacking S.entries)) e (drop-append-add S.snapshot (drop lacking S.entries) j) ∙ subst (λ m. drop j (drop lacking S.entries) ≡ drop m S.entries) f (drop-drop j lacking S.entries) in
      ap (λ xs. xs ++ drop (length es - S.front) S.entries) (sym b)
      ∙ (ap (λ ys. take (length es) (whole S) ++ ys) (sym rest)
      ∙ take-append-drop (length es) (whole S))

  -- a snapshot that ends past the whole log
  pub whole_replaced : (es : List (Entry A)) → length (whole S) ≤ length es → whole (record S { snapshot = es }) ≡ es
  whole_replaced es l =
      ap (λ ys. es ++ ys) (drop_of_length-le S.entries (omega (arith, whole_length)))
      ∙ append-nil es

  -- past the snapshot the whole log is the stored entries
  pub stored_at : (s : Setup A) (i : ℕ) → length S.snapshot ≤ i → entry_at s (whole S) i ≡ entry_at s S.entries (i - S.front)
  stored_at s i h =
      let j : ℕ = i - length S.snapshot in
      let e : lacking + j ≡ i - S.front = omega arith in
      get_right s S.snapshot (drop lacking S.entries) i j (omega arith)
      ∙ (get_or-drop lacking S.entries j (first_entry s) ∙ ap (entry_at s S.entries) e)
