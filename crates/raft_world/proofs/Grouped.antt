-- Entries by index, printed one after another, are a line for each index.
use Rattle.std.proofs.Common.{◌≡◌, ◌<◌, ◌≤◌, ◌+◌, ◌++◌, ◌∷◌, [], ℕ, suc, List, Bool, true, false, cond, not, length, map, get_or, take, refl, sym, ap, ◌∙◌, subst, arith, append_assoc, eq-eqb}
use Rattle.std.specs.Prelude.{Option, None, Some, is_some, flat_map, nat_eq, ◌==◌, codes, ltb}
use Rattle.std.specs.List.{filter, dedup, dedup_from}
use Rattle.std.specs.List.Sorted.{IsSorted}
use Rattle.std.specs.Ordering.{ordering_then, is_lt}
use Rattle.std.specs.declared.cmp.Ordering.{Ordering}
use Rattle.std.specs.declared.cmp.Ordering.TheVariants.{Less, Equal, Greater}
use Rattle.std.proofs.lemmas.List.{take_all}
use Rattle.std.proofs.KnownBytes.{Appends-trans}
use Rattle.std.specs.Io.KnownBytes.{Appends}
use Rattle.std.proofs.lemmas.Bool.Decides.{nat_tests}
use Rattle.std.proofs.lemmas.Bool.{eqb-true, ne_eqb, ltb-false}
use Rattle.raft_world.specs.Printed.{Taken, taken_cmp, head_text, node_text, line_text, lines_text, place, next_text}
use Rattle.raft_world.proofs.Lines.{open_lines, last_place}

abbrev index : Taken → ℕ
index x = x.entry.log_id.index

-- of this index, and of another
abbrev at : ℕ → Taken → Bool
at i x = index x == i

abbrev other : ℕ → Taken → Bool
other i x = not (index x == i)

-- no index is below this one, nor below one before it
abbrev Up : ℕ → List Taken → Type 0
Up i [] = Unit {0}
Up i (x ∷ xs) = (i ≤ index x) × Up (index x) xs

lower : (i j : ℕ) (xs : List Taken) → i ≤ j → Up j xs → Up i xs
lower i j [] le up = tt
lower i j (x ∷ xs) le up = let a = up.0 in (omega arith, up.1)

le_by : (a b : ℕ) (o : Ordering) (t : Bool) → ltb a b ≡ t → is_lt (ordering_then (cond t Less (cond (a == b) Equal Greater)) o) ≡ false → b ≤ a
le_by a b o true e h = let no : true ≡ false = h in absurd (cc)
le_by a b o false e h = ltb-false a b e

up_of : (x : Taken) (xs : List Taken) → IsSorted taken_cmp (x ∷ xs) → Up (index x) xs
up_of x [] h = tt
up_of x (y ∷ ys) h = (
  le_by (index y) (index x) _ (ltb (index y) (index x)) refl (h 0 x (omega arith) (omega arith)),
  up_of y ys (λ k d low high.
      let next : suc k + 1 ≡ suc (k + 1) = omega arith in
      ap (λ n. is_lt (taken_cmp (get_or (x ∷ y ∷ ys) n d) (get_or (y ∷ ys) k d))) (sym next) ∙ h (suc k) d (omega arith) (omega arith)),
)

-- none of an index below all
none_at : (i j : ℕ) (xs : List Taken) → i < j → Up j xs → (filter (at i) xs ≡ []) × (filter (other i) xs ≡ xs)
none_at i j [] lt up = (refl, refl)
none_at i j (y ∷ ys) lt up =
    let a = up.0 in
    let no : (index y == i) ≡ false = ne_eqb (index y) i (λ e. absurd (omega arith)) in
    let k = none_at i (index y) ys (omega arith) up.1 in
    (ap (λ b. cond b (y ∷ filter (at i) ys) (filter (at i) ys)) no ∙ k.0, ap (λ b. cond (not b) (y ∷ filter (other i) ys) (filter (other i) ys)) no ∙ ap (λ l. y ∷ l) k.1)

-- the nodes behind one
abbrev behind : ℕ → List ℕ → List ℕ
behind n [] = []
behind n (m ∷ ms) = cond (m == n) [] (node_text m) ++ behind m ms

abbrev NodesAre : ℕ → List ℕ → Type 0
NodesAre n ms = flat_map node_text (dedup_from nat_eq n ms) ≡ node_text n ++ behind n ms

nodes_step : (b : Bool) (n m : ℕ) (ms : List ℕ) → (m == n) ≡ b → NodesAre n ms → NodesAre m ms
    → flat_map node_text (cond b (dedup_from nat_eq n ms) (n ∷ dedup_from nat_eq m ms)) ≡ node_text n ++ (cond b [] (node_text m) ++ behind m ms)
nodes_step true n m ms e here next = here ∙ ap (λ k. node_text n ++ behind k ms) (sym (eqb-true m n e))
nodes_step false n m ms e here next = ap (λ t. node_text n ++ t) next

nodes_are : (n : ℕ) (ms : List ℕ) → NodesAre n ms
nodes_are n [] = refl
nodes_are n (m ∷ ms) = nodes_step (m == n) n m ms refl (nodes_are n ms) (nodes_are m ms)

-- the indexes: the first, and those of the others
abbrev IndexesAre : ℕ → List Taken → Type 0
IndexesAre i xs = dedup_from nat_eq i (map index xs) ≡ i ∷ dedup nat_eq (map index (filter (other i) xs))

indexes_step : (b : Bool) (i : ℕ) (y : Taken) (ys : List Taken) → (index y == i) ≡ b → (b ≡ false → filter (other i) ys ≡ ys) → IndexesAre i ys
    → cond b (dedup_from nat_eq i (map index ys)) (i ∷ dedup_from nat_eq (index y) (map index ys))
    ≡ i ∷ dedup nat_eq (map index (cond (not b) (y ∷ filter (other i) ys) (filter (other i) ys)))
indexes_step true i y ys e rest here = here
indexes_step false i y ys e rest here = ap (λ l. i ∷ dedup_from nat_eq (index y) (map index l)) (sym (rest refl))

above : (i : ℕ) (y : Taken) → i ≤ index y → (index y == i) ≡ false → i < index y
above i y le differs = grind (arith, nat_tests)

indexes_are : (i : ℕ) (xs : List Taken) → Up i xs → IndexesAre i xs
indexes_are i [] up = refl
indexes_are i (y ∷ ys) up =
    indexes_step (index y == i) i y ys refl (λ no. (none_at i (index y) ys (above i y up.0 no) up.1).1) (indexes_are i ys (lower i (index y) ys up.0 up.1))

-- what is of another index is kept
kept_step : (b : Bool) (i k : ℕ) (y : Taken) (ys : List Taken) → (i == k) ≡ false → (index y == i) ≡ b → filter (at k) (filter (other i) ys) ≡ filter (at k) ys
    → filter (at k) (cond (not b) (y ∷ filter (other i) ys) (filter (other i) ys)) ≡ filter (at k) (y ∷ ys)
kept_step true i k y ys apart e here =
    let no : (index y == k) ≡ false = ap (λ n. n == k) (eqb-true (index y) i e) ∙ apart in
    here ∙ ap (λ b. cond b (y ∷ filter (at k) ys) (filter (at k) ys)) (sym no)
kept_step false i k y ys apart e here = ap (λ l. cond (index y == k) (y ∷ l) l) here

kept : (i k : ℕ) (xs : List Taken) → (i == k) ≡ false → filter (at k) (filter (other i) xs) ≡ filter (at k) xs
kept i k [] apart = refl
kept i k (y ∷ ys) apart = kept_step (index y == i) i k y ys apart refl (kept i k ys apart)

-- the lines of other indexes
module _ (x : Taken) (xs : List Taken) where
  abbrev all_at : ℕ → List ℕ
  all_at j = line_text (filter (at j) (x ∷ xs))

  abbrev rest_at : ℕ → List ℕ
  rest_at j = line_text (filter (at j) (filter (other (index x)) xs))

  line_is : (k : ℕ) → (index x == k) ≡ false → all_at k ≡ rest_at k
  line_is k apart =
      ap (λ b. line_text (cond b (x ∷ filter (at k) xs) (filter (at k) xs))) apart ∙ ap line_text (sym (kept (index x) k xs apart))

  abbrev Others : List Taken → Type 0
  Others [] = Unit {0}
  Others (z ∷ zs) = ((index x == index z) ≡ false) × Others zs

  abbrev LinesAre : ℕ → List Taken → Type 0
  LinesAre k zs = flat_map all_at (dedup_from nat_eq k (map index zs)) ≡ flat_map rest_at (dedup_from nat_eq k (map index zs))

  lines_step : (b : Bool) (k : ℕ) (z : Taken) (zs : List Taken) → (index x == k) ≡ false → LinesAre k zs → LinesAre (index z) zs
      → flat_map all_at (cond b (dedup_from nat_eq k (map index zs)) (k ∷ dedup_from nat_eq (index z) (map index zs)))
      ≡ flat_map rest_at (cond b (dedup_from nat_eq k (map index zs)) (k ∷ dedup_from nat_eq (index z) (map index zs)))
  lines_step true k z zs apart here next = here
  lines_step false k z zs apart here next = ap (λ l. l ++ flat_map all_at (dedup_from nat_eq (index z) (map index zs))) (line_is k apart) ∙ ap (λ l. rest_at k ++ l) next

  lines_are : (k : ℕ) (zs : List Taken) → (index x == k) ≡ false → Others zs → LinesAre k zs
  lines_are k [] apart others = ap (λ l. l ++ []) (line_is k apart)
  lines_are k (z ∷ zs) apart others = lines_step (index z == k) k z zs apart (lines_are k zs apart others.1) (lines_are (index z) zs others.0 others.1)

  turned : (a b : ℕ) → (a == b) ≡ false → (b == a) ≡ false
  turned a b differs = grind (arith, nat_tests)

  others_step : (b : Bool) (z : Taken) (zs : List Taken) → (index z == index x) ≡ b → Others zs → Others (cond (not b) (z ∷ zs) zs)
  others_step true z zs e others = others
  others_step false z zs e others = (turned (index z) (index x) e, others)

  others_of : (zs : List Taken) → Others (filter (other (index x)) zs)
  others_of [] = tt
  others_of (z ∷ zs) = others_step (index z == index x) z (filter (other (index x)) zs) refl (others_of zs)

  all_lines : (zs : List Taken) → Others zs → flat_map all_at (dedup nat_eq (map index zs)) ≡ flat_map rest_at (dedup nat_eq (map index zs))
  all_lines [] others = refl
  all_lines (z ∷ zs) others = lines_are (index z) zs others.0 others.1

-- what follows an entry of this place
abbrev rest_text : ℕ × ℕ → List Taken → List ℕ
rest_text before [] = codes "\n"
rest_text before (x ∷ xs) = next_text (Some before) x ++ rest_text (place x) xs

abbrev RestIs : ℕ → ℕ → List Taken → Type 0
RestIs i n xs = rest_text (i, n) xs ≡ behind n (map (λ y. y.node) (filter (at i) xs)) ++ (codes "\n" ++ lines_text (filter (other i) xs))

put_together : (h n b e t : List ℕ) → (h ++ n) ++ (b ++ (e ++ t)) ≡ ((h ++ (n ++ b)) ++ e) ++ t
put_together h n b e t =
    sym (append_assoc (h ++ n) b (e ++ t)) ∙ ap (λ l. l ++ (e ++ t)) (append_assoc h n b) ∙ sym (append_assoc (h ++ (n ++ b)) e t)

-- an entry and what follows it are the line of its index, and the lines of the others
line_first : (x : Taken) (xs : List Taken) → Up (index x) xs → RestIs (index x) x.node xs
    → (head_text x.entry ++ node_text x.node) ++ rest_text (place x) xs ≡ lines_text (x ∷ xs)
line_first x xs up rest =
    let i = index x in
    let nodes = map (λ y. y.node) (filter (at i) xs) in
    let lines = lines_text (filter (other i) xs) in
    let own : all_at x xs i ≡ head_text x.entry ++ (node_text x.node ++ behind x.node nodes) ++ codes "\n" =
    ap (λ b. line_text (cond b (x ∷ filter (at i) xs) (filter (at i) xs))) (eq-eqb i i refl)
    ∙ ap (λ l. head_text x.entry ++ l ++ codes "\n") (nodes_are x.node nodes) in
    let others : flat_map (all_at x xs) (dedup nat_eq (map index (filter (other i) xs))) ≡ lines = all_lines x xs (filter (other i) xs) (others_of x xs xs) in
    ap (λ l. (head_text x.entry ++ node_text x.node) ++ l) rest
    ∙ put_together (head_text x.entry) (node_text x.node) (behind x.node nodes) (codes "\n") lines
    ∙ ap (λ l. l ++ lines) (sym own) ∙ ap (λ l. all_at x xs i ++ l) (sym others) ∙ ap (flat_map (all_at x xs)) (sym (indexes_are i xs up))

rest_step : (b : Bool) (i n : ℕ) (x : Taken) (xs : List Taken) → (index x == i) ≡ b → i ≤ index x → Up (index x) xs → RestIs i x.node xs → RestIs (index x) x.node xs
    → cond b (cond (x.node == n) [] (node_text x.node)) (codes "\n" ++ (head_text x.entry ++ node_text x.node)) ++ rest_text (place x) xs
    ≡ behind n (map (λ y. y.node) (cond b (x ∷ filter (at i) xs) (filter (at i) xs)))
    ++ (codes "\n" ++ lines_text (cond (not b) (x ∷ filter (other i) xs) (filter (other i) xs)))
rest_step true i n x xs e le up here next =
    let node = cond (x.node == n) [] (node_text x.node) in
    ap (λ l. node ++ l) (ap (λ k. rest_text (k, x.node) xs) (eqb-true (index x) i e) ∙ here) ∙ sym (append_assoc node _ _)
rest_step false i n x xs e le up here next =
    let none = none_at i (index x) xs (above i x le e) up in
    let line : (head_text x.entry ++ node_text x.node) ++ rest_text (place x) xs ≡ lines_text (x ∷ xs) = line_first x xs up next in
    append_assoc (codes "\n") (head_text x.entry ++ node_text x.node) (rest_text (place x) xs) ∙ ap (λ l. codes "\n" ++ l) line
    ∙ ap (λ l. codes "\n" ++ lines_text (x ∷ l)) (sym none.1)
    ∙ ap (λ l. behind n (map (λ y. y.node) l) ++ (codes "\n" ++ lines_text (x ∷ filter (other i) xs))) (sym none.0)

rest_is : (i n : ℕ) (xs : List Taken) → Up i xs → RestIs i n xs
rest_is i n [] up = refl
rest_is i n (x ∷ xs) up =
    rest_step (index x == i) i n x xs refl up.0 up.1 (rest_is i x.node xs (lower i (index x) xs up.0 up.1)) (rest_is (index x) x.node xs up.1)

-- what follows the entry before, if any
abbrev after : Option (ℕ × ℕ) → List Taken → List ℕ
after None [] = []
after None (x ∷ xs) = next_text None x ++ rest_text (place x) xs
after (Some before) xs = rest_text before xs

-- the end of the last line
abbrev pub end_text : Option (ℕ × ℕ) → List ℕ
end_text None = []
end_text (Some before) = codes "\n"

after_more : (before : Option (ℕ × ℕ)) (x : Taken) (xs : List Taken) → next_text before x ++ after (Some (place x)) xs ≡ after before (x ∷ xs)
after_more None x xs = refl
after_more (Some before) x xs = refl

after_none : (before : Option (ℕ × ℕ)) → end_text before ≡ after before []
after_none None = refl
after_none (Some before) = refl

written : (before : Option (ℕ × ℕ)) (xs : List Taken) → open_lines before xs ++ end_text (last_place before xs) ≡ after before xs
written before [] = after_none before
written before (x ∷ xs) =
    append_assoc (next_text before x) (open_lines (Some (place x)) xs) (end_text (last_place (Some (place x)) xs))
    ∙ ap (λ l. next_text before x ++ l) (written (Some (place x)) xs) ∙ after_more before x xs

after_is : (xs : List Taken) → IsSorted taken_cmp xs → after None xs ≡ lines_text xs
after_is [] h = refl
after_is (x ∷ xs) h = let up = up_of x xs h in line_first x xs up (rest_is (index x) x.node xs up)

-- the lines as they are written are a line for each index
pub grouped : (xs : List Taken) → IsSorted taken_cmp xs → open_lines None xs ++ end_text (last_place None xs) ≡ lines_text xs
grouped xs h = written None xs ∙ after_is xs h

pub ends_some : (before : Option (ℕ × ℕ)) → is_some before ≡ true → end_text before ≡ codes "\n"
ends_some None h = absurd (cc)
ends_some (Some x) h = refl

pub ends_none : (before : Option (ℕ × ℕ)) → is_some before ≡ false → end_text before ≡ []
ends_none None h = refl
ends_none (Some x) h = absurd (cc)

-- all lines, and the end of the last
pub lines_ended : (xs : List Taken) (i : ℕ) (a b c : Option (List ℕ)) (before : Option (ℕ × ℕ)) → IsSorted taken_cmp xs → length xs ≤ i
    → Appends a b (open_lines None (take i xs)) → before ≡ last_place None (take i xs) → Appends b c (end_text before) → Appends a c (lines_text xs)
lines_ended xs i a b c before sorted all done is end =
    let whole : open_lines None (take i xs) ++ end_text before ≡ lines_text xs =
    ap (λ o. open_lines None (take i xs) ++ end_text o) is ∙ ap (λ l. open_lines None l ++ end_text (last_place None l)) (take_all i xs all) ∙ grouped xs sorted in
    subst (Appends a c) whole (Appends-trans a b c _ _ done end)
