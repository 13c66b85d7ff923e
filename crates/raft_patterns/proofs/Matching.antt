-- A run takes its bytes up to the first place at which the parts behind it fit: a later place would do no better.
use Rattle.std.proofs.Common.{◌≡◌, ℕ, zero, suc, ◌≤◌, Bool, true, false, cond, eqb, not, ◌&&◌, ◌||◌, List, [], ◌∷◌, ◌++◌, length, Option, Some, None, refl, sym, ap, subst, ◌∙◌, append_assoc, arith}
use Rattle.std.specs.Option.{option_and_then}
use Rattle.std.proofs.lemmas.Bool.{eqb-true, ne_eqb}
use Rattle.raft_patterns.specs.Patterns.{Part, Run, Among, Outside, Ends, item, joined, class_at, among, outside, bracket, escaped, byte, first, parts_within, parts, takes_byte, of_rest, match, matches}
use Rattle.raft_patterns.specs.Runs.{takes, stops, stripped, ends_well, well, fitting, or_else, found}
use Rattle.raft_patterns.proofs.Stripped.{strip_here, strip_step}

-- ---- what is behind a part is no longer than what was behind its first byte

either : {A : Type 0} (t : Bool) (x y : A × List ℕ) (n : ℕ) → length x.1 ≤ n → length y.1 ≤ n → length (cond t x y).1 ≤ n
either true x y n h g = h
either false x y n h g = g

class_shorter : (p : List ℕ) → length (class_at p).1 ≤ length p
class_shorter [] = omega arith
class_shorter (c ∷ []) = either (eqb c 93) ([], []) ((c, c) ∷ [], []) 1 (omega arith) (omega arith)
class_shorter (c ∷ d ∷ []) =
    let one = class_shorter (d ∷ []) in
    either (eqb c 93) ([], d ∷ []) _ _ (omega arith) (either (eqb c 92) ((d, d) ∷ [], []) (joined (c, c) (class_at (d ∷ []))) _ (omega arith) (omega arith))
class_shorter (c ∷ d ∷ e ∷ p) =
    let one = class_shorter (d ∷ e ∷ p) in
    let two = class_shorter (e ∷ p) in
    let three = class_shorter p in
    either (eqb c 93) ([], d ∷ e ∷ p) _ _ (omega arith)
    (either (eqb c 92) (joined (d, d) (class_at (e ∷ p))) _ _ (omega arith)
    (either (eqb d 45) (joined (c, e) (class_at p)) (joined (c, c) (class_at (d ∷ e ∷ p))) _ (omega arith) (omega arith)))

bracket_shorter : (p : List ℕ) → length (bracket p).1 ≤ length p
bracket_shorter [] = omega arith
bracket_shorter (c ∷ p) =
    let one = class_shorter p in
    let all = class_shorter (c ∷ p) in
    either (eqb c 94) (outside (class_at p)) (among (class_at (c ∷ p))) _ (omega arith) all

escaped_shorter : (p : List ℕ) → length (escaped p).1 ≤ length p
escaped_shorter [] = omega arith
escaped_shorter (c ∷ p) = omega arith

first_shorter : (c : ℕ) (p : List ℕ) → length (first c p).1 ≤ length p
first_shorter c p =
    either (eqb c 42) (Run, p) _ _ (omega arith)
    (either (eqb c 63) (Outside [], p) _ _ (omega arith)
    (either (eqb c 91) (bracket p) _ _ (bracket_shorter p)
    (either (eqb c 92) (escaped p) (byte c p) _ (escaped_shorter p) (omega arith))))

-- ---- a pattern's parts

enough : (n m : ℕ) (q : List ℕ) → length q ≤ n → length q ≤ m → parts_within n q ≡ parts_within m q
enough zero zero q h g = refl
enough zero (suc m) [] h g = refl
enough zero (suc m) (c ∷ q) h g = absurd (omega arith)
enough (suc n) zero [] h g = refl
enough (suc n) zero (c ∷ q) h g = absurd (omega arith)
enough (suc n) (suc m) [] h g = refl
enough (suc n) (suc m) (c ∷ q) h g =
    let shorter = first_shorter c q in
    ap (λ (ps : List Part). (first c q).0 ∷ ps) (enough n m (first c q).1 (omega arith) (omega arith))

parts_more : (c : ℕ) (p : List ℕ) → parts (c ∷ p) ≡ (first c p).0 ∷ parts (first c p).1
unfolding parts
parts_more c p = ap (λ (ps : List Part). (first c p).0 ∷ ps) (enough (length p) (length (first c p).1) (first c p).1 (first_shorter c p) (omega arith))

-- whether the parts of a pattern match bytes
abbrev pub tried : List ℕ → List ℕ → Bool
tried p k = match (parts p) k

tried_nil : (k : List ℕ) → tried [] k ≡ match [] k
unfolding parts
tried_nil k = refl

tried_run : (c : ℕ) (p k : List ℕ) → eqb c 42 ≡ true → tried (c ∷ p) k ≡ of_rest (tried p) k
tried_run c p k e =
    let same : c ≡ 42 = eqb-true c 42 e in
    ap (λ d. tried (d ∷ p) k) same ∙ ap (λ ps. match ps k) (parts_more 42 p)

-- what isn't a run takes a byte
abbrev IsOne : Part → Type 0
IsOne Run = ⊥
IsOne (Among class) = Unit {0}
IsOne (Outside class) = Unit {0}

one_of : (t : Bool) (x y : Part × List ℕ) → IsOne x.0 → IsOne y.0 → IsOne (cond t x y).0
one_of true x y h g = h
one_of false x y h g = g

bracket_one : (p : List ℕ) → IsOne (bracket p).0
bracket_one [] = tt
bracket_one (c ∷ p) = one_of (eqb c 94) (outside (class_at p)) (among (class_at (c ∷ p))) tt tt

escaped_one : (p : List ℕ) → IsOne (escaped p).0
escaped_one [] = tt
escaped_one (c ∷ p) = tt

first_one : (c : ℕ) (p : List ℕ) → eqb c 42 ≡ false → IsOne (first c p).0
first_one c p e =
    let others : Part × List ℕ = cond (eqb c 63) (Outside [], p) (cond (eqb c 91) (bracket p) (cond (eqb c 92) (escaped p) (byte c p))) in
    subst (λ t. IsOne (cond t (Run, p) others).0) (sym e)
    (one_of (eqb c 63) (Outside [], p) _ tt (one_of (eqb c 91) (bracket p) _ (bracket_one p) (one_of (eqb c 92) (escaped p) (byte c p) (escaped_one p) tt)))

match_one : (x : Part) (ps : List Part) (b : ℕ) (k : List ℕ) → IsOne x → match (x ∷ ps) (b ∷ k) ≡ (takes_byte x b && match ps k)
match_one Run ps b k h = absurd h
match_one (Among class) ps b k h = refl
match_one (Outside class) ps b k h = refl

match_none : (x : Part) (ps : List Part) → IsOne x → match (x ∷ ps) [] ≡ false
match_none Run ps h = absurd h
match_none (Among class) ps h = refl
match_none (Outside class) ps h = refl

tried_one : (c : ℕ) (p : List ℕ) (b : ℕ) (k : List ℕ) → eqb c 42 ≡ false → tried (c ∷ p) (b ∷ k) ≡ (takes_byte (first c p).0 b && tried (first c p).1 k)
tried_one c p b k e = ap (λ ps. match ps (b ∷ k)) (parts_more c p) ∙ match_one (first c p).0 (parts (first c p).1) b k (first_one c p e)

tried_none : (c : ℕ) (p : List ℕ) → eqb c 42 ≡ false → tried (c ∷ p) [] ≡ false
tried_none c p e = ap (λ ps. match ps []) (parts_more c p) ∙ match_none (first c p).0 (parts (first c p).1) (first_one c p e)

-- ---- the parts up to the next run

abbrev pub seen : Option (List ℕ × List ℕ) → Bool
seen None = false
seen (Some x) = tried x.0 x.1

pub strip_is : (p k : List ℕ) → tried p k ≡ seen (stripped p k)
unfolding takes
strip_is [] [] = refl
strip_is (c ∷ p) [] =
    elim (eqb c 42) as (λ t. eqb c 42 ≡ t → tried (c ∷ p) [] ≡ seen (cond t (Some (c ∷ p, [])) None)) [ true ↦ λ e. refl | false ↦ λ e. tried_none c p e ] refl
strip_is [] (b ∷ k) = refl
strip_is (c ∷ p) (b ∷ k) =
    elim (eqb c 42) as (λ t. eqb c 42 ≡ t → tried (c ∷ p) (b ∷ k) ≡ seen (cond t (Some (c ∷ p, b ∷ k)) (option_and_then (λ q. stripped q k) (cond (takes_byte (first c p).0 b) (Some (first c p).1) None)))) [
      | true ↦ λ e. refl
      | false ↦ λ e. tried_one c p b k e
          ∙ elim (takes_byte (first c p).0 b) as (λ t. (t && tried (first c p).1 k) ≡ seen (option_and_then (λ q. stripped q k) (cond t (Some (first c p).1) None))) [ true ↦ strip_is (first c p).1 k | false ↦ refl ]
    ] refl

-- ---- what is left of bytes behind some

or_right : (a b : Bool) → b ≡ true → (a || b) ≡ true
or_right true b e = refl
or_right false b e = e

and_right : (a b : Bool) → (a && b) ≡ true → b ≡ true
and_right true b e = e
and_right false b e = absurd cc

later : (f : List ℕ → Bool) (a k : List ℕ) → of_rest f k ≡ true → of_rest f (a ++ k) ≡ true
later f [] k h = h
later f (b ∷ a) k h = or_right (f (b ∷ (a ++ k))) (of_rest f (a ++ k)) (later f a k h)

some_rest : (f : List ℕ → Bool) (k : List ℕ) → of_rest f k ≡ true → (a : List ℕ) × (i : List ℕ) × (k ≡ a ++ i) × (f i ≡ true)
some_rest f [] h = ([], [], refl, h)
some_rest f (b ∷ k) h =
    elim (f (b ∷ k)) as (λ t. f (b ∷ k) ≡ t → (t || of_rest f k) ≡ true → (a : List ℕ) × (i : List ℕ) × (b ∷ k ≡ a ++ i) × (f i ≡ true)) [
      | true ↦ λ e g. ([], b ∷ k, refl, e)
      | false ↦ λ e g. let r = some_rest f k g in (b ∷ r.0, r.1, ap (λ (l : List ℕ). b ∷ l) r.2, r.3)
    ] refl h

tail_of : (b : ℕ) (k a : List ℕ) (x : ℕ) (i : List ℕ) → b ∷ k ≡ a ++ (x ∷ i) → (a' : List ℕ) × (k ≡ a' ++ i)
tail_of b k [] x i e = ([], cc)
tail_of b k (y ∷ a) x i e = (a ++ x ∷ [], let t : k ≡ a ++ (x ∷ i) = cc in t ∙ sym (append_assoc a (x ∷ []) i))

-- ---- the first place is the best

-- a pattern whose parts up to a run fit at a place, and that matches from a later place, matches from that place on
stays : (c : ℕ) (p i a k : List ℕ) → eqb c 42 ≡ true → i ≡ a ++ k → tried (c ∷ p) k ≡ true → tried (c ∷ p) i ≡ true
stays c p i a k e s h =
    tried_run c p i e ∙ ap (of_rest (tried p)) s ∙ later (tried p) a k (sym (tried_run c p k e) ∙ h)

none_some : (x : List ℕ × List ℕ) → ◌≡◌ {A = Option (List ℕ × List ℕ)} None (Some x) → ⊥
none_some x e = cc

ended_none : (d : ℕ) (q j k : List ℕ) → ◌≡◌ {A = Option (List ℕ × List ℕ)} (Some ([], k)) (Some (d ∷ q, j)) → ⊥
ended_none d q j k e =
    let same : ◌≡◌ {A = List ℕ × List ℕ} ([], k) (d ∷ q, j) = cc in
    let first : ◌≡◌ {A = List ℕ} [] (d ∷ q) = ap (λ (x : List ℕ × List ℕ). x.0) same in
    cc

behind : (c : ℕ) (p : List ℕ) (b : ℕ) (i : List ℕ) (d : ℕ) (q j a : List ℕ) → ((a' k' : List ℕ) → i ≡ a' ++ k' → tried (first c p).1 k' ≡ true → tried (d ∷ q) j ≡ true)
    → eqb c 42 ≡ false → (k : List ℕ) → b ∷ i ≡ a ++ k → tried (c ∷ p) k ≡ true → tried (d ∷ q) j ≡ true
behind c p b i d q j a again r [] s h = absurd (let n : tried (c ∷ p) [] ≡ false = tried_none c p r in cc)
behind c p b i d q j a again r (x ∷ k) s h =
    let t = tail_of b i a x k s in
    again t.0 k t.1 (and_right (takes_byte (first c p).0 x) (tried (first c p).1 k) (sym (tried_one c p x k r) ∙ h))

-- what fits at a place and goes on matches from there, if the pattern matches what begins later
pub greedy : (p i : List ℕ) (d : ℕ) (q j a k : List ℕ) → stripped p i ≡ Some (d ∷ q, j) → i ≡ a ++ k → tried p k ≡ true → tried (d ∷ q) j ≡ true
unfolding takes
greedy [] [] d q j a k e s h = absurd (ended_none d q j [] e)
greedy [] (b ∷ i) d q j a k e s h = absurd (ended_none d q j (b ∷ i) e)
greedy (c ∷ p) [] d q j a k e s h =
    elim (eqb c 42) as (λ t. eqb c 42 ≡ t → cond {A = Option (List ℕ × List ℕ)} t (Some (c ∷ p, [])) None ≡ Some (d ∷ q, j) → tried (d ∷ q) j ≡ true) [
      | true ↦ λ r f. let same : (c ∷ p, []) ≡ (d ∷ q, j) = cc in subst (λ (x : List ℕ × List ℕ). tried x.0 x.1 ≡ true) same (stays c p [] a k r s h)
      | false ↦ λ r f. absurd (none_some _ f)
    ] refl e
greedy (c ∷ p) (b ∷ i) d q j a k e s h =
    elim (eqb c 42) as (λ t. eqb c 42 ≡ t → cond {A = Option (List ℕ × List ℕ)} t (Some (c ∷ p, b ∷ i)) (option_and_then (λ q. stripped q i) (takes (c ∷ p) b)) ≡ Some (d ∷ q, j) → tried (d ∷ q) j ≡ true) [
      | true ↦ λ r f. let same : (c ∷ p, b ∷ i) ≡ (d ∷ q, j) = cc in subst (λ (x : List ℕ × List ℕ). tried x.0 x.1 ≡ true) same (stays c p (b ∷ i) a k r s h)
      | false ↦ λ r f. elim (takes_byte (first c p).0 b) as (λ u. option_and_then (λ q. stripped q i) (cond u (Some (first c p).1) None) ≡ Some (d ∷ q, j) → tried (d ∷ q) j ≡ true) [
        | true ↦ λ g. behind c p b i d q j a (λ a' k' s' h'. greedy (first c p).1 i d q j a' k' g s' h') r k s h
        | false ↦ λ g. absurd (none_some _ g)
      ] f
    ] refl e

absorbed : (u v : Bool) → (v ≡ true → u ≡ true) → (u || v) ≡ u
absorbed true v h = refl
absorbed false true h = sym (h refl)
absorbed false false h = refl

some_length : (b : ℕ) (k : List ℕ) → eqb (length (b ∷ k)) 0 ≡ false
some_length b k = ne_eqb (length (b ∷ k)) 0 (λ e. omega arith)

-- at the last place
last_place : (o : Option (List ℕ × List ℕ)) → seen o ≡ seen (well o)
last_place None = refl
last_place (Some ([], [])) = refl
last_place (Some ([], b ∷ k)) = tried_nil (b ∷ k) ∙ sym (ap (λ t. seen (cond t (Some ([], b ∷ k)) None)) (some_length b k))
last_place (Some (c ∷ p, k)) = sym (ap (λ t. seen (cond (not t || eqb (length k) 0) (Some (c ∷ p, k)) None)) (some_length c p))

-- at a place with others behind it
first_place : (o f : Option (List ℕ × List ℕ)) (v : Bool) → v ≡ seen f → ((d : ℕ) (q j : List ℕ) → o ≡ Some (d ∷ q, j) → v ≡ true → tried (d ∷ q) j ≡ true) → (seen o || v) ≡ seen (or_else (well o) f)
first_place None f v e g = e
first_place (Some ([], [])) f v e g = ap (λ t. t || v) (tried_nil []) ∙ sym (tried_nil [])
first_place (Some ([], b ∷ k)) f v e g =
    ap (λ t. t || v) (tried_nil (b ∷ k)) ∙ e ∙ sym (ap (λ t. seen (or_else (cond t (Some ([], b ∷ k)) None) f)) (some_length b k))
first_place (Some (c ∷ p, k)) f v e g =
    absorbed (tried (c ∷ p) k) v (g c p k refl)
    ∙ sym (ap (λ t. seen (or_else (cond (not t || eqb (length k) 0) (Some (c ∷ p, k)) None) f)) (some_length c p))

pub find_is : (p k : List ℕ) → of_rest (tried p) k ≡ seen (found p k)
unfolding fitting
find_is p [] = strip_is p [] ∙ last_place (stripped p [])
find_is p (b ∷ k) =
    ap (λ t. t || of_rest (tried p) k) (strip_is p (b ∷ k))
    ∙ first_place (stripped p (b ∷ k)) (found p k) (of_rest (tried p) k) (find_is p k)
    (λ d q j e h. let r = some_rest (tried p) k h in greedy p (b ∷ k) d q j (b ∷ r.0) r.1 e (ap (λ (l : List ℕ). b ∷ l) r.2) r.3)

-- ---- a whole key

pub no_key : (p k : List ℕ) → eqb (length k) 0 ≡ true → matches p k ≡ eqb (length p) 0
unfolding matches
no_key p [] e = refl
no_key p (b ∷ k) e = absurd (let n = some_length b k in cc)

some_key : (p k : List ℕ) → eqb (length k) 0 ≡ false → matches p k ≡ tried p k
unfolding matches
some_key p [] e = absurd cc
some_key p (b ∷ k) e = refl

pub begun_none : (p k : List ℕ) → eqb (length k) 0 ≡ false → stripped p k ≡ None → matches p k ≡ false
begun_none p k e s = some_key p k e ∙ strip_is p k ∙ ap seen s

pub begun : (p k : List ℕ) (x : List ℕ × List ℕ) → eqb (length k) 0 ≡ false → stripped p k ≡ Some x → matches p k ≡ tried x.0 x.1
begun p k x e s = some_key p k e ∙ strip_is p k ∙ ap seen s

run_found : (r : List ℕ) (c : ℕ) (p k : List ℕ) → r ≡ c ∷ p → stops r ≡ true → tried r k ≡ seen (found p k)
run_found r c p k i e = let run : eqb c 42 ≡ true = sym (ap stops i) ∙ e in ap (λ q. tried q k) i ∙ tried_run c p k run ∙ find_is p k

pub run_none : (r : List ℕ) (c : ℕ) (p k : List ℕ) → r ≡ c ∷ p → stops r ≡ true → found p k ≡ None → tried r k ≡ false
run_none r c p k i e f = run_found r c p k i e ∙ ap seen f

pub run_some : (r : List ℕ) (c : ℕ) (p k : List ℕ) (x : List ℕ × List ℕ) → r ≡ c ∷ p → stops r ≡ true → found p k ≡ Some x → tried r k ≡ tried x.0 x.1
run_some r c p k x i e f = run_found r c p k i e ∙ ap seen f

pub ended : (r k : List ℕ) → r ≡ [] → tried r k ≡ eqb (length k) 0
ended [] [] e = tried_nil []
ended [] (b ∷ k) e = tried_nil (b ∷ k) ∙ sym (some_length b k)
ended (c ∷ p) k e = absurd cc
