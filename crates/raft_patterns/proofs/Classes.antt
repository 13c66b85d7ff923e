-- Classes, item by item.
use Rattle.std.proofs.Common.{◌≡◌, ℕ, Bool, true, false, cond, eqb, ◌||◌, List, [], ◌∷◌, length, refl, sym, ap, ◌∙◌, arith}
use Rattle.std.specs.List.{list_any}
use Rattle.std.proofs.lemmas.Bool.{ne_eqb}
use Rattle.std.proofs.lemmas.Bool.Decides.{nat_tests}
use Rattle.raft_patterns.specs.Patterns.{Ends, between, item, joined, class_at}
use Rattle.raft_patterns.specs.Runs.{has}

pub same_ends : (b c : ℕ) → between b (c, c) ≡ eqb c b
same_ends b c = grind (arith, nat_tests)

pub class_more : (c : ℕ) (p : List ℕ) → class_at (c ∷ p) ≡ cond (eqb c 93) ([], p) (joined (item c p).0 (class_at (item c p).1))
class_more c [] = refl
class_more c (d ∷ []) =
    elim (eqb c 92) as (λ t. cond {A = List Ends × List ℕ} (eqb c 93) ([], d ∷ []) (cond t ((d, d) ∷ [], []) (joined (c, c) (class_at (d ∷ []))))
    ≡ (let x : Ends × List ℕ = cond t ((d, d), []) ((c, c), d ∷ []) in cond (eqb c 93) ([], d ∷ []) (joined x.0 (class_at x.1)))) [ true ↦ refl | false ↦ refl ]
class_more c (d ∷ e ∷ p) =
    elim (eqb c 92) as (λ t. cond {A = List Ends × List ℕ} (eqb c 93) ([], d ∷ e ∷ p) (cond t (joined (d, d) (class_at (e ∷ p))) (cond (eqb d 45) (joined (c, e) (class_at p)) (joined (c, c) (class_at (d ∷ e ∷ p)))))
    ≡ (let x : Ends × List ℕ = cond t ((d, d), e ∷ p) (cond (eqb d 45) ((c, e), p) ((c, c), d ∷ e ∷ p)) in cond (eqb c 93) ([], d ∷ e ∷ p) (joined x.0 (class_at x.1)))) [
      | true ↦ refl
      | false ↦ elim (eqb d 45) as (λ u. cond {A = List Ends × List ℕ} (eqb c 93) ([], d ∷ e ∷ p) (cond u (joined (c, e) (class_at p)) (joined (c, c) (class_at (d ∷ e ∷ p))))
          ≡ (let x : Ends × List ℕ = cond u ((c, e), p) ((c, c), d ∷ e ∷ p) in cond (eqb c 93) ([], d ∷ e ∷ p) (joined x.0 (class_at x.1)))) [ true ↦ refl | false ↦ refl ]
    ]

-- what is said once some items were tried, and of those that are left
abbrev pub so_far : ℕ → Bool → List ℕ → Bool × List ℕ
so_far b h p = (h || list_any (between b) (class_at p).0, (class_at p).1)

grouped : (h x y : Bool) → (h || (x || y)) ≡ ((h || x) || y)
grouped true x y = refl
grouped false x y = refl

or_false : (h : Bool) → (h || false) ≡ h
or_false true = refl
or_false false = refl

pub so_far-more : (b : ℕ) (h : Bool) (c : ℕ) (p : List ℕ) → eqb c 93 ≡ false → so_far b h (c ∷ p) ≡ so_far b (h || between b (item c p).0) (item c p).1
so_far-more b h c p e =
    let x = item c p in
    let whole : class_at (c ∷ p) ≡ joined x.0 (class_at x.1) = class_more c p ∙ ap (λ t. cond t ([], p) (joined x.0 (class_at x.1))) e in
    ap (λ (y : List Ends × List ℕ). let z : Bool × List ℕ = (h || list_any (between b) y.0, y.1) in z) whole
    ∙ ap (λ (t : Bool). let z : Bool × List ℕ = (t, (class_at x.1).1) in z) (grouped h (between b x.0) (list_any (between b) (class_at x.1).0))

pub so_far-end : (b : ℕ) (h : Bool) (c : ℕ) (p : List ℕ) → eqb c 93 ≡ true → so_far b h (c ∷ p) ≡ (h, p)
so_far-end b h c p e =
    let x = item c p in
    let whole : class_at (c ∷ p) ≡ ([], p) = class_more c p ∙ ap (λ t. cond t ([], p) (joined x.0 (class_at x.1))) e in
    ap (λ (y : List Ends × List ℕ). let z : Bool × List ℕ = (h || list_any (between b) y.0, y.1) in z) whole
    ∙ ap (λ (t : Bool). let z : Bool × List ℕ = (t, p) in z) (or_false h)

pub so_far-none : (b : ℕ) (h : Bool) → so_far b h [] ≡ (h, [])
so_far-none b h = ap (λ (t : Bool). let z : Bool × List ℕ = (t, []) in z) (or_false h)

-- one item more
pub class_step : (b : ℕ) (h : Bool) (c : ℕ) (p rest : List ℕ) (target : Bool × List ℕ) (i : Ends × List ℕ) (h' : Bool)
    → so_far b h rest ≡ target → rest ≡ c ∷ p → (c ≡ 93 → ⊥) → i ≡ item c p → h' ≡ (h || between b i.0) → so_far b h' i.1 ≡ target
class_step b h c p rest target i h' inv front other is e =
    ap (λ (u : Bool). so_far b u i.1) e ∙ ap (λ (x : Ends × List ℕ). so_far b (h || between b x.0) x.1) is
    ∙ sym (so_far-more b h c p (ne_eqb c 93 other)) ∙ ap (so_far b h) (sym front) ∙ inv

pub stays_true : (h x : Bool) → h ≡ true → h ≡ (h || x)
stays_true true x e = refl
stays_true false x e = absurd cc

pub becomes : (h x y : Bool) → h ≡ false → y ≡ x → y ≡ (h || x)
becomes true x y e i = absurd cc
becomes false x y e i = i
