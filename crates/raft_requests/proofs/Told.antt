-- How words are told, one byte and one argument after another, and how they end.
use Rattle.std.proofs.Common.{◌≡◌, ℕ, Some, None, suc, ◌+◌, ◌-◌, ◌<◌, ◌≤◌, Bool, true, false, cond, ltb, eqb, List, [], ◌∷◌, ◌++◌, length, take, drop, get_or, refl, sym, ap, ◌∙◌, arith, append_assoc}
use Rattle.std.specs.Prelude.{not, codes}
use Rattle.std.specs.List.{prefix_len, position}
use Rattle.std.proofs.lemmas.Bool.{le-ltb, lt-ltb, ltb-false, ne_eqb}
use Rattle.std.proofs.lemmas.List.{drop_more, drop_all, take_all, get_or_default}
use Rattle.raft_requests.specs.Words.{Word, in_one_line, c_string, is_end, before_end, without_ends, told, args_told, unknown}

pub told_more : (x : ℕ) (ys : List ℕ) → eqb x 0 ≡ false → told (x ∷ ys) ≡ in_one_line x ∷ told ys
told_more x ys e =
    let n = prefix_len (λ b. not (eqb b 0)) ys in
    let s : 1 + n ≡ suc n = omega arith in
    rw (e, s) refl

-- the byte at i is told, and then those behind it
pub told_step : (w : List ℕ) (i b : ℕ) → i < length w → b ≡ get_or w i b → eqb b 0 ≡ false → told (drop i w) ≡ in_one_line b ∷ told (drop (i + 1) w)
told_step w i b lt is e = ap told (drop_more w i b lt) ∙ ap (λ x. told (x ∷ drop (i + 1) w)) (sym is) ∙ told_more b (drop (i + 1) w) e

-- what is told so far and of the rest is what is told of all
pub told_behind : (text all w : List ℕ) (i : ℕ) → i < length w → (get_or w i 0 ≡ 0 → ⊥) → text ++ told (drop i w) ≡ all
    → (text ++ in_one_line (get_or w i 0) ∷ []) ++ told (drop (i + 1) w) ≡ all
told_behind text all w i lt ne so_far =
    let b = get_or w i 0 in
    let is : b ≡ get_or w i b = get_or_default w i 0 b lt in
    append_assoc text (in_one_line b ∷ []) (told (drop (i + 1) w)) ∙ ap (λ ts. text ++ ts) (sym (told_step w i b lt is (ne_eqb b 0 ne))) ∙ so_far

pub full : (before : List ℕ) (ws : List Word) → 128 ≤ length before → args_told before ws ≡ before
unfolding args_told
full before [] h = refl
full before (w ∷ ws) h = rw (le-ltb (length before) 128 h) refl

pub arg_more : (before : List ℕ) (w : Word) (ws : List Word) → length before < 128
    → args_told before (w ∷ ws) ≡ args_told (before ++ codes "'" ++ told (take (128 - length before) w) ++ codes "' ") ws
unfolding args_told
arg_more before w ws h = rw (lt-ltb (length before) 128 h) refl

pub done : (before : List ℕ) (ws : List Word) (i : ℕ) → length ws ≤ i → args_told before (drop i ws) ≡ before
unfolding args_told
done before ws i h = rw (drop_all i ws h) refl

-- after an argument was told
pub arg_behind : (before all : List ℕ) (args : List Word) (i : ℕ) (w : Word) {pushed shown grown front bytes : List ℕ} {left n : ℕ}
    → i < length args → w ≡ get_or args i w → length before < 128
    → pushed ≡ before ++ codes "'" → shown ≡ pushed ++ told front → grown ≡ shown ++ codes "' "
    → front ≡ take left bytes → bytes ≡ w → left ≡ 128 - n → n ≡ length before
    → args_told before (drop i args) ≡ all → args_told grown (drop (i + 1) args) ≡ all
arg_behind before all args i w {pushed} {shown} {grown} {front} {bytes} {left} {n} lt is short p t g f b l m so_far =
    let e : front ≡ take (128 - length before) w = f ∙ ap (λ k. take k bytes) (l ∙ ap (λ k. 128 - k) m) ∙ ap (take (128 - length before)) b in
    let whole : grown ≡ before ++ codes "'" ++ told (take (128 - length before) w) ++ codes "' " =
    g ∙ ap (λ x. x ++ codes "' ") (t ∙ ap (λ x. x ++ told front) p ∙ ap (λ x. (before ++ codes "'") ++ told x) e) in
    ap (λ x. args_told x (drop (i + 1) args)) whole
    ∙ sym (arg_more before w (drop (i + 1) args) short)
    ∙ sym (ap (args_told before) (drop_more args i w lt ∙ ap (λ x. x ∷ drop (i + 1) args) (sym is)))
    ∙ so_far

pub all_told : (name : Word) (args : List Word) {a b c d front told_args : List ℕ}
    → a ≡ codes "'" → front ≡ take 128 name → b ≡ a ++ told front → c ≡ b ++ codes "', with args beginning with: " → told_args ≡ args_told [] args → d ≡ c ++ told_args
    → d ≡ unknown name args
all_told name args {a} {b} {c} {d} {front} {told_args} ea ef eb ec et ed =
    ed
    ∙ ap (λ x. x ++ told_args) (ec ∙ ap (λ x. x ++ codes "', with args beginning with: ") (eb ∙ ap (λ x. x ++ told front) ea ∙ ap (λ x. codes "'" ++ told x) ef))
    ∙ ap (λ x. ((codes "'" ++ told (take 128 name)) ++ codes "', with args beginning with: ") ++ x) et

-- ---- the ends of lines at the end

pub end_dropped : (bs : List ℕ) (b : ℕ) → is_end b ≡ true → without_ends (bs ++ b ∷ []) ≡ without_ends bs
unfolding without_ends
end_dropped [] b e = rw e refl
end_dropped (c ∷ bs) b e = ap (before_end c) (end_dropped bs b e)

kept : (c b : ℕ) (bs : List ℕ) → before_end c (bs ++ b ∷ []) ≡ c ∷ (bs ++ b ∷ [])
kept c b [] = refl
kept c b (d ∷ bs) = refl

pub end_kept : (bs : List ℕ) (b : ℕ) → is_end b ≡ false → without_ends (bs ++ b ∷ []) ≡ bs ++ b ∷ []
unfolding without_ends
end_kept [] b e = rw e refl
end_kept (c ∷ bs) b e = ap (before_end c) (end_kept bs b e) ∙ kept c b bs

pub all_ends : (bs : List ℕ) → length bs ≡ 0 → without_ends bs ≡ bs
unfolding without_ends
all_ends [] e = refl
all_ends (b ∷ bs) e = absurd (omega arith)

-- ---- up to a byte of 0

abbrev zero_at : Word → ℕ
zero_at w = prefix_len (λ b. not (eqb b 0)) w

some_only : (t : Bool) (n end : ℕ) → Some end ≡ cond t (Some n) None → end ≡ n
some_only true n end e = cc
some_only false n end e = absurd cc

none_only : (t : Bool) (n : ℕ) → None ≡ cond t (Some n) None → t ≡ false
none_only true n e = absurd cc
none_only false n e = refl

pub cut : (w : Word) (end : ℕ) → Some end ≡ position (λ b. eqb b 0) w → take end w ≡ c_string w
cut w end e = ap (λ n. take n w) (some_only (ltb (zero_at w) (length w)) (zero_at w) end e)

pub uncut : (w : Word) → None ≡ position (λ b. eqb b 0) w → w ≡ c_string w
uncut w e =
    let l : length w ≤ zero_at w = ltb-false (zero_at w) (length w) (none_only (ltb (zero_at w) (length w)) (zero_at w) e) in
    sym (take_all (zero_at w) w l)
