-- What is kept gives the store, and stays so.
use Rattle.std.proofs.Common.{◌≡◌, ℕ, suc, ◌+◌, ◌-◌, ◌<◌, ◌≤◌, Bool, true, false, cond, List, [], ◌∷◌, ◌++◌, length, take, drop, Option, Some, None, refl, sym, ap, subst, ◌∙◌, arith}
use Rattle.std.specs.Prelude.{map, ◌==◌}
use Rattle.std.proofs.lemmas.List.{length-append, append-nil, append_assoc, take-append-drop, take-map, drop-map, length-drop, length-map}
use Rattle.std.proofs.Math.Seq.{drop-nil}
use Rattle.std.specs.Ordering.{nat_cmp, eq_by_cmp}
use Rattle.std.specs.Cmp.{eq_by_cmp_equiv}
use Rattle.std.specs.Cmp.Lexicographic.{slice_cmp, nat_list_cmp_total}
use Rattle.std.specs.FinMap.{get, insert, remove, empty, get-empty, get-insert, get-remove, same_map, slice_cmp-IsAntisymmetric, nat_cmp-IsAntisymmetric}
use Rattle.kv_machine.specs.declared.key_value.Stored.{Stored}
use Rattle.kv_machine.specs.declared.key_value.Event.{Event}
use Rattle.kv_machine.specs.declared.touch.Touch.{Touch}
use Rattle.kv_machine.specs.Store.{Key, Map, Store, done, all_done, revised, keys, keys_at, base_revision, compact, current, header, with, close, closed}
use Rattle.kv_machine.specs.History.{happened, event_of, events, restored, undone, in_all, Leads, store_of, IsKept}
use Rattle.kv_machine.specs.Checks.{is_done}
use Rattle.std.proofs.lemmas.Bool.{eqb-true}
use Rattle.std.proofs.lemmas.Bool.Decides.{nat_tests}
use Rattle.kv_machine.proofs.Tables.{same_bytes}

abbrev pub same : List ℕ → List ℕ → Bool
same q k = eq_by_cmp (slice_cmp nat_cmp) q k

pub same_keys : (q k : List ℕ) → same q k ≡ true → q ≡ k
same_keys q k e = same_bytes q k e

-- maps that answer alike are equal
pub alike : (m n : Map) → ((q : List ℕ) → get m q ≡ get n q) → m ≡ n
alike m n h = same_map nat_list_cmp_total (slice_cmp-IsAntisymmetric nat_cmp-IsAntisymmetric) m n h

get-restored : (m : Map) (k : Key) (o : Option Stored) (q : Key) → get (restored m k o) q ≡ cond (same q k) o (get m q)
get-restored m k None q = get-remove nat_list_cmp_total m k q
get-restored m k (Some s) q = get-insert nat_list_cmp_total m k s q

get-done : (m : Map) (k : Key) (o : Option Stored) (q : Key) → get (done m (happened k o)) q ≡ cond (same q k) o (get m q)
get-done m k None q = get-remove nat_list_cmp_total m k q
get-done m k (Some s) q = get-insert nat_list_cmp_total m k s q

back_at : (b : Bool) (o new old : Option Stored) → (b ≡ true → old ≡ o) → cond b o (cond b new old) ≡ old
back_at true o new old h = sym (h refl)
back_at false o new old h = refl

-- what was done to a key is undone by what it had
pub undo_done : (m : Map) (k : Key) (before after : Option Stored) → get m k ≡ before → restored (done m (happened k after)) k before ≡ m
undo_done m k before after h = alike _ _ (λ q.
    get-restored (done m (happened k after)) k before q
    ∙ ap (cond (same q k) before) (get-done m k after q)
    ∙ back_at (same q k) before after (get m q) (λ e. ap (get m) (same_keys q k e) ∙ h))

pub undone-leads : (b : Map) (ts : List Touch) (m : Map) → Leads b ts m → undone m ts ≡ b
undone-leads b [] m h = sym h
undone-leads b (t ∷ ts) m h =
    ap (λ n. restored n t.key t.before) (undone-leads (done b (event_of t)) ts m h.1) ∙ undo_done b t.key t.before t.after h.0

pub leads-push : (b : Map) (ts : List Touch) (m : Map) (t : Touch) → Leads b ts m → get m t.key ≡ t.before → Leads b (ts ++ t ∷ []) (done m (event_of t))
leads-push b [] m t h e = (ap (λ n. get n t.key) h ∙ e, ap (λ n. done n (event_of t)) h)
leads-push b (u ∷ ts) m t h e = (h.0, leads-push (done b (event_of u)) ts m t h.1 e)

pub all_done-leads : (b : Map) (ts : List Touch) (m : Map) → Leads b ts m → all_done b (events ts) ≡ m
all_done-leads b [] m h = h
all_done-leads b (t ∷ ts) m h = all_done-leads (done b (event_of t)) ts m h.1

pub all_done-append : (b : Map) (ts us : List Touch) → all_done b (events (ts ++ us)) ≡ all_done (all_done b (events ts)) (events us)
all_done-append b [] us = refl
all_done-append b (t ∷ ts) us = all_done-append (done b (event_of t)) ts us

pub all_done-in_all : (b : Map) (rs : List (List Touch)) (pending : List Touch) → all_done b (events (in_all rs pending)) ≡ all_done (revised b (map events rs)) (events pending)
all_done-in_all b [] pending = refl
all_done-in_all b (ts ∷ rs) pending = all_done-append b ts (in_all rs pending) ∙ all_done-in_all (all_done b (events ts)) rs pending

-- the keys of the store are those that are kept
pub keys-store_of : (m : Map) (compacted : Option ℕ) (rs : List (List Touch)) (pending : List Touch) (current : ℕ) → IsKept m compacted rs pending current → keys (store_of m compacted rs pending) ≡ m
keys-store_of m compacted rs pending current h =
    sym (all_done-in_all (undone m (in_all rs pending)) rs pending) ∙ all_done-leads _ (in_all rs pending) m h.leads

-- ---- one thing more happens

pub in_all-push : (rs : List (List Touch)) (pending : List Touch) (t : Touch) → in_all rs (pending ++ t ∷ []) ≡ in_all rs pending ++ t ∷ []
in_all-push [] pending t = refl
in_all-push (ts ∷ rs) pending t = ap (λ us. ts ++ us) (in_all-push rs pending t) ∙ sym (append_assoc ts (in_all rs pending) (t ∷ []))

pub in_all-close : (rs : List (List Touch)) (pending : List Touch) → in_all (rs ++ pending ∷ []) [] ≡ in_all rs pending
in_all-close [] pending = append-nil pending
in_all-close (ts ∷ rs) pending = ap (λ us. ts ++ us) (in_all-close rs pending)

pub events-push : (ts : List Touch) (t : Touch) → events (ts ++ t ∷ []) ≡ events ts ++ event_of t ∷ []
events-push [] t = refl
events-push (u ∷ ts) t = ap (λ es. event_of u ∷ es) (events-push ts t)

pub kept-push : (m : Map) (compacted : Option ℕ) (rs : List (List Touch)) (pending : List Touch) (current : ℕ) (t : Touch) → IsKept m compacted rs pending current → get m t.key ≡ t.before
    → IsKept (done m (event_of t)) compacted rs (pending ++ t ∷ []) current
kept-push m compacted rs pending current t h e =
    let leads : Leads (undone m (in_all rs pending)) (in_all rs pending ++ t ∷ []) (done m (event_of t)) = leads-push _ (in_all rs pending) m t h.leads e in
    let same_base = undone-leads _ (in_all rs pending ++ t ∷ []) _ leads in
    let P : List Touch → Type 0 = λ ts. Leads (undone (done m (event_of t)) ts) ts (done m (event_of t)) in
    record {
      leads = subst P (sym (in_all-push rs pending t)) (subst (λ (b : Map). Leads b (in_all rs pending ++ t ∷ []) (done m (event_of t))) (sym same_base) leads);
      current = h.current;
    }

pub base-push : (m : Map) (rs : List (List Touch)) (pending : List Touch) (t : Touch) → Leads (undone m (in_all rs pending)) (in_all rs pending) m → get m t.key ≡ t.before
    → undone (done m (event_of t)) (in_all rs (pending ++ t ∷ [])) ≡ undone m (in_all rs pending)
base-push m rs pending t h e =
    ap (undone (done m (event_of t))) (in_all-push rs pending t)
    ∙ undone-leads (undone m (in_all rs pending)) (in_all rs pending ++ t ∷ []) (done m (event_of t)) (leads-push _ (in_all rs pending) m t h e)

-- ---- revisions are complete, and forgotten

pub kept-close : (m : Map) (compacted : Option ℕ) (rs : List (List Touch)) (pending : List Touch) (current : ℕ) → IsKept m compacted rs pending current
    → IsKept m compacted (rs ++ pending ∷ []) [] (current + 1)
kept-close m compacted rs pending current h =
    let P : List Touch → Type 0 = λ ts. Leads (undone m ts) ts m in
    record {
      leads = subst P (sym (in_all-close rs pending)) h.leads;
      current = let e = h.current in omega (arith, length-append rs (pending ∷ []));
    }

pub map-push : {A B : Type 0} (f : A → B) (xs : List A) (x : A) → map f (xs ++ x ∷ []) ≡ map f xs ++ f x ∷ []
map-push f [] x = refl
map-push f (y ∷ ys) x = ap (λ zs. f y ∷ zs) (map-push f ys x)

close-events : (rs : List (List Event)) (u : Touch) (us : List Touch) → close rs (events (u ∷ us)) ≡ rs ++ events (u ∷ us) ∷ []
close-events rs u us = refl

pub store-close : (m : Map) (compacted : Option ℕ) (rs : List (List Touch)) (pending : List Touch) → (length pending == 0) ≡ false
    → store_of m compacted (rs ++ pending ∷ []) [] ≡ closed (store_of m compacted rs pending)
store-close m compacted rs [] some = absurd cc
store-close m compacted rs (u ∷ us) some =
    ap (λ (p : Map × List (List Event)). let s : Store = record { base = p.0; compacted = compacted; revisions = p.1; pending = [] } in s)
    (pair (ap (undone m) (in_all-close rs (u ∷ us))) (map-push events rs (u ∷ us))) where
      pair : {x y : Map} {rs qs : List (List Event)} → x ≡ y → rs ≡ qs → let p : Map × List (List Event) = (x, rs) in let q : Map × List (List Event) = (y, qs) in p ≡ q
      pair e f = λ i. (e i, f i)

-- nothing is pending: nothing is closed
pub store-same : (m : Map) (compacted : Option ℕ) (rs : List (List Touch)) (pending : List Touch) → (length pending == 0) ≡ true
    → store_of m compacted rs pending ≡ closed (store_of m compacted rs pending)
store-same m compacted rs [] none = refl
store-same m compacted rs (u ∷ us) none = let e : length (u ∷ us) ≡ 0 = eqb-true (length (u ∷ us)) 0 none in absurd (omega arith)

in_all-append : (rs qs : List (List Touch)) (pending : List Touch) → in_all (rs ++ qs) pending ≡ in_all rs [] ++ in_all qs pending
in_all-append [] qs pending = refl
in_all-append (ts ∷ rs) qs pending = ap (λ us. ts ++ us) (in_all-append rs qs pending) ∙ sym (append_assoc ts (in_all rs []) (in_all qs pending))

in_all-split : (n : ℕ) (rs : List (List Touch)) (pending : List Touch) → in_all rs pending ≡ in_all (take n rs) [] ++ in_all (drop n rs) pending
in_all-split n rs pending = ap (λ qs. in_all qs pending) (sym (take-append-drop n rs)) ∙ in_all-append (take n rs) (drop n rs) pending

leads-split : (b : Map) (ts us : List Touch) (m : Map) → Leads b (ts ++ us) m → Leads (all_done b (events ts)) us m
leads-split b [] us m h = h
leads-split b (t ∷ ts) us m h = leads-split (done b (event_of t)) ts us m h.1

-- what is behind so many revisions leads from what they left
leads-behind : (m : Map) (n : ℕ) (rs : List (List Touch)) (pending : List Touch) → Leads (undone m (in_all rs pending)) (in_all rs pending) m
    → Leads (revised (undone m (in_all rs pending)) (map events (take n rs))) (in_all (drop n rs) pending) m
leads-behind m n rs pending h =
    let b = undone m (in_all rs pending) in
    subst (λ (x : Map). Leads x (in_all (drop n rs) pending) m) (all_done-in_all b (take n rs) [])
    (leads-split b (in_all (take n rs) []) (in_all (drop n rs) pending) m (subst (λ (ts : List Touch). Leads b ts m) (in_all-split n rs pending) h))

-- undoing what is behind so many revisions gives what they left
pub undone-behind : (m : Map) (n : ℕ) (rs : List (List Touch)) (pending : List Touch) → Leads (undone m (in_all rs pending)) (in_all rs pending) m
    → undone m (in_all (drop n rs) pending) ≡ revised (undone m (in_all rs pending)) (map events (take n rs))
undone-behind m n rs pending h = undone-leads _ (in_all (drop n rs) pending) m (leads-behind m n rs pending h)

pub kept-behind : (m : Map) (n : ℕ) (rs : List (List Touch)) (pending : List Touch) → Leads (undone m (in_all rs pending)) (in_all rs pending) m
    → Leads (undone m (in_all (drop n rs) pending)) (in_all (drop n rs) pending) m
kept-behind m n rs pending h =
    subst (λ (x : Map). Leads x (in_all (drop n rs) pending) m) (sym (undone-behind m n rs pending h)) (leads-behind m n rs pending h)

-- the keys at a revision are those of now, with what happened behind it undone
pub keys_at-store_of : (m : Map) (compacted : Option ℕ) (rs : List (List Touch)) (pending : List Touch) (current r : ℕ) → IsKept m compacted rs pending current
    → keys_at (store_of m compacted rs pending) r ≡ undone m (in_all (drop (r - base_revision compacted) rs) pending)
keys_at-store_of m compacted rs pending current r h =
    let n = r - base_revision compacted in
    ap (revised (undone m (in_all rs pending))) (take-map events n rs) ∙ sym (undone-behind m n rs pending h.leads)

store_parts : {x y : Map} {rs qs : List (List Event)} (compacted : Option ℕ) (pending : List Event) → x ≡ y → rs ≡ qs
    → (let s : Store = record { base = x; compacted = compacted; revisions = rs; pending = pending } in s) ≡ (let s : Store = record { base = y; compacted = compacted; revisions = qs; pending = pending } in s)
store_parts compacted pending e f = λ i. record { base = e i; compacted = compacted; revisions = f i; pending = pending }

pub store-compact : (m : Map) (compacted : Option ℕ) (rs : List (List Touch)) (pending : List Touch) (current r : ℕ) → IsKept m compacted rs pending current
    → store_of m (Some r) (drop (r - base_revision compacted) rs) pending ≡ compact (store_of m compacted rs pending) r
store-compact m compacted rs pending current r h =
    let n = r - base_revision compacted in
    store_parts (Some r) (events pending) (sym (keys_at-store_of m compacted rs pending current r h)) (sym (drop-map events n rs))

counted_on : (c : Option ℕ) (r len : ℕ) → is_done c r ≡ false → r ≤ base_revision c + len → base_revision c + len ≡ base_revision (Some r) + (len - (r - base_revision c))
counted_on None r len h le = omega arith
counted_on (Some c) r len h le = let lt : c < r = grind (arith, nat_tests) in omega arith

pub kept-compact : (m : Map) (compacted : Option ℕ) (rs : List (List Touch)) (pending : List Touch) (current r : ℕ) → IsKept m compacted rs pending current
    → is_done compacted r ≡ false → r ≤ current
    → IsKept m (Some r) (drop (r - base_revision compacted) rs) pending current
kept-compact m compacted rs pending current r h new upto =
    let n = r - base_revision compacted in
    record {
      leads = kept-behind m n rs pending h.leads;
      current = h.current ∙ counted_on compacted r (length rs) new (let e = h.current in omega arith) ∙ ap (λ k. base_revision (Some r) + k) (sym (length-drop n rs));
    }

-- ---- what the next revision is

pub header-some : (m : Map) (compacted : Option ℕ) (rs : List (List Touch)) (pending : List Touch) → (length pending == 0) ≡ false
    → header (store_of m compacted rs pending) ≡ current (store_of m compacted rs pending) + 1
header-some m compacted rs [] some = absurd cc
header-some m compacted rs (u ∷ us) some = let e = length-append (map events rs) (events (u ∷ us) ∷ []) in omega (arith, e)

pub header-none : (m : Map) (compacted : Option ℕ) (rs : List (List Touch)) (pending : List Touch) → (length pending == 0) ≡ true
    → header (store_of m compacted rs pending) ≡ current (store_of m compacted rs pending)
header-none m compacted rs [] none = refl
header-none m compacted rs (u ∷ us) none = let e : length (u ∷ us) ≡ 0 = eqb-true (length (u ∷ us)) 0 none in absurd (omega arith)

pub current-store_of : (m : Map) (compacted : Option ℕ) (rs : List (List Touch)) (pending : List Touch) (last : ℕ) → IsKept m compacted rs pending last
    → last ≡ current (store_of m compacted rs pending)
current-store_of m compacted rs pending last h = h.current ∙ ap (λ k. base_revision compacted + k) (sym (length-map rs events))

pub drop_step : {A : Type 0} (n : ℕ) (xs : List A) → 0 < n → drop (n - 1) (drop 1 xs) ≡ drop n xs
drop_step {A = A} n xs some = go (n - 1) xs (omega arith) where
  go : (k : ℕ) (ys : List A) → n ≡ suc k → drop k (drop 1 ys) ≡ drop n ys
  go k [] e = drop-nil k ∙ ap (λ j. drop j []) (sym e)
  go k (y ∷ ys) e = ap (λ j. drop j (y ∷ ys)) (sym e)

-- ---- what a call leaves

pub same-kept : (m n : Map) (compacted : Option ℕ) (rs : List (List Touch)) (old new : List Touch) (last : ℕ) → IsKept m compacted rs old last
    → n ≡ m → new ≡ old → IsKept n compacted rs new last
same-kept m n compacted rs old new last h e f =
    subst (λ (x : Map). IsKept x compacted rs new last) (sym e) (subst (λ (ts : List Touch). IsKept m compacted rs ts last) (sym f) h)

pub same-store : (m n : Map) (compacted : Option ℕ) (rs : List (List Touch)) (old new : List Touch) → n ≡ m → new ≡ old
    → store_of n compacted rs new ≡ store_of m compacted rs old
same-store m n compacted rs old new e f = λ i. store_of (e i) compacted rs (f i)

pub touch-kept : (m n : Map) (compacted : Option ℕ) (rs : List (List Touch)) (old new : List Touch) (last : ℕ) (t : Touch) → IsKept m compacted rs old last
    → n ≡ done m (event_of t) → get m t.key ≡ t.before → new ≡ old ++ t ∷ [] → IsKept n compacted rs new last
touch-kept m n compacted rs old new last t h e b f =
    same-kept (done m (event_of t)) n compacted rs (old ++ t ∷ []) new last (kept-push m compacted rs old last t h b) e f

pub touch-store : (m n : Map) (compacted : Option ℕ) (rs : List (List Touch)) (old new : List Touch) (last : ℕ) (t : Touch) → IsKept m compacted rs old last
    → n ≡ done m (event_of t) → get m t.key ≡ t.before → new ≡ old ++ t ∷ [] → store_of n compacted rs new ≡ with (store_of m compacted rs old) (event_of t ∷ [])
touch-store m n compacted rs old new last t h e b f =
    same-store (done m (event_of t)) n compacted rs (old ++ t ∷ []) new e f
    ∙ (λ i. record { base = base-push m rs old t h.leads b i; compacted = compacted; revisions = map events rs; pending = events-push old t i })

pub remove-none : (m : Map) (k : Key) → get m k ≡ None → remove m k ≡ m
remove-none m k h = alike _ _ (λ q. get-remove nat_list_cmp_total m k q ∙ none_at (same q k) (get m q) (λ e. ap (get m) (same_keys q k e) ∙ h)) where
  none_at : (b : Bool) (o : Option Stored) → (b ≡ true → o ≡ None) → cond b None o ≡ o
  none_at true o h = sym (h refl)
  none_at false o h = refl

pub chosen-true : {A : Type 0} (b : Bool) (x y z : A) → b ≡ true → x ≡ y → x ≡ cond b y z
chosen-true b x y z e f = f ∙ sym (ap (λ c. cond c y z) e)

pub chosen-false : {A : Type 0} (b : Bool) (x y z : A) → b ≡ false → x ≡ z → x ≡ cond b y z
chosen-false b x y z e f = f ∙ sym (ap (λ c. cond c y z) e)

pub closed-kept : (m : Map) (compacted : Option ℕ) (rs qs : List (List Touch)) (old new : List Touch) (last next : ℕ) → IsKept m compacted rs old last
    → qs ≡ rs ++ old ∷ [] → new ≡ [] → next ≡ last + 1 → IsKept m compacted qs new next
closed-kept m compacted rs qs old new last next h e f n =
    subst (λ (k : ℕ). IsKept m compacted qs new k) (sym n)
    (subst (λ (ts : List Touch). IsKept m compacted qs ts (last + 1)) (sym f)
    (subst (λ (us : List (List Touch)). IsKept m compacted us [] (last + 1)) (sym e) (kept-close m compacted rs old last h)))

pub closed-store : (m : Map) (compacted : Option ℕ) (rs qs : List (List Touch)) (old new : List Touch) → (length old == 0) ≡ false
    → qs ≡ rs ++ old ∷ [] → new ≡ [] → store_of m compacted qs new ≡ closed (store_of m compacted rs old)
closed-store m compacted rs qs old new some e f = (λ i. store_of m compacted (e i) (f i)) ∙ store-close m compacted rs old some
