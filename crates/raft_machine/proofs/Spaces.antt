-- What advances, puts and removes leave of the keys and of their deadlines.
use Rattle.std.proofs.Common.{◌≡◌, ℕ, ◌<◌, Bool, true, false, cond, ◌≤◌, List, ◌∷◌, inl, inr, Option, Some, None, refl, sym, ap, subst, ◌∙◌, arith}
use Rattle.std.specs.Prelude.{◌⊎◌}
use Rattle.std.specs.List.{list_any}
use Rattle.std.specs.BTreeMap.{is_at}
use Rattle.std.specs.Global.{Vec}
use Rattle.std.specs.Option.{option_and_then}
use Rattle.std.specs.Ordering.{nat_cmp, is_eq, eq_by_cmp}
use Rattle.std.specs.Cmp.{eq_by_cmp_equiv}
use Rattle.std.specs.Cmp.Lexicographic.{slice_cmp, nat_list_cmp_total}
use Rattle.std.specs.FinMap.{get, insert, remove, empty, get-empty, get-insert, get-remove, get-retain_keys, same_map, slice_cmp-IsAntisymmetric, nat_cmp-IsAntisymmetric}
use Rattle.std.proofs.lemmas.Option.{none-some, same_Some}
use Rattle.std.proofs.lemmas.Bool.Decides.{nat_tests}
use Rattle.raft_machine.specs.declared.stored.Stored.{Stored}
use Rattle.raft_machine.specs.Deadlines.{Noted, has, against, KeepsAll, KeepsAllBut, IsDue, IsNoted}
use Rattle.raft_machine.proofs.Noted.{any-first}
use Rattle.raft_machine.specs.Space.{Map, lives, deadline_of, alive, AreNoted, AreLater, IsTimely}
use Rattle.raft_machine.proofs.Tables.{same_bytes}

abbrev pub same : List ℕ → List ℕ → Bool
same q k = eq_by_cmp (slice_cmp nat_cmp) q k

pub same_keys : (q k : List ℕ) → same q k ≡ true → q ≡ k
same_keys q k e = same_bytes q k e

pub same_itself : (k : List ℕ) → same k k ≡ true
same_itself k = (eq_by_cmp_equiv nat_list_cmp_total).refl k

-- maps that answer alike are equal
pub alike : (m n : Map) → ((q : List ℕ) → get m q ≡ get n q) → m ≡ n
alike m n h = same_map nat_list_cmp_total (slice_cmp-IsAntisymmetric nat_cmp-IsAntisymmetric) m n h

pub deadline : Option Stored → Option ℕ
deadline o = option_and_then (λ s. s.expires) o

pub get-alive : (now : ℕ) (m : Map) (q : List ℕ) → get (alive now m) q ≡ cond (lives now (deadline_of m q)) (get m q) None
get-alive now m q = get-retain_keys m (λ k. lives now (deadline_of m k)) q (λ x e. ap (λ k. lives now (deadline_of m k)) (sym (same_keys q x (ap is_eq e))))

-- what is left of what expired is the same without it
by_key : (now : ℕ) (b : Bool) (o : Option Stored) → (b ≡ true → lives now (option_and_then (λ s. s.expires) o) ≡ false)
    → cond (lives now (option_and_then (λ s. s.expires) (cond b None o))) (cond b None o) None ≡ cond (lives now (option_and_then (λ s. s.expires) o)) o None
by_key now true o h = rw (h refl) refl
by_key now false o h = refl

pub alive-without : (now : ℕ) (m : Map) (k : List ℕ) → lives now (deadline_of m k) ≡ false → alive now (remove m k) ≡ alive now m
alive-without now m k h = alike _ _ (λ q.
    get-alive now (remove m k) q
    ∙ ap (λ o. cond (lives now (option_and_then (λ s. s.expires) o)) o None) (get-remove nat_list_cmp_total m k q)
    ∙ by_key now (same q k) (get m q) (λ e. ap (λ l. lives now (deadline_of m l)) (same_keys q k e) ∙ h)
    ∙ sym (get-alive now m q))

pub lives_later : (now : ℕ) (o : Option ℕ) → ((t : ℕ) → o ≡ Some t → now < t) → lives now o ≡ true
lives_later now None h = refl
lives_later now (Some t) h = let lt = h t refl in grind (arith, nat_tests)

pub alive-all : (now : ℕ) (m : Map) → AreLater m now → alive now m ≡ m
alive-all now m later = alike _ _ (λ q. get-alive now m q ∙ ap (λ b. cond b (get m q) None) (lives_later now (deadline_of m q) (later q)))

deadline-insert : (m : Map) (k : List ℕ) (s : Stored) (q : List ℕ) → deadline_of (insert m k s) q ≡ cond (same q k) s.expires (deadline_of m q)
deadline-insert m k s q =
    ap (option_and_then (λ s. s.expires)) (get-insert nat_list_cmp_total m k s q)
    ∙ elim (same q k) as (λ b. option_and_then (λ s. s.expires) (cond b (Some s) (get m q)) ≡ cond b s.expires (deadline_of m q)) [ true ↦ refl | false ↦ refl ]

deadline-remove : (m : Map) (k q : List ℕ) → deadline_of (remove m k) q ≡ cond (same q k) None (deadline_of m q)
deadline-remove m k q =
    ap (option_and_then (λ s. s.expires)) (get-remove nat_list_cmp_total m k q)
    ∙ elim (same q k) as (λ b. option_and_then (λ s. s.expires) (cond b None (get m q)) ≡ cond b None (deadline_of m q)) [ true ↦ refl | false ↦ refl ]

pub deadline-removed : (m : Map) (k : List ℕ) → deadline_of (remove m k) k ≡ None
deadline-removed m k = deadline-remove m k k ∙ ap (λ b. cond b None (deadline_of m k)) (same_itself k)

pub deadline-inserted : (m : Map) (k : List ℕ) (s : Stored) → deadline_of (insert m k s) k ≡ s.expires
deadline-inserted m k s = deadline-insert m k s k ∙ ap (λ b. cond b s.expires (deadline_of m k)) (same_itself k)

remains : (b : Bool) (o : Option ℕ) (t : ℕ) → cond b None o ≡ Some t → o ≡ Some t
remains true o t e = absurd cc
remains false o t e = e

pub deadline_remains : (m : Map) (k q : List ℕ) (t : ℕ) → deadline_of (remove m k) q ≡ Some t → deadline_of m q ≡ Some t
deadline_remains m k q t e = remains (same q k) (deadline_of m q) t (sym (deadline-remove m k q) ∙ e)

pub timely-remove : (m : Map) (d : Noted) (now : ℕ) (k : List ℕ) → IsTimely m d now → IsTimely (remove m k) d now
timely-remove m d now k h = record {
  noted = λ q t e. h.noted q t (deadline_remains m k q t e);
  later = λ q t e. h.later q t (deadline_remains m k q t e);
}

-- of a deadline that isn't the key's nothing need be noted
pub AreNoted-forget : (m : Map) (d n : Noted) (u : ℕ) (k : List ℕ) → AreNoted m d → KeepsAllBut d n u k → ¬ (deadline_of m k ≡ Some u) → AreNoted m n
AreNoted-forget m d n u k h keeps other q t e =
    keeps t q (λ both. other (subst (λ (p : ℕ). deadline_of m k ≡ Some p) both.0 (subst (λ l. deadline_of m l ≡ Some t) both.1 e))) (h q t e)

pub timely-forget : (m : Map) (d n : Noted) (now u : ℕ) (k : List ℕ) → IsTimely m d now → KeepsAllBut d n u k → ¬ (deadline_of m k ≡ Some u) → IsTimely m n now
timely-forget m d n now u k h keeps other = record { noted = AreNoted-forget m d n u k h.noted keeps other; later = h.later }

pub timely-note : (m : Map) (d n : Noted) (now : ℕ) → IsTimely m d now → KeepsAll d n → IsTimely m n now
timely-note m d n now h keeps = record { noted = λ q t e. keeps t q (h.noted q t e); later = h.later }

noted_or : (b : Bool) (n : Noted) (q k : List ℕ) (o p : Option ℕ) (t : ℕ) → (b ≡ true → q ≡ k) → ((u : ℕ) → o ≡ Some u → has n u k ≡ true) → (p ≡ Some t → has n t q ≡ true) → cond b o p ≡ Some t → has n t q ≡ true
noted_or true n q k o p t e new old h = rw (e refl) (new t h)
noted_or false n q k o p t e new old h = old h

later_or : (b : Bool) (now : ℕ) (o p : Option ℕ) (t : ℕ) → lives now o ≡ true → (p ≡ Some t → now < t) → cond b o p ≡ Some t → now < t
later_or true now None p t l old h = absurd cc
later_or true now (Some u) p t l old h = let lt : now < u = grind (arith, nat_tests) in let e : u ≡ t = cc in omega arith
later_or false now o p t l old h = old h

-- what expires later and is noted may be stored
pub timely-insert : (m : Map) (n : Noted) (now : ℕ) (k : List ℕ) (s : Stored) → IsTimely m n now → lives now s.expires ≡ true → ((u : ℕ) → s.expires ≡ Some u → has n u k ≡ true) → IsTimely (insert m k s) n now
timely-insert m n now k s h live new = record {
  noted = λ q t e. noted_or (same q k) n q k s.expires (deadline_of m q) t (same_keys q k) new (h.noted q t) (sym (deadline-insert m k s q) ∙ e);
  later = λ q t e. later_or (same q k) now s.expires (deadline_of m q) t live (h.later q t) (sym (deadline-insert m k s q) ∙ e);
}

pub timely-empty : (d : Noted) (now : ℕ) → IsTimely empty d now
timely-empty d now = record {
  noted = λ q t e. absurd (none-some t (sym (ap (option_and_then (λ (s : Stored). s.expires)) (get-empty (slice_cmp nat_cmp) q)) ∙ e));
  later = λ q t e. absurd (none-some t (sym (ap (option_and_then (λ (s : Stored). s.expires)) (get-empty (slice_cmp nat_cmp) q)) ∙ e));
}

-- ---- the first deadline is taken off, and its key removed if it has expired

due_head : (xs : List (ℕ × Vec ℕ)) (x : ℕ × Vec ℕ) (ys : List (ℕ × Vec ℕ)) (now : ℕ) → xs ≡ x ∷ ys → IsDue xs now → x.0 ≤ now
due_head xs x ys now e h = subst (λ (zs : List (ℕ × Vec ℕ)). IsDue zs now) e h

found : (d n : Noted) (x : ℕ × Vec ℕ) → d.keys ≡ x ∷ n.keys → (t : ℕ) (k : List ℕ) → has d t k ≡ true → ((t ≡ x.0) × (k ≡ x.1.items)) ⊎ (has n t k ≡ true)
found d n x e t k h = any-first t k x n.keys (subst (λ (zs : List (ℕ × Vec ℕ)). list_any (is_at (against t k)) zs ≡ true) e h)

-- the map without the key if it has expired
abbrev pub dropped : Map → ℕ → List ℕ → Map
dropped m now k = cond (lives now (deadline_of m k)) m (remove m k)

not_live : (now t u : ℕ) (o : Option ℕ) → lives now o ≡ true → o ≡ Some t → t ≡ u → u ≤ now → ⊥
not_live now t u None l e same le = absurd (none-some t e)
not_live now t u (Some s) l e same le = let i : s ≡ t = same_Some s t e in grind (arith, nat_tests)

pub AreNoted-dropped : (m : Map) (d n : Noted) (now : ℕ) (x : ℕ × Vec ℕ) → AreNoted m d → IsDue d.keys now → d.keys ≡ x ∷ n.keys → AreNoted (dropped m now x.1.items) n
AreNoted-dropped m d n now x h due e q t =
    elim (lives now (deadline_of m x.1.items)) as (λ b. lives now (deadline_of m x.1.items) ≡ b → deadline_of (cond b m (remove m x.1.items)) q ≡ Some t → has n t q ≡ true) [
      | true ↦ λ live is. elim (found d n x e t q (h q t is)) [
        | inl here ↦ absurd (not_live now t x.0 (deadline_of m x.1.items) live (subst (λ k. deadline_of m k ≡ Some t) here.1 is) here.0 (due_head d.keys x n.keys now e due))
        | inr later ↦ later
      ]
      | false ↦ λ gone is. elim (found d n x e t q (h q t (deadline_remains m x.1.items q t is))) [
        | inl here ↦ absurd (none-some t (sym (deadline-removed m x.1.items) ∙ subst (λ k. deadline_of (remove m x.1.items) k ≡ Some t) here.1 is))
        | inr later ↦ later
      ]
    ] refl

pub alive-dropped : (m : Map) (now : ℕ) (k : List ℕ) → alive now (dropped m now k) ≡ alive now m
alive-dropped m now k =
    elim (lives now (deadline_of m k)) as (λ b. lives now (deadline_of m k) ≡ b → alive now (cond b m (remove m k)) ≡ alive now m) [
      | true ↦ λ e. refl
      | false ↦ λ e. alive-without now m k e
    ] refl

-- ---- a deadline is noted, and then the value is stored

pub timely-put : (m : Map) (d n : Noted) (now : ℕ) (k : List ℕ) (s : Stored) → IsTimely m d now → lives now s.expires ≡ true → KeepsAll d n → IsNoted n s.expires k → IsTimely (insert m k s) n now
timely-put m d n now k s h live keeps noted = timely-insert m n now k s (timely-note m d n now h keeps) live noted
