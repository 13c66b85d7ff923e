-- Commands one after the other, and what is stored again at a key that was removed.
use Rattle.std.proofs.Common.{◌≡◌, ℕ, Bool, true, false, cond, List, [], ◌∷◌, ◌++◌, Option, Some, None, refl, sym, ap, ◌∙◌, append_assoc, ltb, arith}
use Rattle.std.specs.Prelude.{ℤ, pos, negsuc, FitsSigned, ◌+ℤ◌, ◌<◌, ◌^◌, Result, Ok, Err, MatchOption, length, unwrap_or, nat_lt, ◌+◌}
use Rattle.std.specs.Option.{SomeIff}
use Rattle.raft_machine.specs.declared.command.Failure.{Failure}
use Rattle.raft_machine.specs.declared.command.Failure.TheVariants.{Overflow, TooLong}
use Rattle.std.specs.Int.{w64}
use Rattle.std.specs.Option.{option_map}
use Rattle.std.proofs.lemmas.List.{length-append}
use Rattle.std.specs.Cmp.Lexicographic.{nat_list_cmp_total}
use Rattle.std.specs.FinMap.{get, insert, remove, get-insert, get-remove}
use Rattle.std.proofs.lemmas.Bool.Decides.{nat_tests}
use Rattle.raft_machine.specs.declared.stored.Stored.{Stored}
use Rattle.raft_machine.specs.declared.command.Command.{Command}
use Rattle.raft_machine.specs.declared.command.Reply.{Reply}
use Rattle.raft_machine.specs.declared.command.Reply.TheVariants.{Count, Failed}
use Rattle.raft_machine.specs.Space.{Map, Space, lives, put, without, deadline_of}
use Rattle.raft_machine.specs.Commands.{run, run_all, fits, sum_of, stored, flag, expiring, value_of, append, longest}
use Rattle.raft_machine.proofs.Spaces.{alike, same, same_keys}

-- after replies that came before
abbrev pub with_front : List Reply → Space × List Reply → Space × List Reply
with_front front x = (x.0, front ++ x.1)

pub run_all_more : (front : List Reply) (s : Space) (c : Command) (cs : List Command) (s' : Space) (r : Reply) → (s', r) ≡ run s c → with_front front (run_all s (c ∷ cs)) ≡ with_front (front ++ r ∷ []) (run_all s' cs)
run_all_more front s c cs s' r e =
    let x = run s c in
    let one : with_front front (run_all s (c ∷ cs)) ≡ with_front (front ++ x.1 ∷ []) (run_all x.0 cs) = ap (λ (rs : List Reply). ((run_all x.0 cs).0, rs)) (simp append_assoc) in
    one ∙ ap (λ (y : Space × Reply). with_front (front ++ y.1 ∷ []) (run_all y.0 cs)) (sym e)

-- ---- a key that was removed, and is set again

again : {X : Type 0} (b : Bool) (v o : Option X) → cond b v (cond b None o) ≡ cond b v o
again true v o = refl
again false v o = refl

pub insert-removed : (m : Map) (k : List ℕ) (s : Stored) → insert (remove m k) k s ≡ insert m k s
insert-removed m k s = alike _ _ (λ q.
    get-insert nat_list_cmp_total (remove m k) k s q
    ∙ ap (cond (same q k) (Some s)) (get-remove nat_list_cmp_total m k q)
    ∙ again (same q k) (Some s) (get m q)
    ∙ sym (get-insert nat_list_cmp_total m k s q))

pub remove-removed : (m : Map) (k : List ℕ) → remove (remove m k) k ≡ remove m k
remove-removed m k = alike _ _ (λ q.
    get-remove nat_list_cmp_total (remove m k) k q
    ∙ ap (cond (same q k) None) (get-remove nat_list_cmp_total m k q)
    ∙ again (same q k) None (get m q)
    ∙ sym (get-remove nat_list_cmp_total m k q))

pub put-without : (s : Space) (k : List ℕ) (v : Stored) → put (without s k) k v ≡ put s k v
put-without s k v =
    ap (λ (m : Map). record { map = m; moment = s.moment }) (elim (lives s.moment v.expires) as (λ b. cond b (insert (remove s.map k) k v) (remove (remove s.map k) k) ≡ cond b (insert s.map k v) (remove s.map k)) [ true ↦ insert-removed s.map k v | false ↦ remove-removed s.map k ])

absent : (b : Bool) (o : Option Stored) → (b ≡ true → o ≡ None) → cond b None o ≡ o
absent true o h = sym (h refl)
absent false o h = refl

-- a key that there isn't is removed by nothing
pub without-absent : (s : Space) (k : List ℕ) → get s.map k ≡ None → without s k ≡ s
without-absent s k none =
    ap (λ (m : Map). record { map = m; moment = s.moment }) (alike _ _ (λ q. get-remove nat_list_cmp_total s.map k q ∙ absent (same q k) (get s.map q) (λ e. ap (get s.map) (same_keys q k e) ∙ none)))

-- ---- which numbers fit

small : (n : ℕ) → n < 2 ^ 63 → ltb n (2 ^ 63) ≡ true
small n h = grind (arith, nat_tests)

-- what a test shows, if it isn't refuted
refuted : (b : Bool) → (b ≡ true → ⊥) → b ≡ false
refuted true h = absurd (h refl)
refuted false h = refl

large : (n : ℕ) → (n < 2 ^ 63 → ⊥) → ltb n (2 ^ 63) ≡ false
large n h = refuted (ltb n (2 ^ 63)) (λ e. h (grind (arith, nat_tests)))

pub fits_true : (z : ℤ) → FitsSigned w64 z → fits z ≡ true
fits_true (pos n) h = small n h.sfits
fits_true (negsuc n) h = small n h.sfits

pub fits_false : (z : ℤ) → ¬ (FitsSigned w64 z) → fits z ≡ false
fits_false (pos n) h = large n (λ lt. h (record { sfits = lt }))
fits_false (negsuc n) h = large n (λ lt. h (record { sfits = lt }))

-- a checked sum is the sum that fits
pub sum_is : (o : Option ℤ) (n by : ℤ) → SomeIff o (FitsSigned w64 (n +ℤ by)) (n +ℤ by) → MatchOption o (◌≡◌ {A = Result ℤ Failure} (Err Overflow) (sum_of (Some n) by)) (λ z. ◌≡◌ {A = Result ℤ Failure} (Ok z) (sum_of (Some n) by))
sum_is None n by h = rw (fits_false (n +ℤ by) h) refl
sum_is (Some z) n by h = rw (fits_true (n +ℤ by) h.0, h.1) refl

-- ---- what was removed is stored again, with another deadline or more bytes

pub expiring_some : (s : Space) (k : List ℕ) (expires : Option ℕ) (st : Stored) {removed new : Space} {r : Reply}
    → Some st ≡ get s.map k → removed ≡ without s k → new ≡ put removed k (stored st.bytes expires) → r ≡ flag true
    → ◌≡◌ {A = Space × Reply} (new, r) (expiring s k expires (value_of s.map k))
expiring_some s k expires st {removed} {new} {r} found gone kept told =
    let value : value_of s.map k ≡ Some st.bytes = ap (option_map (λ (t : Stored). t.bytes)) (sym found) in
    let stays : new ≡ put s k (stored st.bytes expires) = kept ∙ ap (λ (x : Space). put x k (stored st.bytes expires)) gone ∙ put-without s k (stored st.bytes expires) in
    ap (λ (x : Space). (x, r)) stays ∙ ap (λ (x : Reply). (put s k (stored st.bytes expires), x)) told ∙ sym (ap (expiring s k expires) value)

pub expiring_none : (s : Space) (k : List ℕ) (expires : Option ℕ) {new : Space} {r : Reply}
    → None ≡ get s.map k → new ≡ without s k → r ≡ flag false
    → ◌≡◌ {A = Space × Reply} (new, r) (expiring s k expires (value_of s.map k))
expiring_none s k expires {new} {r} missing gone told =
    let value : value_of s.map k ≡ None = ap (option_map (λ (t : Stored). t.bytes)) (sym missing) in
    let stays : new ≡ s = gone ∙ without-absent s k (sym missing) in
    ap (λ (x : Space). (x, r)) stays ∙ ap (λ (x : Reply). (s, x)) told ∙ sym (ap (expiring s k expires) value)

pub appended : (s : Space) (k more : List ℕ) {bytes grown all : List ℕ} {n : ℕ} {e : Option ℕ} {removed new : Space}
    → n ≡ length (unwrap_or (value_of s.map k) []) → false ≡ nat_lt longest (n + length more)
    → e ≡ deadline_of s.map k → bytes ≡ unwrap_or (value_of s.map k) [] → removed ≡ without s k → grown ≡ bytes ++ more → all ≡ grown → new ≡ put removed k (stored grown e)
    → ◌≡◌ {A = Space × Reply} (new, Count (length all)) (append s k more)
unfolding append
appended s k more {bytes} {grown} {all} {n} {e} {removed} {new} len short deadline value gone grows same kept =
    let long = unwrap_or (value_of s.map k) [] ++ more in
    let whole : grown ≡ long = grows ∙ ap (λ (x : List ℕ). x ++ more) value in
    let fits : nat_lt longest (length long) ≡ false =
    ap (nat_lt longest) (length-append (unwrap_or (value_of s.map k) []) more)
    ∙ sym (short ∙ ap (λ (x : ℕ). nat_lt longest (x + length more)) len) in
    let stays : new ≡ put s k (stored long (deadline_of s.map k)) =
    kept
    ∙ ap (λ (x : Space). put x k (stored grown e)) gone
    ∙ ap (λ (x : Option ℕ). put (without s k) k (stored grown x)) deadline
    ∙ ap (λ (x : List ℕ). put (without s k) k (stored x (deadline_of s.map k))) whole
    ∙ put-without s k (stored long (deadline_of s.map k)) in
    ap (λ (x : Space). (x, Count (length all))) stays
    ∙ ap (λ (x : List ℕ). (put s k (stored long (deadline_of s.map k)), Count (length x))) (same ∙ whole)
    ∙ sym (ap (λ b. cond b (s, Failed TooLong) (put s k (stored long (deadline_of s.map k)), Count (length long))) fits)
