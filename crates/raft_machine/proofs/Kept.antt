-- Proofs of the laws.
use Rattle.std.proofs.Common.{◌≡◌, ℕ, Bool, true, false, cond, List, [], ◌∷◌, Option, Some, None, Result, Ok, Err, eqb, arith, refl, sym, ap, ◌∙◌}
use Rattle.std.specs.Prelude.{unwrap_or, ◌++◌, nat_eq, ℤ, map, ◌||◌}
use Rattle.std.specs.List.{list_any}
use Rattle.std.specs.Option.{option_map, option_map_or}
use Rattle.std.specs.Map.{lookup}
use Rattle.std.specs.Cmp.{nat_eq_equiv, eq_by_cmp_equiv}
use Rattle.std.specs.Cmp.Lexicographic.{nat_list_cmp_total}
use Rattle.std.specs.FinMap.{get, insert, remove, get-insert, get-remove}
use Rattle.std.proofs.lemmas.Bool.Decides.{nat_tests}
use Rattle.lru.specs.LruCache.{put_entries}
use Rattle.lru.proofs.CallerLemmas.{lookup-put_entries}
use Rattle.raft_machine.specs.declared.stored.Stored.{Stored}
use Rattle.raft_machine.specs.declared.command.Command.{Command}
use Rattle.raft_machine.specs.declared.command.Command.TheVariants.{Read, Set, SetMany, CompareAndSet, Append, Increment, Delete, Take, Expire, Persist}
use Rattle.raft_machine.specs.declared.command.Query.TheVariants.{Get}
use Rattle.raft_machine.specs.declared.command.Reply.TheVariants.{Bulk}
use Rattle.raft_machine.specs.declared.command.Reply.{Reply}
use Rattle.raft_machine.specs.declared.command.Failure.{Failure}
use Rattle.raft_machine.specs.declared.machine.Request.{Request}
use Rattle.raft_machine.specs.declared.machine.Session.{Session}
use Rattle.raft_machine.specs.declared.machine.Outcome.{Outcome}
use Rattle.raft_machine.specs.declared.machine.Outcome.TheVariants as outcome
use Rattle.raft_machine.specs.declared.machine.Answered.{Answered}
use Rattle.raft_machine.specs.Space.{Space, advanced, lives, deadline_of, put, without}
use Rattle.raft_machine.specs.Commands.{answer, bulk, expires_at, flag, run, set, set_all, compare_and_set, append, increment, counted, sum_of, number_of, value_of, delete, take, expire, expiring, persist, plainly, stored, run_all}
use Rattle.raft_machine.specs.Machine.{State, apply, ran, known, remembered}
use Rattle.raft_machine.specs.Laws.{names}
use Rattle.raft_machine.proofs.Spaces.{same}

-- ---- a repeat

applied : (st : State) (r : Request) (s : Session) → r.session ≡ Some s → apply st r ≡ option_map_or (λ o. (st, o)) (known s.number (lookup (nat_eq s.id) st.sessions.entries)) (ran st r)
unfolding apply
applied st r s e = rw e refl

same_number : (n : ℕ) (last : Answered) → last.number ≡ n → known n (Some last) ≡ Some (outcome.Answered last.replies)
same_number n last e = let t : eqb n last.number ≡ true = grind (arith, nat_tests) in rw t refl

found_again : (st : State) (r : Request) (s : Session) → r.session ≡ Some s → known s.number (lookup (nat_eq s.id) (ran st r).0.sessions.entries) ≡ Some (ran st r).1
found_again st r s er =
    let replies = (run_all (advanced st.space r.moment) r.commands).1 in
    let last : Answered = record { number = s.number; replies = replies } in
    let entries : (ran st r).0.sessions.entries ≡ put_entries nat_eq st.sessions s.id last = ap (λ o. (remembered st.sessions o replies).entries) er in
    ap (λ es. known s.number (lookup (nat_eq s.id) es)) entries ∙ ap (known s.number) (lookup-put_entries nat_eq st.sessions s.id last nat_eq_equiv) ∙ same_number s.number last refl

ran_again : (st : State) (r q : Request) (s : Session) → r.session ≡ Some s → q.session ≡ Some s → apply (ran st r).0 q ≡ ran st r
ran_again st r q s er eq = applied (ran st r).0 q s eq ∙ ap (λ o. option_map_or (λ o. ((ran st r).0, o)) o (ran (ran st r).0 q)) (found_again st r s er)

pub repeats : (st : State) (r q : Request) (s : Session) → r.session ≡ Some s → q.session ≡ Some s → apply (apply st r).0 q ≡ apply st r
repeats st r q s er eq =
    elim (known s.number (lookup (nat_eq s.id) st.sessions.entries)) as (λ o. known s.number (lookup (nat_eq s.id) st.sessions.entries) ≡ o → apply (apply st r).0 q ≡ apply st r) [
      | None ↦ λ h. ap (λ (x : State × Outcome). apply x.0 q) (applied st r s er ∙ ap (λ o. option_map_or (λ o. (st, o)) o (ran st r)) h) ∙ ran_again st r q s er eq ∙ sym (applied st r s er ∙ ap (λ o. option_map_or (λ o. (st, o)) o (ran st r)) h)
      | Some out ↦ λ h.
          let once : apply st r ≡ (st, out) = applied st r s er ∙ ap (λ o. option_map_or (λ o. (st, o)) o (ran st r)) h in
          let twice : apply st q ≡ (st, out) = applied st q s eq ∙ ap (λ o. option_map_or (λ o. (st, o)) o (ran st q)) h in
          ap (λ (x : State × Outcome). apply x.0 q) once ∙ twice ∙ sym once
    ] refl

-- ---- a read of what was set

same_itself : (k : List ℕ) → same k k ≡ true
same_itself k = (eq_by_cmp_equiv nat_list_cmp_total).refl k

pub read_set : (s : Space) (k v : List ℕ) → answer (set s k v plainly).0 (Get k) ≡ Bulk v
unfolding answer set
read_set s k v = ap (λ o. bulk (option_map (λ (t : Stored). t.bytes) o)) (get-insert nat_list_cmp_total s.map k (stored v None) k ∙ ap (λ b. cond b (Some (stored v None)) (get s.map k)) (same_itself k))

-- ---- other keys

put_other : (s : Space) (k : List ℕ) (v : Stored) (q : List ℕ) → same q k ≡ false → get (put s k v).map q ≡ get s.map q
put_other s k v q e =
    elim (lives s.moment v.expires) as (λ b. get (cond b (insert s.map k v) (remove s.map k)) q ≡ get s.map q) [
      | true ↦ get-insert nat_list_cmp_total s.map k v q ∙ ap (λ b. cond b (Some v) (get s.map q)) e
      | false ↦ get-remove nat_list_cmp_total s.map k q ∙ ap (λ b. cond b None (get s.map q)) e
    ]

without_other : (s : Space) (k q : List ℕ) → same q k ≡ false → get (without s k).map q ≡ get s.map q
without_other s k q e = get-remove nat_list_cmp_total s.map k q ∙ ap (λ b. cond b None (get s.map q)) e

if_put_other : (b : Bool) (s : Space) (k : List ℕ) (v : Stored) (q : List ℕ) → same q k ≡ false → get (cond b (put s k v) s).map q ≡ get s.map q
if_put_other true s k v q e = put_other s k v q e
if_put_other false s k v q e = refl

first : (a b : Bool) → (a || b) ≡ false → a ≡ false
first true b h = h
first false b h = refl

rest : (a b : Bool) → (a || b) ≡ false → b ≡ false
rest true b h = absurd cc
rest false b h = h

set_all_other : (s : Space) (ps : List (List ℕ × List ℕ)) (q : List ℕ) → list_any (same q) (map (λ p. p.0) ps) ≡ false → get (set_all s ps).map q ≡ get s.map q
set_all_other s [] q h = refl
set_all_other s (p ∷ ps) q h = set_all_other (put s p.0 (stored p.1 None)) ps q (rest (same q p.0) _ h) ∙ put_other s p.0 (stored p.1 None) q (first (same q p.0) _ h)

delete_other : (s : Space) (ks : List (List ℕ)) (q : List ℕ) → list_any (same q) ks ≡ false → get (delete s ks).0.map q ≡ get s.map q
delete_other s [] q h = refl
delete_other s (k ∷ ks) q h = delete_other (without s k) ks q (rest (same q k) _ h) ∙ without_other s k q (first (same q k) _ h)

counted_other : (s : Space) (k : List ℕ) (r : Result ℤ Failure) (q : List ℕ) → same q k ≡ false → get (counted s k r).0.map q ≡ get s.map q
counted_other s k (Ok n) q e = put_other s k _ q e
counted_other s k (Err f) q e = refl

expiring_other : (s : Space) (k : List ℕ) (expires : Option ℕ) (o : Option (List ℕ)) (q : List ℕ) → same q k ≡ false → get (expiring s k expires o).0.map q ≡ get s.map q
expiring_other s k expires None q e = refl
expiring_other s k expires (Some bytes) q e = put_other s k _ q e

append_other : (b : Bool) (s : Space) (x y : Reply) (k : List ℕ) (v : Stored) (q : List ℕ) → same q k ≡ false → get (cond {A = Space × Reply} b (s, x) (put s k v, y)).0.map q ≡ get s.map q
append_other true s x y k v q e = refl
append_other false s x y k v q e = put_other s k v q e

if_expiring_other : (b : Bool) (s : Space) (x : Reply) (k : List ℕ) (expires : Option ℕ) (o : Option (List ℕ)) (q : List ℕ) → same q k ≡ false
    → get (cond {A = Space × Reply} b (expiring s k expires o) (s, x)).0.map q ≡ get s.map q
if_expiring_other true s x k expires o q e = expiring_other s k expires o q e
if_expiring_other false s x k expires o q e = refl

pub others_stay : (s : Space) (c : Command) (k : List ℕ) → names c k ≡ false → get (run s c).0.map k ≡ get s.map k
unfolding run set compare_and_set append increment take expire persist
others_stay s (Read query) q h = refl
others_stay s (Set k v options) q h = if_put_other _ s k (stored v (expires_at options.expiry (deadline_of s.map k))) q (first (same q k) false h)
others_stay s (SetMany pairs) q h = set_all_other s pairs q h
others_stay s (CompareAndSet k expected v) q h = if_put_other _ s k (stored v None) q (first (same q k) false h)
others_stay s (Append k more) q h = append_other _ s _ _ k (stored (unwrap_or (value_of s.map k) [] ++ more) (deadline_of s.map k)) q (first (same q k) false h)
others_stay s (Increment k by) q h = counted_other s k (sum_of (number_of (value_of s.map k)) by) q (first (same q k) false h)
others_stay s (Delete ks) q h = delete_other s ks q h
others_stay s (Take k) q h = without_other s k q (first (same q k) false h)
others_stay s (Expire k t condition) q h = if_expiring_other _ s (flag false) k (Some t) (value_of s.map k) q (first (same q k) false h)
others_stay s (Persist k) q h = if_expiring_other _ s (flag false) k None (value_of s.map k) q (first (same q k) false h)
