-- Records keep the longest log of each leader, and so all its shorter ones.
use Rattle.std.proofs.Common.{ℕ, ◌≤◌, ◌≡◌, ◌⊎◌, ⊎_elim, inl, inr, Bool, true, false, List, [], ◌∷◌, ◌++◌, Result, Ok, Err, length, take, drop, arith, refl, sym, ap, ap₂, ◌∙◌, subst}
use Rattle.std.specs.Prelude.{OnErr, OnOk, if◌then◌else◌}
use Rattle.std.specs.List.{AllByRecursion}
use Rattle.std.proofs.lemmas.Bool.{cases_lt}
use Rattle.std.proofs.lemmas.Cmp.{nat_cmp_total, tied_itself}
use Rattle.std.proofs.lemmas.List.{append-nil, drop_all, length-append, map_push, take-append-drop, take-append-le, take_all}
use Rattle.std.proofs.lemmas.List.Elements.{Contains-append_left, Contains-push}
use Rattle.raft_state.specs.declared.ids.LeaderId.{LeaderId}
use Rattle.raft_state.specs.declared.ids.LogId.{LogId}
use Rattle.raft_store.specs.declared.entry.Entry.{Entry}
use Rattle.raft_store.specs.LeaderLogs.{Adds, is_leader, log_of}
use Rattle.raft_store.proofs.Logged.{leader-is}
use Rattle.raft_node.specs.declared.record.Decided.{Decided}
use Rattle.raft_node.specs.declared.record.Established.{Established}
use Rattle.raft_node.specs.Kept.{AreKept, decided_by_leader, decided_in, established_by_leader, established_in, kept_in, log_in}
use Rattle.raft_node.specs.Net.{Records}
use Rattle.raft_node.specs.Safety.{IsRecordOf, RecordsGrow}

abbrev Logs : Type 0
Logs = List (LeaderId ℕ × List Entry)

own_leader : (d : LeaderId ℕ) → is_leader d d ≡ true
own_leader d = rw (tied_itself nat_cmp_total d.term, tied_itself nat_cmp_total d.node_id) refl

-- what holds of each of a list, and of one more
one_more : {X : Type 0} (P : X → Type 0) (xs : List X) (x : X) → AllByRecursion P xs → P x → AllByRecursion P (xs ++ x ∷ [])
one_more P [] x h p = (p, tt)
one_more P (y ∷ xs) x h p = (h.0, one_more P xs x h.1 p)

-- each log of one list of logs begins with that of another
abbrev Begin : Logs → Logs → Type 0
Begin old new = (d : LeaderId ℕ) → (more : List Entry) × (log_of new d ≡ log_of old d ++ more)

adds_begin : (d : LeaderId ℕ) (more : List Entry) (old new : Logs) → Adds d more old new → Begin old new
adds_begin d more old new h e = go (is_leader d e) (h e)
  where
    go : (b : Bool) → log_of new e ≡ (if b then log_of old e ++ more else log_of old e) → (more : List Entry) × (log_of new e ≡ log_of old e ++ more)
    go true k = (more, k)
    go false k = ([], k ∙ sym (append-nil (log_of old e)))

module _ (old new : Logs) (h : (d : LeaderId ℕ) → (more : List Entry) × (log_of new d ≡ log_of old d ++ more)) where
  log_same : (d : LeaderId ℕ) (n : ℕ) → n ≤ length (log_of old d) → log_in new d n ≡ log_in old d n
  log_same d n l = ap (take n) (h d).1 ∙ take-append-le n (log_of old d) (h d).0 l

  log_longer : (d : LeaderId ℕ) (n : ℕ) → n ≤ length (log_of old d) → n ≤ length (log_of new d)
  log_longer d n l = omega (arith, l, ap (λ es. length es) (h d).1, length-append (log_of old d) (h d).0)

  decided_same : (rs : List (Decided ℕ)) → AllByRecursion (λ r. r.log ≤ length (log_of old r.leader_id)) rs → decided_in new rs ≡ decided_in old rs
  decided_same [] k = refl
  decided_same (r ∷ rs) k =
      ap₂ (λ (es : List Entry) (xs : List (Decided (List Entry))). record { leader_id = r.leader_id; log_id = r.log_id; log = es } ∷ xs) (log_same r.leader_id r.log k.0) (decided_same rs k.1)

  established_same : (rs : List (Established ℕ)) → AllByRecursion (λ r. r.log ≤ length (log_of old r.leader_id)) rs → established_in new rs ≡ established_in old rs
  established_same [] k = refl
  established_same (r ∷ rs) k =
      ap₂ (λ (es : List Entry) (xs : List (Established (List Entry))). record { leader_id = r.leader_id; log = es } ∷ xs) (log_same r.leader_id r.log k.0) (established_same rs k.1)

  decided_longer : (rs : List (Decided ℕ)) → AllByRecursion (λ r. r.log ≤ length (log_of old r.leader_id)) rs → AllByRecursion (λ r. r.log ≤ length (log_of new r.leader_id)) rs
  decided_longer [] k = tt
  decided_longer (r ∷ rs) k = (log_longer r.leader_id r.log k.0, decided_longer rs k.1)

  established_longer : (rs : List (Established ℕ)) → AllByRecursion (λ r. r.log ≤ length (log_of old r.leader_id)) rs → AllByRecursion (λ r. r.log ≤ length (log_of new r.leader_id)) rs
  established_longer [] k = tt
  established_longer (r ∷ rs) k = (log_longer r.leader_id r.log k.0, established_longer rs k.1)

-- nothing is added
module _ (d : LeaderId ℕ) (old new : Logs) (h : Adds d [] old new) (decided : List (Decided ℕ)) (established : List (Established ℕ)) (k : AreKept old decided established) where
  nothing_new : (e : LeaderId ℕ) → log_of new e ≡ log_of old e
  nothing_new e = go (is_leader d e) (h e)
    where
      go : (b : Bool) → log_of new e ≡ (if b then log_of old e ++ [] else log_of old e) → log_of new e ≡ log_of old e
      go true q = q ∙ append-nil (log_of old e)
      go false q = q

  pub kept_unchanged : AreKept new decided established
  kept_unchanged =
      let b : Begin old new = adds_begin d [] old new h in
      record {
        decided_within = decided_longer old new b decided k.decided_within;
        established_within = established_longer old new b established k.established_within;
        recorded =
            λ e.
            ⊎_elim (λ q. inl (nothing_new e ∙ q))
            (λ q. inr
            (subst (λ es. IsRecordOf (kept_in new decided established) e es) (sym (nothing_new e))
            (subst (λ (r : Records (List Entry)). IsRecordOf r e (log_of old e))
            (sym (ap₂ (λ (ds : List (Decided (List Entry))) (ls : List (Established (List Entry))). record { bag = []; executed = []; installed = []; decided = ds; established = ls; answers = [] })
            (decided_same old new b decided k.decided_within) (established_same old new b established k.established_within)))
            q)))
            (k.recorded e);
      }

-- a leader's log gets what it lacks of a new record, which grows with the others
module _ (d : LeaderId ℕ) (es : List Entry) (old new : Logs) (h : Adds d (drop (length (log_of old d)) es) old new)
    (before after : Records (List Entry)) (recorded : (e : LeaderId ℕ) → (log_of old e ≡ []) ⊎ IsRecordOf before e (log_of old e))
    (still : (e : LeaderId ℕ) (xs : List Entry) → IsRecordOf before e xs → IsRecordOf after e xs) (own : IsRecordOf after d es) (grow : RecordsGrow after) where
  added_to : log_of new d ≡ log_of old d ++ drop (length (log_of old d)) es
  added_to = subst (λ b. log_of new d ≡ (if b then log_of old d ++ drop (length (log_of old d)) es else log_of old d)) (own_leader d) (h d)

  -- the leader's log is the new record, or a longer one
  longest : (log_of new d ≡ es) ⊎ ((log_of new d ≡ log_of old d) × (take (length es) (log_of old d) ≡ es) × (length es ≤ length (log_of old d)) × IsRecordOf after d (log_of old d))
  longest =
      ⊎_elim
      (λ q. inl (added_to ∙ ap (λ xs. xs ++ drop (length xs) es) q))
      (λ q.
      let r : IsRecordOf after d (log_of old d) = still d (log_of old d) q in
      ⊎_elim
      (λ l. inl
      (added_to ∙ (ap (λ xs. xs ++ drop (length (log_of old d)) es) (sym (grow d (log_of old d) es r own (omega (arith, l)))) ∙ take-append-drop (length (log_of old d)) es)))
      (λ l. inr
      (added_to ∙ (ap (λ xs. log_of old d ++ xs) (drop_all (length (log_of old d)) es l) ∙ append-nil (log_of old d)), grow d es (log_of old d) own r l, l, r))
      (cases_lt (length (log_of old d)) (length es)))
      (recorded d)

  pub new_log : take (length es) (log_of new d) ≡ es
  new_log =
      ⊎_elim (λ q. ap (take (length es)) q ∙ take_all (length es) es (omega arith)) (λ q. ap (take (length es)) q.0 ∙ q.1) longest

  pub new_within : length es ≤ length (log_of new d)
  new_within =
      ⊎_elim (λ q. omega (arith, ap (λ xs. length xs) q)) (λ q. omega (arith, ap (λ xs. length xs) q.0, q.2)) longest

  pub all_recorded : (e : LeaderId ℕ) → (log_of new e ≡ []) ⊎ IsRecordOf after e (log_of new e)
  all_recorded e = go (is_leader d e) refl (h e)
    where
      here : (log_of new d ≡ []) ⊎ IsRecordOf after d (log_of new d)
      here =
          ⊎_elim (λ q. inr (subst (IsRecordOf after d) (sym q) own)) (λ q. inr (subst (IsRecordOf after d) (sym q.0) q.3)) longest

      go : (b : Bool) → is_leader d e ≡ b → log_of new e ≡ (if b then log_of old e ++ drop (length (log_of old d)) es else log_of old e)
          → (log_of new e ≡ []) ⊎ IsRecordOf after e (log_of new e)
      go true same q = subst (λ e. (log_of new e ≡ []) ⊎ IsRecordOf after e (log_of new e)) (leader-is d e same) here
      go false same q =
          ⊎_elim (λ p. inl (q ∙ p)) (λ p. inr (subst (IsRecordOf after e) (sym q) (still e (log_of old e) p))) (recorded e)

-- one more commit is decided
module _ (d : LeaderId ℕ) (x : LogId ℕ) (es : List Entry) (old new : Logs) (h : Adds d (drop (length (log_of old d)) es) old new) (decided : List (Decided ℕ)) (established : List (Established ℕ))
    (k : AreKept old decided established)
    (grow : RecordsGrow (record (kept_in old decided established) { decided = decided_in old decided ++ record { leader_id = d; log_id = x; log = es } ∷ [] })) where
  still_decided : (e : LeaderId ℕ) (xs : List Entry) → IsRecordOf (kept_in old decided established) e xs
      → IsRecordOf (record (kept_in old decided established) { decided = decided_in old decided ++ record { leader_id = d; log_id = x; log = es } ∷ [] }) e xs
  still_decided e xs (inl (l, c, p, q)) = inl (l, c, p, q)
  still_decided e xs (inr (r, c, p, q)) = inr (r, Contains-append_left (decided_in old decided) (record { leader_id = d; log_id = x; log = es } ∷ []) r c, p, q)

  now_decided : IsRecordOf (record (kept_in old decided established) { decided = decided_in old decided ++ record { leader_id = d; log_id = x; log = es } ∷ [] }) d es
  now_decided = inr (record { leader_id = d; log_id = x; log = es }, Contains-push (decided_in old decided) (record { leader_id = d; log_id = x; log = es }), refl, refl)

  begins_decided : (e : LeaderId ℕ) → (more : List Entry) × (log_of new e ≡ log_of old e ++ more)
  begins_decided = adds_begin d (drop (length (log_of old d)) es) old new h

  pub decided_more : decided_in new (decided ++ record { leader_id = d; log_id = x; log = length es } ∷ []) ≡ decided_in old decided ++ record { leader_id = d; log_id = x; log = es } ∷ []
  decided_more =
      map_push (decided_by_leader (log_in new)) decided (record { leader_id = d; log_id = x; log = length es })
      ∙ ap₂ (λ (rs : List (Decided (List Entry))) (xs : List Entry). rs ++ record { leader_id = d; log_id = x; log = xs } ∷ []) (decided_same old new begins_decided decided k.decided_within)
      (new_log d es old new h (kept_in old decided established) (record (kept_in old decided established) { decided = decided_in old decided ++ record { leader_id = d; log_id = x; log = es } ∷ [] }) k.recorded still_decided now_decided grow)

  pub established_stay : established_in new established ≡ established_in old established
  established_stay = established_same old new begins_decided established k.established_within

  pub kept_decided : AreKept new (decided ++ record { leader_id = d; log_id = x; log = length es } ∷ []) established
  kept_decided = record {
    decided_within =
        one_more (λ (r : Decided ℕ). r.log ≤ length (log_of new r.leader_id)) decided (record { leader_id = d; log_id = x; log = length es })
        (decided_longer old new begins_decided decided k.decided_within)
        (new_within d es old new h (kept_in old decided established) (record (kept_in old decided established) { decided = decided_in old decided ++ record { leader_id = d; log_id = x; log = es } ∷ [] }) k.recorded still_decided now_decided grow);
    established_within = established_longer old new begins_decided established k.established_within;
    recorded =
        subst (λ (r : Records (List Entry)). (e : LeaderId ℕ) → (log_of new e ≡ []) ⊎ IsRecordOf r e (log_of new e))
        (sym (ap₂ (λ (ds : List (Decided (List Entry))) (ls : List (Established (List Entry))). record { bag = []; executed = []; installed = []; decided = ds; established = ls; answers = [] }) decided_more established_stay))
        (all_recorded d es old new h (kept_in old decided established) (record (kept_in old decided established) { decided = decided_in old decided ++ record { leader_id = d; log_id = x; log = es } ∷ [] }) k.recorded still_decided now_decided grow);
  }

-- one more leader is established
module _ (d : LeaderId ℕ) (es : List Entry) (old new : Logs) (h : Adds d (drop (length (log_of old d)) es) old new) (decided : List (Decided ℕ)) (established : List (Established ℕ))
    (k : AreKept old decided established)
    (grow : RecordsGrow (record (kept_in old decided established) { established = established_in old established ++ record { leader_id = d; log = es } ∷ [] })) where
  still_established : (e : LeaderId ℕ) (xs : List Entry) → IsRecordOf (kept_in old decided established) e xs
      → IsRecordOf (record (kept_in old decided established) { established = established_in old established ++ record { leader_id = d; log = es } ∷ [] }) e xs
  still_established e xs (inl (l, c, p, q)) = inl (l, Contains-append_left (established_in old established) (record { leader_id = d; log = es } ∷ []) l c, p, q)
  still_established e xs (inr (r, c, p, q)) = inr (r, c, p, q)

  now_established : IsRecordOf (record (kept_in old decided established) { established = established_in old established ++ record { leader_id = d; log = es } ∷ [] }) d es
  now_established = inl (record { leader_id = d; log = es }, Contains-push (established_in old established) (record { leader_id = d; log = es }), refl, refl)

  begins_established : (e : LeaderId ℕ) → (more : List Entry) × (log_of new e ≡ log_of old e ++ more)
  begins_established = adds_begin d (drop (length (log_of old d)) es) old new h

  pub established_more : established_in new (established ++ record { leader_id = d; log = length es } ∷ []) ≡ established_in old established ++ record { leader_id = d; log = es } ∷ []
  established_more =
      map_push (established_by_leader (log_in new)) established (record { leader_id = d; log = length es })
      ∙ ap₂ (λ (rs : List (Established (List Entry))) (xs : List Entry). rs ++ record { leader_id = d; log = xs } ∷ []) (established_same old new begins_established established k.established_within)
      (new_log d es old new h (kept_in old decided established) (record (kept_in old decided established) { established = established_in old established ++ record { leader_id = d; log = es } ∷ [] }) k.recorded still_established now_established grow)

  pub decided_stay : decided_in new decided ≡ decided_in old decided
  decided_stay = decided_same old new begins_established decided k.decided_within

  pub kept_established : AreKept new decided (established ++ record { leader_id = d; log = length es } ∷ [])
  kept_established = record {
    decided_within = decided_longer old new begins_established decided k.decided_within;
    established_within =
        one_more (λ (r : Established ℕ). r.log ≤ length (log_of new r.leader_id)) established (record { leader_id = d; log = length es })
        (established_longer old new begins_established established k.established_within)
        (new_within d es old new h (kept_in old decided established) (record (kept_in old decided established) { established = established_in old established ++ record { leader_id = d; log = es } ∷ [] }) k.recorded still_established now_established grow);
    recorded =
        subst (λ (r : Records (List Entry)). (e : LeaderId ℕ) → (log_of new e ≡ []) ⊎ IsRecordOf r e (log_of new e))
        (sym (ap₂ (λ (ds : List (Decided (List Entry))) (ls : List (Established (List Entry))). record { bag = []; executed = []; installed = []; decided = ds; established = ls; answers = [] }) decided_stay established_more))
        (all_recorded d es old new h (kept_in old decided established) (record (kept_in old decided established) { established = established_in old established ++ record { leader_id = d; log = es } ∷ [] }) k.recorded still_established now_established grow);
  }

-- a commit is decided, or the memory for it was wanting
module _ (d : LeaderId ℕ) (x : LogId ℕ) (es all : List Entry) (n : ℕ) (len : n ≡ length es) (is : take n all ≡ es) (old new : Logs) (decided now : List (Decided ℕ)) (established : List (Established ℕ))
    (k : AreKept old decided established)
    (grow : RecordsGrow (record (kept_in old decided established) { decided = decided_in old decided ++ record { leader_id = d; log_id = x; log = es } ∷ [] })) where
  pub decide_kept : {X : Type 0} (r : Result (Unit {0}) X) → OnOk r (now ≡ decided ++ record { leader_id = d; log_id = x; log = n } ∷ []) → OnOk r (Adds d (drop (length (log_of old d)) (take n all)) old new)
      → OnErr r (now ≡ decided) → OnErr r (Adds d [] old new) → AreKept new now established
  decide_kept (Ok u) pushed added kept same =
      subst (λ (rs : List (Decided ℕ)). AreKept new rs established) (sym (pushed ∙ ap (λ (m : ℕ). decided ++ record { leader_id = d; log_id = x; log = m } ∷ []) len))
      (kept_decided d x es old new (subst (λ (xs : List Entry). Adds d (drop (length (log_of old d)) xs) old new) is added) decided established k grow)
  decide_kept (Err e) pushed added kept same = subst (λ (rs : List (Decided ℕ)). AreKept new rs established) (sym kept) (kept_unchanged d old new same decided established k)

  pub decide_view : {X : Type 0} (r : Result (Unit {0}) X) (rest : Records (List Entry)) → OnOk r (now ≡ decided ++ record { leader_id = d; log_id = x; log = n } ∷ [])
      → OnOk r (Adds d (drop (length (log_of old d)) (take n all)) old new)
      → OnOk r (◌≡◌ {A = Records (List Entry)} (record rest { decided = decided_in new now; established = established_in new established })
      (record rest { decided = decided_in old decided ++ record { leader_id = d; log_id = x; log = es } ∷ []; established = established_in old established }))
  decide_view (Ok u) rest pushed added =
      let h : Adds d (drop (length (log_of old d)) es) old new = subst (λ (xs : List Entry). Adds d (drop (length (log_of old d)) xs) old new) is added in
      ap₂ (λ (ds : List (Decided (List Entry))) (ls : List (Established (List Entry))). record rest { decided = ds; established = ls })
      (ap (decided_in new) (pushed ∙ ap (λ (m : ℕ). decided ++ record { leader_id = d; log_id = x; log = m } ∷ []) len) ∙ decided_more d x es old new h decided established k grow)
      (established_stay d x es old new h decided established k grow)
  decide_view (Err e) rest pushed added = tt

-- a leader is established, or the memory for it was wanting
module _ (d : LeaderId ℕ) (es all : List Entry) (n : ℕ) (len : n ≡ length es) (is : take n all ≡ es) (old new : Logs) (decided : List (Decided ℕ)) (established now : List (Established ℕ))
    (k : AreKept old decided established)
    (grow : RecordsGrow (record (kept_in old decided established) { established = established_in old established ++ record { leader_id = d; log = es } ∷ [] })) where
  pub establish_kept : {X : Type 0} (r : Result (Unit {0}) X) → OnOk r (now ≡ established ++ record { leader_id = d; log = n } ∷ []) → OnOk r (Adds d (drop (length (log_of old d)) (take n all)) old new)
      → OnErr r (now ≡ established) → OnErr r (Adds d [] old new) → AreKept new decided now
  establish_kept (Ok u) pushed added kept same =
      subst (λ (rs : List (Established ℕ)). AreKept new decided rs) (sym (pushed ∙ ap (λ (m : ℕ). established ++ record { leader_id = d; log = m } ∷ []) len))
      (kept_established d es old new (subst (λ (xs : List Entry). Adds d (drop (length (log_of old d)) xs) old new) is added) decided established k grow)
  establish_kept (Err e) pushed added kept same = subst (λ (rs : List (Established ℕ)). AreKept new decided rs) (sym kept) (kept_unchanged d old new same decided established k)

  pub establish_view : {X : Type 0} (r : Result (Unit {0}) X) (rest : Records (List Entry)) → OnOk r (now ≡ established ++ record { leader_id = d; log = n } ∷ [])
      → OnOk r (Adds d (drop (length (log_of old d)) (take n all)) old new)
      → OnOk r (◌≡◌ {A = Records (List Entry)} (record rest { decided = decided_in new decided; established = established_in new now })
      (record rest { decided = decided_in old decided; established = established_in old established ++ record { leader_id = d; log = es } ∷ [] }))
  establish_view (Ok u) rest pushed added =
      let h : Adds d (drop (length (log_of old d)) es) old new = subst (λ (xs : List Entry). Adds d (drop (length (log_of old d)) xs) old new) is added in
      ap₂ (λ (ds : List (Decided (List Entry))) (ls : List (Established (List Entry))). record rest { decided = ds; established = ls })
      (decided_stay d es old new h decided established k grow)
      (ap (established_in new) (pushed ∙ ap (λ (m : ℕ). established ++ record { leader_id = d; log = m } ∷ []) len) ∙ established_more d es old new h decided established k grow)
  establish_view (Err e) rest pushed added = tt
