-- What a leader may commit depends on its rows' ids and matching ids alone, so a purge and a send leave it.
use Rattle.std.specs.Prelude.{◌≡◌, ℕ, zero, suc, Bool, true, false, ◌&&◌, List, [], ◌∷◌, Option, None, Some, IfSome, map, filter, fold, take, refl}
use Rattle.std.proofs.Common.{ap, sym, cond, ◌∙◌}
use Rattle.std.specs.Ordering.{is_ge}
use Rattle.std.specs.declared.cmp.Ordering.{Ordering}
use Rattle.raft_state.specs.declared.ids.LeaderId.{LeaderId}
use Rattle.raft_state.specs.declared.ids.LogId.{LogId}
use Rattle.raft_state.specs.Order.{last_id_cmp}
use Rattle.raft_progress_entry.specs.declared.entry.ProgressEntry.{ProgressEntry}
use Rattle.raft_progress_entry.specs.Entry.{next_send, sent}
use Rattle.raft_proposer.specs.raft_progress.Quorum.{is_quorum}
use Rattle.raft_proposer.specs.raft_progress.Table.{get, holders, is_row_of, measures, row_of, with_value}
use Rattle.raft_command.specs.Queue.{queued}
use Rattle.raft_command.specs.declared.config.EngineConfig.{EngineConfig}
use Rattle.raft_steps.specs.Laws.{CommitsLatest, committable, is_of, later}
use Rattle.raft_steps.specs.Parts.{Led, under}
use Rattle.raft_steps.specs.Replies.{on_entry, send_next}
use Rattle.raft_steps.specs.ReplicationHandler.{send_commands, with_entry}
use Rattle.raft_steps.proofs.Replied.{sent_matching}

module _ {ID V P : Type 0} (measure : V → P) where
  -- the first rows' values, and their holders, by the measures
  values_of : (n : ℕ) (rows : List (ID × V)) → map (λ row. measure row.1) (take n rows) ≡ map (λ r. r.1) (take n (measures measure rows))
  values_of zero rows = refl
  values_of (suc n) [] = refl
  values_of (suc n) (row ∷ rows) = ap (λ xs. measure row.1 ∷ xs) (values_of n rows)

  holders_of : (cmp : P → P → Ordering) (p : P) (n : ℕ) (rows : List (ID × V)) → holders cmp measure (take n rows) p ≡ holders cmp (λ q. q) (take n (measures measure rows)) p
  holders_of cmp p zero rows = refl
  holders_of cmp p (suc n) [] = refl
  holders_of cmp p (suc n) (row ∷ rows) = go (is_ge (cmp (measure row.1) p)) (holders_of cmp p n rows) where
    Chosen : List (ID × V)
    Chosen = filter (λ row. is_ge (cmp (measure row.1) p)) (take n rows)

    Measured : List (ID × P)
    Measured = filter (λ row. is_ge (cmp row.1 p)) (take n (measures measure rows))

    go : (b : Bool) → map (λ row. row.0) Chosen ≡ map (λ row. row.0) Measured
        → map (λ row. row.0) (cond b (row ∷ Chosen) Chosen) ≡ map (λ row. row.0) (cond b ((row.0, measure row.1) ∷ Measured) Measured)
    go true e = ap (λ xs. row.0 ∷ xs) e
    go false e = e

module _ {ID V P : Type 0} (cmp : ID → ID → Ordering) (measure : V → P) where
  -- an id's value twice replaced by ones of one measure
  twice : (id : ID) (v w : V) → measure v ≡ measure w → (rows : List (ID × V)) → measures measure (map (with_value cmp id v) (map (with_value cmp id w) rows)) ≡ measures measure (map (with_value cmp id w) rows)
  twice id v w h [] = refl
  twice id v w h (row ∷ rows) = go (is_row_of cmp id row) refl (twice id v w h rows) where
    go : (b : Bool) → is_row_of cmp id row ≡ b → measures measure (map (with_value cmp id v) (map (with_value cmp id w) rows)) ≡ measures measure (map (with_value cmp id w) rows)
        → measures measure (with_value cmp id v (with_value cmp id w row) ∷ map (with_value cmp id v) (map (with_value cmp id w) rows)) ≡ measures measure (with_value cmp id w row ∷ map (with_value cmp id w) rows)
    go true e r = rw e (rw e (λ i. (row.0, h i) ∷ r i))
    go false e r = rw e (rw e (λ i. (row.0, measure row.1) ∷ r i))

  -- the id's value then is the last one, where it has a row
  found : (id : ID) (w : V) (rows : List (ID × V)) → IfSome (row_of cmp id (map (with_value cmp id w) rows)) (λ e. e ≡ w)
  found id w [] = tt
  found id w (row ∷ rows) = go (is_row_of cmp id row) refl (found id w rows) where
    go : (b : Bool) → is_row_of cmp id row ≡ b → IfSome (row_of cmp id (map (with_value cmp id w) rows)) (λ e. e ≡ w) → IfSome (row_of cmp id (map (with_value cmp id w) (row ∷ rows))) (λ e. e ≡ w)
    go true e r = rw e (rw e refl)
    go false e r = rw e (rw e r)

matching_of : {NID : Type 0} → ProgressEntry NID → Option (LogId NID)
matching_of e = e.matching

module _ {NID : Type 0} (cmp : NID → NID → Ordering) where
  -- the rows of an id match alike: another entry of its row's matching leaves all that matches
  pub AreAlike : NID → List (NID × ProgressEntry NID) → Type 0
  AreAlike id rows = IfSome (row_of cmp id rows) (λ e. (v : ProgressEntry NID) → v.matching ≡ e.matching → measures matching_of (map (with_value cmp id v) rows) ≡ measures matching_of rows)

  -- so they do once the id's entry is replaced
  replaced_alike : (id : NID) (w : ProgressEntry NID) (rows : List (NID × ProgressEntry NID)) → AreAlike id (map (with_value cmp id w) rows)
  unfolding AreAlike matching_of
  replaced_alike id w rows = go (row_of cmp id (map (with_value cmp id w) rows)) (found cmp matching_of id w rows) where
    go : (o : Option (ProgressEntry NID)) → IfSome o (λ e. e ≡ w)
        → IfSome o (λ e. (v : ProgressEntry NID) → v.matching ≡ e.matching → measures matching_of (map (with_value cmp id v) (map (with_value cmp id w) rows)) ≡ measures matching_of (map (with_value cmp id w) rows))
    go None q = tt
    go (Some e) q = λ v h. twice cmp matching_of id v w (h ∙ ap matching_of q) rows

  -- what may be committed, by what matches in the rows
  by_measures : LeaderId NID → List (List NID) → ℕ → List (NID × Option (LogId NID)) → List (Option (LogId NID))
  by_measures leader set n rows = filter (λ x. is_of cmp leader x && is_quorum cmp set (holders (last_id_cmp cmp) (λ q. q) (take n rows) x)) (map (λ r. r.1) (take n rows))

module _ {C NID N E D R S : Type 0} (cmp : NID → NID → Ordering) where
  pub noted_alike : (target : NID) (f : ProgressEntry NID → ProgressEntry NID) (l : Led C NID N E D R S) → AreAlike cmp target (on_entry cmp target f l).leader.progress.rows
  unfolding AreAlike
  noted_alike target f l = go (get cmp l.leader.progress target) refl where
    go : (o : Option (ProgressEntry NID)) → get cmp l.leader.progress target ≡ o
        → (let n = (elim o as (λ _. Led C NID N E D R S) [ None ↦ l | Some e ↦ with_entry cmp l target (f e) ]) in AreAlike cmp target n.leader.progress.rows)
    go None q = rw q tt
    go (Some e) q = replaced_alike cmp target (f e) l.leader.progress.rows

  committable_is : (l : Led C NID N E D R S)
      → committable cmp l ≡ by_measures cmp l.core.state.vote.leader_id l.leader.progress.set l.leader.progress.voters (measures matching_of l.leader.progress.rows)
  unfolding by_measures matching_of
  committable_is l = λ i.
      filter (λ x. is_of cmp l.core.state.vote.leader_id x && is_quorum cmp l.leader.progress.set (holders_of matching_of (last_id_cmp cmp) x l.leader.progress.voters l.leader.progress.rows i))
      (values_of matching_of l.leader.progress.voters l.leader.progress.rows i)

  -- the same leader under the same vote may commit the same
  pub same_commits : (before : Option (LogId NID)) (l n : Led C NID N E D R S) → n.leader ≡ l.leader → n.core.state.committed ≡ l.core.state.committed → n.core.state.vote ≡ l.core.state.vote
      → CommitsLatest cmp before l → CommitsLatest cmp before n
  unfolding by_measures
  same_commits before l n e f g h =
      let same : committable cmp l ≡ committable cmp n =
      committable_is l ∙ (λ i. by_measures cmp (sym g i).leader_id (sym e i).progress.set (sym e i).progress.voters (measures matching_of (sym e i).progress.rows)) ∙ sym (committable_is n) in
      f ∙ h ∙ ap (fold (later cmp) before) same

  -- a send leaves what matches, and so what may be committed
  pub send_commits : (config : EngineConfig NID) (before : Option (LogId NID)) (target : NID) (l : Led C NID N E D R S) → AreAlike cmp target l.leader.progress.rows
      → CommitsLatest cmp before l → CommitsLatest cmp before (send_next cmp config target l)
  unfolding send_next AreAlike
  send_commits config before target l alike h = go (get cmp l.leader.progress target) alike where
    go : (o : Option (ProgressEntry NID))
        → IfSome o (λ e. (v : ProgressEntry NID) → v.matching ≡ e.matching → measures matching_of (map (with_value cmp target v) l.leader.progress.rows) ≡ measures matching_of l.leader.progress.rows)
        → CommitsLatest cmp before (elim o [
          | None ↦ l
          | Some e ↦
              let r = next_send l.core.state config.max_payload_entries e in
              under (λ c. record c { output = queued c.output (send_commands false target r) }) (with_entry cmp l target (sent e r))
        ])
    go None k = h
    go (Some e) k =
        let w = sent e (next_send l.core.state config.max_payload_entries e) in
        let n = with_entry cmp l target w in
        h ∙ ap (fold (later cmp) before) (committable_is l ∙ ap (by_measures cmp l.core.state.vote.leader_id l.leader.progress.set l.leader.progress.voters) (sym (k w (sent_matching e (next_send l.core.state config.max_payload_entries e)))) ∙ sym (committable_is n))
