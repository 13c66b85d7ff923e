-- A leader refuses no answer to entries that it has sent from its log as it is.
use Rattle.std.proofs.Common.{ℕ, ◌+◌, ◌<◌, ◌≤◌, ◌≡◌, ◌⊎◌, inl, inr, ⊎_elim, Bool, true, false, not, [], ◌∷◌, arith, refl, sym, ap, ◌∙◌, subst, Option, None, Some, Result, Ok, Err}
use Rattle.std.specs.Prelude.{◌&&◌, ◌==◌, if◌then◌else◌, nat_le, nat_lt}
use Rattle.std.specs.Option.{option_or}
use Rattle.std.specs.Cmp.{tied_itself}
use Rattle.std.specs.Ordering.{is_eq, is_le, nat_cmp}
use Rattle.std.proofs.lemmas.Bool.Decides.{nat_tests}
use Rattle.std.proofs.lemmas.Cmp.{nat_cmp_total}
use Rattle.proof_deeds.specs.raft_state.declared.ids.LogId.{LogId}
use Rattle.proof_deeds.specs.raft_state.Fits.{fits, is_below, is_within}
use Rattle.proof_deeds.specs.raft_state.Log.{at, last}
use Rattle.proof_deeds.specs.raft_state.Invariants.{first_index}
use Rattle.proof_deeds.specs.raft_state.Order.{last_id_cmp, next}
use Rattle.proof_deeds.specs.raft_state.Same.{found_is, nat_same}
use Rattle.proof_deeds.specs.raft_state.State.{is_found}
use Rattle.proof_deeds.proofs.raft_state_proofs.LogLists.{at_has, has_lt}
use Rattle.proof_deeds.proofs.raft_state_proofs.Orders.{and_both, last_total, le_refl, lt_is_le, nat_lt_is, or_cases, or_left, within_next, within_of, within_refl}
use Rattle.proof_deeds.proofs.raft_state_proofs.StateLaws.{is_found_at}
use Rattle.proof_deeds.specs.raft_progress_entry.declared.entry.Inflight.{Inflight}
use Rattle.proof_deeds.specs.raft_progress_entry.declared.entry.Inflight.TheVariants as inflight
use Rattle.proof_deeds.specs.raft_progress_entry.declared.entry.LogIdRange.{LogIdRange}
use Rattle.proof_deeds.specs.raft_progress_entry.declared.entry.ProgressEntry.{ProgressEntry}
use Rattle.proof_deeds.specs.raft_error.declared.error.EngineError.{EngineError}
use Rattle.proof_deeds.specs.raft_error.declared.error.EngineError.TheVariants.{CounterEnd, ForeignInflight, LogReverted, OutsideInflight, Spent, UnknownTarget}
use Rattle.proof_deeds.specs.raft_progress_entry.Entry.{acknowledges, before, begins_at, carries, is_my_id, next_send, send_end, send_start, sent}
use Rattle.proof_deeds.specs.raft_error.Number.{first_refusal}
use Rattle.proof_deeds.specs.raft_progress.Table.{get}
use Rattle.proof_deeds.specs.raft_command.declared.config.EngineConfig.{EngineConfig}
use Rattle.proof_deeds.specs.raft_command.declared.replication.ReplicationResult.{ReplicationResult}
use Rattle.proof_deeds.specs.raft_command.declared.replication.RequestId.TheVariants as request
use Rattle.proof_deeds.specs.raft_steps.Invariants.{EntryFits, IsSoundLed, inflight_from}
use Rattle.proof_deeds.specs.raft_steps.Refusals.{is_counter_end_among}
use Rattle.proof_deeds.specs.raft_steps.ReplyRefusals.{refusals_of_acknowledged, refusals_of_progress, refusals_of_result}
use Rattle.proof_deeds.specs.raft_calls.Feeds.{WorldLed}
use Rattle.proof_progress.proofs.Carried.{IsRange, before_at, range_sent}
use Rattle.proof_progress.proofs.Nearing.{IsSent, IsServed, past_purge, serves}
use Rattle.proof_progress.proofs.Rounds.{fits_of, sent_matching}

pub sent_search : (e : ProgressEntry ℕ) (r : Result (Inflight ℕ) (Inflight ℕ)) → (sent e r).searching_end ≡ e.searching_end
sent_search e (Ok f) = refl
sent_search e (Err f) = refl

abbrev prev_in : Option (LogId ℕ) → Inflight ℕ → Option (LogId ℕ)
prev_in d inflight.None = d
prev_in d (inflight.Logs number range) = range.prev
prev_in d (inflight.Snapshot number end) = d

abbrev last_in : Option (LogId ℕ) → Inflight ℕ → Option (LogId ℕ)
last_in d inflight.None = d
last_in d (inflight.Logs number range) = range.last
last_in d (inflight.Snapshot number end) = d

module _ (config : EngineConfig ℕ) (l : WorldLed) (k : IsSoundLed nat_cmp config l) (payload : 1 ≤ config.max_payload_entries) (unpurged : next l.core.state.purge_to < next (last l.core.state.ids)) (t : ℕ)
    (was : ProgressEntry ℕ) (free : was.inflight ≡ inflight.None) (has : get nat_cmp l.leader.progress t ≡ Some (sent was (next_send l.core.state config.max_payload_entries was))) where
  abbrev asked : ProgressEntry ℕ
  asked = sent was (next_send l.core.state config.max_payload_entries was)

  fits_asked : EntryFits nat_cmp l.core.state.ids l.core.state.purged (sent was (next_send l.core.state config.max_payload_entries was))
  fits_asked = fits_of nat_cmp nat_cmp_total nat_same config t l k asked has

  pub fits_was : EntryFits nat_cmp l.core.state.ids l.core.state.purged was
  fits_was =
      let m : asked.matching ≡ was.matching = sent_matching was (next_send l.core.state config.max_payload_entries was) in
      let e : asked.searching_end ≡ was.searching_end = sent_search was (next_send l.core.state config.max_payload_entries was) in
      record {
        matching = subst (λ x. fits nat_cmp l.core.state.ids l.core.state.purged x ≡ true) m fits_asked.matching;
        above = subst (λ x. next x ≤ was.searching_end) m (subst (λ i. next asked.matching ≤ i) e fits_asked.above);
        below = subst (λ i. i ≤ next (last l.core.state.ids)) e fits_asked.below;
        ahead = subst (λ f. is_le (last_id_cmp nat_cmp was.matching (inflight_from f was.matching)) ≡ true) (sym free) (le_refl (last_total nat_cmp nat_cmp_total) was.matching);
      }

  served : IsServed (last l.core.state.ids) (sent was (next_send l.core.state config.max_payload_entries was))
  served = serves nat_cmp nat_cmp_total nat_same l.core.state k.sound config.max_payload_entries payload unpurged was fits_was free

  module _ (number : ℕ) (range : LogIdRange ℕ) (is : (sent was (next_send l.core.state config.max_payload_entries was)).inflight ≡ inflight.Logs number range) where
    is_sent : IsServed (last l.core.state.ids) (sent was (next_send l.core.state config.max_payload_entries was)) → IsSent (next (last l.core.state.ids)) (sent was (next_send l.core.state config.max_payload_entries was))
    is_sent (inl (inl i)) = i
    is_sent (inl (inr i)) = let q : inflight.Snapshot i.number i.upto ≡ inflight.Logs number range = sym i.is ∙ is in cc
    is_sent (inr d) = let q : inflight.None ≡ inflight.Logs number range = sym d.free ∙ is in cc

    pub i : IsSent (next (last l.core.state.ids)) (sent was (next_send l.core.state config.max_payload_entries was))
    i = is_sent served

    prev_is : range.prev ≡ i.prev
    prev_is = ap (prev_in None) (sym is ∙ i.is)

    last_is : range.last ≡ i.upto
    last_is = ap (last_in None) (sym is ∙ i.is)

    ranged : (range.prev ≡ before l.core.state.ids (send_start l.core.state was)) × (range.last ≡ before l.core.state.ids (send_end l.core.state config.max_payload_entries (send_start l.core.state was)))
    ranged = subst (IsRange l.core.state config.max_payload_entries was free) is (range_sent l.core.state config.max_payload_entries was free)

    -- it isn't empty, and lies in the log
    pub some : next range.prev < next range.last
    some = subst (λ o. next range.prev < next o) (sym last_is) (subst (λ o. next o < next i.upto) (sym prev_is) i.some)

    pub within : next range.last ≤ next (last l.core.state.ids)
    within = subst (λ o. next o ≤ next (last l.core.state.ids)) (sym last_is) i.within

    pub past : next l.core.state.purge_to ≤ next range.prev
    past = past_purge nat_cmp nat_cmp_total nat_same l.core.state k.sound config.max_payload_entries payload unpurged was fits_was free number range is

    pub purged_low : next l.core.state.purged ≤ next range.prev
    purged_low = let p : next l.core.state.purged ≤ next l.core.state.purge_to = within_next nat_cmp nat_cmp_total l.core.state.purged l.core.state.purge_to k.sound.marks.at_purged in let q : next l.core.state.purge_to ≤ next range.prev = past in omega (arith, p, q)

    pub low : next was.matching ≤ next range.prev
    low =
        let m : next asked.matching ≡ next was.matching = ap next (sent_matching was (next_send l.core.state config.max_payload_entries was)) in
        let z : next range.prev ≡ next i.prev = ap next prev_is in
        omega (arith, m, z, i.low)

    module _ (other : is_eq (nat_cmp config.id t) ≡ false) (spent : l.core.output.spent ≡ false) (far : is_counter_end_among l.core l.leader.progress.rows ≡ false) where
      unrefused : (result : Result (ReplicationResult ℕ) (Unit {0})) → refusals_of_result nat_cmp {T = Unit {0}} l.core.state (sent was (next_send l.core.state config.max_payload_entries was)) (request.AppendEntries number) result ≡ None
          → refusals_of_progress nat_cmp config {T = Unit {0}} t (request.AppendEntries number) result l ≡ None
      unrefused result more = go l.core.output.spent (is_counter_end_among l.core l.leader.progress.rows) (is_eq (nat_cmp config.id t)) spent far other (get nat_cmp l.leader.progress t) has
        where
          go : (a b c : Bool) → a ≡ false → b ≡ false → c ≡ false → (o : Option (ProgressEntry ℕ)) → o ≡ Some (sent was (next_send l.core.state config.max_payload_entries was))
              → ◌≡◌ {A = Option (EngineError ℕ (Unit {0}))} (option_or (first_refusal ((a, Spent) ∷ (b, CounterEnd) ∷ [])) (if c then Some UnknownTarget else elim o [ None ↦ Some UnknownTarget | Some e ↦ refusals_of_result nat_cmp {T = Unit {0}} l.core.state e (request.AppendEntries number) result ])) None
          go a b c p q r None z = cc
          go a b c p q r (Some e) z =
              let y : sent was (next_send l.core.state config.max_payload_entries was) ≡ e = cc in
              rw (p, q, r) (subst (λ e. refusals_of_result nat_cmp {T = Unit {0}} l.core.state e (request.AppendEntries number) result ≡ None) y more)

      is_carried : carries (sent was (next_send l.core.state config.max_payload_entries was)) number ≡ true
      is_carried = subst (λ f. is_my_id f number ≡ true) (sym is) (ap is_eq (tied_itself nat_cmp_total number))

      -- a match
      ends : (x : LogId ℕ) → range.last ≡ Some x → at l.core.state.ids x.index ≡ Some x
      ends x q = before_at l.core.state.ids (send_end l.core.state config.max_payload_entries (send_start l.core.state was)) x (sym q ∙ ranged.1)

      begins : (p : LogId ℕ) → range.prev ≡ Some p → at l.core.state.ids p.index ≡ Some p
      begins p q = before_at l.core.state.ids (send_start l.core.state was) p (sym q ∙ ranged.0)

      rises : (x : LogId ℕ) → range.last ≡ Some x → is_le (last_id_cmp nat_cmp range.prev (Some x)) ≡ true
      rises x q = go range.prev refl
        where
          go : (o : Option (LogId ℕ)) → range.prev ≡ o → is_le (last_id_cmp nat_cmp o (Some x)) ≡ true
          go None z = refl
          go (Some p) z =
              let u : next range.prev ≡ p.index + 1 = ap next z in
              let w : next range.last ≡ x.index + 1 = ap next q in
              let s : next range.prev < next range.last = some in
              lt_is_le _
              (has_lt nat_cmp nat_cmp_total p x None (first_index l.core.state.purged) l.core.state.ids k.sound.log.run k.sound.log.rising (at_has p.index p l.core.state.ids (begins p z)) (at_has x.index x l.core.state.ids (ends x q)) (omega (arith, u, w, s)))

      pub match_unrefused : (time : ℕ) (x : Option (LogId ℕ)) → x ≡ range.last → refusals_of_progress nat_cmp config {T = Unit {0}} t (request.AppendEntries number) (Ok (record { sending_time = time; result = Ok x })) l ≡ None
      match_unrefused time x q = unrefused (Ok (record { sending_time = time; result = Ok x })) (go x refl)
        where
          tests : (a b c : Bool) → a ≡ true → b ≡ true → c ≡ true
              → ◌≡◌ {A = Option (EngineError ℕ (Unit {0}))} (option_or (first_refusal ((not a, ForeignInflight) ∷ (not b, OutsideInflight) ∷ [])) (first_refusal ((not c, OutsideInflight) ∷ []))) None
          tests a b c p q r = rw (p, q, r) refl

          go : (o : Option (LogId ℕ)) → x ≡ o → refusals_of_acknowledged nat_cmp l.core.state (sent was (next_send l.core.state config.max_payload_entries was)) number o ≡ None
          go None z = absurd (let s : next range.prev < next range.last = some in let e : next range.last ≡ 0 = ap next (sym q ∙ z) in omega (arith, s, e))
          go (Some y) z =
              let e : range.last ≡ Some y = sym q ∙ z in
              let le : is_le (last_id_cmp nat_cmp range.prev (Some y)) ≡ true = rises y e in
              let s : next range.prev < next range.last = some in
              let w : next range.last ≡ next (Some y) = ap next e in
              tests (carries asked number) (acknowledges nat_cmp asked.inflight (Some y)) (fits nat_cmp l.core.state.ids l.core.state.purged (Some y)) is_carried
              (subst (λ f. acknowledges nat_cmp f (Some y) ≡ true) (sym is)
              (both (is_within nat_cmp range.prev (Some y)) (is_within nat_cmp (Some y) range.last) (within_of nat_cmp nat_cmp_total range.prev (Some y) le (omega (arith, s, w)))
              (subst (λ o. is_within nat_cmp (Some y) o ≡ true) (sym e) (within_refl nat_cmp nat_cmp_total (Some y)))))
              (or_left (is_found nat_cmp (at l.core.state.ids y.index) y) _ (is_found_at nat_cmp nat_cmp_total nat_same l.core.state.ids y (at l.core.state.ids y.index) (ends y e)))
            where
              both : (a b : Bool) → a ≡ true → b ≡ true → (a && b) ≡ true
              both a b p q = rw (p, q) refl

      -- a conflict above what is known to match
      pub conflict_unrefused : (time : ℕ) (x : LogId ℕ) → range.prev ≡ Some x → next was.matching ≤ x.index → refusals_of_progress nat_cmp config {T = Unit {0}} t (request.AppendEntries number) (Ok (record { sending_time = time; result = Err x })) l ≡ None
      conflict_unrefused time x q above =
          unrefused (Ok (record { sending_time = time; result = Err x }))
          (tests (carries asked number) (begins_at asked.inflight x.index) (nat_lt x.index (next asked.matching)) is_carried (subst (λ f. begins_at f x.index ≡ true) (sym is) (same (next range.prev) x.index (ap next q)))
          (below x.index (next asked.matching) (let m : next asked.matching ≡ next was.matching = ap next (sent_matching was (next_send l.core.state config.max_payload_entries was)) in omega (arith, above, m))))
        where
          tests : (a b c : Bool) → a ≡ true → b ≡ true → c ≡ false → ◌≡◌ {A = Option (EngineError ℕ (Unit {0}))} (first_refusal ((not a, ForeignInflight) ∷ (not b, OutsideInflight) ∷ (c, LogReverted) ∷ [])) None
          tests a b c p q r = rw (p, q, r) refl

          same : (a c : ℕ) → a ≡ c + 1 → (a == c + 1) ≡ true
          same a c e = grind (arith, nat_tests)

          below : (c m : ℕ) → m ≤ c → nat_lt c m ≡ false
          below c m l = grind (arith, nat_tests)

      -- the id before the entries is known to match, or lies above what is
      pub known_or_above : (x : LogId ℕ) → range.prev ≡ Some x → (was.matching ≡ Some x) ⊎ (next was.matching ≤ x.index)
      known_or_above x q = go was.matching refl
        where
          up : next range.prev ≡ x.index + 1
          up = ap next q

          go : (o : Option (LogId ℕ)) → was.matching ≡ o → (o ≡ Some x) ⊎ (next o ≤ x.index)
          go None z = inr (omega arith)
          go (Some m) z = by (nat_le (m.index + 1) x.index) refl
            where
              at_most : next (Some m) ≤ next range.prev
              at_most = subst (λ o. next o ≤ next range.prev) z low

              same : (a b : ℕ) → nat_le (a + 1) b ≡ false → a + 1 ≤ b + 1 → a ≡ b
              same a b e l = grind (arith, nat_tests)

              less : (a b : ℕ) → nat_le (a + 1) b ≡ true → a + 1 ≤ b
              less a b e = grind (arith, nat_tests)

              by : (b : Bool) → nat_le (m.index + 1) x.index ≡ b → (Some m ≡ Some x) ⊎ (next (Some m) ≤ x.index)
              by true e = inr (less m.index x.index e)
              by false e =
                  let z2 : m.index + 1 ≤ x.index + 1 = (let u : next range.prev ≡ x.index + 1 = up in let a : next (Some m) ≤ next range.prev = at_most in omega (arith, a, u)) in
                  let i2 : m.index ≡ x.index = same m.index x.index e z2 in
                  ⊎_elim
                  (λ (g : is_found nat_cmp (at l.core.state.ids m.index) m ≡ true).
                  inl (sym (found_is nat_cmp nat_same (at l.core.state.ids m.index) m g) ∙ (ap (at l.core.state.ids) i2 ∙ begins x q)))
                  (λ (g : is_below nat_cmp (Some m) l.core.state.purged ≡ true).
                  let a : next (Some m) < next l.core.state.purged = nat_lt_is _ _ (and_both _ (nat_lt (next (Some m)) (next l.core.state.purged)) g).1 in
                  let b : next l.core.state.purged ≤ next range.prev = purged_low in
                  let u : next range.prev ≡ x.index + 1 = up in
                  absurd (omega (arith, a, b, u, i2)))
                  (or_cases _ (is_below nat_cmp (Some m) l.core.state.purged) (subst (λ o. fits nat_cmp l.core.state.ids l.core.state.purged o ≡ true) z fits_was.matching))
