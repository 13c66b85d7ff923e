-- A leader between two steps of a call, and what it sends to all.
use Rattle.std.proofs.Common.{ℕ, ◌≡◌, ◌≢◌, Bool, true, false, not, List, [], ◌∷◌, ◌++◌, map, arith, refl, sym, ap, ◌∙◌, subst, Result, Ok, Err, None, Some}
use Rattle.std.specs.Prelude.{IfSome, flat_map}
use Rattle.std.specs.List.{AllByRecursion}
use Rattle.std.specs.Ordering.{is_eq, nat_cmp}
use Rattle.std.proofs.lemmas.Bool.{cond_both}
use Rattle.std.proofs.lemmas.Bool.Decides.{nat_tests}
use Rattle.std.proofs.lemmas.Cmp.{nat_cmp_total}
use Rattle.raft_node.specs.raft_state.Same.{nat_same}
use Rattle.raft_node.proofs.raft_state_proofs.LogLists.{each_append}
use Rattle.raft_node.proofs.raft_state_proofs.Orders.{is_equal}
use Rattle.raft_node.specs.raft_progress_entry.declared.entry.Inflight.{Inflight}
use Rattle.raft_node.specs.raft_progress_entry.declared.entry.Inflight.TheVariants as inflight
use Rattle.raft_node.specs.raft_progress_entry.declared.entry.ProgressEntry.{ProgressEntry}
use Rattle.raft_node.specs.raft_progress_entry.Entry.{next_send, sent}
use Rattle.raft_node.specs.raft_command.declared.command.Command.TheVariants as command
use Rattle.raft_node.specs.raft_command.declared.config.EngineConfig.{EngineConfig}
use Rattle.raft_node.specs.raft_steps.Invariants.{IsSoundLed}
use Rattle.raft_node.specs.raft_steps.Parts.{led_of, leading}
use Rattle.raft_node.specs.raft_steps.ReplicationHandler.{is_other, sent_row, send_commands, sends_of, initiate_replication}
use Rattle.raft_node.proofs.raft_steps_proofs.KeptLead.{each_image}
use Rattle.proof_agreement.specs.LeaderNumbers.{leader_node}
use Rattle.proof_agreement.specs.Machine.{Setup}
use Rattle.proof_agreement.specs.Deeds.{Streams}
use Rattle.raft_node.specs.raft_store.declared.config.WorldConfig.{WorldConfig}
use Rattle.raft_node.specs.raft_store.declared.entry.Entry.{Entry}
use Rattle.raft_node.specs.raft_store.Entries.{entry_meaning}
use Rattle.raft_node.specs.raft_store.Types.{WorldStore, WorldCommand, WorldMachine, WorldLeader}
use Rattle.proof_mirror.specs.Ready.{Ordered, Ready, HasWhatIsSent, InStep, SearchFits, PendingLed}
use Rattle.proof_mirror.proofs.Orders.{ordered_exec}
use Rattle.proof_mirror.proofs.Sends.{IsThere, next_there}
use Rattle.proof_mirror.proofs.Shape.{shaped_of}
use Rattle.proof_mirror.proofs.Queued.{fits_of}
use Rattle.raft_node.specs.declared.node.Turn.{Turn}
use Rattle.raft_node.specs.raft_calls.Feeds.{WorldLed}
use Rattle.proof_deeds.specs.Chains.{Does, Reached, stored, left_by, Done, Carried}
use Rattle.proof_deeds.specs.Follows.{StoreIs}
use Rattle.proof_deeds.specs.Images.{Ideal, number}
use Rattle.proof_deeds.specs.Knows.{Alone, CarriedIn, Knows, KnowsAccepted, KnowsGrants, KnowsMatch, KnowsLed}
use Rattle.proof_deeds.proofs.Keeps.{Stable, stable_accepted, known_led}
use Rattle.proof_deeds.proofs.Numbers.{number_node}
use Rattle.proof_deeds.proofs.Overlap.{laps}
use Rattle.proof_deeds.proofs.Pushes.{carry, push_idle}
use Rattle.proof_deeds.proofs.Roles.{WorldState}
use Rattle.proof_deeds.proofs.SendPushes.{Sends, done_send}
use Rattle.proof_deeds.proofs.Tails.{tail_vote, tail_vote_committed, tail_named, tail_reaches}
use Rattle.proof_deeds.proofs.Worlds.{Within, does_then, done_does}

apart : (a b : ℕ) → not (is_eq (nat_cmp a b)) ≡ true → a ≢ b
apart a b e q = grind (arith, nat_tests)

-- a store in order is so once ready commands are done
pub ordered_end : (u : WorldStore) (cs : List WorldCommand) → Ready nat_cmp entry_meaning (λ es. es) u cs → Ordered nat_cmp entry_meaning u → Ordered nat_cmp entry_meaning (left_by u cs)
ordered_end u [] h o = o
ordered_end u (c ∷ cs) h o = ordered_end (stored c u) cs h.2 (ordered_exec nat_cmp nat_cmp_total nat_same entry_meaning (λ es. es) u c h.0 o (fits_of nat_cmp entry_meaning (λ es. es) u cs c h.1))

module _ (s : Setup Entry) (t : Turn) where
  -- what a leader's engine knows
  abbrev pub KnowsIn : WorldLed → Ideal → Type 0
  KnowsIn l V = KnowsAccepted s t.id l.core.state V × KnowsLed s t.id l.core.state l.leader V

  pub stable_led : (l : WorldLed) → Stable s t.id (KnowsIn l)
  stable_led l W V came e h = (stable_accepted s t.id l.core.state W V came e h.0, known_led s t.id W V came l.core.state l.leader (ap (λ S. S.vote) e) (ap (λ S. S.session) e) h.1)

  abbrev pub CarriedLed : WorldStore → Ideal → WorldLed → Type 0
  CarriedLed u W l = Carried s t l.core.state.vote.leader_id u W l.core.output.items (KnowsIn l)

  -- a leader's vote is committed and the node's own
  pub record Owns (l : WorldLed) : Type 0 where
    pub committed : l.leader.vote.committed ≡ true
    pub own : l.leader.vote.leader_id.node_id ≡ t.id

  pub owns_of : (config : EngineConfig ℕ) (l : WorldLed) → config.id ≡ t.id → IsSoundLed nat_cmp config l → Owns l
  owns_of config l i h = record { committed = h.leader_fits.committed; own = nat_same l.leader.vote.leader_id.node_id config.id (is_equal _ h.leader_fits.own) ∙ i }

  -- a command to send to another node what is there
  abbrev pub IsSend : WorldStore → WorldCommand → Type 0
  IsSend T (command.Replicate target f) = (target ≢ t.id) × HasWhatIsSent entry_meaning T f
  IsSend T _ = ⊥

  pub sends_there : (T : WorldStore) (force : Bool) (target : ℕ) (r : Result (Inflight ℕ) (Inflight ℕ)) → target ≢ t.id → IsThere entry_meaning T r → AllByRecursion (IsSend T) (send_commands {C = WorldConfig} {N = Unit {0}} {E = Entry} {D = ℕ} {R = ℕ} {S = List Entry} force target r)
  sends_there T force target (Ok f) o h = ((o, h), tt)
  sends_there T true target (Err inflight.None) o h = ((o, tt), tt)
  sends_there T false target (Err inflight.None) o h = tt
  sends_there T force target (Err (inflight.Logs _ _)) o h = tt
  sends_there T force target (Err (inflight.Snapshot _ _)) o h = tt

  module _ (config : EngineConfig ℕ) (own : config.id ≡ t.id) where
    pub other_apart : (row : ℕ × ProgressEntry ℕ) → is_other nat_cmp config row ≡ true → row.0 ≢ t.id
    other_apart row e q = apart config.id row.0 e (own ∙ sym q)

    sends_row : (T : WorldStore) (force : Bool) (st : WorldState) (row : ℕ × ProgressEntry ℕ) → InStep entry_meaning T st → SearchFits st.ids row.1 → AllByRecursion (IsSend T) (sends_of {C = WorldConfig} {E = Entry} {D = ℕ} {R = ℕ} {S = List Entry} nat_cmp config force st row)
    sends_row T force st row j f =
        cond_both (is_other nat_cmp config row) (send_commands force row.0 (next_send st config.max_payload_entries row.1)) [] (AllByRecursion (IsSend T))
        (λ e. sends_there T force row.0 (next_send st config.max_payload_entries row.1) (other_apart row e) (next_there entry_meaning T st config.max_payload_entries row.1 j f)) (λ _. tt)

    sends_rows : (T : WorldStore) (force : Bool) (st : WorldState) (rows : List (ℕ × ProgressEntry ℕ)) → InStep entry_meaning T st → AllByRecursion (λ row. SearchFits st.ids row.1) rows
        → AllByRecursion (IsSend T) (flat_map (sends_of {C = WorldConfig} {E = Entry} {D = ℕ} {R = ℕ} {S = List Entry} nat_cmp config force st) rows)
    sends_rows T force st [] j f = tt
    sends_rows T force st (row ∷ rows) j f = each_append (IsSend T) (sends_of nat_cmp config force st row) (flat_map (sends_of nat_cmp config force st) rows) (sends_row T force st row j f.0) (sends_rows T force st rows j f.1)

    -- what matches of a row stays when something is sent
    sent_match : (d : ℕ) (V : Ideal) (st : WorldState) (rows : List (ℕ × ProgressEntry ℕ)) → AllByRecursion (KnowsMatch t.id d V) rows → AllByRecursion (KnowsMatch t.id d V) (map (sent_row nat_cmp config st) rows)
    sent_match d V st rows h =
        each_image (KnowsMatch t.id d V) (KnowsMatch t.id d V) (sent_row nat_cmp config st)
        (λ row k. cond_both (is_other nat_cmp config row) (row.0, sent row.1 (next_send st config.max_payload_entries row.1)) row (KnowsMatch t.id d V) (λ _. by (next_send st config.max_payload_entries row.1) row k) (λ _. k))
        rows h
      where
        by : (r : Result (Inflight ℕ) (Inflight ℕ)) (row : ℕ × ProgressEntry ℕ) → KnowsMatch t.id d V row → KnowsMatch t.id d V (row.0, sent row.1 r)
        by (Ok f) row k = k
        by (Err f) row k = k

module _ (s : Setup Entry) (owned : s.owner ≡ leader_node) (t : Turn) where
  -- a leader leads in the ideal world, and has its streams
  pub tail_streams : (u : WorldStore) (V : Ideal) (l : WorldLed) → StoreIs s u (V.store t.id) → InStep entry_meaning u l.core.state → KnowsLed s t.id l.core.state l.leader V → Owns s t l → Streams s (V.store t.id) t.id
  tail_streams u V l h j k o =
      let st : WorldState = l.core.state in
      let a : s.owner (V.store t.id).vote ≡ leader_node (number l.core.state.vote.leader_id) = ap s.owner (tail_vote s u (V.store t.id) st h j) ∙ ap (λ f. f (number l.core.state.vote.leader_id)) owned in
      record {
        leads = record {
          own = a ∙ (number_node l.core.state.vote.leader_id (tail_named s u (V.store t.id) st h j) ∙ (ap (λ v. v.leader_id.node_id) (sym k.vote) ∙ o.own));
          vote_committed = tail_vote_committed s u (V.store t.id) st h j ∙ (ap (λ v. v.committed) (sym k.vote) ∙ o.committed);
        };
        session = k.session;
      }

  module _ (config : EngineConfig ℕ) (own : config.id ≡ t.id) (u : WorldStore) (W : Ideal) (reached : Reached s W) (ordered : Ordered nat_cmp entry_meaning u) where
    -- what it sends from
    pub tail_sends : (V : Ideal) (l : WorldLed) → Does s W V → PendingLed nat_cmp entry_meaning (λ es. es) u l → StoreIs s (left_by u l.core.output.items) (V.store t.id) → KnowsLed s t.id l.core.state l.leader V → Owns s t l → Sends s t l.core.state.vote.leader_id (left_by u l.core.output.items) V
    tail_sends V l d p h k o = record {
      store = h;
      shaped = shaped_of entry_meaning (left_by u l.core.output.items) l.core.state p.core.in_step;
      ordered = ordered_end u l.core.output.items p.core.ready ordered;
      laps = laps s V (does_then s _ W V reached d) t.id;
      reaches = tail_reaches s (left_by u l.core.output.items) (V.store t.id) l.core.state h p.core.in_step;
      streams = tail_streams (left_by u l.core.output.items) V l h p.core.in_step k o;
    }

    -- commands to send what is there
    pub carried_sends : (l : WorldLed) (ds : List WorldCommand) → PendingLed nat_cmp entry_meaning (λ es. es) u l → Owns s t l → AllByRecursion (IsSend s t (left_by u l.core.output.items)) ds → CarriedLed s t u W l
        → Carried s t l.core.state.vote.leader_id u W (l.core.output.items ++ ds) (KnowsIn s t l)
    carried_sends l ds p o a h = push_idle s t l.core.state.vote.leader_id u W l.core.output.items ds (IsSend s t (left_by u l.core.output.items)) (KnowsIn s t l) h a one where
      T : WorldStore
      T = left_by u l.core.output.items

      one : (c : WorldCommand) (V : Ideal) → IsSend s t (left_by u l.core.output.items) c → Does s W V → StoreIs s (left_by u l.core.output.items) (V.store t.id) → KnowsIn s t l V
          → (stored c (left_by u l.core.output.items) ≡ left_by u l.core.output.items) × ((X : Ideal) × Done s t l.core.state.vote.leader_id (left_by u l.core.output.items) c V X × KnowsIn s t l X)
      one (command.Replicate target f) V i d x k =
          let y : (X : Ideal) × Done s t l.core.state.vote.leader_id (left_by u l.core.output.items) (command.Replicate target f) V X × Within V X × (X.store ≡ V.store) =
          done_send s t l.core.state.vote.leader_id (left_by u l.core.output.items) target f V (tail_sends V l d p x k.1 o) i.0 i.1 in
          (refl, (y.0, y.1, stable_led s t l V y.0 (done_does s t l.core.state.vote.leader_id (left_by u l.core.output.items) (command.Replicate target f) V y.0 y.1) (ap (λ g. g t.id) y.3) k))
      one _ V i d x k = absurd i

    -- each other node is sent what comes next
    pub carried_initiate : (force : Bool) (l : WorldLed) → PendingLed nat_cmp entry_meaning (λ es. es) u l → Owns s t l → CarriedLed s t u W l → CarriedLed s t u W (initiate_replication nat_cmp config force l)
    unfolding initiate_replication
    carried_initiate force l p o h =
        let ds : List WorldCommand = flat_map (sends_of nat_cmp config force l.core.state) l.leader.progress.rows in
        carry s t l.core.state.vote.leader_id u W (l.core.output.items ++ flat_map (sends_of nat_cmp config force l.core.state) l.leader.progress.rows) (KnowsIn s t l) (KnowsIn s t (initiate_replication nat_cmp config force l))
        (carried_sends l (flat_map (sends_of nat_cmp config force l.core.state) l.leader.progress.rows) p o (sends_rows s t config own (left_by u l.core.output.items) force l.core.state l.leader.progress.rows p.core.in_step p.knows.rows) h)
        (λ V _ k. (k.0, record { vote = k.1.vote; session = k.1.session; rows = sent_match s t config own (number l.leader.vote.leader_id) V l.core.state l.leader.progress.rows k.1.rows; above = k.1.above }))

module _ (s : Setup Entry) (t : Turn) (u : WorldStore) (W : Ideal) where
  -- a machine without a candidate, by its leader
  pub machine_of_led : (m : WorldMachine) (l : WorldLed) → m.candidate ≡ None → CarriedLed s t u W l → CarriedIn s t u W (leading m l)
  machine_of_led m l none h =
      carry s t l.core.state.vote.leader_id u W l.core.output.items (KnowsIn s t l) (Knows s t.id (leading m l)) h
      (λ V _ k. record { state = k.0; leader = k.1; candidate = subst (λ c. IfSome c (λ c. KnowsGrants t.id c V)) (sym none) tt; alone = none })

  pub led_of_machine : (m : WorldMachine) (l : WorldLeader) → m.leader ≡ Some l → CarriedIn s t u W m → CarriedLed s t u W (led_of l m.core.state m.core.output)
  led_of_machine m l e h =
      carry s t m.core.state.vote.leader_id u W m.core.output.items (Knows s t.id m) (KnowsIn s t (led_of l m.core.state m.core.output)) h
      (λ V _ k. (k.state, subst (λ o. IfSome o (λ l. KnowsLed s t.id m.core.state l V)) e k.leader))

  -- beside a leader there is no candidate
  pub no_candidate : (m : WorldMachine) (l : WorldLeader) → m.leader ≡ Some l → CarriedIn s t u W m → m.candidate ≡ None
  no_candidate m l e h = subst (λ o. Alone o m.candidate) e h.knows.alone
