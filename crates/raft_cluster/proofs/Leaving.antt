-- What leaves a server, kind by kind.
use Rattle.std.proofs.Common.{ℕ, ◌≡◌, ◌∙◌, List, [], ◌∷◌, ◌++◌, None, Some, refl, sym, ap, subst, inl, inr}
use Rattle.std.specs.Prelude.{Option, map}
use Rattle.std.specs.List.{AllByRecursion, flat_map}
use Rattle.std.specs.Option.{option_map, option_to_list}
use Rattle.std.proofs.lemmas.Grind.{flat_map-append}
use Rattle.raft_answers.specs.declared.answer.Reply.{Reply}
use Rattle.raft_answers.specs.declared.request.Proposal.{Proposal}
use Rattle.raft_answers.specs.Answers.{settled_left, settled_replies}
use Rattle.raft_node.specs.declared.record.Executed.{Executed}
use Rattle.raft_store.specs.declared.entry.Entry.{Entry}
use Rattle.raft_codec.specs.Codec.{Codec}
use Rattle.proof_packed.specs.Nodes.{PackedInstalled, PackedMessage, PackedRecords}
use Rattle.proof_packed.specs.Stores.{Application}
use Rattle.proof_requests.specs.raft_packed_server.declared.batch.Written.{Written}
use Rattle.proof_requests.specs.raft_core.raft_peers.declared.frame.PartReply.{PartReply}
use Rattle.proof_requests.specs.raft_core.raft_peers.declared.frame.PreVote.{PreVote}
use Rattle.proof_requests.specs.raft_core.raft_peers.declared.frame.PreVoteReply.{PreVoteReply}
use Rattle.proof_requests.specs.raft_core.raft_peers.declared.output.Output.{Output}
use Rattle.proof_requests.specs.raft_core.raft_peers.declared.output.Output.TheVariants as outputs
use Rattle.proof_requests.specs.raft_core.Calls.{append, appended}
use Rattle.proof_requests.specs.raft_core.raft_peers.Frames.{answered, asked, granted}
use Rattle.proof_requests.specs.raft_core.Laws.{IsNotOk}
use Rattle.proof_requests.specs.raft_core.Outputs.{executed_outputs, install, reads_out, replies_out, said_outputs}
use Rattle.proof_requests.specs.raft_core.raft_peers.Sends.{Sends}
use Rattle.proof_requests.specs.raft_core.raft_peers.Parts.{AreParts, Outgoing}
use Rattle.proof_requests.proofs.raft_peers_proofs.Sending.{AreSends, messages_send}
use Rattle.proof_requests.specs.Frames.{frames_of as frames_in}
use Rattle.proof_requests.proofs.Sent.{frames_more, no_frames}
use Rattle.raft_cluster.specs.Outputs.{AreQuiet, IsQuiet, entry_in, executed_in, handed_in, installed_in, other_in, others_in, snapshot_in}
use Rattle.raft_cluster.proofs.Machines.{handed}

append_nil : {X : Type 0} (xs : List X) → xs ++ [] ≡ xs
append_nil [] = refl
append_nil (x ∷ xs) = ap (λ ys. x ∷ ys) (append_nil xs)

module _ {S : Type 0} (codec : Codec S) where
  all_more : (a b : List (Output S)) → AreQuiet codec a → AreQuiet codec b → AreQuiet codec (a ++ b)
  all_more [] b x y = y
  all_more (o ∷ a) b x y = (x.0, all_more a b x.1 y)

  -- nothing is executed or installed then
  pub quiet_executed : (out : List (Output S)) → AreQuiet codec out → executed_in out ≡ []
  quiet_executed [] q = refl
  quiet_executed (outputs.Send to bytes ∷ out) q = quiet_executed out q.1
  quiet_executed (outputs.Append bytes end next ∷ out) q = absurd q.0
  quiet_executed (outputs.Install p ∷ out) q = absurd q.0
  quiet_executed (outputs.Execute e ∷ out) q = absurd q.0
  quiet_executed (outputs.Reply r ∷ out) q = quiet_executed out q.1
  quiet_executed (outputs.Read r ∷ out) q = quiet_executed out q.1

  pub quiet_installed : (out : List (Output S)) → AreQuiet codec out → installed_in out ≡ []
  quiet_installed [] q = refl
  quiet_installed (outputs.Send to bytes ∷ out) q = quiet_installed out q.1
  quiet_installed (outputs.Append bytes end next ∷ out) q = absurd q.0
  quiet_installed (outputs.Install p ∷ out) q = absurd q.0
  quiet_installed (outputs.Execute e ∷ out) q = absurd q.0
  quiet_installed (outputs.Reply r ∷ out) q = quiet_installed out q.1
  quiet_installed (outputs.Read r ∷ out) q = quiet_installed out q.1

  quiet_asks : (asks : List PreVote) → AreQuiet codec (map asked asks)
  quiet_asks [] = tt
  quiet_asks (a ∷ asks) = (inl (inl refl), quiet_asks asks)

  pub quiet_replies : (rs : List Reply) → AllByRecursion IsNotOk rs → AreQuiet codec (replies_out rs)
  quiet_replies [] all = tt
  quiet_replies (r ∷ rs) all = (all.0, quiet_replies rs all.1)

  pub quiet_granted : (r : Option PreVoteReply) → AreQuiet codec (option_to_list (option_map granted r))
  quiet_granted None = tt
  quiet_granted (Some r) = (inl (inr (inl refl)), tt)

  quiet_reads : (rs : List Reply) → AreQuiet codec (reads_out rs)
  quiet_reads [] = tt
  quiet_reads (r ∷ rs) = (tt, quiet_reads rs)

  -- answers to requests, and to reads
  pub quiet_answers : (rs qs : List Reply) → AllByRecursion IsNotOk rs → AreQuiet codec (replies_out rs ++ reads_out qs)
  quiet_answers rs qs all = all_more (replies_out rs) (reads_out qs) (quiet_replies rs all) (quiet_reads qs)

  pub quiet_ticks : (asks : List PreVote) (rs qs : List Reply) → AllByRecursion IsNotOk rs → AreQuiet codec (map asked asks ++ (replies_out rs ++ reads_out qs))
  quiet_ticks asks rs qs all = all_more (map asked asks) (replies_out rs ++ reads_out qs) (quiet_asks asks) (quiet_answers rs qs all)

  -- the answer to a part
  pub quiet_part_reply : (r : PartReply) (out : List (Output S)) → AreQuiet codec out → AreQuiet codec (answered r ∷ out)
  quiet_part_reply r out q = (inl (inr (inr refl)), q)

  -- parts of a snapshot
  pub quiet_parts : (start : ℕ) (o : Outgoing) (out : List (Output S)) → AreParts codec start o out → AreQuiet codec out
  quiet_parts start o [] h = tt
  quiet_parts start o (x ∷ out) h = (
    subst (IsQuiet codec) (sym h.0.leaves) (inr (record { start = start; part = h.0.part; fits = h.0.fits; is = refl })),
    quiet_parts start o out h.1,
  )

module _ {S : Type 0} where
  frames_install : (xs : List (PackedInstalled S)) → frames_in (map install xs) ≡ []
  frames_install [] = refl
  frames_install (x ∷ xs) = frames_install xs

  executed_install : (xs : List (PackedInstalled S)) → executed_in (map install xs) ≡ []
  executed_install [] = refl
  executed_install (x ∷ xs) = executed_install xs

  installed_install : (xs : List (PackedInstalled S)) → installed_in (map install xs) ≡ map (λ x. x.snapshot) xs
  installed_install [] = refl
  installed_install (x ∷ xs) = ap (λ ys. x.snapshot ∷ ys) (installed_install xs)

-- outputs that have no state of the machine
module _ (S : Type 0) where
  others_replies : (rs : List Reply) → others_in {S = S} (replies_out rs) ≡ replies_out rs
  others_replies [] = refl
  others_replies (r ∷ rs) = ap (λ (out : List (Output S)). outputs.Reply r ∷ out) (others_replies rs)

  others_appended : (w : Option Written) → others_in {S = S} (appended w) ≡ []
  others_appended None = refl
  others_appended (Some w) = refl

  others_reads : (qs : List Reply) → others_in {S = S} (reads_out qs) ≡ reads_out qs
  others_reads [] = refl
  others_reads (r ∷ qs) = ap (λ (out : List (Output S)). outputs.Read r ∷ out) (others_reads qs)

  pub others_written : (rs qs : List Reply) (w : Option Written) → others_in {S = S} (replies_out rs ++ (reads_out qs ++ appended w)) ≡ replies_out rs ++ reads_out qs
  others_written rs qs w =
      flat_map-append (other_in {S = S}) (replies_out rs) (reads_out qs ++ appended w)
      ∙ (λ i. others_replies rs i
      ++ (flat_map-append (other_in {S = S}) (reads_out qs) (appended w) ∙ ((λ j. others_reads qs j ++ others_appended w j) ∙ append_nil (reads_out {S = S} qs))) i)

  pub handed_written : (rs qs : List Reply) (w : Option Written) → handed_in {S = S} (replies_out rs ++ (reads_out qs ++ appended w)) ≡ option_map handed w
  handed_written [] [] None = refl
  handed_written [] [] (Some w) = refl
  handed_written [] (q ∷ qs) w = handed_written [] qs w
  handed_written (r ∷ rs) qs w = handed_written rs qs w

  none_executed : (rs : List Reply) → executed_in {S = S} (replies_out rs) ≡ []
  none_executed [] = refl
  none_executed (r ∷ rs) = none_executed rs

  none_installed : (rs : List Reply) → installed_in {S = S} (replies_out rs) ≡ []
  none_installed [] = refl
  none_installed (r ∷ rs) = none_installed rs

  frames_reads : (qs : List Reply) → frames_in {S = S} (reads_out qs) ≡ []
  frames_reads [] = refl
  frames_reads (q ∷ qs) = frames_reads qs

  executed_reads : (qs : List Reply) → executed_in {S = S} (reads_out qs) ≡ []
  executed_reads [] = refl
  executed_reads (q ∷ qs) = executed_reads qs

  installed_reads : (qs : List Reply) → installed_in {S = S} (reads_out qs) ≡ []
  installed_reads [] = refl
  installed_reads (q ∷ qs) = installed_reads qs

  frames_executed : (es : List Entry) (ps : List Proposal) → frames_in {S = S} (executed_outputs es ps) ≡ []
  frames_executed [] ps = refl
  frames_executed (e ∷ es) ps =
      frames_more {S = S} (replies_out (settled_replies e.log_id ps)) (executed_outputs es (settled_left e.log_id.index ps))
      ∙ (λ i. no_frames S (settled_replies e.log_id ps) i ++ frames_executed es (settled_left e.log_id.index ps) i)

  installed_executed : (es : List Entry) (ps : List Proposal) → installed_in {S = S} (executed_outputs es ps) ≡ []
  installed_executed [] ps = refl
  installed_executed (e ∷ es) ps =
      flat_map-append (snapshot_in {S = S}) (replies_out (settled_replies e.log_id ps)) (executed_outputs es (settled_left e.log_id.index ps))
      ∙ (λ i. none_installed (settled_replies e.log_id ps) i ++ installed_executed es (settled_left e.log_id.index ps) i)

  executed_executed : (es : List Entry) (ps : List Proposal) → executed_in {S = S} (executed_outputs es ps) ≡ es
  executed_executed [] ps = refl
  executed_executed (e ∷ es) ps =
      ap (λ xs. e ∷ xs)
      (flat_map-append (entry_in {S = S}) (replies_out (settled_replies e.log_id ps)) (executed_outputs es (settled_left e.log_id.index ps))
      ∙ (λ i. none_executed (settled_replies e.log_id ps) i ++ executed_executed es (settled_left e.log_id.index ps) i))

-- messages leave as frames alone
module _ {S : Type 0} (app : Application S) (codec : Codec S) where
  executed_sent : (out : List (Output S)) → AreSends out → executed_in out ≡ []
  executed_sent [] h = refl
  executed_sent (outputs.Send to bytes ∷ out) h = executed_sent out h.1
  executed_sent (outputs.Append bytes end next ∷ out) h = absurd h.0
  executed_sent (outputs.Install p ∷ out) h = absurd h.0
  executed_sent (outputs.Execute e ∷ out) h = absurd h.0
  executed_sent (outputs.Reply r ∷ out) h = absurd h.0
  executed_sent (outputs.Read r ∷ out) h = absurd h.0

  installed_sent : (out : List (Output S)) → AreSends out → installed_in out ≡ []
  installed_sent [] h = refl
  installed_sent (outputs.Send to bytes ∷ out) h = installed_sent out h.1
  installed_sent (outputs.Append bytes end next ∷ out) h = absurd h.0
  installed_sent (outputs.Install p ∷ out) h = absurd h.0
  installed_sent (outputs.Execute e ∷ out) h = absurd h.0
  installed_sent (outputs.Reply r ∷ out) h = absurd h.0
  installed_sent (outputs.Read r ∷ out) h = absurd h.0

  module _ (start : ℕ) (said : PackedRecords S) (frames : List (Output S)) (old new : List (PackedMessage S)) (going going' : List Outgoing)
      (sends : Sends app codec start said.bag old going frames new going') (ps : List Proposal) (qs : List Reply) where
    abbrev es : List Entry
    es = map (λ (x : Executed). x.entry) said.executed

    are_sends : AreSends frames
    are_sends = messages_send app codec start old new going going' said.bag frames sends

    abbrev rest : List (Output S)
    rest = map install said.installed ++ executed_outputs es ps

    frames_steps : frames_in {S = S} (said_outputs frames said ps) ≡ frames_in frames
    frames_steps =
        frames_more frames rest
        ∙ ((λ i. frames_in frames
        ++ (frames_more (map install said.installed) (executed_outputs es ps)
        ∙ (λ j. frames_install said.installed j ++ frames_executed S es ps j)) i)
        ∙ append_nil (frames_in frames))

    executed_steps : executed_in {S = S} (said_outputs frames said ps) ≡ es
    executed_steps =
        flat_map-append entry_in frames rest
        ∙ (λ i. executed_sent frames are_sends i
        ++ (flat_map-append entry_in (map install said.installed) (executed_outputs es ps)
        ∙ (λ j. executed_install said.installed j ++ executed_executed S es ps j)) i)

    installed_steps : installed_in {S = S} (said_outputs frames said ps) ≡ map (λ x. x.snapshot) said.installed
    installed_steps =
        flat_map-append snapshot_in frames rest
        ∙ ((λ i. installed_sent frames are_sends i
        ++ (flat_map-append snapshot_in (map install said.installed) (executed_outputs es ps)
        ∙ (λ j. installed_install said.installed j ++ installed_executed S es ps j)) i)
        ∙ append_nil (map (λ (x : PackedInstalled S). x.snapshot) said.installed))

    -- and answers to reads behind that

    abbrev all_said : List (Output S)
    all_said = said_outputs frames said ps ++ reads_out qs

    pub frames_said : frames_in {S = S} all_said ≡ frames_in frames
    frames_said =
        frames_more (said_outputs frames said ps) (reads_out qs)
        ∙ ((λ i. frames_steps i ++ frames_reads S qs i) ∙ append_nil (frames_in frames))

    pub executed_said : executed_in {S = S} all_said ≡ es
    executed_said =
        flat_map-append entry_in (said_outputs frames said ps) (reads_out qs)
        ∙ ((λ i. executed_steps i ++ executed_reads S qs i) ∙ append_nil es)

    pub installed_said : installed_in {S = S} all_said ≡ map (λ x. x.snapshot) said.installed
    installed_said =
        flat_map-append snapshot_in (said_outputs frames said ps) (reads_out qs)
        ∙ ((λ i. installed_steps i ++ installed_reads S qs i) ∙ append_nil (map (λ (x : PackedInstalled S). x.snapshot) said.installed))
