-- The answers of a call: those to requests leave first, and then those to reads that need no entry.
use Rattle.std.proofs.Common.{ℕ, ◌≡◌, ◌∙◌, List, [], ◌∷◌, ◌++◌, ⊎_elim, refl, sym, ap, subst, append_assoc, inl, inr}
use Rattle.std.specs.Prelude.{map, Option, None, Some}
use Rattle.std.specs.List.{AllByRecursion}
use Rattle.std.specs.Option.{option_map, option_to_list}
use Rattle.raft_answers.specs.declared.answer.Reply.{Reply}
use Rattle.raft_answers.specs.declared.request.Proposal.{Proposal}
use Rattle.raft_answers.specs.Answers.{settled_left, settled_replies}
use Rattle.raft_node.specs.declared.record.Executed.{Executed}
use Rattle.raft_codec.specs.Codec.{Codec}
use Rattle.proof_packed.specs.Nodes.{PackedInstalled, PackedMessage}
use Rattle.proof_packed.specs.Stores.{Application, Packed}
use Rattle.raft_packed_wire.specs.declared.packet.PackedContent.{PackedContent}
use Rattle.raft_packed_wire.specs.declared.packet.PackedContent.TheVariants as content
use Rattle.raft_packed_wire.specs.Messages.{received}
use Rattle.proof_requests.specs.raft_packed_server.declared.batch.Written.{Written}
use Rattle.raft_store.specs.declared.entry.Entry.{Entry}
use Rattle.proof_requests.specs.raft_core.raft_peers.declared.frame.Frame.{Frame}
use Rattle.proof_requests.specs.raft_core.raft_peers.declared.frame.Frame.TheVariants as frames
use Rattle.proof_requests.specs.raft_core.raft_peers.declared.frame.PreVote.{PreVote}
use Rattle.proof_requests.specs.raft_core.raft_peers.declared.frame.PreVoteReply.{PreVoteReply}
use Rattle.proof_requests.specs.raft_core.raft_peers.declared.output.Output.{Output}
use Rattle.proof_requests.specs.raft_core.raft_peers.declared.output.Output.TheVariants as outputs
use Rattle.proof_requests.specs.raft_core.Calls.{Receives, Releases, TakesContent, TakesFrame, TakesMessage, Ticks, Writes, appended}
use Rattle.proof_requests.specs.raft_core.raft_peers.Frames.{asked, granted}
use Rattle.proof_requests.specs.raft_core.Laws.{read_replies_of, replies_of}
use Rattle.proof_requests.specs.raft_core.Outputs.{executed_outputs, install, lost_replies, overdue_replies, reads_out, replies_out, said_outputs}
use Rattle.proof_requests.specs.raft_core.raft_peers.Parts.{assembled}
use Rattle.proof_requests.specs.raft_core.raft_reads.Reads.{failed_replies, read_replies, refused_left, refused_replies, with_heard, with_left}
use Rattle.proof_requests.specs.raft_core.Outputs.{handed_after}
use Rattle.proof_requests.specs.raft_core.Views.{CoreView}
use Rattle.proof_requests.proofs.raft_peers_proofs.Sending.{AreSends, messages_send, parts_send}
use Rattle.proof_requests.specs.Actions.{Initializes}
use Rattle.raft_cluster.specs.Outputs.{answers_in}

module _ {S : Type 0} where
  -- no answer to a read; none to a request
  abbrev IsNoRead : Output S → Type 0
  IsNoRead (outputs.Read r) = ⊥
  IsNoRead _ = Unit {0}

  abbrev IsNoReply : Output S → Type 0
  IsNoReply (outputs.Reply r) = ⊥
  IsNoReply _ = Unit {0}

  abbrev NoReads : List (Output S) → Type 0
  NoReads out = AllByRecursion IsNoRead out

  abbrev NoReplies : List (Output S) → Type 0
  NoReplies out = AllByRecursion IsNoReply out

  -- requests first
  abbrev pub AreInOrder : List (Output S) → Type 0
  AreInOrder out = answers_in out ≡ replies_of out ++ read_replies_of out

  none_replied : (out : List (Output S)) → NoReplies out → replies_of out ≡ []
  none_replied [] h = refl
  none_replied (outputs.Reply r ∷ out) h = absurd h.0
  none_replied (outputs.Read r ∷ out) h = none_replied out h.1
  none_replied (outputs.Send to bytes ∷ out) h = none_replied out h.1
  none_replied (outputs.Append bytes end next ∷ out) h = none_replied out h.1
  none_replied (outputs.Install p ∷ out) h = none_replied out h.1
  none_replied (outputs.Execute entry ∷ out) h = none_replied out h.1

  reads_alone : (out : List (Output S)) → NoReplies out → answers_in out ≡ read_replies_of out
  reads_alone [] h = refl
  reads_alone (outputs.Reply r ∷ out) h = absurd h.0
  reads_alone (outputs.Read r ∷ out) h = ap (λ rs. r ∷ rs) (reads_alone out h.1)
  reads_alone (outputs.Send to bytes ∷ out) h = reads_alone out h.1
  reads_alone (outputs.Append bytes end next ∷ out) h = reads_alone out h.1
  reads_alone (outputs.Install p ∷ out) h = reads_alone out h.1
  reads_alone (outputs.Execute entry ∷ out) h = reads_alone out h.1

  in_order : (a b : List (Output S)) → NoReads a → NoReplies b → AreInOrder (a ++ b)
  in_order [] b h k = reads_alone b k ∙ ap (λ rs. rs ++ read_replies_of b) (sym (none_replied b k))
  in_order (outputs.Read r ∷ a) b h k = absurd h.0
  in_order (outputs.Reply r ∷ a) b h k = ap (λ rs. r ∷ rs) (in_order a b h.1 k)
  in_order (outputs.Send to bytes ∷ a) b h k = in_order a b h.1 k
  in_order (outputs.Append bytes end next ∷ a) b h k = in_order a b h.1 k
  in_order (outputs.Install p ∷ a) b h k = in_order a b h.1 k
  in_order (outputs.Execute entry ∷ a) b h k = in_order a b h.1 k

  both_no_reads : (a b : List (Output S)) → NoReads a → NoReads b → NoReads (a ++ b)
  both_no_reads [] b h k = k
  both_no_reads (x ∷ a) b h k = (h.0, both_no_reads a b h.1 k)

  both_no_replies : (a b : List (Output S)) → NoReplies a → NoReplies b → NoReplies (a ++ b)
  both_no_replies [] b h k = k
  both_no_replies (x ∷ a) b h k = (h.0, both_no_replies a b h.1 k)

  sends_no_reads : (out : List (Output S)) → AreSends out → NoReads out
  sends_no_reads [] h = tt
  sends_no_reads (outputs.Send to bytes ∷ out) h = (tt, sends_no_reads out h.1)
  sends_no_reads (outputs.Append bytes end next ∷ out) h = absurd h.0
  sends_no_reads (outputs.Install p ∷ out) h = absurd h.0
  sends_no_reads (outputs.Execute e ∷ out) h = absurd h.0
  sends_no_reads (outputs.Reply r ∷ out) h = absurd h.0
  sends_no_reads (outputs.Read r ∷ out) h = absurd h.0

  -- frames alone
  sends_in_order : (out : List (Output S)) → AreSends out → AreInOrder out
  sends_in_order [] h = refl
  sends_in_order (outputs.Send to bytes ∷ out) h = sends_in_order out h.1
  sends_in_order (outputs.Append bytes end next ∷ out) h = absurd h.0
  sends_in_order (outputs.Install p ∷ out) h = absurd h.0
  sends_in_order (outputs.Execute e ∷ out) h = absurd h.0
  sends_in_order (outputs.Reply r ∷ out) h = absurd h.0
  sends_in_order (outputs.Read r ∷ out) h = absurd h.0

  install_no_reads : (xs : List (PackedInstalled S)) → NoReads (map install xs)
  install_no_reads [] = tt
  install_no_reads (x ∷ xs) = (tt, install_no_reads xs)

-- outputs that have no state of the machine
module _ (S : Type 0) where
  replies_no_reads : (rs : List Reply) → NoReads {S = S} (replies_out rs)
  replies_no_reads [] = tt
  replies_no_reads (r ∷ rs) = (tt, replies_no_reads rs)

  reads_no_replies : (rs : List Reply) → NoReplies {S = S} (reads_out rs)
  reads_no_replies [] = tt
  reads_no_replies (r ∷ rs) = (tt, reads_no_replies rs)

  asks_no_reads : (asks : List PreVote) → NoReads {S = S} (map asked asks)
  asks_no_reads [] = tt
  asks_no_reads (a ∷ asks) = (tt, asks_no_reads asks)

  granted_no_reads : (r : Option PreVoteReply) → NoReads {S = S} (option_to_list (option_map granted r))
  granted_no_reads None = tt
  granted_no_reads (Some r) = (tt, tt)

  appended_no_replies : (w : Option Written) → NoReplies {S = S} (appended w)
  appended_no_replies None = tt
  appended_no_replies (Some w) = (tt, tt)

  executed_no_reads : (es : List Entry) (ps : List Proposal) → NoReads {S = S} (executed_outputs es ps)
  executed_no_reads [] ps = tt
  executed_no_reads (e ∷ es) ps = (
    tt,
    both_no_reads {S = S} (replies_out (settled_replies e.log_id ps)) (executed_outputs es (settled_left e.log_id.index ps)) (replies_no_reads (settled_replies e.log_id ps)) (executed_no_reads es (settled_left e.log_id.index ps)),
  )

-- ---- each call

order_message : {S : Type 0} (app : Application S) (m : PackedMessage S) (core new : CoreView S) (out : List (Output S))
    → TakesMessage app m core out new → AreInOrder out
order_message {S} app m core new out t =
    let rs : List Reply = lost_replies t.answers.lost core.requests in
    let mid = refused_left t.answers.gone (with_heard m.message core.reads) in
    let qs : List Reply = refused_replies t.answers.gone (with_heard m.message core.reads) ++ read_replies core.executed mid in
    subst AreInOrder (sym t.answers.leaves) (in_order {S = S} (replies_out rs) (reads_out qs) (replies_no_reads S rs) (reads_no_replies S qs))

module _ {S : Type 0} (app : Application S) (codec : Codec S) (core new : CoreView S) (out : List (Output S)) where
  pub order_initialized : Initializes app core out new → AreInOrder out
  order_initialized i = subst AreInOrder (sym i.0) refl

  pub order_ticked : Ticks app core out new → AreInOrder out
  order_ticked t =
      let rs : List Reply = overdue_replies t.answers.lost t.upto core.requests in
      let qs : List Reply = refused_replies t.answers.gone core.reads ++ failed_replies t.upto (refused_left t.answers.gone core.reads) in
      subst AreInOrder (append_assoc (map asked t.asks) (replies_out rs) (reads_out qs) ∙ sym t.answers.leaves)
      (in_order {S = S} (map asked t.asks ++ replies_out rs) (reads_out qs) (both_no_reads {S = S} (map asked t.asks) (replies_out rs) (asks_no_reads S t.asks) (replies_no_reads S rs)) (reads_no_replies S qs))

  order_content : (x : PackedContent (Packed S)) → TakesContent app codec x core out new → AreInOrder out
  order_content (content.Message m) t = order_message app (received app m) core new out t
  order_content (content.Part x) (inl k) = subst AreInOrder (sym k.leaves) refl
  order_content (content.Part x) (inr t) =
      subst AreInOrder (sym t.leaves)
      (order_message app (record { message = x.message; brought = t.snapshot }) (record core { incoming = assembled t.comes }) new t.others t.takes)

  order_framed : (frame : Frame S) → TakesFrame app codec frame core out new → AreInOrder out
  order_framed (frames.Packet p) t = order_content p.content t
  order_framed (frames.PartReply reply) t =
      ⊎_elim (λ none. subst AreInOrder (sym none) refl) (λ p. sends_in_order out (parts_send codec core.start p.0 out p.2)) t.leaves
  order_framed (frames.PreVote ask) t =
      subst AreInOrder (append_none (option_to_list (option_map granted t.replies)) ∙ sym t.leaves) (in_order {S = S} (option_to_list (option_map granted t.replies)) [] (granted_no_reads S t.replies) tt)
    where
      append_none : (xs : List (Output S)) → xs ++ [] ≡ xs
      append_none [] = refl
      append_none (x ∷ xs) = ap (λ ys. x ∷ ys) (append_none xs)
  order_framed (frames.PreVoteReply reply) t = subst AreInOrder (sym t.leaves) refl

  pub order_received : (bytes : List ℕ) → Receives app codec bytes core out new → AreInOrder out
  order_received bytes (frame, has, t) = order_framed frame t

  pub order_written : Writes app codec core out new → AreInOrder out
  order_written (inl none) = subst AreInOrder (sym none.0) refl
  order_written (inr w) =
      subst AreInOrder (sym w.leaves)
      (in_order {S = S} (replies_out w.replies) (reads_out w.refused ++ appended w.written) (replies_no_reads S w.replies)
      (both_no_replies {S = S} (reads_out w.refused) (appended w.written) (reads_no_replies S w.refused) (appended_no_replies S w.written)))

  pub order_released : (position : ℕ) → Releases app codec position core out new → AreInOrder out
  order_released position r =
      let es : List Entry = map (λ (x : Executed). x.entry) r.said.executed in
      let ps : List Proposal = core.requests.proposed in
      let qs : List Reply = read_replies (handed_after r.said core.executed) (with_left r.said.answers core.reads) in
      subst AreInOrder (sym r.leaves)
      (in_order {S = S} (said_outputs r.frames r.said ps) (reads_out qs)
      (both_no_reads r.frames (map install r.said.installed ++ executed_outputs es ps)
      (sends_no_reads r.frames (messages_send app codec core.start core.preparing new.preparing core.outgoing new.outgoing r.said.bag r.frames r.sends))
      (both_no_reads {S = S} (map install r.said.installed) (executed_outputs es ps) (install_no_reads r.said.installed) (executed_no_reads S es ps)))
      (reads_no_replies S qs))
