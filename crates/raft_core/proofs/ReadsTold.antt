-- Each read is answered once.
use Rattle.std.proofs.Common.{ℕ, ◌≡◌, ◌∙◌, ⊎_elim, List, [], ◌∷◌, ◌++◌, None, Some, refl, sym, ap, subst, inl, inr}
use Rattle.std.specs.Prelude.{◌⊎◌, Contains, map, take, Option}
use Rattle.std.specs.Option.{option_map, option_to_list}
use Rattle.std.proofs.lemmas.List.{append-nil, map-append}
use Rattle.raft_answers.specs.declared.answer.Answer.TheVariants.{Failed, NotLeader}
use Rattle.raft_answers.specs.declared.answer.Reply.{Reply}
use Rattle.raft_answers.specs.declared.request.Proposal.{Proposal}
use Rattle.raft_answers.specs.declared.request.Token.{Token}
use Rattle.raft_answers.specs.Answers.{settled_left, settled_replies}
use Rattle.raft_peers.specs.raft_packed_wire.declared.packet.PackedContent.{PackedContent}
use Rattle.raft_peers.specs.raft_packed_wire.declared.packet.PackedContent.TheVariants as content
use Rattle.raft_peers.specs.raft_packed_wire.Messages.{received}
use Rattle.raft_codec.specs.Codec.{Codec}
use Rattle.raft_peers.specs.proof_packed.Nodes.{PackedInstalled, PackedMessage}
use Rattle.raft_peers.specs.proof_packed.Stores.{Application, Packed}
use Rattle.raft_peers.specs.raft_packed_server.declared.batch.Written.{Written}
use Rattle.raft_peers.specs.raft_packed_server.Views.{ServerView}
use Rattle.raft_store.specs.declared.entry.Entry.{Entry}
use Rattle.raft_peers.specs.declared.frame.Frame.{Frame}
use Rattle.raft_peers.specs.declared.frame.Frame.TheVariants as frames
use Rattle.raft_peers.specs.declared.frame.PreVote.{PreVote}
use Rattle.raft_peers.specs.declared.frame.PreVoteReply.{PreVoteReply}
use Rattle.raft_peers.specs.declared.output.Output.{Output}
use Rattle.raft_peers.specs.declared.output.Output.TheVariants as outputs
use Rattle.raft_reads.specs.declared.reads.Reader.{Reader}
use Rattle.raft_core.specs.Views.{CoreView}
use Rattle.raft_core.specs.Calls.{AdmitsRead, Asks, Releases, TakesContent, TakesMessage, TakesFrame, Ticks, Writes, WritesNow, appended}
use Rattle.raft_peers.specs.Frames.{asked, granted}
use Rattle.raft_core.specs.Laws.{AnswersReads, OnlyRoundsTellOk, ReadsAreAnsweredOnce, read_replies_of}
use Rattle.raft_core.specs.Outputs.{executed_outputs, install, lost_replies, overdue_replies, reads_out, replies_out, said_outputs}
use Rattle.raft_peers.specs.Parts.{AreParts, Outgoing, assembled}
use Rattle.raft_reads.specs.Reads.{ReadsView, count_overdue, failed_left, failed_replies, read_left, read_replies, read_tokens}
use Rattle.raft_core.specs.Outputs.{handed_after}
use Rattle.raft_reads.specs.Reads.{refused_left, refused_replies, told, with_heard, with_left}
use Rattle.raft_reads.proofs.Reading.{ReadsFirst, both_reads, fails_first, left_keeps, reads_first, refuses_first}
use Rattle.raft_peers.proofs.Sending.{AreSends, messages_send, parts_send}
use Rattle.raft_core.proofs.Unsaid.{NoOk, no_more}

-- ---- the answers to reads among outputs

module _ {S : Type 0} where
  reads_more : (a b : List (Output S)) → read_replies_of (a ++ b) ≡ read_replies_of a ++ read_replies_of b
  reads_more [] b = refl
  reads_more (outputs.Read r ∷ a) b = ap (λ rs. r ∷ rs) (reads_more a b)
  reads_more (outputs.Reply r ∷ a) b = reads_more a b
  reads_more (outputs.Send to bytes ∷ a) b = reads_more a b
  reads_more (outputs.Append bytes end next ∷ a) b = reads_more a b
  reads_more (outputs.Install snapshot ∷ a) b = reads_more a b
  reads_more (outputs.Execute entry ∷ a) b = reads_more a b

  none_sent : (out : List (Output S)) → AreSends out → read_replies_of out ≡ []
  none_sent [] h = refl
  none_sent (outputs.Send to bytes ∷ out) h = none_sent out h.1
  none_sent (outputs.Append bytes end next ∷ out) h = absurd h.0
  none_sent (outputs.Install snapshot ∷ out) h = absurd h.0
  none_sent (outputs.Execute entry ∷ out) h = absurd h.0
  none_sent (outputs.Reply r ∷ out) h = absurd h.0
  none_sent (outputs.Read r ∷ out) h = absurd h.0

  pub none_went : (c : Codec S) (start : ℕ) (old : List Outgoing) (out : List (Output S))
      → (out ≡ []) ⊎ ((o : Outgoing) × Contains old o × AreParts c start o out) → read_replies_of out ≡ []
  none_went c start old out h = ⊎_elim (λ none. ap read_replies_of none) (λ p. none_sent out (parts_send c start p.0 out p.2)) h

  none_installed : (xs : List (PackedInstalled S)) → read_replies_of (map install xs) ≡ []
  none_installed [] = refl
  none_installed (x ∷ xs) = none_installed xs

  -- of two that have none
  none_both : (a b : List (Output S)) → read_replies_of a ≡ [] → read_replies_of b ≡ [] → read_replies_of (a ++ b) ≡ []
  none_both a b front back = reads_more a b ∙ (ap (λ x. x ++ read_replies_of b) front ∙ back)

reads_are : (S : Type 0) (rs : List Reply) → read_replies_of {S = S} (reads_out rs) ≡ rs
reads_are S [] = refl
reads_are S (r ∷ rs) = ap (λ rs. r ∷ rs) (reads_are S rs)

none_replied : (S : Type 0) (rs : List Reply) → read_replies_of {S = S} (replies_out rs) ≡ []
none_replied S [] = refl
none_replied S (r ∷ rs) = none_replied S rs

none_asked : (S : Type 0) (asks : List PreVote) → read_replies_of {S = S} (map asked asks) ≡ []
none_asked S [] = refl
none_asked S (a ∷ asks) = none_asked S asks

none_appended : (S : Type 0) (w : Option Written) → read_replies_of {S = S} (appended w) ≡ []
none_appended S None = refl
none_appended S (Some w) = refl

pub none_granted : (S : Type 0) (r : Option PreVoteReply) → read_replies_of {S = S} (option_to_list (option_map granted r)) ≡ []
none_granted S None = refl
none_granted S (Some r) = refl

none_executed : (S : Type 0) (es : List Entry) (ps : List Proposal) → read_replies_of {S = S} (executed_outputs es ps) ≡ []
none_executed S [] ps = refl
none_executed S (e ∷ es) ps = none_both (replies_out (settled_replies e.log_id ps)) (executed_outputs es (settled_left e.log_id.index ps))
    (none_replied S (settled_replies e.log_id ps)) (none_executed S es (settled_left e.log_id.index ps))

module _ {S : Type 0} where
  -- behind outputs that have none
  behind : (a : List (Output S)) (rs : List Reply) → read_replies_of a ≡ [] → read_replies_of (a ++ reads_out rs) ≡ rs
  behind a rs none = reads_more a (reads_out rs) ∙ (ap (λ x. x ++ read_replies_of {S = S} (reads_out rs)) none ∙ reads_are S rs)

  -- behind replies, and in front of outputs that have none
  between : (a : List Reply) (rs : List Reply) (b : List (Output S)) → read_replies_of b ≡ []
      → read_replies_of {S = S} (replies_out a ++ (reads_out rs ++ b)) ≡ rs
  between a rs b none =
      reads_more (replies_out a) (reads_out rs ++ b)
      ∙ (ap (λ x. x ++ read_replies_of {S = S} (reads_out rs ++ b)) (none_replied S a)
      ∙ (reads_more (reads_out rs) b
      ∙ (ap (λ x. read_replies_of {S = S} (reads_out rs) ++ x) none ∙ (append-nil (read_replies_of {S = S} (reads_out rs)) ∙ reads_are S rs))))

-- the same by equal replies, and equal reads
by_equal : (old : ReadsView) (rs replies : List Reply) (new left : ReadsView) → replies ≡ rs → new ≡ left → ReadsFirst old rs left
    → ReadsFirst old replies new
by_equal old rs replies new left told is first =
    subst (λ x. ReadsFirst old x new) (sym told) (subst (λ x. ReadsFirst old rs x) (sym is) first)

no_failed : (xs : List Reader) → NoOk (told Failed xs)
no_failed [] = tt
no_failed (x ∷ xs) = ((λ index e. cc), no_failed xs)

no_refused : (leader : Option ℕ) (xs : List Reader) → NoOk (told (NotLeader leader) xs)
no_refused leader [] = tt
no_refused leader (x ∷ xs) = ((λ index e. cc), no_refused leader xs)

no_gone : (gone : Option (Option ℕ)) (r : ReadsView) → NoOk (refused_replies gone r)
no_gone None r = tt
no_gone (Some leader) r = no_refused leader r.readers

module _ {S : Type 0} (app : Application S) (c : Codec S) where
  -- ---- what leaves in each call

  pub ticked : (old new : CoreView S) (out : List (Output S)) (t : Ticks app old out new)
      → read_replies_of out ≡ refused_replies t.answers.gone old.reads ++ failed_replies t.upto (refused_left t.answers.gone old.reads)
  ticked old new out t =
      ap read_replies_of t.answers.leaves
      ∙ (reads_more {S = S} (map asked t.asks) _
      ∙ (ap (λ x. x ++ read_replies_of {S = S} (replies_out (overdue_replies t.answers.lost t.upto old.requests)
      ++ reads_out (refused_replies t.answers.gone old.reads ++ failed_replies t.upto (refused_left t.answers.gone old.reads)))) (none_asked S t.asks)
      ∙ behind (replies_out (overdue_replies t.answers.lost t.upto old.requests))
      (refused_replies t.answers.gone old.reads ++ failed_replies t.upto (refused_left t.answers.gone old.reads))
      (none_replied S (overdue_replies t.answers.lost t.upto old.requests))))

  pub wrote : (old new : CoreView S) (out : List (Output S)) (w : WritesNow app c old out new)
      → read_replies_of out ≡ refused_replies w.refuses.gone old.reads
  wrote old new out w = ap read_replies_of w.leaves ∙ (between w.replies w.refused (appended w.written) (none_appended S w.written) ∙ w.refuses.tells)

  pub told_by_message : (m : PackedMessage S) (old new : CoreView S) (out : List (Output S)) (t : TakesMessage app m old out new)
      → read_replies_of out ≡ refused_replies t.answers.gone (with_heard m.message old.reads)
      ++ read_replies old.executed (refused_left t.answers.gone (with_heard m.message old.reads))
  told_by_message m old new out t =
      ap read_replies_of t.answers.leaves
      ∙ behind (replies_out (lost_replies t.answers.lost old.requests))
      (refused_replies t.answers.gone (with_heard m.message old.reads)
      ++ read_replies old.executed (refused_left t.answers.gone (with_heard m.message old.reads)))
      (none_replied S (lost_replies t.answers.lost old.requests))

  -- what steps say answers no read
  said_quiet : (position : ℕ) (old new : CoreView S) (out : List (Output S)) (r : Releases app c position old out new)
      → read_replies_of (said_outputs r.frames r.said old.requests.proposed) ≡ []
  said_quiet position old new out r =
      let es = map (λ x. x.entry) r.said.executed in
      none_both r.frames (map install r.said.installed ++ executed_outputs es old.requests.proposed)
      (none_sent r.frames (messages_send app c old.start old.preparing new.preparing old.outgoing new.outgoing r.said.bag r.frames r.sends))
      (none_both (map install r.said.installed) (executed_outputs es old.requests.proposed) (none_installed r.said.installed)
      (none_executed S es old.requests.proposed))

  pub told_by_release : (position : ℕ) (old new : CoreView S) (out : List (Output S)) (r : Releases app c position old out new)
      → read_replies_of out ≡ read_replies (handed_after r.said old.executed) (with_left r.said.answers old.reads)
  told_by_release position old new out r =
      ap read_replies_of r.leaves
      ∙ behind (said_outputs r.frames r.said old.requests.proposed)
      (read_replies (handed_after r.said old.executed) (with_left r.said.answers old.reads))
      (said_quiet position old new out r)

  -- ---- calls

  admits : (token : Token) (old new : CoreView S) → AdmitsRead token old new → read_tokens new.reads ≡ read_tokens old.reads ++ token ∷ []
  admits token old new is = ap (λ (v : CoreView S). read_tokens v.reads) is ∙ map-append (λ (x : Reader). x.token) old.reads.readers _

  ticks : (old new : CoreView S) (out : List (Output S)) → Ticks app old out new → AnswersReads old out new
  ticks old new out t =
      let gone = t.answers.gone in
      let mid = refused_left gone old.reads in
      by_equal old.reads (refused_replies gone old.reads ++ failed_replies t.upto mid) (read_replies_of out) new.reads (failed_left t.upto mid)
      (ticked old new out t) t.answers.reads_left
      (both_reads old.reads mid (failed_left t.upto mid) (refused_replies gone old.reads) (failed_replies t.upto mid)
      (refuses_first gone old.reads) (fails_first t.upto mid))

  takes_message : (m : PackedMessage S) (old new : CoreView S) (out : List (Output S)) → TakesMessage app m old out new → AnswersReads old out new
  takes_message m old new out t =
      let gone = t.answers.gone in
      let heard = with_heard m.message old.reads in
      let mid = refused_left gone heard in
      let said = ap read_replies_of t.answers.leaves
      ∙ behind (replies_out (lost_replies t.answers.lost old.requests)) (refused_replies gone heard ++ read_replies old.executed mid)
      (none_replied S (lost_replies t.answers.lost old.requests)) in
      by_equal heard (refused_replies gone heard ++ read_replies old.executed mid) (read_replies_of out) new.reads
      (read_left old.executed mid) said t.answers.reads_left
      (both_reads heard mid (read_left old.executed mid) (refused_replies gone heard) (read_replies old.executed mid) (refuses_first gone heard)
      (reads_first old.executed mid))

  receives_content : (x : PackedContent (Packed S)) (old new : CoreView S) (out : List (Output S)) → TakesContent app c x old out new
      → AnswersReads old out new
  receives_content (content.Message m) old new out t = takes_message (received app m) old new out t
  receives_content (content.Part x) old new out (inl k) =
      by_equal old.reads [] (read_replies_of out) new.reads old.reads (ap read_replies_of k.leaves) (ap (λ (v : CoreView S). v.reads) k.rest) refl
  receives_content (content.Part x) old new out (inr t) =
      by_equal old.reads (read_replies_of t.others) (read_replies_of out) new.reads new.reads (ap read_replies_of t.leaves) refl
      (takes_message (record { message = x.message; brought = t.snapshot }) (record old { incoming = assembled t.comes }) new t.others t.takes)

  receives_frame : (frame : Frame S) (old new : CoreView S) (out : List (Output S)) → TakesFrame app c frame old out new → AnswersReads old out new
  receives_frame (frames.Packet p) old new out r = receives_content p.content old new out r
  receives_frame (frames.PartReply reply) old new out r =
      by_equal old.reads [] (read_replies_of out) new.reads old.reads (none_went c old.start old.outgoing out r.leaves)
      (ap (λ (v : CoreView S). v.reads) r.rest) refl
  receives_frame (frames.PreVote ask) old new out r =
      by_equal old.reads [] (read_replies_of out) new.reads old.reads (ap read_replies_of r.leaves ∙ none_granted S r.replies)
      (ap (λ (v : CoreView S). v.reads) r.rest) refl
  receives_frame (frames.PreVoteReply reply) old new out r =
      by_equal old.reads [] (read_replies_of out) new.reads old.reads (ap read_replies_of r.leaves)
      (ap (λ (v : CoreView S). v.reads) r.moved.rest) refl

  asks_keeps : (at id : ℕ) (server : ServerView S) (old : ReadsView) (server2 : ServerView S) (new : ReadsView)
      → Asks app at id server old server2 new → read_tokens new ≡ read_tokens old
  asks_keeps at id server old server2 new (inl none) = ap read_tokens none.1
  asks_keeps at id server old server2 new (inr asks) = ap read_tokens asks.begins

  writes : (old new : CoreView S) (out : List (Output S)) → Writes app c old out new → AnswersReads old out new
  writes old new out (inl none) =
      by_equal old.reads [] (read_replies_of out) new.reads old.reads (ap read_replies_of none.0) (ap (λ (v : CoreView S). v.reads) none.1) refl
  writes old new out (inr w) =
      let gone = w.refuses.gone in
      subst (λ rs. ReadsFirst old.reads rs new.reads) (sym (wrote old new out w))
      (refuses_first gone old.reads
      ∙ ap (λ ts. map (λ r. r.token) (refused_replies gone old.reads) ++ ts)
      (ap read_tokens (sym w.refuses.left) ∙ sym (asks_keeps old.clock old.id old.server w.reads w.asked new.reads w.asks)))

  releases : (position : ℕ) (old new : CoreView S) (out : List (Output S)) → Releases app c position old out new → AnswersReads old out new
  releases position old new out r =
      let mid = with_left r.said.answers old.reads in
      let executed = handed_after r.said old.executed in
      by_equal old.reads (read_replies executed mid) (read_replies_of out) new.reads (read_left executed mid)
      (ap read_replies_of r.leaves ∙ behind (said_outputs r.frames r.said old.requests.proposed) (read_replies executed mid)
      (said_quiet position old new out r))
      (ap (λ (v : CoreView S). v.reads) r.rest)
      (ap (map (λ (x : Reader). x.token)) (sym (left_keeps r.said.answers old.reads)) ∙ reads_first executed mid)

  pub reads_are_answered_once : ReadsAreAnsweredOnce app c
  reads_are_answered_once = record {
    admits = admits;
    ticks = ticks;
    receives = λ bytes old new out r. receives_frame r.0 old new out r.2;
    writes = writes;
    releases = releases;
  }

  -- ---- `Ok`

  quiet_ticks : (old new : CoreView S) (out : List (Output S)) → Ticks app old out new → NoOk (read_replies_of out)
  quiet_ticks old new out t =
      let gone = t.answers.gone in
      let mid = refused_left gone old.reads in
      subst NoOk (sym (ticked old new out t))
      (no_more (refused_replies gone old.reads) (failed_replies t.upto mid) (no_gone gone old.reads)
      (no_failed (take (count_overdue t.upto mid) mid.readers)))

  quiet_writes : (old new : CoreView S) (out : List (Output S)) → Writes app c old out new → NoOk (read_replies_of out)
  quiet_writes old new out (inl none) = subst NoOk (sym (ap read_replies_of none.0)) tt
  quiet_writes old new out (inr w) = subst NoOk (sym (wrote old new out w)) (no_gone w.refuses.gone old.reads)

  pub only_rounds_tell_ok : OnlyRoundsTellOk app c
  only_rounds_tell_ok = record { ticks = quiet_ticks; writes = quiet_writes }
