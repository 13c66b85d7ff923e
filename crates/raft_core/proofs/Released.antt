-- Entries one behind the other.
use Rattle.std.proofs.Common.{ℕ, ◌≡◌, ◌∙◌, List, [], ◌∷◌, ◌++◌, map, refl, sym, ap, subst, append_assoc}
use Rattle.std.proofs.lemmas.List.{append-nil, map-append}
use Rattle.raft_answers.specs.Answers.{settled, settled_left}
use Rattle.raft_answers.specs.Requests.{Open}
use Rattle.raft_codec.specs.Codec.{Codec}
use Rattle.raft_store.specs.declared.entry.Entry.{Entry}
use Rattle.raft_node.specs.declared.record.Executed.{Executed}
use Rattle.raft_peers.specs.proof_packed.Nodes.{PackedMessage, PackedRecords}
use Rattle.raft_peers.specs.proof_packed.Stores.{Application}
use Rattle.raft_peers.specs.proof_packed_servers.Servers.{packed_joined}
use Rattle.raft_peers.specs.declared.output.Output.{Output}
use Rattle.raft_peers.specs.Parts.{Outgoing}
use Rattle.raft_peers.specs.Sends.{Prepares, Sends, SendsAll}
use Rattle.raft_peers.proofs.Sent.{sends_both}
use Rattle.raft_core.specs.Outputs.{executed_out, executed_outputs, install, said_outputs, settled_all}

pub settled_more : (es : List Entry) (e : Entry) (o : Open) → settled_all (es ++ e ∷ []) o ≡ settled e.log_id (settled_all es o)
settled_more [] e o = refl
settled_more (x ∷ es) e o = settled_more es e (settled x.log_id o)

pub settled_both : (es fs : List Entry) (o : Open) → settled_all (es ++ fs) o ≡ settled_all fs (settled_all es o)
settled_both [] fs o = refl
settled_both (x ∷ es) fs o = settled_both es fs (settled x.log_id o)

module _ {S : Type 0} where
  pub executed_more : (es : List Entry) (e : Entry) (o : Open)
      → executed_outputs {S = S} (es ++ e ∷ []) o.proposed ≡ executed_outputs es o.proposed ++ executed_out e (settled_all es o).proposed
  executed_more [] e o = append-nil (executed_out e o.proposed)
  executed_more (x ∷ es) e o =
      ap (λ out. executed_out x o.proposed ++ out) (executed_more es e (settled x.log_id o))
      ∙ sym (append_assoc (executed_out x o.proposed) (executed_outputs es (settled_left x.log_id.index o.proposed))
      (executed_out e (settled_all (x ∷ es) o).proposed))

  pub executed_both : (es fs : List Entry) (o : Open)
      → executed_outputs {S = S} (es ++ fs) o.proposed ≡ executed_outputs es o.proposed ++ executed_outputs fs (settled_all es o).proposed
  executed_both [] fs o = refl
  executed_both (x ∷ es) fs o =
      ap (λ out. executed_out x o.proposed ++ out) (executed_both es fs (settled x.log_id o))
      ∙ sym (append_assoc (executed_out x o.proposed) (executed_outputs es (settled_left x.log_id.index o.proposed))
      (executed_outputs fs (settled_all (x ∷ es) o).proposed))

module _ {S : Type 0} where
  -- two in turn
  pub two_behind : (n m l : List (Output S)) (parts f : List (Output S)) → m ≡ n ++ parts → l ≡ m ++ f → l ≡ n ++ (parts ++ f)
  two_behind n m l parts f one other = other ∙ (ap (λ (x : List (Output S)). x ++ f) one ∙ append_assoc n parts f)

-- ---- what steps say, and what others behind them say

abbrev entries_in : List Executed → List Entry
entries_in xs = map (λ (x : Executed). x.entry) xs

module _ {S : Type 0} (s x y a b : PackedRecords S) (one : a ≡ x) (other : b ≡ y) (two : packed_joined x y ≡ s) where
  both : packed_joined a b ≡ s
  both = (λ i. packed_joined (one i) (other i)) ∙ two

  abbrev es : List Entry
  es = entries_in a.executed

  abbrev fs : List Entry
  fs = entries_in b.executed

  both_entries : entries_in (packed_joined a b).executed ≡ entries_in a.executed ++ entries_in b.executed
  both_entries = map-append (λ (x : Executed). x.entry) a.executed b.executed

  pub all_sent : (app : Application S) (c : Codec S) (start : ℕ) (old mid waiting new : List (PackedMessage S)) (going going' : List Outgoing)
      (f g parts : List (Output S))
      → SendsAll app c start a.bag old f mid → SendsAll app c start b.bag mid g waiting → Prepares app c start waiting going parts new going'
      → Sends app c start s.bag old going (f ++ (g ++ parts)) new going'
  all_sent app c start old mid waiting new going going' f g parts h k p = record {
    frames = f ++ g;
    parts = parts;
    waiting = waiting;
    sends = subst (λ (r : PackedRecords S). SendsAll app c start r.bag old (f ++ g) waiting) both
        (sends_both app c start a.bag b.bag old mid waiting f g h k);
    prepares = p;
    leaves = sym (append_assoc f g parts);
  }

  pub all_left : (o p q : Open) → p ≡ settled_all (entries_in a.executed) o → q ≡ settled_all (entries_in b.executed) p
      → q ≡ settled_all (entries_in s.executed) o
  all_left o p q first then_others =
      then_others
      ∙ (ap (settled_all fs) first
      ∙ (sym (settled_both es fs o)
      ∙ (ap (λ xs. settled_all xs o) (sym both_entries) ∙ ap (λ (r : PackedRecords S). settled_all (entries_in r.executed) o) both)))

  flat : (m n u v p q : List (Output S)) → (m ++ n) ++ ((u ++ v) ++ (p ++ q)) ≡ ((((m ++ n) ++ u) ++ v) ++ p) ++ q
  flat m n u v p q =
      sym (append_assoc (m ++ n) (u ++ v) (p ++ q))
      ∙ (ap (λ z. z ++ (p ++ q)) (sym (append_assoc (m ++ n) u v)) ∙ sym (append_assoc (((m ++ n) ++ u) ++ v) p q))

  both_outputs : (f g : List (Output S)) (o : Open) → said_outputs (f ++ g) (packed_joined a b) o.proposed
      ≡ ((((f ++ g) ++ map install a.installed) ++ map install b.installed) ++ executed_outputs (entries_in a.executed) o.proposed)
      ++ executed_outputs (entries_in b.executed) (settled_all (entries_in a.executed) o).proposed
  both_outputs f g o =
      (λ i. (f ++ g) ++ (map-append install a.installed b.installed i
      ++ (ap (λ xs. executed_outputs xs o.proposed) both_entries ∙ executed_both es fs o) i))
      ∙ flat f g (map install a.installed) (map install b.installed) (executed_outputs es o.proposed)
      (executed_outputs fs (settled_all es o).proposed)

  -- one output behind the other
  pub all_outputs : (f g : List (Output S)) (o p : Open) (n0 n1 n2 n3 n4 n5 n6 : List (Output S)) → p ≡ settled_all (entries_in a.executed) o
      → n0 ≡ []
      → n1 ≡ n0 ++ f → n2 ≡ n1 ++ g → n3 ≡ n2 ++ map install a.installed → n4 ≡ n3 ++ map install b.installed
      → n5 ≡ n4 ++ executed_outputs (entries_in a.executed) o.proposed → n6 ≡ n5 ++ executed_outputs (entries_in b.executed) p.proposed
      → n6 ≡ said_outputs (f ++ g) s o.proposed
  all_outputs f g o p n0 n1 n2 n3 n4 n5 n6 settles e0 e1 e2 e3 e4 e5 e6 =
      e6
      ∙ ((λ i. (e5 ∙ ap (λ n. n ++ executed_outputs es o.proposed)
      (e4 ∙ ap (λ n. n ++ map install b.installed)
      (e3 ∙ ap (λ n. n ++ map install a.installed) (e2 ∙ ap (λ n. n ++ g) (e1 ∙ ap (λ n. n ++ f) e0))))) i
      ++ executed_outputs fs (settles i).proposed)
      ∙ (sym (both_outputs f g o) ∙ ap (λ (r : PackedRecords S). said_outputs (f ++ g) r o.proposed) both))
