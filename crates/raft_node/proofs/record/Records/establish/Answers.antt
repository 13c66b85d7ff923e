use Rattle.std.proofs.Common.{ℕ, ◌≡◌, ◌++◌, ◌∷◌, ◌∙◌, [], List, ap, arith, length, subst, sym, take}
use Rattle.std.specs.Prelude.{OnOk}
use Rattle.raft_store.specs.declared.entry.Entry.{Entry}
use Rattle.raft_store.specs.Store.{whole}
use Rattle.raft_node.specs.Kept.{decided_in, established_in, kept_in}
use Rattle.raft_node.specs.Net.{Records}
use Rattle.raft_node.specs.Safety.{RecordsGrow}
use Rattle.std.proofs.lemmas.List.{take_all}
use Rattle.raft_node.proofs.Recorded.{establish_kept, establish_view}
use Rattle.raft_node.proofs.record.Records.establish.Goals as goal

pub invariant_of-self : goal.invariant_of-self
invariant_of-self c =
    let es : List Entry = whole c.args.store.now in
    let grow : RecordsGrow (record (kept_in c.self.inside.logs c.self.inside.decided.items c.self.inside.established.items) { established = established_in c.self.inside.logs c.self.inside.established.items ++ record { leader_id = c.args.leader_id; log = es } ∷ [] }) =
    subst (λ (v : Records (List Entry)). RecordsGrow (record v { established = v.established ++ record { leader_id = c.args.leader_id; log = es } ∷ [] })) (sym c.self.view_is) c.requires.grows in
    establish_kept c.args.leader_id es es c.whole_len-log.result c.whole_len-log.ensures
    (ap (λ (m : ℕ). take m es) c.whole_len-log.ensures ∙ take_all (length es) es (omega arith))
    c.self.inside.logs c.push_record.new.logs c.self.inside.decided.items c.self.inside.established.items c.push_record.new.records.items c.self.invariant grow
    c.push_record.result c.push_record.ensures.pushed c.push_record.ensures.added c.push_record.ensures.kept c.push_record.ensures.same

pub returns : goal.returns
returns c =
    let es : List Entry = whole c.args.store.now in
    let grow : RecordsGrow (record (kept_in c.self.inside.logs c.self.inside.decided.items c.self.inside.established.items) { established = established_in c.self.inside.logs c.self.inside.established.items ++ record { leader_id = c.args.leader_id; log = es } ∷ [] }) =
    subst (λ (v : Records (List Entry)). RecordsGrow (record v { established = v.established ++ record { leader_id = c.args.leader_id; log = es } ∷ [] })) (sym c.self.view_is) c.requires.grows in
    subst
    (λ (v : Records (List Entry)).
    OnOk c.push_record.result
    (◌≡◌ {A = Records (List Entry)}
    (record {
      bag = c.self.inside.bag;
      executed = c.self.inside.executed.items;
      installed = c.self.inside.installed.items;
      decided = decided_in c.push_record.new.logs c.self.inside.decided.items;
      established = established_in c.push_record.new.logs c.push_record.new.records.items;
      answers = c.self.inside.answers.items;
    })
    (record v { established = v.established ++ record { leader_id = c.args.leader_id; log = es } ∷ [] })))
    c.self.view_is
    (establish_view c.args.leader_id es es c.whole_len-log.result c.whole_len-log.ensures
    (ap (λ (m : ℕ). take m es) c.whole_len-log.ensures ∙ take_all (length es) es (omega arith))
    c.self.inside.logs c.push_record.new.logs c.self.inside.decided.items c.self.inside.established.items c.push_record.new.records.items c.self.invariant grow
    c.push_record.result
    (record {
      bag = c.self.inside.bag;
      executed = c.self.inside.executed.items;
      installed = c.self.inside.installed.items;
      decided = [];
      established = [];
      answers = c.self.inside.answers.items;
    })
    c.push_record.ensures.pushed c.push_record.ensures.added)
