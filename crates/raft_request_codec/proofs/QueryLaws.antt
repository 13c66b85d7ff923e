-- The codec of queries is inverse to its writer.
use Rattle.std.proofs.Common.{ℕ, ◌≡◌, ◌<◌, eqb, List, ◌++◌, length, Ok, refl, inl, inr, arith}
use Rattle.raft_codec.specs.Codec.{IsCodec, number, raw, flag, optional, pair, tag_at}
use Rattle.raft_codec.specs.CodecLaws.{Stands, bind_ok, chosen, number_is, raw_is, flag_is, optional_is, list_is, pair_is, by_parts_is}
use Rattle.raft_codec.specs.VariantLaws.{bare_stands, variant_stands}
use Rattle.raft_machine.specs.declared.command.Query.{Query}
use Rattle.raft_machine.specs.declared.command.Query.TheVariants.{Get, GetMany, Exists, Length, Size, Remaining, RemainingSeconds, Deadline, DeadlineSeconds, Scan}
use Rattle.raft_request_codec.specs.Queries.{scan_options, keys, query}

pub scan_options_is : IsCodec scan_options
unfolding scan_options
scan_options_is = by_parts_is _ _ _ (λ o. refl) (λ p. refl) (pair_is number (pair number (pair (optional raw) flag)) number_is (pair_is number (pair (optional raw) flag) number_is (pair_is (optional raw) flag (optional_is raw raw_is) flag_is)))

pub keys_is : IsCodec keys
keys_is = list_is raw raw_is

query_some : (x : Query) → 0 < length (query.bytes x)
unfolding query
query_some (Get k) = omega arith
query_some (GetMany ks) = omega arith
query_some (Exists ks) = omega arith
query_some (Length k) = omega arith
query_some Size = omega arith
query_some (Remaining k) = omega arith
query_some (RemainingSeconds k) = omega arith
query_some (Deadline k) = omega arith
query_some (DeadlineSeconds k) = omega arith
query_some (Scan o) = omega arith

query_back : (x : Query) (rest : List ℕ) → query.fits x → query.read (query.bytes x ++ rest) ≡ Ok (x, rest)
unfolding query tag_at
query_back (Get k) rest h = rw (raw_is.read_back k rest h) refl
query_back (GetMany ks) rest h = rw (keys_is.read_back ks rest h) refl
query_back (Exists ks) rest h = rw (keys_is.read_back ks rest h) refl
query_back (Length k) rest h = rw (raw_is.read_back k rest h) refl
query_back Size rest h = refl
query_back (Remaining k) rest h = rw (raw_is.read_back k rest h) refl
query_back (RemainingSeconds k) rest h = rw (raw_is.read_back k rest h) refl
query_back (Deadline k) rest h = rw (raw_is.read_back k rest h) refl
query_back (DeadlineSeconds k) rest h = rw (raw_is.read_back k rest h) refl
query_back (Scan o) rest h = rw (scan_options_is.read_back o rest h) refl

query_written : (front : List ℕ) (found : Query × List ℕ) → query.read front ≡ Ok found → Stands query front found
unfolding query
query_written front found e =
    let t = bind_ok (tag_at front) _ found e in
    elim (chosen (eqb t.0.0 0) _ _ _ t.2) [
      | inl k0 ↦ variant_stands query front found t.0 0 raw raw_is Get t.1 k0.0 k0.1 (λ x f. f) (λ x. refl)
      | inr k0 ↦ elim (chosen (eqb t.0.0 1) _ _ _ k0.1) [
        | inl k1 ↦ variant_stands query front found t.0 1 keys keys_is GetMany t.1 k1.0 k1.1 (λ x f. f) (λ x. refl)
        | inr k1 ↦ elim (chosen (eqb t.0.0 2) _ _ _ k1.1) [
          | inl k2 ↦ variant_stands query front found t.0 2 keys keys_is Exists t.1 k2.0 k2.1 (λ x f. f) (λ x. refl)
          | inr k2 ↦ elim (chosen (eqb t.0.0 3) _ _ _ k2.1) [
            | inl k3 ↦ variant_stands query front found t.0 3 raw raw_is Length t.1 k3.0 k3.1 (λ x f. f) (λ x. refl)
            | inr k3 ↦ elim (chosen (eqb t.0.0 4) _ _ _ k3.1) [
              | inl k4 ↦ bare_stands query front found t.0 4 Size t.1 k4.0 k4.1 tt refl
              | inr k4 ↦ elim (chosen (eqb t.0.0 5) _ _ _ k4.1) [
                | inl k5 ↦ variant_stands query front found t.0 5 raw raw_is Remaining t.1 k5.0 k5.1 (λ x f. f) (λ x. refl)
                | inr k5 ↦ elim (chosen (eqb t.0.0 6) _ _ _ k5.1) [
                  | inl k6 ↦ variant_stands query front found t.0 6 raw raw_is RemainingSeconds t.1 k6.0 k6.1 (λ x f. f) (λ x. refl)
                  | inr k6 ↦ elim (chosen (eqb t.0.0 7) _ _ _ k6.1) [
                    | inl k7 ↦ variant_stands query front found t.0 7 raw raw_is Deadline t.1 k7.0 k7.1 (λ x f. f) (λ x. refl)
                    | inr k7 ↦ elim (chosen (eqb t.0.0 8) _ _ _ k7.1) [
                      | inl k8 ↦ variant_stands query front found t.0 8 raw raw_is DeadlineSeconds t.1 k8.0 k8.1 (λ x f. f) (λ x. refl)
                      | inr k8 ↦ elim (chosen (eqb t.0.0 9) _ _ _ k8.1) [
                        | inl k9 ↦ variant_stands query front found t.0 9 scan_options scan_options_is Scan t.1 k9.0 k9.1 (λ x f. f) (λ x. refl)
                        | inr k9 ↦ absurd cc
                      ]
                    ]
                  ]
                ]
              ]
            ]
          ]
        ]
      ]
    ]

pub query_is : IsCodec query
query_is = record { written = query_written; some = query_some; read_back = query_back }
