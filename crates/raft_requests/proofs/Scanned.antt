-- Options of SCAN, one after the other.
use Rattle.std.proofs.Common.{◌≡◌, ◌<◌, true, false, eqb, ◌-◌, ◌≤◌, List, [], ◌∷◌, length, get_or, take, drop, Result, Ok, Err, refl, sym, ap, ◌∙◌, arith}
use Rattle.std.proofs.lemmas.Bool.{eqb-true}
use Rattle.std.proofs.lemmas.List.{take_all}
use Rattle.raft_machine.specs.declared.command.ScanOptions.{ScanOptions}
use Rattle.raft_requests.specs.declared.refusal.Refusal.{Refusal}
use Rattle.raft_requests.specs.declared.refusal.Refusal.TheVariants.{Syntax}
use Rattle.raft_requests.specs.declared.refusal.ParseError.{ParseError}
use Rattle.raft_requests.specs.declared.refusal.ParseError.TheVariants as error
use Rattle.raft_requests.specs.Refusals.{◌>>=◌, Refuses}
use Rattle.raft_requests.specs.ScanOptions.{with_option, scan_options}
use Rattle.raft_requests.specs.Words.{Word}

pub option_more : (o p : ScanOptions) (rest : List Word) (name w : Word) (after : List Word) (target : Result ScanOptions Refusal) → rest ≡ name ∷ w ∷ after → with_option o name w ≡ Ok p
    → scan_options o rest ≡ target → scan_options p after ≡ target
option_more o p rest name w after target front step h = sym (ap (λ r. r >>= λ q. scan_options q after) step) ∙ ap (scan_options o) (sym front) ∙ h

pub option_stops : (e : ParseError) (o : ScanOptions) (rest : List Word) (name w : Word) (after : List Word) (target : Result ScanOptions Refusal) → rest ≡ name ∷ w ∷ after → Refuses e (with_option o name w)
    → scan_options o rest ≡ target → Refuses e target
option_stops error.Memory o rest name w after target front step h = tt
option_stops (error.Refused r) o rest name w after target front step h = sym h ∙ ap (scan_options o) front ∙ ap (λ r. r >>= λ q. scan_options q after) step

pub options_done : (o : ScanOptions) (rest : List Word) (target : Result ScanOptions Refusal) → true ≡ eqb (length rest) 0 → scan_options o rest ≡ target → target ≡ Ok o
options_done o [] target e h = sym h
options_done o (w ∷ ws) target e h = let z : length (w ∷ ws) ≡ 0 = eqb-true (length (w ∷ ws)) 0 (sym e) in absurd (omega arith)

pub option_left : (o : ScanOptions) (rest : List Word) (target : Result ScanOptions Refusal) → length rest < 2 → false ≡ eqb (length rest) 0 → scan_options o rest ≡ target → target ≡ Err Syntax
option_left o [] target l e h = absurd cc
option_left o (w ∷ []) target l e h = sym h
option_left o (w ∷ v ∷ ws) target l e h = absurd (omega arith)

-- the words of an option, and those behind it
pub option_front : (rest : List Word) (name w : Word) → 2 ≤ length rest → name ≡ get_or rest 0 name → w ≡ get_or rest 1 w → rest ≡ name ∷ w ∷ take (length rest - 2) (drop 2 rest)
option_front [] name w l e f = absurd (omega arith)
option_front (x ∷ []) name w l e f = absurd (omega arith)
option_front (x ∷ y ∷ r) name w l e f =
    let whole : take (length (x ∷ y ∷ r) - 2) r ≡ r = take_all (length (x ∷ y ∷ r) - 2) r (omega arith) in
    ap (λ (h : Word). h ∷ y ∷ r) (sym e) ∙ ap (λ (h : Word). name ∷ h ∷ r) (sym f) ∙ ap (λ (t : List Word). name ∷ w ∷ t) (sym whole)
