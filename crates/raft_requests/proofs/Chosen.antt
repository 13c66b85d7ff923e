-- SET's options, one after the other.
use Rattle.std.proofs.Common.{◌≡◌, Bool, true, false, cond, List, [], ◌∷◌, Option, Some, None, length, refl, sym, ap, ◌∙◌, arith}
use Rattle.std.specs.Prelude.{not, fold, ◌||◌, ◌&&◌}
use Rattle.std.specs.List.{list_any}
use Rattle.std.specs.Option.{option_and_then}
use Rattle.raft_machine.specs.Numbers.{integer_of}
use Rattle.raft_requests.specs.declared.times.TimeForm.{TimeForm}
use Rattle.raft_requests.specs.declared.times.TimeForm.TheVariants.{Seconds, Milliseconds, UnixSeconds, UnixMilliseconds}
use Rattle.raft_requests.specs.declared.options.SetOption.{SetOption}
use Rattle.raft_requests.specs.declared.options.SetOption.TheVariants.{IfAbsent, IfPresent, Get, KeepTtl, Time}
use Rattle.raft_requests.specs.declared.options.DraftExpiry.{DraftExpiry}
use Rattle.raft_requests.specs.declared.options.DraftExpiry.TheVariants as draft
use Rattle.raft_requests.specs.declared.options.Draft.{Draft}
use Rattle.raft_requests.specs.Words.{Word}
use Rattle.raft_requests.specs.Options.{flag_of, form_of, first_of, option_at, choices, behind, same_form, contradict, agree, unsaid, said, drafted, clashes, added, is_if_present, is_if_absent, is_time, is_other_time}

-- ---- each option beside what was said

abbrev pub all_added : Draft → List SetOption → Option Draft
all_added d [] = Some d
all_added d (o ∷ os) = option_and_then (λ e. all_added e os) (added d o)

-- what was said, and the options that words spell
abbrev pub after : Draft → List Word → Option Draft
after d ws = option_and_then (all_added d) (choices ws)

nothing : (o : Option Draft) → option_and_then (λ (e : Draft). let n : Option Draft = None in n) o ≡ None
nothing None = refl
nothing (Some x) = refl

behind_added : (d : Draft) (o : SetOption) (c : Option (List SetOption)) → option_and_then (all_added d) (behind o c) ≡ option_and_then (λ e. option_and_then (all_added e) c) (added d o)
behind_added d o None = sym (nothing (added d o))
behind_added d o (Some os) = refl

pub after_none : (d : Draft) → after d [] ≡ Some d
unfolding choices
after_none d = refl

pub after_flag : (d : Draft) (w : Word) (ws : List Word) (o : SetOption) → flag_of w ≡ Some o → after d (w ∷ ws) ≡ option_and_then (λ e. after e ws) (added d o)
unfolding choices
after_flag d w [] o e = rw e refl
after_flag d w (n ∷ ws) o e = rw e (behind_added d o (choices (n ∷ ws)))

pub after_time : (d : Draft) (w n : Word) (ws : List Word) (f : TimeForm) → flag_of w ≡ None → form_of w ≡ Some f → after d (w ∷ n ∷ ws) ≡ option_and_then (λ e. after e ws) (added d (Time f (integer_of n)))
unfolding choices
after_time d w n ws f e h = rw (e, h) (behind_added d (Time f (integer_of n)) (choices ws))

pub after_other : (d : Draft) (w : Word) (ws : List Word) → flag_of w ≡ None → form_of w ≡ None → after d (w ∷ ws) ≡ None
unfolding choices
after_other d w [] e h = rw e refl
after_other d w (n ∷ ws) e h = rw (e, h) refl

pub after_cut : (d : Draft) (w : Word) → flag_of w ≡ None → after d (w ∷ []) ≡ None
unfolding choices
after_cut d w e = rw e refl

abbrev then : Draft → SetOption × List Word → Option Draft
then d p = option_and_then (λ e. after e p.1) (added d p.0)

-- an option at the front is added, and then those behind it
pub after_option : (d : Draft) (w : Word) (ws : List Word) → after d (w ∷ ws) ≡ option_and_then (then d) (option_at w ws)
unfolding option_at
after_option d w ws = go (flag_of w) refl (form_of w) refl ws where
  go : (o : Option SetOption) → flag_of w ≡ o → (f : Option TimeForm) → form_of w ≡ f → (ws : List Word) → after d (w ∷ ws) ≡ option_and_then (then d) (first_of o f ws)
  go (Some o) e f h ws = after_flag d w ws o e
  go None e None h ws = after_other d w ws e h
  go None e (Some f) h [] = after_cut d w e
  go None e (Some f) h (n ∷ ws) = after_time d w n ws f e h

-- ---- options that agree, one with the other, are those each of which agrees with what was said before it

or_false : (b : Bool) → b ≡ (b || false)
or_false true = refl
or_false false = refl

or_true : (b : Bool) → true ≡ (b || true)
or_true true = refl
or_true false = refl

or_same : (b : Bool) → b ≡ (b || b)
or_same true = refl
or_same false = refl

same_forms : (f g : TimeForm) → same_form f g ≡ true → f ≡ g
same_forms Seconds Seconds h = refl
same_forms Milliseconds Milliseconds h = refl
same_forms UnixSeconds UnixSeconds h = refl
same_forms UnixMilliseconds UnixMilliseconds h = refl
same_forms _ _ h = absurd cc

not_false : (b : Bool) → not b ≡ false → b ≡ true
not_false true h = refl
not_false false h = absurd cc

times : (x : DraftExpiry) (f g : TimeForm) → is_other_time f x ≡ false → not (same_form f g) ≡ (is_other_time g x || not (same_form f g))
times draft.Never f g h = refl
times draft.Keep f g h = absurd cc
times (draft.Time e n) f g h = let s : e ≡ f = same_forms e f (not_false (same_form e f) h) in rw s (or_same (not (same_form f g)))

one_more : (d : Draft) (o p : SetOption) → clashes d o ≡ false → clashes (said d o) p ≡ (clashes d p || contradict o p)
one_more d IfAbsent IfAbsent h = rw h refl
one_more d IfAbsent IfPresent h = or_true (is_if_absent d.condition)
one_more d IfAbsent Get h = refl
one_more d IfAbsent KeepTtl h = or_false (is_time d.expiry)
one_more d IfAbsent (Time g m) h = or_false (is_other_time g d.expiry)
one_more d IfPresent IfAbsent h = or_true (is_if_present d.condition)
one_more d IfPresent IfPresent h = rw h refl
one_more d IfPresent Get h = refl
one_more d IfPresent KeepTtl h = or_false (is_time d.expiry)
one_more d IfPresent (Time g m) h = or_false (is_other_time g d.expiry)
one_more d Get IfAbsent h = or_false (is_if_present d.condition)
one_more d Get IfPresent h = or_false (is_if_absent d.condition)
one_more d Get Get h = refl
one_more d Get KeepTtl h = or_false (is_time d.expiry)
one_more d Get (Time g m) h = or_false (is_other_time g d.expiry)
one_more d KeepTtl IfAbsent h = or_false (is_if_present d.condition)
one_more d KeepTtl IfPresent h = or_false (is_if_absent d.condition)
one_more d KeepTtl Get h = refl
one_more d KeepTtl KeepTtl h = rw h refl
one_more d KeepTtl (Time g m) h = or_true (is_other_time g d.expiry)
one_more d (Time f n) IfAbsent h = or_false (is_if_present d.condition)
one_more d (Time f n) IfPresent h = or_false (is_if_absent d.condition)
one_more d (Time f n) Get h = refl
one_more d (Time f n) KeepTtl h = or_true (is_time d.expiry)
one_more d (Time f n) (Time g m) h = times d.expiry f g h

split : (a b x y : Bool) → ((a || b) || (x || y)) ≡ ((a || x) || (b || y))
split true b x y = refl
split false true true y = refl
split false true false y = refl
split false false x y = refl

any_clash : (d : Draft) (o : SetOption) (os : List SetOption) → clashes d o ≡ false → list_any (clashes (said d o)) os ≡ (list_any (clashes d) os || list_any (contradict o) os)
any_clash d o [] h = refl
any_clash d o (p ∷ os) h =
    ap (λ b. b || list_any (clashes (said d o)) os) (one_more d o p h)
    ∙ ap (λ b. (clashes d p || contradict o p) || b) (any_clash d o os h)
    ∙ split (clashes d p) (contradict o p) (list_any (clashes d) os) (list_any (contradict o) os)

neither : (a b : Bool) → not (a || b) ≡ (not a && not b)
neither true b = refl
neither false b = refl

joined : (a b c : Bool) → ((a && b) && c) ≡ (a && (b && c))
joined true b c = refl
joined false b c = refl

all_added_is : (d : Draft) (os : List SetOption) → all_added d os ≡ cond (not (list_any (clashes d) os) && agree os) (Some (fold said d os)) None
all_added_is d [] = refl
all_added_is d (o ∷ os) =
    elim (clashes d o) as (λ b. clashes d o ≡ b → option_and_then (λ e. all_added e os) (cond b None (Some (said d o))) ≡ cond (not (b || list_any (clashes d) os) && agree (o ∷ os)) (Some (fold said d (o ∷ os))) None) [
      | true ↦ λ h. refl
      | false ↦ λ h.
          all_added_is (said d o) os
          ∙ ap (λ b. cond (b && agree os) (Some (fold said (said d o) os)) None) (ap not (any_clash d o os h) ∙ neither (list_any (clashes d) os) (list_any (contradict o) os))
          ∙ ap (λ b. cond b (Some (fold said (said d o) os)) None) (joined (not (list_any (clashes d) os)) (not (list_any (contradict o) os)) (agree os))
    ] refl

unclashing : (os : List SetOption) → list_any (clashes unsaid) os ≡ false
unclashing [] = refl
unclashing (IfAbsent ∷ os) = unclashing os
unclashing (IfPresent ∷ os) = unclashing os
unclashing (Get ∷ os) = unclashing os
unclashing (KeepTtl ∷ os) = unclashing os
unclashing (Time f n ∷ os) = unclashing os

all_said : (c : Option (List SetOption)) → option_and_then (all_added unsaid) c ≡ option_and_then (λ os. cond (agree os) (Some (fold said unsaid os)) None) c
all_said None = refl
all_said (Some os) = all_added_is unsaid os ∙ ap (λ b. cond (not b && agree os) (Some (fold said unsaid os)) None) (unclashing os)

pub drafted_is : (ws : List Word) → after unsaid ws ≡ drafted ws
unfolding drafted
drafted_is ws = all_said (choices ws)

-- ---- the loop

module _ (all ws : List Word) (d : Draft) {w : Word} {rest : List Word} (so_far : after d ws ≡ after unsaid all) (front : ws ≡ w ∷ rest) where
  on : after unsaid all ≡ option_and_then (then d) (option_at w rest)
  on = sym so_far ∙ ap (after d) front ∙ after_option d w rest

  pub no_option : None ≡ option_at w rest → None ≡ drafted all
  no_option e = sym (sym (drafted_is all) ∙ on ∙ ap (option_and_then (then d)) (sym e))

  pub clashing : (o : SetOption) (behind : List Word) → Some (o, behind) ≡ option_at w rest → None ≡ added d o → None ≡ drafted all
  clashing o behind e c = sym (sym (drafted_is all) ∙ on ∙ ap (option_and_then (then d)) (sym e) ∙ ap (option_and_then (λ x. after x behind)) (sym c))

  pub goes_on : (o : SetOption) (behind : List Word) (x : Draft) → Some (o, behind) ≡ option_at w rest → Some x ≡ added d o → after x behind ≡ after unsaid all
  goes_on o behind x e c = sym (on ∙ ap (option_and_then (then d)) (sym e) ∙ ap (option_and_then (λ x. after x behind)) (sym c))

no_words : (ws : List Word) → length ws ≡ 0 → ws ≡ []
no_words [] h = refl
no_words (w ∷ ws) h = absurd (omega arith)

pub ended : (all ws : List Word) (d : Draft) → after d ws ≡ after unsaid all → length ws ≡ 0 → Some d ≡ drafted all
ended all ws d so_far none = sym (after_none d) ∙ sym (ap (after d) (no_words ws none)) ∙ so_far ∙ drafted_is all
