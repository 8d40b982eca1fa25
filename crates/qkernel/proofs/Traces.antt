-- Statements of the rules about a history and a kernel that matches it, in the terms of the laws of `qmodel`.
use Rattle.qkernel.proofs.Common.{◌≡◌, ◌+◌, ℕ, List, [], ◌∷◌, ◌++◌, arith, length, refl, ap, open_call, is_blocked}
use Rattle.qkernel.proofs.Common.{facts_of, IsLawful, is_some, IsRoster, Member, members_of, State, MatchesAt}
use Rattle.qrules.proofs.Traces.Properties.All.{has_properties}
use Rattle.qrules.specs.Past.{was_done}
use Rattle.qrules.specs.Properties.{HasProperties}
use Rattle.qrules.specs.Trace.{followed_by, Event, Trace}

-- ---- a history

module _ (roster : List Member) (past : Trace) (lawful : IsLawful roster past) where
  pub blocked_same : (t : ℕ) → is_blocked (facts_of roster past) t ≡ is_some (open_call roster past t)
  blocked_same t = refl

  pub properties_of : IsRoster roster → HasProperties roster past
  properties_of rises = has_properties roster past rises lawful

pub followed_push : (past : Trace) (events : List Event) (e : Event)
    → followed_by past (events ++ e ∷ []) ≡ e ∷ followed_by past events
followed_push past [] e = refl
followed_push past (x ∷ events) e = followed_push (x ∷ past) events e

pub followed_length : (past : Trace) (events : List Event)
    → length (followed_by past events) ≡ length past + length events
followed_length past [] = omega arith
followed_length past (e ∷ events) =
    let rest : length (followed_by (e ∷ past) events) ≡ length (e ∷ past) + length events =
    followed_length (e ∷ past) events in omega arith

-- ---- a kernel that matches it

module _ (roster : List Member) (s : State) (past : Trace) (matches : MatchesAt roster s past) where
  pub matches_roster : members_of s.threads ≡ roster
  matches_roster = ap (λ f. f.roster) matches

  pub matches_made : s.made ≡ length past
  matches_made = let number : s.made + 1 ≡ length past + 1 = ap (λ f. f.number) matches in omega arith

  pub matches_down : s.down ≡ was_done (λ e. e.shuts_down) past
  matches_down = ap (λ f. f.down) matches
