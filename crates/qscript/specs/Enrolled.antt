-- A roster that members join one after another.
use Rattle.std.specs.Prelude.{◌≡◌, List, [], ◌∷◌, None}
use Rattle.qtables.specs.declared.member.Member.{Member}
use Rattle.qtables.specs.Members.{with_member, join_refusal}

-- the roster after these members joined it, one after another
abbrev pub roster_with : List Member → List Member → List Member
roster_with roster [] = roster
roster_with roster (m ∷ members) = roster_with (with_member m roster) members

-- each of these members may join the roster once the members before it have joined
abbrev pub AllJoin : List Member → List Member → Type 0
AllJoin roster [] = Unit {0}
AllJoin roster (m ∷ members) = (join_refusal roster m.thread ≡ None) × AllJoin (with_member m roster) members
