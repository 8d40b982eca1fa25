use base.Fml.{GName}
use Rattle.std.proofs.Common.{◌≡◌, ◌⊎◌, sym, ap, inl, inr}
use Rattle.qtables.proofs.LookUps.{unchanged}
use Rattle.qtables.proofs.Slots.{key_in_use, entry_known, entry_at_none, lent, IsRising-entries_at}
use Rattle.qtables.proofs.entries.Entries.get_mut.Goals as goal

same_lent : {D E : Type 0} (n : GName) (F G : E → D) → ((w : E) → F w ≡ G w)
    → ◌≡◌ {A = (GName × (E → D)) ⊎ D} (inl (n, F)) (inl (n, G))
same_lent n F G same = λ t. inl (n, λ w. same w t)

pub returns-in_err-key : goal.returns-in_err-key
returns-in_err-key g c =
    let absent = rw c.deref.ensures.value at (sym c.in_err-key.ensures) in
    rw c.from_residual.ensures (
      ap inr c.self.view_is,
      record {
        writes_back = tt;
        value =
            rw (← c.self.view_is)
            (sym (entry_at_none c.self.inside.slots c.self.inside.index.items c.args.number c.self.invariant.held
            absent));
        unwritten = tt;
      },
    )

pub index_mut-requires : goal.index_mut-requires
index_mut-requires g c =
    let there = rw c.deref.ensures.value at (sym c.in_ok-key.ensures) in
    key_in_use c.self.inside.slots c.self.inside.index.items c.args.number c.in_ok-key.key c.self.invariant.held there

pub invariant_of-self-lent : goal.invariant_of-self-lent
invariant_of-self-lent g c w =
    let there = rw c.deref.ensures.value at (sym c.in_ok-key.ensures) in
    (lent c.self.inside.slots c.self.inside.index.items c.args.number c.in_ok-key.key c.index_mut.result.now
    c.self.invariant there c.index_mut.ensures.value w).1

pub returns : goal.returns
returns g c =
    let index = c.self.inside.index.items in
    let there = rw c.deref.ensures.value at (sym c.in_ok-key.ensures) in
    let found =
    entry_known c.self.inside.slots index c.args.number c.in_ok-key.key c.index_mut.result.now c.self.invariant.held
    there c.index_mut.ensures.value in
    rw (← c.self.view_is) (
      same_lent _ _ _
          (λ w. (lent c.self.inside.slots index c.args.number c.in_ok-key.key c.index_mut.result.now c.self.invariant
          there c.index_mut.ensures.value w).0),
      record {
        writes_back = tt;
        value = sym found.1;
        unwritten =
            unchanged _ c.args.number c.index_mut.result.now.1
            (IsRising-entries_at c.self.inside.slots index c.self.invariant.held c.self.invariant.rising) found.1;
      },
    )
