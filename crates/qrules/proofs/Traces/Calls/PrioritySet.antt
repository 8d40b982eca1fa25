-- The laws of PrioritySet.
use Rattle.qrules.proofs.Common.{arith, ◌≡◌, ◌⊎◌, ℕ, None, Call}
use Rattle.qrules.proofs.Words.Items.{receipt_of}
use Rattle.qrules.proofs.Words.Facts.{Facts}
use Rattle.qrules.proofs.Words.Effects.{makes, sets}

-- ---- a call that sets a priority makes no item, and receives none

pub record SetsAlone (c : Call) : Type 0 where
  pub makes_none : (f : Facts) (t : ℕ) → makes f t c ≡ None
  pub receives_none : (f : Facts) (t : ℕ) → (receipt_of f t c) ≡ None

pub sets_alone : (c : Call) → (sets c ≡ None) ⊎ SetsAlone c
sets_alone c = grind arith
