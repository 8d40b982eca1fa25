-- The laws of Info.
use Rattle.qrules.proofs.Common.{arith, ◌≡◌, ℕ, option_map, None, Completion, Option, Some}
use Rattle.qrules.proofs.Words.Items.{info_completion, item_in}
use Rattle.qmodel.specs.declared.call.Info.{Info as Told}
use Rattle.qrules.proofs.Traces.Past.Laws.{IsOwn}

-- its completion is its own, and receives no item
pub record IsPlain (n t : ℕ) (y : Completion) : Type 0 where
  pub own : IsOwn n t y
  pub mark : item_in y.mark ≡ None

pub plain : (n t : ℕ) (o : Option Told) (y : Completion) → option_map (info_completion n t) o ≡ Some y → IsPlain n t y
plain n t o y e = grind arith
