-- A call that fails changes only the number of calls.
use Rattle.qrules.proofs.Common.{◌≡◌, ◌∙◌, ℕ, ◌+◌, sym, false, Call}
use Rattle.std.proofs.Math.Nat.{add-zero}
use Rattle.qrules.proofs.Basics.{Facts, Follows}
use Rattle.qrules.proofs.Once.{one_facts}

-- the facts after a call that fails are the facts before it
pub only_counted : (f g : Facts) (t : ℕ) (c : Call) → Follows f t c false g → g ≡ record f { number = f.number + 1 }
only_counted f g t c k =
    one_facts g (record f { number = f.number + 1 }) k.roster k.number k.down k.channel
    (sym (add-zero _) ∙ k.open_channels ∙ add-zero _) k.connection
    (sym (add-zero _) ∙ k.live_connections ∙ add-zero _) k.open_call k.pending k.priority
