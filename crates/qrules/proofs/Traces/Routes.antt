-- Routes: a live connection to an open channel.
use Rattle.qrules.proofs.Common.{arith, ◌≡◌, ℕ, cond, true, Badf, Connection, Option, None, Some, is_some}
use Rattle.qrules.proofs.Traces.Parts.{leads_to}
use Rattle.qrules.proofs.Words.Facts.{Facts, route}

-- there is a connection to channel h, and the channel is open
pub record Leads (f : Facts) (o : Option Connection) (h : ℕ) : Type 0 where
  pub connection : Connection
  pub is : o ≡ Some connection
  pub channel : connection.channel ≡ h
  pub is_open : is_some (f.channel h) ≡ true

pub leads_over : (f : Facts) (t : ℕ) (o : Option Connection) (h : ℕ) → leads_to f t o ≡ Some h → Leads f o h
leads_over f t o h e = grind arith

-- an accepted Send has a route, and so has an accepted Pulse
pub has_way : (f : Facts) (t coid : ℕ) → cond (is_some (route f t coid)) None (Some Badf) ≡ None
    → (h : ℕ) × (route f t coid ≡ Some h)
has_way f t coid r = grind arith
