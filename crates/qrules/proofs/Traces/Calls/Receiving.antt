-- The laws of a Receive or a ReceivePulse.
use Rattle.qrules.proofs.Common.{ℕ, List, Receive, Kind, OpenCall}

-- the open call of a receive
abbrev pub receiver : ℕ → Kind → List ℕ → ℕ → ℕ → OpenCall
receiver chid kind buffer n t =
    Receive (record { number = n; thread = t; channel = chid; kind = kind; buffer = buffer })
