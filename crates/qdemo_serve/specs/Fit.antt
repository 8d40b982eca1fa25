-- The settings that a demonstration may have.
use Rattle.std.specs.Prelude.{◌≤◌}
use Rattle.qdemo_serve.specs.declared.settings.Settings.{Settings}

-- 1 to 32 clients, 1 to 16 servers, and 1 to 1,000 rounds
abbrev pub Fit : Settings → Type 0
Fit s = (1 ≤ s.clients) × (s.clients ≤ 32) × (1 ≤ s.servers) × (s.servers ≤ 16) × (1 ≤ s.rounds)
    × (s.rounds ≤ 1000)
