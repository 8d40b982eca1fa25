-- The six properties as a law.
use Rattle.qrules.specs.Properties.{HasProperties}
use Rattle.qrules_laws.specs.Lawful.{AfterEach}

-- each valid history has the six properties
abbrev pub PropertiesHold : Type 0
PropertiesHold = AfterEach HasProperties
