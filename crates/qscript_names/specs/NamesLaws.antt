-- The threads and the calls of a script with names.
use Rattle.std.specs.Prelude.{◌≡◌, ℕ, List}
use Rattle.qtables.specs.declared.member.Member.{Member}
use Rattle.qmodel.specs.declared.call.Call.{Call}
use Rattle.qscript_text.specs.Reading.Meaning.{Says, meaning}
use Rattle.qscript_names.specs.declared.line.NamedLine.{NamedLine}
use Rattle.qscript_names.specs.Names.{none}
use Rattle.qscript_names.specs.Plain.{plain_text}
use Rattle.qscript_names.specs.ReadBack.{AllCanBeRead}
use Rattle.qscript_names.specs.Resolution.{calls_of, members_of}
use Rattle.qscript_names.specs.Translation.{meaning_of}

-- the threads and the calls of a script are the threads and the calls of its lines, one by one, with each
-- name replaced by its number
abbrev pub CallsAreReplaced : Type 0
CallsAreReplaced = (all : List NamedLine) (roster : List Member) (calls : List (ℕ × Call))
    → meaning_of all ≡ Says roster calls
    → (roster ≡ members_of none all) × (calls ≡ calls_of none all)

-- the plain script of lines that can be read back means the same as the lines
abbrev pub PlainTextIsRead : Type 0
PlainTextIsRead =
    (all : List NamedLine) → AllCanBeRead none all → meaning (plain_text none all) ≡ meaning_of all
