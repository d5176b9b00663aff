-- What a call on a text answers, against what a definition gives. Want of memory alone is free.
use Rattle.std.specs.Prelude.{◌≡◌, ⊤, Option, Some, None, Result, Ok, Err}
use Rattle.journal_texts.specs.declared.fault.JournalFault.{JournalFault}
use Rattle.journal_texts.specs.declared.fault.JournalFault.TheVariants.{BadLine, Memory}

-- a result is what is given: Ok where there is something, BadLine where there is nothing
abbrev pub Gives : {X : Type 0} → Result X JournalFault → Option X → Type 0
Gives (Ok x) given = given ≡ Some x
Gives (Err BadLine) given = given ≡ None
Gives (Err Memory) given = ⊤
