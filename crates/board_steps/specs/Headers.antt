-- The counts in the headers of a board's reports.
use Rattle.std.specs.Prelude.{ℕ, zero, suc, ◌%◌, List, [], ◌∷◌, filter, Bool, ◌&&◌, ◌==◌}
use Rattle.pus_messages.specs.declared.message.Report.{Report}

-- so many numbers, each one less than the one before it and the last one 0, modulo another number
abbrev pub falling : ℕ → ℕ → List ℕ
falling modulus zero = []
falling modulus (suc n) = n % modulus ∷ falling modulus n

-- whether a report is of a message type, by its service and subtype
abbrev pub has_type : ℕ → ℕ → Report → Bool
has_type service subtype r = r.header.service == service && r.header.subtype == subtype

-- the reports of a message type
abbrev pub of_type : ℕ → ℕ → List Report → List Report
of_type service subtype reports = filter (has_type service subtype) reports
