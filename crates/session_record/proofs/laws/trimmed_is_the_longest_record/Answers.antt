use Rattle.std.proofs.Common.{◌≡◌, List, ℕ, Some, subst, sym, take, drop}
use Rattle.std.proofs.lemmas.List.{take-append-drop}
use Rattle.session_record.specs.Records.{trimmed}
use Rattle.session_record.proofs.TrimLemmas.{no-longer, trimmed-clean}
use Rattle.session_record.proofs.FrontLemmas.{trimmed-front}
use Rattle.session_record.proofs.laws.trimmed_is_the_longest_record.Goals as goal

pub returns-clause-whole : goal.returns-clause-whole
returns-clause-whole c = trimmed-clean

pub returns-clause-longest : goal.returns-clause-longest
returns-clause-longest c = λ octets front n is clean.
    let P : List ℕ → Type 0 = λ xs. trimmed xs ≡ Some front in
    no-longer (take n octets) (drop n octets) front (subst P (sym (take-append-drop n octets)) is) clean

pub returns-clause-front : goal.returns-clause-front
returns-clause-front c = trimmed-front
