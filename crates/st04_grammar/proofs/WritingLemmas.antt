-- Fields that are appended one after another.
use Rattle.std.proofs.Common.{◌≡◌, ℕ, List, ◌++◌, Result, Ok, Err}
use Rattle.std.specs.Prelude.{OnOk, OnErr}
use Rattle.body_fields.specs.Outcomes.{Appends}
use Rattle.body_fields.proofs.WritingLemmas.{kept_before, kept_same, parts}

-- the last part after others
pub last_part : {X E : Type 0} (old part mid last new : List ℕ) (r : Result X E) → mid ≡ old ++ part → OnOk r (new ≡ mid ++ last) → OnErr r (new ≡ mid)
    → Appends old r new (part ++ last)
last_part old part mid last new (Ok x) e ok err = parts old part last mid new e ok
last_part old part mid last new (Err f) e ok err = kept_before old part mid new e (kept_same mid new err)

-- an earlier part before them
pub earlier_part : {X E : Type 0} (old part mid more new : List ℕ) (r : Result X E) → mid ≡ old ++ part → Appends mid r new more → Appends old r new (part ++ more)
earlier_part old part mid more new (Ok x) e rest = parts old part more mid new e rest
earlier_part old part mid more new (Err f) e rest = kept_before old part mid new e rest
