-- A request of the grammar names no structure twice.
use Rattle.std.specs.Prelude.{◌≡◌, ℕ, List, ⊤, Ok}
use Rattle.st03_grammar.specs.Instructions.{AreKeysApart}
use Rattle.pus_messages.specs.Protocol.{Protocol}
use Rattle.pus_messages.specs.declared.message.Request.{Request}
use Rattle.pus_messages.specs.declared.message.RequestBody.{RequestBody}
use Rattle.pus_messages.specs.declared.message.RequestBody.TheVariants.{Hk, Stat, Par}

-- no structure is named by two instructions of a body
abbrev pub NamesApart : RequestBody → Type 0
NamesApart (Hk r) = AreKeysApart r
NamesApart (Stat r) = ⊤
NamesApart (Par r) = ⊤

-- no request of a protocol names a structure twice
abbrev pub NoneTwice : Protocol → Type 0
NoneTwice p = (packet : List ℕ) (r : Request) → p.request packet ≡ Ok r → NamesApart r.body
