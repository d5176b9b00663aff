-- The words of a line.
use Rattle.std.specs.Prelude.{◌≡◌, ℕ, Bool, true, ◌&&◌, nat_le, List, map}
use Rattle.std.specs.List.{AllByRecursion, list_all}
use Rattle.std.specs.Borrow.{Bor}

-- an octet that a word can have: ASCII, and no blank
abbrev pub is_printed : ℕ → Bool
is_printed octet = nat_le 33 octet && nat_le octet 126

-- octets of one word
abbrev pub IsWord : List ℕ → Type 0
IsWord word = list_all is_printed word ≡ true

-- words of a line
abbrev pub AreWords : List (List ℕ) → Type 0
AreWords words = AllByRecursion IsWord words

-- the texts of words that are borrowed
abbrev pub texts : List (Bor (List ℕ)) → List (List ℕ)
texts words = map (λ word. word.now) words
