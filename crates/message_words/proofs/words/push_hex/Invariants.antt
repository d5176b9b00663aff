use Rattle.std.proofs.Common.{◌≡◌, ◌∷◌, ◌++◌, ◌-◌}
use Rattle.std.specs.String.{string_bytes}
use Rattle.message_words.specs.Words.{hex}
use Rattle.message_words.proofs.words.push_hex.Given as goal

abbrev pub invariant-loop-place : goal.invariant-loop-place
invariant-loop-place l = string_bytes l.line ++ hex (l.places - l.place) l.number ≡ string_bytes l.fn.line ++ (32 ∷ hex l.places l.number)
