-- The numbers of a session that is made from a seed.
use Rattle.std.specs.Prelude.{◌≡◌, ℕ, List, ◌++◌, true, false}
use Rattle.hk_base.specs.TailoringParts.{TailoringParts}
use Rattle.pus_messages.specs.Messages.{protocol}
use Rattle.session_record.specs.Records.{header_of}
use Rattle.session_record.specs.declared.entry.Entry.{Entry}
use Rattle.session_texts.specs.Tallies.{tally, summary}
use Rattle.decommutator.specs.Standing.{Standing}
use Rattle.decommutator.specs.Entries.{standing_of}
use Rattle.generated_sessions.specs.Generated.{made_tailoring, generated}

-- the numbers of the session that a seed and a number of rounds make, as lines
unfoldable pub numbers_text : ℕ → ℕ → List ℕ
numbers_text seed count = summary (tally (protocol made_tailoring) (header_of true false) (generated seed count))

-- the same is known, and the same became of packets, whatever the number of entries
pub record Alike (s other : Standing) : Type 0 where
  pub tailoring : s.tailoring ≡ other.tailoring
  pub history : s.history ≡ other.history
  pub counts : s.counts ≡ other.counts

-- one stands for entries of a session with known start
abbrev pub StandsFor : TailoringParts → List Entry → Standing → Type 0
StandsFor t entries s = Alike s (standing_of t (header_of true false) entries)

-- whatever entries one stood for, the other stands for these entries after them; one that is refused changes nothing
abbrev pub Follows : List Entry → Standing → Standing → Type 0
Follows entries before after = (t : TailoringParts) (earlier : List Entry) → StandsFor t earlier before → StandsFor t (earlier ++ entries) after
