-- What stands for a list of entries, which are in the order of the record, and for those of a world.
use Rattle.std.specs.Prelude.{◌≡◌, List, length}
use Rattle.hk_base.specs.TailoringParts.{TailoringParts}
use Rattle.pus_messages.specs.Messages.{protocol}
use Rattle.hk_world.specs.Worlds.{World, IsWorld}
use Rattle.ground_history.specs.Bounds.{history_in}
use Rattle.session_record.specs.declared.header.Header.{Header}
use Rattle.session_record.specs.declared.entry.Entry.{Entry}
use Rattle.session_texts.specs.Sessions.{known_after, kinds_after}
use Rattle.session_texts.specs.Truth.{kinds_in}
use Rattle.block_lines.specs.Counts.{counts_of}
use Rattle.decommutator.specs.Standing.{Standing}

-- what stands for entries
abbrev pub standing_of : TailoringParts → Header → List Entry → Standing
standing_of t h entries =
    record {
      tailoring = t;
      history = known_after (protocol t) h entries;
      counts = counts_of (kinds_after (protocol t) h entries);
      entries = length entries;
    }

-- What is known, and what became of packets, is what the ground knows in a world of the tailoring.
pub record IsStandingIn (w : World) (s : Standing) : Type 0 where
  pub world : IsWorld w
  pub tailoring : w.session.protocol ≡ protocol s.tailoring
  pub history : s.history ≡ history_in w
  pub counts : s.counts ≡ counts_of (kinds_in w)
