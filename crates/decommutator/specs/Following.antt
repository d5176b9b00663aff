-- Blocks that are written as soon as they can't be taken back, one entry after the other.
use Rattle.std.specs.Prelude.{◌≡◌, ℕ, List, [], ◌++◌, filter, flat_map, map, reverse, Bool, not, ◌||◌, Some, unwrap_or}
use Rattle.hk_base.specs.TailoringParts.{TailoringParts}
use Rattle.pus_messages.specs.Messages.{protocol}
use Rattle.ground_history.specs.Histories.{Kept, tag_of}
use Rattle.session_record.specs.declared.header.Header.{Header}
use Rattle.session_record.specs.declared.entry.Entry.{Entry}
use Rattle.session_texts.specs.Blocks.{block}
use Rattle.session_texts.specs.Follow.{is_ready, has_tag, known_by, written_tags}
use Rattle.block_lines.specs.Counts.{lines_of}
use Rattle.decommutator.specs.Standing.{Decommutation, with_entry}
use Rattle.decommutator.specs.Entries.{standing_of}

-- the tags of the kept packets whose blocks aren't written
abbrev pub waiting_tags : Decommutation → List ℕ
waiting_tags d = unwrap_or d.waiting []

-- whether the block of a packet that is kept after one more entry isn't written before it: it waited, or the entry brought it
abbrev pub is_unwritten : Decommutation → Kept → Bool
is_unwritten d k = has_tag (waiting_tags d) k || not (has_tag (map tag_of d.standing.history.kept) k)

-- the kept packets after one more entry whose blocks aren't written before it
abbrev pub unwritten : Decommutation → Entry → List Kept
unwritten d e = filter (is_unwritten d) (with_entry d.standing e).history.kept

-- whether the block of a packet can be written after one more entry
abbrev pub is_ready_after : Decommutation → Entry → Kept → Bool
is_ready_after d e k = is_ready d.standing.tailoring (with_entry d.standing e).history k

-- the blocks that an entry brings
abbrev pub followed_text : Decommutation → Entry → List ℕ
followed_text d e = flat_map (block d.standing.tailoring (with_entry d.standing e).history) (filter (is_ready_after d e) (unwritten d e))

-- what stands after an entry that was followed
abbrev pub after_followed : Decommutation → Entry → Decommutation
after_followed d e =
    record { standing = with_entry d.standing e; waiting = Some (map tag_of (filter (λ k. not (is_ready_after d e k)) (unwritten d e))) }

-- what is written at the end: the other blocks, and the counts
abbrev pub closing_text : Decommutation → List ℕ
closing_text d =
    flat_map (block d.standing.tailoring d.standing.history) (filter (has_tag (waiting_tags d)) d.standing.history.kept) ++ lines_of d.standing.counts

-- What stands for entries, the newest first, that were each followed: what stands for them, and the tags of the kept packets whose blocks
-- aren't written.
pub record IsFollowing (t : TailoringParts) (h : Header) (entries : List Entry) (d : Decommutation) : Type 0 where
  pub standing : d.standing ≡ standing_of t h (reverse entries)
  pub waiting : d.waiting ≡ Some (map tag_of (filter (λ k. not (has_tag (written_tags (protocol t) h entries) k)) (known_by (protocol t) h entries).kept))
