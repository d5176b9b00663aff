-- What is written while entries come: each block once, as soon as it can't be taken back. Entries stand with the newest first.
use Rattle.std.specs.Prelude.{ℕ, List, [], ◌∷◌, ◌++◌, filter, flat_map, map, reverse, Bool, true, false, not, ◌&&◌, ◌==◌}
use Rattle.std.specs.List.{list_any}
use Rattle.hk_base.specs.TailoringParts.{TailoringParts}
use Rattle.st03_grammar.specs.declared.bodies.Report03.TheVariants as hk
use Rattle.pus_messages.specs.Protocol.{Protocol}
use Rattle.pus_messages.specs.declared.message.ReportBody.{ReportBody}
use Rattle.pus_messages.specs.declared.message.ReportBody.TheVariants.{Hk}
use Rattle.ground_history.specs.Histories.{Kept, History, tag_of}
use Rattle.definition_intervals.specs.Verdicts.{verdict}
use Rattle.definition_intervals.specs.declared.answer.Verdict.{Verdict}
use Rattle.definition_intervals.specs.declared.answer.Verdict.TheVariants.{Decided}
use Rattle.session_record.specs.declared.header.Header.{Header}
use Rattle.session_record.specs.declared.entry.Entry.{Entry}
use Rattle.session_texts.specs.Sessions.{known_after, kinds_after}
use Rattle.session_texts.specs.Blocks.{block}
use Rattle.session_texts.specs.Texts.{count_lines}

-- whether a verdict names a definition
abbrev pub is_decision : Verdict → Bool
is_decision (Decided d) = true
is_decision _ = false

-- whether the block of a report can be written: that of a parameter report waits for a decision
abbrev pub is_ready_body : TailoringParts → History → ℕ → ReportBody → Bool
is_ready_body t h tag (Hk (hk.Values key payload)) = is_decision (verdict t h key tag payload)
is_ready_body t h tag _ = true

-- whether the block of a kept packet can be written
abbrev pub is_ready : TailoringParts → History → Kept → Bool
is_ready t h k = is_ready_body t h (tag_of k) k.report.body

-- whether a kept packet has one of these tags
abbrev pub has_tag : List ℕ → Kept → Bool
has_tag tags k = list_any (λ tag. tag == tag_of k) tags

-- the kept packets whose blocks can be written and aren't yet
abbrev pub new_ones : TailoringParts → History → List ℕ → List Kept
new_ones t h written = filter (λ k. is_ready t h k && not (has_tag written k)) h.kept

-- what is known after entries, the newest first
abbrev pub known_by : Protocol → Header → List Entry → History
known_by p h entries = known_after p h (reverse entries)

-- the tags whose blocks are written after entries
abbrev pub written_tags : Protocol → Header → List Entry → List ℕ
written_tags p h [] = []
written_tags p h (e ∷ earlier) = with_new (written_tags p h earlier)
  where
    with_new : List ℕ → List ℕ
    with_new written = written ++ map tag_of (new_ones p.tailoring (known_by p h (e ∷ earlier)) written)

-- the blocks that an entry brings
abbrev pub entry_blocks : Protocol → Header → Entry → List Entry → List ℕ
entry_blocks p h e earlier =
    let known = known_by p h (e ∷ earlier) in
    flat_map (block p.tailoring known) (new_ones p.tailoring known (written_tags p h earlier))

-- all that was written after entries
abbrev pub followed : Protocol → Header → List Entry → List ℕ
followed p h [] = []
followed p h (e ∷ earlier) = followed p h earlier ++ entry_blocks p h e earlier

-- what is written at the end: the other blocks, and the counts
abbrev pub follow_end : Protocol → Header → List Entry → List ℕ
follow_end p h entries =
    let known = known_by p h entries in
    flat_map (block p.tailoring known) (filter (λ k. not (has_tag (written_tags p h entries) k)) known.kept)
    ++ count_lines (kinds_after p h (reverse entries))

-- all that is written for entries, which stand in the order of the record
abbrev pub follow_text : Protocol → Header → List Entry → List ℕ
follow_text p h entries = followed p h (reverse entries) ++ follow_end p h (reverse entries)
