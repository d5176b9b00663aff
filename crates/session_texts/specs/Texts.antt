-- The text of a session: the blocks of the kept reports in the order of tags, and then counts.
use Rattle.std.specs.Prelude.{ℕ, zero, suc, List, [], ◌++◌, flat_map, Bool, true, false, codes}
use Rattle.std.specs.List.{count_by}
use Rattle.std.specs.Fmt.{decimal}
use Rattle.pus_messages.specs.Protocol.{Protocol}
use Rattle.ground_history.specs.Histories.{History}
use Rattle.ground_history.specs.declared.answer.GotKind.{GotKind}
use Rattle.ground_history.specs.declared.answer.GotKind.TheVariants as became
use Rattle.session_record.specs.declared.header.Header.{Header}
use Rattle.session_record.specs.declared.entry.Entry.{Entry}
use Rattle.session_texts.specs.Sessions.{known_after, kinds_after}
use Rattle.session_texts.specs.Blocks.{line_end, block}

-- what became of a packet
abbrev pub is_repeat : GotKind → Bool
is_repeat (became.Repeat tag) = true
is_repeat _ = false

-- another packet with its tag was kept
abbrev pub is_conflict : GotKind → Bool
is_conflict (became.Conflict tag) = true
is_conflict _ = false

-- it is of another process
abbrev pub is_foreign : GotKind → Bool
is_foreign (became.Foreign apid) = true
is_foreign _ = false

-- its type isn't known
abbrev pub is_skipped : GotKind → Bool
is_skipped (became.Skipped service subtype) = true
is_skipped _ = false

-- it is no report
abbrev pub is_unread : GotKind → Bool
is_unread became.Unread = true
is_unread _ = false

-- it verifies no request that was sent
abbrev pub is_stray : GotKind → Bool
is_stray (became.Stray id) = true
is_stray _ = false

-- a count, where it isn't 0
abbrev pub count_line : List ℕ → ℕ → List ℕ
count_line word zero = []
count_line word (suc n) = word ++ (codes " " ++ (decimal (suc n) ++ line_end))

-- the counts of what became of packets
abbrev pub count_lines : List GotKind → List ℕ
count_lines kinds =
    count_line (codes "repeats") (count_by is_repeat kinds)
    ++ (count_line (codes "conflicts") (count_by is_conflict kinds)
    ++ (count_line (codes "foreign") (count_by is_foreign kinds)
    ++ (count_line (codes "skipped") (count_by is_skipped kinds)
    ++ (count_line (codes "unread") (count_by is_unread kinds) ++ count_line (codes "stray") (count_by is_stray kinds)))))

-- the blocks by what is known
abbrev pub blocks : Protocol → History → List ℕ
blocks p h = flat_map (block p.tailoring h) h.kept

-- the text of entries
abbrev pub text : Protocol → Header → List Entry → List ℕ
text p h entries = blocks p (known_after p h entries) ++ count_lines (kinds_after p h entries)
