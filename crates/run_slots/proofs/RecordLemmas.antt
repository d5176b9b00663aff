-- The record of a run, slot by slot.
use Rattle.std.proofs.Common.{◌≡◌, ℕ, List, ◌∷◌, ◌++◌, length, map, sym, ap, ◌∙◌, append_assoc}
use Rattle.std.specs.Prelude.{false, flat_map}
use Rattle.std.proofs.lemmas.Grind.{flat_map-append}
use Rattle.hk_base.specs.TailoringParts.{TailoringParts}
use Rattle.hk_world.specs.declared.moment.Moment.{Moment}
use Rattle.journal_texts.specs.JournalTexts.{journal_text}
use Rattle.session_record.specs.Records.{entry_octets, header_octets, header_of}
use Rattle.session_record.specs.declared.entry.Entry.{Entry}
use Rattle.session_record.specs.declared.entry.Entry.TheVariants.{Sent, Got, Line}
use Rattle.board_scripts.specs.declared.script.Script.{Script}
use Rattle.board_runs.specs.Slots.{sent_in, deliveries, slot_entries, entries_of}
use Rattle.board_runs.specs.Runs.{record_of}
use Rattle.run_records.specs.Putting.{lines_of}
use Rattle.run_slots.specs.Standing.{opening_octets}

pub record-more : (t : TailoringParts) (s : Script) (slots : List (List Moment)) (moments : List Moment)
    → record_of t s (moments ∷ slots) ≡ record_of t s slots ++ (opening_octets t s slots ++ lines_of moments)
record-more t s slots moments =
    let first : List ℕ = header_octets (header_of s.known false) in
    let a : List Entry = map Got (deliveries t s slots) in
    let b : List Entry = map Sent (sent_in s (length slots)) in
    let lines : List Entry = map (λ m. Line (journal_text m)) moments in
    let more : flat_map entry_octets (slot_entries t s slots moments) ≡ opening_octets t s slots ++ lines_of moments =
    ap (flat_map entry_octets) (sym (append_assoc a b lines)) ∙ flat_map-append entry_octets (a ++ b) lines in
    ap (λ octets. first ++ octets)
    (flat_map-append entry_octets (entries_of t s slots) (slot_entries t s slots moments) ∙ ap (λ octets. flat_map entry_octets (entries_of t s slots) ++ octets) more)
    ∙ sym (append_assoc first (flat_map entry_octets (entries_of t s slots)) (opening_octets t s slots ++ lines_of moments))
