-- What is due of kept reports, by their tags.
use Rattle.std.specs.Prelude.{⊤, ℕ, ◌<◌, List, [], ◌∷◌, ◌++◌, filter, find, flat_map, Bool, true, false, not, ◌&&◌, ◌==◌, nat_lt, nat_le, Option, Some, None, option_map, Result, Ok, Err, if◌then◌else◌}
use Rattle.std.specs.List.{AllByRecursion}
use Rattle.hk_base.specs.declared.types.Key.{Key}
use Rattle.pus_messages.specs.Messages.{protocol}
use Rattle.pus_messages.specs.declared.message.Report.{Report}
use Rattle.ground_history.specs.Histories.{Kept, tag_of, sent_answer, got_kind}
use Rattle.ground_history.specs.Ground.{Ground}
use Rattle.ground_history.specs.declared.answer.GotKind.{GotKind}
use Rattle.ground_history.specs.declared.answer.GotKind.TheVariants as became
use Rattle.ground_history.specs.declared.answer.SentFault.{SentFault}
use Rattle.session_record.specs.declared.entry.Entry.{Entry}
use Rattle.session_record.specs.declared.entry.Entry.TheVariants.{Sent, Got, Line}
use Rattle.session_texts.specs.Blocks.{body_block}
use Rattle.session_texts.specs.Follow.{is_decision, is_ready_body, has_tag}
use Rattle.definition_intervals.specs.Verdicts.{verdict}
use Rattle.block_lines.specs.declared.counts.Counts.{Counts}
use Rattle.block_lines.specs.Counts.{lines_of}
use Rattle.decommutator.specs.Blocks.{parameter_block}
use Rattle.decommutator.specs.declared.changed.Came.{Came}
use Rattle.decommutator.specs.declared.changed.Came.TheVariants as came
use Rattle.decommutator.specs.declared.changed.Changed.{Changed}

-- what is known by what becomes of a packet that is sent
abbrev pub came_sent : Result Bool SentFault → Came
came_sent (Ok true) = came.Request
came_sent _ = came.Nothing

-- what is known by what becomes of a packet that is received
abbrev pub came_got : GotKind → Came
came_got (became.Kept tag) = came.Kept tag
came_got _ = came.Nothing

-- what an entry brings
abbrev pub came_of : Ground → Entry → Came
came_of g (Sent packet) = came_sent (sent_answer (protocol g.tailoring) g.history packet)
came_of g (Got packet) = came_got (got_kind (protocol g.tailoring) g.history packet)
came_of g (Line text) = came.Nothing

-- whether something was done, or why not
abbrev pub done_by : {X : Type 0} → Result X SentFault → Result Unit SentFault
done_by (Ok x) = Ok tt
done_by (Err fault) = Err fault

-- the tag of the packet that was kept, if one was
abbrev pub new_tag : Came → Option ℕ
new_tag (came.Kept tag) = Some tag
new_tag _ = None

-- whether a tag is below one from which on something may have changed, if there is one
abbrev pub is_below : Option ℕ → ℕ → Bool
is_below None tag = true
is_below (Some from) tag = nat_lt tag from

-- whether a tag is that of the packet that was kept
abbrev pub is_new : Option ℕ → ℕ → Bool
is_new None tag = false
is_new (Some new) tag = new == tag

-- whether a report with a tag was known before and has the verdict that it had
abbrev pub is_same : Changed → ℕ → Bool
is_same c tag = is_below c.from tag && not (is_new c.new tag)

-- tags in order, with one more in its place
abbrev pub insert_tag : ℕ → List ℕ → List ℕ
insert_tag new [] = new ∷ []
insert_tag new (tag ∷ tags) = if nat_lt tag new then tag ∷ insert_tag new tags else new ∷ tag ∷ tags

-- tags in order, with that of a packet that was kept, if one was
abbrev pub with_new : Option ℕ → List ℕ → List ℕ
with_new None tags = tags
with_new (Some new) tags = insert_tag new tags

-- each tag is below those behind it
abbrev pub AreRising : List ℕ → Type 0
AreRising [] = ⊤
AreRising (tag ∷ tags) = AllByRecursion (λ later. tag < later) tags × AreRising tags

-- the report of the first kept packet whose tag isn't below this one
abbrev pub report_from : Ground → ℕ → Option Report
report_from g tag = option_map (λ k. k.report) (find (λ k. nat_le tag (tag_of k)) g.history.kept)

-- whether the block of a report can be written
abbrev pub is_ready_report : Ground → Report → Bool
is_ready_report g r = is_ready_body g.tailoring g.history r.header.tag r.body

-- the block of a report, if it can be written
abbrev pub ready_block : Ground → Report → List ℕ
ready_block g r = if is_ready_report g r then body_block g.tailoring g.history r.header.tag r.body else []

-- what is due of a report, if there is one
abbrev pub due_block : Ground → Option Report → List ℕ
due_block g None = []
due_block g (Some r) = ready_block g r

-- whether a report, if there is one, waits for a decision
abbrev pub is_waiting : Ground → Option Report → Bool
is_waiting g None = false
is_waiting g (Some r) = not (is_ready_report g r)

-- what is due of the report with a tag
abbrev pub due_text : Ground → ℕ → List ℕ
due_text g tag = due_block g (report_from g tag)

-- whether the report with a tag waits for a decision
abbrev pub waits : Ground → ℕ → Bool
waits g tag = is_waiting g (report_from g tag)

-- the block of a report, if there is one, by what is known
abbrev pub last_block : Ground → Option Report → List ℕ
last_block g None = []
last_block g (Some r) = body_block g.tailoring g.history r.header.tag r.body

-- the block of the report with a tag, by what is known
abbrev pub last_text : Ground → ℕ → List ℕ
last_text g tag = last_block g (report_from g tag)

-- the blocks of the reports with these tags, by what is known, and then the counts
abbrev pub rest_by : Ground → List ℕ → Counts → List ℕ
rest_by g tags c = flat_map (last_text g) tags ++ lines_of c

-- the kept packets with these tags
abbrev pub waiting_packets : List ℕ → Ground → List Kept
waiting_packets tags g = filter (has_tag tags) g.history.kept

-- whether a parameter report is decided
abbrev pub is_decided : Ground → Key → ℕ → List ℕ → Bool
is_decided g key tag payload = is_decision (verdict g.tailoring g.history key tag payload)

-- the block of a parameter report, if it is decided
abbrev pub decided_block : Ground → Key → ℕ → List ℕ → List ℕ
decided_block g key tag payload = if is_decided g key tag payload then parameter_block g.tailoring g.history key tag payload else []
