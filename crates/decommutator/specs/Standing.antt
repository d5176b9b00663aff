-- What stands for the entries of a session: what is known, what became of packets that weren't kept, and how many entries there were.
use Rattle.std.specs.Prelude.{ℕ, ◌+◌, ◌≤◌, List, ◌++◌, length, flat_map, Bool, Option, None, Result, Ok, Err}
use Rattle.std.specs.List.{count_by, sum_by}
use Rattle.hk_base.specs.TailoringParts.{TailoringParts}
use Rattle.pus_messages.specs.Messages.{protocol}
use Rattle.ground_history.specs.Histories.{History, new_history, sent_answer, got_kind}
use Rattle.ground_history.specs.Ground.{Ground, with_history}
use Rattle.ground_history.specs.declared.answer.GotKind.{GotKind}
use Rattle.ground_history.specs.declared.answer.GotKind.TheVariants as became
use Rattle.ground_history.specs.declared.answer.SentFault.{SentFault}
use Rattle.definition_intervals.specs.declared.answer.Verdict.{Verdict}
use Rattle.session_record.specs.declared.entry.Entry.{Entry}
use Rattle.session_record.specs.declared.entry.Entry.TheVariants.{Sent, Got, Line}
use Rattle.session_texts.specs.Sessions.{known_with}
use Rattle.session_texts.specs.Blocks.{block}
use Rattle.session_texts.specs.Tallies.{verdicts, value_count, is_undecidable, is_other}
use Rattle.session_texts.specs.Follow.{is_decision}
use Rattle.session_texts.specs.declared.problem.Tally.{Tally}
use Rattle.block_lines.specs.declared.counts.Counts.{Counts}
use Rattle.block_lines.specs.Counts.{lines_of}

-- What stands for entries: the tailoring, what is known under it, the counts of packets that weren't kept, and the number of entries.
pub record Standing : Type 0 where
  pub tailoring : TailoringParts
  pub history : History
  pub counts : Counts
  pub entries : ℕ

-- What contracts see: what stands for the entries; and, as long as each entry was followed, the tags of the kept reports whose blocks
-- aren't written, in order.
pub record Decommutation : Type 0 where
  pub standing : Standing
  pub waiting : Option (List ℕ)

-- no packet was received
abbrev pub no_counts : Counts
no_counts = record { repeats = 0; conflicts = 0; foreign = 0; skipped = 0; unread = 0; stray = 0 }

-- how many packets weren't kept
abbrev pub total : Counts → ℕ
total c = c.repeats + (c.conflicts + (c.foreign + (c.skipped + (c.unread + c.stray))))

-- counts with one more packet, by what became of it
abbrev pub with_kind : Counts → GotKind → Counts
with_kind c (became.Kept tag) = c
with_kind c (became.Repeat tag) = record c { repeats = c.repeats + 1 }
with_kind c (became.Conflict tag) = record c { conflicts = c.conflicts + 1 }
with_kind c (became.Foreign apid) = record c { foreign = c.foreign + 1 }
with_kind c (became.Skipped service subtype) = record c { skipped = c.skipped + 1 }
with_kind c became.Unread = record c { unread = c.unread + 1 }
with_kind c (became.Stray id) = record c { stray = c.stray + 1 }

-- the ground by what stands for entries
abbrev pub ground_of : Standing → Ground
ground_of s = record { tailoring = s.tailoring; history = s.history }

-- what stands for no entries
abbrev pub new_standing : TailoringParts → Bool → Bool → Standing
new_standing t known long = record { tailoring = t; history = new_history known long; counts = no_counts; entries = 0 }

-- counts with one more entry
abbrev pub counts_with : Ground → Counts → Entry → Counts
counts_with g c (Sent packet) = c
counts_with g c (Got packet) = with_kind c (got_kind (protocol g.tailoring) g.history packet)
counts_with g c (Line text) = c

-- what stands for one more entry
abbrev pub with_entry : Standing → Entry → Standing
with_entry s e =
    record s { history = known_with (protocol s.tailoring) s.history e; counts = counts_with (ground_of s) s.counts e; entries = s.entries + 1 }

-- whether a packet can be sent
abbrev pub taken : Result Bool SentFault → Result Unit SentFault
taken (Ok new) = Ok tt
taken (Err fault) = Err fault

-- whether an entry can be taken after what is known
abbrev pub answer_of : Ground → Entry → Result Unit SentFault
answer_of g (Sent packet) = taken (sent_answer (protocol g.tailoring) g.history packet)
answer_of g (Got packet) = Ok tt
answer_of g (Line text) = Ok tt

-- whether an entry can be taken after others
abbrev pub entry_answer : Standing → Entry → Result Unit SentFault
entry_answer s e = answer_of (ground_of s) e

-- what is known after an entry that was so answered: a refusal changes nothing
abbrev pub ground_after : Ground → Entry → Result Unit SentFault → Ground
ground_after g e (Ok done) = with_history g (known_with (protocol g.tailoring) g.history e)
ground_after g e (Err fault) = g

-- the counts after an entry that was so answered
abbrev pub counts_after : Ground → Counts → Entry → Result Unit SentFault → Counts
counts_after g c e (Ok done) = counts_with g c e
counts_after g c e (Err fault) = c

-- what stands after an entry that was so answered: a refusal changes nothing
abbrev pub after_entry : Standing → Entry → Result Unit SentFault → Standing
after_entry s e (Ok done) = with_entry s e
after_entry s e (Err fault) = s

-- no entry is followed any more, after one was taken and not followed
abbrev pub after_unfollowed : Option (List ℕ) → Result Unit SentFault → Option (List ℕ)
after_unfollowed waiting (Ok done) = None
after_unfollowed waiting (Err fault) = waiting

-- each entry is at most one request, kept packet or counted packet
abbrev pub IsOrderly : Standing → Type 0
IsOrderly s = length s.history.requests + (length s.history.kept + total s.counts) ≤ s.entries

-- the blocks of the kept reports in the order of tags
abbrev pub blocks_by : Ground → List ℕ
blocks_by g = flat_map (block g.tailoring g.history) g.history.kept

-- the blocks, and then the counts
abbrev pub text_by : Ground → Counts → List ℕ
text_by g c = blocks_by g ++ lines_of c

-- the whole text
abbrev pub standing_text : Standing → List ℕ
standing_text s = text_by (ground_of s) s.counts

-- numbers with those of the verdicts on more reports, each with its tag
abbrev pub with_verdicts : TailoringParts → Tally → List (ℕ × Verdict) → Tally
with_verdicts t x all =
    record x {
      decided = x.decided + count_by (λ v. is_decision v.1) all;
      undecidable = x.undecidable + count_by (λ v. is_undecidable v.1) all;
      other = x.other + count_by (λ v. is_other v.1) all;
      values = x.values + sum_by (value_count t) all;
    }

-- the numbers
abbrev pub tally_by : Ground → Counts → Tally
tally_by g c =
    let all = verdicts g.tailoring g.history in
    record {
      sent = length g.history.requests;
      received = length g.history.kept;
      repeats = c.repeats;
      decided = count_by (λ v. is_decision v.1) all;
      undecidable = count_by (λ v. is_undecidable v.1) all;
      other = count_by (λ v. is_other v.1) all;
      values = sum_by (value_count g.tailoring) all;
    }

-- the numbers by what stands for entries
abbrev pub standing_tally : Standing → Tally
standing_tally s = tally_by (ground_of s) s.counts
