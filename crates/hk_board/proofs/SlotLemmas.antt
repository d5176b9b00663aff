-- One slot of a run, part by part.
use Rattle.std.proofs.Common.{arith, suc, inr, ◌≡◌, ◌+◌, ◌<◌, ◌≤◌, ◌^◌, ℕ, List, [], ◌∷◌, ◌++◌, length, Result, Ok, Err, refl, sym, ap, subst, ◌∙◌, append-nil}
use Rattle.std.specs.Prelude.{reverse, drop, slice_index_or, IfOk, IfErr, OnOk}
use Rattle.std.specs.List.{AllByRecursion}
use Rattle.std.proofs.lemmas.List.{reverse-reverse, length-reverse}
use Rattle.hk_base.specs.TailoringParts.{TailoringParts}
use Rattle.hk_base.specs.declared.outside.Sensor.{Ghosts}
use Rattle.hk_world.specs.declared.moment.Moment.{Moment}
use Rattle.board_steps.specs.Cores.{Core}
use Rattle.board_steps.specs.SlotRuns.{Ahead, IsPart, IsSlot, IsStopped}
use Rattle.board_steps.specs.declared.event.BoardFault.{BoardFault}
use Rattle.simulated_link.specs.declared.link.Link.{Link}
use Rattle.board_scripts.specs.Spelling.{AreSent}
use Rattle.board_scripts.specs.declared.script.Script.{Script}
use Rattle.board_scripts.specs.declared.script.Sending.{Sending}
use Rattle.session_record.specs.declared.entry.WriteFault.{WriteFault as Unwritten}
use Rattle.run_records.specs.Putting.{Seen, HasPut, HasFailed, Puts, lines_of}
use Rattle.board_runs.specs.Slots.{uplinks}
use Rattle.board_runs.specs.Runs.{HasDone, HasRun, record_of}
use Rattle.run_slots.specs.Standing.{IsBeforeSlot, IsInSlot, opening_octets}
use Rattle.sampler_threads.specs.Samplings.{AreFresh, Filed, FiledPart}
use Rattle.sampler_threads.specs.Slots.{AreReadings, Ring}
use Rattle.sampler_threads.specs.declared.slot.Sampler.{Sampler}
use Rattle.sampler_threads.specs.declared.item.Item.{Item}
use Rattle.sampled_slots.specs.Seats.{AreBetween, AreFiled, AreFiledInPart, HaveOrders}
use Rattle.hk_board.specs.Seats.{AreReady}
use Rattle.hk_board.specs.Faults.{status_of_board, status_of_writing}
use Rattle.hk_board.specs.Progress.{DoesPart, EndsAs, RunsTo, IsAt, IsOpened, HasRunSlot}
use Rattle.hk_board.specs.declared.status.BoardStatus.{BoardStatus}
use Rattle.hk_board.proofs.EndLemmas.{Extends, slot_put, slot_ran, slot_broken}
use Rattle.hk_board.proofs.StepLemmas.{does, journal_from, journal_whole, ran}

-- what is sent is short
pub sent_short : (t : TailoringParts) (earlier sendings : List Sending) → AreSent t earlier sendings → AllByRecursion (λ x. length x.packet ≤ 2 ^ 31) sendings
sent_short t earlier [] sent = tt
sent_short t earlier (x ∷ later) sent = (omega (arith, sent.0.most), sent_short t (x ∷ earlier) later sent.2)

-- a journal is the moments, the oldest first
pub journal_is : (journal moments : List Moment) → reverse journal ≡ moments → journal ≡ reverse moments
journal_is journal moments is = sym (reverse-reverse journal) ∙ ap reverse is

-- The link was given the reports of a slot: the run stands before the next one.
pub slot_reported : (t : TailoringParts) (s : Script) (start : Seen) (slots : List (List Moment)) (moments journal : List Moment) (core : Core) (slot next shown last : ℕ) (before after : Link) (now : Seen)
    → slot ≡ length slots → journal ≡ reverse core.moments → last ≡ length journal → HasRunSlot t s start slots moments core next shown before now
    → ((earlier : List Moment) → journal ≡ earlier ++ moments → shown ≡ length earlier → IsInSlot t s slots earlier slot next before → IsBeforeSlot t s (moments ∷ slots) journal (slot + 1) next after)
    → IsAt t s start (moments ∷ slots) core next last after now
slot_reported t s start slots moments journal core slot next shown last before after now number is count run closed =
    let inside : IsInSlot t s slots run.earlier slot next before = subst (λ n. IsInSlot t s slots run.earlier n next before) (sym number) run.inside in
    let at : IsBeforeSlot t s (moments ∷ slots) journal (slot + 1) next after = closed run.earlier (is ∙ run.journal) run.all_shown inside in
    let step : slot + 1 ≡ suc (length slots) = omega (arith, number) in
    let here : IsBeforeSlot t s (moments ∷ slots) (reverse core.moments) (slot + 1) next after = subst (λ xs. IsBeforeSlot t s (moments ∷ slots) xs (slot + 1) next after) is at in
    record {
      ran = run.ran;
      before = subst (λ n. IsBeforeSlot t s (moments ∷ slots) (reverse core.moments) n next after) step here;
      all_shown = count ∙ (ap length is ∙ length-reverse core.moments);
      put = run.put;
    }

-- what was filed of a whole slot was filed
filed_in_part : {S : Type 0} (g : Ghosts S) (t : TailoringParts) (moments : List Moment) (before after : Sampler S) → Filed g t moments before after → FiledPart g t moments before
filed_in_part g t moments before after filed =
    (filed.0, [], filed.1, inr (subst (AreReadings g t before.sensor before.orders) (sym (append-nil filed.0)) filed.2))

pub all_filed_in_part : {S : Type 0} (g : Ghosts S) (t : TailoringParts) (moments : List Moment) (samplers after : List (Sampler S)) → AreFiled g t moments samplers after → AreFiledInPart g t moments samplers
all_filed_in_part g t moments samplers after filed = λ k s below. filed_in_part g t moments (slice_index_or samplers k s) (slice_index_or after k s) (filed k s below)

-- What a slot did was written: how it was run is how it ends.
pub slot_written : (ups : List (List ℕ)) (before after : Core) (result : Result ℕ BoardFault) (status : Result Unit BoardStatus) (journal : List Moment) (shown : ℕ) (was now : Seen)
    → IfOk result (λ count. IsSlot ups before after) → IfErr result (λ fault. (ahead : Ahead) × IsPart ups before ahead after × IsStopped ahead after fault) → reverse journal ≡ after.moments
    → shown ≡ length before.moments → HasPut (lines_of (drop shown journal)) was now → EndsAs result status → RunsTo ups before after status was now
slot_written ups before after (Ok count) status journal shown was now whole part is first put ends =
    let done = does ups before _ after whole in
    let moments : drop shown journal ≡ done.0 = subst (λ n. drop n journal ≡ done.0) (sym first) (journal_from journal done.0 before.moments (is ∙ done.1.1)) in
    subst (λ (x : Result Unit BoardStatus). RunsTo ups before after x was now) (sym ends) (whole, (done.0, done.1.1, subst (λ ms. HasPut (lines_of ms) was now) moments put))
slot_written ups before after (Err fault) status journal shown was now whole (ahead, some, stopped) is first put ends =
    let done = does ups before ahead after some in
    let moments : drop shown journal ≡ done.0 = subst (λ n. drop n journal ≡ done.0) (sym first) (journal_from journal done.0 before.moments (is ∙ done.1.1)) in
    subst (λ (x : Result Unit BoardStatus). RunsTo ups before after x was now) (sym ends)
    (slot_ran ups before after fault done.0 ahead was now done.1 stopped (subst (λ ms. HasPut (lines_of ms) was now) moments put))

-- It was written in part.
pub slot_cut : (ups : List (List ℕ)) (before after : Core) (result : Result ℕ BoardFault) (fault : Unwritten) (journal : List Moment) (shown : ℕ) (was now : Seen)
    → IfOk result (λ count. IsSlot ups before after) → IfErr result (λ fault. (ahead : Ahead) × IsPart ups before ahead after × IsStopped ahead after fault) → reverse journal ≡ after.moments
    → shown ≡ length before.moments → HasFailed (lines_of (drop shown journal)) fault was now → RunsTo ups before after (Err (status_of_writing fault)) was now
slot_cut ups before after result fault journal shown was now whole part is first failed =
    let done = ran ups before after result whole part in
    let moments : drop shown journal ≡ done.0 = subst (λ n. drop n journal ≡ done.0) (sym first) (journal_from journal done.0 before.moments (is ∙ done.2.1)) in
    slot_broken ups before after fault done.0 done.1 was now done.2 (subst (λ ms. HasFailed (lines_of ms) fault was now) moments failed)

-- what holds on Ok of how a slot was run holds where it ended well
pub well_ended : (result : Result ℕ BoardFault) (status : Result Unit BoardStatus) (P : Type 0) → EndsAs result status → IfOk result (λ count. P) → OnOk status P
well_ended (Ok count) status P ends holds = subst (λ (x : Result Unit BoardStatus). OnOk x P) (sym ends) holds
well_ended (Err fault) status P ends holds = subst (λ (x : Result Unit BoardStatus). OnOk x P) (sym ends) tt

-- what is so of each way in which a slot was run
pub either : (result : Result ℕ BoardFault) (P : Type 0) → IfOk result (λ count. P) → IfErr result (λ fault. P) → P
either (Ok count) P whole part = whole
either (Err fault) P whole part = part

pub if_ok_map : {X E : Type 0} (result : Result X E) (P Q : X → Type 0) → ((x : X) → P x → Q x) → IfOk result P → IfOk result Q
if_ok_map (Ok x) P Q f holds = f x holds
if_ok_map (Err e) P Q f holds = tt

pub if_err_map : {X E : Type 0} (result : Result X E) (P Q : E → Type 0) → ((e : E) → P e → Q e) → IfErr result P → IfErr result Q
if_err_map (Ok x) P Q f holds = tt
if_err_map (Err e) P Q f holds = f e holds

pub on_ok_map : {X E : Type 0} (result : Result X E) (P Q : Type 0) → (P → Q) → OnOk result P → OnOk result Q
on_ok_map (Ok x) P Q f holds = f holds
on_ok_map (Err e) P Q f holds = tt

-- The slot was opened.
pub slot_before : (t : TailoringParts) (s : Script) (start : Seen) (slots : List (List Moment)) (core : Core) (journal : List Moment) (slot next shown : ℕ) (link : Link) (now : Seen)
    → slot ≡ length slots → reverse journal ≡ core.moments → IsAt t s start slots core next shown link now → IsBeforeSlot t s slots journal slot next link
slot_before t s start slots core journal slot next shown link now number is at =
    subst (λ n. IsBeforeSlot t s slots journal n next link) (sym number)
    (subst (λ xs. IsBeforeSlot t s slots xs (length slots) next link) (sym (journal_is journal core.moments is)) at.before)

pub slot_opened : (t : TailoringParts) (s : Script) (start : Seen) (slots : List (List Moment)) (core : Core) (journal : List Moment) (slot next last shown : ℕ) (link after : Link) (found : List (List ℕ)) (first now : Seen)
    → slot ≡ length slots → reverse journal ≡ core.moments → IsAt t s start slots core next shown link first → HasPut (opening_octets t s slots) first now → found ≡ uplinks t s slots
    → IsInSlot t s slots journal slot last after → IsOpened t s start slots core found last shown after now
slot_opened t s start slots core journal slot next last shown link after found first now number is at put ups inside = record {
  ran = at.ran;
  inside = subst (λ xs. IsInSlot t s slots xs (length slots) last after) (journal_is journal core.moments is) (subst (λ n. IsInSlot t s slots journal n last after) number inside);
  is_uplinks = ups;
  all_shown = at.all_shown;
  before = first;
  put = at.put;
  opened = put;
}

-- It was run, and what it did was written.
pub slot_run : (t : TailoringParts) (s : Script) (start : Seen) (slots : List (List Moment)) (moments : List Moment) (core after : Core) (found : List (List ℕ)) (next shown : ℕ) (link : Link) (mid now : Seen) → Extends t s
    → IsOpened t s start slots core found next shown link mid → IsSlot found core after → HasDone core moments after → HasPut (lines_of moments) mid now
    → HasRunSlot t s start slots moments after next shown link now
slot_run t s start slots moments core after found next shown link mid now law opened whole done put = record {
  ran = (core, opened.ran, subst (λ ups. IsSlot ups core after) opened.is_uplinks whole, done);
  earlier = reverse core.moments;
  journal = journal_whole (reverse after.moments) moments core.moments (reverse-reverse after.moments ∙ done);
  inside = opened.inside;
  all_shown = opened.all_shown ∙ sym (length-reverse core.moments);
  put = slot_put t s law start slots opened.before mid now opened.put opened.opened moments put;
}

-- Samplers with their orders are ready for the slot after some.
pub slot_ready : {S : Type 0} (g : Ghosts S) (was : List S) (slots : List (List Moment)) (core : Core) (rings : List Ring) (samplers : List (Sampler S)) → 0 < length was
    → AreBetween g core.tailoring was slots rings samplers → HaveOrders core.tailoring (length was) core.slot_now samplers → core.slot_now ≡ length slots → AreFresh core rings samplers
    → AreReady g core.tailoring was slots core rings samplers
slot_ready g was slots core rings samplers some between orders slot fresh = record {
  some = some;
  between = between;
  orders = subst (λ n. HaveOrders core.tailoring (length was) n samplers) slot orders;
  fresh = fresh;
}
