-- The end of a slot: what is filed and reported, and its moments as they are drafted.
use Rattle.std.specs.Prelude.{◌≡◌, ℕ, ◌+◌, ◌^◌, ◌<◌, ◌≤◌, ⊤, List, [], ◌∷◌, ◌++◌, length, map, ℤ, pos, Bool, true, false, ◌&&◌, ◌==◌, Option, Some, IfSome, unwrap_or, option_and_then, Result, Ok, Err, if◌then◌else◌}
use Rattle.std.specs.List.{AllZip}
use Rattle.std.specs.Option.{option_map_or}
use Rattle.hk_base.specs.Fit.{greatest_tag}
use Rattle.hk_base.specs.Payload.{IsPayload, places}
use Rattle.hk_base.specs.declared.types.Key.{Key}
use Rattle.hk_base.specs.declared.types.Param.{Param}
use Rattle.hk_base.specs.declared.types.Place.{Place}
use Rattle.hk_base.specs.declared.types.Structure.{Structure}
use Rattle.st20_grammar.specs.declared.bodies.Setting.{Setting}
use Rattle.hk_world.specs.declared.moment.Act.TheVariants.{Filed}
use Rattle.board_steps.specs.Cores.{Core, session, state_of, next_tag}
use Rattle.board_steps.specs.Plans.{Plan, Topic, does, tells, samples_of, statistics, settables, own_filing, prepared}
use Rattle.board_steps.specs.Slots.{is_set, is_complete, sample_at}
use Rattle.board_steps.specs.Steps.{AreNext, is_full, is_late}
use Rattle.board_steps.specs.declared.event.BoardFault.{BoardFault}
use Rattle.board_steps.specs.declared.event.BoardFault.TheVariants.{JournalFull, TimeExhausted, Memory}
use Rattle.board_steps.specs.declared.event.Event.TheVariants.{CloseSlot}
use Rattle.board_state.specs.Statistics.{StatisticsHeld, AreStatistics, IsSettled}
use Rattle.board_state.specs.Values.{channel_at, change_channel, filed_channel, closing_sample, IsLater}
use Rattle.board_state.specs.declared.channels.Channel.{Channel}
use Rattle.board_core.specs.Logs.{IsDraft, drafted}
use Rattle.board_core.specs.Planned.{log_of}
use Rattle.board_core.specs.Reporting.{FilesAll}
use Rattle.board_core.specs.declared.closing.Due.{Due}
use Rattle.board_core.specs.declared.log.Draft.{Draft}

-- the tag that the clock shows once the slot that runs has ended
abbrev pub end_clock : Core → ℕ
end_clock c = (prepared c CloseSlot).clock

-- the value of a settable parameter, as a setting
abbrev pub own_setting : Core → Param → Setting
own_setting c p = record { param = p.id; value = unwrap_or ((state_of c).value p.id) (pos 0) }

-- the filing of a value in a slot
abbrev pub filing_of : ℕ → Setting → Plan
filing_of slot x = does (Filed x.param slot x.value)

-- what is held of the parameters after these samples of a slot, one after the other
abbrev pub with_filings : ℕ → List Setting → List (ℕ × Channel) → List (ℕ × Channel)
with_filings slot [] channels = channels
with_filings slot (x ∷ xs) channels = with_filings slot xs (change_channel x.param (filed_channel slot x.value) channels)

-- each of these samples of a slot is later than those that are held of its parameter when it is filed
abbrev pub AreToFile : ℕ → List (ℕ × Channel) → List Setting → Type 0
AreToFile slot channels [] = ⊤
AreToFile slot channels (x ∷ xs) = IfSome (channel_at channels x.param) (IsLater slot) × AreToFile slot (change_channel x.param (filed_channel slot x.value) channels) xs

-- the values of the settable parameters, in order
abbrev pub end_settings : Core → List Setting
end_settings c = map (own_setting c) (settables c.tailoring)

-- their filings
abbrev pub end_filings : Core → List Plan
end_filings c = map (λ p. does (own_filing c p)) (settables c.tailoring)

-- the sample of a place that is held, once the value of a settable parameter counts as that of the slot that closes
abbrev pub held_sample : List (ℕ × Channel) → ℕ → Place → Option ℤ
held_sample channels slot place = option_and_then (λ x. closing_sample x place.slot slot) (channel_at channels place.param)

-- the sample of a place once the slot that runs is closed
abbrev pub end_sample : Core → Place → Option ℤ
end_sample c place =
    if is_set c.tailoring place.param && place.slot == c.slot_now then (state_of c).value place.param else sample_at place c.moments

-- whether each place of the structure with a key has a sample once the slot is closed
abbrev pub is_whole : Core → Key → Bool
is_whole c key = option_map_or (λ x. is_complete c x.def) ((state_of c).structure key) false

-- octets are the payload of a structure that is reported, with the samples of its places
pub record IsEndPayload (c : Core) (key : Key) (payload : List ℕ) : Type 0 where
  pub structure : Structure
  pub values : List ℤ
  pub id : key.id < 256 ^ c.tailoring.widths.structure_octets
  pub is_there : (state_of c).structure key ≡ Some structure
  pub samples : AllZip (λ place v. end_sample c place ≡ Some v) (places structure.def c.slot_now) values
  pub payload_is : IsPayload c.tailoring structure.def values payload
  pub short : length payload ≤ 4096

-- the statistics with the values of the settable parameters as the last samples
pub record AreEndStatistics (c : Core) (x : StatisticsHeld) : Type 0 where
  pub old : StatisticsHeld
  pub held : AreStatistics (session c) c.moments old
  pub settled : IsSettled (session c) c.moments
  pub files : FilesAll c.slot_now (end_settings c) old x

-- a draft has the moments of these plans, which come where the slot that runs has ended
pub record IsDraftedTo (c : Core) (plans : List Plan) (d : Draft) : Type 0 where
  pub draft : IsDraft (log_of c) d
  pub clock_is : d.clock ≡ end_clock c
  pub count : length d.moments.items ≡ length plans
  pub moments : AreNext (session c) (end_clock c) c.slot_now c.moments plans (drafted (log_of c) d.moments.items)

-- a draft has the filings, and then the reports on these topics
abbrev pub IsTelling : Core → List Topic → Draft → Type 0
IsTelling c topics d = IsDraftedTo c (end_filings c ++ map tells topics) d

-- there is room and time for so many moments
pub record HasTime (c : Core) (n : ℕ) : Type 0 where
  pub room : length c.moments + n ≤ 1048576
  pub time : next_tag (end_clock c) c.moments + n ≤ greatest_tag c.tailoring + 1

-- a draft has the filings and some reports, and there is room and time for so many reports more
pub record IsToTell (c : Core) (more : ℕ) (d : Draft) : Type 0 where
  pub topics : List Topic
  pub telling : IsTelling c topics d
  pub left : HasTime c (length (settables c.tailoring) + length topics + more)

-- the reports that are due
abbrev pub due_told : Due → List Topic
due_told d = map samples_of d.keys.items ++ (if d.has_statistics then statistics ∷ [] else [])

-- what is answered where a draft of the moments is asked for
abbrev pub AnswersOpening : Core → Result Draft BoardFault → Type 0
AnswersOpening c (Ok d) = (is_full c CloseSlot ≡ false) × (is_late c CloseSlot ≡ false) × IsDraftedTo c [] d
AnswersOpening c (Err JournalFull) = is_full c CloseSlot ≡ true
AnswersOpening c (Err TimeExhausted) = (is_full c CloseSlot ≡ false) × (is_late c CloseSlot ≡ true)
AnswersOpening c (Err Memory) = ⊤
