-- What is to hold of verdicts in every world, and after every list of entries.
use Rattle.std.specs.Prelude.{⊤, ◌≡◌, ◌≢◌, ℕ, ◌-◌, ℤ, List, ◌++◌, map, zip, slice_get, Bool, true, ◌⊎◌, Some, Ok, IsTrue}
use Rattle.std.specs.List.{AllByRecursion}
use Rattle.hk_base.specs.TailoringParts.{TailoringParts}
use Rattle.hk_base.specs.Fit.{slot_of, IsFit}
use Rattle.hk_base.specs.Definitions.{IsWellFormed}
use Rattle.hk_base.specs.Payload.{places, payload_read}
use Rattle.hk_base.specs.declared.types.Key.{Key}
use Rattle.hk_base.specs.declared.types.Place.{Place}
use Rattle.hk_base.specs.declared.types.Definition.{Definition}
use Rattle.hk_base.specs.declared.types.Structure.{Structure}
use Rattle.st03_grammar.specs.declared.bodies.Report03.TheVariants as hk
use Rattle.pus_messages.specs.Protocol.{Protocol}
use Rattle.pus_messages.specs.Messages.{protocol}
use Rattle.pus_messages.specs.declared.message.ReportBody.TheVariants.{Hk}
use Rattle.hk_world.specs.Timelines.{tailoring}
use Rattle.hk_world.specs.Worlds.{World, Step, IsWorld, Entry, IsTrueValue, Reports, world_state_at}
use Rattle.ground_history.specs.Histories.{History, Kept, tag_of, history_of}
use Rattle.ground_history.specs.Bounds.{history_in}
use Rattle.ground_history.specs.Ground.{Ground, IsGrounded}
use Rattle.ground_history.specs.Evidence.{is_barred}
use Rattle.definition_intervals.specs.Openings.{Opening, Candidate, openings, is_open, is_settled}
use Rattle.definition_intervals.specs.States.{is_possible_from}
use Rattle.definition_intervals.specs.Verdicts.{verdict, explains}
use Rattle.definition_intervals.specs.declared.answer.Verdict.{Verdict}
use Rattle.definition_intervals.specs.declared.answer.Verdict.TheVariants.{Decided, Undecidable, Crowded, Impossible}

-- a parameter report of a structure was kept with a tag and a payload
abbrev pub HasReport : History → Key → ℕ → List ℕ → Type 0
HasReport h key tag payload =
    (i : ℕ) × (k : Kept) × (slice_get h.kept i ≡ Some k) × (tag_of k ≡ tag) × (k.report.body ≡ Hk (hk.Values key payload))

-- the verdict on a report in a world, with what the ground knows there
abbrev pub verdict_in : World → Key → ℕ → List ℕ → Verdict
verdict_in w key tag payload = verdict (tailoring w.session) (history_in w) key tag payload

-- where a report with a tag has its samples from, under a definition
abbrev pub places_of : World → ℕ → Definition → List Place
places_of w tag d = places d (slot_of (tailoring w.session) tag - 1)

-- the state at a report is possible from each opening
abbrev pub IsContained : World → Key → ℕ → Type 0
IsContained w key tag =
    AllByRecursion (λ o. IsTrue (is_possible_from (tailoring w.session) ((world_state_at w tag).structure key) o))
    (openings (tailoring w.session) (history_in w) key tag)

-- In each world the state at a kept parameter report is possible from each opening.
abbrev pub ContainmentHolds : Type 0
ContainmentHolds =
    (t : TailoringParts) (w : World) (key : Key) (tag : ℕ) (payload : List ℕ)
    → w.session.protocol ≡ protocol t → IsWorld w → HasReport (history_in w) key tag payload → IsContained w key tag

-- a decided definition is the one in force, no report is impossible, and a settled one is decided
pub record IsSound (w : World) (key : Key) (tag : ℕ) (payload : List ℕ) : Type 0 where
  pub decided : (d : Definition) → verdict_in w key tag payload ≡ Decided d
      → (s : Structure) × ((world_state_at w tag).structure key ≡ Some s) × (s.def ≡ d)
  pub possible : verdict_in w key tag payload ≢ Impossible
  pub settled : IsTrue (is_settled (tailoring w.session) (history_in w) key tag) → (d : Definition) × (verdict_in w key tag payload ≡ Decided d)

-- In each world the verdict on each kept parameter report is sound.
abbrev pub VerdictsAreSound : Type 0
VerdictsAreSound =
    (t : TailoringParts) (w : World) (key : Key) (tag : ℕ) (payload : List ℕ)
    → w.session.protocol ≡ protocol t → IsWorld w → HasReport (history_in w) key tag payload → IsSound w key tag payload

-- In each world each kept report is one that the board made, so its rows of statistics and its current values are true.
abbrev pub KeptReportsWereMade : Type 0
KeptReportsWereMade =
    (t : TailoringParts) (w : World) (i : ℕ) (k : Kept)
    → w.session.protocol ≡ protocol t → IsWorld w → slice_get (history_in w).kept i ≡ Some k → Reports w (tag_of k) k.report.body

-- The payload of a report is read under a definition, as one value for each of its places, and each value is the sample that the board took there.
pub record IsReadTruly (w : World) (key : Key) (tag : ℕ) (payload : List ℕ) (d : Definition) : Type 0 where
  pub values : List ℤ
  pub read : payload_read (tailoring w.session) d payload ≡ Ok values
  pub each_place : map (λ r. r.0) (zip (places_of w tag d) values) ≡ places_of w tag d
  pub each_value : (row : ℕ) (place : Place) (value : ℤ) → slice_get (zip (places_of w tag d) values) row ≡ Some (place, value)
      → IsTrueValue w key tag d.interval row place.param place.slot value

-- In each world a kept report that is decided is read truly under its definition.
abbrev pub DecidedValuesAreTrue : Type 0
DecidedValuesAreTrue =
    (t : TailoringParts) (w : World) (key : Key) (tag : ℕ) (payload : List ℕ) (d : Definition)
    → w.session.protocol ≡ protocol t → IsWorld w → HasReport (history_in w) key tag payload
    → verdict_in w key tag payload ≡ Decided d
    → IsReadTruly w key tag payload d

-- a request that is named is an open change of an opening
abbrev pub IsOpenChange : List Opening → ℕ → Type 0
IsOpenChange os k =
    (i : ℕ) × (o : Opening) × (j : ℕ) × (c : Candidate) × (slice_get os i ≡ Some o) × (slice_get o.requests j ≡ Some c) × IsTrue (is_open c) × (c.number ≡ k)

-- After every list of entries, also of no world, a request that a verdict names is an open change.
abbrev pub NamesAreOpen : Type 0
NamesAreOpen =
    (p : Protocol) (known long : Bool) (entries : List Entry) (key : Key) (tag : ℕ) (payload : List ℕ) (k : ℕ)
    → let h = history_of p known long entries in
    (verdict p.tailoring h key tag payload ≡ Undecidable k) ⊎ (verdict p.tailoring h key tag payload ≡ Crowded k)
    → IsOpenChange (openings p.tailoring h key tag) k

-- a request that surely came before a report turns out not to have been started
abbrev pub IsNewlyBarred : World → World → Key → ℕ → Type 0
IsNewlyBarred w later key tag =
    (i : ℕ) × (o : Opening) × (j : ℕ) × (c : Candidate) × (slice_get (openings (tailoring w.session) (history_in w) key tag) i ≡ Some o)
    × (slice_get o.requests j ≡ Some c) × (c.certain ≡ true) × IsTrue (is_barred (history_in later) c.number)

-- a verdict that names an open change
abbrev pub IsUnsure : Verdict → Type 0
IsUnsure (Undecidable k) = ⊤
IsUnsure (Crowded k) = ⊤
IsUnsure _ = ⊥

-- A decided report stays decided so after more steps, unless a request that surely came before it turns out not to have been started.
abbrev pub DecisionsPersist : Type 0
DecisionsPersist =
    (t : TailoringParts) (w later : World) (more : List Step) (key : Key) (tag : ℕ) (payload : List ℕ) (d : Definition)
    → w.session.protocol ≡ protocol t → later ≡ record w { steps = more ++ w.steps } → IsWorld later
    → HasReport (history_in w) key tag payload
    → verdict_in w key tag payload ≡ Decided d
    → (verdict_in later key tag payload ≡ Decided d) ⊎ (IsNewlyBarred w later key tag × IsUnsure (verdict_in later key tag payload))

-- By what is known of messages of the grammar, a decided definition is valid, its payload size aside, and a report with the tag can have the payload under it.
abbrev pub DecisionsAreFormed : Type 0
DecisionsAreFormed =
    (g : Ground) (key : Key) (tag : ℕ) (payload : List ℕ) (d : Definition)
    → IsFit g.tailoring → IsGrounded g → verdict g.tailoring g.history key tag payload ≡ Decided d
    → IsWellFormed g.tailoring d × IsTrue (explains g.tailoring tag payload d)
