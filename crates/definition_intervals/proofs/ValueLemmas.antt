-- The values of a decided report are the samples that the board took.
use Rattle.std.proofs.Common.{◌≡◌, ℕ, zero, suc, refl, sym, ◌∙◌, ap, subst, List, [], ◌∷◌, map, Some, nat_lt}
use Rattle.std.specs.Prelude.{ℤ, zip, slice_get}
use Rattle.std.specs.List.{AllZip}
use Rattle.std.proofs.lemmas.Option.{same_Some, none-some}
use Rattle.hk_base.specs.declared.types.Key.{Key}
use Rattle.hk_base.specs.declared.types.Place.{Place}
use Rattle.hk_base.specs.declared.types.Structure.{Structure}
use Rattle.hk_base.proofs.Membership.{IsIn, IsIn-filter, IsIn-index, slice_get-IsIn, AllByRecursion-IsIn}
use Rattle.sample_slots.proofs.PayloadLaws.{payload-read}
use Rattle.st03_grammar.specs.declared.bodies.Report03.TheVariants as hk
use Rattle.pus_messages.specs.Protocol.{IsLawful}
use Rattle.pus_messages.specs.declared.message.ReportBody.TheVariants.{Hk}
use Rattle.hk_world.specs.Timelines.{tailoring, moments_before}
use Rattle.hk_world.specs.Honest.{IsFiled, IsParameterReport}
use Rattle.hk_world.specs.Worlds.{World, IsWorld, Reports, moments_of}
use Rattle.hk_world.specs.declared.moment.Moment.{Moment}
use Rattle.ground_history.specs.Histories.{Kept, tag_of}
use Rattle.ground_history.specs.Bounds.{history_in}
use Rattle.ground_history.specs.Attribution.{IsOfMoment}
use Rattle.ground_history.proofs.EntryLemmas.{world-attributed}
use Rattle.definition_intervals.specs.Soundness.{HasReport, KeptReportsWereMade, DecidedValuesAreTrue, IsReadTruly, places_of}
use Rattle.definition_intervals.proofs.SoundLemmas.{report_made}
use Rattle.definition_intervals.proofs.KnownWorlds.{protocol_lawful, verdicts_sound}

-- each row of places and values has its place
every-place : (ps : List Place) (vs : List ℤ) (R : Place → ℤ → Type 0) → AllZip R ps vs → map (λ (r : Place × ℤ). r.0) (zip ps vs) ≡ ps
every-place [] [] R all = refl
every-place [] (v ∷ vs) R all = absurd all
every-place (p ∷ ps) [] R all = absurd all
every-place (p ∷ ps) (v ∷ vs) R all = ap (λ xs. p ∷ xs) (every-place ps vs R all.1)

-- a row has a place, and what holds of it
record IsRow (R : Place → ℤ → Type 0) (ps : List Place) (row : ℕ) (place : Place) (value : ℤ) : Type 0 where
  at : slice_get ps row ≡ Some place
  is : R place value

a-row : (R : Place → ℤ → Type 0) (ps : List Place) (vs : List ℤ) (row : ℕ) (place : Place) (value : ℤ) → AllZip R ps vs → slice_get (zip ps vs) row ≡ Some (place, value) → IsRow R ps row place value
a-row R [] [] row place value all e = absurd (none-some (place, value) e)
a-row R [] (v ∷ vs) row place value all e = absurd all
a-row R (p ∷ ps) [] row place value all e = absurd all
a-row R (p ∷ ps) (v ∷ vs) zero place value all e =
    let same = same_Some (p, v) (place, value) e in
    record { at = ap (λ (x : Place × ℤ). Some x.0) same; is = subst (λ (x : Place × ℤ). R x.0 x.1) same all.0 }
a-row R (p ∷ ps) (v ∷ vs) (suc row) place value all e = let r = a-row R ps vs row place value all.1 e in record { at = r.at; is = r.is }

-- a sample among the moments below a tag is among all
filed-before : (tag : ℕ) (moments : List Moment) (place : Place) (value : ℤ) → IsFiled (moments_before tag moments) place value → IsFiled moments place value
filed-before tag moments place value f =
    let below : IsIn f.1 (moments_before tag moments) = slice_get-IsIn f.1 (moments_before tag moments) f.0 f.2 in
    let there = IsIn-index f.1 moments (IsIn-filter (λ (m : Moment). nat_lt m.tag tag) f.1 moments below).0 in
    (there.0, f.1, there.1, f.3)

-- a kept report is one of the timeline
made : (w : World) (i : ℕ) (k : Kept) → IsLawful w.session.protocol → IsWorld w → slice_get (history_in w).kept i ≡ Some k → Reports w (tag_of k) k.report.body
made w i k law world at =
    let all = (world-attributed w [] w.steps law world refl).kept in
    let of : IsOfMoment w k = AllByRecursion-IsIn (IsOfMoment w) k (history_in w).kept all (slice_get-IsIn k (history_in w).kept i at) in
    (of.place, of.moment, of.there, of.tag, (k.report.header, ap (λ p. w.session.protocol.reception p) of.packet ∙ of.read, sym of.tag))

pub reports_made : KeptReportsWereMade
reports_made t w i k e world at = made w i k (protocol_lawful t w.session e) world at

-- so is a kept parameter report
reported : (w : World) (key : Key) (tag : ℕ) (payload : List ℕ) → IsLawful w.session.protocol → IsWorld w → HasReport (history_in w) key tag payload
    → Reports w tag (Hk (hk.Values key payload))
reported w key tag payload law world kept =
    subst (λ n. Reports w n (Hk (hk.Values key payload))) kept.3
    (subst (λ body. Reports w (tag_of kept.1) body) kept.4 (made w kept.0 kept.1 law world kept.2))

-- the values of a report that was made under a definition
under : (w : World) (key : Key) (tag : ℕ) (payload : List ℕ) → IsWorld w → Reports w tag (Hk (hk.Values key payload))
    → (r : IsParameterReport w.session (moments_before tag (moments_of w.steps)) tag key payload) → IsReadTruly w key tag payload r.structure.def
under w key tag payload world told r =
    record {
      values = r.values;
      read = payload-read (tailoring w.session) r.structure.def r.values payload world.session.fit r.payload_is;
      each_place = every-place (places_of w tag r.structure.def) r.values (IsFiled earlier) r.samples;
      each_value = λ row place value e.
          let x = a-row (IsFiled earlier) (places_of w tag r.structure.def) r.values row place value r.samples e in
          record {
            payload = payload;
            structure = r.structure;
            reported = told;
            in_force = r.is_there;
            interval_is = refl;
            place = x.at;
            sample = filed-before tag (moments_of w.steps) place value x.is;
          };
    }
  where
    earlier : List Moment
    earlier = moments_before tag (moments_of w.steps)

pub values_true : DecidedValuesAreTrue
values_true t w key tag payload d e world kept decided =
    let r : IsParameterReport w.session (moments_before tag (moments_of w.steps)) tag key payload = report_made w key tag payload world kept in
    let found = (verdicts_sound t w key tag payload e world kept).decided d decided in
    let both : Some r.structure ≡ Some found.0 = sym r.is_there ∙ found.1 in
    let same : r.structure.def ≡ d = ap (λ (x : Structure). x.def) (same_Some r.structure found.0 both) ∙ found.2 in
    subst (IsReadTruly w key tag payload) same (under w key tag payload world (reported w key tag payload (protocol_lawful t w.session e) world kept) r)
