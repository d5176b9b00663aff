-- What is true in a prefix of a world is true in the world.
use Rattle.std.proofs.Common.{arith, ◌≡◌, ℕ, suc, ◌<◌, refl, sym, ◌∙◌, ap, subst, List, [], ◌∷◌, ◌++◌, Bool, true, false, nat_lt, cond, Option, Some, None, ◌⊎◌, inl, inr}
use Rattle.std.proofs.lemmas.Bool.{le-ltb, true≢false}
use Rattle.std.proofs.lemmas.Option.{none-some}
use Rattle.std.specs.Prelude.{◌≢◌, ⊤, ℤ, slice_get, filter_map, option_map, if◌then◌else◌}
use Rattle.hk_base.specs.TailoringParts.{TailoringParts}
use Rattle.hk_base.specs.Parameters.{boot_structure}
use Rattle.hk_base.specs.declared.types.Key.{Key}
use Rattle.hk_base.specs.declared.types.Place.{Place}
use Rattle.hk_base.specs.declared.types.Definition.{Definition}
use Rattle.hk_base.specs.declared.types.Structure.{Structure}
use Rattle.hk_base.proofs.Membership.{IsIn, IsIn-append, IsIn-left, IsIn-right, IsIn-filter_map, filter_map-IsIn}
use Rattle.st03_grammar.specs.declared.bodies.Report03.TheVariants as hk
use Rattle.st04_grammar.specs.declared.bodies.Report04.TheVariants as stat
use Rattle.pus_messages.specs.declared.message.ReportBody.{ReportBody}
use Rattle.pus_messages.specs.declared.message.ReportBody.TheVariants.{Hk, Stat, Par}
use Rattle.hk_world.specs.Timelines.{EachAfter, Session, tailoring, state_after, moments_before}
use Rattle.hk_world.specs.States.{BoardState}
use Rattle.hk_world.specs.Worlds.{World, Step, send, happen, deliver, stray, MayStep, Reports, moments_of, deliveries_of, entries_seen, world_state_at}
use Rattle.hk_world.specs.declared.moment.Moment.{Moment}
use Rattle.hk_world.proofs.TimelineLemmas.{In, all-in}
use Rattle.hk_world.proofs.SentLemmas.{in-get}
use Rattle.ground_history.specs.Histories.{Kept, History, tag_of}
use Rattle.ground_history.specs.Bounds.{history_after}
use Rattle.definition_intervals.specs.Openings.{Opening, opening, openings, boot_openings, report_opening, reported_structure}
use Rattle.definition_intervals.specs.declared.answer.Verdict.TheVariants.{Decided, Undecidable, Crowded, NoOpening, Impossible}
use Rattle.definition_intervals.proofs.RecordLemmas.{HasGrown, world_grows}
use Rattle.definition_intervals.proofs.WorldContainment.{history-known}
use Rattle.session_texts.specs.Follow.{is_decision}
use Rattle.session_texts.specs.Truth.{Block, parameter_block, statistics_block, current_block, openings_in, AreTrueRows, HasTrueReason, IsOfReport, IsTrueBlock}

-- a block that can't be taken back: a parameter report's is decided
abbrev pub IsFinal : Block → Type 0
IsFinal (parameter_block key tag v rows) = is_decision v ≡ true
IsFinal _ = ⊤

-- a session after some steps
abbrev pub world_of : Session → List Step → World
world_of s steps = record { session = s; steps = steps }

-- a moment of a prefix is one of the whole
abbrev pub IsAmong : List Moment → Moment → Type 0
IsAmong moments m = (i : ℕ) × (slice_get moments i ≡ Some m)

pub moment-later : (later earlier : List Step) (m : Moment) → IsAmong (moments_of earlier) m → IsAmong (moments_of (later ++ earlier)) m
moment-later [] earlier m x = x
moment-later (send k ∷ later) earlier m x = moment-later later earlier m x
moment-later (deliver n ∷ later) earlier m x = moment-later later earlier m x
moment-later (stray packet ∷ later) earlier m x = moment-later later earlier m x
moment-later (happen n ∷ later) earlier m x = let r = moment-later later earlier m x in (suc r.0, r.1)

delivery-later : (later earlier : List Step) (m : Moment) → IsAmong (deliveries_of earlier) m → IsAmong (deliveries_of (later ++ earlier)) m
delivery-later [] earlier m x = x
delivery-later (send k ∷ later) earlier m x = delivery-later later earlier m x
delivery-later (happen n ∷ later) earlier m x = delivery-later later earlier m x
delivery-later (stray packet ∷ later) earlier m x = delivery-later later earlier m x
delivery-later (deliver n ∷ later) earlier m x = let r = delivery-later later earlier m x in (suc r.0, r.1)

-- what a prefix reports the whole reports
pub reports-later : (s : Session) (later earlier : List Step) (tag : ℕ) (body : ReportBody) → Reports (world_of s earlier) tag body → Reports (world_of s (later ++ earlier)) tag body
reports-later s later earlier tag body r = let x = moment-later later earlier r.1 (r.0, r.2) in (x.0, r.1, x.1, r.3, r.4)

report-later : (s : Session) (later earlier : List Step) (tag : ℕ) (body : ReportBody) → IsOfReport (world_of s earlier) tag body → IsOfReport (world_of s (later ++ earlier)) tag body
report-later s later earlier tag body r =
    let x = delivery-later later earlier r.moment (r.number, r.delivered) in
    record { made = reports-later s later earlier tag body r.made; number = x.0; moment = r.moment; delivered = x.1; tag_is = r.tag_is; report = r.report }

in-later : (later earlier : List Step) (m : Moment) → In m (moments_of earlier) → In m (moments_of (later ++ earlier))
in-later [] earlier m i = i
in-later (send k ∷ later) earlier m i = in-later later earlier m i
in-later (deliver n ∷ later) earlier m i = in-later later earlier m i
in-later (stray packet ∷ later) earlier m i = in-later later earlier m i
in-later (happen n ∷ later) earlier m i = inr (in-later later earlier m i)

-- below the tag of a moment nothing happens later
before-same : (s : Session) (later earlier : List Step) → EachAfter (MayStep s) (later ++ earlier) → (x : Moment) → In x (moments_of earlier)
    → moments_before x.tag (moments_of (later ++ earlier)) ≡ moments_before x.tag (moments_of earlier)
before-same s [] earlier h x i = refl
before-same s (send k ∷ later) earlier h x i = before-same s later earlier h.1 x i
before-same s (deliver n ∷ later) earlier h x i = before-same s later earlier h.1 x i
before-same s (stray packet ∷ later) earlier h x i = before-same s later earlier h.1 x i
before-same s (happen n ∷ later) earlier h x i =
    let rest : List Moment = moments_before x.tag (moments_of (later ++ earlier)) in
    let above : x.tag < n.tag = all-in (λ y. y.tag < n.tag) (moments_of (later ++ earlier)) h.0.1.tag.above x (in-later later earlier x i) in
    ap (λ b. cond b (n ∷ rest) rest) (le-ltb n.tag x.tag (omega (arith, above))) ∙ before-same s later earlier h.1 x i

-- the state at the tag of a report stays
pub state-same : (s : Session) (later earlier : List Step) → EachAfter (MayStep s) (later ++ earlier) → (tag : ℕ) (body : ReportBody) → Reports (world_of s earlier) tag body
    → world_state_at (world_of s earlier) tag ≡ world_state_at (world_of s (later ++ earlier)) tag
state-same s later earlier h tag body r =
    let inside : In r.1 (moments_of earlier) = in-get (moments_of earlier) r.0 r.1 r.2 in
    subst (λ n. state_after s (moments_before n (moments_of earlier)) ≡ state_after s (moments_before n (moments_of (later ++ earlier)))) r.3
    (ap (state_after s) (sym (before-same s later earlier h r.1 inside)))

-- values that are true in a prefix are true in the whole
rows-later : (s : Session) (later earlier : List Step) → EachAfter (MayStep s) (later ++ earlier) → (key : Key) (tag : ℕ) (payload : List ℕ) (d : Definition) (rows : List (Place × ℤ))
    → Reports (world_of s earlier) tag (Hk (hk.Values key payload)) → AreTrueRows (world_of s earlier) key tag d rows → AreTrueRows (world_of s (later ++ earlier)) key tag d rows
rows-later s later earlier h key tag payload d rows made r =
    record {
      structure = r.structure;
      in_force = in-force r.structure r.in_force;
      definition_is = r.definition_is;
      places = r.places;
      values = λ row place value e.
          let v = r.values row place value e in
          let x = moment-later later earlier v.sample.1 (v.sample.0, v.sample.2) in
          record {
            payload = v.payload;
            structure = v.structure;
            reported = reports-later s later earlier tag (Hk (hk.Values key v.payload)) v.reported;
            in_force = in-force v.structure v.in_force;
            interval_is = v.interval_is;
            place = v.place;
            sample = (x.0, v.sample.1, x.1, v.sample.3);
          };
    }
  where
    in-force : (x : Structure) → (world_state_at (world_of s earlier) tag).structure key ≡ Some x → (world_state_at (world_of s (later ++ earlier)) tag).structure key ≡ Some x
    in-force x e = subst (λ (b : BoardState). b.structure key ≡ Some x) (state-same s later earlier h tag (Hk (hk.Values key payload)) made) e

-- ---- openings

-- a state of a structure is known below a tag: that at the start, or one that was reported
abbrev HasState : History → Key → ℕ → Type 0
HasState h key tag = (h.known ≡ true) ⊎ ((k : Kept) × IsIn k h.kept × (x : Structure) × (nat_lt (tag_of k) tag ≡ true) × (reported_structure key k.report.body ≡ Some x))

opening-state : (h : History) (key : Key) (tag : ℕ) (k : Kept) (o : Opening) → report_opening h key tag k ≡ Some o
    → (x : Structure) × (nat_lt (tag_of k) tag ≡ true) × (reported_structure key k.report.body ≡ Some x)
opening-state h key tag k o e = go (nat_lt (tag_of k) tag) (reported_structure key k.report.body) refl refl e
  where
    go : (b : Bool) (r : Option Structure) → nat_lt (tag_of k) tag ≡ b → reported_structure key k.report.body ≡ r
        → (if b then option_map (λ s. opening h key tag (tag_of k) (Some s)) r else None) ≡ Some o
        → (x : Structure) × (nat_lt (tag_of k) tag ≡ true) × (reported_structure key k.report.body ≡ Some x)
    go true (Some x) p q f = (x, p, q)
    go true None p q f = absurd (none-some o f)
    go false r p q f = absurd (none-some o f)

opened-by : (t : TailoringParts) (h : History) (key : Key) (tag : ℕ) (o : Opening) → IsIn o (openings t h key tag) → HasState h key tag
opened-by t h key tag o i = go h.known refl (IsIn-append o (boot_openings t h key tag) (filter_map (report_opening h key tag) h.kept) i)
  where
    go : (b : Bool) → h.known ≡ b → IsIn o (boot_openings t h key tag) ⊎ IsIn o (filter_map (report_opening h key tag) h.kept) → HasState h key tag
    go true p x = inl p
    go false p (inl x) = absurd (subst (λ b. IsIn o (if b then opening h key tag 0 (boot_structure t key) ∷ [] else [])) p x)
    go false p (inr x) =
        let k = IsIn-filter_map (report_opening h key tag) o h.kept x in
        let r = opening-state h key tag k.0 o k.2 in
        inr (k.0, k.1, r.0, r.1, r.2)

state-opens : (t : TailoringParts) (h : History) (key : Key) (tag : ℕ) → HasState h key tag → openings t h key tag ≢ []
state-opens t h key tag (inl p) none =
    let there : IsIn (opening h key tag 0 (boot_structure t key)) (boot_openings t h key tag) =
    subst (λ b. IsIn (opening h key tag 0 (boot_structure t key)) (if b then opening h key tag 0 (boot_structure t key) ∷ [] else [])) (sym p) (inl refl) in
    subst (λ os. IsIn (opening h key tag 0 (boot_structure t key)) os) none
    (IsIn-left (opening h key tag 0 (boot_structure t key)) (boot_openings t h key tag) (filter_map (report_opening h key tag) h.kept) there)
state-opens t h key tag (inr (k, i, x, low, told)) none =
    let o : Opening = opening h key tag (tag_of k) (Some x) in
    let is : report_opening h key tag k ≡ Some o =
    ap (λ b. if b then option_map (λ y. opening h key tag (tag_of k) (Some y)) (reported_structure key k.report.body) else None) low
    ∙ ap (option_map (λ y. opening h key tag (tag_of k) (Some y))) told in
    subst (λ os. IsIn o os) none
    (IsIn-right o (boot_openings t h key tag) (filter_map (report_opening h key tag) h.kept) (filter_map-IsIn (report_opening h key tag) k o h.kept i is))

some-opening : (os : List Opening) → os ≢ [] → (o : Opening) × IsIn o os
some-opening [] some = absurd (some refl)
some-opening (o ∷ os) some = (o, inl refl)

-- what is known of a state stays known
opened-later : (s : Session) (later earlier : List Step) (key : Key) (tag : ℕ) → openings_in (world_of s earlier) key tag ≢ [] → openings_in (world_of s (later ++ earlier)) key tag ≢ []
opened-later s later earlier key tag some =
    let o = some-opening (openings_in (world_of s earlier) key tag) some in
    state-opens (tailoring s) (history_after s (later ++ earlier)) key tag (go (opened-by (tailoring s) (history_after s earlier) key tag o.0 o.1))
  where
    grown : HasGrown (history_after s earlier) (history_after s (later ++ earlier))
    grown = world_grows (world_of s (later ++ earlier)) later earlier refl

    go : HasState (history_after s earlier) key tag → HasState (history_after s (later ++ earlier)) key tag
    go (inl p) =
        inl (history-known s.protocol s.known s.long (entries_seen s.requests (later ++ earlier)) ∙ sym (history-known s.protocol s.known s.long (entries_seen s.requests earlier)) ∙ p)
    go (inr (k, i, x, low, told)) = inr (k, grown.kept k i, x, low, told)

-- a block that can't be taken back and is true in a prefix is true in the whole
pub block-later : (s : Session) (later earlier : List Step) → EachAfter (MayStep s) (later ++ earlier) → (b : Block) → IsFinal b → IsTrueBlock (world_of s earlier) b
    → IsTrueBlock (world_of s (later ++ earlier)) b
block-later s later earlier h (parameter_block key tag (Decided d) rows) final ((payload, of), r) =
    ((payload, report-later s later earlier tag (Hk (hk.Values key payload)) of), rows-later s later earlier h key tag payload d rows of.made r)
block-later s later earlier h (parameter_block key tag (Undecidable k) rows) final true_before = absurd (true≢false (sym final))
block-later s later earlier h (parameter_block key tag (Crowded k) rows) final true_before = absurd (true≢false (sym final))
block-later s later earlier h (parameter_block key tag NoOpening rows) final true_before = absurd (true≢false (sym final))
block-later s later earlier h (parameter_block key tag Impossible rows) final true_before = absurd (true≢false (sym final))
block-later s later earlier h (statistics_block tag report) final (of, rows) =
    let new : IsOfReport (world_of s (later ++ earlier)) tag (Stat (stat.Statistics report)) = report-later s later earlier tag (Stat (stat.Statistics report)) of in
    (new, λ row x there. (report, new.made, there))
block-later s later earlier h (current_block tag report) final (of, rows) =
    let new : IsOfReport (world_of s (later ++ earlier)) tag (Par report) = report-later s later earlier tag (Par report) of in
    (new, λ row x there. (report, new.made, there))

-- and so is its reason
pub reason-later : (s : Session) (later earlier : List Step) (b : Block) → IsFinal b → HasTrueReason (world_of s earlier) b → HasTrueReason (world_of s (later ++ earlier)) b
reason-later s later earlier (parameter_block key tag (Decided d) rows) final some = opened-later s later earlier key tag some
reason-later s later earlier (parameter_block key tag (Undecidable k) rows) final reason = absurd (true≢false (sym final))
reason-later s later earlier (parameter_block key tag (Crowded k) rows) final reason = absurd (true≢false (sym final))
reason-later s later earlier (parameter_block key tag NoOpening rows) final reason = absurd (true≢false (sym final))
reason-later s later earlier (parameter_block key tag Impossible rows) final reason = absurd (true≢false (sym final))
reason-later s later earlier (statistics_block tag report) final reason = tt
reason-later s later earlier (current_block tag report) final reason = tt
