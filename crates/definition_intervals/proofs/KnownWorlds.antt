-- What containment uses of a timeline and of the evidence on it holds in each world over a lawful protocol.
use Rattle.std.proofs.Common.{arith, ◌≡◌, ℕ, ◌+◌, ◌<◌, ◌≤◌, refl, sym, ◌∙◌, ap, subst, List, [], ◌∷◌, Bool, true, false, ◌==◌, Option, Some, None, ◌⊎◌, inl, inr}
use Rattle.std.specs.Prelude.{IfSome, is_ok}
use Rattle.std.specs.Option.{option_map_or}
use Rattle.std.proofs.lemmas.Bool.{true≢false, eqb-true, and_from, and_parts}
use Rattle.st01_reports.specs.declared.verification.Verification.{Verification}
use Rattle.st01_reports.specs.declared.verification.Verification.TheVariants as v
use Rattle.pus_messages.specs.Protocol.{IsLawful}
use Rattle.pus_messages.specs.Messages.{protocol}
use Rattle.pus_messages.proofs.Lawful.{lawful}
use Rattle.pus_messages.proofs.NameLemmas.{NamesEachOnce, names_each_once}
use Rattle.hk_base.specs.TailoringParts.{TailoringParts}
use Rattle.hk_base.specs.declared.types.Key.{Key}
use Rattle.pus_messages.specs.declared.message.ReportBody.{ReportBody}
use Rattle.pus_messages.specs.declared.message.ReportBody.TheVariants.{Verify, Hk, Stat, Par}
use Rattle.hk_world.specs.Timelines.{Session, tailoring, request_number, last_act, moments_before}
use Rattle.hk_world.specs.Legal.{IsLegal}
use Rattle.hk_world.specs.Worlds.{World, IsWorld, moments_of, sent_count, shows_begun}
use Rattle.hk_world.specs.declared.moment.Moment.{Moment}
use Rattle.hk_world.specs.declared.moment.Act.{Act}
use Rattle.hk_world.specs.declared.moment.Act.TheVariants.{Accepted, TurnedAway, Started, NotStarted, Executed, Completed, Emitted, Filed}
use Rattle.hk_world.proofs.WorldLemmas.{IsWorld-legal}
use Rattle.hk_world.proofs.TimelineLemmas.{In, Precedes}
use Rattle.hk_world.proofs.RequestLemmas.{IsOf, count_at, number_is, last_act-in, is_late, before-late, once, one_act}
use Rattle.hk_world.proofs.OutcomeLemmas.{executed-number, unstarted-alone, completed-all}
use Rattle.hk_world.proofs.HonestLemmas.{Matches}
use Rattle.hk_world.proofs.EndLemmas.{before-in}
use Rattle.hk_world.proofs.SentLemmas.{sent-moment}
use Rattle.sample_slots.proofs.PayloadLaws.{payload-read}
use Rattle.ground_history.specs.Histories.{Kept, History}
use Rattle.ground_history.specs.Evidence.{passes, verifies, shows_unstarted, shows_barred, has_report, is_accepted, is_barred, high}
use Rattle.ground_history.specs.Bounds.{has_ended, history_in}
use Rattle.ground_history.proofs.AttributionLemmas as evidence
use Rattle.ground_history.proofs.EvidenceLemmas.{any-from, IsTelling, telling}
use Rattle.ground_history.proofs.BoundsLemmas.{executed-above, unstarted-above, all-below-high, ended-by-high, done-is, refused-is}
use Rattle.ground_history.proofs.StepLemmas as steps
use Rattle.hk_base.proofs.Membership.{IsIn, IsIn-list_any, list_any-IsIn}
use Rattle.definition_intervals.specs.Soundness.{ContainmentHolds, VerdictsAreSound}
use Rattle.definition_intervals.proofs.KnownFacts.{IsOrdered, IsBounded, IsKnown, NamesOnce}
use Rattle.definition_intervals.proofs.NamesLemmas.{names_once}
use Rattle.definition_intervals.proofs.SoundLemmas.{ReadsInForce, world_sound}
use Rattle.definition_intervals.proofs.WorldContainment.{world_contained}

-- the two forms of membership
pub in-is : (m : Moment) (ms : List Moment) → In m ms → IsIn m ms
in-is m [] i = i
in-is m (x ∷ ms) (inl e) = inl (sym e)
in-is m (x ∷ ms) (inr i) = inr (in-is m ms i)

pub is-in : (m : Moment) (ms : List Moment) → IsIn m ms → In m ms
is-in m [] i = i
is-in m (x ∷ ms) (inl e) = inl (sym e)
is-in m (x ∷ ms) (inr i) = inr (is-in m ms i)

-- an act that shows that a request was begun is a late one of it
begun-late : (k : ℕ) (act : Act) → shows_begun k act ≡ true → IsOf k act × (is_late act ≡ true)
begun-late k (Started j) e = (ap Some (eqb-true j k e), refl)
begun-late k (NotStarted j) e = (ap Some (eqb-true j k e), refl)
begun-late k (Executed j number flag) e = (ap Some (eqb-true j k e), refl)
begun-late k (Completed j refused) e = (ap Some (eqb-true j k e), refl)
begun-late k (Accepted j) e = cc
begun-late k (TurnedAway j) e = cc
begun-late k Emitted e = cc
begun-late k (Filed param slot value) e = cc

-- an instruction is executed at one moment
executed-moment : (s : Session) (ms : List Moment) → IsLegal s ms → (x y : Moment) (k n : ℕ) (a b : Bool) → In x ms → In y ms → x.act ≡ Executed k n a → y.act ≡ Executed k n b → x ≡ y
executed-moment s ms legal x y k n a b i j d e =
    once s k ms legal x y i j (ap request_number d) (ap request_number e)
    (λ r. apart b a (subst (λ c. Precedes (count_at s k) c (Executed k n a)) e (subst (λ c. Precedes (count_at s k) y.act c) d r)))
    (λ r. apart a b (subst (λ c. Precedes (count_at s k) c (Executed k n b)) d (subst (λ c. Precedes (count_at s k) x.act c) e r)))
  where
    apart : (f g : Bool) → Precedes (count_at s k) (Executed k n f) (Executed k n g) → ⊥
    apart f g p = omega (arith, p.0)

-- in a legal timeline requests are worked on one after the other
pub legal-ordered : (s : Session) (ms : List Moment) → IsLegal s ms → IsOrdered s ms
legal-ordered s ms legal =
    record {
      tags = legal.tags;
      outcomes = legal.outcomes;
      in_turn = λ x y j k i w p b lt.
          let late = begun-late k y.act b in
          before-late s j k ms legal x y (is-in x ms i) (is-in y ms w) p late.0 late.1 lt;
      once = λ x y k n a b i j d e. executed-moment s ms legal x y k n a b (is-in x ms i) (is-in y ms j) d e;
      apart = λ x y k n b i j d e.
          let same : NotStarted k ≡ Executed k n b = unstarted-alone s k ms legal x y (Executed k n b) (is-in x ms i) (is-in y ms j) d e refl refl in
          cc;
      numbered = λ x k n b i e. (executed-number s k n b ms legal x (is-in x ms i) e).0;
      whole = λ x k n refused i e low high.
          let r = completed-all s k refused ms legal x (is-in x ms i) e n low high in
          (r.0, r.1, in-is r.0 ms r.2, r.3, r.4);
    }

-- a report that a request wasn't started bars it
unstarted-bars : (body : ReportBody) → passes shows_unstarted body ≡ true → passes shows_barred body ≡ true
unstarted-bars (Verify (v.NotStarted id cause)) e = refl
unstarted-bars (Verify (v.Refused id cause)) e = refl
unstarted-bars (Verify (v.Accepted id)) e = cc
unstarted-bars (Verify (v.Started id)) e = cc
unstarted-bars (Verify (v.Step id number)) e = cc
unstarted-bars (Verify (v.StepFailed id number cause)) e = cc
unstarted-bars (Verify (v.Completed id)) e = cc
unstarted-bars (Verify (v.Incomplete id code numbers)) e = cc
unstarted-bars (Verify (v.NotRouted id cause)) e = cc
unstarted-bars (Hk x) e = cc
unstarted-bars (Stat x) e = cc
unstarted-bars (Par x) e = cc

-- where a request isn't barred no report says that it wasn't started
unbarred-unstarted : (h : History) (k : ℕ) → is_barred h k ≡ false → has_report shows_unstarted h k ≡ false
unbarred-unstarted h k e = go (has_report shows_unstarted h k) refl
  where
    go : (b : Bool) → has_report shows_unstarted h k ≡ b → b ≡ false
    go false p = refl
    go true p =
        let r = IsIn-list_any (verifies shows_unstarted (λ j. j == k)) h.kept p in
        let parts = and_parts (option_map_or (λ j. j == k) r.0.number false) (passes shows_unstarted r.0.report.body) r.2 in
        let bars = and_from (option_map_or (λ j. j == k) r.0.number false) (passes shows_barred r.0.report.body) parts.0 (unstarted-bars r.0.report.body parts.1) in
        absurd (true≢false (sym (list_any-IsIn (verifies shows_barred (λ j. j == k)) r.0 h.kept r.1 bars) ∙ e))

module _ (s : Session) (ms : List Moment) (n : ℕ) (h : History) (legal : IsLegal s ms) (known : evidence.IsKnown s ms n h) (k : ℕ) where
  -- nothing of a barred request is executed
  barred-idle : (m : Moment) (number : ℕ) (flag : Bool) → In m ms → m.act ≡ Executed k number flag → is_barred h k ≡ true → ⊥
  barred-idle m number flag i e barred = told (telling s ms found.0 shows_barred (λ j. j == k) found.1 found.2)
    where
      found : (r : Kept) × evidence.IsEvidence s ms r × (verifies shows_barred (λ j. j == k) r ≡ true)
      found = any-from (evidence.IsEvidence s ms) (verifies shows_barred (λ j. j == k)) h.kept known.kept barred

      told : (t : IsTelling s ms found.0 shows_barred (λ j. j == k)) → ⊥
      told t = pick t.report t.passes_report t.matches
        where
          number_k : t.request ≡ k
          number_k = eqb-true t.request k t.passes_number

          pick : (x : Verification) → shows_barred x ≡ true → Matches t.request x t.moment.act → ⊥
          pick (v.Refused id cause) p q =
              let same : TurnedAway k ≡ Executed k number flag = one_act s k ms legal t.moment m (TurnedAway k) (Executed k number flag) t.inside i (q ∙ ap TurnedAway number_k) e refl refl (λ x. x) (λ x. x) in
              cc
          pick (v.NotStarted id cause) p q =
              let same : NotStarted k ≡ Executed k number flag = unstarted-alone s k ms legal t.moment m (Executed k number flag) t.inside i (q ∙ ap NotStarted number_k) e refl refl in
              cc
          pick (v.Accepted id) p q = cc
          pick (v.Started id) p q = cc
          pick (v.Step id step) p q = cc
          pick (v.StepFailed id step cause) p q = cc
          pick (v.Completed id) p q = cc
          pick (v.Incomplete id code numbers) p q = cc
          pick (v.NotRouted id cause) p q = cc

  -- a request that is known to be accepted has ended by the upper bound
  ended-moment : is_accepted h k ≡ true → (top : ℕ) → high h k ≡ Some top
      → (m : Moment) × IsIn m ms × (m.tag ≤ top) × ((m.act ≡ NotStarted k) ⊎ ((refused : List ℕ) × (m.act ≡ Completed k refused)))
  ended-moment accepted top e = go (last_act k (moments_before (top + 1) ms)) refl ends
    where
      ends : has_ended (last_act k (moments_before (top + 1) ms)) ≡ true
      ends =
          let P : Option ℕ → Type 0 = λ o. IfSome o (λ t. has_ended (last_act k (moments_before (t + 1) ms)) ≡ true) in
          subst P e (ended-by-high s ms n h legal known k accepted)

      go : (o : Option Act) → last_act k (moments_before (top + 1) ms) ≡ o → has_ended o ≡ true
          → (m : Moment) × IsIn m ms × (m.tag ≤ top) × ((m.act ≡ NotStarted k) ⊎ ((refused : List ℕ) × (m.act ≡ Completed k refused)))
      go (Some (NotStarted j)) q x =
          let r = last_act-in k (moments_before (top + 1) ms) (NotStarted j) q in
          let b = before-in (top + 1) ms r.0 r.1 in
          let under = b.1 in
          (r.0, in-is r.0 ms b.0, omega (arith, under), inl (r.2 ∙ ap NotStarted (number_is j k (NotStarted j) refl r.3)))
      go (Some (Completed j refused)) q x =
          let r = last_act-in k (moments_before (top + 1) ms) (Completed j refused) q in
          let b = before-in (top + 1) ms r.0 r.1 in
          let under = b.1 in
          (r.0, in-is r.0 ms b.0, omega (arith, under), inr (refused, r.2 ∙ ap (λ z. Completed z refused) (number_is j k (Completed j refused) refl r.3)))
      go None q x = cc
      go (Some (Accepted j)) q x = cc
      go (Some (TurnedAway j)) q x = cc
      go (Some (Started j)) q x = cc
      go (Some (Executed j number flag)) q x = cc
      go (Some Emitted) q x = cc
      go (Some (Filed param slot value)) q x = cc

  known-bounded : k < n → IsBounded s ms h k
  known-bounded lt =
      record {
        above = λ m number flag i e. executed-above s ms n h legal known k lt m number flag (is-in m ms i) e;
        below = λ m number flag i e. all-below-high s ms n h legal known k m (is-in m ms i) (ap request_number e) (λ refused f. let both = sym e ∙ f in cc);
        above_unstarted = λ m i e unbarred. unstarted-above s ms n h legal known k lt m (is-in m ms i) e (unbarred-unstarted h k unbarred);
        below_unstarted = λ m i e. all-below-high s ms n h legal known k m (is-in m ms i) (ap request_number e) (λ refused f. let both = sym e ∙ f in cc);
        ended = ended-moment;
        done = λ m number flag i e d. (done-is s ms n h legal known k lt number d).0 m flag (is-in m ms i) e;
        refused = λ m number flag i e r. refused-is s ms n h legal known k number r m flag (is-in m ms i) e;
        undone = λ m number i e d. (done-is s ms n h legal known k lt number d).1 m (is-in m ms i) e;
        unbarred = λ m number flag i e b. barred-idle m number flag (is-in m ms i) e b;
      }

-- what fits a legal timeline is known of it, where all requests with moments below a tag were sent
pub timeline-known : (s : Session) (ms : List Moment) (n : ℕ) (h : History) (tag : ℕ) → IsLegal s ms → evidence.IsKnown s ms n h
    → ((m : Moment) (k : ℕ) → In m ms → m.tag < tag → IsOf k m.act → k < n) → IsKnown s ms h tag
timeline-known s ms n h tag legal known sent =
    record {
      ordered = legal-ordered s ms legal;
      bounded = λ k lt. let c = known.count in known-bounded s ms n h legal known k (omega (arith, lt, c));
      listed = λ k r e. (known.requests k r e).request;
      sent = λ m k i below own. let c = known.count in let lt = sent m k (is-in m ms i) below own in omega (arith, lt, c);
    }

-- what the ground knows in a world over a lawful protocol
pub world_known : (w : World) (tag : ℕ) → IsLawful w.session.protocol → IsWorld w → IsKnown w.session (moments_of w.steps) (history_in w) tag
world_known w tag law world =
    timeline-known w.session (moments_of w.steps) (sent_count w.steps) (history_in w) tag (IsWorld-legal w world) (steps.known w.session law w.steps world.steps).0
    (λ m k i below own. sent-moment w.session w.steps world.steps m k i own)

-- a session over the protocol of a tailoring is over a lawful one, whose requests name no structure twice
pub protocol_lawful : (t : TailoringParts) (s : Session) → s.protocol ≡ protocol t → IsLawful s.protocol
protocol_lawful t s e = subst IsLawful (sym e) (lawful t)

pub protocol_names : (t : TailoringParts) (s : Session) (key : Key) → s.protocol ≡ protocol t → NamesOnce s key
protocol_names t s key e = names_once s key (subst NamesEachOnce (sym e) (names_each_once t))

-- in each world the state at a kept report is possible from each opening
pub containment_holds : ContainmentHolds
containment_holds t w key tag payload e world kept =
    world_contained w key tag world (world_known w tag (protocol_lawful t w.session e) world) (protocol_names t w.session key e)

-- in each world the reader accepts a payload under the definition in force
pub reads_in_force : (w : World) (key : Key) (tag : ℕ) (payload : List ℕ) → IsWorld w → ReadsInForce w key tag payload
reads_in_force w key tag payload world x e values is = ap is_ok (payload-read (tailoring w.session) x.def values payload world.session.fit is)

-- in each world verdicts are sound
pub verdicts_sound : VerdictsAreSound
verdicts_sound t w key tag payload e world kept =
    world_sound w key tag payload world (world_known w tag (protocol_lawful t w.session e) world) (protocol_names t w.session key e) (reads_in_force w key tag payload world) kept
