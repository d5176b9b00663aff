-- The report of the statistics that are held is honest; its samples are those of the moments.
use Rattle.std.proofs.Common.{arith, ◌≡◌, ℕ, zero, suc, ◌<◌, ◌≤◌, ◌+◌, ◌*◌, ◌^◌, refl, sym, ◌∙◌, ap, ap₂, subst, List, [], ◌∷◌, ◌++◌, length, length-append, map, filter, reverse, Bool, true, false, ◌==◌, nat_lt, Option, Some, None}
use Rattle.std.specs.Prelude.{⊤, ℤ, IfSome, IsTrue, filter_map, if◌then◌else◌}
use Rattle.std.specs.List.{AllByRecursion, AllZip, cons_option}
use Rattle.std.proofs.lemmas.List.{reverse-append}
use Rattle.std.proofs.lemmas.Bool.Decides.{Decides-eqb, nat_tests}
use Rattle.hk_base.specs.Fit.{greatest_tag}
use Rattle.hk_base.specs.Parameters.{parameter, fits}
use Rattle.hk_base.specs.TailoringParts.{TailoringParts}
use Rattle.hk_base.specs.declared.types.Param.{Param}
use Rattle.statistics.specs.Summaries.{Sample, sample, AreTotals}
use Rattle.st04_grammar.specs.declared.bodies.StatRow.{StatRow}
use Rattle.st04_grammar.specs.declared.bodies.StatReport.{StatReport}
use Rattle.hk_world.specs.States as states
use Rattle.hk_world.specs.Timelines.{EachAfter, Session, tailoring, done_instructions, statistics_after, start_after, state_after}
use Rattle.hk_world.specs.Legal.{FilesSample}
use Rattle.hk_world.specs.Worlds.{MayHappen}
use Rattle.hk_world.specs.Honest.{sample_of, samples_above, samples_of, has_samples, IsStatRow, IsStatisticsReport}
use Rattle.hk_world.specs.declared.moment.Moment.{Moment}
use Rattle.hk_world.specs.declared.moment.Act.{Act}
use Rattle.hk_world.specs.declared.moment.Act.TheVariants.{Accepted, TurnedAway, Started, NotStarted, Executed, Completed, Emitted, Filed}
use Rattle.board_steps.specs.Timeline.{IsFiledBy, AreFiledBy, IsGood}
use Rattle.board_state.specs.Statistics.{StatisticsHeld, AreStatistics, IsMember, is_sampled, IsTimely, IsRowOf, AreRowsOf, IsReportOf}
use Rattle.board_state.specs.declared.members.Member.{Member}
use Rattle.board_state.proofs.MemberLemmas.{sample_above}
use Rattle.board_state.proofs.StatisticsLemmas.{zip-filter, zip-then, all-true}

has-some : (xs : List Sample) → has_samples xs ≡ nat_lt 0 (length xs)
has-some [] = refl
has-some (x ∷ xs) = let some : nat_lt 0 (length (x ∷ xs)) ≡ true = positive (length xs) in sym some
  where
    positive : (n : ℕ) → nat_lt 0 (suc n) ≡ true
    positive n = grind (arith, nat_tests)

-- the report of what is held is honest
pub report-honest : (s : Session) (moments : List Moment) (x : StatisticsHeld) (tag : ℕ) (r : StatReport) → AreStatistics s moments x → IsReportOf (tailoring s) x tag r
    → IsStatisticsReport s moments tag r
report-honest s moments x tag r h k =
    record {
      start = k.start ∙ h.start;
      end = k.end;
      rows = zip-then (λ a. ⊤) (IsMember (state_after s moments) moments) (IsRowOf (tailoring s)) (IsStatRow s moments) row
          (filter (λ m. has_samples (samples_of (state_after s moments) moments m)) (state_after s moments).statistics.members) (filter is_sampled x.members) r.rows
          (all-true (filter (λ m. has_samples (samples_of (state_after s moments) moments m)) (state_after s moments).statistics.members))
          (zip-filter (IsMember (state_after s moments) moments) (λ m. has_samples (samples_of (state_after s moments) moments m)) is_sampled
          (λ a b p. ap (nat_lt 0) p.1.count ∙ sym (has-some (samples_of (state_after s moments) moments a))) (state_after s moments).statistics.members x.members h.members)
          k.rows;
    }
  where
    row : (a : states.Member) (m : Member) (w : StatRow) → ⊤ → IsMember (state_after s moments) moments a m → IsRowOf (tailoring s) m w → IsStatRow s moments a w
    row a m w u p q =
        record {
          param = q.param ∙ p.0;
          max_slot = q.max_slot;
          min_slot = q.min_slot;
          max_time = q.max_time;
          min_time = q.min_time;
          summary = q.summary (samples_of (state_after s moments) moments a) p.1;
        }

-- a sample of a parameter: of a slot up to this one, with a value that fits it
abbrev pub IsSampleOf : TailoringParts → ℕ → ℕ → Sample → Type 0
IsSampleOf t slot id x = (x.slot ≤ slot) × ((q : Param) × (parameter t id ≡ Some q) × (fits q x.value ≡ true))

all-last : (P : Sample → Type 0) (xs : List Sample) (x : Sample) → AllByRecursion P xs → P x → AllByRecursion P (xs ++ x ∷ [])
all-last P [] x h p = (p, tt)
all-last P (y ∷ ys) x h p = (h.0, all-last P ys x h.1 p)

-- so is each sample that was filed
samples-all : (P : Sample → Type 0) (id tag : ℕ) (moments : List Moment) → AllByRecursion (λ (m : Moment). IfSome (sample_of id m.act) P) moments
    → AllByRecursion P (samples_above id tag moments)
samples-all P id tag [] h = tt
samples-all P id tag (m ∷ ms) h = go (sample_above id tag m) (one (nat_lt tag m.tag)) (samples-all P id tag ms h.1)
  where
    one : (b : Bool) → IfSome (if b then sample_of id m.act else None) P
    one true = h.0
    one false = tt

    go : (o : Option Sample) → IfSome o P → AllByRecursion P (samples_above id tag ms) → AllByRecursion P (reverse (cons_option o (filter_map (sample_above id tag) ms)))
    go None k all = all
    go (Some x) k all = subst (AllByRecursion P) (sym (reverse-append (x ∷ []) (filter_map (sample_above id tag) ms))) (all-last P (samples_above id tag ms) x all k)

filed-fits : (s : Session) (slot id : ℕ) (m : Moment) (earlier : List Moment) → MayHappen s earlier m → IsFiledBy (tailoring s) slot m.act → IfSome (sample_of id m.act) (IsSampleOf (tailoring s) slot id)
filed-fits s slot id m earlier may by = go m.act may.sample by
  where
    go : (act : Act) → FilesSample s earlier act → IsFiledBy (tailoring s) slot act → IfSome (sample_of id act) (IsSampleOf (tailoring s) slot id)
    go (Filed param x v) f b = named (param == id) refl
      where
        named : (c : Bool) → (param == id) ≡ c → IfSome (if c then Some (sample x v) else None) (IsSampleOf (tailoring s) slot id)
        named true e =
            let same : param ≡ id = (Decides-eqb param id).0 e in
            (b.0, (f.0, subst (λ k. parameter (tailoring s) k ≡ Some f.0) same f.1.known, f.1.fit))
        named false e = tt
    go (Accepted k) f b = tt
    go (TurnedAway k) f b = tt
    go (Started k) f b = tt
    go (NotStarted k) f b = tt
    go (Executed k number flag) f b = tt
    go (Completed k refused) f b = tt
    go Emitted f b = tt

-- the samples of a parameter in a good timeline
pub samples-fit : (s : Session) (slot id tag : ℕ) (moments : List Moment) → EachAfter (MayHappen s) moments → AreFiledBy (tailoring s) slot moments
    → AllByRecursion (IsSampleOf (tailoring s) slot id) (samples_above id tag moments)
samples-fit s slot id tag moments may by = samples-all (IsSampleOf (tailoring s) slot id) id tag moments (go moments may by)
  where
    go : (ms : List Moment) → EachAfter (MayHappen s) ms → AreFiledBy (tailoring s) slot ms → AllByRecursion (λ (m : Moment). IfSome (sample_of id m.act) (IsSampleOf (tailoring s) slot id)) ms
    go [] h b = tt
    go (m ∷ ms) h b = (filed-fits s slot id m ms h.0 b.0, go ms h.1 b.1)

-- no more samples than moments
pub samples-few : (id tag : ℕ) (moments : List Moment) → length (samples_above id tag moments) ≤ length moments
samples-few id tag [] = omega arith
samples-few id tag (m ∷ ms) = go (sample_above id tag m) (samples-few id tag ms)
  where
    go : (o : Option Sample) → length (samples_above id tag ms) ≤ length ms → length (reverse (cons_option o (filter_map (sample_above id tag) ms))) ≤ suc (length ms)
    go None h = omega (arith, h)
    go (Some x) h =
        let e : length (reverse (x ∷ filter_map (sample_above id tag) ms)) ≡ length (samples_above id tag ms) + 1 =
        ap length (reverse-append (x ∷ []) (filter_map (sample_above id tag) ms)) ∙ length-append (samples_above id tag ms) (x ∷ []) in
        omega (arith, e, h)

pub zip-each : {A B : Type 0} (P : A → B → Type 0) (Q : B → Type 0) → ((a : A) (b : B) → P a b → Q b) → (xs : List A) (ys : List B) → AllZip P xs ys → AllByRecursion Q ys
zip-each P Q f [] [] h = tt
zip-each P Q f [] (y ∷ ys) h = absurd h
zip-each P Q f (x ∷ xs) [] h = absurd h
zip-each P Q f (x ∷ xs) (y ∷ ys) h = (f x y h.0, zip-each P Q f xs ys h.1)

pub all-so : (P Q : Sample → Type 0) → ((x : Sample) → P x → Q x) → (xs : List Sample) → AllByRecursion P xs → AllByRecursion Q xs
all-so P Q f [] h = tt
all-so P Q f (x ∷ xs) h = (f x h.0, all-so P Q f xs h.1)

times-up : (a b n : ℕ) → a ≤ b → a * n ≤ b * n
times-up a b n h = grind (arith, nat_tests)

-- the times of the members' samples can be told
pub members-timely : (s : Session) (slot : ℕ) (moments : List Moment) (x : StatisticsHeld) → IsGood s slot moments → slot * (tailoring s).widths.slot < 2 ^ 63 → AreStatistics s moments x
    → AllByRecursion (IsTimely (tailoring s)) x.members
members-timely s slot moments x good early h =
    zip-each (IsMember (state_after s moments) moments) (IsTimely (tailoring s)) timely (state_after s moments).statistics.members x.members h.members
  where
    timely : (a : states.Member) (m : Member) → IsMember (state_after s moments) moments a m → IsTimely (tailoring s) m
    timely a m p =
        record {
          samples = samples_of (state_after s moments) moments a;
          totals = p.1;
          times = all-so (IsSampleOf (tailoring s) slot a.param) (λ y. y.slot * (tailoring s).widths.slot < 2 ^ 63)
              (λ y k. let le = times-up y.slot slot (tailoring s).widths.slot k.0 in omega (arith, le, early)) (samples_of (state_after s moments) moments a)
              (samples-fit s slot a.param (if nat_lt (start_after s moments) a.added then a.added else start_after s moments) moments good.timeline good.filed);
        }
