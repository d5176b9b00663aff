-- Of which requests a packet that was kept, or a request that was sent, tells something new.
use Rattle.std.proofs.Common.{arith, ◌≡◌, ℕ, ◌+◌, ◌<◌, ◌≤◌, refl, sym, ◌∙◌, ap, List, [], ◌∷◌, Bool, true, false, zero, suc, length, take, drop, inl, inr, Option, Some, None}
use Rattle.std.specs.Prelude.{not, ◌&&◌, ◌==◌, option_map, option_and_then, unwrap_or, filter_map, if◌then◌else◌}
use Rattle.std.specs.List.{enumerate_from}
use Rattle.std.specs.Option.{option_map_or}
use Rattle.std.proofs.lemmas.Bool.{true≢false}
use Rattle.std.proofs.lemmas.Bool.Decides.{nat_tests}
use Rattle.std.proofs.lemmas.List.{length-append, take-append-le}
use Rattle.std.proofs.lemmas.List.FromFn.{length-enumerate_from}
use Rattle.hk_base.specs.declared.types.Key.{Key}
use Rattle.hk_base.proofs.Membership.{IsIn}
use Rattle.st01_reports.specs.declared.verification.Verification.{Verification}
use Rattle.st01_reports.specs.declared.verification.Verification.TheVariants as verification
use Rattle.st03_grammar.specs.Instructions.{StructureChange}
use Rattle.pus_messages.specs.Changes.{change_by}
use Rattle.pus_messages.specs.declared.message.ReportBody.TheVariants.{Verify}
use Rattle.ground_history.specs.Histories.{Sent, Kept, History, tag_of}
use Rattle.ground_history.specs.Evidence.{passes, verifies, has_report, is_alone, is_barred, outcome, shows_barred, shows_refused, shows_executed}
use Rattle.ground_history.specs.Ground.{Ground, with_history}
use Rattle.ground_history.specs.declared.answer.Outcome.{Outcome}
use Rattle.ground_history.specs.declared.answer.Outcome.TheVariants.{Done, Refused, Unknown}
use Rattle.ground_history.proofs.SayLemmas.{any-insert_kept, verifies-is, IsReport, IsOther, other-passes, or-false, nothing}
use Rattle.definition_intervals.specs.Openings.{Candidate}
use Rattle.entry_changes.specs.Changes.{IsBelow, IsUpTo, AreUnsureSame, tells_acceptance, unsure, unsures, with_packet}
use Rattle.entry_changes.proofs.SameLemmas.{with_request, filter_map-same, enumerate-append}
use Rattle.entry_changes.proofs.KeptLemmas.{sent-same}

-- the same is known of whether a request is barred, and of what came of its instructions
record IsToldSame (h later : History) (k : ℕ) : Type 0 where
  pub barred : is_barred later k ≡ is_barred h k
  pub outcome : (number : ℕ) → outcome later k number ≡ outcome h k number

-- ---- requests of which the same is known

-- an unsure request by what is known of it
abbrev made : ℕ → Option (ℕ × StructureChange) → Bool → (ℕ → Outcome) → Option Candidate
made k o barred told =
    if not barred
    then option_map (λ (c : ℕ × StructureChange). record { number = k; change = c.1; certain = false; outcome = told c.0 }) o
    else None

made-same : (k : ℕ) (o : Option (ℕ × StructureChange)) (b b2 : Bool) (f f2 : ℕ → Outcome) → b ≡ b2 → ((n : ℕ) → f n ≡ f2 n) → made k o b f ≡ made k o b2 f2
made-same k None b b2 f f2 eb ef = ap (λ x. made k None x f) eb
made-same k (Some c) b b2 f f2 eb ef = ap (λ x. made k (Some c) x f) eb ∙ ap (λ (x : Outcome). made k (Some c) b2 (λ n. x)) (ef c.0)

unsure-same : (h later : History) (key : Key) (x : ℕ × Sent) → IsToldSame h later x.0 → unsure later key x ≡ unsure h key x
unsure-same h later key x same =
    made-same x.0 (option_and_then (change_by key) x.1.request) (is_barred later x.0) (is_barred h x.0) (outcome later x.0) (outcome h x.0) same.barred same.outcome

number-below : (n end : ℕ) (rs : List Sent) (x : ℕ × Sent) → IsIn x (take end (enumerate_from n rs)) → x.0 < n + end
number-below n zero rs x i = absurd i
number-below n (suc end) [] x i = absurd i
number-below n (suc end) (r ∷ rs) x (inl e) = let number : x.0 ≡ n = ap (λ (p : ℕ × Sent). p.0) e in omega (arith, number)
number-below n (suc end) (r ∷ rs) x (inr i) = let later = number-below (n + 1) end rs x i in omega (arith, later)

behind-in : {X : Type 0} (n : ℕ) (xs : List X) (x : X) → IsIn x (drop n xs) → IsIn x xs
behind-in zero xs x i = i
behind-in (suc n) [] x i = absurd i
behind-in (suc n) (y ∷ ys) x i = inr (behind-in n ys x i)

-- the first requests, of which the same is known, may change structures as they might before
unsures-same : (h later : History) (end : ℕ) → take end (enumerate_from 0 later.requests) ≡ take end (enumerate_from 0 h.requests) → ((k : ℕ) → k < end → IsToldSame h later k)
    → (key : Key) (first : ℕ) → unsures later key first end ≡ unsures h key first end
unsures-same h later end front same key first =
    ap (λ xs. filter_map (unsure later key) (drop first xs)) front
    ∙ filter_map-same (unsure later key) (unsure h key) (drop first (take end (enumerate_from 0 h.requests)))
    (λ x i. let lt = number-below 0 end h.requests x (behind-in first (take end (enumerate_from 0 h.requests)) x i) in unsure-same h later key x (same x.0 (omega (arith, lt))))

-- ---- a packet that was kept

-- a packet tells nothing of a request that bars it, and nothing of what came of its instructions
record IsUntold (n : Kept) (k : ℕ) : Type 0 where
  pub barred : verifies shows_barred (λ j. j == k) n ≡ false
  pub refused : (number : ℕ) → verifies (shows_refused number) (λ j. j == k) n ≡ false
  pub executed : (alone : Bool) (number : ℕ) → verifies (shows_executed alone number) (λ j. j == k) n ≡ false

report-same : (test : Verification → Bool) (h : History) (n : Kept) (k : ℕ) → verifies test (λ j. j == k) n ≡ false → has_report test (with_packet h n) k ≡ has_report test h k
report-same test h n k e = any-insert_kept (verifies test (λ j. j == k)) n h.kept ∙ or-false (verifies test (λ j. j == k) n) (has_report test h k) e

told-same : (h : History) (n : Kept) (k : ℕ) → IsUntold n k → IsToldSame h (with_packet h n) k
told-same h n k untold =
    record {
      barred = report-same shows_barred h n k untold.barred;
      outcome = λ number.
          ap (λ (b : Bool). if b then Refused else if has_report (shows_executed (is_alone h k) number) (with_packet h n) k then Done else Unknown)
          (report-same (shows_refused number) h n k (untold.refused number))
          ∙ ap (λ (b : Bool). if has_report (shows_refused number) h k then Refused else if b then Done else Unknown)
          (report-same (shows_executed (is_alone h k) number) h n k (untold.executed (is_alone h k) number));
    }

before-touched : (touched : Option ℕ) (k end : ℕ) → k < end → IsUpTo end touched → IsBelow k touched
before-touched None k end lt within = tt
before-touched (Some first) k end lt within = omega (arith, lt, within)

-- it touches no request before the first of which it tells something
kept-touches : (touched : Option ℕ) (g : Ground) (n : Kept) → ((k : ℕ) → IsBelow k touched → IsUntold n k) → AreUnsureSame touched g (with_history g (with_packet g.history n))
kept-touches touched g n untold =
    record {
      count = omega arith;
      unsures = λ key first end known within.
          unsures-same g.history (with_packet g.history n) end refl (λ k lt. told-same g.history n k (untold k (before-touched touched k end lt within))) key first;
    }

-- what tells nothing of any request tells nothing of one
untold-by : (n : Kept) (k : ℕ) → ((test : Verification → Bool) → verifies test (λ j. j == k) n ≡ false) → IsUntold n k
untold-by n k none = record { barred = none shows_barred; refused = λ number. none (shows_refused number); executed = λ alone number. none (shows_executed alone number) }

pub other-touches : (g : Ground) (n : Kept) → IsOther n.report.body → AreUnsureSame None g (with_history g (with_packet g.history n))
other-touches g n other =
    kept-touches None g n
    (λ k below. untold-by n k (λ test. ap (λ b. option_map_or (λ j. j == k) n.number false && b) (other-passes n.report.body other test) ∙ nothing (option_map_or (λ j. j == k) n.number false)))

failed : (test : Verification → Bool) (n : Kept) (k : ℕ) (v : Verification) → n.report.body ≡ Verify v → test v ≡ false → verifies test (λ j. j == k) n ≡ false
failed test n k v body fails =
    ap (λ x. option_map_or (λ j. j == k) n.number false && passes test x) body
    ∙ (ap (λ b. option_map_or (λ j. j == k) n.number false && b) fails ∙ nothing (option_map_or (λ j. j == k) n.number false))

-- what a report of acceptance doesn't show
record IsQuiet (v : Verification) : Type 0 where
  pub barred : shows_barred v ≡ false
  pub refused : (number : ℕ) → shows_refused number v ≡ false
  pub executed : (alone : Bool) (number : ℕ) → shows_executed alone number v ≡ false

acceptance-quiet : (v : Verification) → tells_acceptance v ≡ true → IsQuiet v
acceptance-quiet (verification.Accepted id) e = record { barred = refl; refused = λ number. refl; executed = λ alone number. refl }
acceptance-quiet (verification.Refused id cause) e = absurd (true≢false (sym e))
acceptance-quiet (verification.Started id) e = absurd (true≢false (sym e))
acceptance-quiet (verification.NotStarted id cause) e = absurd (true≢false (sym e))
acceptance-quiet (verification.Step id step) e = absurd (true≢false (sym e))
acceptance-quiet (verification.StepFailed id step cause) e = absurd (true≢false (sym e))
acceptance-quiet (verification.Completed id) e = absurd (true≢false (sym e))
acceptance-quiet (verification.Incomplete id code steps) e = absurd (true≢false (sym e))
acceptance-quiet (verification.NotRouted id cause) e = absurd (true≢false (sym e))

pub acceptance-touches : (g : Ground) (n : Kept) (v : Verification) → n.report.body ≡ Verify v → tells_acceptance v ≡ true → AreUnsureSame None g (with_history g (with_packet g.history n))
acceptance-touches g n v body accepts =
    let quiet = acceptance-quiet v accepts in
    kept-touches None g n
    (λ k below.
    record {
      barred = failed shows_barred n k v body quiet.barred;
      refused = λ number. failed (shows_refused number) n k v body (quiet.refused number);
      executed = λ alone number. failed (shows_executed alone number) n k v body (quiet.executed alone number);
    })

pub first-touches : (g : Ground) (n : Kept) → AreUnsureSame (Some 0) g (with_history g (with_packet g.history n))
first-touches g n = kept-touches (Some 0) g n (λ k below. absurd (omega (arith, below)))

-- a verification report touches the request that it is on
pub verification-touches : (g : Ground) (n : Kept) (v : Verification) → n.report.body ≡ Verify v → AreUnsureSame (Some (unwrap_or n.number 0)) g (with_history g (with_packet g.history n))
verification-touches g n v body = go n.number refl
  where
    go : (o : Option ℕ) → n.number ≡ o → AreUnsureSame (Some (unwrap_or o 0)) g (with_history g (with_packet g.history n))
    go None e = first-touches g n
    go (Some j) e =
        let is : IsReport n (tag_of n) j v = record { number = e; body = body; stamped = refl } in
        kept-touches (Some j) g n
        (λ k below.
        let other : (j == k) ≡ false = grind (arith, nat_tests, below) in
        untold-by n k (λ test. verifies-is n (tag_of n) j v is test (λ i. i == k) ∙ ap (λ b. b && test v) other))

-- ---- a request that was sent

pub request-touches : (g : Ground) (r : Sent) → AreUnsureSame None g (with_history g (with_request g.history r))
request-touches g r =
    record {
      count = let more = length-append g.history.requests (r ∷ []) in omega (arith, more);
      unsures = λ key first end known within. unsures-same h later end (front end known) (λ k lt. same k (omega (arith, lt, known))) key first;
    }
  where
    h : History
    h = g.history

    later : History
    later = with_request h r

    same : (k : ℕ) → k < length h.requests → IsToldSame h later k
    same k lt = let all = sent-same h r k lt in record { barred = all.barred; outcome = all.outcome }

    front : (end : ℕ) → end ≤ length h.requests → take end (enumerate_from 0 later.requests) ≡ take end (enumerate_from 0 h.requests)
    front end le =
        let all = length-enumerate_from 0 h.requests in
        ap (λ xs. take end xs) (enumerate-append 0 h.requests (r ∷ []))
        ∙ take-append-le end (enumerate_from 0 h.requests) (enumerate_from (0 + length h.requests) (r ∷ [])) (omega (arith, le, all))
