-- The indexes say what the kept packets show, with each packet that is kept.
use Rattle.std.proofs.Common.{arith, ◌≡◌, ℕ, ◌+◌, ◌-◌, ◌^◌, ◌<◌, ◌≤◌, refl, sym, ◌∙◌, ap, List, [], ◌∷◌, map, max, min, Bool, true, false, nat_lt, cond, Option, Some, None}
use Rattle.std.proofs.lemmas.Bool.{leb-true, leb-false, le-leb, lt-leb, ltb-true, ltb-false, lt-ltb}
use Rattle.std.proofs.lemmas.Bool.Decides.{nat_tests}
use Rattle.std.specs.Prelude.{filter, nat_le, ◌&&◌, ◌||◌, ◌==◌, if◌then◌else◌}
use Rattle.std.specs.List.{list_any}
use Rattle.std.specs.Option.{option_map_or, option_map}
use Rattle.st01_reports.specs.declared.verification.Verification.{Verification}
use Rattle.st01_reports.specs.declared.verification.Verification.TheVariants as v
use Rattle.pus_messages.specs.declared.message.ReportBody.{ReportBody}
use Rattle.pus_messages.specs.declared.message.ReportBody.TheVariants.{Verify, Hk, Stat, Par}
use Rattle.ground_history.specs.Histories.{Kept, tag_of, greatest, insert_kept, is_begun_report}
use Rattle.ground_history.specs.Evidence.{least, verifies, passes, comes_before, comes_after, is_acceptance, is_start, is_completion, shows_accepted, shows_barred, shows_unstarted}
use Rattle.ground_history.specs.Stairs.{height_at}
use Rattle.ground_history.specs.Indexes.{Says, SaysMore, SaysSame, place_before, place_after, with_step, mirrored, tag_at_height, shown_by, shown_of, shown_at, either_shown, is_on, is_started, begins, done_steps, refused_steps}
use Rattle.ground_history.specs.declared.evidence.Evidence.{Evidence}
use Rattle.ground_history.specs.declared.shown.Shown.{Shown}
use Rattle.ground_history.proofs.KeptLemmas.{greatest-insert_kept}

abbrev pub tags : (Kept → Bool) → List Kept → List ℕ
tags test ks = map tag_of (filter test ks)

-- one of two tags, where there are both
abbrev pub lower : Option ℕ → Option ℕ → Option ℕ
lower None b = b
lower (Some a) b = Some (option_map_or (λ m. min a m) b a)

abbrev pub tag_if : Bool → Kept → Option ℕ
tag_if b k = if b then Some (tag_of k) else None

pub least-step : (test : Kept → Bool) (k : Kept) (ks : List Kept) → least (tags test (k ∷ ks)) ≡ lower (tag_if (test k) k) (least (tags test ks))
least-step test k ks = go (test k)
  where
    go : (b : Bool) → least (map tag_of (cond b (k ∷ filter test ks) (filter test ks))) ≡ lower (tag_if b k) (least (tags test ks))
    go true = refl
    go false = refl

lower-swapped : (a b c : Option ℕ) → lower a (lower b c) ≡ lower b (lower a c)
lower-swapped None None c = refl
lower-swapped None (Some b) c = refl
lower-swapped (Some a) None c = refl
lower-swapped (Some a) (Some b) None = let e : min a b ≡ min b a = omega arith in ap (λ n. Some n) e
lower-swapped (Some a) (Some b) (Some c) = let e : min a (min b c) ≡ min b (min a c) = omega arith in ap (λ n. Some n) e

-- where a packet is put among the kept ones makes no difference to the least tag
pub least-insert_kept : (test : Kept → Bool) (k : Kept) (ks : List Kept) → least (tags test (insert_kept k ks)) ≡ least (tags test (k ∷ ks))
least-insert_kept test k [] = refl
least-insert_kept test k (j ∷ js) = go (nat_lt (tag_of k) (tag_of j)) (least-insert_kept test k js)
  where
    go : (b : Bool) → least (tags test (insert_kept k js)) ≡ least (tags test (k ∷ js))
        → least (tags test (if b then k ∷ j ∷ js else j ∷ insert_kept k js)) ≡ least (tags test (k ∷ j ∷ js))
    go true h = refl
    go false h =
        least-step test j (insert_kept k js)
        ∙ (ap (λ o. lower (tag_if (test j) j) o) (h ∙ least-step test k js)
        ∙ (lower-swapped (tag_if (test j) j) (tag_if (test k) k) (least (tags test js))
        ∙ (ap (λ o. lower (tag_if (test k) k) o) (sym (least-step test j js)) ∙ sym (least-step test k (j ∷ js)))))

or-swapped : (a b c : Bool) → (a || (b || c)) ≡ (b || (a || c))
or-swapped true true c = refl
or-swapped true false c = refl
or-swapped false true c = refl
or-swapped false false c = refl

-- nor to whether one passes
pub any-insert_kept : (test : Kept → Bool) (k : Kept) (ks : List Kept) → list_any test (insert_kept k ks) ≡ (test k || list_any test ks)
any-insert_kept test k [] = refl
any-insert_kept test k (j ∷ js) = go (nat_lt (tag_of k) (tag_of j)) (any-insert_kept test k js)
  where
    go : (b : Bool) → list_any test (insert_kept k js) ≡ (test k || list_any test js)
        → list_any test (if b then k ∷ j ∷ js else j ∷ insert_kept k js) ≡ (test k || (test j || list_any test js))
    go true h = refl
    go false h = ap (λ b. test j || b) h ∙ or-swapped (test j) (test k) (list_any test js)

greatest-step : (test : Kept → Bool) (k : Kept) (ks : List Kept) → greatest (tags test (k ∷ ks)) ≡ max (if test k then tag_of k else 0) (greatest (tags test ks))
greatest-step test k ks = go (test k)
  where
    go : (b : Bool) → greatest (map tag_of (cond b (k ∷ filter test ks) (filter test ks))) ≡ max (if b then tag_of k else 0) (greatest (tags test ks))
    go true = refl
    go false = omega arith

-- ---- one more verification report

-- what one more report on a request is
pub record IsReport (x : Kept) (tag request : ℕ) (report : Verification) : Type 0 where
  pub number : x.number ≡ Some request
  pub body : x.report.body ≡ Verify report
  pub stamped : tag_of x ≡ tag

-- it verifies where its report and its number pass
pub verifies-is : (x : Kept) (tag request : ℕ) (report : Verification) → IsReport x tag request report → (test : Verification → Bool) (numbers : ℕ → Bool)
    → verifies test numbers x ≡ (numbers request && test report)
verifies-is x tag request report is test numbers =
    ap (λ o. option_map_or numbers o false && passes test x.report.body) is.number ∙ ap (λ b. numbers request && passes test b) is.body

-- whether it stands before all of a request
before-by : (request k : ℕ) (report : Verification)
    → (((nat_le request k && is_acceptance report) || (nat_le request k && is_start report)) || (nat_lt request k && is_completion report))
    ≡ option_map_or (λ p. nat_le p k) (place_before request report) false
before-by request k (v.Accepted id) = grind (arith, nat_tests)
before-by request k (v.Refused id cause) = grind (arith, nat_tests)
before-by request k (v.Started id) = grind (arith, nat_tests)
before-by request k (v.NotStarted id cause) = grind (arith, nat_tests)
before-by request k (v.Step id step) = grind (arith, nat_tests)
before-by request k (v.StepFailed id step cause) = grind (arith, nat_tests)
before-by request k (v.Completed id) = grind (arith, nat_tests)
before-by request k (v.Incomplete id code steps) = grind (arith, nat_tests)
before-by request k (v.NotRouted id cause) = grind (arith, nat_tests)

after-start : (request k : ℕ) → ((nat_le k request && false) || (nat_lt k request && true)) ≡ option_map_or (λ p. nat_le k p) (if request == 0 then None else Some (request - 1)) false
after-start request k = go (request == 0) refl
  where
    go : (b : Bool) → (request == 0) ≡ b → ((nat_le k request && false) || (nat_lt k request && true)) ≡ option_map_or (λ p. nat_le k p) (if b then None else Some (request - 1)) false
    go true e = grind (arith, nat_tests, e)
    go false e = grind (arith, nat_tests, e)

-- whether it stands behind all of a request
after-by : (request k : ℕ) (report : Verification)
    → ((nat_le k request && is_completion report) || (nat_lt k request && is_start report)) ≡ option_map_or (λ p. nat_le k p) (place_after request report) false
after-by request k (v.Accepted id) = grind (arith, nat_tests)
after-by request k (v.Refused id cause) = grind (arith, nat_tests)
after-by request k (v.Started id) = after-start request k
after-by request k (v.NotStarted id cause) = after-start request k
after-by request k (v.Step id step) = grind (arith, nat_tests)
after-by request k (v.StepFailed id step cause) = grind (arith, nat_tests)
after-by request k (v.Completed id) = grind (arith, nat_tests)
after-by request k (v.Incomplete id code steps) = grind (arith, nat_tests)
after-by request k (v.NotRouted id cause) = grind (arith, nat_tests)

either-bools : (a b c d : Bool) → a ≡ b → c ≡ d → (a || c) ≡ (b || d)
either-bools a b c d e f = rw (e, f) refl

pub comes-before-is : (x : Kept) (tag request k : ℕ) (report : Verification) → IsReport x tag request report → comes_before k x ≡ option_map_or (λ p. nat_le p k) (place_before request report) false
comes-before-is x tag request k report is =
    either-bools _ _ _ _
    (either-bools _ _ _ _ (verifies-is x tag request report is is_acceptance (λ j. nat_le j k)) (verifies-is x tag request report is is_start (λ j. nat_le j k)))
    (verifies-is x tag request report is is_completion (λ j. nat_lt j k))
    ∙ before-by request k report

pub comes-after-is : (x : Kept) (tag request k : ℕ) (report : Verification) → IsReport x tag request report → comes_after k x ≡ option_map_or (λ p. nat_le k p) (place_after request report) false
comes-after-is x tag request k report is =
    either-bools _ _ _ _ (verifies-is x tag request report is is_completion (λ j. nat_le k j)) (verifies-is x tag request report is is_start (λ j. nat_lt k j))
    ∙ after-by request k report

low-step : (place : Option ℕ) (tag k : ℕ) (steps : List (ℕ × ℕ)) → height_at (with_step place tag steps) k ≡ max (if option_map_or (λ p. nat_le p k) place false then tag else 0) (height_at steps k)
low-step None tag k steps = omega arith
low-step (Some p) tag k steps = refl

kept-low : (x : Kept) (tag request : ℕ) (report : Verification) (kept : List Kept) (old new : List (ℕ × ℕ)) → IsReport x tag request report
    → ((k : ℕ) → height_at old k ≡ greatest (tags (comes_before k) kept)) → ((k : ℕ) → height_at new k ≡ height_at (with_step (place_before request report) tag old) k)
    → (k : ℕ) → height_at new k ≡ greatest (tags (comes_before k) (insert_kept x kept))
kept-low x tag request report kept old new is was more k =
    more k
    ∙ (low-step (place_before request report) tag k old
    ∙ (ap (λ b. max (if b then tag else 0) (height_at old k)) (sym (comes-before-is x tag request k report is))
    ∙ (ap (λ n. max (if comes_before k x then tag else 0) n) (was k)
    ∙ (ap (λ n. max (if comes_before k x then n else 0) (greatest (tags (comes_before k) kept))) (sym is.stamped)
    ∙ (sym (greatest-step (comes_before k) x kept) ∙ sym (greatest-insert_kept (comes_before k) x kept))))))

small-low : (tag request k : ℕ) (report : Verification) (old new : List (ℕ × ℕ)) → tag < 2 ^ 64 → ((k : ℕ) → height_at old k < 2 ^ 64)
    → ((k : ℕ) → height_at new k ≡ height_at (with_step (place_before request report) tag old) k) → height_at new k < 2 ^ 64
small-low tag request k report old new lt was more =
    let e = more k ∙ low-step (place_before request report) tag k old in
    go (option_map_or (λ p. nat_le p k) (place_before request report) false) e
  where
    go : (b : Bool) → height_at new k ≡ max (if b then tag else 0) (height_at old k) → height_at new k < 2 ^ 64
    go true e = let low = was k in omega (arith, e, low, lt)
    go false e = let low = was k in omega (arith, e, low)

mirrored-le : (p k : ℕ) → k < 2 ^ 64 → nat_le (mirrored p) (mirrored k) ≡ nat_le k p
mirrored-le p k lt = go (nat_le k p) refl
  where
    go : (b : Bool) → nat_le k p ≡ b → nat_le (mirrored p) (mirrored k) ≡ b
    go true e = let le = leb-true k p e in le-leb (mirrored p) (mirrored k) (omega (arith, le))
    go false e = let gt = leb-false k p e in lt-leb (mirrored p) (mirrored k) (omega (arith, gt, lt))

high-step : (place : Option ℕ) (height k : ℕ) (steps : List (ℕ × ℕ)) → k < 2 ^ 64
    → height_at (with_step (option_map mirrored place) height steps) (mirrored k) ≡ max (if option_map_or (λ p. nat_le k p) place false then height else 0) (height_at steps (mirrored k))
high-step None height k steps lt = omega arith
high-step (Some p) height k steps lt = ap (λ b. max (if b then height else 0) (height_at steps (mirrored k))) (mirrored-le p k lt)

tag-of-height : (b : Bool) (tag : ℕ) → tag < 2 ^ 64 → tag_at_height (if b then 2 ^ 64 - tag else 0) ≡ (if b then Some tag else None)
tag-of-height true tag lt = let pos : nat_lt 0 (2 ^ 64 - tag) ≡ true = lt-ltb 0 (2 ^ 64 - tag) (omega (arith, lt)) in rw pos (let e : 2 ^ 64 - (2 ^ 64 - tag) ≡ tag = omega (arith, lt) in ap (λ n. Some n) e)
tag-of-height false tag lt = refl

tag-of-max : (a b : ℕ) → tag_at_height (max a b) ≡ lower (tag_at_height a) (tag_at_height b)
tag-of-max a b = go (nat_lt 0 a) refl (nat_lt 0 b) refl (nat_lt 0 (max a b)) refl
  where
    go : (x : Bool) → nat_lt 0 a ≡ x → (y : Bool) → nat_lt 0 b ≡ y → (z : Bool) → nat_lt 0 (max a b) ≡ z
        → (if z then Some (2 ^ 64 - max a b) else None) ≡ lower (if x then Some (2 ^ 64 - a) else None) (if y then Some (2 ^ 64 - b) else None)
    go true e true f true g = let is : 2 ^ 64 - max a b ≡ min (2 ^ 64 - a) (2 ^ 64 - b) = omega arith in ap (λ n. Some n) is
    go true e false f true g = let none = ltb-false 0 b f in let is : 2 ^ 64 - max a b ≡ 2 ^ 64 - a = omega (arith, none) in ap (λ n. Some n) is
    go false e true f true g = let none = ltb-false 0 a e in let is : 2 ^ 64 - max a b ≡ 2 ^ 64 - b = omega (arith, none) in ap (λ n. Some n) is
    go false e false f true g = let n = ltb-false 0 a e in let m = ltb-false 0 b f in let p = ltb-true 0 (max a b) g in absurd (omega (arith, n, m, p))
    go true e y f false g = let p = ltb-true 0 a e in let n = ltb-false 0 (max a b) g in absurd (omega (arith, n, p))
    go false e true f false g = let p = ltb-true 0 b f in let n = ltb-false 0 (max a b) g in absurd (omega (arith, n, p))
    go false e false f false g = refl

kept-high : (x : Kept) (tag request : ℕ) (report : Verification) (kept : List Kept) (old new : List (ℕ × ℕ)) → IsReport x tag request report → tag < 2 ^ 64
    → ((k : ℕ) → k < 2 ^ 64 → tag_at_height (height_at old (mirrored k)) ≡ least (tags (comes_after k) kept))
    → ((k : ℕ) → height_at new k ≡ height_at (with_step (option_map mirrored (place_after request report)) (2 ^ 64 - tag) old) k)
    → (k : ℕ) → k < 2 ^ 64 → tag_at_height (height_at new (mirrored k)) ≡ least (tags (comes_after k) (insert_kept x kept))
kept-high x tag request report kept old new is small was more k lt =
    ap tag_at_height (more (mirrored k) ∙ high-step (place_after request report) (2 ^ 64 - tag) k old lt)
    ∙ (tag-of-max _ _
    ∙ (ap (λ o. lower o (tag_at_height (height_at old (mirrored k)))) (tag-of-height _ tag small)
    ∙ (ap (λ o. lower (if option_map_or (λ p. nat_le k p) (place_after request report) false then Some tag else None) o) (was k lt)
    ∙ (ap (λ b. lower (if b then Some tag else None) (least (tags (comes_after k) kept))) (sym (comes-after-is x tag request k report is))
    ∙ (ap (λ n. lower (if comes_after k x then Some n else None) (least (tags (comes_after k) kept))) (sym is.stamped)
    ∙ (sym (least-step (comes_after k) x kept) ∙ sym (least-insert_kept (comes_after k) x kept)))))))

begins-is : (x : Kept) (tag request k : ℕ) (report : Verification) → IsReport x tag request report → begins k x ≡ (is_begun_report (Verify report) && nat_le k request)
begins-is x tag request k report is =
    ap (λ b. is_begun_report b && option_map_or (λ j. nat_le k j) x.number false) is.body ∙ ap (λ o. is_begun_report (Verify report) && option_map_or (λ j. nat_le k j) o false) is.number

begun-step : (b : Bool) (k request begun : ℕ) → nat_lt k (if b then max (request + 1) begun else begun) ≡ ((b && nat_le k request) || nat_lt k begun)
begun-step true k request begun = grind (arith, nat_tests)
begun-step false k request begun = refl

kept-begun : (x : Kept) (tag request : ℕ) (report : Verification) (kept : List Kept) (old new : ℕ) → IsReport x tag request report
    → ((k : ℕ) → nat_lt k old ≡ list_any (begins k) kept) → new ≡ (if is_begun_report (Verify report) then max (request + 1) old else old)
    → (k : ℕ) → nat_lt k new ≡ list_any (begins k) (insert_kept x kept)
kept-begun x tag request report kept old new is was more k =
    ap (λ n. nat_lt k n) more
    ∙ (begun-step (is_begun_report (Verify report)) k request old
    ∙ (either-bools _ _ _ _ (sym (begins-is x tag request k report is)) (was k) ∙ sym (any-insert_kept (begins k) x kept)))

reach-more : (b : Bool) (request old new : ℕ) → request < 2 ^ 63 → old ≤ 2 ^ 63 → new ≡ (if b then max (request + 1) old else old) → new ≤ 2 ^ 63
reach-more true request old new lt le e = omega (arith, lt, le, e)
reach-more false request old new lt le e = omega (arith, le, e)

same-number : (a b : ℕ) → (a == b) ≡ (b == a)
same-number a b = grind (arith, nat_tests)

-- whether one more report on a request, or an earlier one, passes
kept-on : (x : Kept) (tag request : ℕ) (report : Verification) (kept : List Kept) → IsReport x tag request report → (test : Verification → Bool) (k : ℕ)
    → list_any (is_on test k) (insert_kept x kept) ≡ (list_any (is_on test k) kept || (k == request && test report))
kept-on x tag request report kept is test k =
    any-insert_kept (is_on test k) x kept
    ∙ (ap (λ b. b || list_any (is_on test k) kept) (verifies-is x tag request report is test (λ j. j == k) ∙ ap (λ b. b && test report) (same-number request k))
    ∙ flipped (k == request && test report) (list_any (is_on test k) kept))
  where
    flipped : (a b : Bool) → (a || b) ≡ (b || a)
    flipped true true = refl
    flipped true false = refl
    flipped false true = refl
    flipped false false = refl

same-shown : (a b c d e p q r s t : Bool) → a ≡ p → b ≡ q → c ≡ r → d ≡ s → e ≡ t
    → (let x : Shown = record { accepted = a; barred = b; unstarted = c; started = d; completed = e } in x) ≡ record { accepted = p; barred = q; unstarted = r; started = s; completed = t }
same-shown a b c d e p q r s t f g h i j = rw (f, g, h, i, j) refl

shown-step : (b : Bool) (s r : Shown)
    → (if b then either_shown s r else s)
    ≡ record {
      accepted = s.accepted || (b && r.accepted);
      barred = s.barred || (b && r.barred);
      unstarted = s.unstarted || (b && r.unstarted);
      started = s.started || (b && r.started);
      completed = s.completed || (b && r.completed);
    }
shown-step true s r = refl
shown-step false s r = sym (same-shown _ _ _ _ _ _ _ _ _ _ (or_false s.accepted) (or_false s.barred) (or_false s.unstarted) (or_false s.started) (or_false s.completed))
  where
    or_false : (a : Bool) → (a || false) ≡ a
    or_false true = refl
    or_false false = refl

kept-shown : (x : Kept) (tag request : ℕ) (report : Verification) (kept : List Kept) (old new : List (ℕ × Shown)) → IsReport x tag request report
    → ((k : ℕ) → shown_at old k ≡ shown_by kept k)
    → ((k : ℕ) → shown_at new k ≡ (if k == request then either_shown (shown_at old k) (shown_of report) else shown_at old k))
    → (k : ℕ) → shown_at new k ≡ shown_by (insert_kept x kept) k
kept-shown x tag request report kept old new is was more k =
    more k
    ∙ (ap (λ s. if k == request then either_shown s (shown_of report) else s) (was k)
    ∙ (shown-step (k == request) (shown_by kept k) (shown_of report)
    ∙ sym (same-shown _ _ _ _ _ _ _ _ _ _ (on shows_accepted) (on shows_barred) (on shows_unstarted) (on is_started) (on is_completion))))
  where
    on : (test : Verification → Bool) → list_any (is_on test k) (insert_kept x kept) ≡ (list_any (is_on test k) kept || (k == request && test report))
    on test = kept-on x tag request report kept is test k

-- what the indexes say with one more verification report
pub says-kept : (old new : Evidence) (kept : List Kept) (x : Kept) (tag request : ℕ) (report : Verification) → x.number ≡ Some request → x.report.body ≡ Verify report → tag_of x ≡ tag → tag < 2 ^ 64 → request < 2 ^ 63
    → Says old kept → SaysMore old new tag request report → Says new (insert_kept x kept)
says-kept old new kept x tag request report number body tag_is small near says more =
    let is : IsReport x tag request report = record { number = number; body = body; stamped = tag_is } in
    record {
      low = kept-low x tag request report kept old.low new.low is says.low more.low;
      small = λ k. small-low tag request k report old.low new.low small says.small more.low;
      high = kept-high x tag request report kept old.high new.high is small says.high more.high;
      begun = kept-begun x tag request report kept old.begun new.begun is says.begun more.begun;
      reach = reach-more (is_begun_report (Verify report)) request old.begun new.begun near says.reach more.begun;
      shown = kept-shown x tag request report kept old.shown new.shown is says.shown more.shown;
      done = λ k step.
          more.done k step
          ∙ (ap (λ b. b || (k == request && list_any (λ s. s == step) (done_steps report))) (says.done k step)
          ∙ sym (kept-on x tag request report kept is (λ r. list_any (λ s. s == step) (done_steps r)) k));
      refused = λ k step.
          more.refused k step
          ∙ (ap (λ b. b || (k == request && list_any (λ s. s == step) (refused_steps report))) (says.refused k step)
          ∙ sym (kept-on x tag request report kept is (λ r. list_any (λ s. s == step) (refused_steps r)) k));
    }

-- indexes that say the same
pub says-same : (old new : Evidence) (kept : List Kept) → SaysSame old new → Says old kept → Says new kept
says-same old new kept same says =
    record {
      low = λ k. same.low k ∙ says.low k;
      small = λ k. let e = same.low k in let lt = says.small k in omega (arith, e, lt);
      high = λ k lt. ap tag_at_height (same.high (mirrored k)) ∙ says.high k lt;
      begun = λ k. ap (λ n. nat_lt k n) same.begun ∙ says.begun k;
      reach = let e = same.begun in let le = says.reach in omega (arith, e, le);
      shown = λ k. same.shown k ∙ says.shown k;
      done = λ k step. same.done k step ∙ says.done k step;
      refused = λ k step. same.refused k step ∙ says.refused k step;
    }

-- ---- a packet that verifies nothing

-- no test of verification reports passes
record IsQuiet (x : Kept) : Type 0 where
  pub verifies : (test : Verification → Bool) (numbers : ℕ → Bool) → verifies test numbers x ≡ false
  pub begins : (k : ℕ) → begins k x ≡ false

pub or-false : (b c : Bool) → b ≡ false → (b || c) ≡ c
or-false true c e = cc
or-false false c e = refl

pub nothing : (b : Bool) → (b && false) ≡ false
nothing true = refl
nothing false = refl

says-other : (e : Evidence) (kept : List Kept) (x : Kept) → IsQuiet x → Says e kept → Says e (insert_kept x kept)
says-other e kept x quiet says =
    record {
      low = λ k. says.low k ∙ sym (greatest-insert_kept (comes_before k) x kept ∙ (greatest-step (comes_before k) x kept ∙ (ap (λ b. max (if b then tag_of x else 0) (greatest (tags (comes_before k) kept))) (before k) ∙ omega arith)));
      small = says.small;
      high = λ k lt. says.high k lt ∙ sym (least-insert_kept (comes_after k) x kept ∙ (least-step (comes_after k) x kept ∙ ap (λ b. lower (tag_if b x) (least (tags (comes_after k) kept))) (after k)));
      begun = λ k. says.begun k ∙ sym (any-insert_kept (begins k) x kept ∙ or-false (begins k x) (list_any (begins k) kept) (quiet.begins k));
      reach = says.reach;
      shown = λ k.
          says.shown k
          ∙ sym (same-shown _ _ _ _ _ _ _ _ _ _ (other shows_accepted k) (other shows_barred k) (other shows_unstarted k) (other is_started k) (other is_completion k));
      done = λ k step. says.done k step ∙ sym (other (λ r. list_any (λ s. s == step) (done_steps r)) k);
      refused = λ k step. says.refused k step ∙ sym (other (λ r. list_any (λ s. s == step) (refused_steps r)) k);
    }
  where
    other : (test : Verification → Bool) (k : ℕ) → list_any (is_on test k) (insert_kept x kept) ≡ list_any (is_on test k) kept
    other test k = any-insert_kept (is_on test k) x kept ∙ or-false (is_on test k x) (list_any (is_on test k) kept) (quiet.verifies test (λ j. j == k))

    before : (k : ℕ) → comes_before k x ≡ false
    before k =
        either-bools _ _ _ _
        (either-bools _ _ _ _ (quiet.verifies is_acceptance (λ j. nat_le j k)) (quiet.verifies is_start (λ j. nat_le j k)))
        (quiet.verifies is_completion (λ j. nat_lt j k))

    after : (k : ℕ) → comes_after k x ≡ false
    after k = either-bools _ _ _ _ (quiet.verifies is_completion (λ j. nat_le k j)) (quiet.verifies is_start (λ j. nat_lt k j))

-- a packet without a number
pub says-unnumbered : (e : Evidence) (x : Kept) → x.number ≡ None → (kept : List Kept) → Says e kept → Says e (insert_kept x kept)
says-unnumbered e x none kept says =
    says-other e kept x
    (record {
      verifies = λ test numbers. ap (λ o. option_map_or numbers o false && passes test x.report.body) none;
      begins = λ k. ap (λ o. is_begun_report x.report.body && option_map_or (λ j. nat_le k j) o false) none ∙ nothing (is_begun_report x.report.body);
    })
    says

-- a packet that is no verification report
abbrev pub IsOther : ReportBody → Type 0
IsOther (Verify report) = ⊥
IsOther _ = Unit {0}

pub other-passes : (body : ReportBody) → IsOther body → (test : Verification → Bool) → passes test body ≡ false
other-passes (Verify report) o test = absurd o
other-passes (Hk report) o test = refl
other-passes (Stat report) o test = refl
other-passes (Par report) o test = refl

other-begins : (body : ReportBody) → IsOther body → is_begun_report body ≡ false
other-begins (Verify report) o = absurd o
other-begins (Hk report) o = refl
other-begins (Stat report) o = refl
other-begins (Par report) o = refl

pub says-unverified : (e : Evidence) (x : Kept) → IsOther x.report.body → (kept : List Kept) → Says e kept → Says e (insert_kept x kept)
says-unverified e x o kept says =
    says-other e kept x
    (record {
      verifies = λ test numbers. ap (λ b. option_map_or numbers x.number false && b) (other-passes x.report.body o test) ∙ nothing (option_map_or numbers x.number false);
      begins = λ k. ap (λ b. b && option_map_or (λ j. nat_le k j) x.number false) (other-begins x.report.body o);
    })
    says

pub other-from : (body : ReportBody) → ((report : Verification) → body ≡ Verify report → ⊥) → IsOther body
other-from (Verify report) f = f report refl
other-from (Hk report) f = tt
other-from (Stat report) f = tt
other-from (Par report) f = tt
