-- The counts of reports, with one report more or with a moment that has none.
use Rattle.std.proofs.Common.{arith, ◌≡◌, ℕ, ◌+◌, ◌%◌, ◌<◌, ◌≤◌, refl, sym, ◌∙◌, ap, ap₂, subst, List, [], ◌∷◌, length, cond, Bool, true, false, ◌==◌, ◌&&◌, zero, suc, not, ◌||◌, ◌⊎◌, inl, inr, replicate}
use Rattle.std.specs.Prelude.{filter, slice_index, slice_set}
use Rattle.std.specs.List.{list_all, range_with_len, cons_option}
use Rattle.std.proofs.lemmas.List.{get_or-set_same, get_or-set_other, length-set}
use Rattle.std.proofs.lemmas.Bool.Decides.{Decides-eqb}
use Rattle.std.proofs.lemmas.Bool.{cases_order, eq-eqb}
use Rattle.std.proofs.Math.Nat.{mod-add-mod}
use Rattle.hk_base.specs.declared.types.Kind.{Kind}
use Rattle.hk_base.specs.declared.types.Kind.TheVariants.{Housekeeping, Diagnostic}
use Rattle.hk_base.proofs.Membership.{IsIn, list_all-IsIn}
use Rattle.st01_reports.specs.declared.verification.Verification.TheVariants as verify
use Rattle.st03_grammar.specs.declared.bodies.Report03.TheVariants as hk
use Rattle.st04_grammar.specs.declared.bodies.Report04.TheVariants as stat
use Rattle.pus_messages.specs.Protocol.{Protocol, readable, unread}
use Rattle.pus_messages.specs.Spelling.{report_type}
use Rattle.pus_messages.specs.declared.message.Report.{Report}
use Rattle.pus_messages.specs.declared.message.ReportBody.{ReportBody}
use Rattle.pus_messages.specs.declared.message.ReportBody.TheVariants.{Verify, Hk, Stat, Par}
use Rattle.hk_world.specs.declared.moment.Moment.{Moment}
use Rattle.hk_world.proofs.OrderLemmas.{true_is_not_false}
use Rattle.board_steps.specs.Cores.{report_in, reports_of, is_of_type, header_of}
use Rattle.board_core.specs.Counts.{AreCounts, counted, type_place}
use Rattle.board_core.specs.declared.counters.Counters.{Counters}

-- the message type with a place, its service and its subtype
service_at : ℕ → ℕ
service_at n = cond (n == 17) 20 (cond (n == 15) 4 (cond (n == 16) 4 (cond (n == 9) 3 (cond (n == 10) 3 (cond (n == 11) 3 (cond (n == 12) 3 (cond (n == 13) 3 (cond (n == 14) 3 1))))))))

subtype_at : ℕ → ℕ
subtype_at n = cond (n == 8) 10 (cond (n == 9) 10 (cond (n == 10) 12 (cond (n == 11) 25 (cond (n == 12) 26 (cond (n == 13) 35 (cond (n == 14) 36 (cond (n == 15) 2 (cond (n == 16) 9 (cond (n == 17) 2 (n + 1))))))))))

-- places with one type are one
implies-one : ℕ → ℕ → Bool
unfolding service_at subtype_at
implies-one i j = not (service_at i == service_at j && subtype_at i == subtype_at j) || i == j

all-apart : list_all (λ i. list_all (implies-one i) (range_with_len 0 18)) (range_with_len 0 18) ≡ true
unfolding implies-one service_at subtype_at
all-apart = refl

in-range : (a n i : ℕ) → a ≤ i → i < a + n → IsIn i (range_with_len a n)
in-range a zero i low high = absurd (omega (arith, low, high))
in-range a (suc n) i low high = go (cases_order i a) (λ below. in-range (a + 1) n i below (omega (arith, high)))
  where
    go : (i ≡ a) ⊎ ((i < a) ⊎ (a < i)) → (a + 1 ≤ i → IsIn i (range_with_len (a + 1) n)) → IsIn i (range_with_len a (suc n))
    go (inl e) rest = inl e
    go (inr (inl lt)) rest = absurd (omega (arith, lt, low))
    go (inr (inr gt)) rest = inr (rest (omega (arith, gt)))

one-place : (i j : ℕ) → i < 18 → j < 18 → service_at i ≡ service_at j → subtype_at i ≡ subtype_at j → i ≡ j
unfolding implies-one
one-place i j a b e f =
    let one : implies-one i j ≡ true = list_all-IsIn (implies-one i) j (range_with_len 0 18) (list_all-IsIn (λ i. list_all (implies-one i) (range_with_len 0 18)) i (range_with_len 0 18) all-apart (in-range 0 18 i (omega arith) (omega (arith, a)))) (in-range 0 18 j (omega arith) (omega (arith, b))) in
    go (service_at i == service_at j) (subtype_at i == subtype_at j) (eq-eqb (service_at i) (service_at j) e) (eq-eqb (subtype_at i) (subtype_at j) f) one
  where
    go : (x y : Bool) → x ≡ true → y ≡ true → (not (x && y) || i == j) ≡ true → i ≡ j
    go true true p q h = (Decides-eqb i j).0 h
    go false y p q h = absurd (true_is_not_false (sym p))
    go true false p q h = absurd (true_is_not_false (sym q))

-- the type of a body is that of its place
record HasType (body : ReportBody) : Type 0 where
  pub service : service_at (type_place body) ≡ (report_type body).0
  pub subtype : subtype_at (type_place body) ≡ (report_type body).1
  pub within : type_place body < 18

pub kind-type : (kind : Kind) (P : Kind → Type 0) → P Housekeeping → P Diagnostic → P kind
kind-type Housekeeping P h d = h
kind-type Diagnostic P h d = d

has-type : (body : ReportBody) → HasType body
unfolding service_at subtype_at
has-type (Verify (verify.Accepted id)) = record { service = refl; subtype = refl; within = omega arith }
has-type (Verify (verify.Refused id cause)) = record { service = refl; subtype = refl; within = omega arith }
has-type (Verify (verify.Started id)) = record { service = refl; subtype = refl; within = omega arith }
has-type (Verify (verify.NotStarted id cause)) = record { service = refl; subtype = refl; within = omega arith }
has-type (Verify (verify.Step id step)) = record { service = refl; subtype = refl; within = omega arith }
has-type (Verify (verify.StepFailed id step cause)) = record { service = refl; subtype = refl; within = omega arith }
has-type (Verify (verify.Completed id)) = record { service = refl; subtype = refl; within = omega arith }
has-type (Verify (verify.Incomplete id code steps)) = record { service = refl; subtype = refl; within = omega arith }
has-type (Verify (verify.NotRouted id cause)) = record { service = refl; subtype = refl; within = omega arith }
has-type (Hk (hk.Structure key x)) =
    kind-type key.kind (λ k. HasType (Hk (hk.Structure (record { kind = k; id = key.id }) x)))
    (record { service = refl; subtype = refl; within = omega arith }) (record { service = refl; subtype = refl; within = omega arith })
has-type (Hk (hk.Values key payload)) =
    kind-type key.kind (λ k. HasType (Hk (hk.Values (record { kind = k; id = key.id }) payload)))
    (record { service = refl; subtype = refl; within = omega arith }) (record { service = refl; subtype = refl; within = omega arith })
has-type (Hk (hk.Periodic kind rows)) =
    kind-type kind (λ k. HasType (Hk (hk.Periodic k rows)))
    (record { service = refl; subtype = refl; within = omega arith }) (record { service = refl; subtype = refl; within = omega arith })
has-type (Stat (stat.Statistics r)) = record { service = refl; subtype = refl; within = omega arith }
has-type (Stat (stat.Definitions enabled interval params)) = record { service = refl; subtype = refl; within = omega arith }
has-type (Par r) = record { service = refl; subtype = refl; within = omega arith }

both-true : (a b : Bool) → (a && b) ≡ true → (a ≡ true) × (b ≡ true)
both-true true true h = (refl, refl)
both-true true false h = absurd (true_is_not_false (sym h))
both-true false b h = absurd (true_is_not_false (sym h))

-- a report of a body has the type of another exactly where they have one place
type-same : (body own : ReportBody) (r : Report) → r.header.service ≡ (report_type own).0 → r.header.subtype ≡ (report_type own).1 → is_of_type body r ≡ true → type_place own ≡ type_place body
type-same body own r service subtype h =
    let a = has-type body in
    let b = has-type own in
    let parts = both-true (r.header.service == (report_type body).0) (r.header.subtype == (report_type body).1) h in
    let e : service_at (type_place own) ≡ service_at (type_place body) = b.service ∙ sym service ∙ (Decides-eqb r.header.service (report_type body).0).0 parts.0 ∙ sym a.service in
    let f : subtype_at (type_place own) ≡ subtype_at (type_place body) = b.subtype ∙ sym subtype ∙ (Decides-eqb r.header.subtype (report_type body).1).0 parts.1 ∙ sym a.subtype in
    one-place (type_place own) (type_place body) b.within a.within e f

type-other : (body own : ReportBody) (r : Report) → r.header.service ≡ (report_type own).0 → r.header.subtype ≡ (report_type own).1 → is_of_type body r ≡ false → type_place body ≡ type_place own → ⊥
type-other body own r service subtype h same =
    let a = has-type body in
    let b = has-type own in
    let e : r.header.service ≡ (report_type body).0 = service ∙ sym b.service ∙ ap service_at (sym same) ∙ a.service in
    let f : r.header.subtype ≡ (report_type body).1 = subtype ∙ sym b.subtype ∙ ap subtype_at (sym same) ∙ a.subtype in
    let both : is_of_type body r ≡ true = ap₂ (λ x y. x && y) (eq-eqb r.header.service (report_type body).0 e) (eq-eqb r.header.subtype (report_type body).1 f) in
    true_is_not_false (sym both ∙ h)

-- one more, counted modulo something
one-more : (n m : ℕ) → 0 < m → (n % m + 1) % m ≡ (n + 1) % m
one-more n m some = mod-add-mod n m 1

module _ (p : Protocol) (moments : List Moment) (c : Counters) (k : AreCounts p moments c) where
  -- one report more
  pub counts-more : (m : Moment) (body : ReportBody) → p.reception m.packet ≡ readable (record { header = header_of p moments m.tag body; body = body })
      → AreCounts p (m ∷ moments) (counted (type_place body) c)
  counts-more m body e =
      let r : Report = record { header = header_of p moments m.tag body; body = body } in
      let reports : reports_of p (m ∷ moments) ≡ r ∷ reports_of p moments = ap (λ x. cons_option (report_in x) (reports_of p moments)) e in
      record {
        sequence = ap (λ n. (n + 1) % 16384) k.sequence ∙ one-more (length (reports_of p moments)) 16384 (omega arith) ∙ ap (λ n. n % 16384) (omega arith) ∙ ap (λ xs. length xs % 16384) (sym reports);
        types = λ b. counted-type b (is_of_type b r) refl ∙ ap (λ xs. length (filter (is_of_type b) xs) % 65536) (sym reports);
        places = length-set c.of_types (type_place body) ((slice_index c.of_types (type_place body) + 1) % 65536) ∙ k.places;
      }
    where
      r : Report
      r = record { header = header_of p moments m.tag body; body = body }

      counted-type : (b : ReportBody) (t : Bool) → is_of_type b r ≡ t
          → slice_index (slice_set c.of_types (type_place body) ((slice_index c.of_types (type_place body) + 1) % 65536)) (type_place b)
          ≡ length (filter (is_of_type b) (r ∷ reports_of p moments)) % 65536
      counted-type b true h =
          let same : type_place body ≡ type_place b = type-same b body r refl refl h in
          let n : ℕ = length (filter (is_of_type b) (reports_of p moments)) in
          ap (slice_index (slice_set c.of_types (type_place body) ((slice_index c.of_types (type_place body) + 1) % 65536))) (sym same)
          ∙ get_or-set_same c.of_types (type_place body) ((slice_index c.of_types (type_place body) + 1) % 65536) 0 (subst (λ x. type_place body < x) (sym k.places) (has-type body).within)
          ∙ ap (λ x. (x + 1) % 65536) (ap (slice_index c.of_types) same ∙ k.types b)
          ∙ one-more n 65536 (omega arith)
          ∙ ap (λ x. x % 65536) (omega arith)
          ∙ ap (λ t. length (cond t (r ∷ filter (is_of_type b) (reports_of p moments)) (filter (is_of_type b) (reports_of p moments))) % 65536) (sym h)
      counted-type b false h =
          get_or-set_other c.of_types (type_place body) (type_place b) ((slice_index c.of_types (type_place body) + 1) % 65536) 0 (type-other b body r refl refl h)
          ∙ k.types b
          ∙ ap (λ t. length (cond t (r ∷ filter (is_of_type b) (reports_of p moments)) (filter (is_of_type b) (reports_of p moments))) % 65536) (sym h)

  -- a moment with no report
  pub counts-same : (m : Moment) → p.reception m.packet ≡ unread → AreCounts p (m ∷ moments) c
  counts-same m e =
      let reports : reports_of p (m ∷ moments) ≡ reports_of p moments = ap (λ x. cons_option (report_in x) (reports_of p moments)) e in
      record {
        sequence = k.sequence ∙ ap (λ xs. length xs % 16384) (sym reports);
        types = λ b. k.types b ∙ ap (λ xs. length (filter (is_of_type b) xs) % 65536) (sym reports);
        places = k.places;
      }

-- no reports
pub no-counts : (p : Protocol) (c : Counters) → c.sequence ≡ 0 → c.of_types ≡ replicate 18 0 → AreCounts p [] c
no-counts p c e f =
    record {
      sequence = e;
      types = λ b. ap (λ xs. slice_index xs (type_place b)) f ∙ zero-at (type_place b);
      places = ap length f;
    }
  where
    zero-at : (n : ℕ) → slice_index (replicate 18 0) n ≡ 0
    zero-at n = go n 18
      where
        go : (i m : ℕ) → slice_index (replicate m 0) i ≡ 0
        go i zero = refl
        go zero (suc m) = refl
        go (suc i) (suc m) = go i m
