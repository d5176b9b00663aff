-- The reports of the statistics that are held can be written.
use Rattle.std.proofs.Common.{arith, ◌≡◌, ℕ, zero, suc, ◌<◌, ◌≤◌, ◌+◌, ◌-◌, ◌*◌, ◌^◌, refl, sym, ◌∙◌, ap, ap₂, subst, List, [], ◌∷◌, ◌++◌, length, map, filter, Bool, true, false, not, ◌==◌, nat_lt, Option, Some, None, ℤ, pos, ◌*ℤ◌}
use Rattle.std.specs.Prelude.{⊤, IfSome, IsTrue, if◌then◌else◌}
use Rattle.std.specs.List.{AllByRecursion, AllZip}
use Rattle.std.specs.Option.{option_or, option_map_or}
use Rattle.std.proofs.Math.Nat.{pow-suc, mul_comm, mul-le-mul_right}
use Rattle.hk_world.proofs.OrderLemmas.{true_is_not_false}
use Rattle.std.proofs.lemmas.Option.{none-some, same_Some}
use Rattle.std.proofs.lemmas.Bool.Decides.{nat_tests}
use Rattle.hk_base.specs.Fit.{IsFit, IsFitParam, IsFitShape, greatest_tag}
use Rattle.hk_base.specs.Parameters.{parameter, fits}
use Rattle.hk_base.specs.TailoringParts.{TailoringParts}
use Rattle.hk_base.specs.declared.types.Form.{Form}
use Rattle.hk_base.specs.declared.types.Form.TheVariants.{Unsigned, Signed, Enumerated, Boolean}
use Rattle.hk_base.specs.declared.types.Param.{Param}
use Rattle.hk_base.proofs.FieldLemmas.{pow_pos}
use Rattle.body_fields.specs.Reading.{fault_if, param_fault}
use Rattle.body_fields.specs.declared.fault.BodyFault.{BodyFault}
use Rattle.body_fields.specs.declared.fault.BodyFault.TheVariants.{NotNumeric}
use Rattle.body_fields.specs.Spelling.{AllStand, IsCount, IsInOctets, IsValueOf}
use Rattle.body_fields.proofs.FitLemmas.{fits-in_octets, parameter-fit, count_in_octets}
use Rattle.statistics.specs.Summaries.{Sample, sum_of, mean_of, floor_div, IsSummary}
use Rattle.st04_grammar.specs.Bodies.{is_numeric, form_fault, numeric_fault}
use Rattle.st04_grammar.specs.Spelling.{IsTime, IsMeanOf, IsRow, AreRows, IsStatistics, ids_of}
use Rattle.st04_grammar.specs.declared.bodies.StatRow.{StatRow}
use Rattle.st04_grammar.specs.declared.bodies.StatReport.{StatReport}
use Rattle.hk_world.specs.States as states
use Rattle.hk_world.specs.Timelines.{EachAfter, Session, tailoring, start_after, state_after}
use Rattle.hk_world.specs.Worlds.{MayHappen}
use Rattle.hk_world.specs.Honest.{samples_of}
use Rattle.hk_world.specs.declared.moment.Moment.{Moment}
use Rattle.board_steps.specs.Timeline.{IsGood}
use Rattle.board_state.specs.Statistics.{StatisticsHeld, AreStatistics, IsMember, is_sampled, params_of, IsRowOf, AreRowsOf, IsReportOf}
use Rattle.board_state.specs.declared.members.Member.{Member}
use Rattle.board_state.proofs.MemberLemmas.{stands-fewer, length-fewer, StartsEmpty, start-below}
use Rattle.board_state.proofs.StatisticsLemmas.{zip-mapped}
use Rattle.board_state.proofs.RowLemmas.{greatest-among, least-among}
use Rattle.board_state.proofs.SummaryLemmas.{IsSampleOf, samples-fit, samples-few, all-so, zip-each}
use Rattle.board_state.proofs.MeanLemmas.{IsBetween, sum-between, mean-between, unsigned-between, signed-between, between-unsigned, between-signed}

-- a value in its parameter's octets
abbrev InOctets : Param → Sample → Type 0
InOctets q x = IsInOctets q.form q.octets x.value

doubled : (n : ℕ) → 1 ≤ n → 2 ^ n ≡ 2 * 2 ^ (n - 1)
doubled zero h = absurd (omega (arith, h))
doubled (suc n) h = let e : suc n - 1 ≡ n = omega arith in pow-suc 2 n ∙ mul_comm (2 ^ n) 2 ∙ ap (λ k. 2 * 2 ^ k) (sym e)

-- the mean of samples of a parameter with numbers has room in its octets
mean-fits : (q : Param) (f : ℕ) (samples : List Sample) → IsFitShape q → is_numeric q.form ≡ true → 1 ≤ length samples → AllByRecursion (InOctets q) samples
    → IsInOctets q.form (q.octets + f) (mean_of f samples)
mean-fits q f samples shape numeric some h = go q.form numeric h
  where
    parts : 1 ≤ 256 ^ f
    parts = pow_pos 256 f (omega arith)

    eighth : 1 ≤ q.octets
    eighth = let e = shape.octets in let bits = shape.bits.0 in omega (arith, e, bits)

    half : ℕ
    half = 2 ^ (8 * q.octets - 1)

    whole : 2 ^ (8 * q.octets) ≡ 2 * 2 ^ (8 * q.octets - 1)
    whole = doubled (8 * q.octets) (let e = eighth in omega (arith, e))

    go : (form : Form) → is_numeric form ≡ true → AllByRecursion (λ x. IsInOctets form q.octets x.value) samples → IsInOctets form (q.octets + f) (mean_of f samples)
    go Unsigned n all =
        between-unsigned q.octets f (mean_of f samples)
        (mean-between 0 (256 ^ q.octets - 1) (256 ^ f) (length samples) (sum_of samples) some parts
        (sum-between 0 (256 ^ q.octets - 1) samples
        (all-so (λ x. IsInOctets Unsigned q.octets x.value) (λ x. IsBetween 0 (256 ^ q.octets - 1) x.value) (λ x k. unsigned-between q.octets x.value k) samples all)))
    go Signed n all =
        let positive : 1 ≤ half = pow_pos 2 (8 * q.octets - 1) (omega arith) in
        between-signed q.octets f half (mean_of f samples) whole positive
        (mean-between half (half - 1) (256 ^ f) (length samples) (sum_of samples) some parts
        (sum-between half (half - 1) samples
        (all-so (λ x. IsInOctets Signed q.octets x.value) (λ x. IsBetween half (half - 1) x.value) (λ x k. signed-between q.octets half x.value whole positive k) samples all)))
    go (Enumerated values) n all = absurd (true_is_not_false (sym n))
    go Boolean n all = absurd (true_is_not_false (sym n))

-- a parameter that stands is known, and has numbers
numeric-known : (t : TailoringParts) (earlier : List ℕ) (id : ℕ) (q : Param) → numeric_fault t earlier id ≡ None → parameter t id ≡ Some q → is_numeric q.form ≡ true
numeric-known t earlier id q e found = go (param_fault t earlier id) (subst (λ o. option_or (param_fault t earlier id) (form_by o) ≡ None) found e)
  where
    form_by : Option Param → Option BodyFault
    form_by o = option_map_or (λ p. fault_if (not (is_numeric p.form)) (NotNumeric id)) o None

    test : (b : Bool) → fault_if (not b) (NotNumeric id) ≡ None → b ≡ true
    test true h = refl
    test false h = absurd (none-some (NotNumeric id) (sym h))

    go : (o : Option BodyFault) → option_or o (fault_if (not (is_numeric q.form)) (NotNumeric id)) ≡ None → is_numeric q.form ≡ true
    go (Some fault) h = absurd (none-some fault (sym h))
    go None h = test (is_numeric q.form) h

-- a member that is held: its samples are those of the moments, and its ID stands
record IsReady (s : Session) (moments : List Moment) (m : Member) : Type 0 where
  member : states.Member
  is : IsMember (state_after s moments) moments member m
  among : List ℕ
  stands : numeric_fault (tailoring s) among m.param ≡ None

stands-each : (s : Session) (moments : List Moment) (earlier : List ℕ) (olds : List states.Member) (xs : List Member) → AllZip (IsMember (state_after s moments) moments) olds xs
    → AllStand (numeric_fault (tailoring s)) earlier (params_of xs) → AllByRecursion (IsReady s moments) xs
stands-each s moments earlier [] [] h k = tt
stands-each s moments earlier [] (x ∷ xs) h k = absurd h
stands-each s moments earlier (a ∷ olds) [] h k = absurd h
stands-each s moments earlier (a ∷ olds) (x ∷ xs) h k =
    (record { member = a; is = h.0; among = earlier; stands = k.0 }, stands-each s moments (x.param ∷ earlier) olds xs h.1 k.1)

-- those that have samples
sampled-each : (P : Member → Type 0) (xs : List Member) → AllByRecursion P xs → AllByRecursion (λ m. P m × (0 < m.stat.count)) (filter is_sampled xs)
sampled-each P [] h = tt
sampled-each P (x ∷ xs) h = go (nat_lt 0 x.stat.count) refl (sampled-each P xs h.1)
  where
    go : (b : Bool) → nat_lt 0 x.stat.count ≡ b → AllByRecursion (λ m. P m × (0 < m.stat.count)) (filter is_sampled xs)
        → AllByRecursion (λ m. P m × (0 < m.stat.count)) (if b then x ∷ filter is_sampled xs else filter is_sampled xs)
    go true e rest = let some : 0 < x.stat.count = grind (arith, nat_tests) in ((h.0, some), rest)
    go false e rest = rest

zip-all : (P : Member → Type 0) (R : Member → StatRow → Type 0) (Q : StatRow → Type 0) → ((m : Member) (w : StatRow) → P m → R m w → Q w) → (xs : List Member) (ys : List StatRow)
    → AllByRecursion P xs → AllZip R xs ys → AllByRecursion Q ys
zip-all P R Q f [] [] h k = tt
zip-all P R Q f [] (y ∷ ys) h k = absurd k
zip-all P R Q f (x ∷ xs) [] h k = absurd k
zip-all P R Q f (x ∷ xs) (y ∷ ys) h k = (f x y h.0 k.0, zip-all P R Q f xs ys h.1 k.1)

rows-length : (t : TailoringParts) (xs : List Member) (ys : List StatRow) → AllZip (IsRowOf t) xs ys → length ys ≡ length (params_of xs)
rows-length t [] [] h = refl
rows-length t [] (y ∷ ys) h = absurd h
rows-length t (x ∷ xs) [] h = absurd h
rows-length t (x ∷ xs) (y ∷ ys) h = ap suc (rows-length t xs ys h.1)

rows-ids : (t : TailoringParts) (xs : List Member) (ys : List StatRow) → AllZip (IsRowOf t) xs ys → ids_of ys ≡ params_of xs
rows-ids t [] [] h = refl
rows-ids t [] (y ∷ ys) h = absurd h
rows-ids t (x ∷ xs) [] h = absurd h
rows-ids t (x ∷ xs) (y ∷ ys) h = ap₂ (λ id ids. id ∷ ids) h.0.param (rows-ids t xs ys h.1)

-- the tags of a good timeline are ones that packets can carry
tags-early : (s : Session) (moments : List Moment) → EachAfter (MayHappen s) moments → AllByRecursion (λ m. m.tag < greatest_tag (tailoring s) + 1) moments
tags-early s [] h = tt
tags-early s (m ∷ ms) h = (let high = h.0.tag.high in omega (arith, high), tags-early s ms h.1)

module _ (s : Session) (slot : ℕ) (moments : List Moment) (fit : IsFit (tailoring s)) (good : IsGood s slot moments) (room : length moments ≤ 1048576)
    (early : slot * (tailoring s).widths.slot ≤ greatest_tag (tailoring s)) where
  time-fits : (at : ℕ) → at ≤ slot → IsTime (tailoring s) (at * (tailoring s).widths.slot)
  time-fits at le =
      let up : at * (tailoring s).widths.slot ≤ slot * (tailoring s).widths.slot = mul-le-mul_right (tailoring s).widths.slot le in
      let some : 1 ≤ 256 ^ ((tailoring s).widths.coarse + (tailoring s).widths.fine) = pow_pos 256 ((tailoring s).widths.coarse + (tailoring s).widths.fine) (omega arith) in
      omega (arith, up, some, early)

  tag-fits : (tag : ℕ) → tag ≤ greatest_tag (tailoring s) → IsTime (tailoring s) tag
  tag-fits tag le =
      let some : 1 ≤ 256 ^ ((tailoring s).widths.coarse + (tailoring s).widths.fine) = pow_pos 256 ((tailoring s).widths.coarse + (tailoring s).widths.fine) (omega arith) in
      omega (arith, le, some)

  -- a row of a member that is held
  row-fits : (m : Member) (w : StatRow) → IsReady s moments m × (0 < m.stat.count) → IsRowOf (tailoring s) m w → IsRow (tailoring s) w
  row-fits m w ready q =
      record {
        count = (omega (arith, some, sum.count), let few = samples-few a.param cut moments in omega (arith, sum.count, few, room));
        max = value-of w.max most.1.0 most.1.1 most.1.2;
        max_time = subst (IsTime (tailoring s)) (sym q.max_time) (time-fits q.max_slot most.0);
        min = value-of w.min least.1.0 least.1.1 least.1.2;
        min_time = subst (IsTime (tailoring s)) (sym q.min_time) (time-fits q.min_slot least.0);
        mean = mean-of;
      }
    where
      a : states.Member
      a = ready.0.member

      cut : ℕ
      cut = if nat_lt (start_after s moments) ready.0.member.added then ready.0.member.added else start_after s moments

      xs : List Sample
      xs = samples_of (state_after s moments) moments ready.0.member

      sum : IsSummary (tailoring s).widths.mean_fraction (samples_of (state_after s moments) moments ready.0.member)
          (record { count = w.count; max = w.max; max_slot = q.max_slot; min = w.min; min_slot = q.min_slot; mean = w.mean })
      sum = q.summary (samples_of (state_after s moments) moments ready.0.member) ready.0.is.1

      some : 1 ≤ length (samples_of (state_after s moments) moments ready.0.member)
      some = let e = ready.0.is.1.count in let f = ready.1 in omega (arith, e, f)

      each : AllByRecursion (IsSampleOf (tailoring s) slot ready.0.member.param) (samples_of (state_after s moments) moments ready.0.member)
      each = samples-fit s slot ready.0.member.param (if nat_lt (start_after s moments) ready.0.member.added then ready.0.member.added else start_after s moments) moments good.timeline good.filed

      most : IsSampleOf (tailoring s) slot ready.0.member.param (record { slot = q.max_slot; value = w.max })
      most = greatest-among (IsSampleOf (tailoring s) slot ready.0.member.param) (samples_of (state_after s moments) moments ready.0.member) (record { slot = q.max_slot; value = w.max }) sum.max each

      least : IsSampleOf (tailoring s) slot ready.0.member.param (record { slot = q.min_slot; value = w.min })
      least = least-among (IsSampleOf (tailoring s) slot ready.0.member.param) (samples_of (state_after s moments) moments ready.0.member) (record { slot = q.min_slot; value = w.min }) sum.min each

      named : w.param ≡ ready.0.member.param
      named = q.param ∙ ready.0.is.0

      value-of : (v : ℤ) (p : Param) → parameter (tailoring s) ready.0.member.param ≡ Some p → fits p v ≡ true → IsValueOf (tailoring s) w.param v
      value-of v p found ok = subst (λ o. IfSome o (λ z. IsTrue (fits z v))) (sym (ap (parameter (tailoring s)) named ∙ found)) ok

      mean-of : IsMeanOf (tailoring s) w.param w.mean
      mean-of =
          let p : Param = most.1.0 in
          let found : parameter (tailoring s) ready.0.member.param ≡ Some p = most.1.1 in
          let here : parameter (tailoring s) m.param ≡ Some p = ap (parameter (tailoring s)) ready.0.is.0 ∙ found in
          let shape = (parameter-fit (tailoring s) ready.0.member.param p fit found).0.shape in
          let numeric = numeric-known (tailoring s) ready.0.among m.param p ready.0.stands here in
          let octets = all-so (IsSampleOf (tailoring s) slot ready.0.member.param) (InOctets p)
          (λ y k. fits-in_octets p y.value shape (subst (λ z. fits z y.value ≡ true) (same_Some k.1.0 p (sym k.1.1 ∙ found)) k.1.2))
          (samples_of (state_after s moments) moments ready.0.member) each in
          subst (λ o. IfSome o (λ z. IsInOctets z.form (z.octets + (tailoring s).widths.mean_fraction) w.mean)) (sym (ap (parameter (tailoring s)) named ∙ found))
          (subst (IsInOctets p.form (p.octets + (tailoring s).widths.mean_fraction)) (sym sum.mean)
          (mean-fits p (tailoring s).widths.mean_fraction (samples_of (state_after s moments) moments ready.0.member) shape numeric some octets))

  -- the report of the statistics that are held can be written
  pub report-fits : (x : StatisticsHeld) (tag : ℕ) (r : StatReport) → StartsEmpty s.initial → tag ≤ greatest_tag (tailoring s) → AreStatistics s moments x → IsReportOf (tailoring s) x tag r
      → IsStatistics (tailoring s) r
  report-fits x tag r empty le h k =
      let rows = rows-length (tailoring s) (filter is_sampled x.members) r.rows k.rows in
      let fewer = length-fewer is_sampled x.members in
      let most = h.ids.count.1 in
      let begun = start-below s (greatest_tag (tailoring s) + 1) moments empty (omega arith) (tags-early s moments good.timeline) in
      record {
        start = subst (IsTime (tailoring s)) (sym (k.start ∙ h.start)) (tag-fits (start_after s moments) (omega (arith, begun)));
        stop = subst (IsTime (tailoring s)) (sym k.end) (tag-fits tag le);
        rows = record {
          count = (omega arith, omega (arith, rows, fewer, most), count_in_octets (tailoring s) (length r.rows) fit (omega (arith, rows, fewer, most)));
          ids = subst (AllStand (numeric_fault (tailoring s)) []) (sym (rows-ids (tailoring s) (filter is_sampled x.members) r.rows k.rows)) (stands-fewer (tailoring s) is_sampled x.members h.ids.stand);
          each = zip-all (λ m. IsReady s moments m × (0 < m.stat.count)) (IsRowOf (tailoring s)) (IsRow (tailoring s)) row-fits (filter is_sampled x.members) r.rows
              (sampled-each (IsReady s moments) x.members (stands-each s moments [] (state_after s moments).statistics.members x.members h.members h.ids.stand)) k.rows;
        };
      }

-- what the members are called
pub params-told : (s : Session) (moments : List Moment) (olds : List states.Member) (xs : List Member) → AllZip (IsMember (state_after s moments) moments) olds xs
    → params_of xs ≡ map (λ a. a.param) olds
params-told s moments [] [] h = refl
params-told s moments [] (x ∷ xs) h = absurd h
params-told s moments (a ∷ olds) [] h = absurd h
params-told s moments (a ∷ olds) (x ∷ xs) h = ap₂ (λ id ids. id ∷ ids) h.0.0 (params-told s moments olds xs h.1)
