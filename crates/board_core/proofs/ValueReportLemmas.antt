-- Reports of values: why they are refused, and that they can be written.
use Rattle.std.proofs.Common.{arith, ◌≡◌, ℕ, ◌*◌, ◌≤◌, ℤ, refl, sym, ◌∙◌, ap, ap₂, subst, List, [], ◌∷◌, length, length-append, map, flat_map, cond, Bool, true, false, not, ◌==◌, Option, Some, None}
use Rattle.std.specs.Prelude.{IfSome, IsTrue, find, is_none, is_some, option_and_then, option_map, if◌then◌else◌}
use Rattle.std.specs.List.{AllByRecursion, cons_option}
use Rattle.std.specs.Option.{option_or, option_map_or}
use Rattle.std.proofs.lemmas.Bool.Decides.{Decides-eqb}
use Rattle.std.proofs.lemmas.List.{length-map}
use Rattle.std.proofs.lemmas.Option.{same_Some, none-some}
use Rattle.hk_base.specs.Fields.{octets_of, signed_octets_of}
use Rattle.hk_base.specs.Fit.{IsFit}
use Rattle.hk_base.specs.Parameters.{parameter, is_settable, fits}
use Rattle.hk_base.specs.TailoringParts.{TailoringParts}
use Rattle.hk_base.specs.declared.types.Param.{Param}
use Rattle.hk_base.proofs.FieldLemmas.{length-digits}
use Rattle.body_fields.proofs.FitLemmas.{parameter-fit}
use Rattle.body_fields.specs.Spelling.{AllStand, IsCount, IsValueOf, param_octets, value_octets}
use Rattle.body_fields.specs.Reading.{param_fault, repeat_fault, fault_if}
use Rattle.body_fields.specs.declared.fault.BodyFault.{BodyFault}
use Rattle.body_fields.specs.declared.fault.BodyFault.TheVariants.{UnknownParam}
use Rattle.st20_grammar.specs.Spelling.{AreIds, ids_of, setting_octets}
use Rattle.st20_grammar.specs.declared.bodies.Setting.{Setting}
use Rattle.pus_messages.specs.Instructions.{report_values}
use Rattle.pus_messages.specs.declared.message.ReportBody.TheVariants.{Par}
use Rattle.report_structures.specs.declared.refusal.Refusal.TheVariants.{NoValue}
use Rattle.hk_world.specs.States.{BoardState, refusal}
use Rattle.hk_world.specs.Timelines.{EachAfter, first_some, filed_value, set_value, Done, done_instructions}
use Rattle.hk_world.specs.Legal.{FilesSample}
use Rattle.hk_world.specs.Worlds.{MayHappen}
use Rattle.hk_world.specs.declared.moment.Moment.{Moment}
use Rattle.hk_world.specs.declared.moment.Act.{Act}
use Rattle.hk_world.specs.declared.moment.Act.TheVariants.{Accepted, TurnedAway, Started, NotStarted, Executed, Completed, Emitted, Filed}
use Rattle.hk_world.proofs.OrderLemmas.{true_is_not_false}
use Rattle.board_steps.specs.Cores.{Core, session, state_of}
use Rattle.board_steps.specs.Timeline.{Stands}
use Rattle.board_steps.proofs.GrammarLemmas.{RequestsOnly}
use Rattle.board_steps.proofs.ValueLemmas.{settable-value}
use Rattle.board_state.specs.Values.{AreValues, value_at}
use Rattle.board_state.specs.declared.channels.Channel.{Channel}
use Rattle.board_state.proofs.HeldLemmas.{value-held}
use Rattle.board_core.specs.Logs.{IsWritable}
use Rattle.board_core.specs.Reporting.{pairs_held}
use Rattle.board_core.specs.Effects.{IsOrderedBody}
use Rattle.board_steps.specs.Plans.{values_of}

-- the first ID without a value, by the values that are held and by those of the state
find-same : (f g : ℕ → Bool) → ((k : ℕ) → f k ≡ g k) → (ids : List ℕ) → find f ids ≡ find g ids
find-same f g h [] = refl
find-same f g h (id ∷ ids) = ap₂ (λ b o. cond b (Some id) o) (h id) (find-same f g h ids)

-- why a report of values is refused
pub values-refusal : (t : TailoringParts) (s : BoardState) (ids : List ℕ) → refusal t s (report_values ids) ≡ option_map NoValue (find (λ id. is_none (s.value id)) ids)
values-refusal t s ids = go (find (λ id. is_none (s.value id)) ids) refl
  where
    go : (o : Option ℕ) → find (λ id. is_none (s.value id)) ids ≡ o → refusal t s (report_values ids) ≡ option_map NoValue (find (λ id. is_none (s.value id)) ids)
    go None e = rw e refl
    go (Some id) e = rw e refl

module _ (c : Core) (channels : List (ℕ × Channel)) (stands : Stands c) (h : AreValues (session c) c.moments channels) where
  values-are : (id : ℕ) → value_at channels id ≡ (state_of c).value id
  values-are id = value-held (session c) c.slot_now c.moments channels id refl stands.good h

  pub without-value : (ids : List ℕ) → find (λ id. is_none (value_at channels id)) ids ≡ find (λ id. is_none ((state_of c).value id)) ids
  without-value ids = find-same (λ id. is_none (value_at channels id)) (λ id. is_none ((state_of c).value id)) (λ id. ap is_none (values-are id)) ids

  -- the values that are held are those of the state
  pub pairs-are : (pairs : List Setting) → AllByRecursion (λ x. value_at channels x.param ≡ Some x.value) pairs → AllByRecursion (λ x. (state_of c).value x.param ≡ Some x.value) pairs
  pairs-are [] k = tt
  pairs-are (x ∷ pairs) k = (sym (values-are x.param) ∙ k.0, pairs-are pairs k.1)

-- the value that was filed last for a parameter fits it
filed-fits : (c : Core) (q : Param) (id : ℕ) (v : ℤ) → parameter c.tailoring id ≡ Some q → (moments : List Moment) → EachAfter (MayHappen (session c)) moments
    → first_some (λ (m : Moment). filed_value id m.act) moments ≡ Some v → fits q v ≡ true
filed-fits c q id v known [] h e = absurd (none-some v e)
filed-fits c q id v known (m ∷ earlier) h e = go (filed_value id m.act) refl e (λ f. filed-fits c q id v known earlier h.1 f)
  where
    own : (act : Act) (w : ℤ) → FilesSample (session c) earlier act → filed_value id act ≡ Some w → fits q w ≡ true
    own (Filed param x w2) w k f = by_param (param == id) refl f
      where
        by_param : (b : Bool) → (param == id) ≡ b → (if b then Some w2 else None) ≡ Some w → fits q w ≡ true
        by_param true p g =
            let same : k.0 ≡ q = same_Some k.0 q (sym k.1.known ∙ ap (parameter c.tailoring) ((Decides-eqb param id).0 p) ∙ known) in
            subst (λ (z : ℤ). fits q z ≡ true) (same_Some w2 w g) (subst (λ (z : Param). fits z w2 ≡ true) same k.1.fit)
        by_param false p g = absurd (none-some w g)
    own (Accepted k) w s f = absurd (none-some w f)
    own (TurnedAway k) w s f = absurd (none-some w f)
    own (Started k) w s f = absurd (none-some w f)
    own (NotStarted k) w s f = absurd (none-some w f)
    own (Executed k number flag) w s f = absurd (none-some w f)
    own (Completed k refused) w s f = absurd (none-some w f)
    own Emitted w s f = absurd (none-some w f)

    go : (o : Option ℤ) → filed_value id m.act ≡ o → option_or o (first_some (λ (x : Moment). filed_value id x.act) earlier) ≡ Some v
        → (first_some (λ (x : Moment). filed_value id x.act) earlier ≡ Some v → fits q v ≡ true) → fits q v ≡ true
    go (Some w) f g rest = subst (λ (z : ℤ). fits q z ≡ true) (same_Some w v g) (own m.act w h.0.sample f)
    go None f g rest = rest g

-- the value of a parameter fits it
pub state-fits : (c : Core) (q : Param) (id : ℕ) (v : ℤ) → IsFit c.tailoring → RequestsOnly c.tailoring → Stands c → parameter c.tailoring id ≡ Some q
    → (state_of c).value id ≡ Some v → fits q v ≡ true
state-fits c q id v fit only stands known e = go (is_settable q) refl
  where
    last : Option ℤ
    last = first_some (λ (d : Done). set_value id d.instruction) (done_instructions (session c) c.moments)

    filed : Option ℤ
    filed = first_some (λ (m : Moment). filed_value id m.act) c.moments

    none-initial : (o : Option ℤ) → is_some o ≡ false → o ≡ None
    none-initial None k = refl
    none-initial (Some x) k = absurd (true_is_not_false k)

    or-none : (o : Option ℤ) → option_or o None ≡ o
    or-none None = refl
    or-none (Some x) = refl

    go : (b : Bool) → is_settable q ≡ b → fits q v ≡ true
    go true set =
        let is = settable-value c only stands.octets fit q id known set c.moments in
        subst (λ (z : ℤ). fits q z ≡ true) (same_Some is.0 v (sym is.1 ∙ e)) is.2
    go false set =
        let by : (state_of c).value id ≡ option_or (if is_settable q then last else filed) q.initial =
        ap (λ (o : Option Param). option_or (if option_map_or is_settable o false then last else filed) (option_and_then (λ (p : Param). p.initial) o)) known in
        let sensed : (state_of c).value id ≡ filed =
        by ∙ ap (λ b. option_or (if b then last else filed) q.initial) set ∙ ap (option_or filed) (none-initial q.initial set) ∙ or-none filed in
        filed-fits c q id v known c.moments stands.good.timeline (sym sensed ∙ e)

-- a parameter with a value takes few octets
setting-short : (t : TailoringParts) (x : Setting) → IsFit t → length (setting_octets t x) ≤ 10
setting-short t x fit =
    let a = length-append (param_octets t x.param) (value_octets t x.param x.value) in
    let b = length-digits 256 t.widths.parameter_octets x.param in
    let w = fit.widths.parameter_octets.1 in
    let v = value (parameter t x.param) refl in
    omega (arith, a, b, w, v)
  where
    value : (o : Option Param) → parameter t x.param ≡ o → length (value_octets t x.param x.value) ≤ 8
    value None e = let none : length (value_octets t x.param x.value) ≡ 0 = ap (λ o. length (option_map_or (λ (p : Param). signed_octets_of p.octets x.value) o [])) e in omega (arith, none)
    value (Some p) e =
        let some : length (value_octets t x.param x.value) ≡ length (signed_octets_of p.octets x.value) =
        ap (λ o. length (option_map_or (λ (p : Param). signed_octets_of p.octets x.value) o [])) e in
        let shape = (parameter-fit t x.param p fit e).0.shape in
        let octets = shape.octets in
        let bits = shape.bits.1 in
        let size : length (signed_octets_of p.octets x.value) ≡ p.octets = length-digits 256 p.octets _ in
        omega (arith, some, octets, bits, size)

settings-short : (t : TailoringParts) (xs : List Setting) → IsFit t → length (flat_map (setting_octets t) xs) ≤ 10 * length xs
settings-short t [] fit = omega arith
settings-short t (x ∷ xs) fit =
    let a = length-append (setting_octets t x) (flat_map (setting_octets t) xs) in
    let b = setting-short t x fit in
    let c = settings-short t xs fit in
    omega (arith, a, b, c)

-- each value fits its parameter
values-fit : (c : Core) (pairs : List Setting) → IsFit c.tailoring → RequestsOnly c.tailoring → Stands c → AllByRecursion (λ x. (state_of c).value x.param ≡ Some x.value) pairs
    → AllStand (param_fault c.tailoring) [] (ids_of pairs) → AllByRecursion (λ x. IsValueOf c.tailoring x.param x.value) pairs
values-fit c pairs fit only stands values ids = go [] pairs values ids
  where
    one : (x : Setting) (o : Option Param) → parameter c.tailoring x.param ≡ o → (state_of c).value x.param ≡ Some x.value → is_some (parameter c.tailoring x.param) ≡ true
        → IfSome (parameter c.tailoring x.param) (λ p. IsTrue (fits p x.value))
    one x None e v known = absurd (true_is_not_false (sym known ∙ ap is_some e))
    one x (Some p) e v known =
        subst (λ (o : Option Param). IfSome o (λ p. IsTrue (fits p x.value))) (sym e) (state-fits c p x.param x.value fit only stands e v)

    known-by : (earlier : List ℕ) (id : ℕ) → param_fault c.tailoring earlier id ≡ None → is_some (parameter c.tailoring id) ≡ true
    known-by earlier id e = by_known (repeat_fault earlier id) (is_some (parameter c.tailoring id)) e
      where
        by_known : (o : Option BodyFault) (b : Bool) → option_or o (fault_if (not b) (UnknownParam id)) ≡ None → b ≡ true
        by_known None true k = refl
        by_known None false k = absurd (none-some (UnknownParam id) (sym k))
        by_known (Some f) b k = absurd (none-some f (sym k))

    go : (earlier : List ℕ) (xs : List Setting) → AllByRecursion (λ x. (state_of c).value x.param ≡ Some x.value) xs → AllStand (param_fault c.tailoring) earlier (ids_of xs)
        → AllByRecursion (λ x. IsValueOf c.tailoring x.param x.value) xs
    go earlier [] v i = tt
    go earlier (x ∷ xs) v i = (one x (parameter c.tailoring x.param) refl v.0 (known-by earlier x.param i.0), go (x.param ∷ earlier) xs v.1 i.1)

-- a report of values can be written
pub values-writable : (c : Core) (ids : List ℕ) (pairs : List Setting) → IsFit c.tailoring → RequestsOnly c.tailoring → Stands c → AreIds c.tailoring ids → map (λ x. x.param) pairs ≡ ids
    → AllByRecursion (λ x. (state_of c).value x.param ≡ Some x.value) pairs → IsWritable c.tailoring (Par (record { pairs = pairs }))
values-writable c ids pairs fit only stands h same values =
    let t : TailoringParts = c.tailoring in
    let stand : AllStand (param_fault t) [] (ids_of pairs) = subst (AllStand (param_fault t) []) (sym same) h.stand in
    let count : length ids ≡ length pairs = sym (ap length same) ∙ length-map pairs (λ (x : Setting). x.param) in
    let a = length-append (octets_of t.widths.count_octets (length pairs)) (flat_map (setting_octets t) pairs) in
    let b = settings-short t pairs fit in
    let d = length-digits 256 t.widths.count_octets (length pairs) in
    let w = fit.widths.count_octets.1 in
    let few = h.count.1 in
    record {
      grammar = record { count = subst (IsCount t 1) count h.count; ids = stand; values = values-fit c pairs fit only stands values stand };
      room = tt;
      short = omega (arith, a, b, d, w, few, count);
    }

-- where each parameter has a value, each has a pair
pairs-all : (channels : List (ℕ × Channel)) (ids : List ℕ) → find (λ id. is_none (value_at channels id)) ids ≡ None
    → (map (λ (x : Setting). x.param) (pairs_held channels ids) ≡ ids) × AllByRecursion (λ x. value_at channels x.param ≡ Some x.value) (pairs_held channels ids)
pairs-all channels [] e = (refl, tt)
pairs-all channels (id ∷ ids) e = go (value_at channels id) refl e (λ f. pairs-all channels ids f)
  where
    rest : List Setting
    rest = pairs_held channels ids

    go : (o : Option ℤ) → value_at channels id ≡ o → cond (is_none (value_at channels id)) (Some id) (find (λ k. is_none (value_at channels k)) ids) ≡ None
        → (find (λ k. is_none (value_at channels k)) ids ≡ None → (map (λ (x : Setting). x.param) rest ≡ ids) × AllByRecursion (λ x. value_at channels x.param ≡ Some x.value) rest)
        → (map (λ (x : Setting). x.param) (pairs_held channels (id ∷ ids)) ≡ id ∷ ids) × AllByRecursion (λ x. value_at channels x.param ≡ Some x.value) (pairs_held channels (id ∷ ids))
    go None f g ih = absurd (none-some id (sym (sym (ap (λ o. cond (is_none o) (Some id) (find (λ k. is_none (value_at channels k)) ids)) f) ∙ g)))
    go (Some v) f g ih =
        let later = ih (sym (ap (λ o. cond (is_none o) (Some id) (find (λ k. is_none (value_at channels k)) ids)) f) ∙ g) in
        let own : Setting = record { param = id; value = v } in
        let is : pairs_held channels (id ∷ ids) ≡ own ∷ rest = ap (λ o. cons_option (option_map (λ w. record { param = id; value = w }) o) rest) f in (
          ap (map (λ (x : Setting). x.param)) is ∙ ap (λ ks. id ∷ ks) later.0,
          subst (AllByRecursion (λ x. value_at channels x.param ≡ Some x.value)) (sym is) (f, later.1),
        )

none-mapped : (o : Option ℕ) → option_map NoValue o ≡ None → o ≡ None
none-mapped None e = refl
none-mapped (Some id) e = absurd (none-some (NoValue id) (sym e))

-- the report of values that are there
pub values-told : (c : Core) (channels : List (ℕ × Channel)) (ids : List ℕ) (pairs : List Setting) → IsFit c.tailoring → RequestsOnly c.tailoring → Stands c
    → AreValues (session c) c.moments channels → AreIds c.tailoring ids → refusal c.tailoring (state_of c) (report_values ids) ≡ None → pairs ≡ pairs_held channels ids
    → IsOrderedBody c 0 (values_of ids ∷ []) (Some (Par (record { pairs = pairs })))
values-told c channels ids pairs fit only stands h own none is =
    let absent = none-mapped (find (λ id. is_none ((state_of c).value id)) ids) (sym (values-refusal c.tailoring (state_of c) ids) ∙ none) in
    let all = pairs-all channels ids (without-value c channels stands h ids ∙ absent) in
    let values = pairs-are c channels stands h (pairs_held channels ids) all.1 in
    subst (λ (ps : List Setting). IsOrderedBody c 0 (values_of ids ∷ []) (Some (Par (record { pairs = ps })))) (sym is)
    (values-writable c ids (pairs_held channels ids) fit only stands own all.0 values, (pairs_held channels ids, refl, all.0, values))
