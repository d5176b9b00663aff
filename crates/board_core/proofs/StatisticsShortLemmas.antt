-- Reports on the statistics are short, so they can be written.
use Rattle.std.proofs.Common.{arith, ap₂, true, false, ◌≡◌, ℕ, ◌+◌, ◌*◌, ◌<◌, ◌≤◌, ◌^◌, refl, sym, ◌∙◌, ap, subst, List, [], ◌∷◌, ◌++◌, length, length-append, flat_map, ℤ, Bool, Option, Some, None}
use Rattle.std.specs.Prelude.{IfOk, Result, Ok, Err}
use Rattle.std.specs.List.{All}
use Rattle.std.specs.Option.{option_map_or}
use Rattle.std.proofs.Math.Nat.{pow-le-pow_right}
use Rattle.std.proofs.lemmas.List.Elements.{All-from_recursion}
use Rattle.hk_base.specs.declared.types.Key.{Key}
use Rattle.hk_base.specs.Fields.{octets_of, signed_octets_of}
use Rattle.hk_base.specs.Fit.{IsFit, greatest_tag}
use Rattle.hk_base.specs.Parameters.{parameter}
use Rattle.hk_base.specs.TailoringParts.{TailoringParts}
use Rattle.hk_base.specs.declared.types.Param.{Param}
use Rattle.hk_base.proofs.FieldLemmas.{length-digits}
use Rattle.body_fields.specs.Spelling.{IsInterval, param_octets, interval_octets, flag_octets, time_octets, value_octets, mean_octets}
use Rattle.body_fields.proofs.FitLemmas.{parameter-fit}
use Rattle.st04_grammar.specs.Spelling.{row_octets, IsStatistics, AreNumericIds}
use Rattle.st04_grammar.specs.declared.bodies.StatRow.{StatRow}
use Rattle.st04_grammar.specs.declared.bodies.StatReport.{StatReport}
use Rattle.st04_grammar.specs.declared.bodies.Report04.TheVariants as told
use Rattle.pus_messages.specs.declared.message.ReportBody.{ReportBody}
use Rattle.pus_messages.specs.declared.message.ReportBody.TheVariants.{Stat}
use Rattle.hk_world.specs.Timelines.{Session, tailoring, state_after}
use Rattle.hk_world.specs.declared.moment.Moment.{Moment}
use Rattle.board_steps.specs.Cores.{Core, session}
use Rattle.board_steps.specs.Plans.{statistics, definitions}
use Rattle.board_steps.specs.Steps.{IsAbout}
use Rattle.board_steps.specs.Timeline.{IsGood}
use Rattle.board_state.specs.Statistics.{StatisticsHeld, AreStatistics, IsSettled, IsTimely, params_of}
use Rattle.board_state.specs.declared.channels.Channel.{Channel}
use Rattle.board_state.specs.declared.running.Running.{Running}
use Rattle.board_state.specs.declared.structures.Held.{Held}
use Rattle.board_state.proofs.MemberLemmas.{StartsEmpty}
use Rattle.board_state.specs.declared.instruction.StatisticsChange.TheVariants as change
use Rattle.board_state.proofs.ChannelLemmas.{IsNoFiling}
use Rattle.board_state.proofs.StatisticsLemmas.{LeavesStatistics, statistics-left}
use Rattle.board_state.proofs.SummaryLemmas.{report-honest, members-timely}
use Rattle.board_state.proofs.WritableLemmas.{report-fits, params-told}
use Rattle.board_core.specs.Boards.{IsWhole}
use Rattle.board_core.specs.Effects.{IsExecuting, is_done}
use Rattle.board_core.specs.Execution.{IsExecutedBy, IsToldAfter}
use Rattle.board_core.specs.declared.effect.Effect.{Effect}
use Rattle.board_core.specs.declared.effect.Effect.TheVariants.{ChangeStatistics}
use Rattle.board_core.proofs.ToldLemmas.{executed-done}
use Rattle.board_core.specs.Logs.{IsWritable}
use Rattle.board_core.specs.Reporting.{IsStatisticsBody, IsDefinitionsBody}

module _ (t : TailoringParts) (fit : IsFit t) where
  value-short : (id more : ℕ) (v : ℤ) → length (option_map_or (λ p. signed_octets_of (p.octets + more) v) (parameter t id) []) ≤ 8 + more
  value-short id more v = go (parameter t id) refl
    where
      go : (o : Option Param) → parameter t id ≡ o → length (option_map_or (λ p. signed_octets_of (p.octets + more) v) o []) ≤ 8 + more
      go None e = omega arith
      go (Some p) e =
          let shape = (parameter-fit t id p fit e).0.shape in
          let octets = shape.octets in
          let bits = shape.bits.1 in
          let size : length (signed_octets_of (p.octets + more) v) ≡ p.octets + more = length-digits 256 (p.octets + more) _ in
          omega (arith, octets, bits, size)

  value-octets : (id : ℕ) (v : ℤ) → length (value_octets t id v) ≤ 8
  value-octets id v = go (parameter t id) refl
    where
      go : (o : Option Param) → parameter t id ≡ o → length (option_map_or (λ p. signed_octets_of p.octets v) o []) ≤ 8
      go None e = omega arith
      go (Some p) e =
          let shape = (parameter-fit t id p fit e).0.shape in
          let octets = shape.octets in
          let bits = shape.bits.1 in
          let size : length (signed_octets_of p.octets v) ≡ p.octets = length-digits 256 p.octets _ in
          omega (arith, octets, bits, size)

  time-octets : (tag : ℕ) → length (time_octets t tag) ≤ 7
  time-octets tag = let a = fit.widths.coarse.1 in let b = fit.widths.fine in omega (arith, a, b, length-digits 256 (t.widths.coarse + t.widths.fine) tag)

  id-octets : (id : ℕ) → length (param_octets t id) ≤ 2
  id-octets id = let a = fit.widths.parameter_octets.1 in omega (arith, a, length-digits 256 t.widths.parameter_octets id)

  row-short : (r : StatRow) → length (row_octets t r) ≤ 46
  row-short r =
      let a = param_octets t r.param in
      let b = octets_of 4 r.count in
      let c = value_octets t r.param r.max in
      let d = time_octets t r.max_time in
      let e = value_octets t r.param r.min in
      let f = time_octets t r.min_time in
      let g = mean_octets t r.param r.mean in
      let l1 = length-append a (b ++ (c ++ (d ++ (e ++ (f ++ g))))) in
      let l2 = length-append b (c ++ (d ++ (e ++ (f ++ g)))) in
      let l3 = length-append c (d ++ (e ++ (f ++ g))) in
      let l4 = length-append d (e ++ (f ++ g)) in
      let l5 = length-append e (f ++ g) in
      let l6 = length-append f g in
      let fraction = fit.widths.mean_fraction in
      let mean = value-short r.param t.widths.mean_fraction r.mean in
      omega (
        arith,
        l1,
        l2,
        l3,
        l4,
        l5,
        l6,
        id-octets r.param,
        length-digits 256 4 r.count,
        value-octets r.param r.max,
        time-octets r.max_time,
        value-octets r.param r.min,
        time-octets r.min_time,
        mean,
        fraction,
      )

  rows-short : (rows : List StatRow) → length (flat_map (row_octets t) rows) ≤ 46 * length rows
  rows-short [] = omega arith
  rows-short (r ∷ rows) = omega (arith, row-short r, rows-short rows, length-append (row_octets t r) (flat_map (row_octets t) rows))

  ids-short : (ids : List ℕ) → length (flat_map (param_octets t) ids) ≤ 2 * length ids
  ids-short [] = omega arith
  ids-short (id ∷ ids) = omega (arith, id-octets id, ids-short ids, length-append (param_octets t id) (flat_map (param_octets t) ids))

  -- a report of statistics can be written
  pub statistics-written : (r : StatReport) → IsStatistics t r → IsWritable t (Stat (told.Statistics r))
  statistics-written r h =
      let a = time_octets t r.start in
      let b = time_octets t r.end in
      let c = octets_of t.widths.count_octets (length r.rows) in
      let d = flat_map (row_octets t) r.rows in
      let l1 = length-append a (b ++ (c ++ d)) in
      let l2 = length-append b (c ++ d) in
      let l3 = length-append c d in
      let few = h.rows.count.1 in
      let wide = fit.widths.count_octets.1 in
      record { grammar = h; room = tt; short = omega (arith, l1, l2, l3, time-octets r.start, time-octets r.end, length-digits 256 t.widths.count_octets (length r.rows), rows-short r.rows, few, wide) }

  flag-octets : (b : Bool) → length (flag_octets b) ≤ 1
  flag-octets true = omega arith
  flag-octets false = omega arith

  -- what the statistics that are held are taken of can be told
  pub definitions-written : (x : StatisticsHeld) → IsInterval t x.interval → AreNumericIds t 0 (params_of x.members) → IsWritable t (Stat (told.Definitions x.enabled x.interval (params_of x.members)))
  definitions-written x span ids =
      let a = flag_octets x.enabled in
      let b = interval_octets t x.interval in
      let c = octets_of t.widths.count_octets (length (params_of x.members)) in
      let d = flat_map (param_octets t) (params_of x.members) in
      let l1 = length-append a (b ++ (c ++ d)) in
      let l2 = length-append b (c ++ d) in
      let l3 = length-append c d in
      let few = ids.count.1 in
      let wide = fit.widths.count_octets.1 in
      let long = fit.widths.interval_octets.1 in
      record {
        grammar = (span, ids);
        room = tt;
        short = omega (
          arith,
          l1,
          l2,
          l3,
          flag-octets x.enabled,
          length-digits 256 t.widths.interval_octets x.interval,
          length-digits 256 t.widths.count_octets (length (params_of x.members)),
          ids-short (params_of x.members),
          few,
          wide,
          long,
        );
      }

-- the report of the statistics that are held, and what it is about
pub statistics-told : (s : Session) (slot now : ℕ) (moments : List Moment) (x : StatisticsHeld) (tag : ℕ) (body : ReportBody) → IsFit (tailoring s) → IsGood s slot moments → length moments ≤ 1048576
    → slot * (tailoring s).widths.slot ≤ greatest_tag (tailoring s) → StartsEmpty s.initial → tag ≤ greatest_tag (tailoring s) → AreStatistics s moments x → IsStatisticsBody (tailoring s) x tag body
    → IsWritable (tailoring s) body × IsAbout s now moments tag statistics body
statistics-told s slot now moments x tag body fit good room early empty le h k = (
  subst (IsWritable (tailoring s)) (sym k.1) (statistics-written (tailoring s) fit k.0 (report-fits s slot moments fit good room early x tag k.0 empty le h k.2)),
  (k.0, k.1, report-honest s moments x tag k.0 h k.2),
)

-- what the statistics are taken of, and what it is about
pub definitions-told : (s : Session) (now : ℕ) (moments : List Moment) (x : StatisticsHeld) (tag : ℕ) (body : ReportBody) → IsFit (tailoring s) → AreStatistics s moments x → IsDefinitionsBody x body
    → IsWritable (tailoring s) body × IsAbout s now moments tag definitions body
definitions-told s now moments x tag body fit h k = (
  subst (IsWritable (tailoring s)) (sym k) (definitions-written (tailoring s) fit x h.span h.ids),
  k ∙ ap₂ (λ (e : Bool) (n : ℕ). Stat (told.Definitions e n (params_of x.members))) h.enabled h.interval
      ∙ ap (λ (ids : List ℕ). Stat (told.Definitions (state_after s moments).statistics.enabled (state_after s moments).statistics.interval ids))
      (params-told s moments (state_after s moments).statistics.members x.members h.members),
)

-- the times of what is held can be told
pub held-timely : (c : Core) (waiting : List Running) (held : List (Key × Held)) (channels : List (ℕ × Channel)) (x : StatisticsHeld) → IsFit c.tailoring → IsWhole c waiting held channels x
    → All (IsTimely c.tailoring) x.members
held-timely c waiting held channels x fit h =
    let coarse = fit.widths.coarse.1 in
    let fine = fit.widths.fine in
    let most : 256 ^ (c.tailoring.widths.coarse + c.tailoring.widths.fine) ≤ 256 ^ 7 =
    (let some : 0 < 256 = omega arith in let le : c.tailoring.widths.coarse + c.tailoring.widths.fine ≤ 7 = omega (arith, coarse, fine) in pow-le-pow_right some le) in
    let early = h.board.stands.early in
    All-from_recursion (IsTimely c.tailoring) x.members (members-timely (session c) c.slot_now c.moments x h.board.stands.good (omega (arith, early, most)) h.statistics)

-- an instruction that orders a report leaves what is held of the statistics
left-after : (c : Core) (w : Running) (e : Effect) (h : IsExecuting c w e) (m : Moment) (x : StatisticsHeld) → IsExecutedBy c w e m → is_done e ≡ true → LeavesStatistics h.instruction
    → IsSettled (session c) c.moments → AreStatistics (session c) c.moments x → AreStatistics (session c) (m ∷ c.moments) x
left-after c w e h m x by done leaves settled before =
    statistics-left (session c) m c.moments w.number h.instruction x (executed-done c w e h m by done) leaves (subst IsNoFiling (sym by.act_is) tt) settled before

-- the report of the statistics
pub statistics-after : (c : Core) (waiting : List Running) (held : List (Key × Held)) (channels : List (ℕ × Channel)) (x : StatisticsHeld) (w : Running) (resets : Bool)
    (h : IsExecuting c w (ChangeStatistics (change.Report resets))) (m : Moment) (tag : ℕ) (body : ReportBody) → IsFit c.tailoring → IsWhole c waiting held channels x → tag ≤ greatest_tag c.tailoring
    → IsExecutedBy c w (ChangeStatistics (change.Report resets)) m → IsStatisticsBody c.tailoring x tag body → IsToldAfter c m tag (statistics ∷ []) (Some body)
statistics-after c waiting held channels x w resets h m tag body fit b le by k =
    let now = left-after c w (ChangeStatistics (change.Report resets)) h m x by refl (subst LeavesStatistics (sym h.is_effect.0) tt) b.settled b.statistics in (
      (statistics-told (session c) c.slot_now c.slot_now c.moments x tag body fit b.board.stands.good b.board.room b.board.stands.early (refl, refl) le b.statistics k).0,
      (k.0, k.1, report-honest (session c) (m ∷ c.moments) x tag k.0 now k.2),
    )

-- the report of what they are taken of
pub definitions-after : (c : Core) (waiting : List Running) (held : List (Key × Held)) (channels : List (ℕ × Channel)) (x : StatisticsHeld) (w : Running)
    (h : IsExecuting c w (ChangeStatistics change.ShowDefinitions)) (m : Moment) (tag : ℕ) (body : ReportBody) → IsFit c.tailoring → IsWhole c waiting held channels x
    → IsExecutedBy c w (ChangeStatistics change.ShowDefinitions) m → IsDefinitionsBody x body → IsToldAfter c m tag (definitions ∷ []) (Some body)
definitions-after c waiting held channels x w h m tag body fit b by k =
    let now = left-after c w (ChangeStatistics change.ShowDefinitions) h m x by refl (subst LeavesStatistics (sym h.is_effect.0) tt) b.settled b.statistics in
    definitions-told (session c) c.slot_now (m ∷ c.moments) x tag body fit now k

-- what holds of an Ok holds of it still by what follows
pub ok-mapped : {E : Type 0} (P Q : ReportBody → Type 0) → ((body : ReportBody) → P body → Q body) → (r : Result ReportBody E) → IfOk r P → IfOk r Q
ok-mapped P Q f (Ok body) h = f body h
ok-mapped P Q f (Err fault) h = tt
