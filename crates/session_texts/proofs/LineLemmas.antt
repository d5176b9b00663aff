-- The lines of true blocks are true.
use Rattle.std.proofs.Common.{arith, ◌≡◌, ℕ, zero, suc, ◌+◌, ◌^◌, refl, sym, ◌∙◌, ap, subst, List, [], ◌∷◌, ◌++◌, append_assoc, map, length, true, false, Some}
use Rattle.std.proofs.lemmas.List.{append-nil}
use Rattle.std.proofs.lemmas.Bool.{true≢false}
use Rattle.std.specs.Prelude.{ℤ, flat_map, slice_get, codes}
use Rattle.std.specs.List.{AllByRecursion, count_by}
use Rattle.std.specs.Fmt.{decimal, signed_decimal}
use Rattle.hk_base.specs.TailoringParts.{TailoringParts}
use Rattle.hk_base.specs.declared.types.Key.{Key}
use Rattle.hk_base.specs.declared.types.Kind.{Kind}
use Rattle.hk_base.specs.declared.types.Kind.TheVariants.{Housekeeping, Diagnostic}
use Rattle.hk_base.specs.declared.types.Place.{Place}
use Rattle.hk_base.proofs.Membership.{AllByRecursion-append}
use Rattle.st04_grammar.specs.declared.bodies.StatRow.{StatRow}
use Rattle.st20_grammar.specs.declared.bodies.Setting.{Setting}
use Rattle.message_words.specs.Words.{kind_word}
use Rattle.hk_world.specs.Timelines.{tailoring}
use Rattle.hk_world.specs.Worlds.{World, IsTrueValue, IsTrueStat, IsTrueCurrent}
use Rattle.ground_history.specs.declared.answer.GotKind.{GotKind}
use Rattle.definition_intervals.specs.declared.answer.Verdict.{Verdict}
use Rattle.definition_intervals.specs.declared.answer.Verdict.TheVariants.{Decided, Undecidable, Crowded, NoOpening, Impossible}
use Rattle.session_texts.specs.Blocks.{line_end, report_front, value_line, stat_line, current_line}
use Rattle.session_texts.specs.Texts.{is_repeat, is_conflict, is_foreign, is_skipped, is_unread, is_stray, count_line, count_lines}
use Rattle.session_texts.specs.Truth.{Block, parameter_block, statistics_block, current_block, verdict_line, block_lines, IsTrueBlock, IsTrueIn, IsTrueText, IsTrueSoFar, IsTrueFollowing}
use Rattle.session_texts.specs.Lines.{lines_of, verdict_text, report_text, decided_text, value_text, statistics_text, stat_text, values_text, current_text, begins, IsTrueLine, AreTrueUnder, HasTrueLines}
use Rattle.session_texts.proofs.FeedLemmas.{has_no_feed, no_feed-append, no_feed-decimal, no_feed-signed, line-more, fed, fed-append, AreWhole, lines-fed, lines-front}

-- ---- the lines of a block, without their line feeds

-- the lines of a block
abbrev pub block_texts : TailoringParts → Block → List (List ℕ)
block_texts t (parameter_block key tag v rows) = report_text key tag v ∷ map value_text rows
block_texts t (statistics_block tag r) = statistics_text tag r.start r.end ∷ map (stat_text t) r.rows
block_texts t (current_block tag r) = values_text tag ∷ map current_text r.pairs

-- the last part of a line
last-word : (a : List ℕ) → a ++ line_end ≡ a ++ line_end
last-word a = refl

value-fed : (r : Place × ℤ) → value_line r ≡ value_text r ++ line_end
value-fed (place, value) =
    line-more (codes "value ") _ _ (line-more (decimal place.param) _ _ (line-more (codes " slot ") _ _ (line-more (decimal place.slot) _ _ (line-more (codes " = ") _ _ (last-word (signed_decimal value))))))

values-fed : (rs : List (Place × ℤ)) → flat_map value_line rs ≡ fed (map value_text rs)
values-fed [] = refl
values-fed (r ∷ rs) = ap (λ x. x ++ flat_map value_line rs) (value-fed r) ∙ ap (λ x. (value_text r ++ line_end) ++ x) (values-fed rs)

verdict-fed : (v : Verdict) → verdict_line v ≡ verdict_text v ++ line_end
verdict-fed (Decided d) = line-more (codes " decided interval ") _ _ (last-word (decimal d.interval))
verdict-fed (Undecidable k) = line-more (codes " undecidable ") _ _ (last-word (decimal k))
verdict-fed (Crowded k) = line-more (codes " crowded ") _ _ (last-word (decimal k))
verdict-fed NoOpening = refl
verdict-fed Impossible = refl

stat-fed : (t : TailoringParts) (r : StatRow) → stat_line t r ≡ stat_text t r ++ line_end
stat-fed t r =
    line-more (codes "stat ") _ _
    (line-more (decimal r.param) _ _
    (line-more (codes " count ") _ _
    (line-more (decimal r.count) _ _
    (line-more (codes " max ") _ _
    (line-more (signed_decimal r.max) _ _
    (line-more (codes " at ") _ _
    (line-more (decimal r.max_time) _ _
    (line-more (codes " min ") _ _
    (line-more (signed_decimal r.min) _ _
    (line-more (codes " at ") _ _
    (line-more (decimal r.min_time) _ _
    (line-more (codes " mean ") _ _ (line-more (signed_decimal r.mean) _ _ (line-more (codes " scale ") _ _ (last-word (decimal (256 ^ t.widths.mean_fraction)))))))))))))))))

stats-fed : (t : TailoringParts) (rs : List StatRow) → flat_map (stat_line t) rs ≡ fed (map (stat_text t) rs)
stats-fed t [] = refl
stats-fed t (r ∷ rs) = ap (λ x. x ++ flat_map (stat_line t) rs) (stat-fed t r) ∙ ap (λ x. (stat_text t r ++ line_end) ++ x) (stats-fed t rs)

current-fed : (x : Setting) → current_line x ≡ current_text x ++ line_end
current-fed x = line-more (codes "current ") _ _ (line-more (decimal x.param) _ _ (line-more (codes " = ") _ _ (last-word (signed_decimal x.value))))

currents-fed : (xs : List Setting) → flat_map current_line xs ≡ fed (map current_text xs)
currents-fed [] = refl
currents-fed (x ∷ xs) = ap (λ y. y ++ flat_map current_line xs) (current-fed x) ∙ ap (λ y. (current_text x ++ line_end) ++ y) (currents-fed xs)

-- a first line and others behind it
head-fed : (a x y lines rest : List ℕ) → x ≡ y ++ line_end → lines ≡ rest → a ++ (x ++ lines) ≡ ((a ++ y) ++ line_end) ++ rest
head-fed a x y lines rest e f =
    sym (append_assoc a x lines) ∙ ap (λ z. z ++ lines) (line-more a x y e) ∙ ap (λ z. ((a ++ y) ++ line_end) ++ z) f

block-fed : (t : TailoringParts) (b : Block) → block_lines t b ≡ fed (block_texts t b)
block-fed t (parameter_block key tag v rows) = head-fed (report_front key tag) (verdict_line v) (verdict_text v) (flat_map value_line rows) (fed (map value_text rows)) (verdict-fed v) (values-fed rows)
block-fed t (statistics_block tag r) =
    ap (λ z. codes "statistics tag " ++ (decimal tag ++ (codes " from " ++ (decimal r.start ++ (codes " to " ++ z)))))
    (sym (append_assoc (decimal r.end) line_end (flat_map (stat_line t) r.rows)))
    ∙ ap (λ z. codes "statistics tag " ++ (decimal tag ++ (codes " from " ++ (decimal r.start ++ z)))) (sym (append_assoc (codes " to ") (decimal r.end ++ line_end) (flat_map (stat_line t) r.rows)))
    ∙ ap (λ z. codes "statistics tag " ++ (decimal tag ++ (codes " from " ++ z))) (sym (append_assoc (decimal r.start) (codes " to " ++ (decimal r.end ++ line_end)) (flat_map (stat_line t) r.rows)))
    ∙ ap (λ z. codes "statistics tag " ++ (decimal tag ++ z)) (sym (append_assoc (codes " from ") (decimal r.start ++ (codes " to " ++ (decimal r.end ++ line_end))) (flat_map (stat_line t) r.rows)))
    ∙ ap (λ z. codes "statistics tag " ++ z) (sym (append_assoc (decimal tag) (codes " from " ++ (decimal r.start ++ (codes " to " ++ (decimal r.end ++ line_end)))) (flat_map (stat_line t) r.rows)))
    ∙ head-fed (codes "statistics tag ") (decimal tag ++ (codes " from " ++ (decimal r.start ++ (codes " to " ++ (decimal r.end ++ line_end))))) _ (flat_map (stat_line t) r.rows) (fed (map (stat_text t) r.rows))
    (line-more (decimal tag) _ _ (line-more (codes " from ") _ _ (line-more (decimal r.start) _ _ (line-more (codes " to ") _ _ (last-word (decimal r.end))))))
    (stats-fed t r.rows)
block-fed t (current_block tag r) =
    ap (λ z. codes "values tag " ++ z) (sym (append_assoc (decimal tag) line_end (flat_map current_line r.pairs)))
    ∙ head-fed (codes "values tag ") (decimal tag ++ line_end) (decimal tag) (flat_map current_line r.pairs) (fed (map current_text r.pairs)) (last-word (decimal tag)) (currents-fed r.pairs)

-- ---- none has a line feed inside

value-whole : (r : Place × ℤ) → has_no_feed (value_text r) ≡ true
value-whole (place, value) =
    no_feed-append (decimal place.param) _ (no_feed-decimal place.param) (no_feed-append (decimal place.slot) _ (no_feed-decimal place.slot) (no_feed-signed value))

values-whole : (rs : List (Place × ℤ)) → AreWhole (map value_text rs)
values-whole [] = tt
values-whole (r ∷ rs) = (value-whole r, values-whole rs)

stat-whole : (t : TailoringParts) (r : StatRow) → has_no_feed (stat_text t r) ≡ true
stat-whole t r =
    no_feed-append (decimal r.param) _ (no_feed-decimal r.param)
    (no_feed-append (decimal r.count) _ (no_feed-decimal r.count)
    (no_feed-append (signed_decimal r.max) _ (no_feed-signed r.max)
    (no_feed-append (decimal r.max_time) _ (no_feed-decimal r.max_time)
    (no_feed-append (signed_decimal r.min) _ (no_feed-signed r.min)
    (no_feed-append (decimal r.min_time) _ (no_feed-decimal r.min_time)
    (no_feed-append (signed_decimal r.mean) _ (no_feed-signed r.mean) (no_feed-decimal (256 ^ t.widths.mean_fraction))))))))

stats-whole : (t : TailoringParts) (rs : List StatRow) → AreWhole (map (stat_text t) rs)
stats-whole t [] = tt
stats-whole t (r ∷ rs) = (stat-whole t r, stats-whole t rs)

currents-whole : (xs : List Setting) → AreWhole (map current_text xs)
currents-whole [] = tt
currents-whole (x ∷ xs) = (no_feed-append (decimal x.param) _ (no_feed-decimal x.param) (no_feed-signed x.value), currents-whole xs)

verdict-whole : (v : Verdict) → has_no_feed (verdict_text v) ≡ true
verdict-whole (Decided d) = no_feed-decimal d.interval
verdict-whole (Undecidable k) = no_feed-decimal k
verdict-whole (Crowded k) = no_feed-decimal k
verdict-whole NoOpening = refl
verdict-whole Impossible = refl

kind-whole : (kind : Kind) → has_no_feed (kind_word kind) ≡ true
kind-whole Housekeeping = refl
kind-whole Diagnostic = refl

front-whole : (key : Key) (tag : ℕ) → has_no_feed (report_front key tag) ≡ true
front-whole key tag =
    no_feed-append (kind_word key.kind) _ (kind-whole key.kind) (no_feed-append (decimal key.id) _ (no_feed-decimal key.id) (no_feed-decimal tag))

block-whole : (t : TailoringParts) (b : Block) → AreWhole (block_texts t b)
block-whole t (parameter_block key tag v rows) = (no_feed-append (report_front key tag) (verdict_text v) (front-whole key tag) (verdict-whole v), values-whole rows)
block-whole t (statistics_block tag r) = (
  no_feed-append (decimal tag) _ (no_feed-decimal tag) (no_feed-append (decimal r.start) _ (no_feed-decimal r.start) (no_feed-decimal r.end)),
  stats-whole t r.rows,
)
block-whole t (current_block tag r) = (no_feed-decimal tag, currents-whole r.pairs)

-- ---- counts

count_texts : List ℕ → ℕ → List (List ℕ)
count_texts word zero = []
count_texts word (suc n) = (word ++ (codes " " ++ decimal (suc n))) ∷ []

count-fed : (word : List ℕ) (n : ℕ) → count_line word n ≡ fed (count_texts word n)
unfolding count_texts
count-fed word zero = refl
count-fed word (suc n) = line-more word _ _ (line-more (codes " ") _ _ (last-word (decimal (suc n)))) ∙ sym (append-nil ((word ++ (codes " " ++ decimal (suc n))) ++ line_end))

count-whole : (word : List ℕ) (n : ℕ) → has_no_feed word ≡ true → AreWhole (count_texts word n)
unfolding count_texts
count-whole word zero e = tt
count-whole word (suc n) e = (no_feed-append word _ e (no_feed-decimal (suc n)), tt)

-- all lines of counts
abbrev all_counts : List GotKind → List (List ℕ)
all_counts kinds =
    count_texts (codes "repeats") (count_by is_repeat kinds)
    ++ (count_texts (codes "conflicts") (count_by is_conflict kinds)
    ++ (count_texts (codes "foreign") (count_by is_foreign kinds)
    ++ (count_texts (codes "skipped") (count_by is_skipped kinds)
    ++ (count_texts (codes "unread") (count_by is_unread kinds) ++ count_texts (codes "stray") (count_by is_stray kinds)))))

both-fed : (x y : List ℕ) (xs ys : List (List ℕ)) → x ≡ fed xs → y ≡ fed ys → x ++ y ≡ fed (xs ++ ys)
both-fed x y xs ys e f = ap (λ z. z ++ y) e ∙ ap (λ z. fed xs ++ z) f ∙ sym (fed-append xs ys)

counts-fed : (kinds : List GotKind) → count_lines kinds ≡ fed (all_counts kinds)
counts-fed kinds =
    both-fed _ _ _ _ (count-fed (codes "repeats") (count_by is_repeat kinds))
    (both-fed _ _ _ _ (count-fed (codes "conflicts") (count_by is_conflict kinds))
    (both-fed _ _ _ _ (count-fed (codes "foreign") (count_by is_foreign kinds))
    (both-fed _ _ _ _ (count-fed (codes "skipped") (count_by is_skipped kinds))
    (both-fed _ _ _ _ (count-fed (codes "unread") (count_by is_unread kinds)) (count-fed (codes "stray") (count_by is_stray kinds))))))

both-whole : (xs ys : List (List ℕ)) → AreWhole xs → AreWhole ys → AreWhole (xs ++ ys)
both-whole xs ys e f = AllByRecursion-append (λ line. has_no_feed line ≡ true) xs ys e f

counts-whole : (kinds : List GotKind) → AreWhole (all_counts kinds)
counts-whole kinds =
    both-whole _ _ (count-whole (codes "repeats") (count_by is_repeat kinds) refl)
    (both-whole _ _ (count-whole (codes "conflicts") (count_by is_conflict kinds) refl)
    (both-whole _ _ (count-whole (codes "foreign") (count_by is_foreign kinds) refl)
    (both-whole _ _ (count-whole (codes "skipped") (count_by is_skipped kinds) refl)
    (both-whole _ _ (count-whole (codes "unread") (count_by is_unread kinds) refl) (count-whole (codes "stray") (count_by is_stray kinds) refl)))))

-- ---- truth

-- nothing is said by a line that begins with none of these words
record IsQuiet (line : List ℕ) : Type 0 where
  report : begins (codes "report ") line ≡ false
  value : begins (codes "value ") line ≡ false
  stat : begins (codes "stat ") line ≡ false
  current : begins (codes "current ") line ≡ false

quiet-true : (w : World) (above : List (List ℕ)) (line : List ℕ) → IsQuiet line → IsTrueLine w above line
quiet-true w above line q =
    record {
      report = λ e. absurd (true≢false (sym e ∙ q.report));
      value = λ e. absurd (true≢false (sym e ∙ q.value));
      stat = λ e. absurd (true≢false (sym e ∙ q.stat));
      current = λ e. absurd (true≢false (sym e ∙ q.current));
    }

-- lines that are true whatever stands above them
abbrev AreTrue : World → List (List ℕ) → Type 0
AreTrue w lines = (above : List (List ℕ)) → AreTrueUnder w above lines

both-true : (w : World) (xs ys : List (List ℕ)) → AreTrue w xs → AreTrue w ys → AreTrue w (xs ++ ys)
both-true w xs ys f g above = go above xs (f above)
  where
    go : (a : List (List ℕ)) (zs : List (List ℕ)) → AreTrueUnder w a zs → AreTrueUnder w a (zs ++ ys)
    go a [] h = g a
    go a (z ∷ zs) h = (h.0, go (z ∷ a) zs h.1)

count-true : (w : World) (word : List ℕ) (n : ℕ) → ((rest : List ℕ) → IsQuiet (word ++ rest)) → AreTrue w (count_texts word n)
unfolding count_texts
count-true w word zero q above = tt
count-true w word (suc n) q above = (quiet-true w above (word ++ (codes " " ++ decimal (suc n))) (q (codes " " ++ decimal (suc n))), tt)

counts-true : (w : World) (kinds : List GotKind) → AreTrue w (all_counts kinds)
counts-true w kinds =
    both-true w _ _ (count-true w (codes "repeats") (count_by is_repeat kinds) (λ rest. record { report = refl; value = refl; stat = refl; current = refl }))
    (both-true w _ _ (count-true w (codes "conflicts") (count_by is_conflict kinds) (λ rest. record { report = refl; value = refl; stat = refl; current = refl }))
    (both-true w _ _ (count-true w (codes "foreign") (count_by is_foreign kinds) (λ rest. record { report = refl; value = refl; stat = refl; current = refl }))
    (both-true w _ _ (count-true w (codes "skipped") (count_by is_skipped kinds) (λ rest. record { report = refl; value = refl; stat = refl; current = refl }))
    (both-true w _ _ (count-true w (codes "unread") (count_by is_unread kinds) (λ rest. record { report = refl; value = refl; stat = refl; current = refl }))
    (count-true w (codes "stray") (count_by is_stray kinds) (λ rest. record { report = refl; value = refl; stat = refl; current = refl }))))))

-- the rows of a decided report, after others
value-rows : (w : World) (key : Key) (tag interval : ℕ) (rest : List (List ℕ)) (others rows : List (Place × ℤ))
    → ((row : ℕ) (place : Place) (value : ℤ) → slice_get rows row ≡ Some (place, value) → IsTrueValue w key tag interval (length others + row) place.param place.slot value)
    → AreTrueUnder w (map value_text others ++ (decided_text key tag interval ∷ rest)) (map value_text rows)
value-rows w key tag interval rest others [] h = tt
value-rows w key tag interval rest others ((place, value) ∷ rows) h = (
  record {
    report = λ e. absurd (true≢false (sym e));
    value = λ e.
        let same : length others + 0 ≡ length others = omega arith in
        record {
          key = key;
          tag = tag;
          interval = interval;
          others = others;
          rest = rest;
          place = place;
          value = value;
          text = refl;
          under = refl;
          is_true = subst (λ n. IsTrueValue w key tag interval n place.param place.slot value) same (h 0 place value refl);
        };
    stat = λ e. absurd (true≢false (sym e));
    current = λ e. absurd (true≢false (sym e));
  },
  value-rows w key tag interval rest ((place, value) ∷ others) rows
      (λ row p v e. let same : length others + suc row ≡ suc (length others) + row = omega arith in subst (λ n. IsTrueValue w key tag interval n p.param p.slot v) same (h (suc row) p v e)),
)

stat-rows : (w : World) (tag start end : ℕ) (rest : List (List ℕ)) (others rows : List StatRow)
    → ((row : ℕ) (x : StatRow) → slice_get rows row ≡ Some x → IsTrueStat w tag (length others + row) x)
    → AreTrueUnder w (map (stat_text (tailoring w.session)) others ++ (statistics_text tag start end ∷ rest)) (map (stat_text (tailoring w.session)) rows)
stat-rows w tag start end rest others [] h = tt
stat-rows w tag start end rest others (x ∷ rows) h = (
  record {
    report = λ e. absurd (true≢false (sym e));
    value = λ e. absurd (true≢false (sym e));
    stat = λ e.
        let same : length others + 0 ≡ length others = omega arith in
        record {
          tag = tag;
          start = start;
          end = end;
          others = others;
          rest = rest;
          row = x;
          text = refl;
          under = refl;
          is_true = subst (λ n. IsTrueStat w tag n x) same (h 0 x refl);
        };
    current = λ e. absurd (true≢false (sym e));
  },
  stat-rows w tag start end rest (x ∷ others) rows
      (λ row y e. let same : length others + suc row ≡ suc (length others) + row = omega arith in subst (λ n. IsTrueStat w tag n y) same (h (suc row) y e)),
)

current-rows : (w : World) (tag : ℕ) (rest : List (List ℕ)) (others rows : List Setting)
    → ((row : ℕ) (x : Setting) → slice_get rows row ≡ Some x → IsTrueCurrent w tag (length others + row) x)
    → AreTrueUnder w (map current_text others ++ (values_text tag ∷ rest)) (map current_text rows)
current-rows w tag rest others [] h = tt
current-rows w tag rest others (x ∷ rows) h = (
  record {
    report = λ e. absurd (true≢false (sym e));
    value = λ e. absurd (true≢false (sym e));
    stat = λ e. absurd (true≢false (sym e));
    current = λ e.
        let same : length others + 0 ≡ length others = omega arith in
        record {
          tag = tag;
          others = others;
          rest = rest;
          setting = x;
          text = refl;
          under = refl;
          is_true = subst (λ n. IsTrueCurrent w tag n x) same (h 0 x refl);
        };
  },
  current-rows w tag rest (x ∷ others) rows
      (λ row y e. let same : length others + suc row ≡ suc (length others) + row = omega arith in subst (λ n. IsTrueCurrent w tag n y) same (h (suc row) y e)),
)

-- the first line of a parameter report's block
report-line : (w : World) (above : List (List ℕ)) (key : Key) (tag : ℕ) (v : Verdict) (rows : List (Place × ℤ)) → IsTrueBlock w (parameter_block key tag v rows) → IsTrueLine w above (report_text key tag v)
report-line w above key tag v rows h =
    record {
      report = λ e. record { key = key; tag = tag; verdict = v; rows = rows; text = refl; is_true = h };
      value = λ e. absurd (true≢false (sym e));
      stat = λ e. absurd (true≢false (sym e));
      current = λ e. absurd (true≢false (sym e));
    }

-- without values there is nothing behind it
no-rows : (w : World) (above : List (List ℕ)) (rows : List (Place × ℤ)) → rows ≡ [] → AreTrueUnder w above (map value_text rows)
no-rows w above rows e = subst (λ rs. AreTrueUnder w above (map value_text rs)) (sym e) tt

block-true : (w : World) (b : Block) → IsTrueBlock w b → AreTrue w (block_texts (tailoring w.session) b)
block-true w (parameter_block key tag (Decided d) rows) h above =
    let same : (row : ℕ) → 0 + row ≡ row = λ row. omega arith in (
      report-line w above key tag (Decided d) rows h,
      value-rows w key tag d.interval above [] rows
          (λ row place value e. subst (λ n. IsTrueValue w key tag d.interval n place.param place.slot value) (sym (same row)) (h.1.values row place value e)),
    )
block-true w (parameter_block key tag (Undecidable k) rows) h above = (report-line w above key tag (Undecidable k) rows h, no-rows w _ rows h.1.1)
block-true w (parameter_block key tag (Crowded k) rows) h above = (report-line w above key tag (Crowded k) rows h, no-rows w _ rows h.1.1)
block-true w (parameter_block key tag NoOpening rows) h above = (report-line w above key tag NoOpening rows h, no-rows w _ rows h.1.1)
block-true w (parameter_block key tag Impossible rows) h above = absurd h.1
block-true w (statistics_block tag r) h above =
    let same : (row : ℕ) → 0 + row ≡ row = λ row. omega arith in (
      quiet-true w above (statistics_text tag r.start r.end) (record { report = refl; value = refl; stat = refl; current = refl }),
      stat-rows w tag r.start r.end above [] r.rows (λ row x e. subst (λ n. IsTrueStat w tag n x) (sym (same row)) (h.1 row x e)),
    )
block-true w (current_block tag r) h above =
    let same : (row : ℕ) → 0 + row ≡ row = λ row. omega arith in (
      quiet-true w above (values_text tag) (record { report = refl; value = refl; stat = refl; current = refl }),
      current-rows w tag above [] r.pairs (λ row x e. subst (λ n. IsTrueCurrent w tag n x) (sym (same row)) (h.1 row x e)),
    )

-- ---- the lines of blocks and counts

abbrev all_texts : TailoringParts → List Block → List (List ℕ)
all_texts t [] = []
all_texts t (b ∷ bs) = block_texts t b ++ all_texts t bs

blocks-fed : (t : TailoringParts) (bs : List Block) → flat_map (block_lines t) bs ≡ fed (all_texts t bs)
blocks-fed t [] = refl
blocks-fed t (b ∷ bs) = both-fed (block_lines t b) (flat_map (block_lines t) bs) (block_texts t b) (all_texts t bs) (block-fed t b) (blocks-fed t bs)

blocks-whole : (t : TailoringParts) (bs : List Block) → AreWhole (all_texts t bs)
blocks-whole t [] = tt
blocks-whole t (b ∷ bs) = both-whole (block_texts t b) (all_texts t bs) (block-whole t b) (blocks-whole t bs)

blocks-true : (w : World) (bs : List Block) → AllByRecursion (IsTrueBlock w) bs → AreTrue w (all_texts (tailoring w.session) bs)
blocks-true w [] h above = tt
blocks-true w (b ∷ bs) h above =
    both-true w (block_texts (tailoring w.session) b) (all_texts (tailoring w.session) bs) (block-true w b h.0) (blocks-true w bs h.1) above

-- lines of a text that is made of lines
fed-true : (w : World) (text : List ℕ) (lines : List (List ℕ)) → text ≡ fed lines → AreWhole lines → AreTrue w lines → HasTrueLines w text
fed-true w text lines e whole h = subst (AreTrueUnder w []) (sym (ap lines_of e ∙ lines-fed lines whole)) (h [])

texts-lines : (w : World) (text : List ℕ) (bs : List Block) (kinds : List GotKind) → text ≡ flat_map (block_lines (tailoring w.session)) bs ++ count_lines kinds
    → AllByRecursion (IsTrueBlock w) bs → HasTrueLines w text
texts-lines w text bs kinds e each =
    let t : TailoringParts = tailoring w.session in
    fed-true w text (all_texts t bs ++ all_counts kinds)
    (e ∙ both-fed (flat_map (block_lines t) bs) (count_lines kinds) (all_texts t bs) (all_counts kinds) (blocks-fed t bs) (counts-fed kinds))
    (both-whole (all_texts t bs) (all_counts kinds) (blocks-whole t bs) (counts-whole kinds))
    (both-true w (all_texts t bs) (all_counts kinds) (blocks-true w bs each) (counts-true w kinds))

-- a first part of a text with true lines has true lines
front-true : (w : World) (written rest : List ℕ) → HasTrueLines w (written ++ rest) → HasTrueLines w written
front-true w written rest h =
    let f = lines-front written rest in
    go [] (lines_of written) f.0 (subst (AreTrueUnder w []) f.1 h)
  where
    go : (above xs ys : List (List ℕ)) → AreTrueUnder w above (xs ++ ys) → AreTrueUnder w above xs
    go above [] ys g = tt
    go above (x ∷ xs) ys g = (g.0, go (x ∷ above) xs ys g.1)

whole-lines : {are_ordered : List Block → Type 0} (w : World) (text : List ℕ) → IsTrueIn are_ordered w text → HasTrueLines w text
whole-lines w text x =
    texts-lines w text x.written.blocks x.kinds (x.lines ∙ ap (λ front. front ++ count_lines x.kinds) x.written.lines) x.written.each

pub text_lines : (w : World) (written rest : List ℕ) → IsTrueText w (written ++ rest) → HasTrueLines w written
text_lines w written rest x = front-true w written rest (whole-lines w (written ++ rest) x)

pub followed_lines : (w : World) (written rest : List ℕ) → IsTrueFollowing w (written ++ rest) → HasTrueLines w written
followed_lines w written rest x = front-true w written rest (whole-lines w (written ++ rest) x)

pub so_far_lines : (w : World) (written rest : List ℕ) → IsTrueSoFar w (written ++ rest) → HasTrueLines w written
so_far_lines w written rest x =
    front-true w written rest
    (fed-true w (written ++ rest) (all_texts (tailoring w.session) x.blocks) (x.lines ∙ blocks-fed (tailoring w.session) x.blocks) (blocks-whole (tailoring w.session) x.blocks) (blocks-true w x.blocks x.each))
