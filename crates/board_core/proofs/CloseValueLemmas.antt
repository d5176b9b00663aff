-- What is held of the parameters once the values of settable parameters are filed at the end of a slot.
use Rattle.std.proofs.Common.{◌≡◌, ℕ, ◌<◌, sym, ◌∙◌, ap, subst, List, [], ◌∷◌, map, true, false, ◌==◌, Some, None}
use Rattle.std.specs.Prelude.{IfSome, option_and_then, if◌then◌else◌}
use Rattle.std.specs.List.{AllByRecursion}
use Rattle.std.specs.Option.{option_or}
use Rattle.st20_grammar.specs.declared.bodies.Setting.{Setting}
use Rattle.hk_world.specs.Timelines.{Session, tailoring, Done, done_by, done_at, set_value, filed_value, state_after}
use Rattle.hk_world.specs.declared.moment.Moment.{Moment}
use Rattle.hk_world.specs.declared.moment.Act.TheVariants.{Filed}
use Rattle.board_steps.specs.Slots.{is_set}
use Rattle.board_steps.specs.Steps.{AreNext}
use Rattle.board_state.specs.Values.{slot_filed, AreValues, change_channel, filed_channel}
use Rattle.board_state.specs.declared.channels.Channel.{Channel}
use Rattle.board_state.proofs.ChannelLemmas.{value_told, value-more}
use Rattle.board_state.proofs.FilingLemmas.{AreOnce, filing-values}
use Rattle.board_state.proofs.QuietLemmas.{AreFiledBefore}
use Rattle.board_core.specs.Closing.{with_filings, filing_of}

-- a value of a settable parameter that is still to be filed
pub record IsToKeep (s : Session) (slot : ℕ) (earlier : List Moment) (x : Setting) : Type 0 where
  pub set : is_set (tailoring s) x.param ≡ true
  pub value : (state_after s earlier).value x.param ≡ Some x.value
  pub before : AreFiledBefore x.param slot earlier

module _ (s : Session) (slot : ℕ) (m : Moment) (earlier : List Moment) (x : Setting) (act : m.act ≡ Filed x.param slot x.value) where
  still-to-keep : (y : Setting) → (x.param == y.param) ≡ false → IsToKeep s slot earlier y → IsToKeep s slot (m ∷ earlier) y
  still-to-keep y apart k =
      record {
        set = k.set;
        value = value-more s m earlier y.param ∙ ap (λ o. option_or o ((state_after s earlier).value y.param)) told ∙ k.value;
        before = (subst (λ o. IfSome o (λ z. z.0 < slot)) (sym none) tt, k.before);
      }
    where
      undone : done_at s m ≡ None
      undone = ap (done_by s m.tag) act

      told : value_told s m y.param ≡ None
      told =
          ap (λ b. if b then option_and_then (λ (d : Done). set_value y.param d.instruction) (done_at s m) else filed_value y.param m.act) k.set
          ∙ ap (option_and_then (λ (d : Done). set_value y.param d.instruction)) undone

      none : slot_filed y.param m.act ≡ None
      none = ap (slot_filed y.param) act ∙ ap (λ b. if b then Some (slot, x.value) else None) apart

  all-to-keep : (ys : List Setting) → AllByRecursion (λ y. (x.param == y.param) ≡ false) ys → AllByRecursion (IsToKeep s slot earlier) ys
      → AllByRecursion (IsToKeep s slot (m ∷ earlier)) ys
  all-to-keep [] apart k = tt
  all-to-keep (y ∷ ys) apart k = (still-to-keep y apart.0 k.0, all-to-keep ys apart.1 k.1)

-- the values are filed one after the other
pub values-filed : (s : Session) (clock slot : ℕ) (xs : List Setting) (earlier after : List Moment) (channels : List (ℕ × Channel)) → AreOnce xs
    → AllByRecursion (IsToKeep s slot earlier) xs → AreNext s clock slot earlier (map (filing_of slot) xs) after → AreValues s earlier channels
    → AreValues s after (with_filings slot xs channels)
values-filed s clock slot [] earlier after channels once keep next h = subst (λ ms. AreValues s ms channels) (sym next) h
values-filed s clock slot (x ∷ xs) earlier after channels once keep next h =
    let m : Moment = next.0 in
    let act = next.1.follows.0 in
    let now = filing-values s m earlier x.param slot x.value act channels (λ set. keep.0.value) keep.0.before h in
    values-filed s clock slot xs (m ∷ earlier) after (change_channel x.param (filed_channel slot x.value) channels) once.1
    (all-to-keep s slot m earlier x act xs once.0 keep.1) next.2 now
