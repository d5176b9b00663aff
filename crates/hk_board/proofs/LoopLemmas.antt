-- From slot to slot of a run.
use Rattle.std.proofs.Common.{arith, suc, ◌≡◌, ◌+◌, ◌<◌, ◌≤◌, ℕ, List, [], ◌∷◌, ◌++◌, length, take, Result, Ok, Err, refl, sym, ap, subst, ◌∙◌}
use Rattle.std.specs.Prelude.{reverse, OnOk}
use Rattle.std.proofs.lemmas.List.{length-map}
use Rattle.hk_base.specs.TailoringParts.{TailoringParts}
use Rattle.hk_base.specs.declared.outside.Sensor.{Ghosts}
use Rattle.hk_world.specs.declared.moment.Moment.{Moment}
use Rattle.board_steps.specs.Cores.{Core, new_core}
use Rattle.simulated_link.specs.declared.link.Link.{Link}
use Rattle.board_scripts.specs.declared.script.Script.{Script}
use Rattle.run_records.specs.Putting.{Seen, HasPut}
use Rattle.board_runs.specs.Runs.{record_of}
use Rattle.run_slots.specs.Standing.{IsBeforeSlot}
use Rattle.sampler_threads.specs.Slots.{Ring}
use Rattle.sampler_threads.specs.declared.slot.Sampler.{Sampler}
use Rattle.sampled_slots.specs.Seats.{AreBetween, sensors_of}
use Rattle.hk_board.specs.Progress.{IsAt, EndsEarly, Ends}

-- How far the loop over the slots has come.
pub record HasCome {S : Type 0} (g : Ghosts S) (t : TailoringParts) (s : Script) (was : List S) (start : Seen) (number : ℕ) (core : Core) (rings : List Ring) (samplers : List (Sampler S)) (next shown : ℕ) (link : Link) (now : Seen) : Type 0 where
  pub slots : List (List Moment)
  pub is_number : number ≡ length slots
  pub below : number ≤ s.slots
  pub at : IsAt t s start slots core next shown link now
  pub between : AreBetween g t was slots rings samplers
  pub within : next ≤ length s.sendings
  pub tailoring : core.tailoring ≡ t

-- It begins with a new core.
pub begins : {S : Type 0} (g : Ghosts S) (t : TailoringParts) (s : Script) (samplers : List (Sampler S)) (start now : Seen) (core : Core) (rings : List Ring) (link : Link) → core ≡ new_core t
    → IsBeforeSlot t s [] [] 0 0 link → HasPut (record_of t s []) start now → AreBetween g t (sensors_of samplers) [] rings samplers
    → HasCome g t s (sensors_of samplers) start 0 core rings samplers 0 0 link now
begins g t s samplers start now core rings link fresh before put between =
    let none : core.moments ≡ [] = ap (λ (c : Core). c.moments) fresh in
    record {
      slots = [];
      is_number = refl;
      below = omega arith;
      at = record {
        ran = fresh;
        before = subst (λ xs. IsBeforeSlot t s [] (reverse xs) 0 0 link) (sym none) before;
        all_shown = sym (ap length none);
        put = put;
      };
      between = between;
      within = omega arith;
      tailoring = ap (λ (c : Core). c.tailoring) fresh;
    }

-- It goes on by a slot.
pub goes_on : {S : Type 0} (g : Ghosts S) (t : TailoringParts) (s : Script) (was : List S) (start : Seen) (number : ℕ) (slots : List (List Moment)) (moments : List Moment) (core : Core) (rings : List Ring) (samplers : List (Sampler S)) (next shown : ℕ) (link : Link) (now : Seen)
    → number ≡ length slots → number < s.slots → IsAt t s start (moments ∷ slots) core next shown link now → AreBetween g t was (moments ∷ slots) rings samplers → next ≤ length s.sendings → core.tailoring ≡ t
    → HasCome g t s was start (number + 1) core rings samplers next shown link now
goes_on g t s was start number slots moments core rings samplers next shown link now is below at between within tailoring = record {
  slots = moments ∷ slots;
  is_number = omega (arith, is);
  below = omega (arith, below);
  at = at;
  between = between;
  within = within;
  tailoring = tailoring;
}

-- what is so at the core's tailoring is so at the run's
pub at_tailoring : (t u : TailoringParts) (s : Script) (start : Seen) (slots : List (List Moment)) (core : Core) (next shown : ℕ) (link : Link) (now : Seen) → u ≡ t
    → IsAt u s start slots core next shown link now → IsAt t s start slots core next shown link now
at_tailoring t u s start slots core next shown link now same at = subst (λ x. IsAt x s start slots core next shown link now) same at

pub between_tailoring : {S : Type 0} (g : Ghosts S) (t u : TailoringParts) (was : List S) (slots : List (List Moment)) (rings : List Ring) (samplers : List (Sampler S)) → u ≡ t
    → AreBetween g u was slots rings samplers → AreBetween g t was slots rings samplers
between_tailoring g t u was slots rings samplers same between = subst (λ x. AreBetween g x was slots rings samplers) same between

-- All slots were run.
pub come_to_end : {S : Type 0} (g : Ghosts S) (t : TailoringParts) (s : Script) (was : List S) (start : Seen) (number : ℕ) (core : Core) (rings : List Ring) (samplers : List (Sampler S)) (next shown : ℕ) (link : Link) (now : Seen)
    → HasCome g t s was start number core rings samplers next shown link now → s.slots ≤ number → Ends g t s was (sensors_of samplers) (Ok tt) start now
come_to_end g t s was start number core rings samplers next shown link now come all = (
  come.slots,
  core,
  record { run = record { count = omega (arith, all, come.below, come.is_number); ran = come.at.ran }; sampled = come.between.sampled },
  come.between.counted,
  come.at.put,
)

-- what a slice of a whole list became is the whole of it
pub whole_slice : {X : Type 0} (xs ys : List X) (n : ℕ) → length xs ≡ n → take n (xs ++ ys) ≡ xs
whole_slice xs ys n is = subst (λ k. take k (xs ++ ys) ≡ xs) is (front xs)
  where
    front : (zs : List _) → take (length zs) (zs ++ ys) ≡ zs
    front [] = refl
    front (z ∷ zs) = ap (λ ws. z ∷ ws) (front zs)
