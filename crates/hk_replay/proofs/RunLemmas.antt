-- A run of each kind of command is one of the program.
use Rattle.std.proofs.Common.{◌≡◌, ℕ, List, Option, Some, None, refl, sym, subst}
use Rattle.std.specs.Prelude.{IfSome, IsSome}
use Rattle.hk_base.specs.TailoringParts.{TailoringParts}
use Rattle.hk_replay.specs.Outcomes.{Outcome}
use Rattle.hk_replay.specs.Asked.{asked_job}
use Rattle.hk_replay.specs.Replay.{WritesNothing, WritesNothingEarly}
use Rattle.hk_replay.specs.Inputs.{NamesRecord}
use Rattle.hk_replay.specs.Runs.{IsProgramRun}
use Rattle.hk_replay.specs.declared.words.Job.{Job}
use Rattle.hk_replay.specs.declared.words.Job.TheVariants.{Encode, Check, Trim, Generate}
use Rattle.hk_replay.specs.declared.status.ReplayStatus.{ReplayStatus}
use Rattle.hk_replay.specs.declared.status.ReplayStatus.TheVariants.{Usage}

-- a job names no record that is taken entry by entry
pub no_record : (files : Option (List (List ℕ × List ℕ))) (job : Job) (t : TailoringParts) (octets : List ℕ) → NamesRecord files (Some (asked_job job)) t octets → ⊥
no_record files (Encode tailoring name) t octets names = names
no_record files (Check tailoring) t octets names = names
no_record files (Trim name) t octets names = names
no_record files (Generate seed rounds) t octets names = names

-- and writes nothing before its text is whole
pub nothing_early : (job : Job) (status : ReplayStatus) (before after : Option (List ℕ)) → WritesNothingEarly status before after → WritesNothing (Some (asked_job job)) status before after
nothing_early (Encode tailoring name) status before after nothing = nothing
nothing_early (Check tailoring) status before after nothing = nothing
nothing_early (Trim name) status before after nothing = nothing
nothing_early (Generate seed rounds) status before after nothing = nothing

-- what holds of a told outcome
pub of_told : (told : Option Outcome) (outcome : Outcome) (P : Outcome → Type 0) → told ≡ Some outcome → IfSome told P → P outcome
of_told told outcome P is holds = subst (λ (o : Option Outcome). IfSome o P) is holds

pub is_told : (told : Option Outcome) (outcome : Outcome) → told ≡ Some outcome → IsSome told
is_told told outcome is = subst (λ (o : Option Outcome). IsSome o) (sym is) refl

-- words that are no command
pub unasked : (files : Option (List (List ℕ × List ℕ))) (sound : Type 0) (faults : ℕ) (rest taken : Option (List ℕ)) (room : Option ℕ) (unwritten : ℕ)
    → IsProgramRun None Usage files sound faults faults rest rest taken taken room unwritten unwritten
unasked files sound faults rest taken room unwritten = record {
  usage = (λ is. refl, λ is. refl);
  read_fault = λ is. absurd (cc is);
  write_fault = λ is. absurd (cc is);
  plain = tt;
  end = λ is. absurd (cc is);
  bounds = refl;
  absent = λ gone. absurd gone;
  nothing = refl;
  output = λ outcome tells. absurd tells;
  given = λ t octets names is. absurd names;
  sound = λ safe outcome tells. absurd tells;
  enough = λ outcome tells. absurd tells;
}
