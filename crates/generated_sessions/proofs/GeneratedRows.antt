-- The numbers of small generated sessions, by computation.
use Rattle.std.proofs.Common.{◌≡◌, refl, [], ◌∷◌, true, false}
use Rattle.pus_messages.specs.Messages.{protocol}
use Rattle.session_record.specs.Records.{header_of}
use Rattle.generated_sessions.specs.Generated.{made_tailoring, made_request, made_report, made_payload, generated}
use Rattle.session_texts.specs.Tallies.{tally}

request : made_request 0 ≡ 24 ∷ 100 ∷ 192 ∷ 0 ∷ 0 ∷ 8 ∷ 47 ∷ 3 ∷ 31 ∷ 0 ∷ 1 ∷ 1 ∷ 1 ∷ 0 ∷ 2 ∷ []
unfolding made_tailoring made_request
request = refl

one_round : tally (protocol made_tailoring) (header_of true false) (generated 1 1)
    ≡ record { sent = 1; received = 9; repeats = 0; decided = 6; undecidable = 0; other = 0; values = 44 }
unfolding made_tailoring made_request made_report made_payload
one_round = refl
