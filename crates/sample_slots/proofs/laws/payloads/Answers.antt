use Rattle.sample_slots.proofs.Sampled.{is-sampled}
use Rattle.sample_slots.proofs.PayloadLaws.{payload-read}
use Rattle.sample_slots.proofs.SpellingLaws.{read-payload}
use Rattle.sample_slots.proofs.CountLemmas.{read-count}
use Rattle.hk_base.specs.Payload.{groups}
use Rattle.sample_slots.proofs.WritingLemmas.{fit-anywhere}
use Rattle.sample_slots.proofs.laws.payloads.Goals as goal

pub returns-clause-sampled : goal.returns-clause-sampled
returns-clause-sampled c = is-sampled

pub returns-clause-read : goal.returns-clause-read
returns-clause-read c = payload-read

pub returns-clause-count : goal.returns-clause-count
returns-clause-count c = λ t d values octets last. read-count t d octets values last

pub returns-clause-whole : goal.returns-clause-whole
returns-clause-whole c = read-payload

pub returns-clause-anywhere : goal.returns-clause-anywhere
returns-clause-anywhere c = λ t d values last other. fit-anywhere t last other (groups d) values
