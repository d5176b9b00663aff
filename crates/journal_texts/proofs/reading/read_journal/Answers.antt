use Rattle.std.proofs.Common.{◌≡◌}
use Rattle.journal_texts.specs.JournalTexts.{journal_text}
use Rattle.journal_texts.specs.Moments.{IsMoment}
use Rattle.journal_texts.specs.Reading.{moment_in_text}
use Rattle.journal_texts.proofs.MomentsAgain.{ok_from_gives, refused_from_gives}
use Rattle.journal_texts.proofs.reading.read_journal.Goals as goal

pub returns-clause-moment : goal.returns-clause-moment
returns-clause-moment c =
    let text = c.args.text.now in
    ok_from_gives c.moment_in_text.result (moment_in_text text) IsMoment (λ m e. (c.lines_are_read_back.ensures.only text m e).0) c.moment_in_text.ensures

pub returns-clause-text : goal.returns-clause-text
returns-clause-text c =
    let text = c.args.text.now in
    ok_from_gives c.moment_in_text.result (moment_in_text text) (λ m. journal_text m ≡ text) (λ m e. (c.lines_are_read_back.ensures.only text m e).1) c.moment_in_text.ensures

pub returns-clause-bad_line : goal.returns-clause-bad_line
returns-clause-bad_line c =
    λ refused m is.
    refused_from_gives c.moment_in_text.result c.args.text.now m c.moment_in_text.ensures refused (c.lines_are_read_back.ensures.again m is)
