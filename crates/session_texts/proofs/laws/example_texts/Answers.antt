use Rattle.session_texts.proofs.ExampleText.{commanded_seen, commanded_written}
use Rattle.session_texts.proofs.laws.example_texts.Goals as goal

pub returns-clause-seen : goal.returns-clause-seen
returns-clause-seen c = commanded_seen

pub returns-clause-text : goal.returns-clause-text
returns-clause-text c = commanded_written
