use Rattle.st03_grammar.proofs.Fitting.{request_fits}
use Rattle.st03_grammar.proofs.writing.encode_request.Goals as goal

pub write_request-written-requires : goal.write_request-written-requires
write_request-written-requires c = request_fits c.args.tailoring.now c.args.request.now c.requires
