use Rattle.serde_json.specs.View.{view}
use Rattle.wire_json.proofs.Requests.{request-read, request-no_json}
use Rattle.wire_json.proofs.reading.read_line.Goals as goal

pub returns-in-Ok-clause-request : goal.returns-in-Ok-clause-request
returns-in-Ok-clause-request c = rw (request-read c.args.line.now (view c.in-Ok.value) c.in-Ok.ensures.ok.0 c.in-Ok.ensures.ok.1) c.request_in.ensures.request

pub returns-in_default-clause-request : goal.returns-in_default-clause-request
returns-in_default-clause-request c = request-no_json c.args.line.now (c.in-Err.ensures.err (λ memory. c.in_default.not-Memory (c.classify.ensures.memory.1 memory)))
