use Rattle.hpb_rules.specs.declared.limits.TheConstants.{MOST_READ_BYTES}
use Rattle.hpb_server.proofs.Scripts.{moved_is_text}
use Rattle.hpb_server.proofs.script.serve_auction.Goals as goal

pub returns-clause-text : goal.returns-clause-text
returns-clause-text g c = λ history shows. moved_is_text MOST_READ_BYTES _ _ c.args.desk.now c.serve.new.desk history c.serve.result shows c.serve.ensures.served
