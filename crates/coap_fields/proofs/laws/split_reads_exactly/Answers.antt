use Rattle.coap_fields.proofs.SplitLemmas.{message_in-takes, message_in-again}
use Rattle.coap_fields.proofs.laws.split_reads_exactly.Goals as goal

pub returns : goal.returns
returns c = λ bytes split a. (message_in-takes bytes split a, message_in-again bytes split)
